-- `loops::copy_within` stores the bytes as they stood: at turn i those from byte i on are left,
-- and none that is still to be read was written.
use mathlib.Core.Path.{ap}
use Prim.Native.Nat.{◌+◌}
use native.Mathlib.Omega.{arith}
use lib.ListN.{set}
use Rattle.rules.specs.View.{part}
use Rattle.loops.specs.Left.{listed, begin, turn, done}
use Rattle.loops.specs.Copy.{length_part, still}
use Rattle.loops.proofs.copy_within.Goals as goal

pub loop-i-init : goal.loop-i-init
loop-i-init c =
    let a = c.args in
    (begin (listed (part a.from a.n a.memory.now)) _ a.to _ (omega arith), omega arith)

pub loop-i-preserved : goal.loop-i-preserved
loop-i-preserved c =
    let p = c.loop-i in
    let a = c.args in
    let m = a.memory.now in
    let e = length_part m a.from a.n (omega arith) in
    let f = still m a.from a.n (omega arith) a.to p.i c.requires.2 (omega arith) p.invariant.0 in (
      turn (listed (part a.from a.n m)) p.i (omega arith) p.invariant.0
          (record { same = ap (set p.memory (a.to + p.i)) f; place = omega arith }),
      omega arith,
    )

pub shape_of-memory : goal.shape_of-memory
shape_of-memory c = c.loop-i.invariant.0.long

pub returns : goal.returns
returns c =
    let p = c.loop-i in
    let a = c.args in
    let e = length_part a.memory.now a.from a.n (omega arith) in
    (done (listed (part a.from a.n a.memory.now)) p.i (omega arith) p.invariant.0).same
