-- `replay::main` lends a heap of the right shape: its format is done.
use mathlib.Core.Path.{refl}
use Prim.Native.Nat.{ℕ}
use lib.ListN.{replicate, length-replicate}
use Rattle.replay.specs.Turns.{format_done, formatted}
use Rattle.replay.proofs.main.Goals as goal

pub unwrap-requires : goal.unwrap-requires
unwrap-requires c =
    let x = c.format in
    format_done (replicate 65536 0) (replicate 208 0) (replicate 128 0) refl refl refl x.result x.new.books x.new.map x.ensures

pub replay_all-requires : goal.replay_all-requires
replay_all-requires c =
    let x = c.format in
    record {
      whole = formatted (replicate 65536 0) (replicate 208 0) (replicate 128 0) refl refl refl x.result x.new.books x.new.map x.ensures;
      in_long = length-replicate {A = ℕ} 65536 0;
      out_long = length-replicate {A = ℕ} 65536 0;
    }
