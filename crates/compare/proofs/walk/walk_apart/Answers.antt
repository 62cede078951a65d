-- `compare::walk::walk_apart` notes the next live block of either heap, and then looks for the one after it.
use Rattle.std.proofs.Common.{◌≡◌, ◌+◌, ◌*◌, ◌-◌, ◌^◌, ◌++◌, ℕ, Option, unwrap_or, sym, ap, arith}
use Rattle.rules.specs.Say.{listing}
use Rattle.compare.specs.Kinds.{kind_number, entry_of, apart_at}
use Rattle.compare.specs.Next.{NextLive, earlier, none_after, next_after, not_before, Earlier, earlier_is, later}
use Rattle.compare.specs.Noted.{unnoted, note, finish, small}
use Rattle.compare.specs.Pools.{inside}
use Rattle.compare.proofs.walk.walk_apart.Goals.{After-kind_apart-kind, After-next_past-o2, In-Some, Start}
use Rattle.compare.proofs.walk.walk_apart.Goals as goal

-- the kind at each offset
abbrev kinds : Start → ℕ → ℕ
kinds c = let a = c.args in apart_at a.heaps.now.first.map.now a.heaps.now.second.map.now a.size a.size2 a.pool

pub loop-next-init : goal.loop-next-init
loop-next-init c =
    let a = c.args in
    let z : 4096 * a.pool + 0 ≡ 4096 * a.pool = omega arith in (
      0,
      omega arith,
      c.next_live-o.ensures,
      c.next_live-o2.ensures,
      rw z (unnoted a.list.now a.at (listing (kinds (goal.at.loop-next-init c).Start) (4096 * a.pool) 4096)),
    )

pub returns : goal.returns
returns c =
    let a = c.args in
    let v = c.loop-next.invariant in
    finish v.4 (none_after a.size a.size2 a.heaps.now.first.map.now a.heaps.now.second.map.now a.pool v.0
    c.loop-next.o c.loop-next.o2 v.2 v.3 (sym c.in_default.ensures))

-- the lesser place is that of a live block
found : (c : In-Some)
    → let a = c.args in
    Earlier a.size a.size2 a.heaps.now.first.map.now a.heaps.now.second.map.now a.pool c.loop-next.invariant.0
    c.loop-next.o c.loop-next.o2 c.in-Some.next
found c =
    let a = c.args in
    let v = c.loop-next.invariant in
    earlier_is a.size a.size2 a.heaps.now.first.map.now a.heaps.now.second.map.now a.pool v.0
    c.loop-next.o c.loop-next.o2 c.in-Some.next v.2 v.3 c.in-Some.ensures

-- which comes first of what is left
comes : (c : After-kind_apart-kind)
    → let p = c.args.pool in
    let x = c.loop-next.invariant.0 in
    let n = c.in-Some.next in
    let kind = kinds (goal.at.After-kind_apart-kind c).Start in
    listing kind (4096 * p + x) (4096 - x)
    ≡ entry_of (4096 * p + n) (kind_number c.kind_apart-kind.result) ++ listing kind (4096 * p + (n + 1)) (4096 - (n + 1))
comes c =
    let a = c.args in
    let v = c.loop-next.invariant in
    rw (c.kind_apart-kind.ensures, c.eq.ensures, c.eq-in-Some.ensures)
    (next_after a.size a.size2 a.heaps.now.first.map.now a.heaps.now.second.map.now a.pool v.0
    c.loop-next.o c.loop-next.o2 c.in-Some.next v.2 v.3 (found (goal.at.After-kind_apart-kind c).In-Some))

pub note-place-requires : goal.note-place-requires
note-place-requires c =
    let here = (goal.at.note-place-requires c).After-kind_apart-kind in
    let n = c.in-Some.next in
    let p = c.args.pool in (
      omega (arith, (found (goal.at.note-place-requires c).In-Some).inside, (inside c.args.heaps.now p c.requires.0).2),
      small c.loop-next.invariant.4 (entry_of (4096 * p + n) (kind_number c.kind_apart-kind.result))
          (listing (kinds (goal.at.note-place-requires c).Start) (4096 * p + (n + 1)) (4096 - (n + 1))) (2 ^ 32) c.requires.5 (comes here),
    )

pub next_past-o-requires : goal.next_past-o-requires
next_past-o-requires c =
    let i = inside c.args.heaps.now c.args.pool c.requires.0 in
    (omega arith, omega arith, (found (goal.at.next_past-o-requires c).In-Some).inside, i.0)

pub next_past-o2-requires : goal.next_past-o2-requires
next_past-o2-requires c =
    let i = inside c.args.heaps.now c.args.pool c.requires.0 in
    (omega arith, omega arith, (found (goal.at.next_past-o2-requires c).In-Some).inside, i.1)

-- what each heap has next, past that place
past : (c : After-next_past-o2)
    → let a = c.args in
    let n = c.in-Some.next + 1 in
    NextLive a.size a.heaps.now.first.map.now a.pool n c.next_past-o.result × NextLive a.size2 a.heaps.now.second.map.now a.pool n c.next_past-o2.result
past c =
    let a = c.args in
    let v = c.loop-next.invariant in
    let E = found (goal.at.After-next_past-o2 c).In-Some in (
      c.next_past-o.ensures (later a.size a.heaps.now.first.map.now a.pool v.0 c.in-Some.next c.loop-next.o E.after E.first v.2),
      c.next_past-o2.ensures (later a.size2 a.heaps.now.second.map.now a.pool v.0 c.in-Some.next c.loop-next.o2 E.after E.second v.3),
    )

pub loop-next-preserved : goal.loop-next-preserved
loop-next-preserved c =
    let v = c.loop-next.invariant in
    let t = past (goal.at.loop-next-preserved c).After-next_past-o2 in
    let u = (found (goal.at.loop-next-preserved c).In-Some).inside in (
      c.in-Some.next + 1,
      omega (arith, u),
      t.0,
      t.1,
      note v.4 (comes (goal.at.loop-next-preserved c).After-kind_apart-kind) c.note-place.auto.list c.note-place.ensures.noted,
    )

pub loop-next-smaller : goal.loop-next-smaller
loop-next-smaller c =
    let a = c.args in
    let n = c.in-Some.next in
    let t = past (goal.at.loop-next-smaller c).After-next_past-o2 in
    let u = (found (goal.at.loop-next-smaller c).In-Some).inside in
    let l = not_before a.size a.size2 a.heaps.now.first.map.now a.heaps.now.second.map.now a.pool (n + 1)
    c.next_past-o.result c.next_past-o2.result (omega (arith, u)) t.0 t.1 in
    let e : unwrap_or (earlier c.loop-next.o c.loop-next.o2) 4096 ≡ n = sym (ap (λ (o : Option ℕ). unwrap_or o 4096) c.in-Some.ensures) in
    omega (arith, l, u, e)
