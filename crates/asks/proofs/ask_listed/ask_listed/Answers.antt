-- `asks::ask_listed::ask_listed` meets its contract: each of its tests is the next rule of the path, and what it
-- stores at its end is the path's.
use Rattle.std.proofs.Common.{◌≡◌, true, refl, sym, ap, ◌∙◌, arith}
use Rattle.rules.specs.Ask.{asked, ask_answer, after_ask}
use Rattle.rules.specs.Outcome.{heap_of}
use Rattle.books.specs.Records.{may_serve}
use Rattle.asks.specs.AskPath.{Front, damaged, not_serving, front, not_spare, unlinked, linked_wrong, follows}
use Rattle.asks.specs.HandOut.{take_writes, handed}
use Rattle.asks.proofs.ask_listed.ask_listed.Goals.{Else-not-may_serve, Else-not-spare}
use Rattle.asks.proofs.ask_listed.ask_listed.Goals as goal

pub returns-then-not-may_serve : goal.returns-then-not-may_serve
returns-then-not-may_serve c =
    damaged _ _ _ _ _ _
    (not_serving _ _ _ _ _ _ _ _ c.args.class.sized c.load_pool-pool.ensures (sym c.may_serve.ensures ∙ c.if-not-may_serve.true))

-- the front pool's record has passed
serves : (c : Else-not-may_serve) → may_serve c.load_pool-pool.result c.args.class.number c.args.class.size ≡ true
serves c = (sym c.may_serve.ensures ∙ c.if-not-may_serve.false)

pub returns-then-not-spare : goal.returns-then-not-spare
returns-then-not-spare c =
    damaged _ _ _ _ _ _
    (not_spare _ _ _ _ _ _ _ _ c.args.class.sized c.load_pool-pool.ensures c.index-f.result c.index-f.ensures.0 _ refl
    (serves (goal.at.returns-then-not-spare c).Else-not-may_serve) (sym c.spare.ensures ∙ c.if-not-spare.true))

-- the front pool, once its record and its freeblock have passed
passed : (c : Else-not-spare)
    → let a = c.args in
    Front a.shape.arenas a.shape.pools a.class.size a.p c.load_pool-pool.result a.books.now
passed c =
    let h = heap_of c.args.memory.now c.args.books.now c.args.map.now in
    front _ _ _ h _ _ _ _ c.args.class.sized c.load_pool-pool.ensures c.index-f.result c.index-f.ensures.0
    c.args.class.size_low c.requires.1
    (serves (goal.at.Else-not-spare c).Else-not-may_serve) (sym c.spare.ensures ∙ c.if-not-spare.false)

pub link_at-requires : goal.link_at-requires
link_at-requires c =
    omega (arith, (passed c).start.ends, c.index-f.ensures.0, c.args.class.size_low, c.requires.1, c.requires.0.memory)

pub ask_unlinked-requires : goal.ask_unlinked-requires
ask_unlinked-requires c = (c.requires.0, passed (goal.at.ask_unlinked-requires c).Else-not-spare)

pub returns-then-l-eq0 : goal.returns-then-l-eq0
returns-then-l-eq0 c =
    c.ask_unlinked.ensures
    ∙ ap (asked _ _ _ _ _)
    (sym (unlinked _ _ _ _ _ _ _ _ c.args.class.sized c.load_pool-pool.ensures c.index-f.result c.index-f.ensures.0
    c.index-l.result (c.index-l.ensures.0 ∙ c.link_at.ensures)
    (serves (goal.at.returns-then-l-eq0 c).Else-not-may_serve) (sym c.spare.ensures ∙ c.if-not-spare.false) c.if-l-eq0.true))

pub returns-then-not-spare-2 : goal.returns-then-not-spare-2
returns-then-not-spare-2 c =
    damaged _ _ _ _ _ _
    (linked_wrong _ _ _ _ _ _ _ _ c.args.class.sized c.load_pool-pool.ensures c.index-f.result c.index-f.ensures.0
    c.index-l.result (c.index-l.ensures.0 ∙ c.link_at.ensures)
    (serves (goal.at.returns-then-not-spare-2 c).Else-not-may_serve) (sym c.spare.ensures ∙ c.if-not-spare.false) c.if-l-eq0.false
    (sym c.spare-2.ensures ∙ c.if-not-spare-2.true))

pub hand_out-requires : goal.hand_out-requires
hand_out-requires c = (
  rw c.index-f.ensures.0 (passed (goal.at.hand_out-requires c).Else-not-spare).start,
  omega (arith, c.requires.1, c.requires.0.all),
  omega (arith, c.requires.1, c.requires.0.map),
)

pub returns : goal.returns
unfolding ask_answer after_ask
returns c =
    let a = c.args in
    let h = heap_of a.memory.now a.books.now a.map.now in
    rw (
      follows _ a.shape.arenas a.shape.pools h _ a.p _ _ a.class.sized c.load_pool-pool.ensures c.index-f.result c.index-f.ensures.0
          c.index-l.result (c.index-l.ensures.0 ∙ c.link_at.ensures)
          (serves (goal.at.returns c).Else-not-may_serve) (sym c.spare.ensures ∙ c.if-not-spare.false)
          c.if-l-eq0.false (sym c.spare-2.ensures ∙ c.if-not-spare-2.false),
      ← a.class.sized,
    )
    (handed _ _ _ _ _ _ _
    ((take_writes a.shape.arenas a.p c.load_pool-pool.result c.take.result a.books.now _
    c.load_pool-pool.ensures c.store_pool.ensures c.index-l.result c.take.ensures
    ).same a.memory.now a.map.now)
    c.hand_out.ensures.0
    c.hand_out.ensures.1)
