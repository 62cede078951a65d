-- `asks::ask_listed::ask_unlinked` meets its contract: nextoffset decides between two paths, and each has
-- one more rule.
use Rattle.std.proofs.Common.{refl, sym, ◌∙◌, arith}
use Rattle.rules.specs.Ask.{ask_answer, after_ask}
use Rattle.rules.specs.Blocks.{put_link}
use Rattle.rules.specs.Outcome.{heap_of}
use Rattle.books.specs.Starts.{Start}
use Rattle.asks.specs.AskPath.{damaged, begins, not_ready, is_ready, stuck, is_last}
use Rattle.asks.specs.HandOut.{with_link, expose_writes, last_writes, handed}
use Rattle.asks.proofs.ask_listed.ask_unlinked.Goals.{Else-not-spare}
use Rattle.asks.proofs.ask_listed.ask_unlinked.Goals as goal

pub returns-then-not-spare : goal.returns-then-not-spare
returns-then-not-spare c =
    damaged _ _ _ _ _ _
    (not_ready _ _ _ _ _ _ _ _ c.args.class.sized c.requires.1.loaded c.index-f.result c.index-f.ensures.0
    c.index-m.result c.index-m.ensures.0 c.if-pool.true (sym c.spare.ensures ∙ c.if-not-spare.true))

-- the block at nextoffset, once it has passed
next : (c : Else-not-spare) → Start c.args.class.size c.index-m.result
next c =
    let a = c.args in
    begins (heap_of a.memory.now a.books.now a.map.now) a.p _ _ a.class.size_low (sym c.spare.ensures ∙ c.if-not-spare.false)

pub expose-requires : goal.expose-requires
expose-requires c =
    (c.requires.1.count, omega (arith, (next (goal.at.expose-requires c).Else-not-spare).ends, c.index-m.ensures.0))

pub put_link-requires : goal.put_link-requires
put_link-requires c =
    omega (arith, (next (goal.at.put_link-requires c).Else-not-spare).ends, c.requires.1.there, c.requires.0.memory)

pub returns-then-pool : goal.returns-then-pool
unfolding ask_answer after_ask
returns-then-pool c =
    let a = c.args in
    let h = heap_of a.memory.now a.books.now a.map.now in
    rw (
      is_ready _ a.shape.arenas a.shape.pools h _ a.p _ _ a.class.sized c.requires.1.loaded c.index-f.result c.index-f.ensures.0
          c.index-m.result c.index-m.ensures.0 c.if-pool.true (sym c.spare.ensures ∙ c.if-not-spare.false),
      ← a.class.sized,
    )
    (handed _ _ _ (heap_of c.put_link.new.memory c.store_pool.new.books a.map.now) _ _ _
    (with_link (put_link _ 0) a.memory.now _ _ _ _ c.put_link.ensures
    ((expose_writes a.shape.arenas a.p a.pool c.expose.result a.books.now _ c.requires.1.loaded c.store_pool.ensures
    c.index-m.result a.class.size c.index-m.ensures.0 c.expose.ensures).same a.memory.now a.map.now))
    c.hand_out.ensures.0
    c.hand_out.ensures.1)

pub returns-then-not-may_leave : goal.returns-then-not-may_leave
returns-then-not-may_leave c =
    damaged _ _ _ _ _ _
    (stuck _ _ _ _ _ _ _ _ c.args.class.sized c.requires.1.loaded c.index-f.result c.index-f.ensures.0
    c.args.pool.nextoffset refl c.if-pool.false (sym c.may_leave.ensures ∙ c.if-not-may_leave.true))

pub returns : goal.returns
unfolding ask_answer after_ask
returns c =
    let a = c.args in
    let h = heap_of a.memory.now a.books.now a.map.now in
    rw (
      is_last _ a.shape.arenas a.shape.pools h _ a.p _ _ a.class.sized c.requires.1.loaded c.index-f.result c.index-f.ensures.0
          a.pool.nextoffset refl c.if-pool.false (sym c.may_leave.ensures ∙ c.if-not-may_leave.false),
      ← a.class.sized,
    )
    (handed _ _ _ (heap_of a.memory.now c.leave_by.new.books a.map.now) _ _ _
    ((last_writes a.shape.arenas a.p a.pool c.take.result a.books.now _ c.requires.1.loaded c.store_pool-2.ensures
    a.class.number _ c.take.ensures (rw (← c.pool_links.ensures) c.leave_by.ensures)).same a.memory.now a.map.now)
    c.hand_out-2.ensures.0
    c.hand_out-2.ensures.1)
