-- `audit::blocks::Blocks::is_dead` asks for a start before it reads the bit, since only a start has a block number.
use Rattle.std.proofs.Common.{◌≡◌, sym, ap, ap₂, ◌∙◌, Bool, not, ◌&&◌, ℕ, ltb}
use Rattle.rules.specs.Books.{is_set}
use Rattle.rules.specs.Blocks.{block_no}
use Rattle.audit.specs.Turns.{no_start, a_start}
use Rattle.audit.proofs.blocks.Blocks.is_dead.Goals as goal

pub returns-then-not-is_start : goal.returns-then-not-is_start
returns-then-not-is_start c = sym (no_start _ _ _ _ (sym c.is_start.ensures ∙ c.if-not-is_start.true))

pub returns : goal.returns
returns c =
    let s = c.args.self.now in
    let k : c.block_no-k.result ≡ block_no s.size c.args.l = c.block_no-k.ensures.0 in
    ap₂ (λ (x : ℕ) (t : Bool). ltb x c.args.v && not t) k (c.is_set.ensures ∙ ap (is_set s.map.now s.pool) k)
    ∙ sym (a_start s.size (is_set s.map.now s.pool) c.args.v c.args.l (sym c.is_start.ensures ∙ c.if-not-is_start.false))
