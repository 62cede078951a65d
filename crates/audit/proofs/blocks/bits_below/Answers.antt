-- `audit::blocks::bits_below` shifts the blocks below v out of their word, and looks at the later words: a word that is
-- not 0 then has a bit at v or past it.
use Rattle.std.proofs.Common.{arith, ap, ◌∙◌, ◌+◌, ◌*◌, ◌/◌, ◌%◌, ◌^◌, ◌&&◌, Bool, eqb, rules, tests}
use Rattle.rules.specs.Books.{at}
use Rattle.audit.specs.Bits.{ends_is}
use Rattle.audit.proofs.Ranges.{all_from}
use Rattle.audit.proofs.blocks.bits_below.Goals as goal

pub returns : goal.returns
returns c =
    let a = c.args in
    let m = a.map.now in
    let later = all_from (λ i. eqb (at m (8 * a.n + i)) 0) (a.v / 64 + 1) (omega arith) c.all.ensures.ran
    (λ x b q k. search (rules, tests)) in
    ap (λ (t : Bool). eqb (at m (8 * a.n + a.v / 64) / 2 ^ (a.v % 64)) 0 && t) later ∙ ends_is m a.n a.v c.requires.1 (λ i. omega (arith, c.type_inv.map i))
