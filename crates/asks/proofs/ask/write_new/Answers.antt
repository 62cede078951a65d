-- `asks::ask::write_new` writes, in each arm, the arm's chain of changes in its order: what the path knows of its
-- numbers meets each callee, and the callees' changes are chained. No path of a new pool is one of a listed pool.
use mathlib.Core.Path.{◌≡◌, refl, subst}
use Prim.Native.Nat.{ℕ}
use native.Mathlib.Omega.{arith}
use Rattle.rules.specs.declared.AskPlan.{AskPlan}
use Rattle.rules.specs.declared.Source.{Source}
use Rattle.rules.specs.declared.AskPlan.TheVariants.{NoRoom, Damaged, Follow, Ready, Last, Again, Anew}
use Rattle.rules.specs.declared.Source.TheVariants.{Freed}
use Rattle.rules.specs.Books.{Heap, alignment_of}
use Rattle.rules.specs.Outcome.{heap_of, outcome, answer_of}
use Rattle.rules.specs.Blocks.{put_link}
use Rattle.rules.specs.Ask.{take_from, ask_answer, after_ask, asked}
use Rattle.plans.specs.Fits.{FitsNew}
use Rattle.asks.specs.HandOut.{with_link, chain, taken_spends, handed}
use Rattle.asks.proofs.ask.write_new.Goals.{Start}
use Rattle.asks.proofs.ask.write_new.Goals as goal

-- the variants that have no arm of their own: one is the damage, and a new pool's path is none of the others
refused_path : (al A P s c : ℕ) (h : Heap) (q : AskPlan) → (q ≡ NoRoom → ⊥)
    → ((a p f l : ℕ) → q ≡ Again a p f l → ⊥) → ((source : Source) (p : ℕ) → q ≡ Anew source p → ⊥)
    → FitsNew A P s c h.books h.map q → outcome (answer_of 6 0) h ≡ asked al A P c h q
unfolding ask_answer after_ask
refused_path al A P s c h NoRoom room again anew fits = absurd (room refl)
refused_path al A P s c h Damaged room again anew fits = refl
refused_path al A P s c h (Follow _ _ _) room again anew fits = elim fits [ ]
refused_path al A P s c h (Ready _ _ _) room again anew fits = elim fits [ ]
refused_path al A P s c h (Last _ _) room again anew fits = elim fits [ ]
refused_path al A P s c h (Again a p f l) room again anew fits = absurd (again a p f l refl)
refused_path al A P s c h (Anew source p) room again anew fits = absurd (anew source p refl)

-- what the path knows of its numbers, by the plan's form; `rw .. at` would rewrite the plan all over the start
known : (c : Start) (q : AskPlan) → c.args.plan ≡ q
    → let a = c.args in
    FitsNew a.shape.arenas a.shape.pools a.class.size a.class.number a.books.now a.map.now q
known c q e =
    let a = c.args in
    subst (λ (x : AskPlan). FitsNew a.shape.arenas a.shape.pools a.class.size a.class.number a.books.now a.map.now x) e c.requires.1

pub returns-in-NoRoom : goal.returns-in-NoRoom
unfolding ask_answer after_ask
returns-in-NoRoom c = rw c.in-NoRoom.is

pub spend-requires : goal.spend-requires
unfolding take_from
spend-requires c =
    let a = c.args in
    let fits = known (goal.at.spend-requires c).Start _ c.in-Again.is in
    let al = alignment_of a.class.edition in
    let spends = taken_spends al _ _ a.class.number c.in-Again.p a.books.now _ (Freed c.in-Again.a) c.requires.0.pools_low
    (omega arith) fits.0 c.take_freed.ensures in
    (c.requires.0.arenas_high, omega arith, spends)

pub returns-in-Again : goal.returns-in-Again
unfolding ask_answer after_ask take_from
returns-in-Again c =
    let a = c.args in
    let spent = c.spend.ensures (alignment_of a.class.edition) a.shape.pools a.class.number in
    let listed = c.list_again in
    rw (c.in-Again.is, ← a.class.sized)
    (handed _ _ _ (heap_of a.memory.now listed.new.books a.map.now) _ _ _
    ((chain (chain c.take_freed.ensures spent) (listed.ensures (alignment_of a.class.edition) a.shape.pools)).same a.memory.now a.map.now)
    c.hand_out.ensures.0
    c.hand_out.ensures.1)

pub spend-requires-in-Anew : goal.spend-requires-in-Anew
spend-requires-in-Anew c =
    let a = c.args in
    let fits = known (goal.at.spend-requires-in-Anew c).Start _ c.in-Anew.is in
    let taken = c.take_from-a.ensures (alignment_of a.class.edition) a.class.number in
    let spends = taken_spends _ _ _ _ _ a.books.now _ _ c.requires.0.pools_low (omega arith) fits.0 taken.1 in
    (c.requires.0.arenas_high, omega arith, rw taken.0 spends)

pub returns-in-Anew : goal.returns-in-Anew
unfolding ask_answer after_ask
returns-in-Anew c =
    let a = c.args in
    let taken = c.take_from-a.ensures (alignment_of a.class.edition) a.class.number in
    let spent = rw taken.0 at (c.spend-in-Anew.ensures (alignment_of a.class.edition) a.shape.pools a.class.number) in
    let listed = c.list_anew in
    let linked = c.put_link in
    rw (c.in-Anew.is, ← a.class.sized)
    (handed _ _ _ (heap_of linked.new.memory listed.new.books a.map.now) _ _ _
    (with_link (put_link _ 0) a.memory.now _ _ _ _ linked.ensures
    ((chain (chain taken.1 spent) (listed.ensures (alignment_of a.class.edition) a.shape.pools)).same a.memory.now a.map.now))
    c.hand_out-in-Anew.ensures.0
    c.hand_out-in-Anew.ensures.1)

pub returns-in_default : goal.returns-in_default
returns-in_default c =
    refused_path _ _ _ _ _ _ _ c.in_default.not-NoRoom c.in_default.not-Again c.in_default.not-Anew c.requires.1
