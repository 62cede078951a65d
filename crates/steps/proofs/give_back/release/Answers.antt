-- `steps::give_back::release` meets its contract: it leaves the usable list, zeroes the record and joins the unused
-- list, whose head the first two leave alone.
use Rattle.std.proofs.Common.{◌≡◌, ap, ap₂, ◌∙◌, sym, arith, ℕ, ◌+◌, ◌*◌, ◌-◌, ◌≤◌, List, ◌++◌, take, drop, length, append_assoc, length-take, length-drop}
use Rattle.std.proofs.lemmas.List.Edits.{sets, sets-eq}
use Rattle.std.specs.Prelude.{replicate}
use borrow.Rule.Slice.PartMut.{put_mid, Post-is}
use Rattle.rules.specs.Lists as L
use Rattle.rules.specs.Books.{unused_head}
use Rattle.steps.specs.Arenas.{zeroed, zeroed_keeps}
use Rattle.steps.proofs.give_back.release.Goals.{After-fill}
use Rattle.steps.proofs.give_back.release.Goals as goal

-- a part of a list that is replaced
part_is : (l vs : List ℕ) (i e : ℕ) → i ≤ e → length vs ≡ e - i → e ≤ length l → put_mid i (e - i) l vs ≡ sets l i vs
part_is l vs i e h k w =
    let at : i + length vs ≡ e = omega arith in
    ap (λ (r : List ℕ). take i l ++ (vs ++ r)) (Post-is i e l h ∙ ap (λ (n : ℕ). drop n l) (sym at))
    ∙ sym (append_assoc (take i l) vs (drop (i + length vs) l))
    ∙ sym (sets-eq vs l i (omega arith))

-- the books once the record is 0
zeroed_is : (c : After-fill)
    → let a = c.args in
    let i = 72 + 8 * a.a + 0 in
    put_mid i (i + 8 - i) c.leave.new.books c.fill.new.self ≡ zeroed a.a a.books.now
zeroed_is c =
    let a = c.args in
    let i = 72 + 8 * a.a + 0 in
    let long : i + 8 ≤ length c.leave.new.books = omega (arith, c.leave.auto.books) in
    let eight : length (take (i + 8 - i) (drop i c.leave.new.books)) ≡ 8 = simp (length-take, length-drop) (omega arith) in
    let filled : c.fill.new.self ≡ replicate 8 0 = c.fill.ensures.after (λ y e. e) ∙ ap (λ (n : ℕ). replicate n 0) eight in
    part_is c.leave.new.books c.fill.new.self i (i + 8) (omega arith) (omega (arith, c.fill.ensures.len, eight)) long
    ∙ ap₂ (λ (b vs : List ℕ). sets b i vs) c.leave.ensures filled

pub join-requires : goal.join-requires
join-requires c =
    let a = c.args in
    let e = zeroed_is (goal.at.join-requires c).After-fill in
    let k = zeroed_keeps a.a a.books.now in
    (omega arith, omega arith, omega (arith, ap length e), omega (arith, ap length e), rw (e, k.1) c.requires.2)

pub returns : goal.returns
returns c =
    c.join.ensures ∙ ap (L.join L.arena_links unused_head c.args.a) (zeroed_is (goal.at.returns c).After-fill)
