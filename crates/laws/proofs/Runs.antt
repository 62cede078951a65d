-- A run of the public functions of crates heap, batch, audit and compare, each call keeping its promise, is a history:
-- its buffers and numbers are those of the rules' run. So the theorems speak of the running code.
-- Assumes nothing.
use Rattle.std.specs.Prelude.{◌≡◌, refl, ◌≢◌, Bool, true, false, List, [], ◌∷◌, ◌++◌, ℕ, zero, suc, ◌+◌, ◌*◌, ◌≤◌, ℤ, length, drop, if◌then◌else◌}
use Rattle.std.proofs.Common.{sym, ap, ap₂, ◌∙◌, subst}
use Rattle.rules.specs.declared.Answer.{Answer}
use Rattle.rules.specs.declared.Request.{Request}
use Rattle.rules.specs.declared.Sized.{Sized}
use Rattle.rules.specs.declared.Rolled.{Rolled}
use Rattle.rules.specs.declared.Compared.{Compared}
use Rattle.rules.specs.declared.Verdict.{Verdict}
use Rattle.rules.specs.declared.Verdict.TheVariants.{
  Yes,
  Shape,
  Zeros,
  Closed,
  Open,
  Bits,
  Lists,
  Counts,
  Blocks,
  Order,
}
use Rattle.rules.specs.Books.{Heap, at, memory_length, arenas, pools, alignment}
use Rattle.rules.specs.Outcome.{Outcome, outcome, answer_of, refused}
use Rattle.rules.specs.Numbers.{
  RollOutcome,
  rolled_of,
  ◌before◌,
  format,
  ask,
  give_back,
  resize,
  view,
  view_size,
  stand_in,
  stand_in_at,
  write,
  roll_call,
}
use Rattle.rules.specs.Batch.{Served, BatchOutcome}
use Rattle.rules.specs.Promises.{
  ◌beside◌,
  FormatPromise,
  AskPromise,
  AskAllPromise,
  GiveBackPromise,
  ResizePromise,
  ViewPromise,
  ViewSizePromise,
  StandInPromise,
  StandInPlace,
  WritePromise,
  RollCallPromise,
  AuditPromise,
  ComparePromise,
}
use Rattle.rules.specs.Audit.{
  rule1,
  rule2,
  rule3,
  rule4,
  rule5,
  rule6,
  rule7,
  rule8,
  rule9,
  broken,
  audit_by,
  audit,
  number_of as ruleOf,
}
use Rattle.rules.specs.Compare.{kind_at, CompareOutcome, compare}
use Rattle.books.specs.Tests.{either}
use Rattle.books.specs.Verdicts.{verdict_of, of_number}
use Rattle.sequences.specs.Listing.{held_below}
use Rattle.laws.specs.Batched.{batch_refused}
use Rattle.laws.specs.Beside.{Told}
use Rattle.laws.specs.Compared.{compare_lists}
use Rattle.laws.specs.History.{
  Event,
  formats,
  asks,
  gives,
  resizes,
  views,
  sizes,
  stands_in,
  writes,
  rolls,
  audits,
  compares,
  pokes,
  State,
  Beginning,
  Begins,
  begun,
  released,
  number_of,
  after,
  run,
  numbers,
  NoSix,
}
use Rattle.laws.proofs.Theorems.{
  end,
  no_six,
  audit_yes,
  back_twice,
  view_shows,
  stand_in_shows,
  entries,
  entry_count,
  roll_with_room,
}
use Rattle.laws.proofs.Statements.{asks_of, numbers_in, more_run, batch_events}
use Rattle.laws.proofs.Points.{ends_told}

-- the call of event e, over the buffers of the state x, answered number k and left the buffers of g: that it kept its
-- promise, which has here the name that its contract uses. An audit answers a verdict, whose number `ruleOf` says, view
-- and the stand-in answer no number, and a holder writes its byte itself
abbrev pub Kept : State → Event → ℕ → Heap → Type 0
Kept x (formats A P e) k g = (r : Answer) × (r.number ≡ k) × FormatPromise x.heap g A P e r
Kept x (asks n) k g = (r : Answer) × (r.number ≡ k) × AskPromise x.heap g n r
Kept x (gives o) k g = (r : Answer) × (r.number ≡ k) × GiveBackPromise x.heap g o r
Kept x (resizes o n) k g = (r : Answer) × (r.number ≡ k) × ResizePromise x.heap g o n r
Kept x (views o) k g = (part : List ℕ) × (0 ≡ k) × ViewPromise x.heap g o part
Kept x (sizes o) k g = (r : Sized) × (r.number ≡ k) × ViewSizePromise x.heap g o r
Kept x (stands_in o phrase) k g = (part same : List ℕ) × (0 ≡ k) × StandInPromise x.heap g o phrase same part
Kept x (writes o text) k g = (r : Answer) × (r.number ≡ k) × WritePromise x.heap g o text r
Kept x (rolls words) k g = (r : Rolled) × (v : List ℕ) × (r.number ≡ k) × RollCallPromise x.heap g words v r
Kept x audits k g = (r : Verdict) × (ruleOf r ≡ k) × AuditPromise x.heap g r
Kept x (compares true other list lent) k g =
    (r : Compared) × (left : Heap) × (listed : List ℕ) × (changed : List ℤ) × (r.number ≡ k)
    × ComparePromise x.heap g other left list listed lent changed r
Kept x (compares false other list lent) k g =
    (r : Compared) × (left : Heap) × (listed : List ℕ) × (changed : List ℤ) × (r.number ≡ k)
    × ComparePromise other left x.heap g list listed lent changed r
Kept x (pokes o d v) k g = (0 ≡ k) × (g ≡ (after x (pokes o d v)).heap)

-- the state x, over the buffers of g
abbrev pub on_buffers : Heap → State → State
on_buffers g x = record { heap = g; ledger = x.ledger; told = x.told }

-- a run: the state that it begins in, the events, the numbers answered, and the buffers at the end; each call finds the
-- buffers that the one before it left. A batch that is done is the asks of its row as events, one by one, with the
-- numbers that the row has then; one that is refused is no event
pub data Ran : State → List Event → List ℕ → Heap → Type 0 where
  none : {x : State} → Ran x [] [] x.heap
  next : {x : State} {g end : Heap} {e : Event} {es : List Event} {k : ℕ} {ks : List ℕ}
      → Kept x e k g → Ran (on_buffers g (after x e)) es ks end → Ran x (e ∷ es) (k ∷ ks) end
  batch : {x : State} {g end : Heap} (row : List Request) {replies : List Request} {r : Answer}
      {es : List Event} {ks : List ℕ}
      → AskAllPromise x.heap g row replies r → r.number ≡ 0
      → Ran (on_buffers g (run x (asks_of row))) es ks end → Ran x (asks_of row ++ es) (numbers_in replies ++ ks) end
  no_batch : {x : State} {g end : Heap} (row : List Request) {replies : List Request} {r : Answer}
      {es : List Event} {ks : List ℕ}
      → AskAllPromise x.heap g row replies r → r.number ≢ 0
      → Ran (on_buffers g x) es ks end → Ran x es ks end

-- ---- one event
answered : (x : Outcome) (r : Answer) (g : Heap) (k : ℕ) → r.number ≡ k → outcome r g ≡ x
    → (k ≡ x.answer.number) × (x.heap ≡ g)
answered x r g k e f = (sym e ∙ ap (λ (o : Outcome). o.answer.number) f, sym (ap (λ (o : Outcome). o.heap) f))

kept_is : (x : State) (e : Event) (k : ℕ) (g : Heap) → Kept x e k g → (k ≡ number_of x e) × ((after x e).heap ≡ g)
unfolding number_of after
kept_is x (formats A P e) k g t = answered (format x.heap A P e) t.0 g k t.1 t.2
kept_is x (asks n) k g t = answered (ask x.heap n) t.0 g k t.1 t.2
kept_is x (gives o) k g t = answered (give_back x.heap o) t.0 g k t.1 t.2
kept_is x (resizes o n) k g t = answered (resize x.heap o n) t.0 g k t.1 t.2
kept_is x (views o) k g t = (sym t.1, sym (ap (λ (y : List ℕ × Heap). y.1) t.2))
kept_is x (sizes o) k g t = (sym t.1 ∙ ap (λ (y : Sized × Heap). y.0.number) t.2, sym (ap (λ (y : Sized × Heap). y.1) t.2))
kept_is x (stands_in o phrase) k g t = (sym t.2, sym (ap (λ (y : List ℕ × (List ℕ × Heap)). y.1.1) t.3))
kept_is x (writes o text) k g t = answered (write x.heap o text) t.0 g k t.1 t.2
kept_is x (rolls words) k g t =
    (sym t.2 ∙ ap (λ (y : RollOutcome × Heap). y.0.answer.number) t.3, sym (ap (λ (y : RollOutcome × Heap). y.1) t.3))
kept_is x audits k g t = (sym t.1 ∙ ap (λ (y : ℕ × Heap). y.0) t.2, sym (ap (λ (y : ℕ × Heap). y.1) t.2))
kept_is x (compares true other list lent) k g t = (
  sym t.4 ∙ ap (λ (y : CompareOutcome × (Heap × Heap)). y.0.answer.number) t.5,
  sym (ap (λ (y : CompareOutcome × (Heap × Heap)). y.1.0) t.5),
)
kept_is x (compares false other list lent) k g t = (
  sym t.4 ∙ ap (λ (y : CompareOutcome × (Heap × Heap)). y.0.answer.number) t.5,
  sym (ap (λ (y : CompareOutcome × (Heap × Heap)). y.1.1) t.5),
)
kept_is x (pokes o d v) k g t = (sym t.0, sym t.1)

-- ---- the whole run
pub ran_is : {x : State} {es : List Event} {ks : List ℕ} {end : Heap} → Ran x es ks end
    → (end ≡ (run x es).heap) × (ks ≡ numbers x es)
unfolding run numbers
ran_is none = (refl, refl)
ran_is {x} (next {g = g} {e = e} {es = es} {k = k} t rest) =
    let s = kept_is x e k g t in
    let same : on_buffers g (after x e) ≡ after x e = ap (λ (h : Heap). on_buffers h (after x e)) (sym s.1) in
    let more = ran_is rest in (
      more.0 ∙ ap (λ (y : State). (run y es).heap) same,
      ap₂ (λ (a : ℕ) (b : List ℕ). a ∷ b) s.0 (more.1 ∙ ap (λ (y : State). numbers y es) same),
    )
ran_is {x} (batch {g = g} row {replies = replies} {es = es} t z rest) =
    let s = batch_events x row (sym (ap (λ (y : BatchOutcome). y.answer.number) t) ∙ z) in
    let left = ap (λ (y : BatchOutcome). y.left) t in
    let y = run x (asks_of row) in
    let same : on_buffers g y ≡ y = ap (λ (h : Heap). on_buffers h y) (ap (λ (v : Served). v.heap) left ∙ sym s.0) in
    let numbered : numbers_in replies ≡ numbers x (asks_of row) =
    ap (λ (v : Served). numbers_in v.row) left ∙ sym s.1 in
    let more = ran_is rest in
    let whole = more_run x (asks_of row) es in (
      more.0 ∙ ap (λ (v : State). (run v es).heap) same ∙ sym (ap (λ (v : State). v.heap) whole.0),
      ap₂ (λ (a b : List ℕ). a ++ b) numbered (more.1 ∙ ap (λ (v : State). numbers v es) same) ∙ sym whole.1,
    )
ran_is {x} (no_batch {g = g} row {es = es} t d rest) =
    let u = t ∙ batch_refused x.heap row (λ z. d (ap (λ (y : BatchOutcome). y.answer.number) t ∙ z)) in
    let same : on_buffers g x ≡ x = ap (λ (y : BatchOutcome). on_buffers y.left.heap x) u in
    let more = ran_is rest in
    (more.0 ∙ ap (λ (v : State). (run v es).heap) same, more.1 ∙ ap (λ (v : State). numbers v es) same)

-- ---- and there is such a run of every history
-- what the audit says is a verdict's number: that of the first broken rule, or of yes
abbrev Named : ℕ → Type 0
Named k = (r : Verdict) × (ruleOf r ≡ k)

pub verdict : (al A P : ℕ) (h : Heap) → Named (audit_by al A P h)
unfolding audit_by ruleOf
verdict al A P h =
    named 1 (Shape, refl) (rule1 h) _
    (named 2 (Zeros, refl) (rule2 A P h.books) _
    (named 3 (Closed, refl) (rule3 A h.books) _
    (named 4 (Open, refl) (rule4 A P h.books h.map) _
    (named 5 (Bits, refl) (rule5 al A P h.books h.map) _
    (named 6 (Lists, refl) (rule6 al A P h.books h.map) _
    (named 7 (Counts, refl) (rule7 A P h.books h.map) _
    (named 8 (Blocks, refl) (rule8 al A P h.memory h.books h.map) _
    (either Named (rule9 A h.books) 0 9 (λ _. (Yes, refl)) (λ _. (Order, refl))))))))))
  where
    named : (k : ℕ) → Named k → (rule : Bool) (rest : ℕ) → Named rest → Named (broken k rule before rest)
    named k this true rest more = more
    named zero this false rest more = more
    named (suc k) this false rest more = this

-- what the call of an event answers and leaves, and that it keeps its promise
abbrev pub kept : (x : State) (e : Event) → (k : ℕ) × (g : Heap) × Kept x e k g
kept x (formats A P e) = let y = format x.heap A P e in (y.answer.number, y.heap, (y.answer, refl, refl))
kept x (asks n) = let y = ask x.heap n in (y.answer.number, y.heap, (y.answer, refl, refl))
kept x (gives o) = let y = give_back x.heap o in (y.answer.number, y.heap, (y.answer, refl, refl))
kept x (resizes o n) = let y = resize x.heap o n in (y.answer.number, y.heap, (y.answer, refl, refl))
kept x (views o) = (0, x.heap, (view x.heap o, refl, refl))
kept x (sizes o) = let y = view_size x.heap o in (y.number, x.heap, (y, refl, refl))
kept x (stands_in o phrase) = (0, x.heap, (stand_in x.heap o phrase, phrase, refl, refl))
kept x (writes o text) = let y = write x.heap o text in (y.answer.number, y.heap, (y.answer, refl, refl))
kept x (rolls words) =
    let y = roll_call x.heap words in
    (y.answer.number, x.heap, (y.answer, y.words, refl, refl))
kept x audits =
    let h = x.heap in
    let v = verdict (alignment h) (arenas h) (pools h) h in
    (audit h, h, (v.0, v.1, ap (λ (k : ℕ). k beside h) v.1))
kept x (compares true other list lent) =
    let y = compare x.heap other list lent in
    (y.answer.number, x.heap, (y.answer, other, y.listed, y.changed, refl, refl))
kept x (compares false other list lent) =
    let y = compare other x.heap list lent in
    (y.answer.number, x.heap, (y.answer, other, y.listed, y.changed, refl, refl))
kept x (pokes o d v) = (0, (after x (pokes o d v)).heap, (refl, refl))

abbrev pub Run : State → List Event → Type 0
Run x es = (ks : List ℕ) × (g : Heap) × Ran x es ks g

unfoldable pub made : (x : State) (es : List Event) → Run x es
made x [] = ([], x.heap, none)
made x (e ∷ es) =
    let y = kept x e in
    let z = made (on_buffers y.1 (after x e)) es in
    (y.0 ∷ z.0, z.1, next y.2 z.2)

-- ---- so the theorems hold of it
-- none of the numbers is 6
abbrev pub Sixless : List ℕ → Type 0
Sixless [] = Unit {0}
Sixless (k ∷ ks) = (k ≢ 6) × Sixless ks

sixless : (x : State) (es : List Event) → NoSix x es → Sixless (numbers x es)
unfolding numbers
sixless x [] t = tt
sixless x (e ∷ es) t = (t.0, sixless (after x e) es t.1)

-- a run over any buffers: a format that is done, or a heap that the audit passes, and then any calls
module _ (start : Beginning) (ok : Begins start) (es : List Event)
    {ks : List ℕ} {g : Heap} (ran : Ran (begun start) es ks g) where
  -- no call answers 6
  pub ran_no_six : Sixless ks
  ran_no_six = subst Sixless (sym (ran_is ran).1) (sixless (begun start) es (no_six start ok es))

  -- and an audit says yes
  pub ran_audit : {left : Heap} (r : Verdict) → AuditPromise g left r → r ≡ Yes
  ran_audit r kept =
      sym (of_number r) ∙ ap verdict_of (ap (λ (y : ℕ × Heap). y.0) kept ∙ ap audit (ran_is ran).0 ∙ audit_yes start ok es)

  -- the customer's second give-back, right after one that is done: it is refused, with 5 if the first one released the
  -- arena and otherwise with 10, and changes nothing
  pub ran_twice : {once left : Heap} (o : ℕ) (first second : Answer)
      → GiveBackPromise g once o first → first.number ≡ 0 → GiveBackPromise once left o second
      → (second ≡ answer_of (if released g once o then 5 else 10) 0) × (left ≡ once)
  ran_twice {once} o first second kept done again =
      let q = ap (λ (x : Heap). give_back x o) (sym (ran_is ran).0) ∙ sym kept in
      let t = back_twice start ok es o (ap (λ (y : Outcome). y.answer.number) q ∙ done) in
      let u = subst (λ (x : Heap). Refuses x once) (sym (ran_is ran).0) (subst (Refuses (end start ok es).heap) (ap (λ (y : Outcome). y.heap) q) t) in
      (ap (λ (y : Outcome). y.answer) (again ∙ u), ap (λ (y : Outcome). y.heap) (again ∙ u))
    where
      Refuses : Heap → Heap → Type 0
      Refuses x y = give_back y o ≡ refused (if released x y o then 5 else 10) y

  -- a roll call with room for it lists the ledger of the calls: offset and size of each block that is held, and how
  -- many there are
  pub ran_roll : {left : Heap} (words v : List ℕ) (r : Rolled)
      → RollCallPromise g left words v r → length (entries start ok es) ≤ length words
      → (r ≡ rolled_of 0 (entry_count start ok es))
      × (v ≡ entries start ok es ++ drop (length (entries start ok es)) words)
  ran_roll words v r kept room =
      let q = ap (λ (x : RollOutcome × Heap). x.0) kept
      ∙ ap (λ (x : Heap). roll_call x words) (ran_is ran).0
      ∙ roll_with_room start ok es words room in
      (ap (λ (x : RollOutcome). x.answer) q, ap (λ (x : RollOutcome). x.words) q)

  -- and a view shows the ledger of the calls: the bytes of the block that is held there, or none
  pub ran_view : {left : Heap} (o : ℕ) (part : List ℕ)
      → ViewPromise g left o part → part ≡ (end start ok es).ledger o
  ran_view o part kept = ap (λ (x : List ℕ × Heap). x.0) kept ∙ ap (λ (x : Heap). view x o) (ran_is ran).0 ∙ view_shows start ok es o

  -- and a stand-in hands back the same, from memory itself, or its phrase where no block is held
  pub ran_stand_in : {left : Heap} (o : ℕ) (phrase same part : List ℕ) (memory lent at : ℕ × ℕ)
      → StandInPromise g left o phrase same part × StandInPlace g o memory lent at
      → ((end start ok es).ledger o ≢ []
      → (part ≡ (end start ok es).ledger o) × (at ≡ (memory.0, o + memory.1)))
      × ((end start ok es).ledger o ≡ [] → (part ≡ phrase) × (at ≡ lent))
  ran_stand_in o phrase same part memory lent at kept =
      let p = ap (λ (x : List ℕ × (List ℕ × Heap)). x.0) kept.0 ∙ ap (λ (x : Heap). stand_in x o phrase) (ran_is ran).0 in
      let q = kept.1 ∙ ap (λ (x : Heap). stand_in_at x o memory lent) (ran_is ran).0 in
      let t = stand_in_shows start ok es o phrase memory lent in
      (λ some. let u = t.0 some in (p ∙ u.0, q ∙ u.1), λ none. let u = t.1 none in (p ∙ u.0, q ∙ u.1))

-- two runs, and then a compare of the buffers that they left
module _ (start : Beginning) (ok : Begins start) (es : List Event)
    {ks : List ℕ} {g : Heap} (ran : Ran (begun start) es ks g)
    (start' : Beginning) (ok' : Begins start') (es' : List Event)
    {ks' : List ℕ} {g' : Heap} (ran' : Ran (begun start') es' ks' g') where
  -- done, it lists each offset at which the ledgers of the two runs differ, after those below it, with the kind that
  -- tells how; and no other
  pub ran_compare : {left right : Heap} (list listed : List ℕ) (lent changed : List ℤ) (r : Compared)
      → ComparePromise g left g' right list listed lent changed r → r.number ≡ 0
      → (r.entries ≡ held_below (kind_at g g') (memory_length (arenas g) (pools g)))
      × ((o : ℕ) → (end start ok es).ledger o ≢ (end start' ok' es').ledger o
      → let place = 2 * held_below (kind_at g g') o in
      (at listed place ≡ o)
      × Told (at listed (place + 1)) ((end start ok es).ledger o) ((end start' ok' es').ledger o))
  ran_compare list listed lent changed r kept done =
      let is = ap (λ (x : CompareOutcome × (Heap × Heap)). x.0) kept in
      let zero_is = sym (ap (λ (x : CompareOutcome). x.answer.number) is) ∙ done in
      let lists = compare_lists g g' list lent zero_is in
      let list_is = ap (λ (x : CompareOutcome). x.listed) is in (
        ap (λ (x : CompareOutcome). x.answer.entries) is ∙ lists.0,
        λ o d.
            let told = subst (λ (x : Heap). Told (kind_at g x o) ((end start ok es).ledger o) ((end start' ok' es').ledger o)) (sym (ran_is ran').0)
            (subst (λ (x : Heap). Told (kind_at x (end start' ok' es').heap o) ((end start ok es).ledger o) ((end start' ok' es').ledger o))
            (sym (ran_is ran).0) (ends_told start ok es start' ok' es' o)) in
            let place = 2 * held_below (kind_at g g') o in
            let t = lists.1 o (λ z. d (told.4.0 z)) in (
              ap (λ (l : List ℕ). at l place) list_is ∙ t.0,
              subst (λ (k : ℕ). Told k ((end start ok es).ledger o) ((end start' ok' es').ledger o))
                  (sym (ap (λ (l : List ℕ). at l (place + 1)) list_is ∙ t.1)) told,
            ),
      )
