-- The plain heap: sequences instead of links, and no bytes. Blocks go by their number in the pool. Its steps decide
-- the same paths as 01's, with 02's order of the usable arenas, and none of them is damage.
-- Assumes nothing.
use Rattle.std.specs.Prelude.{Bool, true, false, not, List, [], ◌∷◌, ℕ, zero, suc, ◌+◌, ◌*◌, ◌/◌, ◌%◌, ltb, eqb, if◌then◌else◌}
use Rattle.rules.specs.declared.Answer.{Answer}
use Rattle.rules.specs.declared.Source.{Source}
use Rattle.rules.specs.declared.Source.TheVariants.{Freed, Carved, Opened}
use Rattle.rules.specs.declared.AskPlan.{AskPlan}
use Rattle.rules.specs.declared.AskPlan.TheVariants.{NoRoom, Damaged, Follow, Ready, Last, Again, Anew}
use Rattle.rules.specs.declared.BackPlan.{BackPlan}
use Rattle.rules.specs.declared.BackPlan.TheVariants.{Damaged as Broken, Joins, Stays, Empties, Moves, Returns, Releases}
use Rattle.rules.specs.Say.{◌▷◌, how_many}
use Rattle.rules.specs.Books.{no_class}
use Rattle.rules.specs.Blocks.{class_of, size_of, start_of, capacity}
use Rattle.rules.specs.Outcome.{answer_of}
use Rattle.rules.specs.Ask.{ask_answer}
use Rattle.rules.specs.Resize.{keeps}
use Rattle.sequences.specs.Update.{to}
use Rattle.sequences.specs.Sequences.{erase, after}
use Rattle.sequences.specs.Rising.{following}

pub record Plain : Type 0 where
  pub usable : List ℕ  -- the open arenas with free pools, front first
  pub unused : List ℕ  -- the closed arenas, front first
  pub mark : ℕ → ℕ  -- of an arena: how many of its pools are carved; 0 if it is closed
  pub freed : ℕ → List ℕ  -- of an arena: its freed pools, front first
  pub listed : ℕ → List ℕ  -- of a class: its pools with live and spare blocks, front first
  pub class : ℕ → ℕ  -- of a pool
  pub chain : ℕ → List ℕ  -- of a pool: its freed blocks, front first
  pub virgin : ℕ → ℕ  -- of a pool: the first block that was never set ready
  pub live : ℕ → ℕ → Bool  -- of a pool and a block

-- ---- what can be counted
-- a pool's live blocks; whether it has any; whether it is carved
abbrev pub count : Plain → ℕ → ℕ
count r p = how_many (r.live p) 512

abbrev pub in_use : Plain → ℕ → Bool
in_use r p = ltb 0 (count r p)

abbrev pub carved : ℕ → Plain → ℕ → Bool
carved P r p = ltb (p % P) (r.mark (p / P))

-- an arena's pools that are not in use
abbrev pub free : ℕ → Plain → ℕ → ℕ
free P r a = how_many (λ i. not (in_use r (a * P + i))) P

-- ---- a sequence: whether it is empty, its front, and the rest
abbrev pub none : List ℕ → Bool
none [] = true
none (x ∷ xs) = false

abbrev pub front : List ℕ → ℕ
front [] = 0
front (x ∷ xs) = x

abbrev pub rest : List ℕ → List ℕ
rest [] = []
rest (x ∷ xs) = xs

-- ---- changes
abbrev pub set_usable : List ℕ → Plain → Plain
set_usable xs r =
    record {
      usable = xs;
      unused = r.unused;
      mark = r.mark;
      freed = r.freed;
      listed = r.listed;
      class = r.class;
      chain = r.chain;
      virgin = r.virgin;
      live = r.live;
    }

abbrev pub set_unused : List ℕ → Plain → Plain
set_unused xs r =
    record {
      usable = r.usable;
      unused = xs;
      mark = r.mark;
      freed = r.freed;
      listed = r.listed;
      class = r.class;
      chain = r.chain;
      virgin = r.virgin;
      live = r.live;
    }

abbrev pub set_mark : ℕ → ℕ → Plain → Plain
set_mark a v r =
    record {
      usable = r.usable;
      unused = r.unused;
      mark = to a v r.mark;
      freed = r.freed;
      listed = r.listed;
      class = r.class;
      chain = r.chain;
      virgin = r.virgin;
      live = r.live;
    }

abbrev pub set_freed : ℕ → List ℕ → Plain → Plain
set_freed a xs r =
    record {
      usable = r.usable;
      unused = r.unused;
      mark = r.mark;
      freed = to a xs r.freed;
      listed = r.listed;
      class = r.class;
      chain = r.chain;
      virgin = r.virgin;
      live = r.live;
    }

abbrev pub set_listed : ℕ → List ℕ → Plain → Plain
set_listed c xs r =
    record {
      usable = r.usable;
      unused = r.unused;
      mark = r.mark;
      freed = r.freed;
      listed = to c xs r.listed;
      class = r.class;
      chain = r.chain;
      virgin = r.virgin;
      live = r.live;
    }

abbrev pub set_class : ℕ → ℕ → Plain → Plain
set_class p v r =
    record {
      usable = r.usable;
      unused = r.unused;
      mark = r.mark;
      freed = r.freed;
      listed = r.listed;
      class = to p v r.class;
      chain = r.chain;
      virgin = r.virgin;
      live = r.live;
    }

abbrev pub set_chain : ℕ → List ℕ → Plain → Plain
set_chain p xs r =
    record {
      usable = r.usable;
      unused = r.unused;
      mark = r.mark;
      freed = r.freed;
      listed = r.listed;
      class = r.class;
      chain = to p xs r.chain;
      virgin = r.virgin;
      live = r.live;
    }

abbrev pub set_virgin : ℕ → ℕ → Plain → Plain
set_virgin p v r =
    record {
      usable = r.usable;
      unused = r.unused;
      mark = r.mark;
      freed = r.freed;
      listed = r.listed;
      class = r.class;
      chain = r.chain;
      virgin = to p v r.virgin;
      live = r.live;
    }

abbrev pub set_live : ℕ → ℕ → Bool → Plain → Plain
set_live p k d r =
    record {
      usable = r.usable;
      unused = r.unused;
      mark = r.mark;
      freed = r.freed;
      listed = r.listed;
      class = r.class;
      chain = r.chain;
      virgin = r.virgin;
      live = to p (to k d (r.live p)) r.live;
    }

-- ---- format: every arena is closed and unused, in rising order
-- k numbers from i on
abbrev pub from : ℕ → ℕ → List ℕ
from i zero = []
from i (suc k) = i ∷ from (suc i) k

abbrev pub fresh : ℕ → Plain
fresh A =
    record {
      usable = [];
      unused = from 0 A;
      mark = λ a. 0;
      freed = λ a. [];
      listed = λ c. [];
      class = λ p. no_class;
      chain = λ p. [];
      virgin = λ p. 0;
      live = λ p k. false;
    }

-- ---- ask, for a block of class c
module _ (al P : ℕ) (r : Plain) (c : ℕ) where
  -- where block k of the class starts
  abbrev pub begins : ℕ → ℕ
  begins k = start_of (size_of al c) k

  -- the front pool p of the class gives the block k; ks is the chain behind it
  abbrev pub from_listed : ℕ → ℕ → List ℕ → AskPlan
  from_listed p k (j ∷ js) = Follow p (begins k) (begins j)
  from_listed p k [] =
      if ltb (r.virgin p) (capacity (size_of al c)) then Ready p (begins k) (begins (r.virgin p))
      else Last p (begins k)

  -- arena a, with its freed pools
  abbrev pub from_arena : ℕ → List ℕ → AskPlan
  from_arena a (p ∷ ps) =
      if eqb (r.class p) c then Again a p (begins (front (r.chain p))) (begins (front (rest (r.chain p))))
      else Anew (Freed a) p
  from_arena a [] = Anew (Carved a) (a * P + r.mark a)

  abbrev pub from_unused : List ℕ → AskPlan
  from_unused (a ∷ others) = Anew (Opened a) (a * P)
  from_unused [] = NoRoom

  abbrev pub from_usable : List ℕ → AskPlan
  from_usable (a ∷ others) = from_arena a (r.freed a)
  from_usable [] = from_unused r.unused

  abbrev pub from_class : List ℕ → AskPlan
  from_class (p ∷ ps) = from_listed p (front (r.chain p)) (rest (r.chain p))
  from_class [] = from_usable r.usable

  abbrev pub plan_ask : AskPlan
  plan_ask = from_class (r.listed c)

  -- an arena that gives its one free pool is no longer usable
  abbrev pub spend : ℕ → Plain → Plain
  spend a x = if eqb (free P r a) 1 then x ▷ set_usable (erase a x.usable) else x

  abbrev pub take_from : Source → Plain → Plain
  take_from (Freed a) x = x ▷ set_freed a (rest (r.freed a)) ▷ spend a
  take_from (Carved a) x = x ▷ set_mark a (r.mark a + 1) ▷ spend a
  take_from (Opened a) x = x ▷ set_unused (rest r.unused) ▷ set_usable (a ∷ []) ▷ set_mark a 1

  -- the front block of p's chain becomes live, and ks is the chain then
  abbrev pub hand_out : ℕ → List ℕ → Plain → Plain
  hand_out p ks x = x ▷ set_chain p ks ▷ set_live p (front (r.chain p)) true

  abbrev pub after_ask : AskPlan → Plain
  after_ask NoRoom = r
  after_ask Damaged = r
  after_ask (Follow p f l) = r ▷ hand_out p (rest (r.chain p))
  after_ask (Ready p f m) = r ▷ hand_out p (r.virgin p ∷ []) ▷ set_virgin p (r.virgin p + 1)
  after_ask (Last p f) = r ▷ hand_out p [] ▷ set_listed c (erase p (r.listed c))
  after_ask (Again a p f l) = r ▷ take_from (Freed a) ▷ set_listed c (p ∷ []) ▷ hand_out p (rest (r.chain p))
  after_ask (Anew s p) =
      r ▷ take_from s ▷ set_listed c (p ∷ []) ▷ set_class p c ▷ set_virgin p 2 ▷ set_chain p (1 ∷ []) ▷ set_live p 0 true

-- ---- the arenas xs follow one that has n free pools: the path on which it moves past them as long as they have fewer.
-- q is the path where it passes none of them
abbrev pub past : ℕ → Plain → ℕ → List ℕ → BackPlan → BackPlan
past P r n [] q = q
past P r n (x ∷ xs) q = if ltb (free P r x) n then past P r n xs (Moves x) else q

-- ---- give back block k of pool p
module _ (P : ℕ) (r : Plain) (p k : ℕ) where
  -- the pool's arena and its class
  abbrev pub a : ℕ
  a = p / P

  abbrev pub c : ℕ
  c = r.class p

  abbrev pub plan_back : BackPlan
  plan_back =
      if none (r.chain p) then Joins
      else if eqb (count r p) 1 then
      (if eqb (free P r a + 1) P then Releases
      else if eqb (free P r a) 0 then Returns
      else past P r (free P r a + 1) (following a r.usable) Empties)
      else Stays

  abbrev pub take_back : Plain → Plain
  take_back x = x ▷ set_chain p (k ∷ r.chain p) ▷ set_live p k false

  abbrev pub empty : Plain → Plain
  empty x = x ▷ set_listed c (erase p (r.listed c)) ▷ set_freed a (p ∷ r.freed a)

  abbrev pub after_back : BackPlan → Plain
  after_back Broken = r
  after_back Joins = r ▷ take_back ▷ set_listed c (p ∷ r.listed c)
  after_back Stays = r ▷ take_back
  after_back Empties = r ▷ take_back ▷ empty
  after_back (Moves q) = r ▷ take_back ▷ empty ▷ set_usable (after q a (erase a r.usable))
  after_back Returns = r ▷ take_back ▷ empty ▷ set_usable (a ∷ r.usable)
  after_back Releases =
      r ▷ take_back ▷ empty ▷ set_usable (erase a r.usable) ▷ set_unused (a ∷ r.unused) ▷ set_mark a 0 ▷ set_freed a []

-- ---- the steps: ask for n bytes; give back a block; resize a block to n bytes
abbrev pub ask_plain : ℕ → ℕ → Plain → ℕ → Plain
ask_plain al P r n = after_ask al P r (class_of al n) (plan_ask al P r (class_of al n))

abbrev pub back_plain : ℕ → Plain → ℕ → ℕ → Plain
back_plain P r p k = after_back P r p k (plan_back P r p k)

-- an ask that finds no room leaves the plain heap as it is, and the old block stays
abbrev pub move_plain : ℕ → Plain → ℕ → ℕ → ℕ → Plain
move_plain P x p k number = if eqb number 0 then back_plain P x p k else x

abbrev pub resize_plain : ℕ → ℕ → Plain → ℕ → ℕ → ℕ → Plain
resize_plain al P r p k n =
    if keeps (size_of al (r.class p)) n then r
    else move_plain P (ask_plain al P r n) p k (ask_answer (plan_ask al P r (class_of al n))).number

-- what resize answers, the block being at offset o: a refused ask is its answer
abbrev pub resize_answer : ℕ → ℕ → Plain → ℕ → ℕ → ℕ → Answer
resize_answer al P r o p n =
    if keeps (size_of al (r.class p)) n then answer_of 0 o else ask_answer (plan_ask al P r (class_of al n))
