-- What the bytes of a record say.
-- Assumes nothing.
use Rattle.std.specs.Prelude.{◌≡◌, Bool, true, false, ◌&&◌, List, ℕ, suc, ◌≤◌, ◌<◌, leb, eqb, length, take, drop, Result, Ok, Err}
use Rattle.std.proofs.Common.{ap, ◌∙◌, arith, drop-cons}
use Rattle.std.specs.List.{list_all}
use Rattle.std.proofs.Math.Bool.{and_assoc, and-true}
use Rattle.rules.specs.Books.{Heap, at}
use Rattle.rules.specs.Numbers.{ask, give_back, resize, block_size}
use Rattle.rules.specs.Replay.{op_of, size_in, offset_in, well_made, Replied, called, called_for, replay_call}
use Rattle.records.specs.declared.Op.{Op}
use Rattle.records.specs.declared.Op.TheVariants.{Ask, GiveBack, Resize}
use Rattle.records.specs.declared.Malformed.{Malformed}
use Rattle.records.specs.declared.Malformed.TheVariants.{Short, Unknown}
use Rattle.records.specs.declared.Call.{Call}

-- "op (1 ask, 2 give back, 3 resize)"
abbrev pub byte_of : Op → ℕ
byte_of Ask = 1
byte_of GiveBack = 2
byte_of Resize = 3

-- the op that the byte says, or the byte is none
abbrev pub OpOf : ℕ → Result Op Malformed → Type 0
OpOf b (Ok op) = b ≡ byte_of op
OpOf b (Err e) = (e ≡ Unknown) × ((leb 1 b && leb b 3) ≡ false)

-- the bytes r say the call c
pub record Says (r : List ℕ) (c : Call) : Type 0 where
  pub op : op_of r ≡ byte_of c.op
  pub size : size_in r ≡ c.size
  pub offset : offset_in r ≡ c.offset

-- what the rules say of the call, by its op
abbrev pub call_of : Heap → List ℕ → Op → Replied
call_of h r Ask = called_for r (ask h (size_in r))
call_of h r GiveBack = called r (give_back h (offset_in r)) (block_size h (offset_in r))
call_of h r Resize = called_for r (resize h (offset_in r) (size_in r))

pub by_op : (h : Heap) (r : List ℕ) (op : Op) → op_of r ≡ byte_of op → replay_call h r ≡ call_of h r op
unfolding replay_call
by_op h r Ask e = rw e
by_op h r GiveBack e = rw e
by_op h r Resize e = rw e

-- they are well made and say the call; or they are too few, or not well made
abbrev pub ReadFrom : List ℕ → Result Call Malformed → Type 0
ReadFrom r (Ok c) = (16 ≤ length r) × (well_made r ≡ true) × Says r c
ReadFrom r (Err Short) = length r < 16
ReadFrom r (Err Unknown) = (16 ≤ length r) × (well_made r ≡ false)

-- ---- well made: the op is known, and two parts of the bytes are 0
abbrev pub zero_in : ℕ → ℕ → List ℕ → Bool
zero_in i n r = list_all (λ b. eqb b 0) (take n (drop i r))

module _ (r : List ℕ) (whole : 16 ≤ length r) where
  first : (i n : ℕ) → i < length r → zero_in i (suc n) r ≡ (eqb (at r i) 0 && zero_in (suc i) n r)
  first i n l = ap (λ (xs : List ℕ). list_all (λ b. eqb b 0) (take (suc n) xs)) (drop-cons r i 0 l)

  three : (i : ℕ) → i < 14
      → zero_in i 3 r ≡ (eqb (at r i) 0 && (eqb (at r (suc i)) 0 && (eqb (at r (suc (suc i))) 0 && true)))
  three i l =
      first i 2 (omega arith) ∙ ap (λ b. eqb (at r i) 0 && b) (first (suc i) 1 (omega arith)
      ∙ ap (λ b. eqb (at r (suc i)) 0 && b) (first (suc (suc i)) 0 (omega arith)))

  pub well_made_is : well_made r ≡ ((leb 1 (op_of r) && leb (op_of r) 3) && (zero_in 1 3 r && zero_in 12 4 r))
  unfolding well_made
  well_made_is =
      rw (three 1 (omega arith), first 12 3 (omega arith), three 13 (omega arith)) (simp (and_assoc, and-true))

pub known : {b : ℕ} (op : Op) → b ≡ byte_of op → (leb 1 b && leb b 3) ≡ true
known Ask e = rw e
known GiveBack e = rw e
known Resize e = rw e
