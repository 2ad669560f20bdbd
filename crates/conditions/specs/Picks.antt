-- What a pick may hold, and the fault of cells that it may not.
use Rattle.std.specs.Prelude.{◌≡◌, ℕ, ◌≤◌, Bool, true, cond, ◌&&◌, List, [], ◌∷◌, length, Some, None, Option, nat_le}
use Prim.Native.Nat.{Ordering}
use Rattle.model.specs.Values.{Value, num, text, ◌∈◌, every}
use Rattle.model.specs.Orders.{Order, by_bytes}
use Rattle.model.specs.Decisions.{is_below}
use Rattle.model.specs.Sorts.{Kind, numbers, texts, of_kind}
use Rattle.model.specs.Faults.{Fault, fault, or_then}

abbrev pub kind_of_value : Value → Kind
kind_of_value (num n) = numbers
kind_of_value (text b) = texts

-- a number or a text within the limits of cells
abbrev pub is_cell : Value → Bool
is_cell v = of_kind (kind_of_value v) v

-- the kind of the first value
abbrev pub first_kind : List Value → Option Kind
first_kind [] = None
first_kind (v ∷ l) = Some (kind_of_value v)

-- cells of the kind that the first has
abbrev pub of_first_kind : List Value → Bool
of_first_kind [] = true
of_first_kind (v ∷ l) = every (of_kind (kind_of_value v)) (v ∷ l)

-- each value is above the one before
abbrev pub below_next : Order → Value → List Value → Bool
below_next o v [] = true
below_next o v (w ∷ l) = is_below (o v w)

abbrev pub rising : Order → List Value → Bool
rising o [] = true
rising o (v ∷ l) = below_next o v l && rising o l

abbrev pub is_few : List Value → Bool
is_few l = nat_le 1 (length l) && nat_le (length l) 32

-- 1 to 32 ascending cells of one kind
abbrev pub is_choice : List Value → Bool
is_choice l = is_few l && (of_first_kind l && rising by_bytes l)

abbrev pub unless : Bool → ℕ → Option Fault
unless b n = cond b None (fault n 0 0)

-- 17 for a cell that is none, 4 unless there are 1 to 32, 17 for one unlike the first in kind, 18 for one not above the last
abbrev pub pick_fault : List Value → Option Fault
pick_fault l = or_then (unless (every is_cell l) 17) (or_then (unless (is_few l) 4) (or_then (unless (of_first_kind l) 17) (unless (rising by_bytes l) 18)))

-- What a pick may hold, in words: 1 to 32 cells of one kind, each above the one before.
abbrev pub BelowNext : Order → Value → List Value → Type 0
BelowNext o v [] = Unit {0}
BelowNext o v (w ∷ l) = o v w ≡ Ordering.lt

abbrev pub Rising : Order → List Value → Type 0
Rising o [] = Unit {0}
Rising o (v ∷ l) = BelowNext o v l × Rising o l

pub record Choice (l : List Value) : Type 0 where
  pub least : 1 ≤ length l
  pub most : length l ≤ 32
  pub kind : Kind
  pub cells : (v : Value) → v ∈ l → of_kind kind v ≡ true
  pub ascending : Rising by_bytes l

-- no fault is due exactly to such cells
abbrev pub PicksRight : Type 0
PicksRight = (l : List Value) → (pick_fault l ≡ None → Choice l) × (Choice l → pick_fault l ≡ None)
