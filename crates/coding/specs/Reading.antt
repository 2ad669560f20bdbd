-- Reading a bank: what is accepted, and what is refused with which fault.
use Rattle.std.specs.Prelude.{◌≡◌, ℕ, ◌-◌, ◌<◌, ◌≤◌, true, false, ◌↔◌, List, [], ◌∷◌, ◌++◌, length, ◌≢◌}
use Rattle.model.specs.Values.{Tuple, Relation, every}
use Rattle.model.specs.Orders.{by_bytes, Ascending}
use Rattle.model.specs.Sorts.{Kind, numbers, texts, is_text, greatest, Column, Shaped, MeetsDeps, admitted, Sort, Meets}
use Rattle.model.specs.Faults.{Fault}
use Rattle.model.specs.Decisions.{shaped}
use Rattle.model.specs.Judging.{sort_fault}
use Rattle.model.specs.Refusals.{RowsRight}
use Rattle.model.specs.Banks.{groups, coded_row, coded_rows, header, bank, accepted, refused, accept_unless, read_bank}
use Rattle.coding.specs.Numbers.{NoNumber}

-- A bank of rows that have the columns' kinds is judged as a put of those rows is: refused with the fault by which they
-- break the sort, else accepted.
abbrev pub JudgedAsOffered : Type 0
JudgedAsOffered = (k room : ℕ) (S : Sort) (R : Relation) → room ≤ greatest → length R ≤ room → every (shaped S.columns) R ≡ true → read_bank k S room (bank S.columns R) ≡ accept_unless (sort_fault by_bytes k S R) R

-- A bank of a relation that meets the sort and fits the room is read as that relation.
abbrev pub WrittenReads : Type 0
WrittenReads = (k room : ℕ) (S : Sort) (R : Relation) → room ≤ greatest → Meets by_bytes S R → length R ≤ room → read_bank k S room (bank S.columns R) ≡ accepted R

-- Bytes are accepted exactly when they are the bank of a relation that meets the sort and fits the room.
abbrev pub SoundBank : Sort → ℕ → List ℕ → Relation → Type 0
SoundBank S room b R = (b ≡ bank S.columns R) × Meets by_bytes S R × (length R ≤ room)

abbrev pub AcceptedExactly : Type 0
AcceptedExactly = (k room : ℕ) (S : Sort) (b : List ℕ) (R : Relation) → room ≤ greatest → (read_bank k S room b ≡ accepted R) ↔ SoundBank S room b R

-- No two relations have one bank.
abbrev pub BanksOnce : Type 0
BanksOnce = (S : Sort) (Q R : Relation) → length Q ≤ greatest → length R ≤ greatest → Meets by_bytes S Q → Meets by_bytes S R → bank S.columns Q ≡ bank S.columns R → Q ≡ R

-- bytes whose first field is bad as a cell of a kind, with the fault's number
pub data BadCell (b : List ℕ) : Kind → ℕ → Type 0 where
  -- they begin with no number
  not_a_number : NoNumber b → BadCell b numbers 23
  -- they end before a text does
  no_length : b ≡ [] → BadCell b texts 23
  cut_off : (n : ℕ) (s : List ℕ) → b ≡ n ∷ s → length s < n → BadCell b texts 23
  -- they begin with a whole text that is none
  not_a_text : (s rest : List ℕ) → b ≡ length s ∷ (s ++ rest) → is_text s ≡ false → BadCell b texts 3

abbrev pub at : ℕ → ℕ → ℕ → Fault
at n k p = record { number = n; kind = k; place = p }

-- b has the header, a count n within the room, and then fewer than n rows, each right, before the rest
pub record Begun (S : Sort) (room : ℕ) (b : List ℕ) (n : ℕ) (R : Relation) (rest : List ℕ) : Type 0 where
  pub stands : b ≡ header S.columns ++ (groups n ++ (coded_rows R ++ rest))
  pub room_for : n ≤ room
  pub more : length R < n
  pub right : RowsRight by_bytes S R

-- The fault that is due to bytes: what stands before it is good.
pub data DueBank (k : ℕ) (S : Sort) (room : ℕ) (b : List ℕ) : Fault → Type 0 where
  -- the header ends too early, or one of its bytes is another than the columns have
  header_cut : (x : ℕ) (later : List ℕ) → header S.columns ≡ b ++ x ∷ later → DueBank k S room b (at 23 k (length b))
  header_differs : (h later rest : List ℕ) (x y : ℕ) → header S.columns ≡ h ++ x ∷ later → b ≡ h ++ y ∷ rest → (x ≢ y) → DueBank k S room b (at 24 k (length h))
  -- no count follows it, or one above the room
  no_count : (rest : List ℕ) → b ≡ header S.columns ++ rest → NoNumber rest → DueBank k S room b (at 23 k (length (header S.columns)))
  count_above : (n : ℕ) (rest : List ℕ) → b ≡ header S.columns ++ (groups n ++ rest) → n ≤ greatest → room < n → DueBank k S room b (at 21 k (length (header S.columns)))
  -- after the cells t of a row, which are those of columns C, the cell of the next column is bad
  cell_bad : (n : ℕ) (R : Relation) (C D : List Column) (c : Column) (t : Tuple) (rest : List ℕ) (number : ℕ) → Begun S room b n R (coded_row t ++ rest) →
      S.columns ≡ C ++ c ∷ D → Shaped C t → BadCell rest c.kind number → DueBank k S room b (at number k (length b - length rest))
  -- a row is not above the one before, or not admitted
  not_above : (n : ℕ) (R : Relation) (t : Tuple) (rest : List ℕ) → Begun S room b n R (coded_row t ++ rest) →
      Shaped S.columns t → (Ascending by_bytes (R ++ t ∷ []) → ⊥) → DueBank k S room b (at 18 k (length R))
  not_admitted : (n : ℕ) (R : Relation) (t : Tuple) (rest : List ℕ) → Begun S room b n R (coded_row t ++ rest) →
      Shaped S.columns t → Ascending by_bytes (R ++ t ∷ []) → admitted S.parts t ≡ false → DueBank k S room b (at 19 k (length R))
  -- bytes are left over after the last row
  left_over : (R : Relation) (x : ℕ) (rest : List ℕ) → b ≡ bank S.columns R ++ x ∷ rest → length R ≤ room → RowsRight by_bytes S R → DueBank k S room b (at 23 k (length (bank S.columns R)))
  -- a row breaks a dependency with an earlier one
  row_breaks : (R earlier later : Relation) (t : Tuple) → b ≡ bank S.columns R → length R ≤ room → RowsRight by_bytes S R →
      R ≡ earlier ++ t ∷ later → MeetsDeps S.deps earlier → (MeetsDeps S.deps (earlier ++ t ∷ []) → ⊥) → DueBank k S room b (at 20 k (length earlier))

-- Bytes are refused exactly with the fault that is due to them.
abbrev pub RefusedExactly : Type 0
RefusedExactly = (k room : ℕ) (S : Sort) (b : List ℕ) (f : Fault) → room ≤ greatest → (read_bank k S room b ≡ refused f) ↔ DueBank k S room b f
