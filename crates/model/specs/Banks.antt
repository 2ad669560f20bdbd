-- Banks: how a relation stands in bytes, and what bytes are read as.
use Rattle.std.specs.Prelude.{ℕ, zero, suc, ◌+◌, ◌-◌, ◌*◌, ◌/◌, ◌%◌, cond, List, [], ◌∷◌, ◌++◌, map, length, take, drop, Some, None, Option, ◌==◌, nat_le, nat_lt}
use Rattle.model.specs.Values.{Value, num, text, Tuple, Relation}
use Rattle.model.specs.Orders.{by_bytes}
use Rattle.model.specs.Sorts.{Kind, numbers, texts, is_text, Column, admitted, Sort}
use Rattle.model.specs.Faults.{Fault}
use Rattle.model.specs.Judging.{above, dep_fault}

-- A number stands in groups of seven bits as in Standard MIDI Files: the highest group first, bit 80 hexadecimal on all
-- but the last, at most four groups and no more than it takes.
abbrev pub groups : ℕ → List ℕ
groups n =
    cond (nat_lt n 0x80) (n ∷ [])
    (cond (nat_lt n 0x4000) ((0x80 + n / 0x80) ∷ (n % 0x80) ∷ [])
    (cond (nat_lt n 0x200000) ((0x80 + n / 0x4000) ∷ (0x80 + n / 0x80 % 0x80) ∷ (n % 0x80) ∷ [])
    ((0x80 + n / 0x200000) ∷ (0x80 + n / 0x4000 % 0x80) ∷ (0x80 + n / 0x80 % 0x80) ∷ (n % 0x80) ∷ [])))

-- A text is its length, a byte, and its bytes.
abbrev pub coded_cell : Value → List ℕ
coded_cell (num n) = groups n
coded_cell (text b) = length b ∷ b

abbrev pub coded_row : Tuple → List ℕ
coded_row [] = []
coded_row (v ∷ t) = coded_cell v ++ coded_row t

abbrev pub coded_rows : Relation → List ℕ
coded_rows [] = []
coded_rows (t ∷ R) = coded_row t ++ coded_rows R

abbrev pub kind_byte : Kind → ℕ
kind_byte numbers = 0
kind_byte texts = 1

-- the edition, 1, the number of columns and their kinds
abbrev pub header : List Column → List ℕ
header C = 1 ∷ length C ∷ map (λ c. kind_byte c.kind) C

-- A bank: its header, the row count and the rows, ascending.
abbrev pub bank : List Column → Relation → List ℕ
bank C R = header C ++ (groups (length R) ++ coded_rows R)

-- What reading from the bytes that are left gives: a value and the bytes left after it, or a fault's number and place.
pub data Read (A : Type 0) : Type 0 where
  found : A → List ℕ → Read A
  bad : (number place : ℕ) → Read A

abbrev pub and_then : {A B : Type 0} → Read A → (A → List ℕ → Read B) → Read B
and_then (found a b) f = f a b
and_then (bad n p) f = bad n p

-- the place of the next byte, with b left of a bank of so many bytes
abbrev pub place_in : ℕ → List ℕ → ℕ
place_in size b = size - length b

-- Bytes that must stand next: 23 where the bank ends, 24 at one that differs.
abbrev pub read_header : ℕ → List ℕ → List ℕ → Read (Unit {0})
read_header size [] b = found tt b
read_header size (x ∷ h) [] = bad 23 size
read_header size (x ∷ h) (y ∷ b) = cond (x == y) (read_header size h b) (bad 24 (place_in size (y ∷ b)))

-- the number whose groups, which are bytes, stand next, where `more` groups may come and those before make n
abbrev pub read_groups : ℕ → ℕ → List ℕ → Option (ℕ × List ℕ)
read_groups zero n b = None
read_groups (suc more) n [] = None
read_groups (suc more) n (x ∷ b) = cond (nat_lt x 0x80) (Some (n * 0x80 + x, b)) (cond (nat_lt x 0x100) (read_groups more (n * 0x80 + (x - 0x80)) b) None)

-- A first group of 80 hexadecimal is padding.
abbrev pub find_number : List ℕ → Option (ℕ × List ℕ)
find_number [] = None
find_number (x ∷ b) = cond (x == 0x80) None (read_groups 4 0 (x ∷ b))

-- a value that was found at the front of b; else 23
abbrev pub or_23 : {A : Type 0} → ℕ → List ℕ → Option (A × List ℕ) → Read A
or_23 size b None = bad 23 (place_in size b)
or_23 size b (Some (a, rest)) = found a rest

abbrev pub read_number : ℕ → List ℕ → Read ℕ
read_number size b = or_23 size b (find_number b)

-- A text that is cut off is 23, then one that is no text 3, both at its length.
abbrev pub read_text : ℕ → List ℕ → Read (List ℕ)
read_text size [] = bad 23 size
read_text size (n ∷ b) = cond (nat_le n (length b)) (cond (is_text (take n b)) (found (take n b) (drop n b)) (bad 3 (place_in size (n ∷ b)))) (bad 23 (place_in size (n ∷ b)))

abbrev pub read_cell : ℕ → Kind → List ℕ → Read Value
read_cell size numbers b = and_then (read_number size b) (λ n rest. found (num n) rest)
read_cell size texts b = and_then (read_text size b) (λ s rest. found (text s) rest)

abbrev pub read_cells : ℕ → List Column → List ℕ → Read Tuple
read_cells size [] b = found [] b
read_cells size (c ∷ C) b = and_then (read_cell size c.kind b) (λ v b₁. and_then (read_cells size C b₁) (λ t b₂. found (v ∷ t) b₂))

-- A row is judged when its last field has been read: 18 not above the row before, 19 not admitted. Their place is the row.
abbrev pub judge_row : Sort → Option Tuple → ℕ → Tuple → List ℕ → Read Tuple
judge_row S before row t b = cond (above by_bytes before t) (cond (admitted S.parts t) (found t b) (bad 19 row)) (bad 18 row)

abbrev pub read_row : ℕ → Sort → Option Tuple → ℕ → List ℕ → Read Tuple
read_row size S before row b = and_then (read_cells size S.columns b) (judge_row S before row)

abbrev pub read_rows : ℕ → Sort → Option Tuple → (row count : ℕ) → List ℕ → Read Relation
read_rows size S before row zero b = found [] b
read_rows size S before row (suc count) b = and_then (read_row size S before row b) (λ t b₁. and_then (read_rows size S (Some t) (suc row) count b₁) (λ R b₂. found (t ∷ R) b₂))

-- A count above the room is 21.
abbrev pub read_count : ℕ → (room : ℕ) → List ℕ → Read ℕ
read_count size room b = and_then (read_number size b) (λ n rest. cond (nat_le n room) (found n rest) (bad 21 (place_in size b)))

-- Bytes left over are 23.
abbrev pub read_end : ℕ → Relation → List ℕ → Read Relation
read_end size R [] = found R []
read_end size R (x ∷ b) = bad 23 (place_in size (x ∷ b))

-- the fields of a bank, in byte order
abbrev pub read_fields : ℕ → Sort → (room : ℕ) → List ℕ → Read Relation
read_fields size S room b = and_then (read_header size (header S.columns) b) (λ _ b₁. and_then (read_count size room b₁) (λ n b₂. and_then (read_rows size S None 0 n b₂) (read_end size)))

-- What reading a bank into a stored table gives: its relation, or the fault that it is refused with.
pub data Reading : Type 0 where
  accepted : Relation → Reading
  refused : Fault → Reading

-- 20 comes after all that stands in the bytes.
abbrev pub accept_unless : Option Fault → Relation → Reading
accept_unless None R = accepted R
accept_unless (Some f) R = refused f

abbrev pub judge_fields : (kind : ℕ) → Sort → Read Relation → Reading
judge_fields k S (found R b) = accept_unless (dep_fault k S.deps [] 0 R) R
judge_fields k S (bad n p) = refused (record { number = n; kind = k; place = p })

abbrev pub read_bank : (kind : ℕ) → Sort → (room : ℕ) → List ℕ → Reading
read_bank k S room b = judge_fields k S (read_fields (length b) S room b)
