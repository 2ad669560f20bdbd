-- The length of a bank. Assumes nothing.
use Rattle.std.proofs.Common.{◌≡◌, ℕ, suc, ◌+◌, ◌*◌, ◌≤◌, true, ◌&&◌, leb, List, [], ◌∷◌, ◌++◌, map, length, refl, ap, inl, inr, suc-mul, arith, length-append}
use mathlib.Core.Bool.{false≢true}
use lib.ListN.{length-map}
use Rattle.std.proofs.lemmas.Bool.{cases_lt, and_parts, leb-true}
use Rattle.model.specs.Values.{Value, num, text, Tuple, Relation, ◌∈◌, every}
use Rattle.model.specs.Sorts.{Kind, numbers, texts, is_text_byte, of_kind, Column, Shaped}
use Rattle.model.specs.Banks.{groups, coded_cell, coded_row, coded_rows, kind_byte}
use Rattle.coding.specs.Sizes.{largest_cell, largest_row, BankLength}
use Rattle.coding.proofs.Groups.{one, two, three, four}

groups_length : (n : ℕ) → length (groups n) ≤ 4
groups_length n = elim (cases_lt n 128) [
  | inl l ↦ omega (arith, ap length (one n l))
  | inr g ↦ elim (cases_lt n 16384) [
    | inl l ↦ omega (arith, ap length (two n g l))
    | inr g₁ ↦ elim (cases_lt n 2097152) [ inl l ↦ omega (arith, ap length (three n g₁ l)) | inr g₂ ↦ omega (arith, ap length (four n g₂)) ]
  ]
]

count_length : (n : ℕ) → n ≤ 128 → length (groups n) ≤ 2
count_length n h = elim (cases_lt n 128) [
  | inl l ↦ omega (arith, ap length (one n l))
  | inr g ↦ omega (arith, ap length (two n g (omega arith)))
]

cell_length : (k : Kind) (v : Value) → of_kind k v ≡ true → length (coded_cell v) ≤ largest_cell k
cell_length numbers (num n) e = groups_length n
cell_length numbers (text b) e = absurd (false≢true e)
cell_length texts (num n) e = absurd (false≢true e)
cell_length texts (text b) e =
    let w = and_parts (leb 1 (length b)) (leb (length b) 16 && every is_text_byte b) e in
    omega (arith, leb-true (length b) 16 (and_parts (leb (length b) 16) (every is_text_byte b) w.1).0)

row_length : (C : List Column) (t : Tuple) → Shaped C t → length (coded_row t) ≤ largest_row C
row_length [] [] s = omega arith
row_length [] (v ∷ t) s = absurd s
row_length (c ∷ C) [] s = absurd s
row_length (c ∷ C) (v ∷ t) s = omega (arith, length-append (coded_cell v) (coded_row t), cell_length c.kind v s.0, row_length C t s.1)

rows_length : (C : List Column) (R : Relation) → ((t : Tuple) → t ∈ R → Shaped C t) → length (coded_rows R) ≤ length R * largest_row C
rows_length C [] f = omega arith
rows_length C (t ∷ R) f =
    let m : suc (length R) * largest_row C ≡ length R * largest_row C + largest_row C = suc-mul (length R) (largest_row C) in
    omega (arith, m, length-append (coded_row t) (coded_rows R), row_length C t (f t (inl refl)), rows_length C R (λ s h. f s (inr h)))

pub bank_length : BankLength
bank_length S R c h m =
    let K = map (λ (d : Column). kind_byte d.kind) S.columns in
    omega (arith, length-map S.columns (λ (d : Column). kind_byte d.kind), length-append K (groups (length R) ++ coded_rows R), length-append (groups (length R)) (coded_rows R), count_length (length R) h, rows_length S.columns R m.shaped)
