-- The turns of the loops that write. Assumes nothing.
use Rattle.std.proofs.Common.{◌≡◌, ℕ, ◌+◌, ◌/◌, ◌%◌, cond, ltb, List, [], ◌∷◌, ◌++◌, map, length, refl, ap, ◌∙◌, append_assoc}
use Rattle.std.specs.List.{flat_map}
use Rattle.model.specs.Banks.{coded_cell, coded_row, coded_rows, kind_byte}
use Rattle.cells.specs.Held.{kind_of, value, tuple, tuples}
use Rattle.cells.specs.declared.values.Cell.{Cell}
use Rattle.cells.specs.declared.rows.Row.{Row}
use Rattle.columns.specs.declared.column.Column.{Column}
use Rattle.columns.specs.Named.{named_column}
use Rattle.banks.specs.Codable.{All}
use Rattle.banks.specs.Fields.{kind_bytes}

-- what holds of each member of a list that stands for another
pub all_mapped : {A B : Type 0} (P : B → Type 0) (f : A → B) (xs : List A) → All P (map f xs) → All (λ x. P (f x)) xs
all_mapped P f [] h = tt
all_mapped P f (x ∷ xs) h = (h.0, all_mapped P f xs h.1)

pub row_joined : (l : List Cell) → flat_map (λ c. coded_cell (value c)) l ≡ coded_row (map value l)
row_joined [] = refl
row_joined (c ∷ l) = ap (λ b. coded_cell (value c) ++ b) (row_joined l)

pub rows_joined : (l : List Row) → flat_map (λ r. coded_row (tuple r)) l ≡ coded_rows (tuples l)
rows_joined [] = refl
rows_joined (r ∷ l) = ap (λ b. coded_row (tuple r) ++ b) (rows_joined l)

-- the bytes of the kinds of columns
abbrev pub kinds_of : List Column → List ℕ
kinds_of C = kind_bytes (map named_column C)

pub kinds_mapped : (C : List Column) → map (λ c. kind_byte (kind_of c.kind)) C ≡ kinds_of C
kinds_mapped [] = refl
kinds_mapped (c ∷ C) = ap (λ (l : List ℕ). kind_byte (kind_of c.kind) ∷ l) (kinds_mapped C)

-- a number of elements, and then those
pub pushed_then : (was mid last ys zs : List ℕ) (n : ℕ) → mid ≡ was ++ n ∷ [] → last ≡ mid ++ ys → ys ≡ zs → n ≡ length zs → last ≡ was ++ length zs ∷ zs
pushed_then was mid last ys zs n p q e l = q ∙ ap (λ m. m ++ ys) p ∙ append_assoc was (n ∷ []) ys ∙ ap (λ y. was ++ n ∷ y) e ∙ ap (λ m. was ++ m ∷ zs) l

-- the parts of a bank, one after another
pub in_turn : (was a b c d h k g r : List ℕ) → a ≡ was ++ h → b ≡ a ++ k → c ≡ b ++ g → d ≡ c ++ r → d ≡ was ++ ((h ++ k) ++ (g ++ r))
in_turn was a b c d h k g r p q s t = t ∙ ap (λ x. x ++ r) s ∙ ap (λ x. (x ++ g) ++ r) q ∙ ap (λ x. ((x ++ k) ++ g) ++ r) p ∙ simp append_assoc

-- the units of the groups above the lowest, and the group of a number that counts so many
abbrev pub units : List ℕ
units = 2097152 ∷ 16384 ∷ 128 ∷ []

abbrev pub high_group : ℕ → ℕ → List ℕ
high_group n u = cond (ltb n u) [] ((128 + n / u % 128) ∷ [])
