-- How many bytes a bank may take.
use Rattle.std.specs.Prelude.{ℕ, ◌+◌, ◌*◌, ◌≤◌, List, [], ◌∷◌, length}
use Rattle.model.specs.Values.{Relation}
use Rattle.model.specs.Orders.{by_bytes}
use Rattle.model.specs.Sorts.{Kind, numbers, texts, Column, Sort, Meets}
use Rattle.model.specs.Banks.{bank}

-- the bytes of the largest cell of a kind: four groups, or a length and 16 bytes
abbrev pub largest_cell : Kind → ℕ
largest_cell numbers = 4
largest_cell texts = 17

abbrev pub largest_row : List Column → ℕ
largest_row [] = 0
largest_row (c ∷ C) = largest_cell c.kind + largest_row C

-- Header and count take at most 12 bytes, and each row at most those of the largest.
abbrev pub BankLength : Type 0
BankLength = (S : Sort) (R : Relation) → length S.columns ≤ 8 → length R ≤ 128 → Meets by_bytes S R → length (bank S.columns R) ≤ 12 + length R * largest_row S.columns
