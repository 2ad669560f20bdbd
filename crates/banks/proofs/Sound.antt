-- Rows that are stored meet their sort, and can be written. Assumes nothing.
use Rattle.std.proofs.Common.{◌≡◌, ℕ, ◌≤◌, true, ◌&&◌, leb, List, [], ◌∷◌, length, refl, inl, inr, arith}
use mathlib.Core.Bool.{false≢true}
use Rattle.std.proofs.lemmas.Bool.{and_parts, leb-true}
use Rattle.model.specs.Values.{Value, num, text, Tuple, Relation, ◌∈◌, every}
use Rattle.model.specs.Orders.{by_bytes}
use Rattle.model.specs.Sorts.{Kind, numbers, texts, is_text_byte, of_kind, Column, Shaped, Sort, greatest}
use Rattle.model.specs.Decisions.{meets}
use Rattle.model.specs.Banks.{accepted, read_bank}
use Rattle.laws.proofs.Meeting.{meets_test}
use Rattle.coding.proofs.Dues.{accepted_exactly}
use Rattle.banks.specs.Codable.{Codable, All}

pub none_meets : (S : Sort) → meets by_bytes S [] ≡ true
none_meets S = (meets_test.sort by_bytes S []).1 (record { ascending = tt; shaped = λ t h. absurd h; admits = λ p g t h. absurd h; deps = λ d g s t h k. absurd h })

pub accepted_meets : (k room : ℕ) (S : Sort) (b : List ℕ) (R : Relation) → room ≤ 128 → read_bank k S room b ≡ accepted R → (meets by_bytes S R ≡ true) × (length R ≤ room)
accepted_meets k room S b R h e =
    let small : room ≤ greatest = omega arith in
    let w = (accepted_exactly k room S b R small).0 e in
    ((meets_test.sort by_bytes S R).1 w.1, w.2)

cell_codable : (k : Kind) (v : Value) → of_kind k v ≡ true → Codable v
cell_codable numbers (num n) e = leb-true n greatest e
cell_codable numbers (text b) e = absurd (false≢true e)
cell_codable texts (num n) e = absurd (false≢true e)
cell_codable texts (text b) e =
    let w = and_parts (leb 1 (length b)) (leb (length b) 16 && every is_text_byte b) e in
    omega (arith, leb-true (length b) 16 (and_parts (leb (length b) 16) (every is_text_byte b) w.1).0)

row_codable : (C : List Column) (t : Tuple) → Shaped C t → All Codable t
row_codable [] [] s = tt
row_codable [] (v ∷ t) s = absurd s
row_codable (c ∷ C) [] s = absurd s
row_codable (c ∷ C) (v ∷ t) s = (cell_codable c.kind v s.0, row_codable C t s.1)

rows_codable : (C : List Column) (R : Relation) → ((t : Tuple) → t ∈ R → Shaped C t) → All (All Codable) R
rows_codable C [] f = tt
rows_codable C (t ∷ R) f = (row_codable C t (f t (inl refl)), rows_codable C R (λ s h. f s (inr h)))

pub meets_codable : (S : Sort) (R : Relation) → meets by_bytes S R ≡ true → All (All Codable) R
meets_codable S R e = rows_codable S.columns R ((meets_test.sort by_bytes S R).0 e).shaped
