-- The turns of the loop that reads rows. Assumes nothing.
use Rattle.std.proofs.Common.{◌≡◌, ℕ, suc, ◌+◌, ◌-◌, ◌<◌, ◌≤◌, List, [], ◌∷◌, ◌++◌, length, get_or, Some, None, Option, sym, refl, ap, ◌∙◌, append_assoc, append-nil, add-one, arith, Bor}
use Rattle.std.specs.Slice.{IsGetResult}
use Rattle.model.specs.Values.{Tuple, Relation}
use Rattle.model.specs.Sorts.{Sort}
use Rattle.model.specs.Banks.{Read, found, bad, and_then, read_row, read_rows}
use Rattle.cells.specs.Held.{tuple, tuples}
use Rattle.cells.specs.declared.rows.Row.{Row}
use Rattle.banks.specs.Fields.{row_before}

-- the last of the rows that were read
abbrev pub last_of : Option Tuple → Relation → Option Tuple
last_of o [] = o
last_of o (t ∷ R) = last_of (Some t) R

pub last_push : (o : Option Tuple) (R : Relation) (t : Tuple) → last_of o (R ++ t ∷ []) ≡ Some t
last_push o [] t = refl
last_push o (s ∷ R) t = last_push (Some s) R t

last_at : (o : Option Tuple) (xs : List Row) (d x : Row) → 0 < length xs → x ≡ get_or xs (length xs - 1) x → last_of o (tuples xs) ≡ Some (tuple x)
last_at o [] d x h e = absurd (omega arith)
last_at o (y ∷ []) d x h e = ap (λ r. Some (tuple r)) (sym e)
last_at o (y ∷ z ∷ xs) d x h e =
    let p : length (y ∷ z ∷ xs) - 1 ≡ suc (length (z ∷ xs) - 1) = omega arith in
    last_at (Some (tuple y)) (z ∷ xs) d x (omega arith) (e ∙ ap (λ i. get_or (y ∷ z ∷ xs) i x) p)

pub last_none : (xs : List Row) → length xs ≤ 0 → None ≡ last_of None (tuples xs)
last_none [] h = refl
last_none (x ∷ xs) h = absurd (omega arith)

pub last_some : (xs : List Row) (x : Row) → 0 < length xs → x ≡ get_or xs (length xs - 1) x → Some (tuple x) ≡ last_of None (tuples xs)
last_some xs x h e = sym (last_at None xs x x h e)

-- what is read after rows that were
abbrev pub rows_after : Relation → Read Relation → Read Relation
rows_after Q o = and_then o (λ R b. found (Q ++ R) b)

rows_more : (Q : Relation) (t : Tuple) (o : Read Relation) → rows_after Q (and_then o (λ R b. found (t ∷ R) b)) ≡ rows_after (Q ++ t ∷ []) o
rows_more Q t (found R b) = ap (λ x. found x b) (sym (append_assoc Q (t ∷ []) R))
rows_more Q t (bad n p) = refl

module _ (size : ℕ) (S : Sort) (count i : ℕ) (here : i < count) (before : Option Tuple) (Q : Relation) (b : List ℕ) where
  one_more : count - i ≡ suc (count - (i + 1))
  one_more = omega arith

  pub rows_step : (t : Tuple) (b' : List ℕ) → read_row size S before i b ≡ found t b' → rows_after Q (read_rows size S before i (count - i) b) ≡ rows_after (Q ++ t ∷ []) (read_rows size S (Some t) (i + 1) (count - (i + 1)) b')
  rows_step t b' e =
      ap (λ n. rows_after Q (read_rows size S before i n b)) one_more
      ∙ ap (λ o. rows_after Q (and_then o (λ s b₁. and_then (read_rows size S (Some s) (suc i) (count - (i + 1)) b₁) (λ R b₂. found (s ∷ R) b₂)))) e
      ∙ rows_more Q t (read_rows size S (Some t) (suc i) (count - (i + 1)) b')
      ∙ ap (λ j. rows_after (Q ++ t ∷ []) (read_rows size S (Some t) j (count - (i + 1)) b')) (sym (add-one i))

  pub rows_stop : (n p : ℕ) → read_row size S before i b ≡ bad n p → rows_after Q (read_rows size S before i (count - i) b) ≡ bad n p
  rows_stop n p e =
      ap (λ m. rows_after Q (read_rows size S before i m b)) one_more
      ∙ ap (λ o. rows_after Q (and_then o (λ s b₁. and_then (read_rows size S (Some s) (suc i) (count - (i + 1)) b₁) (λ R b₂. found (s ∷ R) b₂)))) e

pub rows_end : (size : ℕ) (S : Sort) (count i : ℕ) (before : Option Tuple) (Q : Relation) (b : List ℕ) → count ≤ i → rows_after Q (read_rows size S before i (count - i) b) ≡ found Q b
rows_end size S count i before Q b h =
    let z : count - i ≡ 0 = omega arith in
    ap (λ n. rows_after Q (read_rows size S before i n b)) z ∙ ap (λ x. found x b) (append-nil Q)

same : (o : Read Relation) → rows_after [] o ≡ o
same (found R b) = refl
same (bad n p) = refl

pub rows_begin : (size : ℕ) (S : Sort) (count : ℕ) (b : List ℕ) → read_rows size S None 0 count b ≡ rows_after [] (read_rows size S None 0 (count - 0) b)
rows_begin size S count b =
    let z : count - 0 ≡ count = omega arith in
    sym (same (read_rows size S None 0 count b)) ∙ ap (λ n. rows_after [] (read_rows size S None 0 n b)) (sym z)

pub before_is : (xs : List Row) (o : Option (Bor Row)) → IsGetResult xs 0 (length xs - 1) o → row_before o ≡ last_of None (tuples xs)
before_is xs None h = last_none xs h.3
before_is xs (Some x) h = last_some xs x.now h.3.0 h.1
