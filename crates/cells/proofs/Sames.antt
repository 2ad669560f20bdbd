-- The derived equality of cells and rows is that of their values.
use Rattle.std.proofs.Common.{◌≡◌, ℕ, Bool, ◌&&◌, List, [], ◌∷◌, map, vec_items, string_bytes, Decides, nat_eq, refl, ◌∙◌, ap₂, rules}
use Rattle.std.proofs.lemmas.Slice.Eq.{compares_Decides, slice_eq-Decides}
use Rattle.std.specs.Bool.{one_answer}
use Rattle.std.specs.Cmp.Lexicographic.{pointwise}
use Rattle.model.specs.Values.{same_list, same_bytes, same_value, same_tuple}
use Rattle.cells.specs.Held.{value, tuple}
use Rattle.cells.specs.declared.values.Cell.{Cell}
use Rattle.cells.specs.declared.values.Cell.TheVariants.{Num, Text}
use Rattle.cells.specs.declared.rows.Row.{Row}
use Rattle.cells.specs.contracts.values.CellPartialEq.TheImpl.{ghosts}
use Rattle.std.proofs.lemmas.Bool.Decides.{Decides-eqb}

pub same_bytes_decides : (xs ys : List ℕ) → Decides (same_bytes xs ys) (xs ≡ ys)
same_bytes_decides = compares_Decides same_bytes (search rules)

-- what `==` on slices of bytes answers
pub matches_bytes : (xs ys : List ℕ) (r : Bool) → r ≡ pointwise nat_eq xs ys → r ≡ same_bytes xs ys
matches_bytes xs ys r h = one_answer r (same_bytes xs ys) (slice_eq-Decides Decides-eqb xs ys r h) (same_bytes_decides xs ys)

module _ {X Y : Type 0} (E : X → X → Bool) (f : X → Y) (e : Y → Y → Bool) (says : (x y : X) → E x y ≡ e (f x) (f y)) where
  -- what `==` on lists answers, from what it answers on their elements
  pub matches_same : (xs ys : List X) → pointwise E xs ys ≡ same_list e (map f xs) (map f ys)
  matches_same [] [] = refl
  matches_same [] (y ∷ ys) = refl
  matches_same (x ∷ xs) [] = refl
  matches_same (x ∷ xs) (y ∷ ys) = ap₂ ◌&&◌ (says x y) (matches_same xs ys)

cells_alike : (x y : Cell) → ghosts.eq x y ≡ same_value (value x) (value y)
cells_alike (Num m) (Num n) = refl
cells_alike (Num m) (Text t) = refl
cells_alike (Text s) (Num n) = refl
cells_alike (Text s) (Text t) = matches_bytes (string_bytes s) (string_bytes t) _ refl

pub cells_same : (x y : Cell) (r : Bool) → (r ≡ ghosts.eq x y) → r ≡ same_value (value x) (value y)
cells_same x y r h = h ∙ cells_alike x y

pub rows_same : (s t : Row) (r : Bool) → (r ≡ pointwise ghosts.eq (vec_items s.cells) (vec_items t.cells)) → r ≡ same_tuple (tuple s) (tuple t)
rows_same s t r h = h ∙ matches_same ghosts.eq value same_value cells_alike (vec_items s.cells) (vec_items t.cells)
