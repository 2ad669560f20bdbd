-- The derived order of cells and rows is the order of the rules.
use Rattle.std.proofs.Common.{◌≡◌, ℕ, List, [], ◌∷◌, map, vec_items, string_bytes, Ordering, Less, Equal, Greater, refl, ap, ◌∙◌, ap₂, arith}
use Prim.Native.Nat.{compare, Ordering as Compared}
use Rattle.std.specs.Cmp.Lexicographic.{slice_cmp}
use Rattle.std.specs.Ordering.{nat_cmp, ordering_then}
use Rattle.model.specs.Orders.{then_by, lexical, by_bytes, compare_tuples}
use Rattle.cells.specs.Held.{value, tuple, ordering}
use Rattle.cells.specs.declared.values.Cell.{Cell}
use Rattle.cells.specs.declared.values.Cell.TheVariants.{Num, Text}
use Rattle.cells.specs.declared.rows.Row.{Row}
use Rattle.cells.specs.contracts.values.CellOrd.TheImpl.{ghosts}

pub ranked_compare : (m n : ℕ) → ordering (nat_cmp m n) ≡ compare m n
ranked_compare m n = grind arith

module _ {X : Type 0} (R : X → X → Ordering) (c : X → X → Compared) (says : (x y : X) → ordering (R x y) ≡ c x y) where
  then_compare : (o r : Ordering) → ordering (ordering_then o r) ≡ then_by (ordering o) (ordering r)
  then_compare Less r = refl
  then_compare Equal r = refl
  then_compare Greater r = refl

  pub lex_compare : (xs ys : List X) → ordering (slice_cmp R xs ys) ≡ lexical c xs ys
  lex_compare [] [] = refl
  lex_compare [] (y ∷ ys) = refl
  lex_compare (x ∷ xs) [] = refl
  lex_compare (x ∷ xs) (y ∷ ys) = then_compare (R x y) (slice_cmp R xs ys) ∙ ap₂ then_by (says x y) (lex_compare xs ys)

pub lexical_map : {X Y : Type 0} (f : X → Y) (c : Y → Y → Compared) (xs ys : List X) → lexical (λ x y. c (f x) (f y)) xs ys ≡ lexical c (map f xs) (map f ys)
lexical_map f c [] [] = refl
lexical_map f c [] (y ∷ ys) = refl
lexical_map f c (x ∷ xs) [] = refl
lexical_map f c (x ∷ xs) (y ∷ ys) = ap (then_by (c (f x) (f y))) (lexical_map f c xs ys)

-- numbers before texts, numbers by value, texts by their bytes
cells_ordered : (x y : Cell) → ordering (ghosts.cmp x y) ≡ by_bytes (value x) (value y)
cells_ordered (Num m) (Num n) = ranked_compare m n
cells_ordered (Num m) (Text t) = refl
cells_ordered (Text s) (Num n) = refl
cells_ordered (Text s) (Text t) = lex_compare nat_cmp compare ranked_compare (string_bytes s) (string_bytes t)

pub cells_compare : (x y : Cell) (r : Ordering) → (r ≡ ghosts.cmp x y) → ordering r ≡ by_bytes (value x) (value y)
cells_compare x y r h = ap ordering h ∙ cells_ordered x y

-- rows by their first differing cell
pub rows_compare : (s t : Row) (r : Ordering) → (r ≡ slice_cmp ghosts.cmp (vec_items s.cells) (vec_items t.cells)) → ordering r ≡ compare_tuples by_bytes (tuple s) (tuple t)
rows_compare s t r h =
    ap ordering h
    ∙ lex_compare ghosts.cmp (λ x y. by_bytes (value x) (value y)) cells_ordered (vec_items s.cells) (vec_items t.cells)
    ∙ lexical_map value by_bytes (vec_items s.cells) (vec_items t.cells)
