-- Small facts that the definitions of condition parts need.
use Rattle.std.specs.Prelude.{◌≡◌, ℕ, zero, suc, Bool, true, false, ◌&&◌, ◌||◌, [], ◌∷◌, refl}
use Rattle.std.proofs.lemmas.Bool.{false≢true}
use Rattle.model.specs.Values.{Tuple, cell, tail}
use Rattle.model.specs.ColumnSets.{ColumnSet, has, union, singleton, Within}

pub cell_tail : (t : Tuple) (i : ℕ) → cell (tail t) i ≡ cell t (suc i)
cell_tail [] i = refl
cell_tail (v ∷ t) i = refl

pub has_tail : (X : ColumnSet) (i : ℕ) → has (tail X) i ≡ has X (suc i)
has_tail [] i = refl
has_tail (b ∷ X) i = refl

pub has_singleton : (i : ℕ) → has (singleton i) i ≡ true
has_singleton zero = refl
has_singleton (suc i) = has_singleton i

pub or_right : (a b : Bool) → b ≡ true → (a || b) ≡ true
or_right true b e = refl
or_right false b e = e

pub or_left : (a b : Bool) → a ≡ true → (a || b) ≡ true
or_left true b e = refl
or_left false b e = absurd (false≢true e)

pub in_union_left : (X Y : ColumnSet) → Within X (union X Y)
in_union_left [] Y i h = absurd (false≢true h)
in_union_left (a ∷ X) [] i h = h
in_union_left (a ∷ X) (b ∷ Y) zero h = or_left a b h
in_union_left (a ∷ X) (b ∷ Y) (suc i) h = in_union_left X Y i h

pub in_union_right : (X Y : ColumnSet) → Within Y (union X Y)
in_union_right [] Y i h = h
in_union_right (a ∷ X) [] i h = absurd (false≢true h)
in_union_right (a ∷ X) (b ∷ Y) zero h = or_right a b h
in_union_right (a ∷ X) (b ∷ Y) (suc i) h = in_union_right X Y i h

pub and_both : (a b : Bool) → a ≡ true → b ≡ true → (a && b) ≡ true
and_both true b p q = q
and_both false b p q = p
