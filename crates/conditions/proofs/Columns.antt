-- Column sets read place by place.
use Rattle.std.proofs.Common.{◌≡◌, ℕ, zero, suc, Bool, true, false, ◌||◌, [], ◌∷◌, replicate, sym, refl, ap, ◌∙◌, ap₂}
use Rattle.model.specs.ColumnSets.{ColumnSet, has, union, Same}

pub or_none : (a : Bool) → a ≡ (a || false)
or_none true = refl
or_none false = refl

pub has_union : (X Y : ColumnSet) (i : ℕ) → has (union X Y) i ≡ (has X i || has Y i)
has_union [] Y i = refl
has_union (a ∷ X) [] i = or_none (has (a ∷ X) i)
has_union (a ∷ X) (b ∷ Y) zero = refl
has_union (a ∷ X) (b ∷ Y) (suc i) = has_union X Y i

one_value : (a b : Bool) → (a ≡ true → b ≡ true) → (b ≡ true → a ≡ true) → a ≡ b
one_value true b f g = sym (f refl)
one_value false true f g = g refl
one_value false false f g = refl

pub has_same : (X Y : ColumnSet) → Same X Y → (i : ℕ) → has X i ≡ has Y i
has_same X Y s i = one_value (has X i) (has Y i) (s.0 i) (s.1 i)

pub same_has : (X Y : ColumnSet) → ((i : ℕ) → has X i ≡ has Y i) → Same X Y
same_has X Y e = (λ i h. sym (e i) ∙ h, λ i h. e i ∙ h)

pub same_union : (X X' Y Y' Z Z' : ColumnSet) → Z ≡ union X Y → Z' ≡ union X' Y' → Same X X' → Same Y Y' → Same Z Z'
same_union X X' Y Y' Z Z' e e' s t =
    same_has Z Z' (λ i. ap (λ W. has W i) e ∙ has_union X Y i ∙ ap₂ ◌||◌ (has_same X X' s i) (has_same Y Y' t i) ∙ sym (has_union X' Y' i) ∙ ap (λ W. has W i) (sym e'))

pub has_none : (n i : ℕ) → has (replicate n false) i ≡ false
has_none zero i = refl
has_none (suc n) zero = refl
has_none (suc n) (suc i) = has_none n i
