-- Parts of a condition, one after another: what they admit and read together.
use Rattle.std.proofs.Common.{◌≡◌, ◌&&◌, ◌||◌, List, [], ◌∷◌, ◌++◌, map, sym, refl, ap, ap₂, ◌∙◌}
use Rattle.std.proofs.lemmas.List.{map_push}
use Rattle.std.proofs.lemmas.List.Folds.{list_any-append}
use Rattle.model.specs.Values.{Tuple, any, every}
use Rattle.model.specs.ColumnSets.{ColumnSet, has, union, Same}
use Rattle.model.specs.Sorts.{Part, admitted}
use Rattle.conditions.proofs.Columns.{or_none, has_union, has_same}
use Rattle.conditions.specs.Reading.{Reads}

pub admitted_every : {A : Type 0} (f : A → Part) (t : Tuple) (l : List A) → admitted (map f l) t ≡ every (λ x. (f x).admits t) l
admitted_every f t [] = refl
admitted_every f t (x ∷ l) = ap (λ b. (f x).admits t && b) (admitted_every f t l)

-- with one part more
pub read_more : {A : Type 0} (f : A → Part) (xs : List A) (x : A) (X Y Z : ColumnSet) → Reads (map f xs) X → Same Y (f x).reads → Z ≡ union X Y → Reads (map f (xs ++ x ∷ [])) Z
read_more f xs x X Y Z r s e i =
    ap (λ W. has W i) e ∙ has_union X Y i ∙ ap₂ ◌||◌ (r i) (has_same Y (f x).reads s i ∙ or_none (has (f x).reads i))
    ∙ sym (list_any-append (λ p. has p.reads i) (map f xs) (f x ∷ [])) ∙ ap (any (λ p. has p.reads i)) (sym (map_push f xs x))
