-- Tests of the members of a list, as tests of what they stand for.
use Rattle.std.proofs.Common.{◌≡◌, Bool, ◌||◌, List, [], ◌∷◌, map, refl, ap}
use Rattle.model.specs.Values.{any}

pub any_map : {A B : Type 0} (p : B → Bool) (f : A → B) (l : List A) → any (λ x. p (f x)) l ≡ any p (map f l)
any_map p f [] = refl
any_map p f (x ∷ l) = ap (λ b. p (f x) || b) (any_map p f l)
