-- The first member that passes a test.
use Rattle.std.proofs.Common.{◌≡◌, Bool, true, false, List, [], ◌∷◌, Some, None, Option, map, sym, refl, ap, ◌∙◌}
use Rattle.std.specs.Option.{option_map}
use Rattle.std.proofs.lemmas.Bool.{cond-true, cond-false}
use Rattle.model.specs.Values.{find}

-- by another name
find_map : {A B : Type 0} (h : A → B) (p : B → Bool) (xs : List A) → option_map h (find (λ x. p (h x)) xs) ≡ find p (map h xs)
find_map h p [] = refl
find_map h p (x ∷ xs) = by (p (h x)) refl (find_map h p xs)
  where
    by : (t : Bool) → p (h x) ≡ t → option_map h (find (λ x. p (h x)) xs) ≡ find p (map h xs) → option_map h (find (λ x. p (h x)) (x ∷ xs)) ≡ find p (map h (x ∷ xs))
    by true e ih = ap (option_map h) (cond-true (p (h x)) _ _ e) ∙ sym (cond-true (p (h x)) _ _ e)
    by false e ih = ap (option_map h) (cond-false (p (h x)) _ _ e) ∙ (ih ∙ sym (cond-false (p (h x)) _ _ e))

pub find_named : {A B : Type 0} (h : A → B) (p : B → Bool) (xs : List A) (r : Option A) → option_map (λ x. x) r ≡ find (λ x. p (h x)) xs → option_map h r ≡ find p (map h xs)
find_named h p xs None e = ap (option_map h) e ∙ find_map h p xs
find_named h p xs (Some x) e = ap (option_map h) e ∙ find_map h p xs
