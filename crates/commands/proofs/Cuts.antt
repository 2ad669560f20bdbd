-- A list of what a function gives is cut where the list of arguments is.
use Rattle.std.proofs.Common.{◌≡◌, Bool, true, false, List, [], ◌∷◌, map, refl, ap}
use Rattle.commands.specs.Lists.{front, behind}

module _ {A B : Type 0} (p : B → Bool) (f : A → B) where
  pub front-map : (xs : List A) → map f (front (λ x. p (f x)) xs) ≡ front p (map f xs)
  front-map [] = refl
  front-map (x ∷ xs) = by (p (f x)) refl (front-map xs)
    where
      by : (t : Bool) → p (f x) ≡ t → map f (front (λ y. p (f y)) xs) ≡ front p (map f xs) → map f (front (λ y. p (f y)) (x ∷ xs)) ≡ front p (map f (x ∷ xs))
      by true e ih = rw e (ap (λ l. f x ∷ l) ih)
      by false e ih = rw e

  pub behind-map : (xs : List A) → map f (behind (λ x. p (f x)) xs) ≡ behind p (map f xs)
  behind-map [] = refl
  behind-map (x ∷ xs) = by (p (f x)) refl (behind-map xs)
    where
      by : (t : Bool) → p (f x) ≡ t → map f (behind (λ y. p (f y)) xs) ≡ behind p (map f xs) → map f (behind (λ y. p (f y)) (x ∷ xs)) ≡ behind p (map f (x ∷ xs))
      by true e ih = rw e ih
      by false e ih = rw e
