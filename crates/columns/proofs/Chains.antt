-- A chain over the elements of a list with their places.
use Rattle.std.proofs.Common.{◌≡◌, ℕ, zero, suc, ◌+◌, Bool, true, ◌&&◌, List, [], ◌∷◌, drop, sym, refl, ap, add-one, ◌∙◌}
use Rattle.std.specs.List.{list_all, enumerate_from}
use Rattle.model.specs.Values.{tail}

tail_drop : {X : Type 0} (i : ℕ) (xs : List X) → tail (drop i xs) ≡ drop (suc i) xs
tail_drop zero [] = refl
tail_drop zero (x ∷ xs) = refl
tail_drop (suc i) [] = refl
tail_drop (suc i) (x ∷ xs) = tail_drop i xs

pub after : {X : Type 0} (i : ℕ) (x : X) (xs ys : List X) → x ∷ ys ≡ drop i xs → ys ≡ drop (i + 1) xs
after i x xs ys e = ap tail e ∙ tail_drop i xs ∙ ap (λ k. drop k xs) (sym (add-one i))

-- F is true of xs when t is of each place and the element there
module _ {X : Type 0} (F : List X → Bool) (t : ℕ → X → Bool) (xs : List X) (next : (i : ℕ) (x : X) (ys : List X) → x ∷ ys ≡ drop i xs → F (x ∷ ys) ≡ (t i x && F ys)) where
  pub all_from : F [] ≡ true → (i : ℕ) (ys : List X) → ys ≡ drop i xs → list_all (λ p. t p.0 p.1) (enumerate_from i ys) ≡ F ys
  all_from none i [] e = sym none
  all_from none i (x ∷ ys) e = ap (λ b. t i x && b) (all_from none (i + 1) ys (after i x xs ys e)) ∙ sym (next i x ys e)
