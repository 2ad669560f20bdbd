-- A list cut behind its longest front that passes a test.
use Rattle.std.proofs.Common.{◌≡◌, ℕ, suc, ◌+◌, ◌≤◌, Bool, true, false, cond, not, List, [], ◌∷◌, length, map, take, drop, ltb, Some, None, Option, sym, refl, ap, ◌∙◌, subst, arith}
use Rattle.std.specs.Option.{unwrap_or}
use Rattle.std.specs.List.{position, prefix_len}
use Rattle.std.proofs.lemmas.List.Sums.{prefix_len-le-length}
use Rattle.std.proofs.lemmas.Bool.{ltb-false}
use Rattle.model.specs.Values.{front, behind}

module _ {A : Type 0} (p : A → Bool) where
  -- the cut is at n
  abbrev pub CutAt : List A → ℕ → Type 0
  CutAt xs n = (take n xs ≡ front p xs) × (drop n xs ≡ behind p xs)

  cut_len : (xs : List A) → CutAt xs (prefix_len (λ x. not (not (p x))) xs)
  cut_len [] = (refl, refl)
  cut_len (x ∷ xs) = by (p x) refl (cut_len xs)
    where
      by : (t : Bool) → p x ≡ t → CutAt xs (prefix_len (λ y. not (not (p y))) xs) → CutAt (x ∷ xs) (prefix_len (λ y. not (not (p y))) (x ∷ xs))
      by true e ih =
          let s : 1 + prefix_len (λ y. not (not (p y))) xs ≡ suc (prefix_len (λ y. not (not (p y))) xs) = omega arith in
          rw (e, s) (ap (λ l. x ∷ l) ih.0, ih.1)
      by false e ih = rw e (refl, refl)

  found : (k l : ℕ) → k ≤ l → unwrap_or (cond (ltb k l) (Some k) None) l ≡ k
  found k l h = by (ltb k l) refl
    where
      by : (t : Bool) → ltb k l ≡ t → unwrap_or (cond (ltb k l) (Some k) None) l ≡ k
      by true e = rw e
      by false e = rw e (omega (arith, ltb-false k l e))

  -- the cut is at the first member that does not pass
  pub cut_at : (xs : List A) (r : Option ℕ) (n : ℕ) → r ≡ position (λ x. not (p x)) xs → n ≡ unwrap_or r (length xs) → CutAt xs n
  cut_at xs r n e f =
      let here = f ∙ ap (λ o. unwrap_or o (length xs)) e ∙ found _ _ (prefix_len-le-length (λ x. not (not (p x))) xs) in
      subst (CutAt xs) (sym here) (cut_len xs)

  -- what stands behind is what is left of the list
  pub behind_drop : (xs : List A) → behind p xs ≡ drop (length (front p xs)) xs
  behind_drop [] = refl
  behind_drop (x ∷ xs) = by (p x) refl (behind_drop xs)
    where
      by : (t : Bool) → p x ≡ t → behind p xs ≡ drop (length (front p xs)) xs → behind p (x ∷ xs) ≡ drop (length (front p (x ∷ xs))) (x ∷ xs)
      by true e ih = rw e ih
      by false e ih = rw e refl

  pub front_short : (xs : List A) → length (front p xs) ≤ length xs
  front_short [] = omega arith
  front_short (x ∷ xs) = by (p x) refl (front_short xs)
    where
      by : (t : Bool) → p x ≡ t → length (front p xs) ≤ length xs → length (front p (x ∷ xs)) ≤ length (x ∷ xs)
      by true e ih = rw e (omega arith)
      by false e ih = rw e (omega arith)
