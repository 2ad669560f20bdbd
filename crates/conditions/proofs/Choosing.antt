-- Cells of a pick, one after another.
use Rattle.std.proofs.Common.{◌≡◌, ℕ, zero, suc, ◌+◌, ◌<◌, Bool, true, false, ◌&&◌, List, [], ◌∷◌, map, length, get_or, Ordering, Less, Equal, Greater, sym, refl, ap, ◌∙◌, subst, arith}
use Rattle.model.specs.Decisions.{is_below}
use Rattle.std.specs.Ordering.{is_lt}
use Rattle.std.specs.List.{AllAdjacentBelow, IsAllAdjacentAnswer}
use Rattle.cells.specs.Held.{ordering}
use Rattle.model.specs.Orders.{Order}
use Rattle.model.specs.Values.{Value}
use Rattle.std.proofs.lemmas.Bool.{and_from}
use Rattle.conditions.specs.Picks.{rising}

pub below_lt : (x : Ordering) → is_below (ordering x) ≡ is_lt x
below_lt Less = refl
below_lt Equal = refl
below_lt Greater = refl

-- each cell is below the next
rises : {A : Type 0} (o : Order) (f : A → Value) (xs : List A) → AllAdjacentBelow (λ x y. true ≡ is_below (o (f x) (f y))) xs (length xs) → rising o (map f xs) ≡ true
rises o f [] h = refl
rises o f (x ∷ []) h = refl
rises o f (x ∷ y ∷ xs) h =
    and_from (is_below (o (f x) (f y))) (rising o (map f (y ∷ xs))) (sym (h 0 x (omega arith)))
    (rises o f (y ∷ xs) (λ k d lt. subst (λ n. true ≡ is_below (o (f (get_or (y ∷ xs) k d)) (f (get_or (x ∷ y ∷ xs) n d)))) (let e : suc k + 1 ≡ suc (k + 1) = omega arith in e) (h (suc k) d (omega arith))))

and_false : (a : Bool) → (a && false) ≡ false
and_false true = refl
and_false false = refl

-- the cell at k is not below the next
falls : {A : Type 0} (o : Order) (f : A → Value) (xs : List A) (k : ℕ) → k + 1 < length xs → ((d : A) → false ≡ is_below (o (f (get_or xs k d)) (f (get_or xs (k + 1) d)))) → rising o (map f xs) ≡ false
falls o f [] k lt h = absurd (let z : ⊥ = omega arith in z)
falls o f (x ∷ []) k lt h = absurd (let z : ⊥ = omega arith in z)
falls o f (x ∷ y ∷ xs) zero lt h = ap (λ b. b && rising o (map f (y ∷ xs))) (sym (h x))
falls o f (x ∷ y ∷ xs) (suc k) lt h =
    ap (λ b. is_below (o (f x) (f y)) && b)
    (falls o f (y ∷ xs) k (omega arith) (λ d. subst (λ n. false ≡ is_below (o (f (get_or (y ∷ xs) k d)) (f (get_or (x ∷ y ∷ xs) n d)))) (let e : suc k + 1 ≡ suc (k + 1) = omega arith in e) (h d)))
    ∙ and_false (is_below (o (f x) (f y)))

pub rising_answer : {A : Type 0} (o : Order) (f : A → Value) (xs : List A) (r : Bool) → IsAllAdjacentAnswer (λ x y b. b ≡ is_below (o (f x) (f y))) xs r → r ≡ rising o (map f xs)
rising_answer o f xs true h = sym (rises o f xs h)
rising_answer o f xs false h = sym (falls o f xs h.0 h.1 h.2)
