-- Column sets read place by place.
use Rattle.std.proofs.Common.{◌≡◌, ℕ, zero, suc, ◌+◌, ◌<◌, ◌≤◌, Bool, true, false, not, ◌&&◌, ◌||◌, List, [], ◌∷◌, length, get_or, Option, None, Some, Bor, sym, refl, ap, ◌∙◌, ap₂, ⊎_elim, subst, arith}
use mathlib.Core.Bool.{beq}
use Rattle.std.specs.Cmp.Lexicographic.{pointwise}
use denote.Param.Members.{Mut}
use Rattle.std.specs.Fn.{Called}
use Rattle.std.specs.Array.{IsFromFnResultFrom}
use Rattle.std.specs.Option.{MatchOption}
use Rattle.std.specs.List.{HoldsAt, list_all, list_any, zip}
use Rattle.std.proofs.Math.Bool.{and-false}
use Rattle.std.proofs.lemmas.Bool.{cases_lt}
use Rattle.model.specs.ColumnSets.{has, within, same, apart, non_empty, union}

pub has_get_or : (X : List Bool) (i : ℕ) → get_or X i false ≡ has X i
has_get_or [] i = refl
has_get_or (b ∷ X) zero = refl
has_get_or (b ∷ X) (suc i) = has_get_or X i

pub has_past : (X : List Bool) (i : ℕ) → length X ≤ i → has X i ≡ false
has_past [] i h = refl
has_past (b ∷ X) zero h = let z : ⊥ = omega arith in absurd z
has_past (b ∷ X) (suc i) h = has_past X i (omega arith)

-- as `get` with a test of what it found answers it
pub has_found : (X : List Bool) (i : ℕ) (r : Option (Bor Bool)) (b : Bool) → MatchOption r (length X ≤ i) (λ x. (i < length X) × HoldsAt (λ y. x.now ≡ y) X i) → MatchOption r (b ≡ false) (λ x. b ≡ x.now) → b ≡ has X i
has_found X i None b g e = e ∙ sym (has_past X i g)
has_found X i (Some x) b g e = e ∙ g.1 false ∙ has_get_or X i

-- what the chains over the places answer
pub any_member : (X : List Bool) → list_any (λ b. b) X ≡ non_empty X
any_member [] = refl
any_member (b ∷ X) = ap (λ c. b || c) (any_member X)

pub all_within : (X Y : List Bool) → length X ≡ length Y → list_all (λ p. not p.0 || p.1) (zip X Y) ≡ within X Y
all_within [] Y h = refl
all_within (a ∷ X) [] h = absurd (let z : ⊥ = omega arith in z)
all_within (true ∷ X) (b ∷ Y) h = ap (λ c. b && c) (all_within X Y (omega arith))
all_within (false ∷ X) (b ∷ Y) h = all_within X Y (omega arith)

pub all_apart : (X Y : List Bool) → length X ≡ length Y → list_all (λ p. not (p.0 && p.1)) (zip X Y) ≡ apart X Y
all_apart [] Y h = refl
all_apart (a ∷ X) [] h = absurd (let z : ⊥ = omega arith in z)
all_apart (true ∷ X) (b ∷ Y) h = ap (λ c. not b && c) (all_apart X Y (omega arith))
all_apart (false ∷ X) (b ∷ Y) h = all_apart X Y (omega arith)

pub equal_same : (X Y : List Bool) → length X ≡ length Y → pointwise beq X Y ≡ same X Y
equal_same [] [] h = refl
equal_same [] (b ∷ Y) h = absurd (let z : ⊥ = omega arith in z)
equal_same (a ∷ X) [] h = absurd (let z : ⊥ = omega arith in z)
equal_same (true ∷ X) (true ∷ Y) h = equal_same X Y (omega arith)
equal_same (true ∷ X) (false ∷ Y) h = refl
equal_same (false ∷ X) (true ∷ Y) h = sym (and-false (within X Y))
equal_same (false ∷ X) (false ∷ Y) h = equal_same X Y (omega arith)

-- the elements that calls of a closure made
module _ {F B : Type 0} (g : Mut F (ℕ × Unit {0}) B) (at : ℕ → B) (f : F) where
  pub made_at : (ys : List B) (i n : ℕ) → ((k : ℕ) (y : B) (q : F) → Called g f (k, tt) y q → (q ≡ f) × (y ≡ at k)) → IsFromFnResultFrom g f ys i n → (k : ℕ) (d : B) → i ≤ k → k < i + n → get_or ys k d ≡ at k
  made_at ys i zero calls h k d l u = absurd (let z : ⊥ = omega arith in z)
  made_at ys i (suc n) calls h k d l u =
      let here = calls i h.1 h.0 h.3 in
      ⊎_elim (λ lt. made_at ys (i + 1) n calls (subst (λ p. IsFromFnResultFrom g p ys (i + 1) n) here.0 h.4) k d (omega arith) (omega arith))
      (λ ge. let e : i ≡ k = omega arith in subst (λ j. get_or ys j d ≡ at j) e (h.2.1 d ∙ here.1)) (cases_lt i k)

pub union_places : (X Y Z : List Bool) → length X ≡ length Z → length Y ≡ length Z → ((k : ℕ) → k < length Z → get_or Z k false ≡ (get_or X k false || get_or Y k false)) → Z ≡ union X Y
union_places [] [] [] h g f = refl
union_places [] (b ∷ Y) [] h g f = absurd (let z : ⊥ = omega arith in z)
union_places (a ∷ X) Y [] h g f = absurd (let z : ⊥ = omega arith in z)
union_places [] Y (c ∷ Z) h g f = absurd (let z : ⊥ = omega arith in z)
union_places (a ∷ X) [] (c ∷ Z) h g f = absurd (let z : ⊥ = omega arith in z)
union_places (a ∷ X) (b ∷ Y) (c ∷ Z) h g f = ap₂ ◌∷◌ (f 0 (omega arith)) (union_places X Y Z (omega arith) (omega arith) (λ k l. f (suc k) (omega arith)))
