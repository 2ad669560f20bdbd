-- The test of meeting a sort.
use Rattle.std.proofs.Common.{◌≡◌, ℕ, ◌<◌, ◌≤◌, Bool, true, not, ◌&&◌, ◌||◌, leb, ◌⊎◌, ◌↔◌, List, [], ◌∷◌, length, refl, ap, inl, inr, arith, le→leb, leb→le}
use mathlib.Core.Bool.{false≢true}
use Prim.Native.Nat.{Ordering}
use lib.Dec.{nleb→lt}
use Rattle.model.specs.Decisions.{ascending, below_first, fits, is_below, meets, meets_dep, shaped}
use Rattle.model.specs.Facts.{and_both, or_left, or_right}
use Rattle.model.specs.Orders.{Ascending, BelowFirst, Order, compare_tuples}
use Rattle.model.specs.Sorts.{Column, Dependency, Meets, MeetsDep, Shaped, Sort, agrees, of_kind}
use Rattle.model.specs.Tables.{Exceeds, Fits, Store}
use Rattle.model.specs.Values.{Relation, Tuple, every}
use Rattle.laws.specs.Sorts.{MeetsTest}
use Rattle.laws.proofs.Cells.{agrees_is, is_agrees, is_test, or_cases, test_is}
use Rattle.laws.proofs.Members.{and_left, and_right, bool_cases, clash, not_false, not_true}
use Rattle.laws.proofs.Testing.{every_is, is_every}

pub below_is : (out : Ordering) → is_below out ≡ true → out ≡ Ordering.lt
below_is Ordering.lt e = refl
below_is Ordering.eq e = absurd (false≢true e)
below_is Ordering.gt e = absurd (false≢true e)

module _ (o : Order) where
  first_is : (s : Tuple) (R : Relation) → below_first o s R ≡ true → BelowFirst o s R
  first_is s [] e = tt
  first_is s (t ∷ R) e = below_is (compare_tuples o s t) e

  is_first : (s : Tuple) (R : Relation) → BelowFirst o s R → below_first o s R ≡ true
  is_first s [] b = refl
  is_first s (t ∷ R) b = ap is_below b

  ascending_is : (R : Relation) → ascending o R ≡ true → Ascending o R
  ascending_is [] e = tt
  ascending_is (s ∷ R) e = (first_is s R (and_left (below_first o s R) (ascending o R) e), ascending_is R (and_right (below_first o s R) (ascending o R) e))

  is_ascending : (R : Relation) → Ascending o R → ascending o R ≡ true
  is_ascending [] a = refl
  is_ascending (s ∷ R) a = and_both (below_first o s R) (ascending o R) (is_first s R a.0) (is_ascending R a.1)

pub shaped_is : (C : List Column) (t : Tuple) → shaped C t ≡ true → Shaped C t
shaped_is [] [] e = tt
shaped_is [] (v ∷ t) e = absurd (false≢true e)
shaped_is (c ∷ C) [] e = absurd (false≢true e)
shaped_is (c ∷ C) (v ∷ t) e = (and_left (of_kind c.kind v) (shaped C t) e, shaped_is C t (and_right (of_kind c.kind v) (shaped C t) e))

pub is_shaped : (C : List Column) (t : Tuple) → Shaped C t → shaped C t ≡ true
is_shaped [] [] s = refl
is_shaped [] (v ∷ t) s = absurd s
is_shaped (c ∷ C) [] s = absurd s
is_shaped (c ∷ C) (v ∷ t) s = and_both (of_kind c.kind v) (shaped C t) s.0 (is_shaped C t s.1)

dep_is : (d : Dependency) (R : Relation) → meets_dep d R ≡ true → MeetsDep d R
dep_is d R e s t hs ht a =
    let q = every_is (λ t. not (agrees d.left s t) || agrees d.right s t) R (every_is (λ s. every (λ t. not (agrees d.left s t) || agrees d.right s t) R) R e s hs) t ht in
    elim (or_cases (not (agrees d.left s t)) (agrees d.right s t) q) [
      | inl n ↦ clash (agrees d.left s t) (is_agrees d.left s t a) (not_true (agrees d.left s t) n)
      | inr g ↦ agrees_is d.right s t g
    ]

is_dep : (d : Dependency) (R : Relation) → MeetsDep d R → meets_dep d R ≡ true
is_dep d R m = is_every (λ s. every (λ t. not (agrees d.left s t) || agrees d.right s t) R) R (λ s hs. is_every (λ t. not (agrees d.left s t) || agrees d.right s t) R (λ t ht.
    bool_cases (agrees d.left s t)
    (λ e. or_right (not (agrees d.left s t)) (agrees d.right s t) (is_agrees d.right s t (m s t hs ht (agrees_is d.left s t e))))
    (λ e. or_left (not (agrees d.left s t)) (agrees d.right s t) (not_false (agrees d.left s t) e))))

module _ (o : Order) where
  module _ (S : Sort) (R : Relation) where
    a : Bool
    a = ascending o R

    b : Bool
    b = every (shaped S.columns) R

    c : Bool
    c = every (λ p. every p.admits R) S.parts

    e : Bool
    e = every (λ d. meets_dep d R) S.deps

    meets_is : meets o S R ≡ true → Meets o S R
    unfolding a b c e
    meets_is h = record {
      ascending = ascending_is o R (and_left a (b && (c && e)) h);
      shaped = λ t g. shaped_is S.columns t (every_is (shaped S.columns) R (and_left b (c && e) (and_right a (b && (c && e)) h)) t g);
      admits = λ p g t k. every_is p.admits R (every_is (λ p. every p.admits R) S.parts (and_left c e (and_right b (c && e) (and_right a (b && (c && e)) h))) p g) t k;
      deps = λ d g. dep_is d R (every_is (λ d. meets_dep d R) S.deps (and_right c e (and_right b (c && e) (and_right a (b && (c && e)) h))) d g);
    }

    is_meets : Meets o S R → meets o S R ≡ true
    unfolding a b c e
    is_meets M = and_both a (b && (c && e)) (is_ascending o R M.ascending) (and_both b (c && e) (is_every (shaped S.columns) R (λ t g. is_shaped S.columns t (M.shaped t g)))
        (and_both c e (is_every (λ p. every p.admits R) S.parts (λ p g. is_every p.admits R (M.admits p g))) (is_every (λ d. meets_dep d R) S.deps (λ d g. is_dep d R (M.deps d g)))))

pub meets_exact : (o : Order) (S : Sort) (R : Relation) → Meets o S R ↔ (meets o S R ≡ true)
meets_exact o S R = (is_meets o S R, meets_is o S R)

pub fits_is : (S : List Store) (I : List Relation) → fits S I ≡ true → Fits S I
fits_is [] I h = tt
fits_is (s ∷ S) [] h = tt
fits_is (s ∷ S) (R ∷ I) h = (leb→le (length R) s.room (test_is (leb (length R) s.room) (and_left (leb (length R) s.room) (fits S I) h)), fits_is S I (and_right (leb (length R) s.room) (fits S I) h))

pub is_fits : (S : List Store) (I : List Relation) → Fits S I → fits S I ≡ true
is_fits [] I f = refl
is_fits (s ∷ S) [] f = refl
is_fits (s ∷ S) (R ∷ I) f = and_both (leb (length R) s.room) (fits S I) (is_test (leb (length R) s.room) (le→leb (length R) s.room f.0)) (is_fits S I f.1)

room_cases : (m n : ℕ) → (m ≤ n) ⊎ (n < m)
room_cases m n = bool_cases (leb m n) (λ e. inl (leb→le m n (test_is (leb m n) e))) (λ e. inr (nleb→lt m n (test_is (not (leb m n)) (not_false (leb m n) e))))

pub fits_or : (S : List Store) (I : List Relation) → Fits S I ⊎ Exceeds S I
fits_or [] I = inl tt
fits_or (s ∷ S) [] = inl tt
fits_or (s ∷ S) (R ∷ I) = elim (room_cases (length R) s.room) [
  | inl l ↦ elim (fits_or S I) [ inl f ↦ inl (l, f) | inr x ↦ inr (inr x) ]
  | inr g ↦ inr (inl g)
]

pub fits_not : (S : List Store) (I : List Relation) → Fits S I → Exceeds S I → ⊥
fits_not [] I f x = x
fits_not (s ∷ S) [] f x = x
fits_not (s ∷ S) (R ∷ I) f (inl g) = omega (arith, f.0)
fits_not (s ∷ S) (R ∷ I) f (inr x) = fits_not S I f.1 x

pub meets_test : MeetsTest
meets_test = record { shape = λ C t. (shaped_is C t, is_shaped C t); sort = λ o S R. (meets_is o S R, is_meets o S R); rooms = λ S I. (fits_is S I, is_fits S I) }
