-- A column asked for by its word is answered by its place, or by none.
use Rattle.std.proofs.Common.{◌≡◌, ℕ, zero, suc, Bool, true, false, cond, List, [], ◌∷◌, Some, None, Option, sym, refl, ap, ◌∙◌, subst, inl, inr}
use Rattle.std.specs.Option.{option_map}
use Rattle.model.specs.Dropping.{column_at}
use Rattle.model.specs.Sorts.{Column, Distinct, lookup}
use Rattle.model.specs.Values.{same_bytes, ◌∈◌}
use Rattle.laws.specs.Sorts.{LookupRight}
use Rattle.laws.proofs.Cells.{bytes_is, is_bytes}
use Rattle.laws.proofs.Members.{clash}

data Looked (C : List Column) (w : List ℕ) : Option ℕ → Type 0 where
  found_at : (i : ℕ) (c : Column) → column_at C i ≡ Some c → c.word ≡ w → Looked C w (Some i)
  nowhere : ((c : Column) → c ∈ C → c.word ≡ w → ⊥) → Looked C w None

looked_past : (b : Column) (C : List Column) (w : List ℕ) → same_bytes b.word w ≡ false → (x : Option ℕ) → Looked C w x → Looked (b ∷ C) w (option_map suc x)
looked_past b C w n x (found_at i c e q) = found_at (suc i) c e q
looked_past b C w n x (nowhere f) = nowhere (λ c h q. elim h [ inl p ↦ clash (same_bytes b.word w) (is_bytes b.word w (ap (λ y. y.word) (sym p) ∙ q)) n | inr g ↦ f c g q ])

looked_first : (b : Column) (C : List Column) (w : List ℕ) (y : Bool) → same_bytes b.word w ≡ y → Looked C w (lookup C w) → Looked (b ∷ C) w (cond y (Some 0) (option_map suc (lookup C w)))
looked_first b C w true e l = found_at zero b refl (bytes_is b.word w e)
looked_first b C w false e l = looked_past b C w e (lookup C w) l

looked : (C : List Column) (w : List ℕ) → Looked C w (lookup C w)
looked [] w = nowhere (λ c h q. h)
looked (b ∷ C) w = looked_first b C w (same_bytes b.word w) refl (looked C w)

SomeCode : {A : Type 0} → Option A → Type 0
SomeCode None = ⊥
SomeCode (Some i) = Unit {0}

pub no_some : {A C : Type 0} (i : A) → ◌≡◌ {A = Option A} None (Some i) → C
unfolding SomeCode
no_some i e = absurd (subst SomeCode (sym e) tt)

or_else : {A : Type 0} → A → Option A → A
or_else d None = d
or_else d (Some i) = i

pub some_same : {A : Type 0} (i j : A) → ◌≡◌ {A = Option A} (Some i) (Some j) → i ≡ j
unfolding or_else
some_same i j e = ap (or_else i) e

at_member : (C : List Column) (i : ℕ) (c : Column) → column_at C i ≡ Some c → c ∈ C
at_member [] i c e = no_some c e
at_member (b ∷ C) zero c e = inl (sym (some_same b c e))
at_member (b ∷ C) (suc i) c e = inr (at_member C i c e)

-- where words are distinct, a word has one place
one_place : (C : List Column) → Distinct C → (i j : ℕ) (c e : Column) → column_at C i ≡ Some c → column_at C j ≡ Some e → c.word ≡ e.word → i ≡ j
one_place [] d i j c e p q w = no_some c p
one_place (b ∷ C) d zero zero c e p q w = refl
one_place (b ∷ C) d zero (suc j) c e p q w = absurd (d.0 e (at_member C j e q) (ap (λ x. x.word) (some_same b c p) ∙ w))
one_place (b ∷ C) d (suc i) zero c e p q w = absurd (d.0 c (at_member C i c p) (ap (λ x. x.word) (some_same b e q) ∙ sym w))
one_place (b ∷ C) d (suc i) (suc j) c e p q w = ap suc (one_place C d.1 i j c e p q w)

module _ (C : List Column) (d : Distinct C) (w : List ℕ) where
  abbrev At : ℕ → Type 0
  At i = (c : Column) × (column_at C i ≡ Some c) × (c.word ≡ w)

  place_is : (x : Option ℕ) → Looked C w x → (i : ℕ) → x ≡ Some i → At i
  place_is x (found_at j c e q) i h = subst At (some_same j i h) (c, e, q)
  place_is x (nowhere f) i h = no_some i h

  is_place : (x : Option ℕ) → Looked C w x → (i : ℕ) → At i → x ≡ Some i
  is_place x (found_at j c e q) i a = ap {B = Option ℕ} Some (one_place C d j i c a.0 e a.1 (q ∙ sym a.2))
  is_place x (nowhere f) i a = absurd (f a.0 (at_member C i a.0 a.1) a.2)

  none_is : (x : Option ℕ) → Looked C w x → x ≡ None → (c : Column) → c ∈ C → c.word ≡ w → ⊥
  none_is x (found_at j c e q) h = no_some j (sym h)
  none_is x (nowhere f) h = f

  is_none : (x : Option ℕ) → Looked C w x → ((c : Column) → c ∈ C → c.word ≡ w → ⊥) → x ≡ None
  is_none x (found_at j c e q) f = absurd (f c (at_member C j c e) q)
  is_none x (nowhere f) g = refl

pub lookup_right : LookupRight
lookup_right C d w = record {
  place = λ i. (place_is C d w (lookup C w) (looked C w) i, is_place C d w (lookup C w) (looked C w) i);
  none = (none_is C d w (lookup C w) (looked C w), is_none C d w (lookup C w) (looked C w));
}
