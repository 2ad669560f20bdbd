-- A put has no fault exactly when it is to be accepted.
use Rattle.std.proofs.Common.{◌≡◌, ℕ, suc, Bool, true, false, cond, not, ◌&&◌, leb, ◌⊎◌, List, [], ◌∷◌, length, Some, None, Option, sym, refl, ap, ◌∙◌, subst, inl, inr, true≢false, arith, le→leb, leb→le}
use mathlib.Core.Bool.{false≢true}
use lib.Dec.{nleb→lt}
use Rattle.model.specs.Decisions.{fits, is_below, shaped}
use Rattle.model.specs.Facts.{and_both}
use Rattle.model.specs.Faults.{Fault, fault, or_then}
use Rattle.model.specs.Judging.{above, breaks, dep_fault, row_fault, rows_fault, sort_fault, store_fault, stores_fault}
use Rattle.model.specs.Orders.{Ascending, BelowFirst, Order, compare_tuples}
use Rattle.model.specs.Sorts.{Agree, Dependency, Meets, Shaped, Sort, admitted, agrees}
use Rattle.model.specs.Tables.{Store}
use Rattle.model.specs.Values.{Relation, Tuple, any, ◌∈◌}
use Rattle.laws.specs.Faults.{FaultsExact, ShowExact}
use Rattle.laws.proofs.Cells.{admitted_each, agree_sym, agrees_is, each_admitted, is_agrees, is_test, test_is}
use Rattle.laws.proofs.Meeting.{below_is, fits_is, is_fits, is_shaped, shaped_is}
use Rattle.laws.proofs.Members.{and_left, and_right, bool_cases, clash, in_any, not_false, not_true, of_any}

NoneCode : Option Fault → Type 0
NoneCode None = Unit {0}
NoneCode (Some f) = ⊥

not_some : (f : Fault) → ◌≡◌ {A = Option Fault} (Some f) None → ⊥
unfolding NoneCode
not_some f e = subst NoneCode (sym e) tt

pub or_none : (out q : Option Fault) → or_then out q ≡ None → (out ≡ None) × (q ≡ None)
or_none None q e = (refl, e)
or_none (Some f) q e = absurd (not_some f e)

pub none_or : (out q : Option Fault) → out ≡ None → q ≡ None → or_then out q ≡ None
none_or None q e g = g
none_or (Some f) q e g = absurd (not_some f e)

test_none : (b : Bool) (out : Option Fault) (n k p : ℕ) → cond b out (fault n k p) ≡ None → (b ≡ true) × (out ≡ None)
test_none true out n k p e = (refl, e)
test_none false out n k p e = absurd (not_some (record { number = n; kind = k; place = p }) e)

none_test : (b : Bool) (out : Option Fault) (n k p : ℕ) → b ≡ true → out ≡ None → cond b out (fault n k p) ≡ None
none_test true out n k p e g = g
none_test false out n k p e g = absurd (false≢true e)

pub or_then_cong : (x y z : Option Fault) → (x ≡ None → y ≡ z) → or_then x y ≡ or_then x z
or_then_cong None y z f = f refl
or_then_cong (Some g) y z f = refl

module _ (o : Order) where
  -- by row
  abbrev pub Above : Option Tuple → Relation → Type 0
  Above None J = Unit {0}
  Above (Some s) J = BelowFirst o s J

  pub above_is : (out : Option Tuple) (t : Tuple) (J : Relation) → above o out t ≡ true → Above out (t ∷ J)
  above_is None t J e = tt
  above_is (Some s) t J e = below_is (compare_tuples o s t) e

  pub is_above : (out : Option Tuple) (t : Tuple) (J : Relation) → Above out (t ∷ J) → above o out t ≡ true
  is_above None t J a = refl
  is_above (Some s) t J a = ap is_below a

  above_nil : (out : Option Tuple) → Above out []
  above_nil None = tt
  above_nil (Some s) = tt

  pub record RowsFine (S : Sort) (before : Option Tuple) (J : Relation) : Type 0 where
    pub first_above : Above before J
    pub ascends : Ascending o J
    pub shapes : (t : Tuple) → t ∈ J → Shaped S.columns t
    pub parts : (t : Tuple) → t ∈ J → admitted S.parts t ≡ true

  pub rows_none : (k : ℕ) (S : Sort) (out : Option Tuple) (p : ℕ) (J : Relation) → rows_fault o k S out p J ≡ None → RowsFine S out J
  rows_none k S out p [] e = record { first_above = above_nil out; ascends = tt; shapes = λ t h. absurd h; parts = λ t h. absurd h }
  rows_none k S out p (t ∷ J) e =
      let w = or_none (row_fault o k S out p t) (rows_fault o k S (Some t) (suc p) J) e in
      let r = rows_none k S (Some t) (suc p) J w.1 in
      let a = test_none (shaped S.columns t) (cond (above o out t) (cond (admitted S.parts t) None (fault 19 k p)) (fault 18 k p)) 17 k p w.0 in
      let b = test_none (above o out t) (cond (admitted S.parts t) None (fault 19 k p)) 18 k p a.1 in
      let c = test_none (admitted S.parts t) None 19 k p b.1 in
      record {
        first_above = above_is out t J b.0;
        ascends = (r.first_above, r.ascends);
        shapes = λ x h. elim h [ inl q ↦ subst (Shaped S.columns) (sym q) (shaped_is S.columns t a.0) | inr g ↦ r.shapes x g ];
        parts = λ x h. elim h [ inl q ↦ subst (λ y. admitted S.parts y ≡ true) (sym q) c.0 | inr g ↦ r.parts x g ];
      }

  pub none_rows : (k : ℕ) (S : Sort) (out : Option Tuple) (p : ℕ) (J : Relation) → RowsFine S out J → rows_fault o k S out p J ≡ None
  none_rows k S out p [] r = refl
  none_rows k S out p (t ∷ J) r = none_or (row_fault o k S out p t) (rows_fault o k S (Some t) (suc p) J)
      (none_test (shaped S.columns t) (cond (above o out t) (cond (admitted S.parts t) None (fault 19 k p)) (fault 18 k p)) 17 k p (is_shaped S.columns t (r.shapes t (inl refl)))
      (none_test (above o out t) (cond (admitted S.parts t) None (fault 19 k p)) 18 k p (is_above out t J r.first_above) (none_test (admitted S.parts t) None 19 k p (r.parts t (inl refl)) refl)))
      (none_rows k S (Some t) (suc p) J (record { first_above = r.ascends.0; ascends = r.ascends.1; shapes = λ x h. r.shapes x (inr h); parts = λ x h. r.parts x (inr h) }))

-- dependencies
pub test_some : (b : Bool) (n k p : ℕ) → cond b None (fault n k p) ≡ None → b ≡ true
test_some b n k p e = (test_none b None n k p e).0

pub test_not : (b : Bool) (out : Option Fault) (n k p : ℕ) → cond b (fault n k p) out ≡ None → (b ≡ false) × (out ≡ None)
test_not true out n k p e = absurd (not_some (record { number = n; kind = k; place = p }) e)
test_not false out n k p e = (refl, e)

not_test : (b : Bool) (out : Option Fault) (n k p : ℕ) → b ≡ false → out ≡ None → cond b (fault n k p) out ≡ None
not_test true out n k p e g = absurd (true≢false e)
not_test false out n k p e g = g

breaks_not : (D : List Dependency) (E : Relation) (t : Tuple) → breaks D E t ≡ false → (d : Dependency) → d ∈ D → (s : Tuple) → s ∈ E → Agree d.left s t → Agree d.right s t
breaks_not D E t e d h s g a = bool_cases (agrees d.right s t) (agrees_is d.right s t)
    (λ n. clash (breaks D E t) (in_any (λ d. any (λ s. agrees d.left s t && not (agrees d.right s t)) E) d D h
    (in_any (λ s. agrees d.left s t && not (agrees d.right s t)) s E g (and_both (agrees d.left s t) (not (agrees d.right s t)) (is_agrees d.left s t a) (not_false (agrees d.right s t) n)))) e)

not_breaks : (D : List Dependency) (E : Relation) (t : Tuple) → ((d : Dependency) → d ∈ D → (s : Tuple) → s ∈ E → Agree d.left s t → Agree d.right s t) → breaks D E t ≡ false
not_breaks D E t f = bool_cases (breaks D E t)
    (λ e.
    let w = of_any (λ d. any (λ s. agrees d.left s t && not (agrees d.right s t)) E) D e in
    let d = w.0 in
    let v = of_any (λ s. agrees d.left s t && not (agrees d.right s t)) E w.2 in
    let s = v.0 in
    clash (agrees d.right s t) (is_agrees d.right s t (f d w.1 s v.1 (agrees_is d.left s t (and_left (agrees d.left s t) (not (agrees d.right s t)) v.2))))
    (not_true (agrees d.right s t) (and_right (agrees d.left s t) (not (agrees d.right s t)) v.2)))
    (λ e. e)

-- any two rows of J, and any earlier row with one of J
abbrev pub PairsRight : List Dependency → Relation → Relation → Type 0
PairsRight D E J = (d : Dependency) → d ∈ D → (s t : Tuple) → (s ∈ E) ⊎ (s ∈ J) → t ∈ J → Agree d.left s t → Agree d.right s t

pub deps_none : (k : ℕ) (D : List Dependency) (E : Relation) (p : ℕ) (J : Relation) → dep_fault k D E p J ≡ None → PairsRight D E J
deps_none k D E p [] e d h s t hs ht a = absurd ht
deps_none k D E p (x ∷ J) e d h s t hs ht a =
    let w = test_not (breaks D E x) (dep_fault k D (x ∷ E) (suc p) J) 20 k p e in
    let r = deps_none k D (x ∷ E) (suc p) J w.1 in
    pairs_at D E x J (breaks_not D E x w.0) r d h s t hs ht a
  where
    pairs_at : (D : List Dependency) (E : Relation) (x : Tuple) (J : Relation) → ((d : Dependency) → d ∈ D → (s : Tuple) → s ∈ E → Agree d.left s x → Agree d.right s x) → PairsRight D (x ∷ E) J → PairsRight D E (x ∷ J)
    pairs_at D E x J f r d h s t (inl hs) (inl q) a = subst (λ y. Agree d.right s y) (sym q) (f d h s hs (subst (λ y. Agree d.left s y) q a))
    pairs_at D E x J f r d h s t (inl hs) (inr ht) a = r d h s t (inl (inr hs)) ht a
    pairs_at D E x J f r d h s t (inr (inl p)) (inl q) a = λ i k. ap (λ y. y) (subst (λ y. Agree d.right y t) (sym (p ∙ sym q)) (λ j m. refl) i k)
    pairs_at D E x J f r d h s t (inr (inl p)) (inr ht) a = subst (λ y. Agree d.right y t) (sym p) (r d h x t (inl (inl refl)) ht (subst (λ y. Agree d.left y t) p a))
    pairs_at D E x J f r d h s t (inr (inr hs)) (inl q) a =
        subst (λ y. Agree d.right s y) (sym q) (agree_sym d.right x s (r d h x s (inl (inl refl)) hs (agree_sym d.left s x (subst (λ y. Agree d.left s y) q a))))
    pairs_at D E x J f r d h s t (inr (inr hs)) (inr ht) a = r d h s t (inr hs) ht a

pub none_deps : (k : ℕ) (D : List Dependency) (E : Relation) (p : ℕ) (J : Relation) → PairsRight D E J → dep_fault k D E p J ≡ None
none_deps k D E p [] f = refl
none_deps k D E p (x ∷ J) f = not_test (breaks D E x) (dep_fault k D (x ∷ E) (suc p) J) 20 k p
    (not_breaks D E x (λ d h s hs. f d h s x (inl hs) (inl refl)))
    (none_deps k D (x ∷ E) (suc p) J (λ d h s t hs ht. f d h s t (elim hs [ inl g ↦ elim g [ inl q ↦ inr (inl q) | inr g' ↦ inl g' ] | inr g ↦ inr (inr g) ]) (inr ht)))

-- rooms
pub rooms_none : (S : List Store) (p : ℕ) (I I' : List Relation) → stores_fault S p I I' ≡ None → fits S I' ≡ true
rooms_none [] p I I' e = refl
rooms_none (s ∷ S) p I [] e = refl
rooms_none (s ∷ S) p [] (R ∷ I') e =
    let w = or_none (store_fault s p [] R) (stores_fault S (suc p) [] I') e in
    and_both (leb (length R) s.room) (fits S I') (test_some (leb (length R) s.room) 21 s.kind p w.0) (rooms_none S (suc p) [] I' w.1)
rooms_none (s ∷ S) p (Q ∷ I) (R ∷ I') e =
    let w = or_none (store_fault s p Q R) (stores_fault S (suc p) I I') e in
    and_both (leb (length R) s.room) (fits S I') (test_some (leb (length R) s.room) 21 s.kind p w.0) (rooms_none S (suc p) I I' w.1)

pub none_rooms : (S : List Store) (p : ℕ) (I I' : List Relation) → fits S I' ≡ true → stores_fault S p I I' ≡ None
none_rooms [] p I I' e = refl
none_rooms (s ∷ S) p I [] e = refl
none_rooms (s ∷ S) p [] (R ∷ I') e =
    none_or (store_fault s p [] R) (stores_fault S (suc p) [] I') (none_test (leb (length R) s.room) None 21 s.kind p (and_left (leb (length R) s.room) (fits S I') e) refl) (none_rooms S (suc p) [] I' (and_right (leb (length R) s.room) (fits S I') e))
none_rooms (s ∷ S) p (Q ∷ I) (R ∷ I') e =
    none_or (store_fault s p Q R) (stores_fault S (suc p) I I') (none_test (leb (length R) s.room) None 21 s.kind p (and_left (leb (length R) s.room) (fits S I') e) refl) (none_rooms S (suc p) I I' (and_right (leb (length R) s.room) (fits S I') e))

module _ (o : Order) where
  pub sort_none : (k : ℕ) (S : Sort) (J : Relation) → sort_fault o k S J ≡ None → Meets o S J
  sort_none k S J e =
      let w = or_none (rows_fault o k S None 0 J) (dep_fault k S.deps [] 0 J) e in
      let r = rows_none o k S None 0 J w.0 in
      record { ascending = r.ascends; shaped = r.shapes; admits = λ p g t h. admitted_each S.parts t (r.parts t h) p g; deps = λ d h s t hs ht. deps_none k S.deps [] 0 J w.1 d h s t (inr hs) ht }

  pub none_sort : (k : ℕ) (S : Sort) (J : Relation) → Meets o S J → sort_fault o k S J ≡ None
  none_sort k S J m = none_or (rows_fault o k S None 0 J) (dep_fault k S.deps [] 0 J)
      (none_rows o k S None 0 J (record { first_above = tt; ascends = m.ascending; shapes = m.shaped; parts = λ t h. each_admitted S.parts t (λ p g. m.admits p g t h) }))
      (none_deps k S.deps [] 0 J (λ d h s t hs ht. elim hs [ inl g ↦ absurd g | inr g ↦ m.deps d h s t g ht ]))

pub faults_exact : FaultsExact
faults_exact o K J I = (
  (λ e.
      let w = or_none (sort_fault o K.kind K.sort J) (stores_fault K.stores 0 I (K.puts J I)) e in
      (sort_none o K.kind K.sort J w.0, fits_is K.stores (K.puts J I) (rooms_none K.stores 0 I (K.puts J I) w.1))),
  (λ m. none_or (sort_fault o K.kind K.sort J) (stores_fault K.stores 0 I (K.puts J I)) (none_sort o K.kind K.sort J m.0) (none_rooms K.stores 0 I (K.puts J I) (is_fits K.stores (K.puts J I) m.1))),
)

-- shows
show_none : (b : Bool) (R : Relation) → cond b None (fault 22 0 (length R)) ≡ None → b ≡ true
show_none true R e = refl
show_none false R e = absurd (not_some (record { number = 22; kind = 0; place = length R }) e)

show_some : (b : Bool) (R : Relation) → cond b None (fault 22 0 (length R)) ≡ fault 22 0 (length R) → b ≡ false
show_some true R e = absurd (not_some (record { number = 22; kind = 0; place = length R }) (sym e))
show_some false R e = refl

pub show_exact : ShowExact
show_exact n R = (
  (
    (λ e. leb→le (length R) n (test_is (leb (length R) n) (show_none (leb (length R) n) R e))),
    (λ l. ap (λ b. cond b None (fault 22 0 (length R))) (is_test (leb (length R) n) (le→leb (length R) n l))),
  ),
  (
    (λ e. nleb→lt (length R) n (test_is (not (leb (length R) n)) (not_false (leb (length R) n) (show_some (leb (length R) n) R e)))),
    (λ l. ap (λ b. cond b None (fault 22 0 (length R))) (bool_cases (leb (length R) n) (λ t. absurd (omega (arith, leb→le (length R) n (test_is (leb (length R) n) t)))) (λ t. t))),
  ),
)
