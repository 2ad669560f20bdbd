-- The ledger keeps sorts and rooms, and what views show.
use Rattle.std.proofs.Common.{◌≡◌, ℕ, zero, suc, ◌<◌, ◌≤◌, List, [], ◌∷◌, map, length, Some, None, Option, sym, refl, ap, ◌∙◌, subst, ap₂, inl, inr, arith}
use Rattle.model.specs.Faults.{Fault}
use Rattle.model.specs.Ledger.{Call, State, close_view, due, new_stores, open_refused, open_view, put, relation_at, set_at, set_stores, set_view, show, shown, step, stores_of, try, unless_due}
use Rattle.model.specs.Orders.{Order, Total}
use Rattle.model.specs.Piles.{Once, Pile, View, places, rules, table_at}
use Rattle.model.specs.Promise.{OnView, empty}
use Rattle.model.specs.Sorts.{Meets, Sort}
use Rattle.model.specs.Tables.{Fits, Rules, Store, Stored, first}
use Rattle.model.specs.Values.{Relation, ◌∈◌}
use Rattle.laws.specs.Promise.{BeginsEmpty}
use Rattle.laws.specs.Views.{Stands}
use Rattle.laws.proofs.Members.{map_cong}
use Rattle.laws.proofs.Piling.{views_stand}
use Rattle.laws.proofs.Refusing.{faults_exact}

module _ (o : Order) where
  -- empty tables
  empty_meets : (S : Sort) → Meets o S []
  empty_meets S = record { ascending = tt; shaped = λ t h. absurd h; admits = λ p g t h. absurd h; deps = λ d g s t h. absurd h }

  empty_stored : (T : List Store) → Stored o T (empty T).relations
  empty_stored [] = tt
  empty_stored (s ∷ T) = (empty_meets s.sort, empty_stored T)

  empty_fits : (T : List Store) → Fits T (empty T).relations
  empty_fits [] = tt
  empty_fits (s ∷ T) = (omega arith, empty_fits T)

  empty_rows : (T : List Store) (p : ℕ) → relation_at (empty T).relations p ≡ []
  empty_rows [] p = refl
  empty_rows (s ∷ T) zero = refl
  empty_rows (s ∷ T) (suc p) = empty_rows T p

  pub empty_begins : (T : List Store) → BeginsEmpty o T
  empty_begins T = record { meets = empty_stored T; within_room = empty_fits T; no_rows = empty_rows T }

module _ (o : Order) (O : Total o) where
  -- one table
  meets_at : (T : List Store) (L : List Relation) (p : ℕ) → Stored o T L → p < length T → Meets o (table_at T p).sort (relation_at L p)
  meets_at [] L p h l = absurd (omega arith)
  meets_at (t ∷ T) [] p h l = absurd h
  meets_at (t ∷ T) (R ∷ L) zero h l = h.0
  meets_at (t ∷ T) (R ∷ L) (suc p) h l = meets_at T L p h.1 (omega arith)

  fits_at : (T : List Store) (L : List Relation) (p : ℕ) → Stored o T L → Fits T L → p < length T → length (relation_at L p) ≤ (table_at T p).room
  fits_at [] L p h f l = absurd (omega arith)
  fits_at (t ∷ T) [] p h f l = absurd h
  fits_at (t ∷ T) (R ∷ L) zero h f l = f.0
  fits_at (t ∷ T) (R ∷ L) (suc p) h f l = fits_at T L p h.1 f.1 (omega arith)

  set_stored : (T : List Store) (L : List Relation) (p : ℕ) (R : Relation) → Stored o T L → p < length T → Meets o (table_at T p).sort R → Stored o T (set_at L p R)
  set_stored [] L p R h l m = absurd (omega arith)
  set_stored (t ∷ T) [] p R h l m = absurd h
  set_stored (t ∷ T) (Q ∷ L) zero R h l m = (m, h.1)
  set_stored (t ∷ T) (Q ∷ L) (suc p) R h l m = (h.0, set_stored T L p R h.1 (omega arith) m)

  set_fits : (T : List Store) (L : List Relation) (p : ℕ) (R : Relation) → Stored o T L → Fits T L → p < length T → length R ≤ (table_at T p).room → Fits T (set_at L p R)
  set_fits [] L p R h f l m = absurd (omega arith)
  set_fits (t ∷ T) [] p R h f l m = absurd h
  set_fits (t ∷ T) (Q ∷ L) zero R h f l m = (m, f.1)
  set_fits (t ∷ T) (Q ∷ L) (suc p) R h f l m = (f.0, set_fits T L p R h.1 f.1 (omega arith) m)

  at_set : (T : List Store) (L : List Relation) (p : ℕ) (R : Relation) → Stored o T L → p < length T → relation_at (set_at L p R) p ≡ R
  at_set [] L p R h l = absurd (omega arith)
  at_set (t ∷ T) [] p R h l = absurd h
  at_set (t ∷ T) (Q ∷ L) zero R h l = refl
  at_set (t ∷ T) (Q ∷ L) (suc p) R h l = at_set T L p R h.1 (omega arith)

  at_other : (L : List Relation) (p q : ℕ) (R : Relation) → (q ≡ p → ⊥) → relation_at (set_at L p R) q ≡ relation_at L q
  at_other [] p q R n = refl
  at_other (Q ∷ L) zero zero R n = absurd (n refl)
  at_other (Q ∷ L) zero (suc q) R n = refl
  at_other (Q ∷ L) (suc p) zero R n = refl
  at_other (Q ∷ L) (suc p) (suc q) R n = at_other L p q R (λ e. n (ap suc e))

  set_own : (L : List Relation) (p : ℕ) → set_at L p (relation_at L p) ≡ L
  set_own [] p = refl
  set_own (Q ∷ L) zero = refl
  set_own (Q ∷ L) (suc p) = ap {B = List Relation} (λ l. Q ∷ l) (set_own L p)

  -- the stores of a view
  module _ (T : List Store) where
    abbrev On : List ℕ → Type 0
    On ps = (p : ℕ) → p ∈ ps → p < length T

    abbrev tables : List ℕ → List Store
    tables ps = map (table_at T) ps

    read_stored : (ps : List ℕ) (L : List Relation) → On ps → Stored o T L → Stored o (tables ps) (stores_of ps L)
    read_stored [] L out h = tt
    read_stored (p ∷ ps) L out h = (meets_at T L p h (out p (inl refl)), read_stored ps L (λ q g. out q (inr g)) h)

    read_fits : (ps : List ℕ) (L : List Relation) → On ps → Stored o T L → Fits T L → Fits (tables ps) (stores_of ps L)
    read_fits [] L out h f = tt
    read_fits (p ∷ ps) L out h f = (fits_at T L p h f (out p (inl refl)), read_fits ps L (λ q g. out q (inr g)) h f)

    write_stored : (ps : List ℕ) (I L : List Relation) → On ps → Stored o (tables ps) I → Stored o T L → Stored o T (set_stores ps I L)
    write_stored [] I L out i h = h
    write_stored (p ∷ ps) [] L out i h = h
    write_stored (p ∷ ps) (R ∷ I) L out i h = set_stored T (set_stores ps I L) p R (write_stored ps I L (λ q g. out q (inr g)) i.1 h) (out p (inl refl)) i.0

    write_fits : (ps : List ℕ) (I L : List Relation) → On ps → Stored o (tables ps) I → Fits (tables ps) I → Stored o T L → Fits T L → Fits T (set_stores ps I L)
    write_fits [] I L out i j h f = f
    write_fits (p ∷ ps) [] L out i j h f = f
    write_fits (p ∷ ps) (R ∷ I) L out i j h f = set_fits T (set_stores ps I L) p R (write_stored ps I L (λ q g. out q (inr g)) i.1 h) (write_fits ps I L (λ q g. out q (inr g)) i.1 j.1 h f) (out p (inl refl)) j.0

    read_written : (ps : List ℕ) (I L : List Relation) → On ps → Once ps → Stored o (tables ps) I → Stored o T L → stores_of ps (set_stores ps I L) ≡ I
    read_written [] [] L out u i h = refl
    read_written [] (R ∷ I) L out u i h = absurd i
    read_written (p ∷ ps) [] L out u i h = absurd i
    read_written (p ∷ ps) (R ∷ I) L out u i h = ap₂ {C = List Relation} ◌∷◌
        (at_set T (set_stores ps I L) p R (write_stored ps I L (λ q g. out q (inr g)) i.1 h) (out p (inl refl)))
        (map_cong (relation_at (set_at (set_stores ps I L) p R)) (relation_at (set_stores ps I L)) ps (λ q g. at_other (set_stores ps I L) p q R (λ e. u.0 (subst (λ x. x ∈ ps) e g)))
        ∙ read_written ps I L (λ q g. out q (inr g)) u.1 i.1 h)

  write_read : (ps : List ℕ) (L : List Relation) → set_stores ps (stores_of ps L) L ≡ L
  write_read [] L = refl
  write_read (p ∷ ps) L = ap (λ M. set_at M p (relation_at L p)) (write_read ps L) ∙ set_own L p

  written_other : (ps : List ℕ) (I L : List Relation) (q : ℕ) → (q ∈ ps → ⊥) → relation_at (set_stores ps I L) q ≡ relation_at L q
  written_other [] I L q n = refl
  written_other (p ∷ ps) [] L q n = refl
  written_other (p ∷ ps) (R ∷ I) L q n = at_other (set_stores ps I L) p q R (λ e. n (inl e)) ∙ written_other ps I L q (λ h. n (inr h))

  -- one put
  if_none : {A : Type 0} (x : Option Fault) (P : A → Type 0) (M L : A) → (x ≡ None → P M) → P L → P (unless_due x M L)
  if_none None P M L f h = f refl
  if_none (Some f) P M L g h = h

  none_is : {A : Type 0} (x : Option Fault) (M L : A) → x ≡ None → unless_due x M L ≡ M
  none_is x M L e = ap (λ y. unless_due y M L) e

  module _ (T : List Store) (z : State) (v : Pile) (J : Relation) where
    pub stay : (p : ℕ) → (p ∈ places v → ⊥) → relation_at (step o T z (put v J)).relations p ≡ relation_at z.relations p
    stay p n = if_none (due o T v J z) (λ y. relation_at y.relations p ≡ relation_at z.relations p) (set_view v (new_stores o T v J z) z) z (λ e. written_other (places v) (new_stores o T v J z) z.relations p n) refl

  module _ (T : List Store) (z : State) (h : Stored o T z.relations) (f : Fits T z.relations) (v : Pile) (V : View o T v) where
    abbrev K : Rules
    K = rules o T v

    abbrev ps : List ℕ
    ps = places v

    abbrev L : List Relation
    L = z.relations

    abbrev I : List Relation
    I = stores_of ps L

    st : Stands o T v
    st = views_stand o O T v V

    pub own_stored : Stored o K.stores I
    own_stored = subst (λ S. Stored o S I) (sym st.stores) (read_stored T ps L st.within h)

    own_fits : Fits K.stores I
    own_fits = subst (λ S. Fits S I) (sym st.stores) (read_fits T ps L st.within h f)

    -- what is shown is accepted and changes nothing
    pub own_accepted : due o T v (shown o T v z) z ≡ None
    own_accepted = (faults_exact o K (shown o T v z) I).1 (st.lawful.shown_meets I own_stored, subst (Fits K.stores) (sym (st.lawful.show_puts I own_stored)) own_fits)

    pub own_nothing : step o T z (put v (shown o T v z)) ≡ z
    own_nothing = none_is (due o T v (shown o T v z) z) (set_view v (new_stores o T v (shown o T v z) z) z) z own_accepted
        ∙ ap {B = State} (λ x. record { relations = x }) (ap (λ x. set_stores ps x L) (st.lawful.show_puts I own_stored) ∙ write_read ps L)

    module _ (J : Relation) where
      new_stored : due o T v J z ≡ None → Stored o (map (table_at T) ps) (new_stores o T v J z)
      new_stored e = subst (λ S. Stored o S (new_stores o T v J z)) st.stores (st.lawful.put_meets J I own_stored ((faults_exact o K J I).0 e).0)

      put_stored : Stored o T (step o T z (put v J)).relations
      put_stored = if_none (due o T v J z) (λ y. Stored o T y.relations) (set_view v (new_stores o T v J z) z) z (λ e. write_stored T ps (new_stores o T v J z) L st.within (new_stored e) h) h

      put_fits : Fits T (step o T z (put v J)).relations
      put_fits = if_none (due o T v J z) (λ y. Fits T y.relations) (set_view v (new_stores o T v J z) z) z
          (λ e. write_fits T ps (new_stores o T v J z) L st.within (new_stored e) (subst (λ S. Fits S (new_stores o T v J z)) st.stores ((faults_exact o K J I).0 e).1) h f) f

      pub put_shown : due o T v J z ≡ None → shown o T v (step o T z (put v J)) ≡ J
      put_shown e = ap (λ y. K.shows (stores_of ps y.relations)) (none_is (due o T v J z) (set_view v (new_stores o T v J z) z) z e)
          ∙ ap K.shows (read_written T ps (new_stores o T v J z) L st.within V.once (new_stored e) h)
          ∙ st.lawful.put_shows J I own_stored ((faults_exact o K J I).0 e).0

  -- any call
  pub call_stored : (T : List Store) (z : State) → Stored o T z.relations → Fits T z.relations → (c : Call) → OnView o T c → Stored o T (step o T z c).relations × Fits T (step o T z c).relations
  call_stored T z h f (open_refused x) V = (h, f)
  call_stored T z h f (open_view v) V = (h, f)
  call_stored T z h f (show v n) V = (h, f)
  call_stored T z h f (try v J) V = (h, f)
  call_stored T z h f (put v J) V = (put_stored T z h f v V J, put_fits T z h f v V J)
  call_stored T z h f (close_view v) V = (h, f)

  -- a view of empty tables shows nothing
  first_empty : (L : List Relation) (ps : List ℕ) → ((p : ℕ) → p ∈ ps → relation_at L p ≡ []) → first (stores_of ps L) ≡ []
  first_empty L [] e = refl
  first_empty L (p ∷ ps) e = e p (inl refl)

  no_rows : (R : Relation) → length R ≤ 0 → R ≡ []
  no_rows [] l = refl
  no_rows (t ∷ R) l = absurd (omega arith)

  pub shown_none : (T : List Store) (z : State) → Stored o T z.relations → Fits T z.relations → (v : Pile) → View o T v → ((p : ℕ) → p ∈ places v → relation_at z.relations p ≡ []) → shown o T v z ≡ []
  shown_none T z h f v V e = no_rows (shown o T v z) (subst (λ R. length (shown o T v z) ≤ length R) (first_empty z.relations (places v) e) ((views_stand o O T v V).lawful.no_more (stores_of (places v) z.relations) (own_stored T z h f v V)))
