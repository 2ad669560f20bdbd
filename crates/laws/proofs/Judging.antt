-- The fault that is judged is the one that is due.
use Rattle.std.proofs.Common.{◌≡◌, ℕ, suc, ◌+◌, ◌<◌, Bool, true, false, cond, not, ◌&&◌, leb, ◌⊎◌, List, [], ◌∷◌, ◌++◌, length, Some, None, Option, sym, refl, ap, ◌∙◌, subst, ap₂, inl, inr, arith, le→leb, leb→le}
use lib.Dec.{nleb→lt}
use Rattle.model.specs.Decisions.{shaped}
use Rattle.model.specs.Faults.{Fault, fault, or_then}
use Rattle.model.specs.Joining.{others}
use Rattle.model.specs.Judging.{above, breaks, dep_fault, judge, row_fault, rows_fault, stores_fault}
use Rattle.model.specs.Orders.{Ascending, Order}
use Rattle.model.specs.Refusals.{Due, RowsRight, breaks_dependency, no_room, not_above, not_admitted, wrong_cells}
use Rattle.model.specs.Sorts.{Dependency, MeetsDeps, Sort, admitted, agrees}
use Rattle.model.specs.Tables.{Fits, Rules, Store}
use Rattle.model.specs.Values.{Relation, Tuple, any, ◌∈◌}
use Rattle.laws.specs.Faults.{JudgeDue}
use Rattle.laws.proofs.Cells.{admitted_each, agrees_is, is_agrees, is_test, test_is}
use Rattle.laws.proofs.Meeting.{is_shaped, shaped_is}
use Rattle.laws.proofs.Members.{and_left, and_right, bool_cases, clash, in_append_left, in_append_right, not_false, not_true, of_any}
use Rattle.laws.proofs.Refusing.{Above, RowsFine, above_is, deps_none, is_above, none_deps, none_rows, none_sort, or_none, rows_none, test_not}

-- options of faults are told apart
SomeCode : Option Fault → Type 0
SomeCode None = ⊥
SomeCode (Some f) = Unit {0}

not_none : (f : Fault) → ◌≡◌ {A = Option Fault} None (Some f) → ⊥
unfolding SomeCode
not_none f e = subst SomeCode (sym e) tt

the : Fault → Option Fault → Fault
the d None = d
the d (Some f) = f

some_inj : (f g : Fault) → ◌≡◌ {A = Option Fault} (Some f) (Some g) → f ≡ g
unfolding the
some_inj f g e = ap (the f) e

abbrev at : ℕ → ℕ → ℕ → Fault
at n k p = record { number = n; kind = k; place = p }

move_on : (n k p : ℕ) (l : ℕ) → at n k (suc p + l) ≡ at n k (p + suc l)
move_on n k p l = ap (at n k) (omega arith)

from_zero : (n k l : ℕ) → at n k (0 + l) ≡ at n k l
from_zero n k l = ap (at n k) (omega arith)

module _ (o : Order) where
  above_none : (J : Relation) → Above o None J
  above_none J = tt

  not_le : (m n : ℕ) → n < m → leb m n ≡ false
  not_le m n l = bool_cases (leb m n) (λ e. absurd (omega (arith, leb→le m n (test_is (leb m n) e)))) (λ e. e)

  -- rows: the first that has a fault
  last_of : Option Tuple → Relation → Option Tuple
  last_of out [] = out
  last_of out (x ∷ l) = last_of (Some x) l

  record FirstRow (k : ℕ) (S : Sort) (out : Option Tuple) (p : ℕ) (J : Relation) (f : Fault) : Type 0 where
    earlier : Relation
    later : Relation
    t : Tuple
    split : J ≡ earlier ++ t ∷ later
    fine : rows_fault o k S out p earlier ≡ None
    due : row_fault o k S (last_of out earlier) (p + length earlier) t ≡ Some f

  first_row_at : (k : ℕ) (S : Sort) (out : Option Tuple) (p : ℕ) (t : Tuple) (J : Relation) (f : Fault) (r : Option Fault) → row_fault o k S out p t ≡ r → (rows_fault o k S (Some t) (suc p) J ≡ Some f → FirstRow k S (Some t) (suc p) J f) →
      or_then r (rows_fault o k S (Some t) (suc p) J) ≡ Some f → FirstRow k S out p (t ∷ J) f
  unfolding last_of
  first_row_at k S out p t J f None e rec h =
      let w = rec h in
      record {
        earlier = t ∷ w.earlier;
        later = w.later;
        t = w.t;
        split = ap {B = Relation} (λ l. t ∷ l) w.split;
        fine = ap₂ or_then e w.fine;
        due = ap (λ q. row_fault o k S (last_of (Some t) w.earlier) q w.t) (omega arith) ∙ w.due;
      }
  first_row_at k S out p t J f (Some g) e rec h = record { earlier = []; later = J; t = t; split = refl; fine = refl; due = ap (λ q. row_fault o k S out q t) (omega arith) ∙ e ∙ h }

  first_row : (k : ℕ) (S : Sort) (out : Option Tuple) (p : ℕ) (J : Relation) (f : Fault) → rows_fault o k S out p J ≡ Some f → FirstRow k S out p J f
  first_row k S out p [] f e = absurd (not_none f e)
  first_row k S out p (t ∷ J) f e = first_row_at k S out p t J f (row_fault o k S out p t) refl (first_row k S (Some t) (suc p) J f) e

  -- a row above the last
  above_head : (out : Option Tuple) (x : Tuple) (l m : Relation) → Above o out (x ∷ l) → Above o out (x ∷ m)
  above_head None x l m a = tt
  above_head (Some s) x l m a = a

  rising : (out : Option Tuple) (l : Relation) (t : Tuple) → Above o out l → Ascending o l → above o (last_of out l) t ≡ true → Above o out (l ++ t ∷ []) × Ascending o (l ++ t ∷ [])
  unfolding last_of
  rising out [] t a r e = (above_is o out t [] e, (tt, tt))
  rising out (x ∷ l) t a r e = let w = rising (Some x) l t r.0 r.1 e in (above_head out x l (l ++ t ∷ []) a, (w.0, w.1))

  risen : (out : Option Tuple) (l : Relation) (t : Tuple) → Above o out (l ++ t ∷ []) → Ascending o (l ++ t ∷ []) → above o (last_of out l) t ≡ true
  unfolding last_of
  risen out [] t a r = is_above o out t [] a
  risen out (x ∷ l) t a r = risen (Some x) l t r.0 r.1

  right : (S : Sort) (J : Relation) → RowsFine o S None J → RowsRight o S J
  right S J r = record { ascending = r.ascends; shaped = r.shapes; admits = r.parts }

  row_due : (K : Rules) (J : Relation) (I : List Relation) (f : Fault) (earlier later : Relation) (t : Tuple) → J ≡ earlier ++ t ∷ later → RowsFine o K.sort None earlier → (a b c : Bool) → shaped K.sort.columns t ≡ a → above o (last_of None earlier) t ≡ b → admitted K.sort.parts t ≡ c →
      cond a (cond b (cond c None (fault 19 K.kind (0 + length earlier))) (fault 18 K.kind (0 + length earlier))) (fault 17 K.kind (0 + length earlier)) ≡ Some f → Due o K J I f
  row_due K J I f earlier later t e r false b c ea eb ec h = subst (Due o K J I) (sym (from_zero 17 K.kind (length earlier)) ∙ some_inj (at 17 K.kind (0 + length earlier)) f h)
      (wrong_cells earlier later t e (right K.sort earlier r) (λ m. clash (shaped K.sort.columns t) (is_shaped K.sort.columns t m) ea))
  row_due K J I f earlier later t e r true false c ea eb ec h = subst (Due o K J I) (sym (from_zero 18 K.kind (length earlier)) ∙ some_inj (at 18 K.kind (0 + length earlier)) f h)
      (not_above earlier later t e (right K.sort earlier r) (shaped_is K.sort.columns t ea) (λ m. clash (above o (last_of None earlier) t) (risen None earlier t tt m) eb))
  row_due K J I f earlier later t e r true true false ea eb ec h = subst (Due o K J I) (sym (from_zero 19 K.kind (length earlier)) ∙ some_inj (at 19 K.kind (0 + length earlier)) f h)
      (not_admitted earlier later t e (right K.sort earlier r) (shaped_is K.sort.columns t ea) (rising None earlier t tt r.ascends eb).1 ec)
  row_due K J I f earlier later t e r true true true ea eb ec h = absurd (not_none f h)

  -- dependencies: the first row that breaks one
  onto : Relation → Relation → Relation
  onto E [] = E
  onto E (x ∷ l) = onto (x ∷ E) l

  of_onto : (E l : Relation) (s : Tuple) → s ∈ onto E l → (s ∈ E) ⊎ (s ∈ l)
  unfolding onto
  of_onto E [] s h = inl h
  of_onto E (x ∷ l) s h = elim (of_onto (x ∷ E) l s h) [ inl g ↦ elim g [ inl q ↦ inr (inl q) | inr m ↦ inl m ] | inr g ↦ inr (inr g) ]

  record FirstBreak (k : ℕ) (D : List Dependency) (E : Relation) (p : ℕ) (J : Relation) (f : Fault) : Type 0 where
    earlier : Relation
    later : Relation
    t : Tuple
    split : J ≡ earlier ++ t ∷ later
    fine : dep_fault k D E p earlier ≡ None
    broken : breaks D (onto E earlier) t ≡ true
    due : at 20 k (p + length earlier) ≡ f

  first_break_at : (k : ℕ) (D : List Dependency) (E : Relation) (p : ℕ) (t : Tuple) (J : Relation) (f : Fault) (b : Bool) → breaks D E t ≡ b → (dep_fault k D (t ∷ E) (suc p) J ≡ Some f → FirstBreak k D (t ∷ E) (suc p) J f) →
      cond b (fault 20 k p) (dep_fault k D (t ∷ E) (suc p) J) ≡ Some f → FirstBreak k D E p (t ∷ J) f
  unfolding onto
  first_break_at k D E p t J f true e rec h = record { earlier = []; later = J; t = t; split = refl; fine = refl; broken = e; due = ap (at 20 k) (omega arith) ∙ some_inj (at 20 k p) f h }
  first_break_at k D E p t J f false e rec h =
      let w = rec h in
      record {
        earlier = t ∷ w.earlier;
        later = w.later;
        t = w.t;
        split = ap {B = Relation} (λ l. t ∷ l) w.split;
        fine = ap (λ b. cond b (fault 20 k p) (dep_fault k D (t ∷ E) (suc p) w.earlier)) e ∙ w.fine;
        broken = w.broken;
        due = sym (move_on 20 k p (length w.earlier)) ∙ w.due;
      }

  first_break : (k : ℕ) (D : List Dependency) (E : Relation) (p : ℕ) (J : Relation) (f : Fault) → dep_fault k D E p J ≡ Some f → FirstBreak k D E p J f
  first_break k D E p [] f e = absurd (not_none f e)
  first_break k D E p (t ∷ J) f e = first_break_at k D E p t J f (breaks D E t) refl (first_break k D (t ∷ E) (suc p) J f) e

  broken_not : (D : List Dependency) (l : Relation) (t : Tuple) → breaks D (onto [] l) t ≡ true → MeetsDeps D (l ++ t ∷ []) → ⊥
  broken_not D l t e M =
      let E = onto [] l in
      let w = of_any (λ d. any (λ s. agrees d.left s t && not (agrees d.right s t)) E) D e in
      let d = w.0 in
      let v = of_any (λ s. agrees d.left s t && not (agrees d.right s t)) E w.2 in
      let s = v.0 in
      let m : s ∈ (l ++ t ∷ []) = elim (of_onto [] l s v.1) [ inl g ↦ absurd g | inr g ↦ in_append_left s l (t ∷ []) g ] in
      clash (agrees d.right s t)
      (is_agrees d.right s t (M d w.1 s t m (in_append_right t l (t ∷ []) (inl refl)) (agrees_is d.left s t (and_left (agrees d.left s t) (not (agrees d.right s t)) v.2))))
      (not_true (agrees d.right s t) (and_right (agrees d.left s t) (not (agrees d.right s t)) v.2))

  -- rooms: what the stores held is no matter
  abbrev room_fault : List Store → ℕ → List Relation → Option Fault
  room_fault [] p I = None
  room_fault (s ∷ S) p [] = None
  room_fault (s ∷ S) p (R ∷ I) = cond (leb (length R) s.room) (room_fault S (suc p) I) (fault 21 s.kind p)

  one_room : (b : Bool) (x y : Option Fault) (n k p : ℕ) → x ≡ y → or_then (cond b None (fault n k p)) x ≡ cond b y (fault n k p)
  one_room true x y n k p e = e
  one_room false x y n k p e = refl

  rooms_same : (S : List Store) (p : ℕ) (I I' : List Relation) → stores_fault S p I I' ≡ room_fault S p I'
  rooms_same [] p I I' = refl
  rooms_same (s ∷ S) p I [] = refl
  rooms_same (s ∷ S) p [] (R ∷ I') = one_room (leb (length R) s.room) (stores_fault S (suc p) [] I') (room_fault S (suc p) I') 21 s.kind p (rooms_same S (suc p) [] I')
  rooms_same (s ∷ S) p (Q ∷ I) (R ∷ I') = one_room (leb (length R) s.room) (stores_fault S (suc p) I I') (room_fault S (suc p) I') 21 s.kind p (rooms_same S (suc p) I I')

  -- the first store that would exceed its own room
  record FirstStore (S : List Store) (p : ℕ) (I : List Relation) (f : Fault) : Type 0 where
    before : List Store
    after : List Store
    s : Store
    fitting : List Relation
    others : List Relation
    R : Relation
    split : S ≡ before ++ s ∷ after
    splits : I ≡ fitting ++ R ∷ others
    as_many : length before ≡ length fitting
    fits : Fits before fitting
    exceeds : s.room < length R
    due : at 21 s.kind (p + length before) ≡ f

  first_store_at : (s : Store) (S : List Store) (p : ℕ) (R : Relation) (I : List Relation) (f : Fault) (b : Bool) → leb (length R) s.room ≡ b → (room_fault S (suc p) I ≡ Some f → FirstStore S (suc p) I f) →
      cond b (room_fault S (suc p) I) (fault 21 s.kind p) ≡ Some f → FirstStore (s ∷ S) p (R ∷ I) f
  first_store_at s S p R I f true e rec h =
      let w = rec h in
      record {
        before = s ∷ w.before;
        after = w.after;
        s = w.s;
        fitting = R ∷ w.fitting;
        others = w.others;
        R = w.R;
        split = ap {B = List Store} (λ l. s ∷ l) w.split;
        splits = ap {B = List Relation} (λ l. R ∷ l) w.splits;
        as_many = ap suc w.as_many;
        fits = (leb→le (length R) s.room (test_is (leb (length R) s.room) e), w.fits);
        exceeds = w.exceeds;
        due = sym (move_on 21 w.s.kind p (length w.before)) ∙ w.due;
      }
  first_store_at s S p R I f false e rec h = record {
    before = [];
    after = S;
    s = s;
    fitting = [];
    others = I;
    R = R;
    split = refl;
    splits = refl;
    as_many = refl;
    fits = tt;
    exceeds = nleb→lt (length R) s.room (test_is (not (leb (length R) s.room)) (not_false (leb (length R) s.room) e));
    due = ap (at 21 s.kind) (omega arith) ∙ some_inj (at 21 s.kind p) f h;
  }

  first_store : (S : List Store) (p : ℕ) (I : List Relation) (f : Fault) → room_fault S p I ≡ Some f → FirstStore S p I f
  first_store [] p I f e = absurd (not_none f e)
  first_store (s ∷ S) p [] f e = absurd (not_none f e)
  first_store (s ∷ S) p (R ∷ I) f e = first_store_at s S p R I f (leb (length R) s.room) refl (first_store S (suc p) I f) e

  -- all
  module _ (K : Rules) (J : Relation) (I : List Relation) (f : Fault) where
    by_row : rows_fault o K.kind K.sort None 0 J ≡ Some f → Due o K J I f
    by_row e =
        let w = first_row K.kind K.sort None 0 J f e in
        row_due K J I f w.earlier w.later w.t w.split (rows_none o K.kind K.sort None 0 w.earlier w.fine) (shaped K.sort.columns w.t) (above o (last_of None w.earlier) w.t) (admitted K.sort.parts w.t) refl refl refl w.due

    by_dependency : rows_fault o K.kind K.sort None 0 J ≡ None → dep_fault K.kind K.sort.deps [] 0 J ≡ Some f → Due o K J I f
    by_dependency r e =
        let w = first_break K.kind K.sort.deps [] 0 J f e in
        subst (Due o K J I) (sym (from_zero 20 K.kind (length w.earlier)) ∙ w.due)
        (breaks_dependency w.earlier w.later w.t w.split (right K.sort J (rows_none o K.kind K.sort None 0 J r))
        (λ d h s t hs ht. deps_none K.kind K.sort.deps [] 0 w.earlier w.fine d h s t (inr hs) ht) (broken_not K.sort.deps w.earlier w.t w.broken))

    by_room : rows_fault o K.kind K.sort None 0 J ≡ None → dep_fault K.kind K.sort.deps [] 0 J ≡ None → room_fault K.stores 0 (K.puts J I) ≡ Some f → Due o K J I f
    by_room r d e =
        let w = first_store K.stores 0 (K.puts J I) f e in
        let q = rows_none o K.kind K.sort None 0 J r in
        subst (Due o K J I) (sym (from_zero 21 w.s.kind (length w.before)) ∙ w.due)
        (no_room (record { ascending = q.ascends; shaped = q.shapes; admits = λ p g t h. admitted_each K.sort.parts t (q.parts t h) p g; deps = λ x g s t hs ht. deps_none K.kind K.sort.deps [] 0 J d x g s t (inr hs) ht })
        w.before w.after w.s w.fitting w.others w.R w.split w.splits w.as_many w.fits w.exceeds)

    in_turn : (out q r : Option Fault) → rows_fault o K.kind K.sort None 0 J ≡ out → dep_fault K.kind K.sort.deps [] 0 J ≡ q → room_fault K.stores 0 (K.puts J I) ≡ r → or_then (or_then out q) r ≡ Some f → Due o K J I f
    in_turn (Some g) q r eo eq er h = by_row (eo ∙ h)
    in_turn None (Some g) r eo eq er h = by_dependency eo (eq ∙ h)
    in_turn None None r eo eq er h = by_room eo eq (er ∙ h)

  -- And a fault that is due is judged.
  rows_reach : (k : ℕ) (S : Sort) (out : Option Tuple) (p : ℕ) (l : Relation) (t : Tuple) (r : Relation) (f : Fault) → rows_fault o k S out p l ≡ None → row_fault o k S (last_of out l) (p + length l) t ≡ Some f → rows_fault o k S out p (l ++ t ∷ r) ≡ Some f
  unfolding last_of
  rows_reach k S out p [] t r f n e = ap (λ x. or_then x (rows_fault o k S (Some t) (suc p) r)) (ap (λ q. row_fault o k S out q t) (omega arith) ∙ e)
  rows_reach k S out p (x ∷ l) t r f n e =
      let w = or_none (row_fault o k S out p x) (rows_fault o k S (Some x) (suc p) l) n in
      ap₂ or_then w.0 (rows_reach k S (Some x) (suc p) l t r f w.1 (ap (λ q. row_fault o k S (last_of (Some x) l) q t) (omega arith) ∙ e))

  deps_reach : (k : ℕ) (D : List Dependency) (E : Relation) (p : ℕ) (l : Relation) (t : Tuple) (r : Relation) → dep_fault k D E p l ≡ None → breaks D (onto E l) t ≡ true → dep_fault k D E p (l ++ t ∷ r) ≡ Some (at 20 k (p + length l))
  unfolding onto
  deps_reach k D E p [] t r n e = ap (λ b. cond b (fault 20 k p) (dep_fault k D (t ∷ E) (suc p) r)) e ∙ ap (λ q. fault 20 k q) (omega arith)
  deps_reach k D E p (x ∷ l) t r n e =
      let w = test_not (breaks D E x) (dep_fault k D (x ∷ E) (suc p) l) 20 k p n in
      ap (λ b. cond b (fault 20 k p) (dep_fault k D (x ∷ E) (suc p) (l ++ t ∷ r))) w.0 ∙ deps_reach k D (x ∷ E) (suc p) l t r w.1 e ∙ ap {B = Option Fault} Some (move_on 20 k p (length l))

  deps_pass : (k : ℕ) (D : List Dependency) (E : Relation) (p : ℕ) (l : Relation) (t : Tuple) → dep_fault k D E p l ≡ None → breaks D (onto E l) t ≡ false → dep_fault k D E p (l ++ t ∷ []) ≡ None
  unfolding onto
  deps_pass k D E p [] t n e = ap (λ b. cond b (fault 20 k p) None) e
  deps_pass k D E p (x ∷ l) t n e =
      let w = test_not (breaks D E x) (dep_fault k D (x ∷ E) (suc p) l) 20 k p n in
      ap (λ b. cond b (fault 20 k p) (dep_fault k D (x ∷ E) (suc p) (l ++ t ∷ []))) w.0 ∙ deps_pass k D (x ∷ E) (suc p) l t w.1 e

  room_reach : (S after : List Store) (s : Store) (p : ℕ) (I others : List Relation) (R : Relation) → length S ≡ length I → Fits S I → s.room < length R → room_fault (S ++ s ∷ after) p (I ++ R ∷ others) ≡ Some (at 21 s.kind (p + length S))
  room_reach [] after s p [] others R n f x = ap (λ b. cond b (room_fault after (suc p) others) (fault 21 s.kind p)) (not_le (length R) s.room x) ∙ ap (λ q. fault 21 s.kind q) (omega arith)
  room_reach [] after s p (Q ∷ I) others R n f x = absurd (omega (arith, n))
  room_reach (u ∷ S) after s p [] others R n f x = absurd (omega (arith, n))
  room_reach (u ∷ S) after s p (Q ∷ I) others R n f x =
      ap (λ b. cond b (room_fault (S ++ s ∷ after) (suc p) (I ++ R ∷ others)) (fault 21 u.kind p)) (is_test (leb (length Q) u.room) (le→leb (length Q) u.room f.0))
      ∙ room_reach S after s (suc p) I others R (omega (arith, n)) f.1 x ∙ ap {B = Option Fault} Some (move_on 21 s.kind p (length S))

  fine : (S : Sort) (J : Relation) → RowsRight o S J → RowsFine o S None J
  fine S J r = record { first_above = tt; ascends = r.ascending; shapes = r.shaped; parts = r.admits }

  not_so : (b : Bool) → (b ≡ true → ⊥) → b ≡ false
  not_so true n = absurd (n refl)
  not_so false n = refl

  module _ (K : Rules) (J : Relation) (I : List Relation) where
    abbrev k : ℕ
    k = K.kind

    abbrev S : Sort
    S = K.sort

    -- the row t has the fault
    reach : (l r : Relation) (t : Tuple) (f : Fault) → J ≡ l ++ t ∷ r → RowsRight o S l → row_fault o k S (last_of None l) (0 + length l) t ≡ Some f → judge o K J I ≡ Some f
    reach l r t f e g d = ap (λ x. or_then (or_then x (dep_fault k S.deps [] 0 J)) (stores_fault K.stores 0 I (K.puts J I))) (ap (rows_fault o k S None 0) e ∙ rows_reach k S None 0 l t r f (none_rows o k S None 0 l (fine S l g)) d)

    -- what the three tests say of it
    tests : (l : Relation) (t : Tuple) (a b c : Bool) (f : Fault) → shaped S.columns t ≡ a → above o (last_of None l) t ≡ b → admitted S.parts t ≡ c →
        cond a (cond b (cond c None (fault 19 k (0 + length l))) (fault 18 k (0 + length l))) (fault 17 k (0 + length l)) ≡ Some f → row_fault o k S (last_of None l) (0 + length l) t ≡ Some f
    tests l t a b c f ea eb ec h = (λ i. cond (ea i) (cond (eb i) (cond (ec i) None (fault 19 k (0 + length l))) (fault 18 k (0 + length l))) (fault 17 k (0 + length l))) ∙ h

    reached : (f : Fault) → Due o K J I f → judge o K J I ≡ Some f
    reached f (wrong_cells l r t e g n) = reach l r t _ e g
        (tests l t false (above o (last_of None l) t) (admitted S.parts t) _ (not_so (shaped S.columns t) (λ x. n (shaped_is S.columns t x))) refl refl (ap {B = Option Fault} Some (from_zero 17 k (length l))))
    reached f (not_above l r t e g h n) = reach l r t _ e g
        (tests l t true false (admitted S.parts t) _ (is_shaped S.columns t h) (not_so (above o (last_of None l) t) (λ x. n (rising None l t tt g.ascending x).1)) refl (ap {B = Option Fault} Some (from_zero 18 k (length l))))
    reached f (not_admitted l r t e g h a n) = reach l r t _ e g (tests l t true true false _ (is_shaped S.columns t h) (risen None l t (above_none (l ++ t ∷ [])) a) n (ap {B = Option Fault} Some (from_zero 19 k (length l))))
    reached f (breaks_dependency l r t e g m n) =
        let d = none_deps k S.deps [] 0 l (λ d h s t hs ht. elim hs [ inl x ↦ absurd x | inr x ↦ m d h s t x ht ]) in
        let b : breaks S.deps (onto [] l) t ≡ true = bool_cases (breaks S.deps (onto [] l) t) (λ x. x) (λ x. absurd (n (λ d' h s u hs ht. deps_none k S.deps [] 0 (l ++ t ∷ []) (deps_pass k S.deps [] 0 l t d x) d' h s u (inr hs) ht))) in
        ap₂ (λ x y. or_then (or_then x y) (stores_fault K.stores 0 I (K.puts J I))) (none_rows o k S None 0 J (fine S J g))
        (ap (dep_fault k S.deps [] 0) e ∙ deps_reach k S.deps [] 0 l t r d b ∙ ap {B = Option Fault} Some (from_zero 20 k (length l)))
    reached f (no_room m before after s fitting others R e q n g x) =
        ap₂ or_then (none_sort o k S J m)
        (rooms_same K.stores 0 I (K.puts J I) ∙ ap₂ (λ A B. room_fault A 0 B) e q ∙ room_reach before after s 0 fitting others R n g x ∙ ap {B = Option Fault} Some (from_zero 21 s.kind (length before)))

  judge_is : (K : Rules) (J : Relation) (I : List Relation) (f : Fault) → judge o K J I ≡ Some f → Due o K J I f
  judge_is K J I f e = in_turn K J I f (rows_fault o K.kind K.sort None 0 J) (dep_fault K.kind K.sort.deps [] 0 J) (stores_fault K.stores 0 I (K.puts J I)) refl refl (sym (rooms_same K.stores 0 I (K.puts J I))) e

pub judge_due : JudgeDue
judge_due o K J I f = (judge_is o K J I f, reached o K J I f)
