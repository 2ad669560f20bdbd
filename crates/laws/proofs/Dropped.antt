-- Drop keeps the laws.
use Rattle.std.proofs.Common.{◌≡◌, ℕ, zero, suc, Bool, true, false, cond, ◌⊎◌, List, [], ◌∷◌, map, length, Some, None, Option, sym, refl, ap, ◌∙◌, subst, inl, inr, arith}
use mathlib.Core.Path.{fun_ext}
use Rattle.model.specs.ColumnSets.{Apart, ColumnSet, Same, Within, has, non_empty}
use Rattle.model.specs.Dropping.{MayDrop, add_at, add_at_length, cell_or, column_at, determining, drop, drop_dep, drop_deps, drop_part, drop_parts, drop_put, drop_sort, fill, without}
use Rattle.model.specs.Orders.{Order, Total, relation_of}
use Rattle.model.specs.Sorts.{Agree, Column, Dependency, Distinct, Meets, Part, Shaped, Sort, agrees, all_columns}
use Rattle.model.specs.Tables.{Lawful, Rules}
use Rattle.model.specs.TreeForm.{Formed, Leads, RightOnce, TreeForm, more, one, sets}
use Rattle.model.specs.Values.{Relation, Tuple, Value, cell, find, ◌∈◌}
use Rattle.laws.proofs.Cells.{OfKind, agree_sym, agree_trans, agrees_is, is_agrees, is_some, same_length, same_sym, shaped_length, some_is}
use Rattle.laws.proofs.Members.{Found, bool_cases, clash, found, hit, in_filter, in_map, miss, of_filter, of_map}
use Rattle.laws.proofs.Orders.{ascending_relation, in_relation, length_relation, of_relation, same_members}
use Rattle.laws.proofs.Turns.{in_sets_left, in_sets_right, leads_into, same_refl, same_trans}

-- places before and after the column is gone
pub skip : ℕ → ℕ → ℕ
skip zero i = suc i
skip (suc k) zero = zero
skip (suc k) (suc i) = suc (skip k i)

skip_cases : (k j : ℕ) → (j ≡ k) ⊎ ((i : ℕ) × (j ≡ skip k i))
unfolding skip
skip_cases zero zero = inl refl
skip_cases zero (suc j) = inr (j, refl)
skip_cases (suc k) zero = inr (zero, refl)
skip_cases (suc k) (suc j) = elim (skip_cases k j) [ inl e ↦ inl (ap suc e) | inr w ↦ inr (suc w.0, ap suc w.1) ]

cell_without : (k : ℕ) (t : Tuple) (i : ℕ) → cell (without k t) i ≡ cell t (skip k i)
unfolding skip
cell_without zero [] i = refl
cell_without (suc k) [] i = refl
cell_without zero (v ∷ t) i = refl
cell_without (suc k) (v ∷ t) zero = refl
cell_without (suc k) (v ∷ t) (suc i) = cell_without k t i

has_without : (k : ℕ) (X : ColumnSet) (i : ℕ) → has (without k X) i ≡ has X (skip k i)
unfolding skip
has_without zero [] i = refl
has_without (suc k) [] i = refl
has_without zero (v ∷ t) i = refl
has_without (suc k) (v ∷ t) zero = refl
has_without (suc k) (v ∷ t) (suc i) = has_without k t i

pub cell_put : (k : ℕ) (v : Value) (t : Tuple) → cell (add_at k v t) k ≡ v
cell_put zero v t = refl
cell_put (suc k) v [] = cell_put k v []
cell_put (suc k) v (w ∷ t) = cell_put k v t

pub cell_put_skip : (k : ℕ) (v : Value) (t : Tuple) (i : ℕ) → cell (add_at k v t) (skip k i) ≡ cell t i
unfolding skip
cell_put_skip zero v t i = refl
cell_put_skip (suc k) v [] zero = refl
cell_put_skip (suc k) v [] (suc i) = cell_put_skip k v [] i
cell_put_skip (suc k) v (w ∷ t) zero = refl
cell_put_skip (suc k) v (w ∷ t) (suc i) = cell_put_skip k v t i

-- shapes
SomeCode : Option Column → Type 0
SomeCode None = ⊥
SomeCode (Some c) = Unit {0}

not_none : (c : Column) → ◌≡◌ {A = Option Column} None (Some c) → ⊥
unfolding SomeCode
not_none c e = subst SomeCode (sym e) tt

some_inj : (b c : Column) → ◌≡◌ {A = Option Column} (Some b) (Some c) → b ≡ c
some_inj b c e = cc

shaped_without : (k : ℕ) (C : List Column) (t : Tuple) → Shaped C t → Shaped (without k C) (without k t)
shaped_without zero [] [] s = s
shaped_without (suc k) [] [] s = s
shaped_without k [] (v ∷ t) s = absurd s
shaped_without k (c ∷ C) [] s = absurd s
shaped_without zero (c ∷ C) (v ∷ t) s = s.1
shaped_without (suc k) (c ∷ C) (v ∷ t) s = (s.0, shaped_without k C t s.1)

kind_of_cell : (k : ℕ) (C : List Column) (t : Tuple) (c : Column) → column_at C k ≡ Some c → Shaped C t → OfKind c.kind (cell t k)
kind_of_cell k [] t c e s = absurd (not_none c e)
kind_of_cell k (b ∷ C) [] c e s = absurd s
kind_of_cell zero (b ∷ C) (v ∷ t) c e s = subst (λ x. OfKind x.kind v) (some_inj b c e) s.0
kind_of_cell (suc k) (b ∷ C) (v ∷ t) c e s = kind_of_cell k C t c e s.1

pub shaped_put : (k : ℕ) (C : List Column) (t : Tuple) (c : Column) (v : Value) → column_at C k ≡ Some c → OfKind c.kind v → Shaped (without k C) t → Shaped C (add_at k v t)
shaped_put k [] t c v e out s = absurd (not_none c e)
shaped_put zero (b ∷ C) t c v e out s = (subst (λ x. OfKind x.kind v) (sym (some_inj b c e)) out, s)
shaped_put (suc k) (b ∷ C) [] c v e out s = absurd s
shaped_put (suc k) (b ∷ C) (w ∷ t) c v e out s = (s.0, shaped_put k C t c v e out s.1)

without_put : (k : ℕ) (C : List Column) (t : Tuple) (c : Column) (v : Value) → column_at C k ≡ Some c → Shaped (without k C) t → without k (add_at k v t) ≡ t
without_put k [] t c v e s = absurd (not_none c e)
without_put zero (b ∷ C) t c v e s = refl
without_put (suc k) (b ∷ C) [] c v e s = absurd s
without_put (suc k) (b ∷ C) (w ∷ t) c v e s = ap {B = Tuple} (λ l. w ∷ l) (without_put k C t c v e s.1)

pub put_without : (k : ℕ) (C : List Column) (t : Tuple) (c : Column) → column_at C k ≡ Some c → Shaped C t → add_at k (cell t k) (without k t) ≡ t
put_without k [] t c e s = absurd (not_none c e)
put_without k (b ∷ C) [] c e s = absurd s
put_without zero (b ∷ C) (v ∷ t) c e s = refl
put_without (suc k) (b ∷ C) (v ∷ t) c e s = ap {B = Tuple} (λ l. v ∷ l) (put_without k C t c e s.1)

-- agreement
agree_down : (k : ℕ) (X : ColumnSet) (s t : Tuple) → Agree X s t → Agree (without k X) (without k s) (without k t)
agree_down k X s t a i h = cell_without k s i ∙ a (skip k i) (sym (has_without k X i) ∙ h) ∙ sym (cell_without k t i)

-- rows that agree off place k, each with cells at the other places as s and t have them
pub agree_off : (k : ℕ) (X : ColumnSet) (s t s' t' : Tuple) → has X k ≡ false → ((i : ℕ) → cell s' (skip k i) ≡ cell s i) → ((i : ℕ) → cell t' (skip k i) ≡ cell t i) → Agree (without k X) s t → Agree X s' t'
agree_off k X s t s' t' n p q a j h = elim (skip_cases k j) [
  | inl e ↦ clash (has X j) h (ap (has X) e ∙ n)
  | inr w ↦ ap (cell s') w.1 ∙ p w.0 ∙ a w.0 (has_without k X w.0 ∙ ap (has X) (sym w.1) ∙ h) ∙ sym (q w.0) ∙ ap (cell t') (sym w.1)
]

agree_on : (k : ℕ) (X : ColumnSet) (s t s' t' : Tuple) → ((i : ℕ) → cell s' (skip k i) ≡ cell s i) → ((i : ℕ) → cell t' (skip k i) ≡ cell t i) → Agree X s' t' → Agree (without k X) s t
agree_on k X s t s' t' p q a i h = sym (p i) ∙ a (skip k i) (sym (has_without k X i) ∙ h) ∙ q i

pub agree_refl : (X : ColumnSet) (s : Tuple) → Agree X s s
agree_refl X s i h = refl

-- sets
within_down : (k : ℕ) (X Y : ColumnSet) → Within X Y → Within (without k X) (without k Y)
within_down k X Y w i h = has_without k Y i ∙ w (skip k i) (sym (has_without k X i) ∙ h)

apart_down : (k : ℕ) (X Y : ColumnSet) → Apart X Y → Apart (without k X) (without k Y)
apart_down k X Y a i h g = a (skip k i) (sym (has_without k X i) ∙ h) (sym (has_without k Y i) ∙ g)

either_down : (k : ℕ) (X Y : ColumnSet) → Same X Y ⊎ Apart X Y → Same (without k X) (without k Y) ⊎ Apart (without k X) (without k Y)
either_down k X Y (inl s) = inl (within_down k X Y s.0, within_down k Y X s.1)
either_down k X Y (inr a) = inr (apart_down k X Y a)

-- sets that are the same below, one of them not empty there, are the same
same_up : (k : ℕ) (X Y : ColumnSet) → Same X Y ⊎ Apart X Y → non_empty (without k X) ≡ true → Same (without k X) (without k Y) → Same X Y
same_up k X Y (inl s) e t = s
same_up k X Y (inr a) e t = let w = some_is (without k X) e in absurd (apart_down k X Y a w.0 w.1 (t.0 w.0 w.1))

of_sets : (D : List Dependency) (X : ColumnSet) → X ∈ sets D → (d : Dependency) × (d ∈ D) × ((X ≡ d.left) ⊎ (X ≡ d.right))
of_sets [] X h = absurd h
of_sets (d ∷ D) X (inl p) = (d, inl refl, inl p)
of_sets (d ∷ D) X (inr (inl p)) = (d, inl refl, inr p)
of_sets (d ∷ D) X (inr (inr h)) = let w = of_sets D X h in (w.0, inr w.1, w.2)

of_drop_deps : (k : ℕ) (D : List Dependency) (d : Dependency) → d ∈ drop_deps k D → (e : Dependency) × (e ∈ D) × (d ≡ drop_dep k e) × (non_empty (without k e.right) ≡ true)
of_drop_deps k D d h =
    let q = of_filter (λ d. non_empty d.right) d (map (drop_dep k) D) h in
    let w = of_map (drop_dep k) d D q.0 in
    (w.0, w.1, w.2, ap (λ x. non_empty x.right) (sym w.2) ∙ q.1)

in_drop_deps : (k : ℕ) (D : List Dependency) (e : Dependency) → e ∈ D → non_empty (without k e.right) ≡ true → drop_dep k e ∈ drop_deps k D
in_drop_deps k D e h s = in_filter (λ d. non_empty d.right) (drop_dep k e) (map (drop_dep k) D) (in_map (drop_dep k) e D h) s

set_below : (k : ℕ) (D : List Dependency) (X : ColumnSet) → X ∈ sets (drop_deps k D) → (Z : ColumnSet) × (Z ∈ sets D) × (X ≡ without k Z)
set_below k D X h =
    let w = of_sets (drop_deps k D) X h in
    let q = of_drop_deps k D w.0 w.1 in
    elim w.2 [
      | inl p ↦ (q.0.left, in_sets_left D q.0 q.1, p ∙ ap (λ x. x.left) q.2)
      | inr p ↦ (q.0.right, in_sets_right D q.0 q.1, p ∙ ap (λ x. x.right) q.2)
    ]

-- tree form is kept
once_down_at : (k : ℕ) (d : Dependency) (D : List Dependency) (b : Bool) → non_empty (without k d.right) ≡ b → ((e : Dependency) → e ∈ D → Apart d.right e.right) → RightOnce (drop_deps k D) → RightOnce (cond b (drop_dep k d ∷ drop_deps k D) (drop_deps k D))
once_down_at k d D true e f out = (
  (λ g h s.
      let q = of_drop_deps k D g h in
      let w = some_is (without k d.right) e in
      apart_down k d.right q.0.right (f q.0 q.1) w.0 w.1 (subst (λ x. has x.right w.0 ≡ true) q.2 (s.0 w.0 w.1))),
  out,
)
once_down_at k d D false e f out = out

once_down : (k : ℕ) (D : List Dependency) → ((d e : Dependency) → d ∈ D → e ∈ D → Same d.right e.right ⊎ Apart d.right e.right) → RightOnce D → RightOnce (drop_deps k D)
once_down k [] f out = tt
once_down k (d ∷ D) f out = once_down_at k d D (non_empty (without k d.right)) refl
    (λ e h. elim (f d e (inl refl) (inr h)) [ inl s ↦ absurd (out.0 e h s) | inr a ↦ a ])
    (once_down k D (λ x y h g. f x y (inr h) (inr g)) out.1)

leads_from : (D : List Dependency) (W X Y : ColumnSet) → Same W X → Leads D X Y → Leads D W Y
leads_from D W X Y u (one {X = X'} {Z = Y'} d h s t) = one d h (same_trans W X' d.left u s) t
leads_from D W X Y u (more {X = X'} {Y = V} {Z = Y'} p q) = more (leads_from D W X' V u p) q

record Way (k : ℕ) (D : List Dependency) (X Z : ColumnSet) : Type 0 where
  first_dep : Dependency
  last_dep : Dependency
  first_in : first_dep ∈ D
  last_in : last_dep ∈ D
  last_some : non_empty (without k last_dep.right) ≡ true
  begins : Same X (without k first_dep.left)
  ends : Same (without k last_dep.right) Z
  leads : Leads D first_dep.left last_dep.right

meet_ways : (k : ℕ) (D : List Dependency) → TreeForm D → (X Y Z : ColumnSet) (v : Way k D X Y) (w : Way k D Y Z) → Same v.last_dep.right w.first_dep.left
meet_ways k D T X Y Z v w = same_up k v.last_dep.right w.first_dep.left
    (T.equal_or_apart v.last_dep.right w.first_dep.left (in_sets_right D v.last_dep v.last_in) (in_sets_left D w.first_dep w.first_in)) v.last_some
    (same_trans (without k v.last_dep.right) Y (without k w.first_dep.left) v.ends w.begins)

way_below : (k : ℕ) (D : List Dependency) → TreeForm D → (X Z : ColumnSet) → Leads (drop_deps k D) X Z → Way k D X Z
way_below k D T X Z (one {X = X'} {Z = Z'} d h s t) =
    let q = of_drop_deps k D d h in
    record {
      first_dep = q.0;
      last_dep = q.0;
      first_in = q.1;
      last_in = q.1;
      last_some = q.3;
      begins = subst (λ x. Same X' x.left) q.2 s;
      ends = subst (λ x. Same x.right Z') q.2 t;
      leads = one q.0 q.1 (same_refl q.0.left) (same_refl q.0.right);
    }
way_below k D T X Z (more {X = X'} {Y = Y'} {Z = Z'} p r) =
    let v = way_below k D T X' Y' p in
    let w = way_below k D T Y' Z' r in
    record {
      first_dep = v.first_dep;
      last_dep = w.last_dep;
      first_in = v.first_in;
      last_in = w.last_in;
      last_some = w.last_some;
      begins = v.begins;
      ends = w.ends;
      leads = more v.leads (leads_from D v.last_dep.right w.first_dep.left w.last_dep.right (meet_ways k D T X' Y' Z' v w) w.leads);
    }

tree_down : (k : ℕ) (D : List Dependency) → TreeForm D → TreeForm (drop_deps k D)
tree_down k D T = record {
  equal_or_apart = λ X Y h g.
      let v = set_below k D X h in
      let w = set_below k D Y g in
      subst (λ x. Same x Y ⊎ Apart x Y) (sym v.2) (subst (λ y. Same (without k v.0) y ⊎ Apart (without k v.0) y) (sym w.2) (either_down k v.0 w.0 (T.equal_or_apart v.0 w.0 v.1 w.1)));
  right_once = once_down k D (λ d e h g. T.equal_or_apart d.right e.right (in_sets_right D d h) (in_sets_right D e g)) T.right_once;
  no_return = λ X l.
      let v = way_below k D T X X l in
      T.no_return v.first_dep.left (leads_into D v.first_dep.left v.last_dep.right v.first_dep.left v.leads (meet_ways k D T X X X v v));
}

in_without : (k : ℕ) (C : List Column) (c : Column) → c ∈ without k C → c ∈ C
in_without k [] c h = h
in_without zero (b ∷ C) c h = inr h
in_without (suc k) (b ∷ C) c (inl p) = inl p
in_without (suc k) (b ∷ C) c (inr h) = inr (in_without k C c h)

distinct_down : (k : ℕ) (C : List Column) → Distinct C → Distinct (without k C)
distinct_down k [] d = d
distinct_down zero (c ∷ C) d = d.1
distinct_down (suc k) (c ∷ C) d = ((λ e h. d.0 e (in_without k C e h)), distinct_down k C d.1)

all_down : (k : ℕ) (C : List Column) → without k (all_columns C) ≡ all_columns (without k C)
all_down zero [] = refl
all_down (suc k) [] = refl
all_down zero (c ∷ C) = refl
all_down (suc k) (c ∷ C) = ap {B = ColumnSet} (λ l. true ∷ l) (all_down k C)

some_left : (k : ℕ) (X : ColumnSet) → has X k ≡ false → non_empty X ≡ true → non_empty (without k X) ≡ true
some_left k X n e =
    let w = some_is X e in
    elim (skip_cases k w.0) [
      | inl p ↦ clash (has X k) (ap (has X) (sym p) ∙ w.1) n
      | inr q ↦ is_some (without k X) q.0 (has_without k X q.0 ∙ ap (has X) (sym q.1) ∙ w.1)
    ]

formed_down : (k : ℕ) (a : Value) (S : Sort) → MayDrop S k a → Formed S → Formed (drop_sort k a S)
formed_down k a S Y F = record {
  words = distinct_down k S.columns F.words;
  sets_some = λ d h. let q = of_drop_deps k S.deps d h in subst (λ x. (non_empty x.left ≡ true) × (non_empty x.right ≡ true)) (sym q.2) (some_left k q.0.left (Y.in_no_left q.0 q.1) (F.sets_some q.0 q.1).0, q.3);
  sets_within = λ d h.
      let q = of_drop_deps k S.deps d h in
      subst (λ x. Within x.left (all_columns (without k S.columns)) × Within x.right (all_columns (without k S.columns))) (sym q.2)
      (subst (λ Z. Within (without k q.0.left) Z × Within (without k q.0.right) Z) (all_down k S.columns)
      (within_down k q.0.left (all_columns S.columns) (F.sets_within q.0 q.1).0, within_down k q.0.right (all_columns S.columns) (F.sets_within q.0 q.1).1));
  sets_apart = λ d h. let q = of_drop_deps k S.deps d h in subst (λ x. Apart x.left x.right) (sym q.2) (apart_down k q.0.left q.0.right (F.sets_apart q.0 q.1));
  tree = tree_down k S.deps F.tree;
}

-- the parts above
of_drop_parts_at : (k : ℕ) (a : Value) (q : Part) (P : List Part) (b : Bool) → has q.reads k ≡ b → (p : Part) → p ∈ cond b (drop_parts k a P) (drop_part k a q ∷ drop_parts k a P) →
    (p ∈ drop_parts k a P → (r : Part) × (r ∈ P) × (has r.reads k ≡ false) × (p ≡ drop_part k a r)) → (r : Part) × (r ∈ (q ∷ P)) × (has r.reads k ≡ false) × (p ≡ drop_part k a r)
of_drop_parts_at k a q P true e p h ih = let w = ih h in (w.0, inr w.1, w.2, w.3)
of_drop_parts_at k a q P false e p (inl g) ih = (q, inl refl, e, g)
of_drop_parts_at k a q P false e p (inr h) ih = let w = ih h in (w.0, inr w.1, w.2, w.3)

of_drop_parts : (k : ℕ) (a : Value) (P : List Part) (p : Part) → p ∈ drop_parts k a P → (r : Part) × (r ∈ P) × (has r.reads k ≡ false) × (p ≡ drop_part k a r)
of_drop_parts k a [] p h = absurd h
of_drop_parts k a (q ∷ P) p h = of_drop_parts_at k a q P (has q.reads k) refl p h (of_drop_parts k a P p)

in_drop_parts_at : (k : ℕ) (a : Value) (q : Part) (P : List Part) (b : Bool) → has q.reads k ≡ b → (r : Part) → has r.reads k ≡ false → (r ≡ q) ⊎ (r ∈ P) → (r ∈ P → drop_part k a r ∈ drop_parts k a P) →
    drop_part k a r ∈ cond b (drop_parts k a P) (drop_part k a q ∷ drop_parts k a P)
in_drop_parts_at k a q P true e r n (inl p) ih = clash (has r.reads k) (ap (λ x. has x.reads k) p ∙ e) n
in_drop_parts_at k a q P true e r n (inr h) ih = ih h
in_drop_parts_at k a q P false e r n (inl p) ih = inl (ap (drop_part k a) p)
in_drop_parts_at k a q P false e r n (inr h) ih = inr (ih h)

in_drop_parts : (k : ℕ) (a : Value) (P : List Part) (r : Part) → r ∈ P → has r.reads k ≡ false → drop_part k a r ∈ drop_parts k a P
in_drop_parts k a [] r h n = absurd h
in_drop_parts k a (q ∷ P) r h n = in_drop_parts_at k a q P (has q.reads k) refl r n h (λ g. in_drop_parts k a P r g n)

-- the determining dependency
determining_at : (k : ℕ) (d : Dependency) (D : List Dependency) (b : Bool) → has d.right k ≡ b → (e : Dependency) → (e ≡ d) ⊎ (e ∈ D) → has e.right k ≡ true →
    (e ∈ D → (f : Dependency) × (f ∈ D) × (has f.right k ≡ true) × (determining k D ≡ f.left)) → (f : Dependency) × (f ∈ (d ∷ D)) × (has f.right k ≡ true) × (cond b d.left (determining k D) ≡ f.left)
determining_at k d D true p e h g ih = (d, inl refl, p, refl)
determining_at k d D false p e (inl q) g ih = clash (has e.right k) g (ap (λ x. has x.right k) q ∙ p)
determining_at k d D false p e (inr h) g ih = let w = ih h in (w.0, inr w.1, w.2, w.3)

determining_is : (k : ℕ) (D : List Dependency) (e : Dependency) → e ∈ D → has e.right k ≡ true → (f : Dependency) × (f ∈ D) × (has f.right k ≡ true) × (determining k D ≡ f.left)
determining_is k [] e h g = absurd h
determining_is k (d ∷ D) e h g = determining_at k d D (has d.right k) refl e h g (λ m. determining_is k D e m g)

-- dependencies with one right set are one
one_right : (D : List Dependency) → RightOnce D → (d e : Dependency) → d ∈ D → e ∈ D → Same d.right e.right → d ≡ e
one_right [] out d e h g s = absurd h
one_right (x ∷ D) out d e (inl p) (inl q) s = p ∙ sym q
one_right (x ∷ D) out d e (inl p) (inr g) s = absurd (out.0 e g (subst (λ y. Same y.right e.right) p s))
one_right (x ∷ D) out d e (inr h) (inl q) s = absurd (out.0 d h (same_sym d.right x.right (subst (λ y. Same d.right y.right) q s)))
one_right (x ∷ D) out d e (inr h) (inr g) s = one_right D out.1 d e h g s

bool_same : (b c : Bool) → (b ≡ true → c ≡ true) → (c ≡ true → b ≡ true) → b ≡ c
bool_same true c f g = sym (f refl)
bool_same false true f g = g refl
bool_same false false f g = refl

pub length_map : {A B : Type 0} (f : A → B) (l : List A) → length (map f l) ≡ length l
length_map f [] = refl
length_map f (a ∷ l) = ap suc (length_map f l)

module _ (o : Order) (O : Total o) where
  module _ (k : ℕ) (a : Value) (S : Sort) (F : Formed S) (Y : MayDrop S k a) where
    abbrev D : List Dependency
    D = S.deps

    abbrev X : ColumnSet
    X = determining k D

    abbrev at_k : column_at S.columns k ≡ Some Y.column.0
    at_k = Y.column.1

    pub the_dep : (f : Dependency) × (f ∈ D) × (has f.right k ≡ true) × (X ≡ f.left)
    the_dep = determining_is k D Y.in_right.0 Y.in_right.1 Y.in_right.2

    pub determining_of : (e : Dependency) → e ∈ D → has e.right k ≡ true → X ≡ e.left
    determining_of e h g =
        let w = the_dep in
        let s : Same w.0.right e.right = elim (F.tree.equal_or_apart w.0.right e.right (in_sets_right D w.0 w.1) (in_sets_right D e h)) [ inl s ↦ s | inr p ↦ absurd (p k w.2 g) ] in
        w.3 ∙ ap (λ x. x.left) (one_right D F.tree.right_once w.0 e w.1 h s)

    pub off_X : has X k ≡ false
    off_X = let w = the_dep in ap (λ x. has x k) w.3 ∙ Y.in_no_left w.0 w.1

    without_cells : (t : Tuple) (i : ℕ) → cell t (skip k i) ≡ cell (without k t) i
    without_cells t i = sym (cell_without k t i)

    -- what is shown meets the sort above
    pub drop_shown : (I : Relation) → Meets o S I → Meets o (drop_sort k a S) (relation_of o (map (without k) I))
    drop_shown I M = record {
      ascending = ascending_relation o O (map (without k) I);
      shaped = λ t h. let w = source t h in subst (Shaped (without k S.columns)) (sym w.2) (shaped_without k S.columns w.0 (M.shaped w.0 w.1));
      admits = λ p g t h.
          let w = source t h in
          let q = of_drop_parts k a S.parts p g in
          ap (λ x. x.admits t) q.3 ∙ ap (λ x. q.0.admits (add_at k a x)) w.2
          ∙ q.0.alike (add_at k a (without k w.0)) w.0 (same_length S.columns (add_at k a (without k w.0)) w.0 (shaped_put k S.columns (without k w.0) Y.column.0 a at_k Y.column.2 (shaped_without k S.columns w.0 (M.shaped w.0 w.1))) (M.shaped w.0 w.1)) (agree_off k q.0.reads (without k w.0) (without k w.0) (add_at k a (without k w.0)) w.0 q.2 (cell_put_skip k a (without k w.0)) (without_cells w.0) (agree_refl (without k q.0.reads) (without k w.0)))
          ∙ M.admits q.0 q.1 w.0 w.1;
      deps = λ d g s t hs ht.
          let q = of_drop_deps k D d g in
          let v = source s hs in
          let w = source t ht in
          subst (λ x. Agree x.left s t → Agree x.right s t) (sym q.2)
          (subst (λ x. Agree (without k q.0.left) x t → Agree (without k q.0.right) x t) (sym v.2)
          (subst (λ x. Agree (without k q.0.left) (without k v.0) x → Agree (without k q.0.right) (without k v.0) x) (sym w.2)
          (λ b. agree_down k q.0.right v.0 w.0 (M.deps q.0 q.1 v.0 w.0 v.1 w.1
          (agree_off k q.0.left (without k v.0) (without k w.0) v.0 w.0 (Y.in_no_left q.0 q.1) (without_cells v.0) (without_cells w.0) b)))));
    }
      where
        source : (t : Tuple) → t ∈ relation_of o (map (without k) I) → (s : Tuple) × (s ∈ I) × (t ≡ without k s)
        source t h = of_map (without k) t I (of_relation o O (map (without k) I) t h)

    module _ (I : Relation) (MI : Meets o S I) where
      -- the cell put in
      abbrev pub new : Tuple → Value
      new t = cell_or k a (find (agrees X (add_at k a t)) I)

      new_kind_at : (p : Tuple → Bool) (out : Option Tuple) → Found p I out → OfKind Y.column.0.kind (cell_or k a out)
      new_kind_at p out (hit n h e) = kind_of_cell k S.columns n Y.column.0 at_k (MI.shaped n h)
      new_kind_at p out (miss f) = Y.column.2

      pub new_kind : (t : Tuple) → OfKind Y.column.0.kind (new t)
      new_kind t = new_kind_at (agrees X (add_at k a t)) (find (agrees X (add_at k a t)) I) (found (agrees X (add_at k a t)) I)

      -- a part that reads the column alone admits the new cell
      new_admits_at : (q : Tuple → Bool) (out : Option Tuple) → Found q I out → (p : Part) → p ∈ S.parts → has p.reads k ≡ true → (t : Tuple) → Shaped (without k S.columns) t → p.admits (add_at k (cell_or k a out) t) ≡ true
      new_admits_at q out (hit n h e) p g r t st =
          p.alike (add_at k (cell n k) t) n (same_length S.columns (add_at k (cell n k) t) n (shaped_put k S.columns t Y.column.0 (cell n k) at_k (kind_of_cell k S.columns n Y.column.0 at_k (MI.shaped n h)) st) (MI.shaped n h)) (λ i m. let z = (Y.parts_alone p g r).0 i m in ap (cell (add_at k (cell n k) t)) z ∙ cell_put k (cell n k) t ∙ ap (cell n) (sym z)) ∙ MI.admits p g n h
      new_admits_at q out (miss f) p g r t st = (Y.parts_alone p g r).1 (add_at k a t) (shaped_length S.columns (add_at k a t) (shaped_put k S.columns t Y.column.0 a at_k Y.column.2 st)) (cell_put k a t)

      -- rows that agree on X get the same cell
      same_new : (s t : Tuple) → Agree (without k X) s t → new s ≡ new t
      same_new s t b =
          let c : Agree X (add_at k a s) (add_at k a t) = agree_off k X s t (add_at k a s) (add_at k a t) off_X (cell_put_skip k a s) (cell_put_skip k a t) b in
          let e : agrees X (add_at k a s) ≡ agrees X (add_at k a t) = fun_ext (λ n. bool_same (agrees X (add_at k a s) n) (agrees X (add_at k a t) n)
          (λ h. is_agrees X (add_at k a t) n (agree_trans X (add_at k a t) (add_at k a s) n (agree_sym X (add_at k a s) (add_at k a t) c) (agrees_is X (add_at k a s) n h)))
          (λ h. is_agrees X (add_at k a s) n (agree_trans X (add_at k a s) (add_at k a t) n c (agrees_is X (add_at k a t) n h)))) in
          ap (λ p. cell_or k a (find p I)) e

      fill_cells : (t : Tuple) (i : ℕ) → cell (fill k a D I t) (skip k i) ≡ cell t i
      fill_cells t i = cell_put_skip k (new t) t i

      module _ (J : Relation) (MJ : Meets o (drop_sort k a S) J) where
        source : (t : Tuple) → t ∈ drop_put o k a D J I → (s : Tuple) × (s ∈ J) × (t ≡ fill k a D I s)
        source t h = of_map (fill k a D I) t J (of_relation o O (map (fill k a D I) J) t h)

        filled_admits : (p : Part) → p ∈ S.parts → (s : Tuple) → s ∈ J → p.admits (fill k a D I s) ≡ true
        filled_admits p g s h = bool_cases (has p.reads k)
            (λ r. new_admits_at (agrees X (add_at k a s)) (find (agrees X (add_at k a s)) I) (found (agrees X (add_at k a s)) I) p g r s (MJ.shaped s h))
            (λ r. p.alike (fill k a D I s) (add_at k a s) (add_at_length k (new s) a s s refl) (agree_off k p.reads s s (fill k a D I s) (add_at k a s) r (fill_cells s) (cell_put_skip k a s) (agree_refl (without k p.reads) s))
            ∙ MJ.admits (drop_part k a p) (in_drop_parts k a S.parts p g r) s h)

        filled_deps : (e : Dependency) → e ∈ D → (s t : Tuple) → s ∈ J → t ∈ J → Agree e.left (fill k a D I s) (fill k a D I t) → Agree e.right (fill k a D I s) (fill k a D I t)
        filled_deps e g s t hs ht b j h =
            let c : Agree (without k e.left) s t = agree_on k e.left s t (fill k a D I s) (fill k a D I t) (fill_cells s) (fill_cells t) b in
            elim (skip_cases k j) [
              | inl p ↦
                  let z : X ≡ e.left = determining_of e g (ap (has e.right) (sym p) ∙ h) in
                  let x : new s ≡ new t = same_new s t (subst (λ W. Agree (without k W) s t) (sym z) c) in
                  ap (cell (fill k a D I s)) p ∙ cell_put k (new s) s ∙ x ∙ sym (cell_put k (new t) t) ∙ ap (cell (fill k a D I t)) (sym p)
              | inr w ↦
                  let m : has (without k e.right) w.0 ≡ true = has_without k e.right w.0 ∙ ap (has e.right) (sym w.1) ∙ h in
                  let u : cell s w.0 ≡ cell t w.0 = MJ.deps (drop_dep k e) (in_drop_deps k D e g (is_some (without k e.right) w.0 m)) s t hs ht c w.0 m in
                  ap (cell (fill k a D I s)) w.1 ∙ fill_cells s w.0 ∙ u ∙ sym (fill_cells t w.0) ∙ ap (cell (fill k a D I t)) (sym w.1)
            ]

        pub drop_put_meets : Meets o S (drop_put o k a D J I)
        drop_put_meets = record {
          ascending = ascending_relation o O (map (fill k a D I) J);
          shaped = λ t h. let w = source t h in subst (Shaped S.columns) (sym w.2) (shaped_put k S.columns w.0 Y.column.0 (new w.0) at_k (new_kind w.0) (MJ.shaped w.0 w.1));
          admits = λ p g t h. let w = source t h in ap p.admits w.2 ∙ filled_admits p g w.0 w.1;
          deps = λ e g s t hs ht.
              let v = source s hs in
              let w = source t ht in
              subst (λ x. Agree e.left x t → Agree e.right x t) (sym v.2)
              (subst (λ x. Agree e.left (fill k a D I v.0) x → Agree e.right (fill k a D I v.0) x) (sym w.2) (filled_deps e g v.0 w.0 v.1 w.1));
        }

        pub emptied : (s : Tuple) → s ∈ J → without k (fill k a D I s) ≡ s
        emptied s h = without_put k S.columns s Y.column.0 (new s) at_k (MJ.shaped s h)

        pub drop_put_shows : relation_of o (map (without k) (drop_put o k a D J I)) ≡ J
        drop_put_shows = same_members o O (relation_of o (map (without k) (drop_put o k a D J I))) J (ascending_relation o O (map (without k) (drop_put o k a D J I))) MJ.ascending
            (λ t h.
            let v = of_map (without k) t (drop_put o k a D J I) (of_relation o O (map (without k) (drop_put o k a D J I)) t h) in
            let w = source v.0 v.1 in
            subst (λ x. x ∈ J) (sym (v.2 ∙ ap (without k) w.2 ∙ emptied w.0 w.1)) w.1)
            (λ t h. in_relation o O (map (without k) (drop_put o k a D J I)) t (subst (λ x. x ∈ map (without k) (drop_put o k a D J I)) (emptied t h)
            (in_map (without k) (fill k a D I t) (drop_put o k a D J I) (in_relation o O (map (fill k a D I) J) (fill k a D I t) (in_map (fill k a D I) t J h)))))

      -- a row of I without its cell gets it back
      refilled_at : (i : Tuple) → i ∈ I → (out : Option Tuple) → Found (agrees X (add_at k a (without k i))) I out → add_at k (cell_or k a out) (without k i) ≡ i
      refilled_at i h out (hit n g e) =
          let w = the_dep in
          let b : Agree X i n = agree_trans X i (add_at k a (without k i)) n
          (agree_off k X (without k i) (without k i) i (add_at k a (without k i)) off_X (without_cells i) (cell_put_skip k a (without k i)) (agree_refl (without k X) (without k i)))
          (agrees_is X (add_at k a (without k i)) n e) in
          let c : cell n k ≡ cell i k = sym (MI.deps w.0 w.1 i n h g (subst (λ Z. Agree Z i n) w.3 b) k w.2) in
          ap (λ x. add_at k x (without k i)) c ∙ put_without k S.columns i Y.column.0 at_k (MI.shaped i h)
      refilled_at i h out (miss f) = absurd (f i h (is_agrees X (add_at k a (without k i)) i
          (agree_off k X (without k i) (without k i) (add_at k a (without k i)) i off_X (cell_put_skip k a (without k i)) (without_cells i) (agree_refl (without k X) (without k i)))))

      refilled : (i : Tuple) → i ∈ I → fill k a D I (without k i) ≡ i
      refilled i h = refilled_at i h (find (agrees X (add_at k a (without k i))) I) (found (agrees X (add_at k a (without k i))) I)

      abbrev J₀ : Relation
      J₀ = relation_of o (map (without k) I)

      pub drop_show_puts : drop_put o k a D J₀ I ≡ I
      drop_show_puts = same_members o O (drop_put o k a D J₀ I) I (ascending_relation o O (map (fill k a D I) J₀)) MI.ascending
          (λ t h.
          let v = of_map (fill k a D I) t J₀ (of_relation o O (map (fill k a D I) J₀) t h) in
          let w = of_map (without k) v.0 I (of_relation o O (map (without k) I) v.0 v.1) in
          subst (λ x. x ∈ I) (sym (v.2 ∙ ap (fill k a D I) w.2 ∙ refilled w.0 w.1)) w.1)
          (λ t h. in_relation o O (map (fill k a D I) J₀) t (subst (λ x. x ∈ map (fill k a D I) J₀) (refilled t h)
          (in_map (fill k a D I) (without k t) J₀ (in_relation o O (map (without k) I) (without k t) (in_map (without k) t I h)))))

  pub drop_lawful : (k : ℕ) (a : Value) (K : Rules) → MayDrop K.sort k a → Lawful o K → Lawful o (drop o k a K)
  drop_lawful k a K Y L =
      let S = K.sort in
      let F = L.formed in
      record {
        formed = formed_down k a S Y F;
        shown_meets = λ I s. drop_shown k a S F Y (K.shows I) (L.shown_meets I s);
        put_meets = λ J I s M. L.put_meets (drop_put o k a S.deps J (K.shows I)) I s (drop_put_meets k a S F Y (K.shows I) (L.shown_meets I s) J M);
        put_shows = λ J I s M. ap (λ R. relation_of o (map (without k) R)) (L.put_shows (drop_put o k a S.deps J (K.shows I)) I s (drop_put_meets k a S F Y (K.shows I) (L.shown_meets I s) J M))
            ∙ drop_put_shows k a S F Y (K.shows I) (L.shown_meets I s) J M;
        show_puts = λ I s. ap (λ R. K.puts R I) (drop_show_puts k a S F Y (K.shows I) (L.shown_meets I s)) ∙ L.show_puts I s;
        no_more = λ I s. omega (arith, length_relation o O (map (without k) (K.shows I)), length_map (without k) (K.shows I), L.no_more I s);
      }
