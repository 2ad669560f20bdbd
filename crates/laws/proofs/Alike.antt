-- To be one view is an equivalence, and openings of one view have the same tables, show and put alike, and have the same faults.
use Rattle.std.proofs.Common.{◌≡◌, ℕ, suc, Bool, true, false, cond, not, ◌&&◌, List, [], ◌∷◌, ◌++◌, map, length, Some, None, Option, sym, refl, ap, ◌∙◌, subst, ap₂, inl, inr}
use mathlib.Core.Bool.{false≢true}
use Rattle.model.specs.ColumnSets.{has}
use Rattle.model.specs.Decisions.{shaped}
use Rattle.model.specs.Dropping.{MayDrop, add_at, drop, drop_deps, drop_part, drop_parts, drop_put, fill, without}
use Rattle.model.specs.Faults.{fault, or_then}
use Rattle.model.specs.Joining.{MayJoin, join, join_columns, join_deps, join_left, join_right, join_show, left_stores, merge, project_rows, right_stores, strays}
use Rattle.model.specs.Judging.{above, dep_fault, judge, rows_fault, sort_fault, stores_fault}
use Rattle.model.specs.Orders.{Order, Total, relation_of}
use Rattle.model.specs.Piles.{OneView, Pile, Premises, SameCondition, dropping, joining, places, renaming, rules, same_drop, same_join, same_rename, same_select, same_source, selecting, source}
use Rattle.model.specs.Projecting.{lift_part, project}
use Rattle.model.specs.Renaming.{rename, rename_at}
use Rattle.model.specs.Revision.{revise}
use Rattle.model.specs.Selecting.{Predicate, hidden, select, select_put}
use Rattle.model.specs.Sorts.{Column, Dependency, Meets, Part, Shaped, Sort, admitted}
use Rattle.model.specs.Tables.{Lawful, Rules, Store, Stored}
use Rattle.model.specs.TreeForm.{in_order}
use Rattle.model.specs.Values.{Relation, Tuple, Value, filter, ◌∈◌}
use Rattle.laws.specs.Layers.{AdmittedBelow}
use Rattle.laws.specs.Views.{Alike, OneViewAlike, OneViewEquivalence}
use Rattle.laws.proofs.Cells.{admitted_append, shaped_length}
use Rattle.laws.proofs.Dropped.{cell_put, new_kind, shaped_put}
use Rattle.laws.proofs.Joined.{shape_left, shape_right, stored_after, stored_before}
use Rattle.laws.proofs.Meeting.{shaped_is}
use Rattle.laws.proofs.Members.{of_append, of_filter, of_map}
use Rattle.laws.proofs.Orders.{of_relation}
use Rattle.laws.proofs.Piling.{piles_lawful}
use Rattle.laws.proofs.Refusing.{or_then_cong, sort_none}
use Rattle.laws.proofs.Renamed.{shaped_down}
use Rattle.laws.proofs.Revising.{AllShaped, shaped_by}

pub admitted_lift : (C B : List Column) (P : List Part) (t : Tuple) → admitted (map (lift_part C B) P) t ≡ admitted P (project C B t)
admitted_lift C B [] t = refl
admitted_lift C B (p ∷ P) t = ap (λ b. p.admits (project C B t) && b) (admitted_lift C B P t)

and_true : (a b : Bool) → a ≡ true → (a && b) ≡ b
and_true true b e = refl
and_true false b e = absurd (false≢true e)

-- parts that read a dropped column admit the default
abbrev pub Alone : ℕ → Tuple → List Part → Type 0
Alone k t P = (p : Part) → p ∈ P → has p.reads k ≡ true → p.admits t ≡ true

admitted_drop_at : (k : ℕ) (a : Value) (p : Part) (P : List Part) (t : Tuple) (b : Bool) → (b ≡ true → p.admits (add_at k a t) ≡ true) → admitted (drop_parts k a P) t ≡ admitted P (add_at k a t) →
    admitted (cond b (drop_parts k a P) (drop_part k a p ∷ drop_parts k a P)) t ≡ (p.admits (add_at k a t) && admitted P (add_at k a t))
admitted_drop_at k a p P t true f e = e ∙ sym (and_true (p.admits (add_at k a t)) (admitted P (add_at k a t)) (f refl))
admitted_drop_at k a p P t false f e = ap (λ b. p.admits (add_at k a t) && b) e

pub admitted_drop : (k : ℕ) (a : Value) (P : List Part) (t : Tuple) → Alone k (add_at k a t) P → admitted (drop_parts k a P) t ≡ admitted P (add_at k a t)
admitted_drop k a [] t h = refl
admitted_drop k a (p ∷ P) t h = admitted_drop_at k a p P t (has p.reads k) (h p (inl refl)) (admitted_drop k a P t (λ q g. h q (inr g)))

pub filter_cong : {A : Type 0} (p q : A → Bool) (l : List A) → ((a : A) → a ∈ l → p a ≡ q a) → filter p l ≡ filter q l
filter_cong p q [] f = refl
filter_cong p q (a ∷ l) f = ap₂ (λ b m. cond b (a ∷ m) m) (f a (inl refl)) (filter_cong p q l (λ b h. f b (inr h)))

cond_cong : {A : Type 0} (b : Bool) (x y z : A) → (b ≡ true → x ≡ y) → cond b x z ≡ cond b y z
cond_cong true x y z f = f refl
cond_cong false x y z f = refl

pub admitted_below : AdmittedBelow
admitted_below = record {
  by_select = λ P S t. admitted_append P.parts S.parts t;
  by_drop = λ k a S m t s. admitted_drop k a S.parts t
      (λ p g r. (m.parts_alone p g r).1 (add_at k a t) (shaped_length S.columns (add_at k a t) (shaped_put k S.columns t m.column.0 a m.column.1 m.column.2 s)) (cell_put k a t));
  by_rename = λ k w S t. refl;
  by_join = λ S T t.
      let C = join_columns S.columns T.columns in
      admitted_append (map (lift_part C S.columns) S.parts) (map (lift_part C T.columns) T.parts) t
      ∙ ap₂ ◌&&◌ (admitted_lift C S.columns S.parts t) (admitted_lift C T.columns T.parts t);
}

-- a join's rules look at columns and dependencies alone
bare : List Column → List Dependency → Sort
bare C D = record { columns = C; deps = D; parts = [] }

module _ (o : Order) (O : Total o) where
  abbrev RowsShaped : Rules → Relation → Type 0
  RowsShaped K J = AllShaped K.sort.columns J

  -- each layer
  module _ (P Q : Predicate) (K L : Rules) (e : (t : Tuple) → Shaped K.sort.columns t → admitted P.parts t ≡ admitted Q.parts t) (LK : Lawful o K) (A : Alike o K L) where
    select_shaped : (J I : Relation) → RowsShaped K J → RowsShaped K I → RowsShaped K (select_put o P K.sort.deps J I)
    select_shaped J I j i t h = elim (of_append t J (filter (hidden P) (map (revise K.sort.deps J) (filter (hidden P) I))) (of_relation o O (J ++ filter (hidden P) (map (revise K.sort.deps J) (filter (hidden P) I))) t h)) [
      | inl g ↦ j t g
      | inr g ↦
          let w = of_map (revise K.sort.deps J) t (filter (hidden P) I) (of_filter (hidden P) t (map (revise K.sort.deps J) (filter (hidden P) I)) g).0 in
          subst (Shaped K.sort.columns) (sym w.2) (shaped_by K.sort.columns (in_order K.sort.deps) J w.0 j (i w.0 (of_filter (hidden P) w.0 I w.1).0))
    ]

    hidden_same : (l : List Tuple) → RowsShaped K l → filter (hidden P) l ≡ filter (hidden Q) l
    hidden_same l s = filter_cong (hidden P) (hidden Q) l (λ t h. ap not (e t (s t h)))

    select_same : (J I : Relation) → RowsShaped K J → RowsShaped K I → select_put o P K.sort.deps J I ≡ select_put o Q K.sort.deps J I
    select_same J I j i =
        let D = K.sort.deps in
        ap (λ l. relation_of o (J ++ l))
        (hidden_same (map (revise D J) (filter (hidden P) I))
        (λ t h. let w = of_map (revise D J) t (filter (hidden P) I) h in
        subst (Shaped K.sort.columns) (sym w.2) (shaped_by K.sort.columns (in_order D) J w.0 j (i w.0 (of_filter (hidden P) w.0 I w.1).0)))
        ∙ ap (λ l. filter (hidden Q) (map (revise D J) l)) (hidden_same I i))

    shown_shaped : (I : List Relation) → Stored o K.stores I → RowsShaped K (K.shows I)
    shown_shaped I s = (LK.shown_meets I s).shaped

    select_alike : Alike o (select o P K) (select o Q L)
    select_alike = record {
      kind = refl;
      columns = A.columns;
      deps = A.deps;
      admits = λ t s. admitted_append P.parts K.sort.parts t ∙ ap₂ ◌&&◌ (e t s) (A.admits t s) ∙ sym (admitted_append Q.parts L.sort.parts t);
      stores = A.stores;
      shows = λ I s. filter_cong (admitted P.parts) (admitted Q.parts) (K.shows I) (λ t h. e t (shown_shaped I s t h)) ∙ ap (filter (admitted Q.parts)) (A.shows I s);
      puts = λ J I s j.
          A.puts (select_put o P K.sort.deps J (K.shows I)) I s (select_shaped J (K.shows I) j (shown_shaped I s))
          ∙ ap (λ R. L.puts R I) (select_same J (K.shows I) j (shown_shaped I s) ∙ ap₂ (λ D R. select_put o Q D J R) A.deps (A.shows I s));
    }

  module _ (k : ℕ) (a : Value) (K L : Rules) (m : MayDrop K.sort k a) (n : MayDrop L.sort k a) (LK : Lawful o K) (A : Alike o K L) where
    -- the tuple with the default in its place
    default_shaped : (t : Tuple) → Shaped (without k K.sort.columns) t → Shaped K.sort.columns (add_at k a t)
    default_shaped t s = shaped_put k K.sort.columns t m.column.0 a m.column.1 m.column.2 s

    drop_shaped : (J I : Relation) → AllShaped (without k K.sort.columns) J → Meets o K.sort I → RowsShaped K (drop_put o k a K.sort.deps J I)
    drop_shaped J I j M t h =
        let w = of_map (fill k a K.sort.deps I) t J (of_relation o O (map (fill k a K.sort.deps I) J) t h) in
        subst (Shaped K.sort.columns) (sym w.2) (shaped_put k K.sort.columns w.0 m.column.0 _ m.column.1 (new_kind o O k a K.sort LK.formed m I M w.0) (j w.0 w.1))

    drop_alike : Alike o (drop o k a K) (drop o k a L)
    drop_alike = record {
      kind = refl;
      columns = ap (without k) A.columns;
      deps = ap (drop_deps k) A.deps;
      admits = λ t s.
          let d = default_shaped t s in
          let l = shaped_length K.sort.columns (add_at k a t) d in
          admitted_drop k a K.sort.parts t (λ p g r. (m.parts_alone p g r).1 (add_at k a t) l (cell_put k a t))
          ∙ A.admits (add_at k a t) d
          ∙ sym (admitted_drop k a L.sort.parts t (λ p g r. (n.parts_alone p g r).1 (add_at k a t) (l ∙ ap length A.columns) (cell_put k a t)));
      stores = A.stores;
      shows = λ I s. ap (λ R. relation_of o (map (without k) R)) (A.shows I s);
      puts = λ J I s j.
          A.puts (drop_put o k a K.sort.deps J (K.shows I)) I s (drop_shaped J (K.shows I) j (LK.shown_meets I s))
          ∙ ap (λ R. L.puts R I) (ap₂ (λ D R. drop_put o k a D J R) A.deps (A.shows I s));
    }

  rename_alike : (k : ℕ) (n : List ℕ) (K L : Rules) → Alike o K L → Alike o (rename k n K) (rename k n L)
  rename_alike k n K L A = record {
    kind = refl;
    columns = ap (rename_at k n) A.columns;
    deps = A.deps;
    admits = λ t s. A.admits t (shaped_down k n K.sort.columns t s);
    stores = A.stores;
    shows = A.shows;
    puts = λ J I s j. A.puts J I s (λ t h. shaped_down k n K.sort.columns t (j t h));
  }

  module _ (K L M N : Rules) (Y : MayJoin K.sort M.sort) (LK : Lawful o K) (LM : Lawful o M) (A : Alike o K L) (B : Alike o M N) where
    abbrev U : List Column
    U = K.sort.columns

    abbrev V : List Column
    V = M.sort.columns

    abbrev C : List Column
    C = join_columns U V

    left_shaped : (t : Tuple) → Shaped C t → Shaped U (project C U t)
    left_shaped t s = shape_left o O K.sort M.sort LK.formed LM.formed Y t s

    right_shaped : (t : Tuple) → Shaped C t → Shaped V (project C V t)
    right_shaped t s = shape_right o O K.sort M.sort LK.formed LM.formed Y t s

    -- rows projected to a side, merged with those of the side
    merge_shaped : (E : List Column) (D : List Dependency) (J I : Relation) → AllShaped E J → AllShaped E I → AllShaped E (merge o D J I)
    merge_shaped E D J I j i t h = elim (of_append t J (map (revise D J) I) (of_relation o O (J ++ map (revise D J) I) t h)) [
      | inl g ↦ j t g
      | inr g ↦ let w = of_map (revise D J) t I g in subst (Shaped E) (sym w.2) (shaped_by E (in_order D) J w.0 j (i w.0 w.1))
    ]

    project_shaped : (E : List Column) (J : Relation) → ((t : Tuple) → t ∈ J → Shaped E (project C E t)) → AllShaped E (project_rows o C E J)
    project_shaped E J j t h = let w = of_map (project C E) t J (of_relation o O (map (project C E) J) t h) in subst (Shaped E) (sym w.2) (j w.0 w.1)

    module _ (I : List Relation) (s : Stored o (K.stores ++ M.stores) I) where
      abbrev I₁ : List Relation
      I₁ = left_stores K.stores I

      abbrev I₂ : List Relation
      I₂ = right_stores K.stores I

      s₁ : Stored o K.stores I₁
      s₁ = stored_before o O K.stores M.stores I s

      s₂ : Stored o M.stores I₂
      s₂ = stored_after o O K.stores M.stores I s

      left_same : K.shows I₁ ≡ L.shows (left_stores L.stores I)
      left_same = A.shows I₁ s₁ ∙ ap (λ S. L.shows (left_stores S I)) A.stores

      right_same : M.shows I₂ ≡ N.shows (right_stores L.stores I)
      right_same = B.shows I₂ s₂ ∙ ap (λ S. N.shows (right_stores S I)) A.stores

      shows_same : (join o K M).shows I ≡ (join o L N).shows I
      unfolding bare
      shows_same = λ i. join_show o (bare (A.columns i) (A.deps i)) (bare (B.columns i) (B.deps i)) (left_same i) (right_same i)

      module _ (J : Relation) (j : AllShaped C J) where
        abbrev N' : Relation
        N' = join_right o K.sort M.sort J (M.shows I₂)

        abbrev M' : Relation
        M' = join_left o K.sort M.sort J (K.shows I₁) N'

        N_same : N' ≡ join_right o L.sort N.sort J (N.shows (right_stores L.stores I))
        unfolding bare
        N_same = λ i. join_right o (bare (A.columns i) (A.deps i)) (bare (B.columns i) (B.deps i)) J (right_same i)

        M_same : M' ≡ join_left o L.sort N.sort J (L.shows (left_stores L.stores I)) (join_right o L.sort N.sort J (N.shows (right_stores L.stores I)))
        unfolding bare
        M_same = λ i. join_left o (bare (A.columns i) (A.deps i)) (bare (B.columns i) (B.deps i)) J (left_same i) (N_same i)

        N_shaped : RowsShaped M N'
        N_shaped = merge_shaped V M.sort.deps (project_rows o C V J) (M.shows I₂) (project_shaped V J (λ t h. right_shaped t (j t h))) (LM.shown_meets I₂ s₂).shaped

        M_shaped : RowsShaped K M'
        M_shaped t h = merge_shaped U K.sort.deps (project_rows o C U J) (K.shows I₁) (project_shaped U J (λ t h. left_shaped t (j t h))) (LK.shown_meets I₁ s₁).shaped t
            (of_filter (λ m. not (strays U V J N' m)) t (merge o K.sort.deps (project_rows o C U J) (K.shows I₁)) h).0

        puts_same : (join o K M).puts J I ≡ (join o L N).puts J I
        puts_same = ap₂ {C = List Relation} ◌++◌
            (A.puts M' I₁ s₁ M_shaped ∙ ap₂ (λ R S. L.puts R (left_stores S I)) M_same A.stores)
            (B.puts N' I₂ s₂ N_shaped ∙ ap₂ (λ R S. N.puts R (right_stores S I)) N_same A.stores)

    join_alike : Alike o (join o K M) (join o L N)
    unfolding bare
    join_alike =
        let C' = join_columns L.sort.columns N.sort.columns in
        record {
          kind = refl;
          columns = ap₂ join_columns A.columns B.columns;
          deps = λ i. join_deps (bare (A.columns i) (A.deps i)) (bare (B.columns i) (B.deps i));
          admits = λ t s.
              admitted_append (map (lift_part C U) K.sort.parts) (map (lift_part C V) M.sort.parts) t
              ∙ ap₂ ◌&&◌ (admitted_lift C U K.sort.parts t ∙ A.admits (project C U t) (left_shaped t s)) (admitted_lift C V M.sort.parts t ∙ B.admits (project C V t) (right_shaped t s))
              ∙ (λ i. admitted L.sort.parts (project (join_columns (A.columns i) (B.columns i)) (A.columns i) t) && admitted N.sort.parts (project (join_columns (A.columns i) (B.columns i)) (B.columns i) t))
              ∙ sym (ap₂ ◌&&◌ (admitted_lift C' L.sort.columns L.sort.parts t) (admitted_lift C' N.sort.columns N.sort.parts t))
              ∙ sym (admitted_append (map (lift_part C' L.sort.columns) L.sort.parts) (map (lift_part C' N.sort.columns) N.sort.parts) t);
          stores = ap₂ {C = List Store} ◌++◌ A.stores B.stores;
          shows = shows_same;
          puts = λ J I s j. puts_same I s J j;
        }

-- one view is an equivalence
module _ (o : Order) (T : List Store) where
  abbrev columns_of : Pile → List Column
  columns_of v = (rules o T v).sort.columns

  one_columns : (v w : Pile) → OneView o T v w → columns_of v ≡ columns_of w
  one_columns v w (same_source p) = refl
  one_columns v w (same_select {v = x} {w = y} c u) = one_columns x y u
  one_columns v w (same_drop k a {v = x} {w = y} u) = ap (without k) (one_columns x y u)
  one_columns v w (same_rename k n {v = x} {w = y} u) = ap (rename_at k n) (one_columns x y u)
  one_columns v w (same_join {v = x} {w = y} {x = x'} {y = y'} u u') = ap₂ join_columns (one_columns x y u) (one_columns x' y' u')

  condition_refl : (C : List Column) (P : Predicate) → SameCondition C P P
  condition_refl C P = record { reads = ((λ i h. h), (λ i h. h)); admits = λ t s. refl }

  condition_sym : (C D : List Column) → C ≡ D → (P Q : Predicate) → SameCondition C P Q → SameCondition D Q P
  condition_sym C D e P Q c = record { reads = (c.reads.1, c.reads.0); admits = λ t s. sym (c.admits t (subst (λ E. Shaped E t) (sym e) s)) }

  condition_trans : (C D : List Column) → C ≡ D → (P Q R : Predicate) → SameCondition C P Q → SameCondition D Q R → SameCondition C P R
  condition_trans C D e P Q R c d =
      record { reads = ((λ i h. d.reads.0 i (c.reads.0 i h)), (λ i h. c.reads.1 i (d.reads.1 i h))); admits = λ t s. c.admits t s ∙ d.admits t (subst (λ E. Shaped E t) e s) }

  one_refl : (v : Pile) → OneView o T v v
  one_refl (source p) = same_source p
  one_refl (selecting P v) = same_select (condition_refl (columns_of v) P) (one_refl v)
  one_refl (dropping k a v) = same_drop k a (one_refl v)
  one_refl (renaming k n v) = same_rename k n (one_refl v)
  one_refl (joining v w) = same_join (one_refl v) (one_refl w)

  one_sym : (v w : Pile) → OneView o T v w → OneView o T w v
  one_sym v w (same_source p) = same_source p
  one_sym v w (same_select {P = P} {Q = Q} {v = x} {w = y} c u) = same_select (condition_sym (columns_of x) (columns_of y) (one_columns x y u) P Q c) (one_sym x y u)
  one_sym v w (same_drop k a {v = x} {w = y} u) = same_drop k a (one_sym x y u)
  one_sym v w (same_rename k n {v = x} {w = y} u) = same_rename k n (one_sym x y u)
  one_sym v w (same_join {v = x} {w = y} {x = x'} {y = y'} u u') = same_join (one_sym x y u) (one_sym x' y' u')

  one_trans : (u v w : Pile) → OneView o T u v → OneView o T v w → OneView o T u w
  one_trans u v w (same_source p) (same_source q) = same_source p
  one_trans u v w (same_select {P = P} {Q = Q} {v = x} {w = y} c a) (same_select {Q = R} {w = z} d b) =
      same_select (condition_trans (columns_of x) (columns_of y) (one_columns x y a) P Q R c d) (one_trans x y z a b)
  one_trans u v w (same_drop k a {v = x} {w = y} p) (same_drop l b {w = z} q) = same_drop k a (one_trans x y z p q)
  one_trans u v w (same_rename k n {v = x} {w = y} p) (same_rename l m {w = z} q) = same_rename k n (one_trans x y z p q)
  one_trans u v w (same_join {v = x} {w = y} {x = x'} {y = y'} a p) (same_join {w = z} {y = z'} q r) = same_join (one_trans x y z a q) (one_trans x' y' z' p r)

pub one_view_equivalence : OneViewEquivalence
one_view_equivalence o T = record { reflexive = one_refl o T; symmetric = one_sym o T; transitive = one_trans o T }

module _ (o : Order) (O : Total o) where
  alike_refl : (K : Rules) → Alike o K K
  alike_refl K = record { kind = refl; columns = refl; deps = refl; admits = λ t s. refl; stores = refl; shows = λ I s. refl; puts = λ J I s j. refl }

  piles_alike : (T : List Store) (v w : Pile) → OneView o T v w → Premises o T v → Premises o T w → (places v ≡ places w) × Alike o (rules o T v) (rules o T w)
  piles_alike T v w (same_source p) A B = (refl, alike_refl (rules o T (source p)))
  piles_alike T v w (same_select {P = P} {Q = Q} {v = x} {w = y} c u) A B =
      let r = piles_alike T x y u A.1 B.1 in (r.0, select_alike o O P Q (rules o T x) (rules o T y) c.admits (piles_lawful o O T x A.1) r.1)
  piles_alike T v w (same_drop k a {v = x} {w = y} u) A B =
      let r = piles_alike T x y u A.1 B.1 in (r.0, drop_alike o O k a (rules o T x) (rules o T y) A.0 B.0 (piles_lawful o O T x A.1) r.1)
  piles_alike T v w (same_rename k n {v = x} {w = y} u) A B = let r = piles_alike T x y u A.1 B.1 in (r.0, rename_alike o O k n (rules o T x) (rules o T y) r.1)
  piles_alike T v w (same_join {v = x} {w = y} {x = x'} {y = y'} u u') A B =
      let r = piles_alike T x y u A.1 B.1 in
      let s = piles_alike T x' y' u' A.2 B.2 in
      (ap₂ {C = List ℕ} ◌++◌ r.0 s.0, join_alike o O (rules o T x) (rules o T y) (rules o T x') (rules o T y') A.0 (piles_lawful o O T x A.1) (piles_lawful o O T x' A.2) r.1 s.1)

  -- faults look at what shaped rows are admitted, and not at the parts
  rows_alike : (k : ℕ) (C : List Column) (D : List Dependency) (P Q : List Part) → ((t : Tuple) → Shaped C t → admitted P t ≡ admitted Q t) → (x : Option Tuple) (p : ℕ) (J : Relation) →
      rows_fault o k (record { columns = C; deps = D; parts = P }) x p J ≡ rows_fault o k (record { columns = C; deps = D; parts = Q }) x p J
  rows_alike k C D P Q e x p [] = refl
  rows_alike k C D P Q e x p (t ∷ J) = ap₂ or_then
      (cond_cong (shaped C t) _ _ (fault 17 k p) (λ s. ap (λ b. cond (above o x t) (cond b None (fault 19 k p)) (fault 18 k p)) (e t (shaped_is C t s))))
      (rows_alike k C D P Q e (Some t) (suc p) J)

  sort_alike : (K L : Rules) → Alike o K L → (J : Relation) → sort_fault o K.kind K.sort J ≡ sort_fault o L.kind L.sort J
  sort_alike K L A J = ap (λ x. or_then x (dep_fault K.kind K.sort.deps [] 0 J)) (rows_alike K.kind K.sort.columns K.sort.deps K.sort.parts L.sort.parts A.admits None 0 J)
      ∙ (λ i. sort_fault o (A.kind i) (record { columns = A.columns i; deps = A.deps i; parts = L.sort.parts }) J)

  judge_alike : (K L : Rules) → Alike o K L → (J : Relation) (I : List Relation) → Stored o K.stores I → judge o K J I ≡ judge o L J I
  judge_alike K L A J I s =
      or_then_cong (sort_fault o K.kind K.sort J) (stores_fault K.stores 0 I (K.puts J I)) (stores_fault L.stores 0 I (L.puts J I))
      (λ e. ap₂ (λ S X. stores_fault S 0 I X) A.stores (A.puts J I s (sort_none o K.kind K.sort J e).shaped))
      ∙ ap (λ x. or_then x (stores_fault L.stores 0 I (L.puts J I))) (sort_alike K L A J)

pub one_view_alike : OneViewAlike
one_view_alike o O T v w V W u =
    let r = piles_alike o O T v w u V.premises W.premises in
    record { same_places = r.0; same_rules = r.1; same_faults = judge_alike o O (rules o T v) (rules o T w) r.1 }
