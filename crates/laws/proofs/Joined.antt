-- Join keeps the laws.
use Rattle.std.proofs.Common.{◌≡◌, ℕ, suc, ◌≤◌, Bool, true, false, not, ◌&&◌, ◌⊎◌, List, [], ◌∷◌, ◌++◌, map, length, Some, None, Option, sym, refl, ap, ◌∙◌, subst, ap₂, inl, inr, arith}
use Rattle.model.specs.Closures.{closure}
use Rattle.model.specs.ColumnSets.{Apart, Same, Within, non_empty, same}
use Rattle.model.specs.Facts.{and_both}
use Rattle.model.specs.Joining.{MayJoin, combine, join, join_columns, join_left, join_right, join_show, join_sort, left_stores, matches, merge, others, paired, pairs, project_rows, right_stores, same_dep, shared, shared_set, strays, united}
use Rattle.model.specs.Orders.{Order, Total}
use Rattle.model.specs.Projecting.{cell_or_zero, has_column, lift, lift_agree, lift_dep, lift_part, project, value_of}
use Rattle.model.specs.Revision.{revise}
use Rattle.model.specs.Sorts.{Agree, Column, Dependency, Distinct, Meets, MeetsDep, MeetsDeps, Part, Shaped, Sort, all_columns}
use Rattle.model.specs.Tables.{Lawful, Rules, Store, Stored, first}
use Rattle.model.specs.TreeForm.{Formed}
use Rattle.model.specs.Values.{Relation, Tuple, any, filter, find, is_in, same_bytes, same_tuple, ◌∈◌}
use Rattle.laws.proofs.Cells.{OfKind, agree_within, bytes_is, is_tuple, same_is, tuple_is}
use Rattle.laws.proofs.Closing.{closure_agree}
use Rattle.laws.proofs.Members.{Found, and_left, and_right, bool_cases, clash, filter_all, found, hit, in_any, in_append_left, in_append_right, in_filter, in_map, map_append, map_at, map_cong, miss, not_false, not_true, of_any, of_append, of_filter, of_map}
use Rattle.laws.proofs.Merging.{meets_merged, merged_of, merged_same, same_merged}
use Rattle.laws.proofs.Named.{agree_lift, all_agree, at_left, at_project, at_right, column_of, distinct_append, distinct_filter, is_column, kind_at, lift_apart, lift_some, lift_within, project_self, shaped_append, shaped_map}
use Rattle.laws.proofs.Orders.{ascending_filter, ascending_relation, in_relation, length_relation, of_relation, same_members}

-- what both sides meet, and what the union of their dependencies asks
pub united_right : (F G : List Dependency) (R : Relation) → MeetsDeps (united F G) R → MeetsDeps G R
united_right F G R M g h = bool_cases (any (same_dep g) F)
    (λ e. let w = of_any (same_dep g) F e in
    let l : Same g.left w.0.left = same_is g.left w.0.left (and_left (same g.left w.0.left) (same g.right w.0.right) w.2) in
    let r : Same g.right w.0.right = same_is g.right w.0.right (and_right (same g.left w.0.left) (same g.right w.0.right) w.2) in
    λ s t hs ht a. agree_within g.right w.0.right s t r.0 (M w.0 (in_append_left w.0 F (filter (λ g. not (any (same_dep g) F)) G) w.1) s t hs ht (agree_within w.0.left g.left s t l.1 a)))
    (λ e. M g (in_append_right g F (filter (λ g. not (any (same_dep g) F)) G) (in_filter (λ g. not (any (same_dep g) F)) g G h (not_false (any (same_dep g) F) e))))

of_united : (F G : List Dependency) (d : Dependency) → d ∈ united F G → (d ∈ F) ⊎ (d ∈ G)
of_united F G d h = elim (of_append d F (filter (λ g. not (any (same_dep g) F)) G) h) [ inl g ↦ inl g | inr g ↦ inr (of_filter (λ g. not (any (same_dep g) F)) d G g).0 ]

-- the dependencies of a side, of its rows and of the joined rows
lifted_up : (C B : List Column) → Distinct C → (d : Dependency) (R : Relation) → MeetsDep (lift_dep C B d) R → (s t : Tuple) → s ∈ R → t ∈ R → Agree d.left (project C B s) (project C B t) → Agree d.right (project C B s) (project C B t)
lifted_up C B D d R M s t hs ht a = lift_agree C B d.right s t (M s t hs ht (agree_lift C B D d.left s t a))

module _ (o : Order) (O : Total o) where
  meets_filter : (S : Sort) (p : Tuple → Bool) (R : Relation) → Meets o S R → Meets o S (filter p R)
  meets_filter S p R M = record {
    ascending = ascending_filter o O p R M.ascending;
    shaped = λ t h. M.shaped t (of_filter p t R h).0;
    admits = λ q g t h. M.admits q g t (of_filter p t R h).0;
    deps = λ d g s t hs ht. M.deps d g s t (of_filter p s R hs).0 (of_filter p t R ht).0;
  }

  -- J cut to a side
  project_meets : (C B : List Column) → Distinct C → (S Q : Sort) → B ≡ S.columns → (J : Relation) → ((t : Tuple) → t ∈ J → Shaped S.columns (project C B t)) → ((p : Part) → p ∈ S.parts → lift_part C B p ∈ Q.parts) →
      ((d : Dependency) → d ∈ S.deps → MeetsDep (lift_dep C B d) J) → Meets o Q J → Meets o S (project_rows o C B J)
  project_meets C B D S Q e J sh ps ds M = record {
    ascending = ascending_relation o O (map (project C B) J);
    shaped = λ t h. let w = source t h in subst (Shaped S.columns) (sym w.2) (sh w.0 w.1);
    admits = λ p g t h. let w = source t h in ap p.admits w.2 ∙ M.admits (lift_part C B p) (ps p g) w.0 w.1;
    deps = λ d g s t hs ht a.
        let v = source s hs in
        let w = source t ht in
        let b : Agree d.left (project C B v.0) (project C B w.0) = subst (λ x. Agree d.left (project C B v.0) x) w.2 (subst (λ x. Agree d.left x t) v.2 a) in
        subst (λ x. Agree d.right x t) (sym v.2) (subst (λ x. Agree d.right (project C B v.0) x) (sym w.2) (lifted_up C B D d J (ds d g) v.0 w.0 v.1 w.1 b));
  }
    where
      source : (t : Tuple) → t ∈ project_rows o C B J → (s : Tuple) × (s ∈ J) × (t ≡ project C B s)
      source t h = of_map (project C B) t J (of_relation o O (map (project C B) J) t h)

  module _ (S T : Sort) (FS : Formed S) (FT : Formed T) (Y : MayJoin S T) where
    abbrev U : List Column
    U = S.columns

    abbrev V : List Column
    V = T.columns

    abbrev C : List Column
    C = join_columns U V

    no_column : (c : Column) → c ∈ others U V → has_column U c.word ≡ false
    no_column c h = not_true (has_column U c.word) (of_filter (λ e. not (has_column U e.word)) c V h).1

    in_others : (c : Column) → c ∈ V → has_column U c.word ≡ false → c ∈ others U V
    in_others c h e = in_filter (λ e. not (has_column U e.word)) c V h (not_false (has_column U c.word) e)

    distinct_all : Distinct C
    distinct_all = distinct_append U (others U V) FS.words (distinct_filter (λ e. not (has_column U e.word)) V FT.words)
        (λ c e h g p. clash (has_column U e.word) (subst (λ w. has_column U w ≡ true) p (is_column U c h)) (no_column e g))

    -- shapes
    pub shape_left : (t : Tuple) → Shaped C t → Shaped U (project C U t)
    shape_left t s = shaped_map (λ c. value_of C t c.word) U (λ c h. kind_at C t distinct_all s c (in_append_left c U (others U V) h))

    kind_right : (t : Tuple) → Shaped C t → (c : Column) → c ∈ V → OfKind c.kind (value_of C t c.word)
    kind_right t s c h = bool_cases (has_column U c.word)
        (λ e. let w = of_any (λ x. same_bytes x.word c.word) U e in
        let p : w.0.word ≡ c.word = bytes_is w.0.word c.word w.2 in
        subst (λ k. OfKind k (value_of C t c.word)) (Y.equal_kinds w.0 c w.1 h p)
        (subst (λ x. OfKind w.0.kind (value_of C t x)) p (kind_at C t distinct_all s w.0 (in_append_left w.0 U (others U V) w.1))))
        (λ e. kind_at C t distinct_all s c (in_append_right c U (others U V) (in_others c h e)))

    pub shape_right : (t : Tuple) → Shaped C t → Shaped V (project C V t)
    shape_right t s = shaped_map (λ c. value_of C t c.word) V (kind_right t s)

    shape_combine : (u v : Tuple) → Shaped U u → Shaped V v → Shaped C (combine U V u v)
    shape_combine u v s r = shaped_append U (others U V) u (project V (others U V) v) s
        (shaped_map (λ c. value_of V v c.word) (others U V) (λ c h. kind_at V v FT.words r c (of_filter (λ e. not (has_column U e.word)) c V h).0))

    -- cutting and gluing
    project_left : (u v : Tuple) → Shaped U u → project C U (combine U V u v) ≡ u
    project_left u v s = map_cong (λ c. value_of C (combine U V u v) c.word) (λ c. value_of U u c.word) U (λ c h. at_left U (others U V) u (project V (others U V) v) c.word s (is_column U c h)) ∙ project_self U u FS.words s

    pub on_shared : (u v : Tuple) → matches U V u v ≡ true → (c : Column) → c ∈ shared U V → value_of U u c.word ≡ value_of V v c.word
    on_shared u v m c h = map_at (λ c. value_of U u c.word) (λ c. value_of V v c.word) (shared U V) (tuple_is (project U (shared U V) u) (project V (shared U V) v) m) c h

    project_right_at : (u v : Tuple) → Shaped U u → matches U V u v ≡ true → (c : Column) → c ∈ V → value_of C (combine U V u v) c.word ≡ value_of V v c.word
    project_right_at u v s m c h = bool_cases (has_column U c.word)
        (λ e. at_left U (others U V) u (project V (others U V) v) c.word s e ∙ on_shared u v m c (in_filter (λ c. has_column U c.word) c V h e))
        (λ e. at_right U (others U V) u (project V (others U V) v) c.word s e ∙ at_project (value_of V v) (others U V) c.word (is_column (others U V) c (in_others c h e)))

    project_right : (u v : Tuple) → Shaped U u → Shaped V v → matches U V u v ≡ true → project C V (combine U V u v) ≡ v
    project_right u v s r m = map_cong (λ c. value_of C (combine U V u v) c.word) (λ c. value_of V v c.word) V (project_right_at u v s m) ∙ project_self V v FT.words r

    combine_projects : (t : Tuple) → Shaped C t → combine U V (project C U t) (project C V t) ≡ t
    combine_projects t s =
        ap (λ l. project C U t ++ l) (map_cong (λ c. value_of V (project C V t) c.word) (λ c. value_of C t c.word) (others U V)
        (λ c h. at_project (value_of C t) V c.word (is_column V c (of_filter (λ e. not (has_column U e.word)) c V h).0)))
        ∙ sym (map_append (λ c. value_of C t c.word) U (others U V)) ∙ project_self C t distinct_all s

    projects_match : (t : Tuple) → matches U V (project C U t) (project C V t) ≡ true
    projects_match t = is_tuple (project U (shared U V) (project C U t)) (project V (shared U V) (project C V t))
        (map_cong (λ c. value_of U (project C U t) c.word) (λ c. value_of V (project C V t) c.word) (shared U V)
        (λ c h. let k = of_filter (λ c. has_column U c.word) c V h in
        at_project (value_of C t) U c.word k.1 ∙ sym (at_project (value_of C t) V c.word (is_column V c k.0))))

    -- a left row agrees with at most one right row
    only_one : (N : Relation) → Meets o T N → (u v w : Tuple) → v ∈ N → w ∈ N → matches U V u v ≡ true → matches U V u w ≡ true → v ≡ w
    only_one N M u v w hv hw mv mw =
        let a : Agree (shared_set U V) v w = λ i h.
        let k = column_of (λ c. has_column U c.word) V FT.words i h in
        let g = in_filter (λ c. has_column U c.word) k.0 V k.1 k.2 in
        subst (λ j. cell_or_zero v j ≡ cell_or_zero w j) k.3 (sym (on_shared u v mv k.0 g) ∙ on_shared u w mw k.0 g) in
        all_agree V v w (M.shaped v hv) (M.shaped w hw)
        (agree_within (all_columns V) (closure T.deps (shared_set U V)) v w Y.determined (closure_agree T.deps N M.deps v w hv hw (shared_set U V) a))

    -- the rows shown
    of_paired : (u : Tuple) (M N : Relation) (out : Option Tuple) → Found (matches U V u) N out → (t : Tuple) → t ∈ paired U V u out (pairs U V M N) →
        ((v : Tuple) × (v ∈ N) × (matches U V u v ≡ true) × (t ≡ combine U V u v)) ⊎ (t ∈ pairs U V M N)
    of_paired u M N out (hit v h e) t (inl p) = inl (v, h, e, p)
    of_paired u M N out (hit v h e) t (inr g) = inr g
    of_paired u M N out (miss f) t h = inr h

    pub of_pairs : (M N : Relation) (t : Tuple) → t ∈ pairs U V M N → (u : Tuple) × (v : Tuple) × (u ∈ M) × (v ∈ N) × (matches U V u v ≡ true) × (t ≡ combine U V u v)
    of_pairs [] N t h = absurd h
    of_pairs (u ∷ M) N t h = elim (of_paired u M N (find (matches U V u) N) (found (matches U V u) N) t h) [
      | inl w ↦ (u, w.0, inl refl, w.1, w.2, w.3)
      | inr g ↦ let w = of_pairs M N t g in (w.0, w.1, inr w.2, w.3, w.4, w.5)
    ]

    in_paired : (u : Tuple) (M N : Relation) (out : Option Tuple) → Found (matches U V u) N out → Meets o T N → (v : Tuple) → v ∈ N → matches U V u v ≡ true → combine U V u v ∈ paired U V u out (pairs U V M N)
    in_paired u M N out (hit w h e) MN v hv m = inl (ap (combine U V u) (only_one N MN u v w hv h m e))
    in_paired u M N out (miss f) MN v hv m = absurd (f v hv m)

    past_paired : (u : Tuple) (out : Option Tuple) (l : List Tuple) (t : Tuple) → t ∈ l → t ∈ paired U V u out l
    past_paired u None l t h = h
    past_paired u (Some v) l t h = inr h

    pub in_pairs : (M N : Relation) → Meets o T N → (u v : Tuple) → u ∈ M → v ∈ N → matches U V u v ≡ true → combine U V u v ∈ pairs U V M N
    in_pairs [] N MN u v hu hv m = absurd hu
    in_pairs (x ∷ M) N MN u v (inl p) hv m = subst (λ y. combine U V y v ∈ pairs U V (x ∷ M) N) (sym p) (in_paired x M N (find (matches U V x) N) (found (matches U V x) N) MN v hv (subst (λ y. matches U V y v ≡ true) p m))
    in_pairs (x ∷ M) N MN u v (inr h) hv m = past_paired x (find (matches U V x) N) (pairs U V M N) (combine U V u v) (in_pairs M N MN u v h hv m)

    length_paired : (u : Tuple) (out : Option Tuple) (l : List Tuple) (n : ℕ) → length l ≤ n → length (paired U V u out l) ≤ suc n
    length_paired u None l n h = omega arith
    length_paired u (Some v) l n h = omega arith

    length_pairs : (M N : Relation) → length (pairs U V M N) ≤ length M
    length_pairs [] N = omega arith
    length_pairs (u ∷ M) N = length_paired u (find (matches U V u) N) (pairs U V M N) (length M) (length_pairs M N)

    pub shown_few : (M N : Relation) → length (join_show o S T M N) ≤ length M
    shown_few M N = omega (arith, length_relation o O (pairs U V M N), length_pairs M N)

    -- what is shown meets the joined sort
    shown_admits : (M N : Relation) → Meets o S M → Meets o T N → (p : Part) → p ∈ (join_sort S T).parts → (t : Tuple) → t ∈ pairs U V M N → p.admits t ≡ true
    shown_admits M N MM MN p h t g =
        let w = of_pairs M N t g in
        elim (of_append p (map (lift_part C U) S.parts) (map (lift_part C V) T.parts) h) [
          | inl a ↦ let q = of_map (lift_part C U) p S.parts a in
              ap (λ x. x.admits t) q.2 ∙ ap (λ x. q.0.admits (project C U x)) w.5 ∙ ap q.0.admits (project_left w.0 w.1 (MM.shaped w.0 w.2)) ∙ MM.admits q.0 q.1 w.0 w.2
          | inr a ↦ let q = of_map (lift_part C V) p T.parts a in
              ap (λ x. x.admits t) q.2 ∙ ap (λ x. q.0.admits (project C V x)) w.5 ∙ ap q.0.admits (project_right w.0 w.1 (MM.shaped w.0 w.2) (MN.shaped w.1 w.3) w.4) ∙ MN.admits q.0 q.1 w.1 w.3
        ]

    lifted_down : (B : List Column) (d : Dependency) (s t u v : Tuple) → project C B s ≡ u → project C B t ≡ v → (Agree d.left u v → Agree d.right u v) → Agree (lift C B d.left) s t → Agree (lift C B d.right) s t
    lifted_down B d s t u v p q f a =
        let b : Agree d.left u v = subst (λ x. Agree d.left x v) p (subst (λ x. Agree d.left (project C B s) x) q (lift_agree C B d.left s t a)) in
        agree_lift C B distinct_all d.right s t (subst (λ x. Agree d.right x (project C B t)) (sym p) (subst (λ x. Agree d.right u x) (sym q) (f b)))

    shown_deps : (M N : Relation) → Meets o S M → Meets o T N → (d : Dependency) → d ∈ (join_sort S T).deps → (s t : Tuple) → s ∈ pairs U V M N → t ∈ pairs U V M N → Agree d.left s t → Agree d.right s t
    shown_deps M N MM MN d h s t hs ht =
        let v = of_pairs M N s hs in
        let w = of_pairs M N t ht in
        elim (of_united (map (lift_dep C U) S.deps) (map (lift_dep C V) T.deps) d h) [
          | inl a ↦ let q = of_map (lift_dep C U) d S.deps a in
              subst (λ x. Agree x.left s t → Agree x.right s t) (sym q.2)
              (lifted_down U q.0 s t v.0 w.0 (ap (project C U) v.5 ∙ project_left v.0 v.1 (MM.shaped v.0 v.2)) (ap (project C U) w.5 ∙ project_left w.0 w.1 (MM.shaped w.0 w.2))
              (MM.deps q.0 q.1 v.0 w.0 v.2 w.2))
          | inr a ↦ let q = of_map (lift_dep C V) d T.deps a in
              subst (λ x. Agree x.left s t → Agree x.right s t) (sym q.2)
              (lifted_down V q.0 s t v.1 w.1 (ap (project C V) v.5 ∙ project_right v.0 v.1 (MM.shaped v.0 v.2) (MN.shaped v.1 v.3) v.4) (ap (project C V) w.5 ∙ project_right w.0 w.1 (MM.shaped w.0 w.2) (MN.shaped w.1 w.3) w.4)
              (MN.deps q.0 q.1 v.1 w.1 v.3 w.3))
        ]

    pub join_shown : (M N : Relation) → Meets o S M → Meets o T N → Meets o (join_sort S T) (join_show o S T M N)
    join_shown M N MM MN = record {
      ascending = ascending_relation o O (pairs U V M N);
      shaped = λ t h. let w = of_pairs M N t (of_relation o O (pairs U V M N) t h) in subst (Shaped C) (sym w.5) (shape_combine w.0 w.1 (MM.shaped w.0 w.2) (MN.shaped w.1 w.3));
      admits = λ p h t g. shown_admits M N MM MN p h t (of_relation o O (pairs U V M N) t g);
      deps = λ d h s t hs ht. shown_deps M N MM MN d h s t (of_relation o O (pairs U V M N) s hs) (of_relation o O (pairs U V M N) t ht);
    }

    -- putting
    module _ (J : Relation) (MJ : Meets o (join_sort S T) J) where
      abbrev JU : Relation
      JU = project_rows o C U J

      abbrev JV : Relation
      JV = project_rows o C V J

      pub meets_left : Meets o S JU
      meets_left = project_meets C U distinct_all S (join_sort S T) refl J (λ t h. shape_left t (MJ.shaped t h))
          (λ p g. in_append_left (lift_part C U p) (map (lift_part C U) S.parts) (map (lift_part C V) T.parts) (in_map (lift_part C U) p S.parts g))
          (λ d g. MJ.deps (lift_dep C U d) (in_append_left (lift_dep C U d) (map (lift_dep C U) S.deps) _ (in_map (lift_dep C U) d S.deps g))) MJ

      pub meets_right : Meets o T JV
      meets_right = project_meets C V distinct_all T (join_sort S T) refl J (λ t h. shape_right t (MJ.shaped t h))
          (λ p g. in_append_right (lift_part C V p) (map (lift_part C U) S.parts) (map (lift_part C V) T.parts) (in_map (lift_part C V) p T.parts g))
          (λ d g. united_right (map (lift_dep C U) S.deps) (map (lift_dep C V) T.deps) J MJ.deps (lift_dep C V d) (in_map (lift_dep C V) d T.deps g)) MJ

      module _ (M N : Relation) (MM : Meets o S M) (MN : Meets o T N) where
        abbrev N' : Relation
        N' = join_right o S T J N

        abbrev M' : Relation
        M' = join_left o S T J M N'

        pub right_meets : Meets o T N'
        right_meets = meets_merged o O T FT N JV MN meets_right Y.right_parts (JV ++ map (revise T.deps JV) N) (merged_of o O T FT N JV MN meets_right)

        all_left : Meets o S (merge o S.deps JU M)
        all_left = meets_merged o O S FS M JU MM meets_left Y.left_parts (JU ++ map (revise S.deps JU) M) (merged_of o O S FS M JU MM meets_left)

        pub left_meets : Meets o S M'
        left_meets = meets_filter S (λ m. not (strays U V J N' m)) (merge o S.deps JU M) all_left

        in_JU : (t : Tuple) → t ∈ J → project C U t ∈ merge o S.deps JU M
        in_JU t h = in_relation o O (JU ++ map (revise S.deps JU) M) (project C U t) (in_append_left (project C U t) JU (map (revise S.deps JU) M) (in_relation o O (map (project C U) J) (project C U t) (in_map (project C U) t J h)))

        in_JV : (t : Tuple) → t ∈ J → project C V t ∈ N'
        in_JV t h = in_relation o O (JV ++ map (revise T.deps JV) N) (project C V t) (in_append_left (project C V t) JV (map (revise T.deps JV) N) (in_relation o O (map (project C V) J) (project C V t) (in_map (project C V) t J h)))

        no_stray : (t : Tuple) → t ∈ J → strays U V J N' (project C U t) ≡ false
        no_stray t h = bool_cases (strays U V J N' (project C U t))
            (λ e.
            let u = project C U t in
            let w = of_any (λ n. matches U V u n && not (is_in (combine U V u n) J)) N' e in
            let m : matches U V u w.0 ≡ true = and_left (matches U V u w.0) (not (is_in (combine U V u w.0) J)) w.2 in
            let out : not (is_in (combine U V u w.0) J) ≡ true = and_right (matches U V u w.0) (not (is_in (combine U V u w.0) J)) w.2 in
            let p : w.0 ≡ project C V t = only_one N' right_meets u w.0 (project C V t) w.1 (in_JV t h) m (projects_match t) in
            let q : t ≡ combine U V u w.0 = sym (ap (combine U V u) p ∙ combine_projects t (MJ.shaped t h)) in
            clash (is_in (combine U V u w.0) J) (in_any (same_tuple (combine U V u w.0)) t J h (is_tuple (combine U V u w.0) t (sym q))) (not_true (is_in (combine U V u w.0) J) out))
            (λ e. e)

        in_M : (t : Tuple) → t ∈ J → project C U t ∈ M'
        in_M t h = in_filter (λ m. not (strays U V J N' m)) (project C U t) (merge o S.deps JU M) (in_JU t h) (not_false (strays U V J N' (project C U t)) (no_stray t h))

        back : (t : Tuple) → t ∈ J → t ∈ join_show o S T M' N'
        back t h = subst (λ x. x ∈ join_show o S T M' N') (combine_projects t (MJ.shaped t h))
            (in_relation o O (pairs U V M' N') (combine U V (project C U t) (project C V t)) (in_pairs M' N' right_meets (project C U t) (project C V t) (in_M t h) (in_JV t h) (projects_match t)))

        into : (t : Tuple) → t ∈ join_show o S T M' N' → t ∈ J
        into t h =
            let w = of_pairs M' N' t (of_relation o O (pairs U V M' N') t h) in
            let s : strays U V J N' w.0 ≡ false = not_true (strays U V J N' w.0) (of_filter (λ m. not (strays U V J N' m)) w.0 (merge o S.deps JU M) w.2).1 in
            bool_cases (is_in (combine U V w.0 w.1) J)
            (λ e. let k = of_any (same_tuple (combine U V w.0 w.1)) J e in subst (λ x. x ∈ J) (sym (w.5 ∙ tuple_is (combine U V w.0 w.1) k.0 k.2)) k.1)
            (λ e. clash (strays U V J N' w.0) (in_any (λ n. matches U V w.0 n && not (is_in (combine U V w.0 n) J)) w.1 N' w.3
            (and_both (matches U V w.0 w.1) (not (is_in (combine U V w.0 w.1) J)) w.4 (not_false (is_in (combine U V w.0 w.1) J) e))) s)

        pub join_put_shows : join_show o S T M' N' ≡ J
        join_put_shows = same_members o O (join_show o S T M' N') J (ascending_relation o O (pairs U V M' N')) MJ.ascending into back

    -- offering what is shown
    module _ (M N : Relation) (MM : Meets o S M) (MN : Meets o T N) where
      abbrev J₀ : Relation
      J₀ = join_show o S T M N

      sub_left : (n : Tuple) → n ∈ project_rows o C U J₀ → n ∈ M
      sub_left n h =
          let k = of_map (project C U) n J₀ (of_relation o O (map (project C U) J₀) n h) in
          let w = of_pairs M N k.0 (of_relation o O (pairs U V M N) k.0 k.1) in
          subst (λ x. x ∈ M) (sym (k.2 ∙ ap (project C U) w.5 ∙ project_left w.0 w.1 (MM.shaped w.0 w.2))) w.2

      sub_right : (n : Tuple) → n ∈ project_rows o C V J₀ → n ∈ N
      sub_right n h =
          let k = of_map (project C V) n J₀ (of_relation o O (map (project C V) J₀) n h) in
          let w = of_pairs M N k.0 (of_relation o O (pairs U V M N) k.0 k.1) in
          subst (λ x. x ∈ N) (sym (k.2 ∙ ap (project C V) w.5 ∙ project_right w.0 w.1 (MM.shaped w.0 w.2) (MN.shaped w.1 w.3) w.4)) w.3

      pub right_same : join_right o S T J₀ N ≡ N
      right_same = same_members o O (join_right o S T J₀ N) N (ascending_relation o O (project_rows o C V J₀ ++ map (revise T.deps (project_rows o C V J₀)) N)) MN.ascending
          (λ t h. merged_same o O T N (project_rows o C V J₀) MN sub_right t (of_relation o O (project_rows o C V J₀ ++ map (revise T.deps (project_rows o C V J₀)) N) t h))
          (λ t h. in_relation o O (project_rows o C V J₀ ++ map (revise T.deps (project_rows o C V J₀)) N) t (same_merged o O T N (project_rows o C V J₀) MN sub_right t h))

      all_same : merge o S.deps (project_rows o C U J₀) M ≡ M
      all_same = same_members o O (merge o S.deps (project_rows o C U J₀) M) M (ascending_relation o O (project_rows o C U J₀ ++ map (revise S.deps (project_rows o C U J₀)) M)) MM.ascending
          (λ t h. merged_same o O S M (project_rows o C U J₀) MM sub_left t (of_relation o O (project_rows o C U J₀ ++ map (revise S.deps (project_rows o C U J₀)) M) t h))
          (λ t h. in_relation o O (project_rows o C U J₀ ++ map (revise S.deps (project_rows o C U J₀)) M) t (same_merged o O S M (project_rows o C U J₀) MM sub_left t h))

      none_strays : (u : Tuple) → u ∈ M → not (strays U V J₀ N u) ≡ true
      none_strays u h = not_false (strays U V J₀ N u) (bool_cases (strays U V J₀ N u)
          (λ e.
          let w = of_any (λ n. matches U V u n && not (is_in (combine U V u n) J₀)) N e in
          let m : matches U V u w.0 ≡ true = and_left (matches U V u w.0) (not (is_in (combine U V u w.0) J₀)) w.2 in
          let out : not (is_in (combine U V u w.0) J₀) ≡ true = and_right (matches U V u w.0) (not (is_in (combine U V u w.0) J₀)) w.2 in
          let g : combine U V u w.0 ∈ J₀ = in_relation o O (pairs U V M N) (combine U V u w.0) (in_pairs M N MN u w.0 h w.1 m) in
          clash (is_in (combine U V u w.0) J₀) (in_any (same_tuple (combine U V u w.0)) (combine U V u w.0) J₀ g (is_tuple (combine U V u w.0) (combine U V u w.0) refl)) (not_true (is_in (combine U V u w.0) J₀) out))
          (λ e. e))

      pub left_same : join_left o S T J₀ M N ≡ M
      left_same = ap (filter (λ m. not (strays U V J₀ N m))) all_same ∙ filter_all (λ m. not (strays U V J₀ N m)) M none_strays

    -- the joined sort may be described
    column_left : (c : Column) → c ∈ U → has_column C c.word ≡ true
    column_left c h = is_column C c (in_append_left c U (others U V) h)

    column_right : (c : Column) → c ∈ V → has_column C c.word ≡ true
    column_right c h = bool_cases (has_column U c.word)
        (λ e. let w = of_any (λ x. same_bytes x.word c.word) U e in subst (λ x. has_column C x ≡ true) (bytes_is w.0.word c.word w.2) (column_left w.0 w.1))
        (λ e. is_column C c (in_append_right c U (others U V) (in_others c h e)))

    pub join_formed : Formed (join_sort S T)
    join_formed = record {
      words = distinct_all;
      sets_some = λ d h. elim (of_united (map (lift_dep C U) S.deps) (map (lift_dep C V) T.deps) d h) [
        | inl a ↦ let q = of_map (lift_dep C U) d S.deps a in
            subst (λ x. (non_empty x.left ≡ true) × (non_empty x.right ≡ true)) (sym q.2) (lift_some C U column_left q.0.left (FS.sets_within q.0 q.1).0 (FS.sets_some q.0 q.1).0, lift_some C U column_left q.0.right (FS.sets_within q.0 q.1).1 (FS.sets_some q.0 q.1).1)
        | inr a ↦ let q = of_map (lift_dep C V) d T.deps a in
            subst (λ x. (non_empty x.left ≡ true) × (non_empty x.right ≡ true)) (sym q.2) (lift_some C V column_right q.0.left (FT.sets_within q.0 q.1).0 (FT.sets_some q.0 q.1).0, lift_some C V column_right q.0.right (FT.sets_within q.0 q.1).1 (FT.sets_some q.0 q.1).1)
      ];
      sets_within = λ d h. elim (of_united (map (lift_dep C U) S.deps) (map (lift_dep C V) T.deps) d h) [
        | inl a ↦ let q = of_map (lift_dep C U) d S.deps a in
            subst (λ x. Within x.left (all_columns C) × Within x.right (all_columns C)) (sym q.2) (lift_within C U q.0.left, lift_within C U q.0.right)
        | inr a ↦ let q = of_map (lift_dep C V) d T.deps a in
            subst (λ x. Within x.left (all_columns C) × Within x.right (all_columns C)) (sym q.2) (lift_within C V q.0.left, lift_within C V q.0.right)
      ];
      sets_apart = λ d h. elim (of_united (map (lift_dep C U) S.deps) (map (lift_dep C V) T.deps) d h) [
        | inl a ↦ let q = of_map (lift_dep C U) d S.deps a in subst (λ x. Apart x.left x.right) (sym q.2) (lift_apart C U FS.words q.0.left q.0.right (FS.sets_apart q.0 q.1))
        | inr a ↦ let q = of_map (lift_dep C V) d T.deps a in subst (λ x. Apart x.left x.right) (sym q.2) (lift_apart C V FT.words q.0.left q.0.right (FT.sets_apart q.0 q.1))
      ];
      tree = Y.tree;
    }

  -- stores of both sides
  pub stored_before : (A B : List Store) (I : List Relation) → Stored o (A ++ B) I → Stored o A (left_stores A I)
  stored_before [] B I s = tt
  stored_before (a ∷ A) B [] s = absurd s
  stored_before (a ∷ A) B (R ∷ I) s = (s.0, stored_before A B I s.1)

  pub stored_after : (A B : List Store) (I : List Relation) → Stored o (A ++ B) I → Stored o B (right_stores A I)
  stored_after [] B I s = s
  stored_after (a ∷ A) B [] s = absurd s
  stored_after (a ∷ A) B (R ∷ I) s = stored_after A B I s.1

  stored_append : (A B : List Store) (X Z : List Relation) → Stored o A X → Stored o B Z → Stored o (A ++ B) (X ++ Z)
  stored_append [] B [] Z s r = r
  stored_append [] B (R ∷ X) Z s r = absurd s
  stored_append (a ∷ A) B [] Z s r = absurd s
  stored_append (a ∷ A) B (R ∷ X) Z s r = (s.0, stored_append A B X Z s.1 r)

  pub before_append : (A : List Store) (X Z : List Relation) → Stored o A X → left_stores A (X ++ Z) ≡ X
  before_append [] [] Z s = refl
  before_append [] (R ∷ X) Z s = absurd s
  before_append (a ∷ A) [] Z s = absurd s
  before_append (a ∷ A) (R ∷ X) Z s = ap {B = List Relation} (λ l. R ∷ l) (before_append A X Z s.1)

  pub after_append : (A : List Store) (X Z : List Relation) → Stored o A X → right_stores A (X ++ Z) ≡ Z
  after_append [] [] Z s = refl
  after_append [] (R ∷ X) Z s = absurd s
  after_append (a ∷ A) [] Z s = absurd s
  after_append (a ∷ A) (R ∷ X) Z s = after_append A X Z s.1

  pub before_after : (A B : List Store) (I : List Relation) → Stored o (A ++ B) I → left_stores A I ++ right_stores A I ≡ I
  before_after [] B I s = refl
  before_after (a ∷ A) B [] s = absurd s
  before_after (a ∷ A) B (R ∷ I) s = ap {B = List Relation} (λ l. R ∷ l) (before_after A B I s.1)

  first_before : (A : List Store) (I : List Relation) → length (first (left_stores A I)) ≤ length (first I)
  first_before [] I = omega arith
  first_before (a ∷ A) [] = omega arith
  first_before (a ∷ A) (R ∷ I) = omega arith

  pub join_lawful : (K L : Rules) → MayJoin K.sort L.sort → Lawful o K → Lawful o L → Lawful o (join o K L)
  join_lawful K L Y LK LL = record {
    formed = join_formed S T FS FT Y;
    shown_meets = λ I s. join_shown S T FS FT Y (left I) (right I) (MM I s) (MN I s);
    put_meets = λ J I s M. stored_append K.stores L.stores (K.puts (M' J I) (left_stores K.stores I)) (L.puts (N' J I) (right_stores K.stores I)) (put_left J I s M) (put_right J I s M);
    put_shows = λ J I s M.
        let A = K.puts (M' J I) (left_stores K.stores I) in
        let B = L.puts (N' J I) (right_stores K.stores I) in
        let a : K.shows (left_stores K.stores (A ++ B)) ≡ M' J I = ap K.shows (before_append K.stores A B (put_left J I s M)) ∙ LK.put_shows (M' J I) (left_stores K.stores I) (sb I s) (left_meets S T FS FT Y J M (left I) (right I) (MM I s) (MN I s)) in
        let b : L.shows (right_stores K.stores (A ++ B)) ≡ N' J I = ap L.shows (after_append K.stores A B (put_left J I s M)) ∙ LL.put_shows (N' J I) (right_stores K.stores I) (sa I s) (right_meets S T FS FT Y J M (left I) (right I) (MM I s) (MN I s)) in
        ap₂ (join_show o S T) a b ∙ join_put_shows S T FS FT Y J M (left I) (right I) (MM I s) (MN I s);
    show_puts = λ I s.
        let r : N' (join_show o S T (left I) (right I)) I ≡ right I = right_same S T FS FT Y (left I) (right I) (MM I s) (MN I s) in
        let l : M' (join_show o S T (left I) (right I)) I ≡ left I = ap (join_left o S T (join_show o S T (left I) (right I)) (left I)) r ∙ left_same S T FS FT Y (left I) (right I) (MM I s) (MN I s) in
        ap₂ {C = List Relation} ◌++◌ (ap (λ x. K.puts x (left_stores K.stores I)) l ∙ LK.show_puts (left_stores K.stores I) (sb I s)) (ap (λ x. L.puts x (right_stores K.stores I)) r ∙ LL.show_puts (right_stores K.stores I) (sa I s))
        ∙ before_after K.stores L.stores I s;
    no_more = λ I s. omega (arith, shown_few S T FS FT Y (left I) (right I), LK.no_more (left_stores K.stores I) (sb I s), first_before K.stores I);
  }
    where
      S : Sort
      S = K.sort

      T : Sort
      T = L.sort

      FS : Formed S
      FS = LK.formed

      FT : Formed T
      FT = LL.formed

      left : List Relation → Relation
      left I = K.shows (left_stores K.stores I)

      right : List Relation → Relation
      right I = L.shows (right_stores K.stores I)

      sb : (I : List Relation) → Stored o (K.stores ++ L.stores) I → Stored o K.stores (left_stores K.stores I)
      sb I s = stored_before K.stores L.stores I s

      sa : (I : List Relation) → Stored o (K.stores ++ L.stores) I → Stored o L.stores (right_stores K.stores I)
      sa I s = stored_after K.stores L.stores I s

      MM : (I : List Relation) → Stored o (K.stores ++ L.stores) I → Meets o S (left I)
      MM I s = LK.shown_meets (left_stores K.stores I) (sb I s)

      MN : (I : List Relation) → Stored o (K.stores ++ L.stores) I → Meets o T (right I)
      MN I s = LL.shown_meets (right_stores K.stores I) (sa I s)

      N' : Relation → List Relation → Relation
      N' J I = join_right o S T J (right I)

      M' : Relation → List Relation → Relation
      M' J I = join_left o S T J (left I) (N' J I)

      put_left : (J : Relation) (I : List Relation) → Stored o (K.stores ++ L.stores) I → Meets o (join_sort S T) J → Stored o K.stores (K.puts (M' J I) (left_stores K.stores I))
      put_left J I s M = LK.put_meets (M' J I) (left_stores K.stores I) (sb I s) (left_meets S T FS FT Y J M (left I) (right I) (MM I s) (MN I s))

      put_right : (J : Relation) (I : List Relation) → Stored o (K.stores ++ L.stores) I → Meets o (join_sort S T) J → Stored o L.stores (L.puts (N' J I) (right_stores K.stores I))
      put_right J I s M = LL.put_meets (N' J I) (right_stores K.stores I) (sa I s) (right_meets S T FS FT Y J M (left I) (right I) (MM I s) (MN I s))
