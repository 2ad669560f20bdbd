-- Which rows exactly a put through a layer leaves.
use Rattle.std.proofs.Common.{◌≡◌, ℕ, true, false, not, ◌&&◌, ◌⊎◌, ◌↔◌, List, ◌++◌, map, Option, sym, refl, ap, ◌∙◌, subst, inl, inr}
use Rattle.model.specs.ColumnSets.{ColumnSet}
use Rattle.model.specs.Dropping.{MayDrop, add_at, cell_or, determining, drop, drop_put, drop_sort, fill, without}
use Rattle.model.specs.Facts.{and_both}
use Rattle.model.specs.Joining.{MayJoin, combine, join, join_columns, join_left, join_right, join_show, join_sort, left_stores, matches, merge, pairs, project_rows, right_stores, shared, strays}
use Rattle.model.specs.Orders.{Order, Total}
use Rattle.model.specs.Projecting.{project, value_of}
use Rattle.model.specs.Revision.{revise}
use Rattle.model.specs.Selecting.{Predicate, ReadsNoOutput, hidden, select, select_put, select_sort}
use Rattle.model.specs.Sorts.{Agree, Column, Dependency, Meets, MeetsDeps, Shaped, Sort, admitted, agrees}
use Rattle.model.specs.Tables.{Lawful, Rules, Stored}
use Rattle.model.specs.TreeForm.{Formed}
use Rattle.model.specs.Values.{Relation, Tuple, Value, cell, filter, find, is_in, ◌∈◌}
use Rattle.laws.specs.Puts.{Drops, Filled, IsRevised, Joins, Matches, MergedRow, Selects}
use Rattle.laws.proofs.Cells.{agree_sym, agree_trans, agrees_is, in_is, is_agrees, is_in_of, is_tuple, tuple_is}
use Rattle.laws.proofs.Dropped.{agree_off, agree_refl, cell_put, cell_put_skip, determining_of, drop_put_meets, emptied, new_kind, off_X, put_without, shaped_put, the_dep}
use Rattle.laws.proofs.Joined.{after_append, before_append, in_pairs, left_meets, meets_left, meets_right, of_pairs, right_meets, stored_after, stored_before}
use Rattle.laws.proofs.Members.{Found, and_left, and_right, bool_cases, clash, found, hit, in_any, in_append_left, in_append_right, in_filter, in_map, map_at, map_cong, miss, not_false, not_true, of_any, of_append, of_filter, of_map}
use Rattle.laws.proofs.Orders.{in_relation, of_relation}
use Rattle.laws.proofs.Revising.{AllShaped, revision_characterised}
use Rattle.laws.proofs.Selecting.{select_put_meets}
use Rattle.laws.proofs.Unique.{revision_unique}

-- two relations that are one have the same rows
same_rows : (R Q : Relation) → R ≡ Q → (P : Tuple → Type 0) → ((t : Tuple) → (t ∈ Q) ↔ P t) → (t : Tuple) → (t ∈ R) ↔ P t
same_rows R Q e P f t = ((λ h. (f t).0 (subst (λ X. t ∈ X) e h)), (λ p. subst (λ X. t ∈ X) (sym e) ((f t).1 p)))

module _ (S : Sort) (F : Formed S) (J : Relation) (SJ : AllShaped S.columns J) (DJ : MeetsDeps S.deps J) where
  to_revised : (m : Tuple) → Shaped S.columns m → IsRevised S J m (revise S.deps J m)
  to_revised m s = revision_characterised S F J SJ DJ m s

  is_revised : (m t : Tuple) → Shaped S.columns m → IsRevised S J m t → t ≡ revise S.deps J m
  is_revised m t s r = revision_unique S F J m t (revise S.deps J m) r.0 (to_revised m s).0 r.1 (to_revised m s).1

module _ (o : Order) (O : Total o) where
  -- select
  module _ (P : Predicate) (S : Sort) (F : Formed S) (J I : Relation) (SJ : AllShaped S.columns J) (DJ : MeetsDeps S.deps J) (Si : AllShaped S.columns I) where
    abbrev D : List Dependency
    D = S.deps

    abbrev others : List Tuple
    others = filter (hidden P) (map (revise D J) (filter (hidden P) I))

    abbrev Kept : Tuple → Type 0
    Kept t = (m : Tuple) × (m ∈ I) × (admitted P.parts m ≡ false) × IsRevised S J m t × (admitted P.parts t ≡ false)

    is_kept : (t : Tuple) → t ∈ others → Kept t
    is_kept t g =
        let k = of_filter (hidden P) t (map (revise D J) (filter (hidden P) I)) g in
        let w = of_map (revise D J) t (filter (hidden P) I) k.0 in
        let n = of_filter (hidden P) w.0 I w.1 in
        (w.0, n.0, not_true (admitted P.parts w.0) n.1, subst (λ x. IsRevised S J w.0 x) (sym w.2) (to_revised S F J SJ DJ w.0 (Si w.0 n.0)), not_true (admitted P.parts t) k.1)

    kept_is : (t : Tuple) → Kept t → t ∈ others
    kept_is t w = in_filter (hidden P) t (map (revise D J) (filter (hidden P) I))
        (subst (λ x. x ∈ map (revise D J) (filter (hidden P) I)) (sym (is_revised S F J SJ DJ w.0 t (Si w.0 w.1) w.3))
        (in_map (revise D J) w.0 (filter (hidden P) I) (in_filter (hidden P) w.0 I w.1 (not_false (admitted P.parts w.0) w.2))))
        (not_false (admitted P.parts t) w.4)

    select_rows : (t : Tuple) → (t ∈ select_put o P D J I) ↔ ((t ∈ J) ⊎ Kept t)
    select_rows t = (
      (λ h. elim (of_append t J others (of_relation o O (J ++ others) t h)) [ inl g ↦ inl g | inr g ↦ inr (is_kept t g) ]),
      (λ h. in_relation o O (J ++ others) t (elim h [ inl g ↦ in_append_left t J others g | inr w ↦ in_append_right t J others (kept_is t w) ])),
    )

  pub select_exact : (P : Predicate) (K : Rules) → ReadsNoOutput K.sort → Lawful o K → Selects o P K
  select_exact P K N L = record {
    shown = λ I t. (of_filter (admitted P.parts) t (K.shows I), (λ w. in_filter (admitted P.parts) t (K.shows I) w.0 w.1));
    stored = stored_rows;
    hidden_stays = λ J I s M m h e f.
        (stored_rows J I s M m).1 (inr (m, h, e, ((L.shown_meets I s).shaped m h, record { kept = λ i g. refl; taken = f; left_alone = λ d g k i x. refl }), e));
  }
    where
      stored_rows : (J : Relation) (I : List Relation) → Stored o K.stores I → Meets o (select_sort P K.sort) J → (t : Tuple) →
          (t ∈ K.shows ((select o P K).puts J I)) ↔ ((t ∈ J) ⊎ ((m : Tuple) × (m ∈ K.shows I) × (admitted P.parts m ≡ false) × IsRevised K.sort J m t × (admitted P.parts t ≡ false)))
      stored_rows J I s M = same_rows (K.shows ((select o P K).puts J I)) (select_put o P K.sort.deps J (K.shows I))
          (L.put_shows (select_put o P K.sort.deps J (K.shows I)) I s (select_put_meets o O P K.sort L.formed N (K.shows I) J (L.shown_meets I s) M))
          (λ t. (t ∈ J) ⊎ ((m : Tuple) × (m ∈ K.shows I) × (admitted P.parts m ≡ false) × IsRevised K.sort J m t × (admitted P.parts t ≡ false)))
          (select_rows P K.sort L.formed J (K.shows I) M.shaped M.deps (L.shown_meets I s).shaped)

  -- drop
  module _ (k : ℕ) (a : Value) (S : Sort) (F : Formed S) (Y : MayDrop S k a) (I : Relation) (MI : Meets o S I) where
    abbrev X : ColumnSet
    X = determining k S.deps

    -- rows made of one offered row agree on X whatever their cell
    agree_put : (v w : Value) (s : Tuple) → Agree X (add_at k v s) (add_at k w s)
    agree_put v w s = agree_off k X s s (add_at k v s) (add_at k w s) (off_X o O k a S F Y) (cell_put_skip k v s) (cell_put_skip k w s) (agree_refl (without k X) s)

    filled_at : (s : Tuple) (x : Option Tuple) → Found (agrees X (add_at k a s)) I x → Filled k a X I (add_at k (cell_or k a x) s)
    filled_at s x (hit n h e) = inl (n, h, agree_trans X (add_at k (cell n k) s) (add_at k a s) n (agree_put (cell n k) a s) (agrees_is X (add_at k a s) n e), cell_put k (cell n k) s)
    filled_at s x (miss f) = inr ((λ n h b. f n h (is_agrees X (add_at k a s) n b)), cell_put k a s)

    module _ (t : Tuple) (st : Shaped S.columns t) where
      abbrev s : Tuple
      s = without k t

      on_X : Agree X t (add_at k a s)
      on_X = subst (λ x. Agree X x (add_at k a s)) (put_without k S.columns t Y.column.0 Y.column.1 st) (agree_put (cell t k) a s)

      through : (m : Tuple) → agrees X (add_at k a s) m ≡ true → Agree X t m
      through m e = agree_trans X t (add_at k a s) m on_X (agrees_is X (add_at k a s) m e)

      cell_is : Filled k a X I t → (x : Option Tuple) → Found (agrees X (add_at k a s)) I x → cell t k ≡ cell_or k a x
      cell_is (inl w) x (hit m g e) =
          let d = the_dep o O k a S F Y in
          let b : Agree X w.0 m = agree_trans X w.0 t m (agree_sym X t w.0 w.2) (through m e) in
          w.3 ∙ MI.deps d.0 d.1 w.0 m w.1 g (subst (λ Z. Agree Z w.0 m) d.3 b) k d.2
      cell_is (inr w) x (hit m g e) = absurd (w.0 m g (through m e))
      cell_is (inl w) x (miss f) = absurd (f w.0 w.1 (is_agrees X (add_at k a s) w.0 (agree_trans X (add_at k a s) t w.0 (agree_sym X t (add_at k a s) on_X) w.2)))
      cell_is (inr w) x (miss f) = w.1

    drop_rows : (J : Relation) → Meets o (drop_sort k a S) J → (t : Tuple) → (t ∈ drop_put o k a S.deps J I) ↔ (Shaped S.columns t × (without k t ∈ J) × Filled k a X I t)
    drop_rows J MJ t = (
      (λ h.
          let w = of_map (fill k a S.deps I) t J (of_relation o O (map (fill k a S.deps I) J) t h) in
          let p = agrees X (add_at k a w.0) in
          subst (λ x. Shaped S.columns x × (without k x ∈ J) × Filled k a X I x) (sym w.2) (
            shaped_put k S.columns w.0 Y.column.0 (cell_or k a (find p I)) Y.column.1 (new_kind o O k a S F Y I MI w.0) (MJ.shaped w.0 w.1),
            subst (λ x. x ∈ J) (sym (emptied o O k a S F Y I MI J MJ w.0 w.1)) w.1,
            filled_at w.0 (find p I) (found p I),
          )),
      (λ w.
          let p = agrees X (add_at k a (without k t)) in
          let e : fill k a S.deps I (without k t) ≡ t =
          ap (λ x. add_at k x (without k t)) (sym (cell_is t w.0 w.2 (find p I) (found p I))) ∙ put_without k S.columns t Y.column.0 Y.column.1 w.0 in
          in_relation o O (map (fill k a S.deps I) J) t (subst (λ x. x ∈ map (fill k a S.deps I) J) e (in_map (fill k a S.deps I) (without k t) J w.1))),
    )

  pub drop_exact : (k : ℕ) (a : Value) (K : Rules) → MayDrop K.sort k a → Lawful o K → Drops o k a K
  drop_exact k a K Y L = record {
    shown = λ I t. (
      (λ h. of_map (without k) t (K.shows I) (of_relation o O (map (without k) (K.shows I)) t h)),
      (λ w. in_relation o O (map (without k) (K.shows I)) t (subst (λ x. x ∈ map (without k) (K.shows I)) (sym w.2) (in_map (without k) w.0 (K.shows I) w.1))),
    );
    stored = λ d h r J I s M.
        let MI = L.shown_meets I s in
        subst (λ X. (t : Tuple) → (t ∈ K.shows ((drop o k a K).puts J I)) ↔ (Shaped K.sort.columns t × (without k t ∈ J) × Filled k a X (K.shows I) t)) (determining_of o O k a K.sort L.formed Y d h r)
        (same_rows (K.shows ((drop o k a K).puts J I)) (drop_put o k a K.sort.deps J (K.shows I))
        (L.put_shows (drop_put o k a K.sort.deps J (K.shows I)) I s (drop_put_meets o O k a K.sort L.formed Y (K.shows I) MI J M))
        (λ t. Shaped K.sort.columns t × (without k t ∈ J) × Filled k a (determining k K.sort.deps) (K.shows I) t)
        (drop_rows k a K.sort L.formed Y (K.shows I) MI J M));
  }

  -- join
  is_match : (U V : List Column) (u v : Tuple) → Matches U V u v → matches U V u v ≡ true
  is_match U V u v f = is_tuple (project U (shared U V) u) (project V (shared U V) v) (map_cong (λ c. value_of U u c.word) (λ c. value_of V v c.word) (shared U V) f)

  match_is : (U V : List Column) (u v : Tuple) → matches U V u v ≡ true → Matches U V u v
  match_is U V u v m c h = map_at (λ c. value_of U u c.word) (λ c. value_of V v c.word) (shared U V) (tuple_is (project U (shared U V) u) (project V (shared U V) v) m) c h

  merge_rows : (C : List Column) (S : Sort) → Formed S → (J I : Relation) → Meets o S (project_rows o C S.columns J) → AllShaped S.columns I → (t : Tuple) →
      (t ∈ merge o S.deps (project_rows o C S.columns J) I) ↔ MergedRow o C S J I t
  merge_rows C S F J I M Si t = (
    (λ h. elim (of_append t B (map (revise S.deps B) I) (of_relation o O (B ++ map (revise S.deps B) I) t h)) [
      | inl g ↦ inl (of_map (project C S.columns) t J (of_relation o O (map (project C S.columns) J) t g))
      | inr g ↦ let w = of_map (revise S.deps B) t I g in inr (w.0, w.1, subst (λ x. IsRevised S B w.0 x) (sym w.2) (to_revised S F B M.shaped M.deps w.0 (Si w.0 w.1)))
    ]),
    (λ h. in_relation o O (B ++ map (revise S.deps B) I) t (elim h [
      | inl w ↦ in_append_left t B (map (revise S.deps B) I)
          (in_relation o O (map (project C S.columns) J) t (subst (λ x. x ∈ map (project C S.columns) J) (sym w.2) (in_map (project C S.columns) w.0 J w.1)))
      | inr w ↦ in_append_right t B (map (revise S.deps B) I)
          (subst (λ x. x ∈ map (revise S.deps B) I) (sym (is_revised S F B M.shaped M.deps w.0 t (Si w.0 w.1) w.2)) (in_map (revise S.deps B) w.0 I w.1))
    ])),
  )
    where
      B : Relation
      B = project_rows o C S.columns J

  left_rows : (U V : List Column) (J all N : Relation) (t : Tuple) →
      (t ∈ filter (λ m. not (strays U V J N m)) all) ↔ ((t ∈ all) × ((n : Tuple) → n ∈ N → Matches U V t n → combine U V t n ∈ J))
  left_rows U V J all N t = (
    (λ h.
        let k = of_filter (λ m. not (strays U V J N m)) t all h in (
          k.0,
          λ n g m. bool_cases (is_in (combine U V t n) J) (in_is (combine U V t n) J)
              (λ e. clash (strays U V J N t) (in_any (λ n. matches U V t n && not (is_in (combine U V t n) J)) n N g
              (and_both (matches U V t n) (not (is_in (combine U V t n) J)) (is_match U V t n m) (not_false (is_in (combine U V t n) J) e))) (not_true (strays U V J N t) k.1)),
        )),
    (λ w. in_filter (λ m. not (strays U V J N m)) t all w.0 (not_false (strays U V J N t) (bool_cases (strays U V J N t)
        (λ e.
        let x = of_any (λ n. matches U V t n && not (is_in (combine U V t n) J)) N e in
        let m = and_left (matches U V t x.0) (not (is_in (combine U V t x.0) J)) x.2 in
        clash (is_in (combine U V t x.0) J) (is_in_of (combine U V t x.0) J (w.1 x.0 x.1 (match_is U V t x.0 m)))
        (not_true (is_in (combine U V t x.0) J) (and_right (matches U V t x.0) (not (is_in (combine U V t x.0) J)) x.2)))
        (λ e. e)))),
  )

  module _ (K L : Rules) (Y : MayJoin K.sort L.sort) (LK : Lawful o K) (LL : Lawful o L) where
    abbrev S : Sort
    S = K.sort

    abbrev T : Sort
    T = L.sort

    abbrev U : List Column
    U = S.columns

    abbrev V : List Column
    V = T.columns

    abbrev C : List Column
    C = join_columns U V

    module _ (I : List Relation) (s : Stored o (K.stores ++ L.stores) I) where
      abbrev I₁ : List Relation
      I₁ = left_stores K.stores I

      abbrev I₂ : List Relation
      I₂ = right_stores K.stores I

      s₁ : Stored o K.stores I₁
      s₁ = stored_before o O K.stores L.stores I s

      s₂ : Stored o L.stores I₂
      s₂ = stored_after o O K.stores L.stores I s

      MM : Meets o S (K.shows I₁)
      MM = LK.shown_meets I₁ s₁

      MN : Meets o T (L.shows I₂)
      MN = LL.shown_meets I₂ s₂

      shown_rows : (t : Tuple) → (t ∈ join_show o S T (K.shows I₁) (L.shows I₂)) ↔ ((u : Tuple) × (v : Tuple) × (u ∈ K.shows I₁) × (v ∈ L.shows I₂) × Matches U V u v × (t ≡ combine U V u v))
      shown_rows t = (
        (λ h. let w = of_pairs o O S T LK.formed LL.formed Y (K.shows I₁) (L.shows I₂) t (of_relation o O (pairs U V (K.shows I₁) (L.shows I₂)) t h) in (w.0, w.1, w.2, w.3, match_is U V w.0 w.1 w.4, w.5)),
        (λ w. in_relation o O (pairs U V (K.shows I₁) (L.shows I₂)) t (subst (λ x. x ∈ pairs U V (K.shows I₁) (L.shows I₂)) (sym w.5)
            (in_pairs o O S T LK.formed LL.formed Y (K.shows I₁) (L.shows I₂) MN w.0 w.1 w.2 w.3 (is_match U V w.0 w.1 w.4)))),
      )

      module _ (J : Relation) (MJ : Meets o (join_sort S T) J) where
        abbrev N' : Relation
        N' = join_right o S T J (L.shows I₂)

        abbrev M' : Relation
        M' = join_left o S T J (K.shows I₁) N'

        new_right : L.shows (right_stores K.stores ((join o K L).puts J I)) ≡ N'
        new_right = ap L.shows (after_append o O K.stores (K.puts M' I₁) (L.puts N' I₂) (LK.put_meets M' I₁ s₁ (left_meets o O S T LK.formed LL.formed Y J MJ (K.shows I₁) (L.shows I₂) MM MN)))
            ∙ LL.put_shows N' I₂ s₂ (right_meets o O S T LK.formed LL.formed Y J MJ (K.shows I₁) (L.shows I₂) MM MN)

        new_left : K.shows (left_stores K.stores ((join o K L).puts J I)) ≡ M'
        new_left = ap K.shows (before_append o O K.stores (K.puts M' I₁) (L.puts N' I₂) (LK.put_meets M' I₁ s₁ (left_meets o O S T LK.formed LL.formed Y J MJ (K.shows I₁) (L.shows I₂) MM MN)))
            ∙ LK.put_shows M' I₁ s₁ (left_meets o O S T LK.formed LL.formed Y J MJ (K.shows I₁) (L.shows I₂) MM MN)

        right_side : (t : Tuple) → (t ∈ L.shows (right_stores K.stores ((join o K L).puts J I))) ↔ MergedRow o C T J (L.shows I₂) t
        right_side = same_rows (L.shows (right_stores K.stores ((join o K L).puts J I))) N' new_right (MergedRow o C T J (L.shows I₂))
            (merge_rows C T LL.formed J (L.shows I₂) (meets_right o O S T LK.formed LL.formed Y J MJ) MN.shaped)

        abbrev Lefts : Relation → Tuple → Type 0
        Lefts N t = MergedRow o C S J (K.shows I₁) t × ((n : Tuple) → n ∈ N → Matches U V t n → combine U V t n ∈ J)

        left_side_at : (t : Tuple) → (t ∈ M') ↔ Lefts N' t
        left_side_at t =
            let f = left_rows U V J (merge o S.deps (project_rows o C U J) (K.shows I₁)) N' t in
            let g = merge_rows C S LK.formed J (K.shows I₁) (meets_left o O S T LK.formed LL.formed Y J MJ) MM.shaped t in
            ((λ h. let w = f.0 h in (g.0 w.0, w.1)), (λ w. f.1 (g.1 w.0, w.1)))

        left_side : (t : Tuple) → (t ∈ K.shows (left_stores K.stores ((join o K L).puts J I))) ↔ Lefts (L.shows (right_stores K.stores ((join o K L).puts J I))) t
        left_side = same_rows (K.shows (left_stores K.stores ((join o K L).puts J I))) M' new_left (Lefts (L.shows (right_stores K.stores ((join o K L).puts J I))))
            (subst (λ N. (t : Tuple) → (t ∈ M') ↔ Lefts N t) (sym new_right) left_side_at)

    pub join_exact : Joins o K L
    join_exact = record { shown = shown_rows; right = λ J I s M. right_side I s J M; left = λ J I s M. left_side I s J M }
