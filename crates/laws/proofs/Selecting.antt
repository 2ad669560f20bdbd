-- Select keeps the laws.
use Rattle.std.proofs.Common.{◌≡◌, true, List, ◌++◌, map, sym, ap, ◌∙◌, subst, inl, inr, arith}
use Rattle.model.specs.Orders.{Order, Total, relation_of}
use Rattle.model.specs.Revision.{revise}
use Rattle.model.specs.Selecting.{Predicate, ReadsNoOutput, hidden, select, select_put, select_sort}
use Rattle.model.specs.Sorts.{Dependency, Meets, Sort, admitted}
use Rattle.model.specs.Tables.{Lawful, Rules}
use Rattle.model.specs.TreeForm.{Formed}
use Rattle.model.specs.Values.{Relation, Tuple, filter, ◌∈◌}
use Rattle.laws.proofs.Cells.{admitted_each, each_admitted}
use Rattle.laws.proofs.Members.{bool_cases, clash, in_append_left, in_append_right, in_filter, in_map, not_false, not_true, of_append, of_filter, of_map}
use Rattle.laws.proofs.Merging.{Merged, kept_over, meets_merged, offered}
use Rattle.laws.proofs.Orders.{ascending_filter, ascending_relation, in_relation, length_filter, of_relation, same_members}
use Rattle.laws.proofs.Revising.{revise_same}

module _ (o : Order) (O : Total o) where
  module _ (P : Predicate) (S : Sort) (F : Formed S) (N : ReadsNoOutput S) where
    shown_meets : (I : Relation) → Meets o S I → Meets o (select_sort P S) (filter (admitted P.parts) I)
    shown_meets I M = record {
      ascending = ascending_filter o O (admitted P.parts) I M.ascending;
      shaped = λ t h. M.shaped t (of_filter (admitted P.parts) t I h).0;
      admits = λ p h t g. let k = of_filter (admitted P.parts) t I g in elim (of_append p P.parts S.parts h) [
        | inl a ↦ admitted_each P.parts t k.1 p a
        | inr a ↦ M.admits p a t k.0
      ];
      deps = λ d h s t hs ht. M.deps d h s t (of_filter (admitted P.parts) s I hs).0 (of_filter (admitted P.parts) t I ht).0;
    }

    pub lower : (J : Relation) → Meets o (select_sort P S) J → Meets o S J
    lower J M = record { ascending = M.ascending; shaped = M.shaped; admits = λ p h. M.admits p (in_append_right p P.parts S.parts h); deps = M.deps }

    all_admitted : (J : Relation) → Meets o (select_sort P S) J → (t : Tuple) → t ∈ J → admitted P.parts t ≡ true
    all_admitted J M t h = each_admitted P.parts t (λ p g. M.admits p (in_append_left p P.parts S.parts g) t h)

    module _ (I J : Relation) (MI : Meets o S I) (MJ : Meets o (select_sort P S) J) where
      abbrev D : List Dependency
      D = S.deps

      abbrev others : List Tuple
      others = filter (hidden P) (map (revise D J) (filter (hidden P) I))

      put_rows : (t : Tuple) → t ∈ (J ++ others) → Merged o O S F I J MI (lower J MJ) t
      put_rows t h = elim (of_append t J others h) [
        | inl g ↦ offered t g
        | inr g ↦
            let w = of_map (revise D J) t (filter (hidden P) I) (of_filter (hidden P) t (map (revise D J) (filter (hidden P) I)) g).0 in
            subst (Merged o O S F I J MI (lower J MJ)) (sym w.2) (kept_over w.0 (of_filter (hidden P) w.0 I w.1).0)
      ]

      pub select_put_meets : Meets o S (select_put o P D J I)
      select_put_meets = meets_merged o O S F I J MI (lower J MJ) N (J ++ others) put_rows

      pub select_put_shows : filter (admitted P.parts) (select_put o P D J I) ≡ J
      select_put_shows = same_members o O (filter (admitted P.parts) (select_put o P D J I)) J (ascending_filter o O (admitted P.parts) (select_put o P D J I) (ascending_relation o O (J ++ others))) MJ.ascending
          (λ t h. let k = of_filter (admitted P.parts) t (select_put o P D J I) h in elim (of_append t J others (of_relation o O (J ++ others) t k.0)) [
            | inl g ↦ g
            | inr g ↦ clash (admitted P.parts t) k.1 (not_true (admitted P.parts t) (of_filter (hidden P) t (map (revise D J) (filter (hidden P) I)) g).1)
          ])
          (λ t h. in_filter (admitted P.parts) t (select_put o P D J I) (in_relation o O (J ++ others) t (in_append_left t J others h)) (all_admitted J MJ t h))

    pub show_puts : (I : Relation) → Meets o S I → select_put o P S.deps (filter (admitted P.parts) I) I ≡ I
    show_puts I M = same_members o O (relation_of o (J ++ others')) I (ascending_relation o O (J ++ others')) M.ascending into back
      where
        J : Relation
        J = filter (admitted P.parts) I

        others' : List Tuple
        others' = filter (hidden P) (map (revise S.deps J) (filter (hidden P) I))

        sub : (n : Tuple) → n ∈ J → n ∈ I
        sub n h = (of_filter (admitted P.parts) n I h).0

        stays : (m : Tuple) → m ∈ I → revise S.deps J m ≡ m
        stays m h = revise_same S.columns S.deps J I m M.shaped M.deps sub h

        into : (t : Tuple) → t ∈ relation_of o (J ++ others') → t ∈ I
        into t h = elim (of_append t J others' (of_relation o O (J ++ others') t h)) [
          | inl g ↦ sub t g
          | inr g ↦
              let w = of_map (revise S.deps J) t (filter (hidden P) I) (of_filter (hidden P) t (map (revise S.deps J) (filter (hidden P) I)) g).0 in
              let k = (of_filter (hidden P) w.0 I w.1).0 in
              subst (λ x. x ∈ I) (sym (w.2 ∙ stays w.0 k)) k
        ]

        back : (t : Tuple) → t ∈ I → t ∈ relation_of o (J ++ others')
        back t h = in_relation o O (J ++ others') t (bool_cases (admitted P.parts t)
            (λ e. in_append_left t J others' (in_filter (admitted P.parts) t I h e))
            (λ e.
            let u : hidden P t ≡ true = not_false (admitted P.parts t) e in
            in_append_right t J others' (in_filter (hidden P) t (map (revise S.deps J) (filter (hidden P) I))
            (subst (λ x. x ∈ map (revise S.deps J) (filter (hidden P) I)) (stays t h) (in_map (revise S.deps J) t (filter (hidden P) I) (in_filter (hidden P) t I h u))) u)))

  pub select_lawful : (P : Predicate) (K : Rules) → ReadsNoOutput K.sort → Lawful o K → Lawful o (select o P K)
  select_lawful P K N L =
      let S = K.sort in
      let F = L.formed in
      record {
        formed = record { words = F.words; sets_some = F.sets_some; sets_within = F.sets_within; sets_apart = F.sets_apart; tree = F.tree };
        shown_meets = λ I s. shown_meets P S F N (K.shows I) (L.shown_meets I s);
        put_meets = λ J I s M. L.put_meets (select_put o P S.deps J (K.shows I)) I s (select_put_meets P S F N (K.shows I) J (L.shown_meets I s) M);
        put_shows = λ J I s M. ap (filter (admitted P.parts)) (L.put_shows (select_put o P S.deps J (K.shows I)) I s (select_put_meets P S F N (K.shows I) J (L.shown_meets I s) M))
            ∙ select_put_shows P S F N (K.shows I) J (L.shown_meets I s) M;
        show_puts = λ I s. ap (λ R. K.puts R I) (show_puts P S F N (K.shows I) (L.shown_meets I s)) ∙ L.show_puts I s;
        no_more = λ I s. omega (arith, length_filter (admitted P.parts) (K.shows I), L.no_more I s);
      }
