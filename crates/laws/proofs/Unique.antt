-- A row is revised in one way only, whatever the order of the dependencies.
use Rattle.std.proofs.Common.{◌≡◌, ℕ, true, false, ◌⊎◌, List, [], ◌∷◌, Option, sym, refl, ◌∙◌, subst, inl, inr}
use Rattle.model.specs.ColumnSets.{has}
use Rattle.model.specs.Revision.{Revised, revise, revise_by}
use Rattle.model.specs.Sorts.{Agree, Dependency, MeetsDeps, Shaped, Sort, agrees}
use Rattle.model.specs.TreeForm.{Formed, in_order}
use Rattle.model.specs.Values.{Relation, Tuple, any, cell, find, ◌∈◌}
use Rattle.laws.specs.Revision.{RevisionUnique}
use Rattle.laws.proofs.Cells.{agree_sym, agree_trans, agrees_is, is_agrees, tuple_ext}
use Rattle.laws.proofs.Members.{Found, bool_cases, clash, found, hit, in_any, miss, of_any}
use Rattle.laws.proofs.Revising.{AllShaped, apart_false, revised, revised_by, shaped_by}
use Rattle.laws.proofs.Turns.{InTurn, in_order_has, in_order_turn, of_in_order, root_or_not}

module _ (S : Sort) (F : Formed S) (N : Relation) (m r q : Tuple) (R : Revised S.deps N m r) (Q : Revised S.deps N m q) where
  -- where two revised rows agree on a left set they agree on the right set
  right_too : (d : Dependency) → d ∈ S.deps → Agree d.left r q → (out : Option Tuple) → Found (agrees d.left r) N out → Agree d.right r q
  right_too d h a out (hit n g t) =
      let b : Agree d.left r n = agrees_is d.left r n t in
      agree_trans d.right r n q (R.taken d h n g b) (agree_sym d.right q n (Q.taken d h n g (agree_trans d.left q r n (agree_sym d.left r q a) b)))
  right_too d h a out (miss f) =
      let g : (n : Tuple) → n ∈ N → Agree d.left r n → ⊥ = λ n k b. f n k (is_agrees d.left r n b) in
      agree_trans d.right r m q (R.left_alone d h g) (agree_sym d.right q m (Q.left_alone d h (λ n k b. g n k (agree_trans d.left r q n a b))))

  -- before: dependencies on whose right sets they agree; l: those still to come
  left_too : (d : Dependency) (l : List Dependency) → d ∈ S.deps → InTurn (d ∷ l) → ((e : Dependency) → e ∈ S.deps → Agree e.right r q ⊎ (e ∈ (d ∷ l))) → Agree d.left r q
  left_too d l h T f = elim (root_or_not S.deps F.tree d h) [
    | inl w ↦ λ i k. elim (f w.0 w.1) [
      | inl a ↦ a i (w.2.1 i k)
      | inr g ↦ elim g [
        | inl p ↦ absurd (T.0 i k (subst (λ x. has x.right i ≡ true) p (w.2.1 i k)))
        | inr g' ↦ absurd ((T.1 w.0 g').0 i (w.2.1 i k) k)
      ]
    ]
    | inr w ↦ λ i k.
        let n : (e : Dependency) → e ∈ S.deps → has e.right i ≡ false = λ e g. apart_false e.right d.left (w e g) i k in
        R.kept i n ∙ sym (Q.kept i n)
  ]

  all_rights : (l : List Dependency) → InTurn l → ((e : Dependency) → e ∈ l → e ∈ S.deps) → ((e : Dependency) → e ∈ S.deps → Agree e.right r q ⊎ (e ∈ l)) → (e : Dependency) → e ∈ S.deps → Agree e.right r q
  all_rights [] T sub f e h = elim (f e h) [ inl a ↦ a | inr g ↦ absurd g ]
  all_rights (d ∷ l) T sub f e h =
      let a : Agree d.right r q = right_too d (sub d (inl refl)) (left_too d l (sub d (inl refl)) T f) (find (agrees d.left r) N) (found (agrees d.left r) N) in
      all_rights l T.2 (λ e g. sub e (inr g)) (λ e h. elim (f e h) [
        | inl b ↦ inl b
        | inr g ↦ elim g [ inl p ↦ inl (subst (λ x. Agree x.right r q) (sym p) a) | inr g' ↦ inr g' ]
      ]) e h

  same_cells : (i : ℕ) → cell r i ≡ cell q i
  same_cells i = bool_cases (any (λ d. has d.right i) S.deps)
      (λ e. let w = of_any (λ d. has d.right i) S.deps e in
      all_rights (in_order S.deps) (in_order_turn S.deps F.tree F.sets_apart) (of_in_order S.deps) (λ d h. inr (in_order_has S.deps d h)) w.0 w.1 i w.2)
      (λ e. let n : (d : Dependency) → d ∈ S.deps → has d.right i ≡ false = λ d h. bool_cases (has d.right i) (λ t. clash (any (λ d. has d.right i) S.deps) (in_any (λ d. has d.right i) d S.deps h t) e) (λ t. t) in
      R.kept i n ∙ sym (Q.kept i n))

pub revision_unique : RevisionUnique
revision_unique S F N m r q sr sq R Q = tuple_ext S.columns r q sr sq (same_cells S F N m r q R Q)

-- so any arrangement of the dependencies in turn does
pub any_order : (S : Sort) → Formed S → (N : Relation) → AllShaped S.columns N → MeetsDeps S.deps N → (m : Tuple) → Shaped S.columns m →
    (l : List Dependency) → InTurn l → ((d : Dependency) → d ∈ S.deps → d ∈ l) → ((d : Dependency) → d ∈ l → d ∈ S.deps) → revise_by l N m ≡ revise S.deps N m
any_order S F N SN MN m Sm l T into back =
    let R = revised_by S.columns l N SN (λ d h. MN d (back d h)) T m Sm in
    revision_unique S F N m (revise_by l N m) (revise S.deps N m) (shaped_by S.columns l N m SN Sm) (shaped_by S.columns (in_order S.deps) N m SN Sm)
    (record { kept = λ i f. R.kept i (λ d h. f d (back d h)); taken = λ d h. R.taken d (into d h); left_alone = λ d h. R.left_alone d (into d h) })
    (revised S F N SN MN m Sm)
