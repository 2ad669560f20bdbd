-- Revision, characterised without its order.
use Rattle.std.proofs.Common.{◌≡◌, ℕ, true, false, ◌⊎◌, List, [], ◌∷◌, Option, sym, refl, ap, ◌∙◌, subst, inl, inr}
use Rattle.model.specs.ColumnSets.{Apart, ColumnSet, has}
use Rattle.model.specs.Revision.{Revised, revise, revise_by, revise_once, taken_from}
use Rattle.model.specs.Sorts.{Agree, Column, Dependency, MeetsDep, MeetsDeps, Shaped, Sort, agrees}
use Rattle.model.specs.TreeForm.{Formed, in_order}
use Rattle.model.specs.Values.{Relation, Tuple, cell, find, ◌∈◌}
use Rattle.laws.specs.Revision.{RevisionCharacterised}
use Rattle.laws.proofs.Cells.{agree_sym, agree_trans, agrees_is, is_agrees, shaped_with, with_in, with_out, with_same}
use Rattle.laws.proofs.Members.{Found, bool_cases, found, hit, miss}
use Rattle.laws.proofs.Turns.{InTurn, in_order_has, in_order_turn, of_in_order}

pub apart_false : (X Y : ColumnSet) → Apart X Y → (i : ℕ) → has Y i ≡ true → has X i ≡ false
apart_false X Y a i h = bool_cases (has X i) (λ e. absurd (a i e h)) (λ e. e)

abbrev pub AllShaped : List Column → Relation → Type 0
AllShaped C N = (t : Tuple) → t ∈ N → Shaped C t

-- one dependency's turn
pub record Turned (C : List Column) (d : Dependency) (N : Relation) (m r : Tuple) : Type 0 where
  pub shaped : Shaped C r
  pub out : (i : ℕ) → has d.right i ≡ false → cell r i ≡ cell m i
  pub took : ((n : Tuple) × (n ∈ N) × Agree d.left m n × Agree d.right r n) ⊎ (((n : Tuple) → n ∈ N → Agree d.left m n → ⊥) × (r ≡ m))

turned_by : (C : List Column) (d : Dependency) (N : Relation) (m : Tuple) → AllShaped C N → Shaped C m → (out : Option Tuple) → Found (agrees d.left m) N out → Turned C d N m (taken_from d.right m out)
turned_by C d N m SN Sm out (hit n h t) = record {
  shaped = shaped_with d.right C n m (SN n h) Sm;
  out = λ i e. with_out d.right n m i e;
  took = inl (n, h, agrees_is d.left m n t, with_in d.right C n m (SN n h) Sm);
}
turned_by C d N m SN Sm out (miss f) = record {
  shaped = Sm;
  out = λ i e. refl;
  took = inr ((λ n h a. f n h (is_agrees d.left m n a)), refl);
}

turned : (C : List Column) (d : Dependency) (N : Relation) (m : Tuple) → AllShaped C N → Shaped C m → Turned C d N m (revise_once d N m)
turned C d N m SN Sm = turned_by C d N m SN Sm (find (agrees d.left m) N) (found (agrees d.left m) N)

pub shaped_by : (C : List Column) (D : List Dependency) (N : Relation) (m : Tuple) → AllShaped C N → Shaped C m → Shaped C (revise_by D N m)
shaped_by C [] N m SN Sm = Sm
shaped_by C (d ∷ D) N m SN Sm = shaped_by C D N (revise_once d N m) SN (turned C d N m SN Sm).shaped

-- the first dependency's turn, then the rest
module _ (C : List Column) (d : Dependency) (D : List Dependency) (N : Relation) (m m' r : Tuple) (MN : MeetsDeps (d ∷ D) N) (IT : InTurn (d ∷ D)) (U : Turned C d N m m') (R : Revised D N m' r) where
  on_left : Agree d.left r m
  on_left i h = R.kept i (λ e g. apart_false e.right d.left (IT.1 e g).0 i h) ∙ U.out i (bool_cases (has d.right i) (λ e. absurd (IT.0 i h e)) (λ e. e))

  on_right : Agree d.right r m'
  on_right i h = R.kept i (λ e g. apart_false e.right d.right (IT.1 e g).1 i h)

  taken_first : (n : Tuple) → n ∈ N → Agree d.left r n → Agree d.right r n
  taken_first n h a = elim U.took [
    | inl w ↦ agree_trans d.right r m' n on_right
        (agree_trans d.right m' w.0 n w.3 (MN d (inl refl) w.0 n w.1 h
        (agree_trans d.left w.0 m n (agree_sym d.left m w.0 w.2) (agree_trans d.left m r n (agree_sym d.left r m on_left) a))))
    | inr w ↦ absurd (w.0 n h (agree_trans d.left m r n (agree_sym d.left r m on_left) a))
  ]

  alone_first : ((n : Tuple) → n ∈ N → Agree d.left r n → ⊥) → Agree d.right r m
  alone_first f = elim U.took [
    | inl w ↦ absurd (f w.0 w.1 (agree_trans d.left r m w.0 on_left w.2))
    | inr w ↦ subst (λ x. Agree d.right r x) w.1 on_right
  ]

  pub both : Revised (d ∷ D) N m r
  both = record {
    kept = λ i f. R.kept i (λ e g. f e (inr g)) ∙ U.out i (f d (inl refl));
    taken = λ e h. elim h [
      | inl p ↦ subst (λ x. (n : Tuple) → n ∈ N → Agree x.left r n → Agree x.right r n) (sym p) taken_first
      | inr g ↦ R.taken e g
    ];
    left_alone = λ e h. elim h [
      | inl p ↦ subst (λ x. ((n : Tuple) → n ∈ N → Agree x.left r n → ⊥) → Agree x.right r m) (sym p) alone_first
      | inr g ↦ λ f i k. R.left_alone e g f i k ∙ U.out i (bool_cases (has d.right i) (λ q. absurd ((IT.1 e g).1 i k q)) (λ q. q))
    ];
  }

pub revised_by : (C : List Column) (D : List Dependency) (N : Relation) → AllShaped C N → MeetsDeps D N → InTurn D → (m : Tuple) → Shaped C m → Revised D N m (revise_by D N m)
revised_by C [] N SN MN IT m Sm = record { kept = λ i f. refl; taken = λ d h. absurd h; left_alone = λ d h. absurd h }
revised_by C (d ∷ D) N SN MN IT m Sm =
    let U = turned C d N m SN Sm in
    both C d D N m (revise_once d N m) (revise_by D N (revise_once d N m)) MN IT U (revised_by C D N SN (λ e g. MN e (inr g)) IT.2 (revise_once d N m) U.shaped)

pub revised : (S : Sort) → Formed S → (N : Relation) → AllShaped S.columns N → MeetsDeps S.deps N → (m : Tuple) → Shaped S.columns m → Revised S.deps N m (revise S.deps N m)
revised S F N SN MN m Sm =
    let D = S.deps in
    let R = revised_by S.columns (in_order D) N SN (λ d h. MN d (of_in_order D d h)) (in_order_turn D F.tree F.sets_apart) m Sm in
    record {
      kept = λ i f. R.kept i (λ d h. f d (of_in_order D d h));
      taken = λ d h. R.taken d (in_order_has D d h);
      left_alone = λ d h. R.left_alone d (in_order_has D d h);
    }

pub revision_characterised : RevisionCharacterised
revision_characterised S F N SN MN m Sm = (shaped_by S.columns (in_order S.deps) N m SN Sm, revised S F N SN MN m Sm)

-- a row of a relation that meets the dependencies is left as it is by revision by some of its rows
once_same : (C : List Column) (d : Dependency) (N I : Relation) (m : Tuple) → AllShaped C I → MeetsDep d I → ((n : Tuple) → n ∈ N → n ∈ I) → m ∈ I → (out : Option Tuple) → Found (agrees d.left m) N out → taken_from d.right m out ≡ m
once_same C d N I m Si MI sub h out (hit n g t) = with_same d.right C n m (Si n (sub n g)) (Si m h) (MI n m (sub n g) h (agree_sym d.left m n (agrees_is d.left m n t)))
once_same C d N I m Si MI sub h out (miss f) = refl

by_same : (C : List Column) (D : List Dependency) (N I : Relation) (m : Tuple) → AllShaped C I → MeetsDeps D I → ((n : Tuple) → n ∈ N → n ∈ I) → m ∈ I → revise_by D N m ≡ m
by_same C [] N I m Si MI sub h = refl
by_same C (d ∷ D) N I m Si MI sub h =
    ap (revise_by D N) (once_same C d N I m Si (MI d (inl refl)) sub h (find (agrees d.left m) N) (found (agrees d.left m) N))
    ∙ by_same C D N I m Si (λ e g. MI e (inr g)) sub h

pub revise_same : (C : List Column) (D : List Dependency) (N I : Relation) (m : Tuple) → AllShaped C I → MeetsDeps D I → ((n : Tuple) → n ∈ N → n ∈ I) → m ∈ I → revise D N m ≡ m
revise_same C D N I m Si MI sub h = by_same C (in_order D) N I m Si (λ d g. MI d (of_in_order D d g)) sub h
