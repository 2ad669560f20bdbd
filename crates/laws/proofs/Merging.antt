-- The rows of J and the revised rows of I together meet what both meet.
use Rattle.std.proofs.Common.{◌≡◌, true, List, ◌++◌, map, Option, sym, ◌∙◌, subst, inl, inr}
use Rattle.model.specs.Orders.{Order, Total, relation_of}
use Rattle.model.specs.Revision.{Revised, revise}
use Rattle.model.specs.Selecting.{ReadsNoOutput}
use Rattle.model.specs.Sorts.{Agree, Dependency, Meets, Part, Shaped, Sort, agrees}
use Rattle.model.specs.TreeForm.{Formed, in_order}
use Rattle.model.specs.Values.{Relation, Tuple, find, ◌∈◌}
use Rattle.laws.proofs.Cells.{agree_sym, agree_trans, agree_within, agrees_is, is_agrees, same_length}
use Rattle.laws.proofs.Members.{Found, found, hit, in_append_right, in_map, miss, of_append, of_map}
use Rattle.laws.proofs.Orders.{ascending_relation, of_relation}
use Rattle.laws.proofs.Revising.{apart_false, revise_same, revised, shaped_by}
use Rattle.laws.proofs.Turns.{root_or_not}

module _ (o : Order) (O : Total o) where
  module _ (S : Sort) (F : Formed S) (I J : Relation) (MI : Meets o S I) (MJ : Meets o S J) where
    pub data Merged : Tuple → Type 0 where
      offered : (t : Tuple) → t ∈ J → Merged t
      kept_over : (m : Tuple) → m ∈ I → Merged (revise S.deps J m)

    abbrev Rev : (m : Tuple) → m ∈ I → Revised S.deps J m (revise S.deps J m)
    Rev m h = revised S F J MJ.shaped MJ.deps m (MI.shaped m h)

    -- where no row of J agrees on the left set, the left set is as it was
    left_kept : (d : Dependency) → d ∈ S.deps → (m r : Tuple) → Revised S.deps J m r → ((n : Tuple) → n ∈ J → Agree d.left r n → ⊥) → Agree d.left r m
    left_kept d h m r R f = elim (root_or_not S.deps F.tree d h) [
      | inl w ↦ agree_within d.left w.0.right r m w.2.1
          (R.left_alone w.0 w.1 (λ n g a. f n g (agree_within d.left w.0.right r n w.2.1 (R.taken w.0 w.1 n g a))))
      | inr w ↦ λ i k. R.kept i (λ e g. apart_false e.right d.left (w e g) i k)
    ]

    two_revised : (d : Dependency) → d ∈ S.deps → (m₁ m₂ r₁ r₂ : Tuple) → m₁ ∈ I → m₂ ∈ I → Revised S.deps J m₁ r₁ → Revised S.deps J m₂ r₂ → Agree d.left r₁ r₂ →
        (out : Option Tuple) → Found (agrees d.left r₁) J out → Agree d.right r₁ r₂
    two_revised d h m₁ m₂ r₁ r₂ h₁ h₂ R₁ R₂ a out (hit n g t) =
        let b : Agree d.left r₁ n = agrees_is d.left r₁ n t in
        agree_trans d.right r₁ n r₂ (R₁.taken d h n g b) (agree_sym d.right r₂ n (R₂.taken d h n g (agree_trans d.left r₂ r₁ n (agree_sym d.left r₁ r₂ a) b)))
    two_revised d h m₁ m₂ r₁ r₂ h₁ h₂ R₁ R₂ a out (miss f) =
        let f₁ : (n : Tuple) → n ∈ J → Agree d.left r₁ n → ⊥ = λ n g b. f n g (is_agrees d.left r₁ n b) in
        let f₂ : (n : Tuple) → n ∈ J → Agree d.left r₂ n → ⊥ = λ n g b. f₁ n g (agree_trans d.left r₁ r₂ n a b) in
        let l₁ : Agree d.left r₁ m₁ = left_kept d h m₁ r₁ R₁ f₁ in
        let l₂ : Agree d.left r₂ m₂ = left_kept d h m₂ r₂ R₂ f₂ in
        let m : Agree d.right m₁ m₂ = MI.deps d h m₁ m₂ h₁ h₂ (agree_trans d.left m₁ r₁ m₂ (agree_sym d.left r₁ m₁ l₁) (agree_trans d.left r₁ r₂ m₂ a l₂)) in
        agree_trans d.right r₁ m₁ r₂ (R₁.left_alone d h f₁) (agree_trans d.right m₁ m₂ r₂ m (agree_sym d.right r₂ m₂ (R₂.left_alone d h f₂)))

    pub merged_meets : (d : Dependency) → d ∈ S.deps → (s t : Tuple) → Merged s → Merged t → Agree d.left s t → Agree d.right s t
    merged_meets d h s t (offered x hs) (offered y ht) a = MJ.deps d h x y hs ht a
    merged_meets d h s t (offered x hs) (kept_over m hm) a = agree_sym d.right (revise S.deps J m) x ((Rev m hm).taken d h x hs (agree_sym d.left x (revise S.deps J m) a))
    merged_meets d h s t (kept_over m hm) (offered y ht) a = (Rev m hm).taken d h y ht a
    merged_meets d h s t (kept_over m hm) (kept_over n hn) a =
        two_revised d h m n (revise S.deps J m) (revise S.deps J n) hm hn (Rev m hm) (Rev n hn) a (find (agrees d.left (revise S.deps J m)) J) (found (agrees d.left (revise S.deps J m)) J)

    merged_shaped : (t : Tuple) → Merged t → Shaped S.columns t
    merged_shaped t (offered x h) = MJ.shaped x h
    merged_shaped t (kept_over m h) = shaped_by S.columns (in_order S.deps) J m MJ.shaped (MI.shaped m h)

    merged_admits : ReadsNoOutput S → (p : Part) → p ∈ S.parts → (t : Tuple) → Merged t → p.admits t ≡ true
    merged_admits N p g t (offered x h) = MJ.admits p g x h
    merged_admits N p g t (kept_over m h) = p.alike (revise S.deps J m) m (same_length S.columns (revise S.deps J m) m (merged_shaped (revise S.deps J m) (kept_over m h)) (MI.shaped m h)) (λ i k. (Rev m h).kept i (λ d q. apart_false d.right p.reads (λ j a b. N p g d q j b a) i k)) ∙ MI.admits p g m h

    -- the relation of such rows meets the sort
    pub meets_merged : ReadsNoOutput S → (l : List Tuple) → ((t : Tuple) → t ∈ l → Merged t) → Meets o S (relation_of o l)
    meets_merged N l f = record {
      ascending = ascending_relation o O l;
      shaped = λ t h. merged_shaped t (f t (of_relation o O l t h));
      admits = λ p g t h. merged_admits N p g t (f t (of_relation o O l t h));
      deps = λ d g s t hs ht a. merged_meets d g s t (f s (of_relation o O l s hs)) (f t (of_relation o O l t ht)) a;
    }

    pub merged_of : (t : Tuple) → t ∈ (J ++ map (revise S.deps J) I) → Merged t
    merged_of t h = elim (of_append t J (map (revise S.deps J) I) h) [
      | inl g ↦ offered t g
      | inr g ↦ let w = of_map (revise S.deps J) t I g in subst Merged (sym w.2) (kept_over w.0 w.1)
    ]

  -- where J has only rows of I, the two together are I
  pub merged_same : (S : Sort) (I J : Relation) → Meets o S I → ((n : Tuple) → n ∈ J → n ∈ I) → (t : Tuple) → t ∈ (J ++ map (revise S.deps J) I) → t ∈ I
  merged_same S I J MI sub t h = elim (of_append t J (map (revise S.deps J) I) h) [
    | inl g ↦ sub t g
    | inr g ↦ let w = of_map (revise S.deps J) t I g in subst (λ x. x ∈ I) (sym (w.2 ∙ revise_same S.columns S.deps J I w.0 MI.shaped MI.deps sub w.1)) w.1
  ]

  pub same_merged : (S : Sort) (I J : Relation) → Meets o S I → ((n : Tuple) → n ∈ J → n ∈ I) → (t : Tuple) → t ∈ I → t ∈ (J ++ map (revise S.deps J) I)
  same_merged S I J MI sub t h = in_append_right t J (map (revise S.deps J) I)
      (subst (λ x. x ∈ map (revise S.deps J) I) (revise_same S.columns S.deps J I t MI.shaped MI.deps sub h) (in_map (revise S.deps J) t I h))
