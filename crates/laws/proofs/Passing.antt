-- A fault of a put below passes up.
use Rattle.std.proofs.Common.{◌≡◌, ℕ, suc, ◌+◌, Bool, true, false, cond, leb, List, [], ◌∷◌, ◌++◌, length, Some, None, Option, sym, refl, ap, ◌∙◌, ap₂, arith}
use Rattle.model.specs.Dropping.{drop_put, drop_sort}
use Rattle.model.specs.Faults.{Fault, fault, or_then, shifted}
use Rattle.model.specs.Joining.{MayJoin, join, join_left, join_right, join_sort, left_stores, right_stores}
use Rattle.model.specs.Judging.{judge, sort_fault, store_fault, stores_fault}
use Rattle.model.specs.Orders.{Order, Total}
use Rattle.model.specs.Renaming.{rename_sort}
use Rattle.model.specs.Selecting.{select_put, select_sort}
use Rattle.model.specs.Sorts.{Meets}
use Rattle.model.specs.Tables.{Lawful, Rules, Store, Stored}
use Rattle.model.specs.Values.{Relation}
use Rattle.laws.specs.Faults.{FaultsPass}
use Rattle.laws.proofs.Dropped.{drop_put_meets}
use Rattle.laws.proofs.Joined.{before_after, left_meets, right_meets, stored_after, stored_before}
use Rattle.laws.proofs.Refusing.{none_sort, or_then_cong, sort_none}
use Rattle.laws.proofs.Renamed.{renamed_meets}
use Rattle.laws.proofs.Selecting.{select_put_meets}

or_assoc : (x y z : Option Fault) → or_then (or_then x y) z ≡ or_then x (or_then y z)
or_assoc None y z = refl
or_assoc (Some f) y z = refl

shift_or : (n : ℕ) (x y : Option Fault) → shifted n (or_then x y) ≡ or_then (shifted n x) (shifted n y)
shift_or n None y = refl
shift_or n (Some f) y = refl

shift_one : (n : ℕ) (s : Store) (p : ℕ) (Q R : Relation) → store_fault s (n + p) Q R ≡ shifted n (store_fault s p Q R)
shift_one n s p Q R = go (leb (length R) s.room)
  where
    go : (b : Bool) → cond b None (fault 21 s.kind (n + p)) ≡ shifted n (cond b None (fault 21 s.kind p))
    go true = refl
    go false = refl

-- stores counted from a later place
shift_stores : (n : ℕ) (S : List Store) (p : ℕ) (I N : List Relation) → stores_fault S (n + p) I N ≡ shifted n (stores_fault S p I N)
shift_stores n [] p I N = refl
shift_stores n (s ∷ S) p I [] = refl
shift_stores n (s ∷ S) p [] (R ∷ N) =
    ap₂ or_then (shift_one n s p [] R) (ap (λ q. stores_fault S q [] N) (omega arith) ∙ shift_stores n S (suc p) [] N) ∙ sym (shift_or n (store_fault s p [] R) (stores_fault S (suc p) [] N))
shift_stores n (s ∷ S) p (Q ∷ I) (R ∷ N) =
    ap₂ or_then (shift_one n s p Q R) (ap (λ q. stores_fault S q I N) (omega arith) ∙ shift_stores n S (suc p) I N) ∙ sym (shift_or n (store_fault s p Q R) (stores_fault S (suc p) I N))

module _ (o : Order) (O : Total o) where
  -- the stores of both sides
  stores_append : (S T : List Store) (p : ℕ) (I N I' N' : List Relation) → Stored o S I → Stored o S N → stores_fault (S ++ T) p (I ++ I') (N ++ N') ≡ or_then (stores_fault S p I N) (stores_fault T (length S + p) I' N')
  stores_append [] T p [] [] I' N' i n = ap (λ q. stores_fault T q I' N') (omega arith)
  stores_append [] T p [] (R ∷ N) I' N' i n = absurd n
  stores_append [] T p (Q ∷ I) N I' N' i n = absurd i
  stores_append (s ∷ S) T p [] N I' N' i n = absurd i
  stores_append (s ∷ S) T p (Q ∷ I) [] I' N' i n = absurd n
  stores_append (s ∷ S) T p (Q ∷ I) (R ∷ N) I' N' i n =
      ap (or_then (store_fault s p Q R)) (stores_append S T (suc p) I N I' N' i.1 n.1 ∙ ap (λ q. or_then (stores_fault S (suc p) I N) (stores_fault T q I' N')) (omega arith))
      ∙ sym (or_assoc (store_fault s p Q R) (stores_fault S (suc p) I N) (stores_fault T (length (s ∷ S) + p) I' N'))

  -- rows that meet the sort below have no fault of rows there
  below : (K : Rules) (X : Relation) (I : List Relation) → Meets o K.sort X → stores_fault K.stores 0 I (K.puts X I) ≡ judge o K X I
  below K X I M = ap (λ x. or_then x (stores_fault K.stores 0 I (K.puts X I))) (sym (none_sort o K.kind K.sort X M))

  module _ (K L : Rules) (Y : MayJoin K.sort L.sort) (LK : Lawful o K) (LL : Lawful o L) (J : Relation) (I : List Relation) (s : Stored o (K.stores ++ L.stores) I) (MJ : Meets o (join_sort K.sort L.sort) J) where
    abbrev I₁ : List Relation
    I₁ = left_stores K.stores I

    abbrev I₂ : List Relation
    I₂ = right_stores K.stores I

    abbrev N : Relation
    N = join_right o K.sort L.sort J (L.shows I₂)

    abbrev M : Relation
    M = join_left o K.sort L.sort J (K.shows I₁) N

    s₁ : Stored o K.stores I₁
    s₁ = stored_before o O K.stores L.stores I s

    s₂ : Stored o L.stores I₂
    s₂ = stored_after o O K.stores L.stores I s

    ML : Meets o K.sort M
    ML = left_meets o O K.sort L.sort LK.formed LL.formed Y J MJ (K.shows I₁) (L.shows I₂) (LK.shown_meets I₁ s₁) (LL.shown_meets I₂ s₂)

    MR : Meets o L.sort N
    MR = right_meets o O K.sort L.sort LK.formed LL.formed Y J MJ (K.shows I₁) (L.shows I₂) (LK.shown_meets I₁ s₁) (LL.shown_meets I₂ s₂)

    both_sides : stores_fault (K.stores ++ L.stores) 0 I ((join o K L).puts J I) ≡ or_then (judge o K M I₁) (shifted (length K.stores) (judge o L N I₂))
    both_sides =
        ap (λ X. stores_fault (K.stores ++ L.stores) 0 X ((join o K L).puts J I)) (sym (before_after o O K.stores L.stores I s))
        ∙ stores_append K.stores L.stores 0 I₁ (K.puts M I₁) I₂ (L.puts N I₂) s₁ (LK.put_meets M I₁ s₁ ML)
        ∙ ap₂ or_then (below K M I₁ ML) (shift_stores (length K.stores) L.stores 0 I₂ (L.puts N I₂) ∙ ap (shifted (length K.stores)) (below L N I₂ MR))

  pub faults_pass : FaultsPass o
  faults_pass = record {
    through_select = λ P K R L J I s. or_then_cong (sort_fault o 3 (select_sort P K.sort) J) _ _
        (λ e. below K (select_put o P K.sort.deps J (K.shows I)) I (select_put_meets o O P K.sort L.formed R (K.shows I) J (L.shown_meets I s) (sort_none o 3 (select_sort P K.sort) J e)));
    through_drop = λ k a K Y L J I s. or_then_cong (sort_fault o 4 (drop_sort k a K.sort) J) _ _
        (λ e. below K (drop_put o k a K.sort.deps J (K.shows I)) I (drop_put_meets o O k a K.sort L.formed Y (K.shows I) (L.shown_meets I s) J (sort_none o 4 (drop_sort k a K.sort) J e)));
    through_rename = λ k w K J I. or_then_cong (sort_fault o 5 (rename_sort k w K.sort) J) _ _ (λ e. below K J I (renamed_meets o k w K.sort J (sort_none o 5 (rename_sort k w K.sort) J e)));
    through_join = λ K L Y LK LL J I s. or_then_cong (sort_fault o 6 (join_sort K.sort L.sort) J) _ _ (λ e. both_sides K L Y LK LL J I s (sort_none o 6 (join_sort K.sort L.sort) J e));
  }
