-- Closure.
use Rattle.std.proofs.Common.{◌≡◌, ℕ, zero, suc, Bool, true, false, cond, List, [], ◌∷◌, length, refl, inl, inr}
use Rattle.model.specs.Closures.{closure, grow, turns}
use Rattle.model.specs.ColumnSets.{ColumnSet, union, within}
use Rattle.model.specs.Sorts.{Agree, Dependency, MeetsDeps}
use Rattle.model.specs.Values.{Relation, Tuple, ◌∈◌}
use Rattle.laws.proofs.Cells.{agree_within, of_union, within_is}

-- rows of a relation that meets the dependencies agree on the closure of what they agree on
module _ (D : List Dependency) (R : Relation) (s t : Tuple) (hs : s ∈ R) (ht : t ∈ R) where
  grown_at : (d : Dependency) (W : ColumnSet) (b : Bool) → within d.left W ≡ b → (Agree d.left s t → Agree d.right s t) → Agree W s t → Agree (cond b (union W d.right) W) s t
  grown_at d W true e m a i h = elim (of_union W d.right i h) [ inl g ↦ a i g | inr g ↦ m (agree_within d.left W s t (within_is d.left W e) a) i g ]
  grown_at d W false e m a i h = a i h

  grown : (D : List Dependency) → MeetsDeps D R → (Z : ColumnSet) → Agree Z s t → Agree (grow D Z) s t
  grown [] M Z a = a
  grown (d ∷ D) M Z a = grown_at d (grow D Z) (within d.left (grow D Z)) refl (M d (inl refl) s t hs ht) (grown D (λ e h. M e (inr h)) Z a)

  turned : (k : ℕ) → MeetsDeps D R → (Z : ColumnSet) → Agree Z s t → Agree (turns k D Z) s t
  turned zero M Z a = a
  turned (suc k) M Z a = turned k M (grow D Z) (grown D M Z a)

pub closure_agree : (D : List Dependency) (R : Relation) → MeetsDeps D R → (s t : Tuple) → s ∈ R → t ∈ R → (X : ColumnSet) → Agree X s t → Agree (closure D X) s t
closure_agree D R M s t hs ht X a = turned D R s t hs ht (length D) M X a
