-- What is claimed of opening: a layer opens exactly when its premises hold, and the limits.
use Rattle.std.specs.Prelude.{◌≡◌, ℕ, ◌≤◌, true, ◌↔◌, List, ◌++◌, length, Some, None}
use Rattle.model.specs.Values.{Value}
use Rattle.model.specs.Sorts.{lookup, Sort}
use Rattle.model.specs.Words.{is_name}
use Rattle.model.specs.Selecting.{Predicate, ReadsNoOutput}
use Rattle.model.specs.Dropping.{MayDrop}
use Rattle.model.specs.Renaming.{Unused}
use Rattle.model.specs.Joining.{join_sort, MayJoin}
use Rattle.model.specs.Opening.{select_fault, drop_fault, rename_fault, join_fault}

-- a sort within the limits
pub record Limited (S : Sort) : Type 0 where
  pub columns : length S.columns ≤ 8
  pub deps : length S.deps ≤ 8
  pub parts : length S.parts ≤ 8

pub record OpeningExact : Type 0 where
  pub select : (p : ℕ) (P : Predicate) (S : Sort) → (select_fault p P S ≡ None) ↔ (ReadsNoOutput S × (length (P.parts ++ S.parts) ≤ 8))
  pub drop : (p : ℕ) (w : List ℕ) (a : Value) (S : Sort) → (drop_fault p w a S ≡ None) ↔ ((k : ℕ) × (lookup S.columns w ≡ Some k) × MayDrop S k a)
  pub rename : (p : ℕ) (w v : List ℕ) (S : Sort) → (rename_fault p w v S ≡ None) ↔ ((is_name v ≡ true) × ((k : ℕ) × (lookup S.columns w ≡ Some k)) × Unused v S)
  pub join : (p : ℕ) (S T : Sort) → (join_fault p S T ≡ None) ↔ (MayJoin S T × Limited (join_sort S T))
