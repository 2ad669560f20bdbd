-- Tree form of a list of dependencies, the order in which it is worked, and sorts that may be described.
use Rattle.std.specs.Prelude.{◌≡◌, ℕ, zero, suc, Bool, true, cond, not, ◌&&◌, ◌||◌, ◌⊎◌, List, [], ◌∷◌, ◌++◌, length}
use Rattle.model.specs.Values.{◌∈◌, any, every, tail}
use Rattle.model.specs.ColumnSets.{ColumnSet, Within, Same, Apart, same, apart, non_empty}
use Rattle.model.specs.Sorts.{Dependency, Sort, Distinct, all_columns}

-- a way from left to right sets, over one dependency or more
pub data Leads (D : List Dependency) : ColumnSet → ColumnSet → Type 0 where
  one : {X Z : ColumnSet} (d : Dependency) → d ∈ D → Same X d.left → Same d.right Z → Leads D X Z
  more : {X Y Z : ColumnSet} → Leads D X Y → Leads D Y Z → Leads D X Z

-- the left and right sets
abbrev pub sets : List Dependency → List ColumnSet
sets [] = []
sets (d ∷ D) = d.left ∷ d.right ∷ sets D

abbrev pub RightOnce : List Dependency → Type 0
RightOnce [] = Unit {0}
RightOnce (d ∷ D) = ((e : Dependency) → e ∈ D → Same d.right e.right → ⊥) × RightOnce D

pub record TreeForm (D : List Dependency) : Type 0 where
  -- any two of the left and right sets are equal or disjoint
  pub equal_or_apart : (X Y : ColumnSet) → X ∈ sets D → Y ∈ sets D → Same X Y ⊎ Apart X Y
  -- no set is the right set of two dependencies
  pub right_once : RightOnce D
  -- following left to right never returns to a set
  pub no_return : (X : ColumnSet) → Leads D X X → ⊥

-- Each dependency after the one whose right set is its left set.
-- d leads off among D: none of D has d's left set for its right set
abbrev pub leads_off : List Dependency → Dependency → Bool
leads_off [] d = true
leads_off (e ∷ D) d = not (same e.right d.left) && leads_off D d

abbrev pub after_first : Dependency → List Dependency → List Dependency
after_first d [] = d ∷ []
after_first d (e ∷ l) = e ∷ d ∷ l

-- the first of l that leads off among D, set before the others of l
abbrev pub lead_first : List Dependency → List Dependency → List Dependency
lead_first D [] = []
lead_first D (d ∷ l) = cond (leads_off D d) (d ∷ l) (after_first d (lead_first D l))

abbrev pub front : List Dependency → List Dependency
front [] = []
front (d ∷ l) = d ∷ []

abbrev pub arrange : ℕ → List Dependency → List Dependency
arrange zero D = []
arrange (suc k) D = let l = lead_first D D in front l ++ arrange k (tail l)

abbrev pub in_order : List Dependency → List Dependency
in_order D = arrange (length D) D

-- Tree form as a test.
abbrev pub right_once : List Dependency → Bool
right_once [] = true
right_once (d ∷ D) = not (any (λ e. same d.right e.right) D) && right_once D

-- none from d on has d's left set for its right set
abbrev pub arranged : List Dependency → Bool
arranged [] = true
arranged (d ∷ D) = leads_off (d ∷ D) d && arranged D

abbrev pub tree_form : List Dependency → Bool
tree_form D = every (λ X. every (λ Y. same X Y || apart X Y) (sets D)) (sets D) && (right_once D && arranged (in_order D))

-- A sort as it may be described: distinct words; each dependency's sets non-empty, disjoint and of the columns; tree form.
pub record Formed (S : Sort) : Type 0 where
  pub words : Distinct S.columns
  pub sets_some : (d : Dependency) → d ∈ S.deps → (non_empty d.left ≡ true) × (non_empty d.right ≡ true)
  pub sets_within : (d : Dependency) → d ∈ S.deps → Within d.left (all_columns S.columns) × Within d.right (all_columns S.columns)
  pub sets_apart : (d : Dependency) → d ∈ S.deps → Apart d.left d.right
  pub tree : TreeForm S.deps
