-- Which rows exactly a layer shows, and which rows exactly the table below shows after a put through the layer.
use Rattle.std.specs.Prelude.{◌≡◌, ℕ, true, false, ◌⊎◌, ◌↔◌, List}
use Rattle.model.specs.Values.{Value, Tuple, Relation, ◌∈◌, cell}
use Rattle.model.specs.Orders.{Order, Total, Ascending}
use Rattle.model.specs.ColumnSets.{ColumnSet, has}
use Rattle.model.specs.Sorts.{Column, Shaped, Agree, Dependency, admitted, Sort, Meets}
use Rattle.model.specs.Tables.{Rules, Stored, Lawful}
use Rattle.model.specs.Revision.{Revised}
use Rattle.model.specs.Selecting.{Predicate, ReadsNoOutput, select}
use Rattle.model.specs.Dropping.{without, drop, MayDrop}
use Rattle.model.specs.Projecting.{value_of, project}
use Rattle.model.specs.Joining.{shared, join_columns, combine, pairs, project_rows, left_stores, right_stores, join, MayJoin}

-- t is the row m as revised by N, in a table of sort S
abbrev pub IsRevised : Sort → Relation → Tuple → Tuple → Type 0
IsRevised S N m t = Shaped S.columns t × Revised S.deps N m t

-- Select P shows the rows that P admits. A put of J leaves J, and each row that P hid, as revised by J, if P hides it still.
pub record Selects (o : Order) (P : Predicate) (K : Rules) : Type 0 where
  pub shown : (I : List Relation) (t : Tuple) → (t ∈ (select o P K).shows I) ↔ ((t ∈ K.shows I) × (admitted P.parts t ≡ true))
  pub stored : (J : Relation) (I : List Relation) → Stored o K.stores I → Meets o (select o P K).sort J → (t : Tuple) →
      (t ∈ K.shows ((select o P K).puts J I)) ↔ ((t ∈ J) ⊎ ((m : Tuple) × (m ∈ K.shows I) × (admitted P.parts m ≡ false) × IsRevised K.sort J m t × (admitted P.parts t ≡ false)))
  -- a hidden row that contradicts no offered row is still there
  pub hidden_stays : (J : Relation) (I : List Relation) → Stored o K.stores I → Meets o (select o P K).sort J → (m : Tuple) → m ∈ K.shows I → admitted P.parts m ≡ false →
      ((d : Dependency) → d ∈ K.sort.deps → (n : Tuple) → n ∈ J → Agree d.left m n → Agree d.right m n) → m ∈ K.shows ((select o P K).puts J I)

abbrev pub SelectExact : Type 0
SelectExact = (o : Order) → Total o → (P : Predicate) (K : Rules) → ReadsNoOutput K.sort → Lawful o K → Selects o P K

-- The dropped cell of t is that of a row of I that agrees with t on the left set that determines the column, or the default where none does.
abbrev pub Filled : ℕ → Value → ColumnSet → Relation → Tuple → Type 0
Filled k a X I t = ((n : Tuple) × (n ∈ I) × Agree X t n × (cell t k ≡ cell n k)) ⊎ (((n : Tuple) → n ∈ I → Agree X t n → ⊥) × (cell t k ≡ a))

-- Drop shows the rows without the column. A put of J leaves the rows of J, each with its cell filled in.
pub record Drops (o : Order) (k : ℕ) (a : Value) (K : Rules) : Type 0 where
  pub shown : (I : List Relation) (t : Tuple) → (t ∈ (drop o k a K).shows I) ↔ ((s : Tuple) × (s ∈ K.shows I) × (t ≡ without k s))
  pub stored : (d : Dependency) → d ∈ K.sort.deps → has d.right k ≡ true → (J : Relation) (I : List Relation) → Stored o K.stores I → Meets o (drop o k a K).sort J → (t : Tuple) →
      (t ∈ K.shows ((drop o k a K).puts J I)) ↔ (Shaped K.sort.columns t × (without k t ∈ J) × Filled k a d.left (K.shows I) t)

abbrev pub DropExact : Type 0
DropExact = (o : Order) → Total o → (k : ℕ) (a : Value) (K : Rules) → MayDrop K.sort k a → Lawful o K → Drops o k a K

-- u with columns U and v with columns V agree on the shared columns
abbrev pub Matches : List Column → List Column → Tuple → Tuple → Type 0
Matches U V u v = (c : Column) → c ∈ shared U V → value_of U u c.word ≡ value_of V v c.word

-- t is the projection of a row of J, or a row of I as revised by all these projections
abbrev pub MergedRow : Order → List Column → Sort → Relation → Relation → Tuple → Type 0
MergedRow o C S J I t = ((s : Tuple) × (s ∈ J) × (t ≡ project C S.columns s)) ⊎ ((m : Tuple) × (m ∈ I) × IsRevised S (project_rows o C S.columns J) m t)

-- Join shows the combinations of rows that match. A put of J leaves on the right the rows of J and the revised ones, and on the
-- left those of them which make, with the rows of the right, rows of J only.
pub record Joins (o : Order) (K L : Rules) : Type 0 where
  pub shown : (I : List Relation) → Stored o (join o K L).stores I → (t : Tuple) →
      (t ∈ (join o K L).shows I) ↔ ((u : Tuple) × (v : Tuple) × (u ∈ K.shows (left_stores K.stores I)) × (v ∈ L.shows (right_stores K.stores I)) × Matches K.sort.columns L.sort.columns u v × (t ≡ combine K.sort.columns L.sort.columns u v))
  pub right : (J : Relation) (I : List Relation) → Stored o (join o K L).stores I → Meets o (join o K L).sort J → (t : Tuple) →
      (t ∈ L.shows (right_stores K.stores ((join o K L).puts J I))) ↔ MergedRow o (join_columns K.sort.columns L.sort.columns) L.sort J (L.shows (right_stores K.stores I)) t
  pub left : (J : Relation) (I : List Relation) → Stored o (join o K L).stores I → Meets o (join o K L).sort J → (t : Tuple) →
      (t ∈ K.shows (left_stores K.stores ((join o K L).puts J I)))
      ↔ (MergedRow o (join_columns K.sort.columns L.sort.columns) K.sort J (K.shows (left_stores K.stores I)) t
      × ((n : Tuple) → n ∈ L.shows (right_stores K.stores ((join o K L).puts J I)) → Matches K.sort.columns L.sort.columns t n → combine K.sort.columns L.sort.columns t n ∈ J))

abbrev pub JoinExact : Type 0
JoinExact = (o : Order) → Total o → (K L : Rules) → MayJoin K.sort L.sort → Lawful o K → Lawful o L → Joins o K L

-- where the left rows ascend, so do the rows that a join shows as they are made
abbrev pub PairsAscending : Type 0
PairsAscending = (o : Order) → Total o → (U V : List Column) (M N : Relation) → Ascending o M → ((t : Tuple) → t ∈ M → Shaped U t) → Ascending o (pairs U V M N)
