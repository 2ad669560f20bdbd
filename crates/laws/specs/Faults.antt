-- What is claimed of the faults of a put, a try and a show.
use Rattle.std.specs.Prelude.{◌≡◌, ℕ, ◌<◌, ◌≤◌, ◌↔◌, List, length, Some, None}
use Rattle.model.specs.Values.{Value, Relation}
use Rattle.model.specs.Orders.{Order, Total}
use Rattle.model.specs.Sorts.{Meets}
use Rattle.model.specs.Faults.{Fault, fault, or_then, shifted}
use Rattle.model.specs.Tables.{Rules, Stored, Fits, Lawful}
use Rattle.model.specs.Judging.{sort_fault, judge, show_fault}
use Rattle.model.specs.Refusals.{Due}
use Rattle.model.specs.Selecting.{Predicate, ReadsNoOutput, select_put, select}
use Rattle.model.specs.Dropping.{drop_put, drop, MayDrop}
use Rattle.model.specs.Renaming.{rename}
use Rattle.model.specs.Joining.{left_stores, right_stores, join_right, join_left, join, MayJoin}

-- a show is refused exactly when the slots are fewer than the rows
abbrev pub ShowExact : Type 0
ShowExact = (n : ℕ) (R : Relation) → ((show_fault n R ≡ None) ↔ (length R ≤ n)) × ((show_fault n R ≡ fault 22 0 (length R)) ↔ (n < length R))

-- no fault is judged exactly when the rows meet the sort and the stores fit their rooms
abbrev pub FaultsExact : Type 0
FaultsExact = (o : Order) (K : Rules) (J : Relation) (I : List Relation) → (judge o K J I ≡ None) ↔ (Meets o K.sort J × Fits K.stores (K.puts J I))

-- a fault is judged exactly when it is due
abbrev pub JudgeDue : Type 0
JudgeDue = (o : Order) (K : Rules) (J : Relation) (I : List Relation) (f : Fault) → (judge o K J I ≡ Some f) ↔ Due o K J I f

-- A layer judges the offered rows by its own sort. Then a fault of the put below passes up unaltered, but join adds the number of its
-- left stores to the place of a right one.
pub record FaultsPass (o : Order) : Type 0 where
  pub through_select : (P : Predicate) (K : Rules) → ReadsNoOutput K.sort → Lawful o K → (J : Relation) (I : List Relation) → Stored o K.stores I →
      judge o (select o P K) J I ≡ or_then (sort_fault o 3 (select o P K).sort J) (judge o K (select_put o P K.sort.deps J (K.shows I)) I)
  pub through_drop : (k : ℕ) (a : Value) (K : Rules) → MayDrop K.sort k a → Lawful o K → (J : Relation) (I : List Relation) → Stored o K.stores I →
      judge o (drop o k a K) J I ≡ or_then (sort_fault o 4 (drop o k a K).sort J) (judge o K (drop_put o k a K.sort.deps J (K.shows I)) I)
  pub through_rename : (k : ℕ) (w : List ℕ) (K : Rules) (J : Relation) (I : List Relation) → judge o (rename k w K) J I ≡ or_then (sort_fault o 5 (rename k w K).sort J) (judge o K J I)
  pub through_join : (K L : Rules) → MayJoin K.sort L.sort → Lawful o K → Lawful o L → (J : Relation) (I : List Relation) → Stored o (join o K L).stores I →
      judge o (join o K L) J I
      ≡ (let I₁ = left_stores K.stores I in
      let I₂ = right_stores K.stores I in
      let N = join_right o K.sort L.sort J (L.shows I₂) in
      let M = join_left o K.sort L.sort J (K.shows I₁) N in
      or_then (sort_fault o 6 (join o K L).sort J) (or_then (judge o K M I₁) (shifted (length K.stores) (judge o L N I₂))))

abbrev pub FaultsPassUp : Type 0
FaultsPassUp = (o : Order) → Total o → FaultsPass o
