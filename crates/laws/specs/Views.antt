-- What is claimed of views: every view is lawful, and openings of one view are alike.
use Rattle.std.specs.Prelude.{◌≡◌, ℕ, ◌<◌, List, map, length}
use Rattle.model.specs.Values.{Tuple, Relation, ◌∈◌}
use Rattle.model.specs.Orders.{Order, Total}
use Rattle.model.specs.Sorts.{Shaped, admitted}
use Rattle.model.specs.Tables.{Store, Rules, Lawful, Stored}
use Rattle.model.specs.Judging.{judge}
use Rattle.model.specs.Piles.{table_at, Pile, rules, places, View, OneView}

-- A view is lawful, and its stores are the tables at its places.
pub record Stands (o : Order) (T : List Store) (v : Pile) : Type 0 where
  pub lawful : Lawful o (rules o T v)
  pub stores : (rules o T v).stores ≡ map (table_at T) (places v)
  pub within : (p : ℕ) → p ∈ places v → p < length T

abbrev pub ViewsStand : Type 0
ViewsStand = (o : Order) → Total o → (T : List Store) (v : Pile) → View o T v → Stands o T v

-- To be one view is an equivalence.
pub record OneViewLaws (o : Order) (T : List Store) : Type 0 where
  pub reflexive : (v : Pile) → OneView o T v v
  pub symmetric : (v w : Pile) → OneView o T v w → OneView o T w v
  pub transitive : (u v w : Pile) → OneView o T u v → OneView o T v w → OneView o T u w

abbrev pub OneViewEquivalence : Type 0
OneViewEquivalence = (o : Order) (T : List Store) → OneViewLaws o T

-- Openings of one view have the same tables, columns and dependencies, admit the same rows, and on stores that meet their sorts
-- show the same, put the same rows alike and refuse with the same fault.
pub record Alike (o : Order) (K L : Rules) : Type 0 where
  pub kind : K.kind ≡ L.kind
  pub columns : K.sort.columns ≡ L.sort.columns
  pub deps : K.sort.deps ≡ L.sort.deps
  pub admits : (t : Tuple) → Shaped K.sort.columns t → admitted K.sort.parts t ≡ admitted L.sort.parts t
  pub stores : K.stores ≡ L.stores
  pub shows : (I : List Relation) → Stored o K.stores I → K.shows I ≡ L.shows I
  pub puts : (J : Relation) (I : List Relation) → Stored o K.stores I → ((t : Tuple) → t ∈ J → Shaped K.sort.columns t) → K.puts J I ≡ L.puts J I

pub record OpenedAlike (o : Order) (T : List Store) (v w : Pile) : Type 0 where
  pub same_places : places v ≡ places w
  pub same_rules : Alike o (rules o T v) (rules o T w)
  pub same_faults : (J : Relation) (I : List Relation) → Stored o (rules o T v).stores I → judge o (rules o T v) J I ≡ judge o (rules o T w) J I

abbrev pub OneViewAlike : Type 0
OneViewAlike = (o : Order) → Total o → (T : List Store) (v w : Pile) → View o T v → View o T w → OneView o T v w → OpenedAlike o T v w
