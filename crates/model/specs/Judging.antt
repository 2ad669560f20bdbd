-- Which fault offered rows are refused with, and which a show is.
use Rattle.std.specs.Prelude.{ℕ, suc, Bool, true, cond, not, ◌&&◌, List, [], ◌∷◌, length, Some, None, Option, nat_le}
use Rattle.model.specs.Values.{Tuple, Relation, any}
use Rattle.model.specs.Orders.{Order, compare_tuples}
use Rattle.model.specs.Sorts.{agrees, Dependency, admitted, Sort}
use Rattle.model.specs.Faults.{Fault, fault, or_then}
use Rattle.model.specs.Tables.{Store, Rules}
use Rattle.model.specs.Decisions.{is_below, shaped}

-- a tuple is above the one before, if there is one
abbrev pub above : Order → Option Tuple → Tuple → Bool
above o None t = true
above o (Some s) t = is_below (compare_tuples o s t)

-- By row: 17 wrong width or kind, or a cell that is none; 18 not above the row before; 19 not admitted.
abbrev pub row_fault : Order → ℕ → Sort → Option Tuple → ℕ → Tuple → Option Fault
row_fault o k S before p t = cond (shaped S.columns t) (cond (above o before t) (cond (admitted S.parts t) None (fault 19 k p)) (fault 18 k p)) (fault 17 k p)

abbrev pub rows_fault : Order → ℕ → Sort → Option Tuple → ℕ → Relation → Option Fault
rows_fault o k S before p [] = None
rows_fault o k S before p (t ∷ J) = or_then (row_fault o k S before p t) (rows_fault o k S (Some t) (suc p) J)

-- Then 20 for the first row that breaks a dependency with an earlier one.
abbrev pub breaks : List Dependency → Relation → Tuple → Bool
breaks D earlier t = any (λ d. any (λ s. agrees d.left s t && not (agrees d.right s t)) earlier) D

abbrev pub dep_fault : ℕ → List Dependency → Relation → ℕ → Relation → Option Fault
dep_fault k D earlier p [] = None
dep_fault k D earlier p (t ∷ J) = cond (breaks D earlier t) (fault 20 k p) (dep_fault k D (t ∷ earlier) (suc p) J)

-- the fault by which rows break a sort
abbrev pub sort_fault : Order → ℕ → Sort → Relation → Option Fault
sort_fault o k S J = or_then (rows_fault o k S None 0 J) (dep_fault k S.deps [] 0 J)

-- Then 21 for the first store from the left that would exceed its room, with that table's kind and its place among the
-- stores. A store is judged by what it holds and what it would hold.
abbrev pub store_fault : Store → ℕ → Relation → Relation → Option Fault
store_fault s p old new = cond (nat_le (length new) s.room) None (fault 21 s.kind p)

abbrev pub stores_fault : List Store → ℕ → List Relation → List Relation → Option Fault
stores_fault [] p I I' = None
stores_fault (s ∷ S) p I [] = None
stores_fault (s ∷ S) p [] (R' ∷ I') = or_then (store_fault s p [] R') (stores_fault S (suc p) [] I')
stores_fault (s ∷ S) p (R ∷ I) (R' ∷ I') = or_then (store_fault s p R R') (stores_fault S (suc p) I I')

-- the fault that is due to a put, or a try, of rows J on stores that hold I
abbrev pub judge : Order → Rules → Relation → List Relation → Option Fault
judge o K J I = or_then (sort_fault o K.kind K.sort J) (stores_fault K.stores 0 I (K.puts J I))

-- the fault that is due to a show of rows R into n slots
abbrev pub show_fault : ℕ → Relation → Option Fault
show_fault n R = cond (nat_le (length R) n) None (fault 22 0 (length R))
