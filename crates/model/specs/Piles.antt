-- Views: piles of layers on the caller's stored tables, and when two openings are of one view.
use Rattle.std.specs.Prelude.{◌≡◌, ℕ, zero, suc, ◌<◌, List, [], ◌∷◌, ◌++◌, length}
use Rattle.model.specs.Values.{Value, Tuple, ◌∈◌}
use Rattle.model.specs.Orders.{Order}
use Rattle.model.specs.ColumnSets.{ColumnSet, union, Same}
use Rattle.model.specs.Sorts.{Column, Shaped, Part, admitted}
use Rattle.model.specs.TreeForm.{Formed}
use Rattle.model.specs.Tables.{Store, Rules, first}
use Rattle.model.specs.Selecting.{Predicate, ReadsNoOutput, select}
use Rattle.model.specs.Dropping.{drop, MayDrop}
use Rattle.model.specs.Renaming.{rename, Unused}
use Rattle.model.specs.Joining.{join, MayJoin}

-- A stored table has one store, and both its rules are the identity.
abbrev pub stored : Store → Rules
stored s = record { kind = s.kind; sort = s.sort; stores = s ∷ []; shows = first; puts = λ J I. J ∷ [] }

-- the caller's table at a place (past the end, a table without columns and room)
abbrev pub table_at : List Store → ℕ → Store
table_at [] p = record { kind = 0; sort = record { columns = []; deps = []; parts = [] }; room = 0 }
table_at (s ∷ T) zero = s
table_at (s ∷ T) (suc p) = table_at T p

-- Layers on tables of the caller. A source is named by its place among these tables, a column by its place below.
pub data Pile : Type 0 where
  source : ℕ → Pile
  selecting : Predicate → Pile → Pile
  dropping : ℕ → Value → Pile → Pile
  renaming : ℕ → List ℕ → Pile → Pile
  joining : Pile → Pile → Pile

-- the rules of a pile on the tables T
abbrev pub rules : Order → List Store → Pile → Rules
rules o T (source p) = stored (table_at T p)
rules o T (selecting P v) = select o P (rules o T v)
rules o T (dropping k a v) = drop o k a (rules o T v)
rules o T (renaming k w v) = rename k w (rules o T v)
rules o T (joining v w) = join o (rules o T v) (rules o T w)

-- the places of its tables, from left to right
abbrev pub places : Pile → List ℕ
places (source p) = p ∷ []
places (selecting P v) = places v
places (dropping k a v) = places v
places (renaming k w v) = places v
places (joining v w) = places v ++ places w

-- The premises under which the laws hold: what each layer asks of what it stands on. Opening a view (Opening) checks these, and
-- besides that columns are known, that comparisons are of like kinds, and the limits.
abbrev pub Premises : Order → List Store → Pile → Type 0
Premises o T (source p) = (p < length T) × Formed (table_at T p).sort
Premises o T (selecting P v) = ReadsNoOutput (rules o T v).sort × Premises o T v
Premises o T (dropping k a v) = MayDrop (rules o T v).sort k a × Premises o T v
Premises o T (renaming k w v) = Unused w (rules o T v).sort × Premises o T v
Premises o T (joining v w) = MayJoin (rules o T v).sort (rules o T w).sort × Premises o T v × Premises o T w

abbrev pub Once : List ℕ → Type 0
Once [] = Unit {0}
Once (p ∷ ps) = (p ∈ ps → ⊥) × Once ps

-- A view of the tables T: a pile with these premises that names no table twice.
pub record View (o : Order) (T : List Store) (v : Pile) : Type 0 where
  pub premises : Premises o T v
  pub once : Once (places v)

-- Two conditions on tuples with columns C are the same when they read the same columns and admit the same tuples. How they are
-- cut into parts is no matter.
abbrev pub all_reads : List Part → ColumnSet
all_reads [] = []
all_reads (p ∷ P) = union p.reads (all_reads P)

pub record SameCondition (C : List Column) (P Q : Predicate) : Type 0 where
  pub reads : Same (all_reads P.parts) (all_reads Q.parts)
  pub admits : (t : Tuple) → Shaped C t → admitted P.parts t ≡ admitted Q.parts t

-- Two openings are of one view when they have the same layers, words, defaults and tables in the same places, and the same conditions.
pub data OneView (o : Order) (T : List Store) : Pile → Pile → Type 0 where
  same_source : (p : ℕ) → OneView o T (source p) (source p)
  same_select : {P Q : Predicate} {v w : Pile} → SameCondition (rules o T v).sort.columns P Q → OneView o T v w → OneView o T (selecting P v) (selecting Q w)
  same_drop : (k : ℕ) (a : Value) {v w : Pile} → OneView o T v w → OneView o T (dropping k a v) (dropping k a w)
  same_rename : (k : ℕ) (n : List ℕ) {v w : Pile} → OneView o T v w → OneView o T (renaming k n v) (renaming k n w)
  same_join : {v w x y : Pile} → OneView o T v w → OneView o T x y → OneView o T (joining v x) (joining w y)
