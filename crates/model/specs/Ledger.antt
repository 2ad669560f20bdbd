-- The ledger: what a history of calls on views comes to, fed the calls with their arguments alone.
use Rattle.std.specs.Prelude.{ℕ, zero, suc, List, [], ◌∷◌, map, Some, None, Option}
use Rattle.model.specs.Values.{Relation}
use Rattle.model.specs.Orders.{Order}
use Rattle.model.specs.Faults.{Fault}
use Rattle.model.specs.Tables.{Store}
use Rattle.model.specs.Judging.{judge, show_fault}
use Rattle.model.specs.Piles.{Pile, rules, places}

-- the relation at a place; all relations with another one there
abbrev pub relation_at : List Relation → ℕ → Relation
relation_at [] p = []
relation_at (R ∷ L) zero = R
relation_at (R ∷ L) (suc p) = relation_at L p

abbrev pub set_at : List Relation → ℕ → Relation → List Relation
set_at [] p R = []
set_at (Q ∷ L) zero R = R ∷ L
set_at (Q ∷ L) (suc p) R = Q ∷ set_at L p R

-- the relations at some places; all relations with others there
abbrev pub stores_of : List ℕ → List Relation → List Relation
stores_of ps L = map (relation_at L) ps

abbrev pub set_stores : List ℕ → List Relation → List Relation → List Relation
set_stores [] I L = L
set_stores (p ∷ ps) [] L = L
set_stores (p ∷ ps) (R ∷ I) L = set_at (set_stores ps I L) p R

-- What the ledger holds: for each stored table a relation.
pub record State : Type 0 where
  pub relations : List Relation

-- the stores of a view
abbrev pub view_stores : Pile → State → List Relation
view_stores v s = stores_of (places v) s.relations

-- what a view shows, the fault due to rows offered through it, and what its put rule stores
abbrev pub shown : Order → List Store → Pile → State → Relation
shown o T v s = (rules o T v).shows (view_stores v s)

abbrev pub due : Order → List Store → Pile → Relation → State → Option Fault
due o T v J s = judge o (rules o T v) J (view_stores v s)

abbrev pub new_stores : Order → List Store → Pile → Relation → State → List Relation
new_stores o T v J s = (rules o T v).puts J (view_stores v s)

-- The calls, each with its view: an opening that is refused has none; a show has a number of slots.
pub data Call : Type 0 where
  open_refused : Fault → Call
  open_view : Pile → Call
  show : Pile → ℕ → Call
  try : Pile → Relation → Call
  put : Pile → Relation → Call
  close_view : Pile → Call

-- A put that is not refused sets the stores of its put rule in place of the view's. All else leaves all relations.
abbrev pub unless_due : {A : Type 0} → Option Fault → A → A → A
unless_due None new old = new
unless_due (Some f) new old = old

abbrev pub set_view : Pile → List Relation → State → State
set_view v I s = record { relations = set_stores (places v) I s.relations }

abbrev pub step : Order → List Store → State → Call → State
step o T s (open_refused f) = s
step o T s (open_view v) = s
step o T s (show v n) = s
step o T s (try v J) = s
step o T s (put v J) = unless_due (due o T v J s) (set_view v (new_stores o T v J s) s) s
step o T s (close_view v) = s

-- An answer. A call may end for want of memory.
pub data Answer : Type 0 where
  ok : Answer
  rows : Relation → Answer
  refused : Fault → Answer
  memory : Answer

abbrev pub verdict : Option Fault → Answer → Answer
verdict None a = a
verdict (Some f) a = refused f

-- the answer that rows shown into n slots make
abbrev pub show_answer : ℕ → Relation → Answer
show_answer n R = verdict (show_fault n R) (rows R)

-- the answer that is due in a state
abbrev pub answer : Order → List Store → State → Call → Answer
answer o T s (open_refused f) = refused f
answer o T s (open_view v) = ok
answer o T s (show v n) = show_answer n (shown o T v s)
answer o T s (try v J) = verdict (due o T v J s) ok
answer o T s (put v J) = verdict (due o T v J s) ok
answer o T s (close_view v) = ok

-- A recorded history: the calls in order, each with its answer.
pub record Entry : Type 0 where
  pub call : Call
  pub answer : Answer

abbrev pub History : Type 0
History = List Entry

abbrev pub entry : Call → Answer → Entry
entry c a = record { call = c; answer = a }

-- a call that ended for want of memory counts as not made
abbrev pub unless_memory : {A : Type 0} → Answer → A → A → A
unless_memory ok new old = new
unless_memory (rows R) new old = new
unless_memory (refused f) new old = new
unless_memory memory new old = old

-- the state after an entry, and after a history
abbrev pub record_entry : Order → List Store → State → Entry → State
record_entry o T s e = unless_memory e.answer (step o T s e.call) s

abbrev pub ledger : Order → List Store → State → History → State
ledger o T s [] = s
ledger o T s (e ∷ h) = ledger o T (record_entry o T s e) h
