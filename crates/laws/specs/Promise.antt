-- What is claimed of histories: answers that are due keep the promise.
use Rattle.std.specs.Prelude.{◌≡◌, ℕ, List, [], ◌∷◌, ◌++◌}
use Rattle.model.specs.Orders.{Order, Total}
use Rattle.model.specs.Tables.{Store, Stored, Fits}
use Rattle.model.specs.Ledger.{relation_at, State, Entry, History, record_entry, ledger}
use Rattle.model.specs.Promise.{Promise, Rightly, Faithful, empty}

-- Where the tables begin within their sorts and rooms and every answer is the one due, the promise is kept.
abbrev pub PromiseKept : Type 0
PromiseKept = (o : Order) → Total o → (T : List Store) (start : State) (h : History) (now : State) →
    Stored o T start.relations → Fits T start.relations → Faithful o T start h → now ≡ ledger o T start h → Promise o T start h now

-- empty tables are such a beginning
pub record BeginsEmpty (o : Order) (T : List Store) : Type 0 where
  pub meets : Stored o T (empty T).relations
  pub within_room : Fits T (empty T).relations
  pub no_rows : (p : ℕ) → relation_at (empty T).relations p ≡ []

abbrev pub EmptyBegins : Type 0
EmptyBegins = (o : Order) (T : List Store) → BeginsEmpty o T

-- every point of a history is the end of one
abbrev pub EveryPoint : Type 0
EveryPoint = (o : Order) (T : List Store) (start : State) (past future : History) (now : State) → Promise o T start (past ++ future) now → Promise o T start past (ledger o T start past)

-- a history that grows by a call with the answer due stays faithful
pub record Recorded (o : Order) (T : List Store) (start : State) (h : History) (e : Entry) : Type 0 where
  pub faithful : Faithful o T start (h ++ e ∷ [])
  pub ledger_moves : ledger o T start (h ++ e ∷ []) ≡ record_entry o T (ledger o T start h) e

abbrev pub Recording : Type 0
Recording = (o : Order) (T : List Store) (start : State) (h : History) (e : Entry) → Faithful o T start h → Rightly o T (ledger o T start h) e → Recorded o T start h e
