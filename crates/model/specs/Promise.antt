-- The promise of a history of calls on views, whole.
use Rattle.std.specs.Prelude.{◌≡◌, ℕ, ◌⊎◌, ◌↔◌, List, [], ◌∷◌, ◌++◌, map}
use Rattle.model.specs.Values.{Relation, ◌∈◌}
use Rattle.model.specs.Orders.{Order}
use Rattle.model.specs.Sorts.{Meets}
use Rattle.model.specs.Faults.{Fault}
use Rattle.model.specs.Tables.{Store, Stored, Fits, Exceeds}
use Rattle.model.specs.Refusals.{Due}
use Rattle.model.specs.Piles.{Pile, rules, places, View, OneView}
use Rattle.model.specs.Ledger.{relation_at, State, view_stores, shown, new_stores, Call, open_refused, open_view, show, try, put, close_view, Answer, ok, rows, refused, memory, show_answer, answer, Entry, History, entry, record_entry, ledger}

-- the call was made: it did not end for want of memory
abbrev pub Made : Answer → Type 0
Made ok = Unit {0}
Made (rows R) = Unit {0}
Made (refused f) = Unit {0}
Made memory = ⊥

-- in the history h, after the calls `past`, the call c was made and answered a
abbrev pub Answered : History → History → Call → Answer → Type 0
Answered h past c a = (future : History) × (h ≡ past ++ entry c a ∷ future) × Made a

-- the call offers the rows J through the view: a put or a try
abbrev pub Offers : Call → Pile → Relation → Type 0
Offers c v J = (c ≡ put v J) ⊎ (c ≡ try v J)

-- a put is on the tables of its view, and so on those of any view that shares one
abbrev pub Share : Pile → Pile → Type 0
Share v w = (p : ℕ) × (p ∈ places v) × (p ∈ places w)

-- no put on the view's tables was accepted in a stretch of history
abbrev pub Quiet : Pile → History → Type 0
Quiet v h = (w : Pile) (J : Relation) → entry (put w J) ok ∈ h → Share w v → ⊥

-- through the view, perhaps at an earlier opening of it, came an answer to a call, and no put on its tables was accepted since
pub record Since (o : Order) (T : List Store) (v : Pile) (call : Pile → Call) (a : Answer) (past : History) : Type 0 where
  pub opening : Pile
  pub one_view : OneView o T opening v
  pub before : History
  pub since : History
  pub split : past ≡ before ++ entry (call opening) a ∷ since
  pub quiet : Quiet v since

-- J are the rows last accepted through the view, no other view's put on its tables being accepted since
abbrev pub LastAccepted : Order → List Store → Pile → Relation → History → Type 0
LastAccepted o T v J past = Since o T v (λ w. put w J) ok past

-- J were shown through the view, no put on its tables being accepted since
abbrev pub LastShown : Order → List Store → Pile → Relation → History → Type 0
LastShown o T v J past = (n : ℕ) × Since o T v (λ w. show w n) (rows J) past

-- Of tables T that began in the state `start`, the history h of calls on views of them, and the state that they are in now.
pub record Promise (o : Order) (T : List Store) (start : State) (h : History) (now : State) : Type 0 where
  -- Every stored table has the rows of the ledger, and at every point meets its condition and dependencies and is within its room.
  pub has_rows : now ≡ ledger o T start h
  pub meets : (past future : History) → h ≡ past ++ future → Stored o T (ledger o T start past).relations
  pub within_room : (past future : History) → h ≡ past ++ future → Fits T (ledger o T start past).relations
  -- Every answer is the one that is due where the tables hold what the ledger says: of a show the rows or 22, of a put or a try the first fault.
  pub answers : (past : History) (c : Call) (a : Answer) → Answered h past c a → a ≡ answer o T (ledger o T start past) c
  -- A put is refused exactly when its rows break the view's sort or a stored table would exceed its room. A try answers as put would.
  pub refuses : (past : History) (c : Call) (a : Answer) (v : Pile) (J : Relation) → Answered h past c a → Offers c v J →
      ((f : Fault) × (a ≡ refused f)) ↔ ((Meets o (rules o T v).sort J → ⊥) ⊎ Exceeds (rules o T v).stores (new_stores o T v J (ledger o T start past)))
  pub accepts : (past : History) (c : Call) (a : Answer) (v : Pile) (J : Relation) → Answered h past c a → Offers c v J →
      (a ≡ ok) ↔ (Meets o (rules o T v).sort J × Fits (rules o T v).stores (new_stores o T v J (ledger o T start past)))
  -- The fault is the one due in words: the first wrong row, or else the first table without room.
  pub faults : (past : History) (c : Call) (f : Fault) (v : Pile) (J : Relation) → Answered h past c (refused f) → Offers c v J → Due o (rules o T v) J (view_stores v (ledger o T start past)) f
  -- A view, also when opened again, shows exactly the rows last accepted through it until another view's put on its tables is accepted.
  pub shows_last : (past : History) (v : Pile) (n : ℕ) (a : Answer) (J : Relation) → Answered h past (show v n) a → LastAccepted o T v J past → a ≡ show_answer n J
  -- Before the first accepted put on them it shows what they held at the start: none where they were empty.
  pub shows_first : (past : History) (v : Pile) (n : ℕ) (a : Answer) → Answered h past (show v n) a → Quiet v past → a ≡ show_answer n (shown o T v start)
  pub shows_none : (past : History) (v : Pile) (n : ℕ) (a : Answer) → Answered h past (show v n) a → Quiet v past → ((p : ℕ) → p ∈ places v → relation_at start.relations p ≡ []) → a ≡ rows []
  -- Rows shown, when put back through it with no accepted put on its tables between, are accepted and change no stored row.
  pub puts_back : (past : History) (c : Call) (a : Answer) (v : Pile) (J : Relation) → Answered h past c a → Offers c v J → LastShown o T v J past →
      (a ≡ ok) × (ledger o T start (past ++ entry c a ∷ []) ≡ ledger o T start past)

-- the call is on a view of the tables
abbrev pub OnView : Order → List Store → Call → Type 0
OnView o T (open_refused f) = Unit {0}
OnView o T (open_view v) = View o T v
OnView o T (show v n) = View o T v
OnView o T (try v J) = View o T v
OnView o T (put v J) = View o T v
OnView o T (close_view v) = View o T v

-- a call that was made is on a view, and its answer is the one due in the state s
pub record Rightly (o : Order) (T : List Store) (s : State) (e : Entry) : Type 0 where
  pub on_view : Made e.answer → OnView o T e.call
  pub is_due : Made e.answer → e.answer ≡ answer o T s e.call

-- what each call owes: its entry is right in the state before, and the state after is what the ledger says
pub record Performed (o : Order) (T : List Store) (s : State) (e : Entry) (s' : State) : Type 0 where
  pub rightly : Rightly o T s e
  pub moves : s' ≡ record_entry o T s e

-- every call was on a view and answered as due
abbrev pub Faithful : Order → List Store → State → History → Type 0
Faithful o T s [] = Unit {0}
Faithful o T s (e ∷ h) = Rightly o T s e × Faithful o T (record_entry o T s e) h

-- the state of empty tables
abbrev pub empty : List Store → State
empty T = record { relations = map (λ s. []) T }
