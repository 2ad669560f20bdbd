-- A bank read into a table of the caller's.
use Rattle.std.proofs.Common.{◌≡◌, ℕ, zero, suc, ◌<◌, List, [], ◌∷◌, map, length, get_or, set, Some, None, Ok, Err, vec_items, Option, Result, sym, refl, ap, ◌∙◌, arith}
use Rattle.std.proofs.lemmas.List.{map-set, set-get_or}
use Rattle.model.specs.Values.{Relation, find}
use Rattle.model.specs.Banks.{read_bank}
use Rattle.model.specs.Banks as banks
use Rattle.cells.specs.Numbered.{told}
use Rattle.cells.specs.declared.faults.Refusal.{Refusal}
use Rattle.cells.specs.declared.faults.Refusal.TheVariants as refusal
use Rattle.outcomes.specs.declared.Outcome.{Outcome}
use Rattle.outcomes.specs.declared.Outcome.TheVariants as outcome
use Rattle.banks.specs.Sheets.{store, relation, ReadInto}
use Rattle.banks.specs.declared.sheet.Sheet.{Sheet}
use Rattle.session.specs.declared.tables.Table.{Table}
use Rattle.session.specs.declared.tables.Session.{Session}
use Rattle.session.specs.declared.stops.Stop.{Stop}
use Rattle.session.specs.declared.stops.Stop.TheVariants as stop
use Rattle.cells.specs.Worded.{letters}
use Rattle.session.specs.Callers.{Caller, Kept, Reply, keeping, holding, with_rows, stored, caller, is_named, Placed, Replies, loaded, on_found, unless_drafting, read_reply, from_file, ok, no_file, refused}
use Rattle.session.specs.Stopped.{ended, stopped}
use Rattle.session.proofs.Steps.{replied}

-- what a call answers that reads a bank
abbrev pub reported : Result (Unit {0}) Refusal → Result Outcome Stop
reported (Ok u) = Ok outcome.Accepted
reported (Err e) = Err (stopped e)

-- some member stands at each place of a list
pub item : {A : Type 0} (l : List A) (i : ℕ) → i < length l → (x : A) × (x ≡ get_or l i x)
item [] i h = absurd (omega arith)
item (a ∷ l) zero h = (a, refl)
item (a ∷ l) (suc i) h = item l i (omega arith)

module _ (self : Session) (n : List ℕ) (i : ℕ) (idle : (caller self).draft ≡ None) (place : Placed (vec_items self.tables) n (Some i)) where
  abbrev c : Caller
  c = caller self

  abbrev ts : List Table
  ts = vec_items self.tables

  -- what a file answers that is read into a table
  abbrev answers : Kept → Option (List ℕ) → Reply
  answers t o = from_file c (λ b. loaded c n (read_bank t.kind t.sort t.room b)) o

  module _ (x : Table) (is : x ≡ get_or ts i x) where
    read_is : (o : Option (List ℕ)) → read_reply c n o ≡ answers (stored x) o
    read_is o =
        ap (λ d. unless_drafting d c (on_found (find (is_named n) c.tables) c (λ t. answers t o))) idle
        ∙ ap (λ t. on_found t c (λ t. answers t o)) (place.1 x)
        ∙ ap (λ t. answers (stored t) o) (sym is)

  -- no file
  pub read_none : (o : Option (List ℕ)) → o ≡ None → Replies c (read_reply c n o) (ended (Err (stop.Answer outcome.NoFile))) c
  read_none o e =
      let x = item ts i place.0 in
      replied c (read_reply c n o) (no_file, c) outcome.NoFile c (read_is x.0 x.1 o ∙ ap (answers (stored x.0)) e) refl refl

  module _ (x : Table) (is : x ≡ get_or ts i x) (b : List ℕ) (o : Option (List ℕ)) (e : o ≡ Some b) (new : Sheet) where
    abbrev next : Caller
    next = record { tables = map stored (set ts i (record { name = x.name; sheet = new })); draft = c.draft }

    reply_is : (r : banks.Reading) → read_bank (stored x).kind (stored x).sort (stored x).room b ≡ r → read_reply c n o ≡ loaded c n r
    reply_is r a = read_is x is o ∙ ap (answers (stored x)) e ∙ ap (loaded c n) a

    -- the tables then, where the sheet holds these rows
    holds : (R : Relation) → relation new ≡ R → store new ≡ store x.sheet → next.tables ≡ set (map stored ts) i (holding (stored x) R)
    holds R r s = map-set stored ts i (record { name = x.name; sheet = new }) ∙ ap (λ t. set (map stored ts) i (keeping (letters x.name) (store new) t)) r ∙ ap (λ t. set (map stored ts) i (keeping (letters x.name) t R)) s

    same : relation new ≡ relation x.sheet → store new ≡ store x.sheet → next ≡ c
    same r s =
        ap (λ T. record { tables = T; draft = c.draft })
        (holds (relation x.sheet) r s ∙ sym (map-set stored ts i x) ∙ ap (λ t. map stored (set ts i t)) is ∙ ap (map stored) (set-get_or ts i x))

    -- a bank that is read: accepted, its rows are those of the table, and else nothing changes
    pub read_into : (y : Result (Unit {0}) Refusal) → ReadInto x.sheet new b y → Replies c (read_reply c n o) (ended (reported y)) next
    read_into (Ok u) a =
        let R = relation new in
        replied c (read_reply c n o) (ok, record { tables = with_rows n R c.tables; draft = c.draft }) outcome.Accepted next (reply_is (banks.accepted R) a.0) refl
        (ap (λ T. record { tables = T; draft = c.draft }) (holds R refl a.1 ∙ ap (λ t. set (map stored ts) i (holding (stored t) R)) is ∙ sym (place.2 x R)))
    read_into (Err (refusal.Fault f)) a = replied c (read_reply c n o) (refused (told f), c) (outcome.Refused f) next (reply_is (banks.refused (told f)) a.0) refl (same a.1 a.2)
    read_into (Err refusal.Memory) a = same a.1 a.2
