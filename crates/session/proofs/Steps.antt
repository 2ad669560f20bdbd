-- What a session replies, step by step.
use Rattle.std.proofs.Common.{◌≡◌, ℕ, List, map, Some, None, Ok, Err, vec_items, Option, Result, sym, refl, ap, ◌∙◌, subst}
use Rattle.std.specs.List.{position}
use Rattle.std.specs.Option.{ok_or}
use Rattle.model.specs.Faults.{Fault}
use Rattle.model.specs.Sorts.{Column}
use Rattle.model.specs.Values.{find}
use Rattle.cells.specs.Answering.{Answers}
use Rattle.cells.specs.Numbered.{told}
use Rattle.cells.specs.Worded.{letters}
use Rattle.cells.specs.declared.faults.Refusal.{Refusal}
use Rattle.cells.specs.declared.faults.Refusal.TheVariants as refusal
use Rattle.commands.specs.declared.parsing.Storage.{Storage}
use Rattle.outcomes.specs.declared.Outcome.{Outcome}
use Rattle.outcomes.specs.declared.Outcome.TheVariants as outcome
use Rattle.sorts.specs.Describing.{table_fault, of_columns}
use Rattle.sorts.specs.Described.{described}
use Rattle.sorts.specs.declared.table.NewTable.{NewTable}
use Rattle.session.specs.Callers.{Caller, Reply, Placed, Reached, Replies, answer, ok, refused, caller, drafting, is_named, names, on_found, stored, table_reply, unless_drafting, unless_fault}
use Rattle.session.specs.Stopped.{ended, stopped}
use Rattle.session.specs.declared.tables.Session.{Session}
use Rattle.session.specs.declared.tables.Table.{Table}
use Rattle.session.proofs.Places.{names_are, placed}

-- a reply that is known
pub replied : (c : Caller) (r s : Reply) (o : Outcome) (c' : Caller) → r ≡ s → answer o ≡ s.0 → c' ≡ s.1 → Replies c r (Ok o) c'
replied c r s o c' e a k = (a ∙ sym (ap (λ x. x.0) e), k ∙ sym (ap (λ x. x.1) e))

-- the place of a table that was looked for while the session is idle
pub reached : (s : Session) (n : List ℕ) (ts : List Table) (o : Option ℕ) (r : Result ℕ Outcome) → (caller s).draft ≡ None → ts ≡ vec_items s.tables → o ≡ position (λ t. is_named n (stored t)) ts → r ≡ ok_or o outcome.NoTable → Reached s n r
reached s n ts o r idle all e is = subst (Reached s n) (sym is) (answers o (subst (λ l. Placed l n o) all (placed n ts o e)))
  where
    c : Caller
    c = caller s

    answers : (x : Option ℕ) → Placed (vec_items s.tables) n x → Reached s n (ok_or x outcome.NoTable)
    answers (Some i) p = (idle, p)
    answers None p = λ f. ap (λ x. unless_drafting x c (on_found (find (is_named n) c.tables) c f)) idle ∙ ap (λ x. on_found x c f) p

-- a table that a session begins to describe
module _ (s : Session) (n : List ℕ) (storage : Storage) (room : ℕ) (C : List Column) (ts : List Table) (idle : (caller s).draft ≡ None) (all : ts ≡ vec_items s.tables) where
  abbrev c : Caller
  c = caller s

  abbrev then : Caller
  then = drafting c (record { name = n; storage = storage; room = room; sort = of_columns C })

  abbrev due : Option Fault
  due = table_fault (map (λ t. letters t.name) ts) n C room

  reply_is : (d : Option Fault) → due ≡ d → table_reply c n storage room C ≡ unless_fault d c then
  reply_is d e =
      ap (λ x. unless_drafting x c (unless_fault (table_fault (names c.tables) n C room) c then)) idle
      ∙ ap (λ N. unless_fault (table_fault N n C room) c then) (sym (names_are (vec_items s.tables)))
      ∙ ap (λ l. unless_fault (table_fault (map (λ t. letters t.name) l) n C room) c then) (sym all)
      ∙ ap (λ x. unless_fault x c then) e

  abbrev asked : NewTable → Type 0
  asked t = (letters t.name ≡ n) × (described t.sort ≡ of_columns C) × (t.room ≡ room)

  pub table_refused : (e : Refusal) → Answers due asked (Err e) → Replies c (table_reply c n storage room C) (ended (Err (stopped e))) c
  table_refused (refusal.Fault f) a = replied c _ (refused (told f), c) (outcome.Refused f) c (reply_is (Some (told f)) a) refl refl
  table_refused refusal.Memory a = refl

  pub table_begun : (t : NewTable) → Answers due asked (Ok t) → Replies c (table_reply c n storage room C) (ended (Ok outcome.Accepted)) (caller (record { tables = s.tables; draft = Some (record { table = t; storage = storage }) }))
  table_begun t a =
      replied c _ (ok, then) outcome.Accepted _ (reply_is None a.0) refl
      (ap (λ x. drafting c (record { name = x; storage = storage; room = t.room; sort = described t.sort })) a.1.0
      ∙ ap (λ x. drafting c (record { name = n; storage = storage; room = t.room; sort = x })) a.1.1
      ∙ ap (λ x. drafting c (record { name = n; storage = storage; room = x; sort = of_columns C })) a.1.2)
