-- Worked examples, computed from the definitions, with the order of the rules.
use Rattle.std.specs.Prelude.{◌≡◌, ℕ, true, false, List, [], ◌∷◌, Some, None, codes}
use Rattle.model.specs.Values.{Value, num, text, Relation}
use Rattle.model.specs.Orders.{by_bytes}
use Rattle.model.specs.ColumnSets.{ColumnSet}
use Rattle.model.specs.Sorts.{numbers, texts, Column, lookup, Dependency, Sort}
use Rattle.model.specs.Closures.{closure}
use Rattle.model.specs.TreeForm.{tree_form}
use Rattle.model.specs.Faults.{fault}
use Rattle.model.specs.Tables.{Store, Rules}
use Rattle.model.specs.Judging.{judge}
use Rattle.model.specs.Banks as banks
use Rattle.model.specs.Conditions.{Condition, compared, bracket, both, equals, at_least, at_most, constant, pick, parts_of}
use Rattle.model.specs.Selecting.{Predicate}
use Rattle.model.specs.Opening.{select_fault, drop_fault, rename_fault, join_fault}
use Rattle.model.specs.Piles.{Pile, source, selecting, dropping, renaming, joining, rules, View, OneView}
use Rattle.model.specs.Ledger.{open_view, show, try, put, close_view, ok, rows, refused, memory, History, entry, ledger}
use Rattle.model.specs.Promise.{Faithful, empty}

abbrev pub from_to : ColumnSet → ColumnSet → Dependency
from_to X Y = record { left = X; right = Y }

-- the columns a, b, c and d
abbrev pub a : ColumnSet
a = true ∷ []

abbrev pub b : ColumnSet
b = false ∷ true ∷ []

abbrev pub c : ColumnSet
c = false ∷ false ∷ true ∷ []

abbrev pub d : ColumnSet
d = false ∷ false ∷ false ∷ true ∷ []

-- some texts
abbrev pub Glass : Value
Glass = text (codes "Glass")

abbrev pub Grit : Value
Grit = text (codes "Grit")

abbrev pub Saw : Value
Saw = text (codes "Saw")

abbrev pub Pads : Value
Pads = text (codes "Pads")

abbrev pub Bass : Value
Bass = text (codes "Bass")

abbrev pub Ann : Value
Ann = text (codes "Ann")

abbrev pub Bo : Value
Bo = text (codes "Bo")

-- the tables (title, bank) with title -> bank; (bank, author) with bank -> author; (title, bank, author) with bank -> author; and with both
abbrev pub title : Column
title = record { word = codes "title"; kind = texts }

abbrev pub bank : Column
bank = record { word = codes "bank"; kind = texts }

abbrev pub author : Column
author = record { word = codes "author"; kind = texts }

abbrev pub titles : ℕ → Store
titles room = record { kind = 1; sort = record { columns = title ∷ bank ∷ []; deps = from_to a b ∷ []; parts = [] }; room = room }

abbrev pub authors : Store
authors = record { kind = 1; sort = record { columns = bank ∷ author ∷ []; deps = from_to a b ∷ []; parts = [] }; room = 128 }

abbrev pub songs : Store
songs = record { kind = 1; sort = record { columns = title ∷ bank ∷ author ∷ []; deps = from_to b c ∷ []; parts = [] }; room = 128 }

abbrev pub signed : Store
signed = record { kind = 1; sort = record { columns = title ∷ bank ∷ author ∷ []; deps = from_to a b ∷ from_to b c ∷ []; parts = [] }; room = 128 }

-- (title, bank, author) with title -> bank author; and the titles of the bank Bass
abbrev pub full : Sort
full = record { columns = title ∷ bank ∷ author ∷ []; deps = from_to a (false ∷ true ∷ true ∷ []) ∷ []; parts = [] }

abbrev pub basses : Sort
basses = record { columns = title ∷ bank ∷ []; deps = from_to a b ∷ []; parts = pick 1 (Bass ∷ []) ∷ [] }

-- the rules of a pile on tables; conditions that a column has a value, picked and written
abbrev pub on : List Store → Pile → Rules
on = rules by_bytes

abbrev pub picked : ℕ → Value → Predicate
picked i v = record { parts = pick i (v ∷ []) ∷ [] }

abbrev pub written : Condition → Predicate
written k = record { parts = parts_of by_bytes k }

-- the titles in the bank Pads; the titles without their bank; titles with authors
abbrev pub pads : Pile
pads = selecting (picked 1 Pads) (source 0)

abbrev pub unbanked : Pile
unbanked = dropping 1 Pads (source 0)

abbrev pub credits : Pile
credits = joining (source 0) (source 1)

-- the titles in the bank Pads, by name
abbrev pub names : Pile
names = renaming 0 (codes "name") (selecting (written (compared 1 equals (constant Pads))) (source 0))

abbrev pub T₁ : List Store
T₁ = titles 2 ∷ []

abbrev pub T₂ : List Store
T₂ = titles 128 ∷ authors ∷ []

-- Glass Pads, Grit Bass, and Pads Ann
abbrev pub I₂ : List Relation
I₂ = ((Glass ∷ Pads ∷ []) ∷ (Grit ∷ Bass ∷ []) ∷ []) ∷ ((Pads ∷ Ann ∷ []) ∷ []) ∷ []

-- a table with a text and a num column, and the bank of Glass, 200
abbrev pub sounds : Sort
sounds = record { columns = title ∷ record { word = codes "size"; kind = numbers } ∷ []; deps = []; parts = [] }

abbrev pub glass_bank : List ℕ
glass_bank = 0x01 ∷ 0x02 ∷ 0x01 ∷ 0x00 ∷ 0x01 ∷ 0x05 ∷ 0x47 ∷ 0x6C ∷ 0x61 ∷ 0x73 ∷ 0x73 ∷ 0x81 ∷ 0x48 ∷ []

-- a history: Grit Bass stored, then the Pads view opened and worked
abbrev pub worked : History
worked =
    entry (put (source 0) ((Grit ∷ Bass ∷ []) ∷ [])) ok
    ∷ entry (open_view pads) ok
    ∷ entry (show pads 0) (rows [])
    ∷ entry (put pads ((Glass ∷ Pads ∷ []) ∷ [])) memory
    ∷ entry (try pads ((Glass ∷ Pads ∷ []) ∷ [])) ok
    ∷ entry (put pads ((Glass ∷ Pads ∷ []) ∷ [])) ok
    ∷ entry (show pads 8) (rows ((Glass ∷ Pads ∷ []) ∷ []))
    ∷ entry (put pads ((Glass ∷ Bass ∷ []) ∷ [])) (refused (record { number = 19; kind = 3; place = 0 }))
    ∷ entry (close_view pads) ok
    ∷ entry (show (source 0) 1) (refused (record { number = 22; kind = 0; place = 2 }))
    ∷ []

pub record Examples : Type 0 where
  -- a -> b and b -> c: the closure of a is a, b, c, and that of c is c
  pub closure_of_a : closure (from_to a b ∷ from_to b c ∷ []) a ≡ true ∷ true ∷ true ∷ []
  pub closure_of_c : closure (from_to a b ∷ from_to b c ∷ []) c ≡ c
  -- no tree form: a -> b with c -> b; a -> b with b -> a; a -> b c with b -> d. But b -> c with a -> b is one.
  pub right_set_twice : tree_form (from_to a b ∷ from_to c b ∷ []) ≡ false
  pub circle : tree_form (from_to a b ∷ from_to b a ∷ []) ≡ false
  pub overlap : tree_form (from_to a (false ∷ true ∷ true ∷ []) ∷ from_to b d ∷ []) ≡ false
  pub chain : tree_form (from_to b c ∷ from_to a b ∷ []) ≡ true
  -- a column by its word
  pub found : lookup (title ∷ bank ∷ []) (codes "bank") ≡ Some 1
  pub unknown : lookup (title ∷ bank ∷ []) (codes "author") ≡ None
  -- drop bank default Pads on Grit Bass: putting Glass, Grit stores Glass Pads, Grit Bass
  pub dropped : (on T₁ unbanked).puts ((Glass ∷ []) ∷ (Grit ∷ []) ∷ []) (((Grit ∷ Bass ∷ []) ∷ []) ∷ []) ≡ ((Glass ∷ Pads ∷ []) ∷ (Grit ∷ Bass ∷ []) ∷ []) ∷ []
  -- there the sort loses the dependency whose right set empties; and a part that reads the dropped column
  pub dropped_deps : (on T₁ unbanked).sort.deps ≡ []
  pub dropped_parts : (on (record { kind = 1; sort = basses; room = 2 } ∷ []) (dropping 1 Bass (source 0))).sort.parts ≡ []
  -- the join shows Glass Pads Ann; putting nothing leaves Grit Bass and Pads Ann
  pub joined : (on T₂ credits).shows I₂ ≡ (Glass ∷ Pads ∷ Ann ∷ []) ∷ []
  pub emptied : (on T₂ credits).puts [] I₂ ≡ ((Grit ∷ Bass ∷ []) ∷ []) ∷ ((Pads ∷ Ann ∷ []) ∷ []) ∷ []
  -- putting Glass Pads Bo changes only Ann to Bo
  pub revised : (on T₂ credits).puts ((Glass ∷ Pads ∷ Bo ∷ []) ∷ []) I₂ ≡ ((Glass ∷ Pads ∷ []) ∷ (Grit ∷ Bass ∷ []) ∷ []) ∷ ((Pads ∷ Bo ∷ []) ∷ []) ∷ []
  -- A joined dependency is as wide as the columns.
  pub joined_deps : (on T₂ credits).sort.deps ≡ from_to (true ∷ false ∷ false ∷ []) (false ∷ true ∷ false ∷ []) ∷ from_to (false ∷ true ∷ false ∷ []) (false ∷ false ∷ true ∷ []) ∷ []
  -- Joining (title, bank) with (title, bank, author), both with title -> bank: that dependency stands once.
  pub united_once : (on (titles 128 ∷ signed ∷ []) credits).sort.deps ≡ from_to (true ∷ false ∷ false ∷ []) (false ∷ true ∷ false ∷ []) ∷ from_to (false ∷ true ∷ false ∷ []) (false ∷ false ∷ true ∷ []) ∷ []
  -- 128 is 81 00; 80 00 is 23
  pub groups_of_128 : banks.groups 128 ≡ 0x81 ∷ 0x00 ∷ []
  pub padded : banks.read_number 2 (0x80 ∷ 0x00 ∷ []) ≡ banks.bad 23 0
  -- Glass, 200 in a text and a num column, written and read
  pub written_bank : banks.bank sounds.columns ((Glass ∷ num 200 ∷ []) ∷ []) ≡ glass_bank
  pub read_bank : banks.read_bank 1 sounds 8 glass_bank ≡ banks.accepted ((Glass ∷ num 200 ∷ []) ∷ [])
  -- Select title = Saw on Glass Pads Ann, Grit Bass Ann: putting Saw Pads Bo revises the hidden Glass Pads Ann to Glass Pads Bo.
  pub hidden_revised : (on (songs ∷ []) (selecting (picked 0 Saw) (source 0))).puts ((Saw ∷ Pads ∷ Bo ∷ []) ∷ []) (((Glass ∷ Pads ∷ Ann ∷ []) ∷ (Grit ∷ Bass ∷ Ann ∷ []) ∷ []) ∷ [])
      ≡ ((Glass ∷ Pads ∷ Bo ∷ []) ∷ (Grit ∷ Bass ∷ Ann ∷ []) ∷ (Saw ∷ Pads ∷ Bo ∷ []) ∷ []) ∷ []
  -- Select author = Bo on the same rows: as revised, Glass Pads Bo is admitted, was not offered, and so is gone.
  pub admitted_gone : (on (songs ∷ []) (selecting (picked 2 Bo) (source 0))).puts ((Saw ∷ Pads ∷ Bo ∷ []) ∷ []) (((Glass ∷ Pads ∷ Ann ∷ []) ∷ (Grit ∷ Bass ∷ Ann ∷ []) ∷ []) ∷ [])
      ≡ ((Grit ∷ Bass ∷ Ann ∷ []) ∷ (Saw ∷ Pads ∷ Bo ∷ []) ∷ []) ∷ []
  -- a pile with select and rename: its columns, what it shows and what a put through it stores
  pub renamed_found : lookup (on T₁ names).sort.columns (codes "name") ≡ Some 0
  pub renamed_lost : lookup (on T₁ names).sort.columns (codes "title") ≡ None
  pub renamed_shows : (on T₁ names).shows (((Glass ∷ Pads ∷ []) ∷ (Grit ∷ Bass ∷ []) ∷ []) ∷ []) ≡ (Glass ∷ Pads ∷ []) ∷ []
  pub renamed_puts : (on T₁ names).puts ((Saw ∷ Pads ∷ []) ∷ []) (((Glass ∷ Pads ∷ []) ∷ (Grit ∷ Bass ∷ []) ∷ []) ∷ []) ≡ ((Grit ∷ Bass ∷ []) ∷ (Saw ∷ Pads ∷ []) ∷ []) ∷ []
  pub renamed_refuses : judge by_bytes (on T₁ names) ((Saw ∷ Bass ∷ []) ∷ []) ([] ∷ []) ≡ fault 19 5 0
  -- layers that do not open, at place 7 of a definition
  pub reads_an_output : select_fault 7 (picked 0 Saw) basses ≡ fault 11 3 7
  pub no_such_column : drop_fault 7 (codes "author") Pads (titles 2).sort ≡ fault 6 4 7
  pub determining_column : drop_fault 7 (codes "title") Pads (titles 2).sort ≡ fault 12 4 7
  pub unlike_default : drop_fault 7 (codes "bank") (num 1) (titles 2).sort ≡ fault 7 4 7
  pub unadmitted_default : drop_fault 7 (codes "bank") Pads basses ≡ fault 13 4 7
  pub admitted_default : drop_fault 7 (codes "bank") Bass basses ≡ None
  pub keyword : rename_fault 7 (codes "title") (codes "select") (titles 2).sort ≡ fault 3 5 7
  pub used_word : rename_fault 7 (codes "title") (codes "bank") (titles 2).sort ≡ fault 5 5 7
  pub undetermined : join_fault 7 authors.sort (titles 2).sort ≡ fault 14 6 7
  pub no_tree : join_fault 7 full authors.sort ≡ fault 15 6 7
  pub opens : join_fault 7 (titles 2).sort authors.sort ≡ None
  -- faults of rows offered through the Pads view and to the table
  pub narrow : judge by_bytes (on T₁ pads) ((Glass ∷ []) ∷ []) ([] ∷ []) ≡ fault 17 3 0
  pub number_for_text : judge by_bytes (on T₁ pads) ((Glass ∷ Pads ∷ []) ∷ (Grit ∷ num 1 ∷ []) ∷ []) ([] ∷ []) ≡ fault 17 3 1
  pub empty_text : judge by_bytes (on T₁ pads) ((text [] ∷ Pads ∷ []) ∷ []) ([] ∷ []) ≡ fault 17 3 0
  pub not_above : judge by_bytes (on T₁ pads) ((Grit ∷ Pads ∷ []) ∷ (Glass ∷ Bass ∷ []) ∷ []) ([] ∷ []) ≡ fault 18 3 1
  pub not_admitted : judge by_bytes (on T₁ pads) ((Glass ∷ Bass ∷ []) ∷ (Glass ∷ []) ∷ []) ([] ∷ []) ≡ fault 19 3 0
  pub two_banks : judge by_bytes (on T₁ (source 0)) ((Glass ∷ Bass ∷ []) ∷ (Glass ∷ Pads ∷ []) ∷ []) ([] ∷ []) ≡ fault 20 1 1
  -- Grit Bass stored, Glass Pads put through the Pads view: 21 at room 1, not at 2
  pub no_room : judge by_bytes (on (titles 1 ∷ []) pads) ((Glass ∷ Pads ∷ []) ∷ []) (((Grit ∷ Bass ∷ []) ∷ []) ∷ []) ≡ fault 21 1 0
  pub room : judge by_bytes (on T₁ pads) ((Glass ∷ Pads ∷ []) ∷ []) (((Grit ∷ Bass ∷ []) ∷ []) ∷ []) ≡ None
  -- what the history comes to
  pub ledger_holds : (ledger by_bytes T₁ (empty T₁) worked).relations ≡ ((Glass ∷ Pads ∷ []) ∷ (Grit ∷ Bass ∷ []) ∷ []) ∷ []

-- These piles are views, and the history is one whose every answer is due: the premises of the laws can be met.
pub record ViewsShown : Type 0 where
  pub of_titles : View by_bytes T₁ (source 0)
  pub of_pads : View by_bytes T₁ pads
  pub of_names : View by_bytes T₁ names
  pub of_unbanked : View by_bytes T₁ unbanked
  pub of_credits : View by_bytes T₂ credits
  pub faithful : Faithful by_bytes T₁ (empty T₁) worked

-- One view: n >= 0 and n <= 268435455, which both read n and admit every number; and brackets make no difference.
abbrev pub counts : List Store
counts = record { kind = 1; sort = record { columns = record { word = codes "n"; kind = numbers } ∷ []; deps = []; parts = [] }; room = 128 } ∷ []

abbrev pub is_pads : Condition
is_pads = compared 1 equals (constant Pads)

abbrev pub is_glass : Condition
is_glass = compared 0 equals (constant Glass)

pub record OneViewShown : Type 0 where
  pub of_numbers : OneView by_bytes counts (selecting (written (compared 0 at_least (constant (num 0)))) (source 0)) (selecting (written (compared 0 at_most (constant (num 268435455)))) (source 0))
  pub of_brackets : OneView by_bytes T₁ (selecting (written (both is_glass is_pads)) (source 0)) (selecting (written (bracket (both is_glass is_pads))) (source 0))
