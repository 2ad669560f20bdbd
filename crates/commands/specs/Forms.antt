-- What a line asks for: the words of each command, and how they must be.
use Rattle.std.specs.Prelude.{ℕ, Bool, cond, not, List, [], ◌∷◌, map, Some, None, vec_items, codes, Option}
use Rattle.std.specs.Option.{option_map}
use Rattle.model.specs.Values.{any, find, same_bytes}
use Rattle.model.specs.Sorts as model
use Rattle.sorts.specs.Offered.{offered_column}
use Rattle.commands.specs.declared.parsing.Storage.{Storage}
use Rattle.commands.specs.declared.parsing.Storage.TheVariants.{Slots, Image}
use Rattle.commands.specs.declared.parsing.Verb.{Verb}
use Rattle.commands.specs.declared.parsing.Verb.TheVariants as verb
use Rattle.commands.specs.declared.parsing.Command.{Command}
use Rattle.commands.specs.declared.parsing.Command.TheVariants as command
use Rattle.commands.specs.declared.parsing.Line.{Line}
use Rattle.commands.specs.declared.parsing.Line.TheVariants.{Skipped, Said, Bad}
use Rattle.commands.specs.Lists.{front, behind, and_then, each}
use Rattle.commands.specs.Spelling.{numeral, hex_pair}
use Rattle.commands.specs.Lines.{is_skipped, command_word, arguments_of, words_of, texts}

abbrev pub Word : Type 0
Word = List ℕ

-- What may be asked for. Names, words and paths are handed on as they stand.
pub data Asked : Type 0 where
  help fresh seal : Asked
  table : Word → Storage → ℕ → List model.Column → Asked
  column : model.Column → Asked
  dep : List Word → List Word → Asked
  load : Word → List ℕ → Asked
  bank : Word → ℕ → Asked
  rows : Word → Asked
  read write : Word → Word → Asked
  try put : ℕ → Asked

-- the numbers that a command may be given
abbrev pub greatest_size : ℕ
greatest_size = 65535

abbrev pub greatest_count : ℕ
greatest_count = 999

-- Exactly no, one or two words.
abbrev pub none_after : {A : Type 0} → A → List Word → Option A
none_after a [] = Some a
none_after a (w ∷ ws) = None

abbrev pub one_after : {A : Type 0} → (Word → Option A) → List Word → Option A
one_after f [] = None
one_after f (w ∷ []) = f w
one_after f (w ∷ v ∷ ws) = None

abbrev pub two_after : {A : Type 0} → (Word → Word → Option A) → List Word → Option A
two_after f [] = None
two_after f (w ∷ []) = None
two_after f (w ∷ v ∷ []) = f w v
two_after f (w ∷ v ∷ u ∷ ws) = None

abbrev pub kind_said : Word → Option model.Kind
kind_said w = cond (same_bytes w (codes "num")) (Some model.numbers) (cond (same_bytes w (codes "text")) (Some model.texts) None)

abbrev pub heading_said : Word → Word → Option model.Column
heading_said w k = option_map (λ kind. record { word = w; kind = kind }) (kind_said k)

-- any number of columns, a word and a kind each
abbrev pub headings_said : List Word → Option (List model.Column)
headings_said [] = Some []
headings_said (w ∷ []) = None
headings_said (w ∷ k ∷ ws) = and_then (heading_said w k) (λ c. option_map (λ C. c ∷ C) (headings_said ws))

abbrev pub storage_said : Word → Word → Option Storage
storage_said w n = and_then (numeral greatest_size n) (λ size. cond (same_bytes w (codes "slot")) (Some (Slots size)) (cond (same_bytes w (codes "image")) (Some (Image size)) None))

-- a name, a storage, a room and columns
abbrev pub table_said : List Word → Option Asked
table_said [] = None
table_said (name ∷ []) = None
table_said (name ∷ word ∷ []) = None
table_said (name ∷ word ∷ size ∷ []) = None
table_said (name ∷ word ∷ size ∷ room ∷ ws) =
    and_then (storage_said word size) (λ storage. and_then (numeral greatest_size room) (λ n. option_map (λ C. table name storage n C) (headings_said ws)))

abbrev pub is_arrow : Word → Bool
is_arrow w = same_bytes w (codes "->")

abbrev pub no_arrow : Word → Bool
no_arrow w = not (is_arrow w)

-- The words before and behind the one arrow.
abbrev pub dep_parts : List Word → List Word → Option Asked
dep_parts left [] = None
dep_parts left (arrow ∷ right) = cond (any is_arrow right) None (Some (dep left right))

abbrev pub dep_said : List Word → Option Asked
dep_said ws = dep_parts (front no_arrow ws) (behind no_arrow ws)

-- a name and bytes
abbrev pub load_said : List Word → Option Asked
load_said [] = None
load_said (name ∷ ws) = option_map (load name) (each hex_pair ws)

abbrev pub column_said : List Word → Option Asked
column_said ws = two_after (λ w k. option_map column (heading_said w k)) ws

abbrev pub bank_said : List Word → Option Asked
bank_said ws = two_after (λ name n. option_map (bank name) (numeral greatest_size n)) ws

abbrev pub rows_said : List Word → Option Asked
rows_said ws = one_after (λ name. Some (rows name)) ws

abbrev pub read_said : List Word → Option Asked
read_said ws = two_after (λ name path. Some (read name path)) ws

abbrev pub write_said : List Word → Option Asked
write_said ws = two_after (λ name path. Some (write name path)) ws

-- the number of rows that follow
abbrev pub count_said : List Word → Option ℕ
count_said ws = one_after (numeral greatest_count) ws

abbrev pub try_said : List Word → Option Asked
try_said ws = option_map try (count_said ws)

abbrev pub put_said : List Word → Option Asked
put_said ws = option_map put (count_said ws)

-- what the words behind a command ask for
abbrev pub says : Verb → List Word → Option Asked
says verb.Help ws = none_after help ws
says verb.Fresh ws = none_after fresh ws
says verb.Table ws = table_said ws
says verb.Column ws = column_said ws
says verb.Dep ws = dep_said ws
says verb.Seal ws = none_after seal ws
says verb.Load ws = load_said ws
says verb.Bank ws = bank_said ws
says verb.Rows ws = rows_said ws
says verb.Read ws = read_said ws
says verb.Write ws = write_said ws
says verb.Try ws = try_said ws
says verb.Put ws = put_said ws

-- how each command is spelt
abbrev pub spelling : Verb → Word
spelling verb.Help = codes "help"
spelling verb.Fresh = codes "fresh"
spelling verb.Table = codes "table"
spelling verb.Column = codes "column"
spelling verb.Dep = codes "dep"
spelling verb.Seal = codes "seal"
spelling verb.Load = codes "load"
spelling verb.Bank = codes "bank"
spelling verb.Rows = codes "rows"
spelling verb.Read = codes "read"
spelling verb.Write = codes "write"
spelling verb.Try = codes "try"
spelling verb.Put = codes "put"

abbrev pub verbs : List Verb
verbs = verb.Help ∷ verb.Fresh ∷ verb.Table ∷ verb.Column ∷ verb.Dep ∷ verb.Seal ∷ verb.Load ∷ verb.Bank ∷ verb.Rows ∷ verb.Read ∷ verb.Write ∷ verb.Try ∷ verb.Put ∷ []

-- the command that a word is the spelling of
abbrev pub verb_of : Word → Option Verb
verb_of w = find (λ v. same_bytes w (spelling v)) verbs

-- What a line is: skipped, a command, or a bad line.
pub data Meaning : Type 0 where
  skipped bad : Meaning
  asks : Asked → Meaning

abbrev pub or_bad : Option Asked → Meaning
or_bad None = bad
or_bad (Some a) = asks a

abbrev pub command_of : List ℕ → Option Asked
command_of l = and_then (verb_of (command_word l)) (λ v. and_then (words_of (arguments_of l)) (λ ws. says v ws))

abbrev pub meaning : List ℕ → Meaning
meaning l = cond (is_skipped l) skipped (or_bad (command_of l))

-- the same of the program's values
abbrev pub asked : Command → Asked
asked command.Help = help
asked command.Fresh = fresh
asked (command.Table name storage room columns) = table name.now storage room (map offered_column (vec_items columns))
asked (command.Column h) = column (offered_column h)
asked (command.Dep left right) = dep (texts (vec_items left)) (texts (vec_items right))
asked command.Seal = seal
asked (command.Load name bytes) = load name.now (vec_items bytes)
asked (command.Bank name size) = bank name.now size
asked (command.Rows name) = rows name.now
asked (command.Read name path) = read name.now path.now
asked (command.Write name path) = write name.now path.now
asked (command.Try n) = try n
asked (command.Put n) = put n

abbrev pub meant : Line → Meaning
meant Skipped = skipped
meant Bad = bad
meant (Said c) = asks (asked c)
