-- How outcomes are printed, a line each, and rows a line each below.
use Rattle.std.specs.Prelude.{ℕ, ◌+◌, ◌/◌, ◌%◌, cond, List, [], ◌∷◌, ◌++◌, length, vec_items, codes, decimal, nat_lt}
use Rattle.std.specs.List.{flat_map}
use Rattle.model.specs.Values.{Tuple, Relation}
use Rattle.model.specs.Faults.{Fault}
use Rattle.cells.specs.Held.{tuples}
use Rattle.cells.specs.Printed.{printed_row}
use Rattle.cells.specs.Numbered.{told}
use Rattle.outcomes.specs.declared.Outcome.{Outcome}
use Rattle.outcomes.specs.declared.Outcome.TheVariants as outcome

abbrev pub newline : List ℕ
newline = 0x0A ∷ []

-- a byte as a space and two hexadecimal digits, in capitals
abbrev pub hex_digit : ℕ → ℕ
hex_digit n = cond (nat_lt n 10) (0x30 + n) (0x37 + n)

abbrev pub hex_pair : ℕ → List ℕ
hex_pair b = 0x20 ∷ hex_digit (b / 16) ∷ hex_digit (b % 16) ∷ []

abbrev pub hex_text : List ℕ → List ℕ
hex_text l = flat_map hex_pair l

-- a row on its line
abbrev pub row_line : Tuple → List ℕ
row_line t = printed_row t ++ newline

abbrev pub rows_text : Relation → List ℕ
rows_text R = flat_map row_line R

-- their number, and the rows
abbrev pub listing : Relation → List ℕ
listing R = codes "rows " ++ (decimal (length R) ++ (newline ++ rows_text R))

abbrev pub bank_text : List ℕ → List ℕ
bank_text l = codes "bank " ++ (decimal (length l) ++ (hex_text l ++ newline))

abbrev pub fault_text : Fault → List ℕ
fault_text f = codes "refused " ++ (decimal f.number ++ (codes " kind " ++ (decimal f.kind ++ (codes " place " ++ (decimal f.place ++ newline)))))

-- the commands, a line each, for a person
abbrev pub help_text : List ℕ
help_text =
    flat_map (λ l. l ++ newline)
    (codes "help"
    ∷ codes "fresh"
    ∷ codes "table NAME slot SLOTS ROOM {COLUMN num|text}"
    ∷ codes "table NAME image BYTES ROOM {COLUMN num|text}"
    ∷ codes "column COLUMN num|text"
    ∷ codes "dep {COLUMN} -> {COLUMN}"
    ∷ codes "seal"
    ∷ codes "load NAME {HEX}"
    ∷ codes "bank NAME BYTES"
    ∷ codes "rows NAME"
    ∷ codes "read NAME PATH"
    ∷ codes "write NAME PATH"
    ∷ [])

-- what is printed of an outcome
abbrev pub text_of : Outcome → List ℕ
text_of outcome.Help = help_text
text_of outcome.Accepted = codes "ok" ++ newline
text_of outcome.Fresh = codes "fresh" ++ newline
text_of (outcome.Sealed room) = codes "sealed room " ++ (decimal room ++ newline)
text_of (outcome.Bank bytes) = bank_text (vec_items bytes)
text_of (outcome.Rows rows) = listing (tuples (vec_items rows))
text_of (outcome.Wrote size) = codes "wrote " ++ (decimal size ++ newline)
text_of (outcome.Refused f) = fault_text (told f)
text_of outcome.BadLine = codes "bad line" ++ newline
text_of outcome.OutOfTurn = codes "out of turn" ++ newline
text_of outcome.NoTable = codes "no table" ++ newline
text_of outcome.NoFile = codes "no file" ++ newline
text_of outcome.NoMemory = codes "no memory" ++ newline
