-- The letters of a word, and the fault of bytes that are no name.
use Rattle.std.specs.Prelude.{ℕ, cond, List, None, string_bytes, Option}
use Rattle.model.specs.Faults.{Fault, fault}
use Rattle.model.specs.Words.{is_name}
use Rattle.cells.specs.declared.words.Word.{Word}

abbrev pub letters : Word → List ℕ
letters w = string_bytes w.text

-- 3 unless the bytes are a name
abbrev pub name_fault : List ℕ → Option Fault
name_fault b = cond (is_name b) None (fault 3 0 0)
