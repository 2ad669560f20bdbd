use Rattle.std.proofs.Common.{◌≡◌, ◌++◌, length, codes, decimal, take, string_bytes}
use Rattle.outcomes.specs.Printed.{hex_text}
use Rattle.outcomes.proofs.bank_text.Given as goal

abbrev pub invariant-loop-b : goal.invariant-loop-b
invariant-loop-b l = string_bytes l.text ≡ codes "bank " ++ (decimal (length l.bytes) ++ hex_text (take l.b-index l.bytes))
