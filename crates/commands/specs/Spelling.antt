-- How numbers and bytes are written.
use Rattle.std.specs.Prelude.{ℕ, ◌+◌, ◌*◌, cond, ◌&&◌, List, [], ◌∷◌, length, Some, None, Option, nat_le, nat_lt}
use Rattle.std.specs.Str.Parse.{digits_value}
use Rattle.std.specs.Char.{digit_value}
use Rattle.std.specs.Str.{all_ascii_digits}
use Rattle.commands.specs.Lists.{and_then}

-- The number that 1 to 10 decimal digits write, if it is within a limit.
abbrev pub numeral : ℕ → List ℕ → Option ℕ
numeral limit w = cond (nat_le 1 (length w) && (nat_le (length w) 10 && (all_ascii_digits w && nat_le (digits_value 10 w) limit))) (Some (digits_value 10 w)) None

-- A hexadecimal digit, in capitals or small letters.
abbrev pub hex_digit : ℕ → Option ℕ
hex_digit b = cond (nat_lt (digit_value b) 16) (Some (digit_value b)) None

-- The byte that two hexadecimal digits write, the higher one first.
abbrev pub hex_pair : List ℕ → Option ℕ
hex_pair [] = None
hex_pair (a ∷ []) = None
hex_pair (a ∷ b ∷ []) = and_then (hex_digit a) (λ h. and_then (hex_digit b) (λ l. Some (h * 16 + l)))
hex_pair (a ∷ b ∷ c ∷ w) = None
