-- How values and tuples are printed.
use Rattle.std.specs.Prelude.{ℕ, List, [], ◌∷◌, ◌++◌, decimal}
use Rattle.std.specs.List.{flat_map}
use Rattle.model.specs.Values.{Value, num, text, Tuple}

-- a number in decimal, a text in quotes
abbrev pub printed : Value → List ℕ
printed (num n) = decimal n
printed (text s) = 0x22 ∷ (s ++ (0x22 ∷ []))

abbrev pub spaced : Value → List ℕ
spaced v = 0x20 ∷ printed v

-- the values of a tuple, a space before each but the first
abbrev pub printed_row : Tuple → List ℕ
printed_row [] = []
printed_row (v ∷ t) = printed v ++ flat_map spaced t
