-- Values that have a place in a bank.
use Rattle.std.specs.Prelude.{◌<◌, ◌≤◌, List, [], ◌∷◌, length}
use Rattle.model.specs.Values.{Value, num, text}
use Rattle.model.specs.Sorts.{greatest}

-- a number of at most four groups, or a text whose length is a byte
abbrev pub Codable : Value → Type 0
Codable (num n) = n ≤ greatest
Codable (text b) = length b < 256

abbrev pub All : {A : Type 0} → (A → Type 0) → List A → Type 0
All P [] = Unit {0}
All P (a ∷ l) = P a × All P l
