-- Numbers in groups of seven bits: what is read is what was written.
use Rattle.std.specs.Prelude.{◌≡◌, ℕ, ◌≤◌, ◌↔◌, List, ◌++◌, Some, None}
use Rattle.model.specs.Sorts.{greatest}
use Rattle.model.specs.Banks.{groups, find_number}

-- b begins with the groups of n, and rest follows
abbrev pub Begins : List ℕ → ℕ → List ℕ → Type 0
Begins b n rest = (n ≤ greatest) × (b ≡ groups n ++ rest)

-- b begins with the groups of no number
abbrev pub NoNumber : List ℕ → Type 0
NoNumber b = (n : ℕ) (rest : List ℕ) → Begins b n rest → ⊥

-- no groups begin others: what begins with the groups of a number does so with no other's, nor with another rest
abbrev pub GroupsOnce : Type 0
GroupsOnce = (m n : ℕ) (r s : List ℕ) → m ≤ greatest → n ≤ greatest → groups m ++ r ≡ groups n ++ s → (m ≡ n) × (r ≡ s)

-- a number is found exactly where its groups stand
abbrev pub NumbersExact : Type 0
NumbersExact = (b : List ℕ) (n : ℕ) (rest : List ℕ) → (find_number b ≡ Some (n, rest)) ↔ Begins b n rest

-- and none is found exactly where none stands
abbrev pub NoneExact : Type 0
NoneExact = (b : List ℕ) → (find_number b ≡ None) ↔ NoNumber b
