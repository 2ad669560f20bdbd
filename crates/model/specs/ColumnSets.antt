-- Sets of columns, by their places.
use Rattle.std.specs.Prelude.{◌≡◌, ℕ, zero, suc, Bool, true, false, not, ◌&&◌, ◌||◌, List, [], ◌∷◌, ◌≢◌}
use Rattle.model.specs.Values.{tail}

-- A column set says of each place whether its column is in; places past its end are not.
abbrev pub ColumnSet : Type 0
ColumnSet = List Bool

abbrev pub has : ColumnSet → ℕ → Bool
has [] i = false
has (b ∷ X) zero = b
has (b ∷ X) (suc i) = has X i

abbrev pub Within : ColumnSet → ColumnSet → Type 0
Within X Y = (i : ℕ) → has X i ≡ true → has Y i ≡ true

abbrev pub Same : ColumnSet → ColumnSet → Type 0
Same X Y = Within X Y × Within Y X

abbrev pub Apart : ColumnSet → ColumnSet → Type 0
Apart X Y = (i : ℕ) → has X i ≡ true → has Y i ≢ true

-- the same as tests
abbrev pub within : ColumnSet → ColumnSet → Bool
within [] Y = true
within (true ∷ X) Y = has Y 0 && within X (tail Y)
within (false ∷ X) Y = within X (tail Y)

abbrev pub same : ColumnSet → ColumnSet → Bool
same X Y = within X Y && within Y X

abbrev pub apart : ColumnSet → ColumnSet → Bool
apart [] Y = true
apart (true ∷ X) Y = not (has Y 0) && apart X (tail Y)
apart (false ∷ X) Y = apart X (tail Y)

abbrev pub non_empty : ColumnSet → Bool
non_empty [] = false
non_empty (b ∷ X) = b || non_empty X

abbrev pub union : ColumnSet → ColumnSet → ColumnSet
union [] Y = Y
union (a ∷ X) [] = a ∷ X
union (a ∷ X) (b ∷ Y) = (a || b) ∷ union X Y

abbrev pub singleton : ℕ → ColumnSet
singleton zero = true ∷ []
singleton (suc i) = false ∷ singleton i
