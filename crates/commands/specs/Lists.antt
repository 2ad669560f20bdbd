-- Lists cut by a test.
use Rattle.model.specs.Values as values
use Rattle.std.specs.Prelude.{Bool, List, [], ◌∷◌, Some, Option}
use Rattle.std.specs.Option.{option_map, option_and_then}

-- the longest front whose members all pass a test
abbrev pub front : {A : Type 0} → (A → Bool) → List A → List A
front = values.front

-- what stands behind it
abbrev pub behind : {A : Type 0} → (A → Bool) → List A → List A
behind = values.behind

-- what comes of a value, if there is one
abbrev pub and_then : {A B : Type 0} → Option A → (A → Option B) → Option B
and_then o f = option_and_then f o

-- what each member gives, if each gives something
abbrev pub each : {A B : Type 0} → (A → Option B) → List A → Option (List B)
each f [] = Some []
each f (a ∷ l) = and_then (f a) (λ b. option_map (λ bs. b ∷ bs) (each f l))
