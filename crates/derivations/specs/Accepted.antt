-- Reading finds no fault exactly in the texts of the grammar, and gives what they say; and no signs say two things.
use Rattle.std.specs.Prelude.{◌≡◌, ℕ, ◌≤◌, ◌↔◌, List, [], ◌∷◌, length, None}
use Rattle.grammar.specs.Signs.{Token, signs}
use Rattle.grammar.specs.Phrases.{Phrase, Placed}
use Rattle.grammar.specs.Grammar.{Says, condition, Defines, definition}
use Rattle.grammar.specs.Reading.{condition_fault, condition_trees, definition_fault, definition_steps}

-- a text of at most 256 bytes whose signs are a condition that says k
pub record IsCondition (b : List ℕ) (k : Phrase) : Type 0 where
  pub short : length b ≤ 256
  pub says : Says condition 8 (signs b) [] k

-- a text of at most 256 bytes whose signs are a definition with the steps S
pub record IsDefinition (b : List ℕ) (S : List Placed) : Type 0 where
  pub short : length b ≤ 256
  pub defines : Defines definition 8 (signs b) [] S

-- A text is a condition that says k exactly when reading finds no fault and gives k; and if it finds none, there is such a k.
abbrev pub ConditionAccepted : Type 0
ConditionAccepted =
    (b : List ℕ) →
    ((k : Phrase) → IsCondition b k ↔ ((condition_fault b ≡ None) × (condition_trees b ≡ k ∷ []))) ×
    (condition_fault b ≡ None → (k : Phrase) × IsCondition b k)

-- the same for definitions and their steps
abbrev pub DefinitionAccepted : Type 0
DefinitionAccepted =
    (b : List ℕ) →
    ((S : List Placed) → IsDefinition b S ↔ ((definition_fault b ≡ None) × (definition_steps b ≡ S))) ×
    (definition_fault b ≡ None → (S : List Placed) × IsDefinition b S)

-- Signs that are a condition say one thing, whatever depths are allowed; and a definition has one list of steps.
abbrev pub OneReading : Type 0
OneReading =
    ((d e : ℕ) (s : List Token) (k l : Phrase) → Says condition d s [] k → Says condition e s [] l → k ≡ l) ×
    ((d e : ℕ) (s : List Token) (S T : List Placed) → Defines definition d s [] S → Defines definition e s [] T → S ≡ T)
