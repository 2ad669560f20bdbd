-- The steps that reading a definition gives, where it stops.
use Rattle.std.specs.Prelude.{◌≡◌, ℕ, List, [], ◌∷◌, ◌++◌, ◌≢◌}
use Rattle.grammar.specs.Signs.{Token, key, AND, OR, signs}
use Rattle.grammar.specs.Phrases.{Placed}
use Rattle.grammar.specs.Grammar.{Defines, definition}
use Rattle.grammar.specs.Reading.{definition_steps}
use Rattle.derivations.specs.Refused.{definitions, Begins}

-- no definition of depth 8 begins with the signs l and the next one, if there is one
abbrev pub NoFurther : List Token → List Token → Type 0
NoFurther l [] = Unit {0}
NoFurther l (t ∷ m) = Begins definitions 8 (l ++ (t ∷ [])) → ⊥

-- reading stops after the signs l of the text: at its end, or at a sign that is at fault
pub record StopsAfter (b : List ℕ) (l : List Token) : Type 0 where
  pub rest : List Token
  pub whole : signs b ≡ l ++ rest
  pub begun : Begins definitions 8 l
  pub further : NoFurther l rest

-- the signs do not go on with a condition
abbrev pub NoAndOr : List Token → Type 0
NoAndOr [] = Unit {0}
NoAndOr (t ∷ u) = (t.sign ≢ key AND) × (t.sign ≢ key OR)

-- Reading any text stops after some signs l, and its steps are the first of every definition that begins with l and does not go on with
-- `and` or `or` there. (A text of more than 256 bytes has no steps.)
abbrev pub StepsSoFar : Type 0
StepsSoFar =
    ((b : List ℕ) → (l : List Token) × StopsAfter b l) ×
    ((b : List ℕ) (l : List Token) →
    StopsAfter b l →
    (d : ℕ) (u : List Token) (S : List Placed) →
    NoAndOr u → Defines definition d (l ++ u) [] S → (T : List Placed) × (S ≡ definition_steps b ++ T))
