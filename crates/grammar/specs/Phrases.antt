-- Conditions and definitions as they are written, with columns and tables by their words.
use Rattle.std.specs.Prelude.{ℕ, List, [], ◌∷◌, ◌++◌}
use Rattle.model.specs.Values.{Value}
use Rattle.model.specs.Conditions.{Comparison}

-- what a column is compared with: a column, or a constant
pub data Term : Type 0 where
  named : List ℕ → Term
  given : Value → Term

pub data Phrase : Type 0 where
  compared : List ℕ → Comparison → Term → Phrase
  negated bracket : Phrase → Phrase
  both either : Phrase → Phrase → Phrase

-- The steps of a definition, in the order in which they are complete: a join comes after both its sides.
pub data Step : Type 0 where
  source : List ℕ → Step
  select : Phrase → Step
  drop : List ℕ → Value → Step
  rename : List ℕ → List ℕ → Step
  join : Step

-- a step, with the place of its first sign
pub record Placed : Type 0 where
  pub step : Step
  pub place : ℕ

abbrev pub placed : ℕ → Step → Placed
placed p s = record { step = s; place = p }

-- The parts of a condition: each neg of a conjunction. Anything else, an `or` too, is one part.
abbrev pub parts : Phrase → List Phrase
parts (compared w c x) = compared w c x ∷ []
parts (negated k) = negated k ∷ []
parts (bracket k) = bracket k ∷ []
parts (both k l) = parts k ++ parts l
parts (either k l) = either k l ∷ []
