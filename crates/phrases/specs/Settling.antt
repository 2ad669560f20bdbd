-- What a phrase means of a table's columns, and the fault of one that means nothing.
use Rattle.std.specs.Prelude.{ℕ, List, Some, None, Option}
use Rattle.std.specs.Option.{option_map}
use Rattle.model.specs.Conditions as model
use Rattle.model.specs.Faults.{Fault, or_then}
use Rattle.model.specs.Sorts.{Column}
use Rattle.conditions.specs.Resolving as conditions
use Rattle.conditions.specs.Resolving.{comparison_fault, comparison}
use Rattle.grammar.specs.Phrases.{Term, named, given, Phrase, compared, negated, bracket, both, either}

abbrev pub operand : Term → conditions.Term
operand (named w) = conditions.named w
operand (given v) = conditions.given v

-- Comparison by comparison, in reading order: 6, then 7. The kind k and the place p are those that faults have here.
abbrev pub phrase_fault : ℕ → ℕ → List Column → Phrase → Option Fault
phrase_fault k p C (compared w c t) = comparison_fault k p C w (operand t)
phrase_fault k p C (negated s) = phrase_fault k p C s
phrase_fault k p C (bracket s) = phrase_fault k p C s
phrase_fault k p C (both s t) = or_then (phrase_fault k p C s) (phrase_fault k p C t)
phrase_fault k p C (either s t) = or_then (phrase_fault k p C s) (phrase_fault k p C t)

-- what comes of two values, if there are both
abbrev pub with_both : {A : Type 0} → (A → A → A) → Option A → Option A → Option A
with_both f None y = None
with_both f (Some a) None = None
with_both f (Some a) (Some b) = Some (f a b)

-- the condition, with columns by their places, where no fault is due
abbrev pub phrase_meaning : List Column → Phrase → Option model.Condition
phrase_meaning C (compared w c t) = comparison C w c (operand t)
phrase_meaning C (negated s) = option_map model.negated (phrase_meaning C s)
phrase_meaning C (bracket s) = option_map model.bracket (phrase_meaning C s)
phrase_meaning C (both s t) = with_both model.both (phrase_meaning C s) (phrase_meaning C t)
phrase_meaning C (either s t) = with_both model.either (phrase_meaning C s) (phrase_meaning C t)
