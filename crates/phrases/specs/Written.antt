-- What phrases and steps of the program say.
use Rattle.std.specs.Prelude.{ℕ, List, map}
use Rattle.std.specs.Borrow.{Bor}
use Rattle.model.specs.Values.{Value, num}
use Rattle.cells.specs.Held.{offered}
use Rattle.conditions.specs.Meaning.{sign_of}
use Rattle.grammar.specs.Phrases as grammar
use Rattle.phrases.specs.declared.constants.Constant.{Constant}
use Rattle.phrases.specs.declared.constants.Constant.TheVariants as constants
use Rattle.conditions.specs.declared.trees.Operand.{Operand}
use Rattle.conditions.specs.declared.trees.Operand.TheVariants as operands
use Rattle.conditions.specs.declared.trees.Compared.{Compared}
use Rattle.conditions.specs.declared.trees.Formula.{Formula}
use Rattle.conditions.specs.declared.trees.Formula.TheVariants.{Atom, Not', Bracket', And', Or'}
use Rattle.phrases.specs.declared.steps.Step.{Step}
use Rattle.phrases.specs.declared.steps.Step.TheVariants.{Source, Select, Drop, Rename, Join}
use Rattle.phrases.specs.declared.steps.Placed.{Placed}

abbrev pub constant : Constant → Value
constant (constants.Number n) = num n
constant (constants.Text b) = offered b.now

abbrev pub term : Operand (Bor (List ℕ)) Constant → grammar.Term
term (operands.Column w) = grammar.named w.now
term (operands.Value c) = grammar.given (constant c)

-- a comparison of a column by its word
abbrev pub ByWord : Type 0
ByWord = Compared (Bor (List ℕ)) Constant

abbrev pub compared : ByWord → grammar.Phrase
compared c = grammar.compared c.column.now (sign_of c.comparison) (term c.operand)

abbrev pub phrase : Formula ByWord → grammar.Phrase
phrase (Atom c) = compared c
phrase (Not' p k) = grammar.negated (phrase k)
phrase (Bracket' p k) = grammar.bracket (phrase k)
phrase (And' p k q l) = grammar.both (phrase k) (phrase l)
phrase (Or' p k q l) = grammar.either (phrase k) (phrase l)

abbrev pub step : Step → grammar.Step
step (Source w) = grammar.source w.now
step (Select k) = grammar.select (phrase k)
step (Drop w c) = grammar.drop w.now (constant c)
step (Rename w v) = grammar.rename w.now v.now
step Join = grammar.join

abbrev pub placed : Placed → grammar.Placed
placed p = grammar.placed p.place (step p.step)

abbrev pub all_placed : List Placed → List grammar.Placed
all_placed = map placed
