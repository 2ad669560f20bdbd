-- The condition that a written one of the program means.
use Rattle.model.specs.Conditions as model
use Rattle.model.specs.Orders.{by_bytes}
use Rattle.model.specs.Sorts.{Part}
use Rattle.cells.specs.Held.{value}
use Rattle.cells.specs.declared.values.Cell.{Cell}
use Rattle.conditions.specs.declared.places.Place.{Place}
use Rattle.conditions.specs.declared.trees.Comparison.{Comparison}
use Rattle.conditions.specs.declared.trees.Comparison.TheVariants.{Equal, Unequal, Less, AtMost, Greater, AtLeast}
use Rattle.conditions.specs.declared.trees.Operand.{Operand}
use Rattle.conditions.specs.declared.trees.Operand.TheVariants.{Column, Value}
use Rattle.conditions.specs.declared.trees.Compared.{Compared}
use Rattle.conditions.specs.declared.trees.Formula.{Formula}
use Rattle.conditions.specs.declared.trees.Formula.TheVariants.{Atom, Not', Bracket', And', Or'}

abbrev pub sign_of : Comparison → model.Comparison
sign_of Equal = model.equals
sign_of Unequal = model.differs
sign_of Less = model.less
sign_of AtMost = model.at_most
sign_of Greater = model.greater
sign_of AtLeast = model.at_least

abbrev pub operand_of : Operand Place Cell → model.Operand
operand_of (Column p) = model.column p.at
operand_of (Value c) = model.constant (value c)

abbrev pub compared_of : Compared Place Cell → model.Condition
compared_of c = model.compared c.column.at (sign_of c.comparison) (operand_of c.operand)

abbrev pub meaning : Formula (Compared Place Cell) → model.Condition
meaning (Atom c) = compared_of c
meaning (Not' p k) = model.negated (meaning k)
meaning (Bracket' p k) = model.bracket (meaning k)
meaning (And' p k q l) = model.both (meaning k) (meaning l)
meaning (Or' p k q l) = model.either (meaning k) (meaning l)

-- as one part
abbrev pub written_part : Formula (Compared Place Cell) → Part
written_part w = model.part_of by_bytes (meaning w)
