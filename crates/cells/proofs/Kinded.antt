-- Kinds that stand for one kind are one.
use Rattle.std.proofs.Common.{◌≡◌, refl}
use Rattle.cells.specs.Held.{kind_of}
use Rattle.cells.specs.declared.kinds.Kind.{Kind}
use Rattle.cells.specs.declared.kinds.Kind.TheVariants.{Num, Text}

pub kind_apart : (a b : Kind) → kind_of a ≡ kind_of b → a ≡ b
kind_apart Num Num e = refl
kind_apart Num Text e = cc
kind_apart Text Num e = cc
kind_apart Text Text e = refl
