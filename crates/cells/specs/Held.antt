-- The values that kinds, cells and rows of the program stand for.
use Rattle.std.specs.Prelude.{ℕ, Bool, cond, ◌&&◌, List, [], map, vec_items, string_bytes}
use Rattle.std.specs.declared.cmp.Ordering.TheVariants.{Less, Equal, Greater}
use Rattle.std.specs.declared.cmp.Ordering.{Ordering}
use Prim.Native.Nat.{Ordering as Compared}
use Rattle.std.proofs.Math.Utf8.{encodes, scalars}
use Rattle.std.specs.Str.{chars}
use Rattle.model.specs.Values.{Value, num, text, Tuple, Relation, same_bytes}
use Rattle.model.specs.Sorts.{Kind as ModelKind, numbers, texts}
use Rattle.cells.specs.declared.kinds.Kind.{Kind}
use Rattle.cells.specs.declared.kinds.Kind.TheVariants as kinds
use Rattle.cells.specs.declared.values.Cell.{Cell}
use Rattle.cells.specs.declared.values.Cell.TheVariants.{Num, Text}
use Rattle.cells.specs.declared.rows.Row.{Row}

abbrev pub kind_of : Kind → ModelKind
kind_of kinds.Num = numbers
kind_of kinds.Text = texts

abbrev pub value : Cell → Value
value (Num n) = num n
value (Text s) = text (string_bytes s)

abbrev pub tuple : Row → Tuple
tuple r = map value (vec_items r.cells)

abbrev pub tuples : List Row → Relation
tuples = map tuple

-- what a comparison answers
abbrev pub ordering : Ordering → Compared
ordering Less = Compared.lt
ordering Equal = Compared.eq
ordering Greater = Compared.gt

-- The value of bytes that are offered as a text: those of UTF-8 as they are. Others are no cell, and the empty text,
-- which is none either, stands for them.
abbrev pub is_utf8 : List ℕ → Bool
is_utf8 b = scalars (chars b) && same_bytes (encodes (chars b)) b

abbrev pub offered : List ℕ → Value
offered b = cond (is_utf8 b) (text b) (text [])
