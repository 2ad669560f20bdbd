-- Select: a table that shows the rows of the table below which a condition admits.
use Rattle.std.specs.Prelude.{Bool, not, List, ◌++◌, map}
use Rattle.model.specs.Values.{Tuple, Relation, ◌∈◌, filter}
use Rattle.model.specs.Orders.{Order, relation_of}
use Rattle.model.specs.ColumnSets.{Apart}
use Rattle.model.specs.Sorts.{Dependency, Part, admitted, Sort}
use Rattle.model.specs.Revision.{revise}
use Rattle.model.specs.Tables.{Rules}

-- The condition of a select. It admits the tuples that all its parts admit.
pub record Predicate : Type 0 where
  pub parts : List Part

-- No part reads an output, which is a column in some right set.
abbrev pub ReadsNoOutput : Sort → Type 0
ReadsNoOutput S = (p : Part) → p ∈ S.parts → (d : Dependency) → d ∈ S.deps → Apart p.reads d.right

abbrev pub hidden : Predicate → Tuple → Bool
hidden P t = not (admitted P.parts t)

-- Put J where the table below shows I: J, and every hidden row of I as revised by J, except one that P then admits.
abbrev pub select_put : Order → Predicate → List Dependency → Relation → Relation → Relation
select_put o P D J I = relation_of o (J ++ filter (hidden P) (map (revise D J) (filter (hidden P) I)))

abbrev pub select_sort : Predicate → Sort → Sort
select_sort P S = record { columns = S.columns; deps = S.deps; parts = P.parts ++ S.parts }

abbrev pub select : Order → Predicate → Rules → Rules
select o P K = record {
  kind = 3;
  sort = select_sort P K.sort;
  stores = K.stores;
  shows = λ I. filter (admitted P.parts) (K.shows I);
  puts = λ J I. K.puts (select_put o P K.sort.deps J (K.shows I)) I;
}
