-- Join: a table of the rows of two tables that agree on their shared columns.
use Rattle.std.specs.Prelude.{◌≡◌, Bool, not, ◌&&◌, List, [], ◌∷◌, ◌++◌, map, Some, None, Option}
use Rattle.model.specs.Values.{Tuple, Relation, ◌∈◌, find, filter, any, same_tuple, is_in}
use Rattle.model.specs.Orders.{Order, relation_of}
use Rattle.model.specs.ColumnSets.{ColumnSet, Within, same}
use Rattle.model.specs.Sorts.{Column, all_columns, Dependency, Sort}
use Rattle.model.specs.Closures.{closure}
use Rattle.model.specs.TreeForm.{TreeForm}
use Rattle.model.specs.Revision.{revise}
use Rattle.model.specs.Tables.{Store, Rules}
use Rattle.model.specs.Selecting.{ReadsNoOutput}
use Rattle.model.specs.Projecting.{has_column, project, lift_dep, lift_part}

-- the columns of V that U shares, and the rest of V
abbrev pub shared : List Column → List Column → List Column
shared U V = filter (λ c. has_column U c.word) V

abbrev pub others : List Column → List Column → List Column
others U V = filter (λ c. not (has_column U c.word)) V

abbrev pub join_columns : List Column → List Column → List Column
join_columns U V = U ++ others U V

-- a left and a right tuple that agree on the shared columns, and the tuple that they make
abbrev pub matches : List Column → List Column → Tuple → Tuple → Bool
matches U V u v = same_tuple (project U (shared U V) u) (project V (shared U V) v)

abbrev pub combine : List Column → List Column → Tuple → Tuple → Tuple
combine U V u v = u ++ project V (others U V) v

-- both sides' dependencies, equal ones once: the left's, then what the right has more
abbrev pub same_dep : Dependency → Dependency → Bool
same_dep d e = same d.left e.left && same d.right e.right

abbrev pub united : List Dependency → List Dependency → List Dependency
united F G = F ++ filter (λ g. not (any (same_dep g) F)) G

abbrev pub join_deps : Sort → Sort → List Dependency
join_deps S T = let C = join_columns S.columns T.columns in united (map (lift_dep C S.columns) S.deps) (map (lift_dep C T.columns) T.deps)

abbrev pub join_sort : Sort → Sort → Sort
join_sort S T =
    let C = join_columns S.columns T.columns in
    record {
      columns = C;
      deps = join_deps S T;
      parts = map (lift_part C S.columns) S.parts ++ map (lift_part C T.columns) T.parts;
    }

-- Show: each left row with the right row that agrees.
abbrev pub paired : List Column → List Column → Tuple → Option Tuple → List Tuple → List Tuple
paired U V u None l = l
paired U V u (Some v) l = combine U V u v ∷ l

abbrev pub pairs : List Column → List Column → Relation → Relation → List Tuple
pairs U V [] N = []
pairs U V (u ∷ M) N = paired U V u (find (matches U V u) N) (pairs U V M N)

abbrev pub join_show : Order → Sort → Sort → Relation → Relation → Relation
join_show o S T M N = relation_of o (pairs S.columns T.columns M N)

-- Put: the rows projected to a side's columns, merged into that side: these rows, and each row of the side as revised by them.
abbrev pub project_rows : Order → List Column → List Column → Relation → Relation
project_rows o C B J = relation_of o (map (project C B) J)

abbrev pub merge : Order → List Dependency → Relation → Relation → Relation
merge o D J I = relation_of o (J ++ map (revise D J) I)

abbrev pub join_right : Order → Sort → Sort → Relation → Relation → Relation
join_right o S T J N = merge o T.deps (project_rows o (join_columns S.columns T.columns) T.columns J) N

-- The left goes without a row that makes, with a row of the new right N, a row not in J.
abbrev pub strays : List Column → List Column → Relation → Relation → Tuple → Bool
strays U V J N m = any (λ n. matches U V m n && not (is_in (combine U V m n) J)) N

abbrev pub join_left : Order → Sort → Sort → Relation → Relation → Relation → Relation
join_left o S T J M N = filter (λ m. not (strays S.columns T.columns J N m)) (merge o S.deps (project_rows o (join_columns S.columns T.columns) S.columns J) M)

-- the relations of the left side's stores, and those after them
abbrev pub left_stores : List Store → List Relation → List Relation
left_stores [] I = []
left_stores (s ∷ S) [] = []
left_stores (s ∷ S) (R ∷ I) = R ∷ left_stores S I

abbrev pub right_stores : List Store → List Relation → List Relation
right_stores [] I = I
right_stores (s ∷ S) [] = []
right_stores (s ∷ S) (R ∷ I) = right_stores S I

abbrev pub join : Order → Rules → Rules → Rules
join o K L = record {
  kind = 6;
  sort = join_sort K.sort L.sort;
  stores = K.stores ++ L.stores;
  shows = λ I. join_show o K.sort L.sort (K.shows (left_stores K.stores I)) (L.shows (right_stores K.stores I));
  puts = λ J I.
      let M = K.shows (left_stores K.stores I) in
      let N = L.shows (right_stores K.stores I) in
      let N' = join_right o K.sort L.sort J N in
      K.puts (join_left o K.sort L.sort J M N') (left_stores K.stores I) ++ L.puts N' (right_stores K.stores I);
}

-- the set of V's shared columns
abbrev pub shared_set : List Column → List Column → ColumnSet
shared_set U V = map (λ c. has_column U c.word) V

-- What join asks of the two tables, for its laws.
pub record MayJoin (S T : Sort) : Type 0 where
  -- they share at least one column, and shared ones are of equal kinds
  pub some_shared : (c : Column) × (c ∈ shared S.columns T.columns)
  pub equal_kinds : (c e : Column) → c ∈ S.columns → e ∈ T.columns → c.word ≡ e.word → c.kind ≡ e.kind
  -- the shared columns determine the right side
  pub determined : Within (all_columns T.columns) (closure T.deps (shared_set S.columns T.columns))
  -- neither side's parts read its own outputs
  pub left_parts : ReadsNoOutput S
  pub right_parts : ReadsNoOutput T
  -- the united dependencies have tree form
  pub tree : TreeForm (join_deps S T)
