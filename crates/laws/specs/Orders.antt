-- What is claimed of orders, of the relation of some tuples, and of the tests of equality.
use Rattle.std.specs.Prelude.{◌≡◌, ℕ, true, ◌↔◌, List}
use Rattle.model.specs.Values.{Value, Tuple, Relation, ◌∈◌, same_bytes, same_value, same_tuple, is_in}
use Rattle.model.specs.Orders.{Order, Total, by_bytes, compare_tuples, Ascending, relation_of}

-- the order of the rules is total; tuples by their first difference are totally ordered where values are
abbrev pub ByBytesTotal : Type 0
ByBytesTotal = Total by_bytes

abbrev pub TuplesTotal : Type 0
TuplesTotal = (o : Order) → Total o → Total (compare_tuples o)

-- the relation of some tuples is ascending and has just these tuples
abbrev pub RelationExact : Type 0
RelationExact = (o : Order) → Total o → (l : List Tuple) → Ascending o (relation_of o l) × ((t : Tuple) → (t ∈ relation_of o l) ↔ (t ∈ l))

-- and there is one such relation
abbrev pub RelationUnique : Type 0
RelationUnique = (o : Order) → Total o → (R Q : Relation) → Ascending o R → Ascending o Q → ((t : Tuple) → (t ∈ R) ↔ (t ∈ Q)) → R ≡ Q

-- an ascending relation is the relation of its tuples
abbrev pub RelationSame : Type 0
RelationSame = (o : Order) → Total o → (R : Relation) → Ascending o R → relation_of o R ≡ R

-- the tests of equality and of membership
pub record EqualityTest : Type 0 where
  pub bytes : (a b : List ℕ) → (same_bytes a b ≡ true) ↔ (a ≡ b)
  pub values : (v w : Value) → (same_value v w ≡ true) ↔ (v ≡ w)
  pub tuples : (s t : Tuple) → (same_tuple s t ≡ true) ↔ (s ≡ t)
  pub members : (t : Tuple) (R : Relation) → (is_in t R ≡ true) ↔ (t ∈ R)
