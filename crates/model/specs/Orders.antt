-- Orders of values, the order of tuples that each gives, and relations in that order.
use Rattle.std.specs.Prelude.{◌≡◌, List, [], ◌∷◌}
use Prim.Native.Nat.{compare, Ordering}
use Rattle.model.specs.Values.{Value, num, text, Tuple, Relation}

-- An order of values is how two of them compare. What depends on one takes it as its first argument, `o`.
abbrev pub Order : Type 0
Order = Value → Value → Ordering

-- What makes a comparison a total order: equal only for equal values, transitive, and the same from both sides.
pub record Total {A : Type 0} (c : A → A → Ordering) : Type 0 where
  pub same : (a b : A) → c a b ≡ Ordering.eq → a ≡ b
  pub self : (a : A) → c a a ≡ Ordering.eq
  pub chain : (a b d : A) → c a b ≡ Ordering.lt → c b d ≡ Ordering.lt → c a d ≡ Ordering.lt
  pub turn : (a b : A) → c a b ≡ Ordering.gt → c b a ≡ Ordering.lt

-- Lists by their first difference; a list that begins another comes first.
abbrev pub then_by : Ordering → Ordering → Ordering
then_by Ordering.lt r = Ordering.lt
then_by Ordering.eq r = r
then_by Ordering.gt r = Ordering.gt

abbrev pub lexical : {A : Type 0} → (A → A → Ordering) → List A → List A → Ordering
lexical c [] [] = Ordering.eq
lexical c [] (b ∷ t) = Ordering.lt
lexical c (a ∷ s) [] = Ordering.gt
lexical c (a ∷ s) (b ∷ t) = then_by (c a b) (lexical c s t)

-- The order of the rules: numbers before texts, numbers by value, texts by their bytes.
abbrev pub by_bytes : Order
by_bytes (num m) (num n) = compare m n
by_bytes (num m) (text t) = Ordering.lt
by_bytes (text s) (num n) = Ordering.gt
by_bytes (text s) (text t) = lexical compare s t

-- the first differing value orders two tuples
abbrev pub compare_tuples : Order → Tuple → Tuple → Ordering
compare_tuples o = lexical o

abbrev pub Below : Order → Tuple → Tuple → Type 0
Below o s t = compare_tuples o s t ≡ Ordering.lt

abbrev pub BelowFirst : Order → Tuple → Relation → Type 0
BelowFirst o s [] = Unit {0}
BelowFirst o s (t ∷ R) = Below o s t

-- each tuple is above the one before
abbrev pub Ascending : Order → Relation → Type 0
Ascending o [] = Unit {0}
Ascending o (s ∷ R) = BelowFirst o s R × Ascending o R

-- The relation of some tuples: in ascending order, each once.
abbrev pub insert_at : Ordering → Tuple → Tuple → Relation → Relation → Relation
insert_at Ordering.lt s t R R' = s ∷ t ∷ R
insert_at Ordering.eq s t R R' = t ∷ R
insert_at Ordering.gt s t R R' = t ∷ R'

abbrev pub insert : Order → Tuple → Relation → Relation
insert o s [] = s ∷ []
insert o s (t ∷ R) = insert_at (compare_tuples o s t) s t R (insert o s R)

abbrev pub relation_of : Order → List Tuple → Relation
relation_of o [] = []
relation_of o (t ∷ l) = insert o t (relation_of o l)
