-- Values, tuples and relations, and equality of values.
use Rattle.std.specs.Prelude.{◌≡◌, ℕ, zero, suc, Bool, false, cond, ◌⊎◌, List, [], ◌∷◌, Option, ◌==◌, nat_eq}
use Rattle.std.specs.Cmp.Lexicographic.{pointwise}
use Rattle.std.specs.List as list

infix 40 ◌∈◌
-- A value is a number or a text, which is its bytes.
pub data Value : Type 0 where
  num : ℕ → Value
  text : List ℕ → Value

-- A tuple is what a row holds: a value for each column, in column order.
abbrev pub Tuple : Type 0
Tuple = List Value

-- A relation is a list of tuples; `Ascending` (Orders) says that each is above the one before.
abbrev pub Relation : Type 0
Relation = List Tuple

-- membership
abbrev pub ◌∈◌ : {A : Type 0} → A → List A → Type 0
a ∈ [] = ⊥
a ∈ (b ∷ l) = (a ≡ b) ⊎ (a ∈ l)

-- the members that pass a test, the first that does, whether one or every one does
abbrev pub filter : {A : Type 0} → (A → Bool) → List A → List A
filter = list.filter

abbrev pub find : {A : Type 0} → (A → Bool) → List A → Option A
find = list.find

abbrev pub any : {A : Type 0} → (A → Bool) → List A → Bool
any = list.list_any

abbrev pub every : {A : Type 0} → (A → Bool) → List A → Bool
every = list.list_all

-- the longest front whose members all pass a test, and what stands behind it
abbrev pub front : {A : Type 0} → (A → Bool) → List A → List A
front p [] = []
front p (a ∷ l) = cond (p a) (a ∷ front p l) []

abbrev pub behind : {A : Type 0} → (A → Bool) → List A → List A
behind p [] = []
behind p (a ∷ l) = cond (p a) (behind p l) (a ∷ l)

-- the list without its first element
abbrev pub tail : {A : Type 0} → List A → List A
tail [] = []
tail (a ∷ l) = l

-- the value at a place of a tuple (past its end, the number 0)
abbrev pub cell : Tuple → ℕ → Value
cell [] i = num 0
cell (v ∷ t) zero = v
cell (v ∷ t) (suc i) = cell t i

-- Equality as a test. No order of values has a part in it.
abbrev pub same_list : {A : Type 0} → (A → A → Bool) → List A → List A → Bool
same_list = pointwise

abbrev pub same_bytes : List ℕ → List ℕ → Bool
same_bytes = same_list nat_eq

abbrev pub same_value : Value → Value → Bool
same_value (num m) (num n) = m == n
same_value (num m) (text t) = false
same_value (text s) (num n) = false
same_value (text s) (text t) = same_bytes s t

abbrev pub same_tuple : Tuple → Tuple → Bool
same_tuple = same_list same_value

-- whether a tuple stands in a relation
abbrev pub is_in : Tuple → Relation → Bool
is_in t R = any (same_tuple t) R
