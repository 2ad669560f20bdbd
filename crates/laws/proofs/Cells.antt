-- Cells, column sets and their tests.
use Rattle.std.proofs.Common.{◌≡◌, ℕ, zero, suc, Bool, true, false, cond, not, ◌&&◌, ◌||◌, T, eqb, ◌⊎◌, List, [], ◌∷◌, ◌++◌, length, sym, refl, ap, ◌∙◌, subst, ap₂, inl, inr, eqb→eq}
use mathlib.Core.Bool.{false≢true}
use lib.Dec.{eqb_refl}
use Rattle.model.specs.ColumnSets.{Apart, ColumnSet, Same, Within, apart, has, non_empty, same, union, within}
use Rattle.model.specs.Facts.{and_both, cell_tail, has_tail, or_left, or_right}
use Rattle.model.specs.Revision.{with_cells}
use Rattle.model.specs.Sorts.{Agree, Column, Kind, Part, Shaped, admitted, agrees, of_kind}
use Rattle.model.specs.Values.{Relation, Tuple, Value, cell, is_in, num, same_bytes, same_list, same_tuple, same_value, tail, text, ◌∈◌}
use Rattle.laws.specs.Orders.{EqualityTest}
use Rattle.laws.specs.Sorts.{SetsTest}
use Rattle.laws.proofs.Members.{and_left, and_right, bool_cases, clash, in_any, not_false, not_true, of_any}

-- the tests of equality
pub test_is : (x : Bool) → x ≡ true → T x
test_is true e = tt
test_is false e = absurd (false≢true e)

pub is_test : (x : Bool) → T x → x ≡ true
is_test true t = refl
is_test false t = absurd t

number_is : (m n : ℕ) → eqb m n ≡ true → m ≡ n
number_is m n e = eqb→eq m n (test_is (eqb m n) e)

is_number : (n : ℕ) → eqb n n ≡ true
is_number n = is_test (eqb n n) (eqb_refl n)

module _ {A : Type 0} (e : A → A → Bool) (to : (a b : A) → e a b ≡ true → a ≡ b) (from : (a : A) → e a a ≡ true) where
  list_is : (s t : List A) → same_list e s t ≡ true → s ≡ t
  list_is [] [] h = refl
  list_is [] (b ∷ t) h = absurd (false≢true h)
  list_is (a ∷ s) [] h = absurd (false≢true h)
  list_is (a ∷ s) (b ∷ t) h = ap₂ {C = List A} ◌∷◌ (to a b (and_left (e a b) (same_list e s t) h)) (list_is s t (and_right (e a b) (same_list e s t) h))

  is_list : (s : List A) → same_list e s s ≡ true
  is_list [] = refl
  is_list (a ∷ s) = and_both (e a a) (same_list e s s) (from a) (is_list s)

pub bytes_is : (s t : List ℕ) → same_bytes s t ≡ true → s ≡ t
bytes_is = list_is eqb number_is is_number

bytes_self : (s : List ℕ) → same_bytes s s ≡ true
bytes_self = is_list eqb number_is is_number

pub is_bytes : (s t : List ℕ) → s ≡ t → same_bytes s t ≡ true
is_bytes s t e = subst (λ x. same_bytes s x ≡ true) e (bytes_self s)

pub value_is : (v w : Value) → same_value v w ≡ true → v ≡ w
value_is (num m) (num n) e = ap num (number_is m n e)
value_is (num m) (text t) e = absurd (false≢true e)
value_is (text s) (num n) e = absurd (false≢true e)
value_is (text s) (text t) e = ap text (bytes_is s t e)

value_self : (v : Value) → same_value v v ≡ true
value_self (num m) = is_number m
value_self (text s) = bytes_self s

pub is_value : (v w : Value) → v ≡ w → same_value v w ≡ true
is_value v w e = subst (λ x. same_value v x ≡ true) e (value_self v)

pub tuple_is : (s t : Tuple) → same_tuple s t ≡ true → s ≡ t
tuple_is = list_is same_value value_is value_self

pub is_tuple : (s t : Tuple) → s ≡ t → same_tuple s t ≡ true
is_tuple s t e = subst (λ x. same_tuple s x ≡ true) e (is_list same_value value_is value_self s)

pub in_is : (t : Tuple) (R : Relation) → is_in t R ≡ true → t ∈ R
in_is t R e = let w = of_any (same_tuple t) R e in subst (λ x. x ∈ R) (sym (tuple_is t w.0 w.2)) w.1

pub is_in_of : (t : Tuple) (R : Relation) → t ∈ R → is_in t R ≡ true
is_in_of t R h = in_any (same_tuple t) t R h (is_tuple t t refl)

-- a value of a kind
abbrev pub OfKind : Kind → Value → Type 0
OfKind k v = of_kind k v ≡ true

-- the test of agreement
agree_rest : (b : Bool) (X : ColumnSet) (s t : Tuple) → Agree (b ∷ X) s t → Agree X (tail s) (tail t)
agree_rest b X s t a i h = cell_tail s i ∙ a (suc i) h ∙ sym (cell_tail t i)

agree_more : (b : Bool) (X : ColumnSet) (s t : Tuple) → (b ≡ true → cell s 0 ≡ cell t 0) → Agree X (tail s) (tail t) → Agree (b ∷ X) s t
agree_more b X s t f a zero h = f h
agree_more b X s t f a (suc i) h = sym (cell_tail s i) ∙ a i h ∙ cell_tail t i

pub agrees_is : (X : ColumnSet) (s t : Tuple) → agrees X s t ≡ true → Agree X s t
agrees_is [] s t e = λ i h. absurd (false≢true h)
agrees_is (true ∷ X) s t e = agree_more true X s t (λ _. value_is (cell s 0) (cell t 0) (and_left (same_value (cell s 0) (cell t 0)) _ e)) (agrees_is X (tail s) (tail t) (and_right (same_value (cell s 0) (cell t 0)) _ e))
agrees_is (false ∷ X) s t e = agree_more false X s t (λ h. absurd (false≢true h)) (agrees_is X (tail s) (tail t) e)

pub is_agrees : (X : ColumnSet) (s t : Tuple) → Agree X s t → agrees X s t ≡ true
is_agrees [] s t a = refl
is_agrees (true ∷ X) s t a = and_both (same_value (cell s 0) (cell t 0)) _ (is_value (cell s 0) (cell t 0) (a zero refl)) (is_agrees X (tail s) (tail t) (agree_rest true X s t a))
is_agrees (false ∷ X) s t a = is_agrees X (tail s) (tail t) (agree_rest false X s t a)

pub agree_sym : (X : ColumnSet) (s t : Tuple) → Agree X s t → Agree X t s
agree_sym X s t a i h = sym (a i h)

pub agree_trans : (X : ColumnSet) (s t u : Tuple) → Agree X s t → Agree X t u → Agree X s u
agree_trans X s t u a b i h = a i h ∙ b i h

pub agree_within : (X Y : ColumnSet) (s t : Tuple) → Within X Y → Agree Y s t → Agree X s t
agree_within X Y s t w a i h = a i (w i h)

-- the tests of sets
pub within_is : (X Y : ColumnSet) → within X Y ≡ true → Within X Y
within_is [] Y e i h = absurd (false≢true h)
within_is (true ∷ X) Y e zero h = and_left (has Y 0) _ e
within_is (true ∷ X) Y e (suc i) h = sym (has_tail Y i) ∙ within_is X (tail Y) (and_right (has Y 0) _ e) i h
within_is (false ∷ X) Y e zero h = absurd (false≢true h)
within_is (false ∷ X) Y e (suc i) h = sym (has_tail Y i) ∙ within_is X (tail Y) e i h

pub is_within : (X Y : ColumnSet) → Within X Y → within X Y ≡ true
is_within [] Y w = refl
is_within (true ∷ X) Y w = and_both (has Y 0) _ (w zero refl) (is_within X (tail Y) (λ i h. has_tail Y i ∙ w (suc i) h))
is_within (false ∷ X) Y w = is_within X (tail Y) (λ i h. has_tail Y i ∙ w (suc i) h)

pub same_is : (X Y : ColumnSet) → same X Y ≡ true → Same X Y
same_is X Y e = (within_is X Y (and_left (within X Y) _ e), within_is Y X (and_right (within X Y) _ e))

pub is_same_set : (X Y : ColumnSet) → Same X Y → same X Y ≡ true
is_same_set X Y s = and_both (within X Y) (within Y X) (is_within X Y s.0) (is_within Y X s.1)

pub apart_is : (X Y : ColumnSet) → apart X Y ≡ true → Apart X Y
apart_is [] Y e i h k = false≢true h
apart_is (true ∷ X) Y e zero h k = clash (has Y 0) k (not_true (has Y 0) (and_left (not (has Y 0)) _ e))
apart_is (true ∷ X) Y e (suc i) h k = apart_is X (tail Y) (and_right (not (has Y 0)) _ e) i h (has_tail Y i ∙ k)
apart_is (false ∷ X) Y e zero h k = false≢true h
apart_is (false ∷ X) Y e (suc i) h k = apart_is X (tail Y) e i h (has_tail Y i ∙ k)

pub is_apart : (X Y : ColumnSet) → Apart X Y → apart X Y ≡ true
is_apart [] Y a = refl
is_apart (true ∷ X) Y a =
    and_both (not (has Y 0)) _ (bool_cases (has Y 0) (λ e. absurd (a zero refl e)) (λ e. not_false (has Y 0) e))
    (is_apart X (tail Y) (λ i h k. a (suc i) h (sym (has_tail Y i) ∙ k)))
is_apart (false ∷ X) Y a = is_apart X (tail Y) (λ i h k. a (suc i) h (sym (has_tail Y i) ∙ k))

pub same_sym : (X Y : ColumnSet) → Same X Y → Same Y X
same_sym X Y s = (s.1, s.0)

pub apart_sym : (X Y : ColumnSet) → Apart X Y → Apart Y X
apart_sym X Y a i h k = a i k h

pub or_cases : (a b : Bool) → (a || b) ≡ true → (a ≡ true) ⊎ (b ≡ true)
or_cases true b e = inl refl
or_cases false b e = inr e

pub of_union : (X Y : ColumnSet) (i : ℕ) → has (union X Y) i ≡ true → (has X i ≡ true) ⊎ (has Y i ≡ true)
of_union [] Y i h = inr h
of_union (a ∷ X) [] i h = inl h
of_union (a ∷ X) (b ∷ Y) zero h = or_cases a b h
of_union (a ∷ X) (b ∷ Y) (suc i) h = of_union X Y i h

-- rows by their cells
pub tuple_ext : (C : List Column) (s t : Tuple) → Shaped C s → Shaped C t → ((i : ℕ) → cell s i ≡ cell t i) → s ≡ t
tuple_ext [] [] [] p q f = refl
tuple_ext [] [] (w ∷ t) p q f = absurd q
tuple_ext [] (v ∷ s) t p q f = absurd p
tuple_ext (c ∷ C) [] t p q f = absurd p
tuple_ext (c ∷ C) (v ∷ s) [] p q f = absurd q
tuple_ext (c ∷ C) (v ∷ s) (w ∷ t) p q f = ap₂ {C = Tuple} ◌∷◌ (f zero) (tuple_ext C s t p.1 q.1 (λ i. f (suc i)))

of_kind_cond : (k : Kind) (b : Bool) (v w : Value) → OfKind k v → OfKind k w → OfKind k (cond b v w)
of_kind_cond k true v w p q = p
of_kind_cond k false v w p q = q

-- a row with cells of another
pub shaped_with : (Y : ColumnSet) (C : List Column) (n m : Tuple) → Shaped C n → Shaped C m → Shaped C (with_cells Y n m)
shaped_with [] C n m p q = q
shaped_with (b ∷ Y) [] n [] p q = tt
shaped_with (b ∷ Y) [] n (w ∷ m) p q = absurd q
shaped_with (b ∷ Y) (c ∷ C) n [] p q = absurd q
shaped_with (b ∷ Y) (c ∷ C) [] (w ∷ m) p q = absurd p
shaped_with (b ∷ Y) (c ∷ C) (v ∷ n) (w ∷ m) p q = (of_kind_cond c.kind b v w p.0 q.0, shaped_with Y C n m p.1 q.1)

pub with_in : (Y : ColumnSet) (C : List Column) (n m : Tuple) → Shaped C n → Shaped C m → Agree Y (with_cells Y n m) n
with_in [] C n m p q i h = absurd (false≢true h)
with_in (b ∷ Y) [] [] [] p q i h = refl
with_in (b ∷ Y) [] (v ∷ n) [] p q i h = absurd p
with_in (b ∷ Y) [] n (w ∷ m) p q i h = absurd q
with_in (b ∷ Y) (c ∷ C) n [] p q i h = absurd q
with_in (b ∷ Y) (c ∷ C) [] (w ∷ m) p q i h = absurd p
with_in (b ∷ Y) (c ∷ C) (v ∷ n) (w ∷ m) p q zero h = ap (λ x. cond x v w) h
with_in (b ∷ Y) (c ∷ C) (v ∷ n) (w ∷ m) p q (suc i) h = with_in Y C n m p.1 q.1 i h

pub with_out : (Y : ColumnSet) (n m : Tuple) (i : ℕ) → has Y i ≡ false → cell (with_cells Y n m) i ≡ cell m i
with_out [] n m i h = refl
with_out (b ∷ Y) n [] i h = refl
with_out (b ∷ Y) n (w ∷ m) zero h = ap (λ x. cond x (cell n 0) w) h
with_out (b ∷ Y) n (w ∷ m) (suc i) h = with_out Y (tail n) m i h

-- on a set apart from Y nothing changes
pub with_apart : (X Y : ColumnSet) (n m : Tuple) → Apart X Y → Agree X (with_cells Y n m) m
with_apart X Y n m a i h = with_out Y n m i (bool_cases (has Y i) (λ e. absurd (a i h e)) (λ e. e))

-- nothing changes where the two rows agree on Y
pub with_same : (Y : ColumnSet) (C : List Column) (n m : Tuple) → Shaped C n → Shaped C m → Agree Y n m → with_cells Y n m ≡ m
with_same Y C n m p q a = tuple_ext C (with_cells Y n m) m (shaped_with Y C n m p q) q (λ i. bool_cases (has Y i) (λ e. with_in Y C n m p q i e ∙ a i e) (λ e. with_out Y n m i e))

-- a set that is not empty
pub some_is : (X : ColumnSet) → non_empty X ≡ true → (i : ℕ) × (has X i ≡ true)
some_is [] e = absurd (false≢true e)
some_is (true ∷ X) e = (zero, refl)
some_is (false ∷ X) e = let w = some_is X e in (suc w.0, w.1)

pub is_some : (X : ColumnSet) (i : ℕ) → has X i ≡ true → non_empty X ≡ true
is_some [] i h = absurd (false≢true h)
is_some (b ∷ X) zero h = or_left b (non_empty X) h
is_some (b ∷ X) (suc i) h = or_right b (non_empty X) (is_some X i h)

-- tuples of one shape have one length
pub shaped_length : (C : List Column) (t : Tuple) → Shaped C t → length t ≡ length C
shaped_length [] [] s = refl
shaped_length [] (v ∷ t) s = absurd s
shaped_length (c ∷ C) [] s = absurd s
shaped_length (c ∷ C) (v ∷ t) s = ap suc (shaped_length C t s.1)

pub same_length : (C : List Column) (s t : Tuple) → Shaped C s → Shaped C t → length s ≡ length t
same_length C s t p q = shaped_length C s p ∙ sym (shaped_length C t q)

-- what a list of parts admits
pub admitted_each : (P : List Part) (t : Tuple) → admitted P t ≡ true → (p : Part) → p ∈ P → p.admits t ≡ true
admitted_each [] t e p h = absurd h
admitted_each (q ∷ P) t e p (inl g) = subst (λ x. x.admits t ≡ true) (sym g) (and_left (q.admits t) (admitted P t) e)
admitted_each (q ∷ P) t e p (inr h) = admitted_each P t (and_right (q.admits t) (admitted P t) e) p h

pub each_admitted : (P : List Part) (t : Tuple) → ((p : Part) → p ∈ P → p.admits t ≡ true) → admitted P t ≡ true
each_admitted [] t f = refl
each_admitted (q ∷ P) t f = and_both (q.admits t) (admitted P t) (f q (inl refl)) (each_admitted P t (λ p h. f p (inr h)))

and_assoc : (a b c : Bool) → ((a && b) && c) ≡ (a && (b && c))
and_assoc true b c = refl
and_assoc false b c = refl

pub admitted_append : (P Q : List Part) (t : Tuple) → admitted (P ++ Q) t ≡ (admitted P t && admitted Q t)
admitted_append [] Q t = refl
admitted_append (p ∷ P) Q t = ap (λ b. p.admits t && b) (admitted_append P Q t) ∙ sym (and_assoc (p.admits t) (admitted P t) (admitted Q t))

pub equality_test : EqualityTest
equality_test = record {
  bytes = λ a b. (bytes_is a b, is_bytes a b);
  values = λ v w. (value_is v w, is_value v w);
  tuples = λ s t. (tuple_is s t, is_tuple s t);
  members = λ t R. (in_is t R, is_in_of t R);
}

pub sets_test : SetsTest
sets_test = record {
  subset = λ X Y. (within_is X Y, is_within X Y);
  equality = λ X Y. (same_is X Y, is_same_set X Y);
  disjoint = λ X Y. (apart_is X Y, is_apart X Y);
  agreement = λ X s t. (agrees_is X s t, is_agrees X s t);
}
