-- A condition's parts admit what it admits.
use Rattle.std.proofs.Common.{◌≡◌, ℕ, zero, suc, Bool, true, false, ◌&&◌, sym, refl, ap, ◌∙◌, subst, ap₂, inl, inr}
use mathlib.Core.Bool.{false≢true}
use Prim.Native.Nat.{Ordering}
use Rattle.model.specs.ColumnSets.{has, singleton}
use Rattle.model.specs.Conditions.{Comparison, Condition, Operand, admits_row, at_least, at_most, both, bracket, column, compared, constant, differs, either, equals, greater, holds, less, negated, operand_reads, parts_of, reads_of}
use Rattle.model.specs.Facts.{has_singleton, in_union_left, in_union_right}
use Rattle.model.specs.Orders.{Order, Total}
use Rattle.model.specs.Values.{Value, cell, same_value, ◌∈◌}
use Rattle.laws.specs.Conditions.{Compares, ComparisonsExact, IsOperand, Names, PartsWhole, PickExact, ReadsExact}
use Rattle.laws.proofs.Cells.{admitted_append, is_value, of_union, value_is}
use Rattle.laws.proofs.Members.{in_any, of_any}
use Rattle.laws.proofs.Orders.{eq≢lt}

and_true : (b : Bool) → (b && true) ≡ b
and_true true = refl
and_true false = refl

pub parts_whole : PartsWhole
parts_whole o (compared i c x) t = and_true (admits_row o (compared i c x) t)
parts_whole o (negated k) t = and_true (admits_row o (negated k) t)
parts_whole o (bracket k) t = and_true (admits_row o (bracket k) t)
parts_whole o (both k l) t = admitted_append (parts_of o k) (parts_of o l) t ∙ ap₂ ◌&&◌ (parts_whole o k t) (parts_whole o l t)
parts_whole o (either k l) t = and_true (admits_row o (either k l) t)

module _ (o : Order) (O : Total o) (v w : Value) where
  not_both : o v w ≡ Ordering.lt → o w v ≡ Ordering.lt → ⊥
  not_both e f = eq≢lt (sym (O.self v) ∙ O.chain v w v e f)

  not_equal : o v w ≡ Ordering.lt → v ≡ w → ⊥
  not_equal e q = eq≢lt (sym (O.self v) ∙ subst (λ x. o v x ≡ Ordering.lt) (sym q) e)

  not_equal_back : o w v ≡ Ordering.lt → v ≡ w → ⊥
  not_equal_back e q = eq≢lt (sym (O.self v) ∙ subst (λ x. o x v ≡ Ordering.lt) (sym q) e)

  compares_at : (r : Ordering) → o v w ≡ r → Compares o v w
  compares_at Ordering.lt e =
      let h : (p : Comparison) → holds p (o v w) ≡ holds p Ordering.lt = λ p. ap (holds p) e in
      record {
        equal = ((λ t. absurd (false≢true (sym (h equals) ∙ t))), (λ q. absurd (not_equal e q)));
        unequal = ((λ t. not_equal e), (λ n. h differs));
        below = ((λ t. e), (λ q. h less));
        not_above = ((λ t. inl e), (λ q. h at_most));
        above = ((λ t. absurd (false≢true (sym (h greater) ∙ t))), (λ q. absurd (not_both e q)));
        not_below = ((λ t. absurd (false≢true (sym (h at_least) ∙ t))), (λ q. elim q [ inl a ↦ absurd (not_both e a) | inr a ↦ absurd (not_equal e a) ]));
      }
  compares_at Ordering.eq e =
      let h : (p : Comparison) → holds p (o v w) ≡ holds p Ordering.eq = λ p. ap (holds p) e in
      let q : v ≡ w = O.same v w e in
      record {
        equal = ((λ t. q), (λ _. h equals));
        unequal = ((λ t. absurd (false≢true (sym (h differs) ∙ t))), (λ n. absurd (n q)));
        below = ((λ t. absurd (false≢true (sym (h less) ∙ t))), (λ a. absurd (not_equal a q)));
        not_above = ((λ t. inr q), (λ _. h at_most));
        above = ((λ t. absurd (false≢true (sym (h greater) ∙ t))), (λ a. absurd (not_equal_back a q)));
        not_below = ((λ t. inr q), (λ _. h at_least));
      }
  compares_at Ordering.gt e =
      let h : (p : Comparison) → holds p (o v w) ≡ holds p Ordering.gt = λ p. ap (holds p) e in
      let b : o w v ≡ Ordering.lt = O.turn v w e in
      record {
        equal = ((λ t. absurd (false≢true (sym (h equals) ∙ t))), (λ q. absurd (not_equal_back b q)));
        unequal = ((λ t. not_equal_back b), (λ n. h differs));
        below = ((λ t. absurd (false≢true (sym (h less) ∙ t))), (λ a. absurd (not_both a b)));
        not_above = ((λ t. absurd (false≢true (sym (h at_most) ∙ t))), (λ q. elim q [ inl a ↦ absurd (not_both a b) | inr a ↦ absurd (not_equal_back b a) ]));
        above = ((λ t. b), (λ q. h greater));
        not_below = ((λ t. inl b), (λ q. h at_least));
      }

pub comparisons_exact : ComparisonsExact
comparisons_exact o O v w = compares_at o O v w (o v w) refl

-- what a condition reads
pub of_singleton : (p i : ℕ) → has (singleton p) i ≡ true → i ≡ p
of_singleton zero zero h = refl
of_singleton zero (suc i) h = absurd (false≢true h)
of_singleton (suc p) zero h = absurd (false≢true h)
of_singleton (suc p) (suc i) h = ap suc (of_singleton p i h)

pub in_singleton : (p i : ℕ) → i ≡ p → has (singleton p) i ≡ true
in_singleton p i e = subst (λ x. has (singleton x) i ≡ true) e (has_singleton i)

operand_is : (x : Operand) (i : ℕ) → has (operand_reads x) i ≡ true → IsOperand i x
operand_is (column j) i h = of_singleton j i h
operand_is (constant v) i h = absurd (false≢true h)

is_operand : (x : Operand) (i : ℕ) → IsOperand i x → has (operand_reads x) i ≡ true
is_operand (column j) i e = in_singleton j i e
is_operand (constant v) i e = absurd e

reads_is : (k : Condition) (i : ℕ) → has (reads_of k) i ≡ true → Names i k
reads_is (compared j c x) i h = elim (of_union (singleton j) (operand_reads x) i h) [ inl g ↦ inl (of_singleton j i g) | inr g ↦ inr (operand_is x i g) ]
reads_is (negated k) i h = reads_is k i h
reads_is (bracket k) i h = reads_is k i h
reads_is (both k l) i h = elim (of_union (reads_of k) (reads_of l) i h) [ inl g ↦ inl (reads_is k i g) | inr g ↦ inr (reads_is l i g) ]
reads_is (either k l) i h = elim (of_union (reads_of k) (reads_of l) i h) [ inl g ↦ inl (reads_is k i g) | inr g ↦ inr (reads_is l i g) ]

is_reads : (k : Condition) (i : ℕ) → Names i k → has (reads_of k) i ≡ true
is_reads (compared j c x) i (inl e) = in_union_left (singleton j) (operand_reads x) i (in_singleton j i e)
is_reads (compared j c x) i (inr e) = in_union_right (singleton j) (operand_reads x) i (is_operand x i e)
is_reads (negated k) i n = is_reads k i n
is_reads (bracket k) i n = is_reads k i n
is_reads (both k l) i (inl n) = in_union_left (reads_of k) (reads_of l) i (is_reads k i n)
is_reads (both k l) i (inr n) = in_union_right (reads_of k) (reads_of l) i (is_reads l i n)
is_reads (either k l) i (inl n) = in_union_left (reads_of k) (reads_of l) i (is_reads k i n)
is_reads (either k l) i (inr n) = in_union_right (reads_of k) (reads_of l) i (is_reads l i n)

pub reads_exact : ReadsExact
reads_exact k i = (reads_is k i, is_reads k i)

pub pick_exact : PickExact
pick_exact i cells t = (
  (λ e. let w = of_any (same_value (cell t i)) cells e in subst (λ x. x ∈ cells) (sym (value_is (cell t i) w.0 w.2)) w.1),
  (λ h. in_any (same_value (cell t i)) (cell t i) cells h (is_value (cell t i) (cell t i) refl)),
)
