-- What code may leave out: rows that are ascending need no sorting, and the join's rows are. Equal conditions are equal parts.
use Rattle.std.proofs.Common.{◌≡◌, List, [], ◌∷◌, ◌++◌, length, Some, None, Option, refl, inl, inr}
use mathlib.Core.HLevel.{is_prop→PathP, Π_prop}
use mathlib.Core.Bool.{Bool-set}
use Prim.Native.Nat.{Ordering}
use Rattle.model.specs.Joining.{matches, paired, pairs}
use Rattle.model.specs.Orders.{Ascending, Below, BelowFirst, Order, Total, compare_tuples, relation_of, then_by}
use Rattle.model.specs.Sorts.{Agree, Column, Part, Shaped}
use Rattle.model.specs.Values.{Relation, Tuple, find, ◌∈◌}
use Rattle.laws.proofs.Orders.{ascending_relation, below_all, eq≢lt, gt≢lt, in_relation, of_relation, same_members}

module _ (o : Order) (O : Total o) where
  pub relation_same : (R : Relation) → Ascending o R → relation_of o R ≡ R
  relation_same R a = same_members o O (relation_of o R) R (ascending_relation o O R) a (of_relation o O R) (in_relation o O R)

  below_then : (out q r : Ordering) → then_by out q ≡ Ordering.lt → (q ≡ Ordering.lt → r ≡ Ordering.lt) → then_by out r ≡ Ordering.lt
  below_then Ordering.lt q r e f = refl
  below_then Ordering.eq q r e f = f e
  below_then Ordering.gt q r e f = absurd (gt≢lt e)

  -- rows of one width, set before others, keep their order
  below_append : (U : List Column) (u v x y : Tuple) → Shaped U u → Shaped U v → Below o u v → Below o (u ++ x) (v ++ y)
  below_append [] [] [] x y p q b = absurd (eq≢lt b)
  below_append [] [] (w ∷ v) x y p q b = absurd q
  below_append [] (w ∷ u) v x y p q b = absurd p
  below_append (c ∷ U) [] v x y p q b = absurd p
  below_append (c ∷ U) (a ∷ u) [] x y p q b = absurd q
  below_append (c ∷ U) (a ∷ u) (b ∷ v) x y p q h = below_then (o a b) (compare_tuples o u v) (compare_tuples o (u ++ x) (v ++ y)) h (below_append U u v x y p.1 q.1)

  module _ (U V : List Column) where
    -- a row below all left rows is below all that they make
    below_pairs : (s x : Tuple) → Shaped U s → (M N : Relation) → ((t : Tuple) → t ∈ M → Shaped U t) → ((t : Tuple) → t ∈ M → Below o s t) → BelowFirst o (s ++ x) (pairs U V M N)
    below_pairs s x p [] N sh f = tt
    below_pairs s x p (u ∷ M) N sh f = go (find (matches U V u) N) (below_pairs s x p M N (λ t h. sh t (inr h)) (λ t h. f t (inr h)))
      where
        go : (out : Option Tuple) → BelowFirst o (s ++ x) (pairs U V M N) → BelowFirst o (s ++ x) (paired U V u out (pairs U V M N))
        go None b = b
        go (Some v) b = below_append U s u x _ p (sh u (inl refl)) (f u (inl refl))

    pub pairs_ascending : (M N : Relation) → Ascending o M → ((t : Tuple) → t ∈ M → Shaped U t) → Ascending o (pairs U V M N)
    pairs_ascending [] N a sh = tt
    pairs_ascending (u ∷ M) N a sh = go (find (matches U V u) N) (pairs_ascending M N a.1 (λ t h. sh t (inr h)))
      where
        go : (out : Option Tuple) → Ascending o (pairs U V M N) → Ascending o (paired U V u out (pairs U V M N))
        go None b = b
        go (Some v) b = (below_pairs u _ (sh u (inl refl)) M N (λ t h. sh t (inr h)) (below_all o O u M a.0 a.1), b)

-- parts that read and admit the same are one
pub part_path : (p q : Part) → p.reads ≡ q.reads → ((t : Tuple) → p.admits t ≡ q.admits t) → p ≡ q
part_path p q e f = λ i. record {
  reads = e i;
  admits = λ t. f t i;
  alike = is_prop→PathP (λ j. (s t : Tuple) → length s ≡ length t → Agree (e j) s t → f s j ≡ f t j) (λ j. Π_prop λ s. Π_prop λ t. Π_prop λ z. Π_prop λ a. Bool-set (f s j) (f t j)) p.alike q.alike i;
}
