-- Whether a relation meets a sort, and stores fit their rooms, as tests.
use Rattle.std.specs.Prelude.{Bool, true, false, not, ◌&&◌, ◌||◌, List, [], ◌∷◌, length, nat_le}
use Prim.Native.Nat.{Ordering}
use Rattle.model.specs.Values.{Tuple, Relation, every}
use Rattle.model.specs.Orders.{Order, compare_tuples}
use Rattle.model.specs.Sorts.{of_kind, Column, agrees, Dependency, Sort}
use Rattle.model.specs.Tables.{Store}

abbrev pub is_below : Ordering → Bool
is_below Ordering.lt = true
is_below Ordering.eq = false
is_below Ordering.gt = false

abbrev pub below_first : Order → Tuple → Relation → Bool
below_first o s [] = true
below_first o s (t ∷ R) = is_below (compare_tuples o s t)

abbrev pub ascending : Order → Relation → Bool
ascending o [] = true
ascending o (s ∷ R) = below_first o s R && ascending o R

abbrev pub shaped : List Column → Tuple → Bool
shaped [] [] = true
shaped [] (v ∷ t) = false
shaped (c ∷ C) [] = false
shaped (c ∷ C) (v ∷ t) = of_kind c.kind v && shaped C t

abbrev pub meets_dep : Dependency → Relation → Bool
meets_dep d R = every (λ s. every (λ t. not (agrees d.left s t) || agrees d.right s t) R) R

abbrev pub meets : Order → Sort → Relation → Bool
meets o S R = ascending o R && (every (shaped S.columns) R && (every (λ p. every p.admits R) S.parts && every (λ d. meets_dep d R) S.deps))

abbrev pub fits : List Store → List Relation → Bool
fits [] I = true
fits (s ∷ S) [] = true
fits (s ∷ S) (R ∷ I) = nat_le (length R) s.room && fits S I
