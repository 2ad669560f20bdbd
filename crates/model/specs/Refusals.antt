-- The fault that is due to offered rows, in the words of the rules: Judging says the same by computation.
use Rattle.std.specs.Prelude.{◌≡◌, ◌<◌, true, false, List, [], ◌∷◌, ◌++◌, length}
use Rattle.model.specs.Values.{Tuple, Relation, ◌∈◌}
use Rattle.model.specs.Orders.{Order, Ascending}
use Rattle.model.specs.Sorts.{Shaped, MeetsDeps, admitted, Sort, Meets}
use Rattle.model.specs.Faults.{Fault}
use Rattle.model.specs.Tables.{Store, Rules, Fits}

-- Rows that no 17, 18 or 19 is due to.
pub record RowsRight (o : Order) (S : Sort) (J : Relation) : Type 0 where
  pub ascending : Ascending o J
  pub shaped : (t : Tuple) → t ∈ J → Shaped S.columns t
  pub admits : (t : Tuple) → t ∈ J → admitted S.parts t ≡ true

-- A fault is due to the row t, or to the store s that would get the rows R, all earlier ones being right.
pub data Due (o : Order) (K : Rules) (J : Relation) (I : List Relation) : Fault → Type 0 where
  wrong_cells : (earlier later : Relation) (t : Tuple) → J ≡ earlier ++ t ∷ later → RowsRight o K.sort earlier →
      (Shaped K.sort.columns t → ⊥) → Due o K J I (record { number = 17; kind = K.kind; place = length earlier })
  not_above : (earlier later : Relation) (t : Tuple) → J ≡ earlier ++ t ∷ later → RowsRight o K.sort earlier →
      Shaped K.sort.columns t → (Ascending o (earlier ++ t ∷ []) → ⊥) → Due o K J I (record { number = 18; kind = K.kind; place = length earlier })
  not_admitted : (earlier later : Relation) (t : Tuple) → J ≡ earlier ++ t ∷ later → RowsRight o K.sort earlier →
      Shaped K.sort.columns t → Ascending o (earlier ++ t ∷ []) → admitted K.sort.parts t ≡ false → Due o K J I (record { number = 19; kind = K.kind; place = length earlier })
  breaks_dependency : (earlier later : Relation) (t : Tuple) → J ≡ earlier ++ t ∷ later → RowsRight o K.sort J →
      MeetsDeps K.sort.deps earlier → (MeetsDeps K.sort.deps (earlier ++ t ∷ []) → ⊥) → Due o K J I (record { number = 20; kind = K.kind; place = length earlier })
  no_room : Meets o K.sort J → (before after : List Store) (s : Store) (fitting others : List Relation) (R : Relation) →
      K.stores ≡ before ++ s ∷ after → K.puts J I ≡ fitting ++ R ∷ others → length before ≡ length fitting → Fits before fitting →
      s.room < length R → Due o K J I (record { number = 21; kind = s.kind; place = length before })
