-- What is claimed of revision.
use Rattle.std.specs.Prelude.{◌≡◌}
use Rattle.model.specs.Values.{Tuple, Relation, ◌∈◌}
use Rattle.model.specs.Sorts.{Sort, Shaped, MeetsDeps}
use Rattle.model.specs.TreeForm.{Formed}
use Rattle.model.specs.Revision.{revise, Revised}

-- `revise` gives the tuple as revised, whatever the order of work
abbrev pub RevisionCharacterised : Type 0
RevisionCharacterised =
    (S : Sort) → Formed S → (N : Relation) → ((t : Tuple) → t ∈ N → Shaped S.columns t) → MeetsDeps S.deps N →
    (m : Tuple) → Shaped S.columns m → Shaped S.columns (revise S.deps N m) × Revised S.deps N m (revise S.deps N m)

-- and there is only one such tuple
abbrev pub RevisionUnique : Type 0
RevisionUnique =
    (S : Sort) → Formed S → (N : Relation) (m r q : Tuple) → Shaped S.columns r → Shaped S.columns q →
    Revised S.deps N m r → Revised S.deps N m q → r ≡ q
