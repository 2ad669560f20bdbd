use Rattle.std.proofs.Common.{◌≡◌, ap, subst, inl, inr}
use Rattle.model.specs.ColumnSets.{ColumnSet, Same, union}
use Rattle.model.specs.Conditions.{reads_of}
use Rattle.conditions.specs.Meaning.{meaning}
use Rattle.cells.specs.declared.values.Cell.{Cell}
use Rattle.conditions.specs.declared.places.Place.{Place}
use Rattle.conditions.specs.declared.trees.Compared.{Compared}
use Rattle.conditions.specs.declared.trees.Formula.{Formula}
use Rattle.conditions.proofs.Columns.{same_union}
use Rattle.conditions.proofs.truth.Written.+names.Goals as goal

-- a condition of two, k and l, that are read behind boxes as k' and l'
both : (w k k' l l' : Formula (Compared Place Cell)) (X Y Z : ColumnSet) → reads_of (meaning w) ≡ union (reads_of (meaning k)) (reads_of (meaning l)) → k' ≡ k → l' ≡ l →
    Same X (reads_of (meaning k')) → Same Y (reads_of (meaning l')) → Z ≡ union X Y → Same Z (reads_of (meaning w))
both w k k' l l' X Y Z e p q s t u =
    same_union X (reads_of (meaning k)) Y (reads_of (meaning l)) Z (reads_of (meaning w)) u e (subst (λ v. Same X (reads_of (meaning v))) p s) (subst (λ v. Same Y (reads_of (meaning v))) q t)

pub returns-in-And : goal.returns-in-And
returns-in-And t c =
    let X = λ (k : Formula (Compared Place Cell)). reads_of (meaning k) in
    both c.args.self.now c.in-And.left.value _ c.in-And.right.value _ _ _ _ (elim c.in-And.is [ inl e ↦ ap X e | inr e ↦ ap X e ])
    c.deref.ensures c.deref-in-And.ensures c.names-in-And.ensures c.names-in-And-2.ensures c.union.ensures
