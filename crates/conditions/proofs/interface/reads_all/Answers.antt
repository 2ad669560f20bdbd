use Rattle.std.proofs.Common.{rules, subst, map, ap, ◌∙◌}
use Rattle.std.proofs.lemmas.Fn.{fold_over, fronts, slice_gives}
use Rattle.model.specs.ColumnSets.{has}
use Rattle.columns.specs.Members.{members}
use Rattle.conditions.specs.Reading.{Reads}
use Rattle.conditions.proofs.Columns.{has_none}
use Rattle.conditions.proofs.Parts.{read_more}
use Rattle.conditions.proofs.interface.reads_all.Goals as goal

pub returns : goal.returns
returns g c =
    subst (λ xs. Reads (map g.C.Condition.part xs) (members c.fold.result)) c.iter.ensures.rest
    (fold_over fronts (λ y. y.now) _ (λ xs s. Reads (map g.C.Condition.part xs) (members s)) _ (λ xs a x b f' h k. (search (rules, read_more), search rules)) c.iter.result _ _ _
    (slice_gives c.iter.result) (λ i. ap (λ X. has X i) c.empty.ensures ∙ has_none 8 i) c.fold.ensures.ran)
