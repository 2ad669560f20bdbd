use Rattle.std.proofs.Common.{◌≡◌, ◌∷◌, get_or, subst, sym, rules, true, false}
use borrow.Author.Tests.{tests}
use Rattle.std.specs.List.{remove}
use Rattle.std.proofs.lemmas.Iterator.{YieldsList-from_slice, IsFirst-from_position}
use Rattle.model.specs.TreeForm.{lead_first}
use Rattle.columns.specs.Members.{dependency, dependencies}
use Rattle.columns.proofs.Trees.{leads, leader_at}
use Rattle.columns.proofs.dependencies.leader.Goals as goal

pub returns-clause-leads : goal.returns-clause-leads
returns-clause-leads c d =
    let l = c.args.deps.now in
    let D = dependencies l in
    let first = IsFirst-from_position _ _ c.position.result (leads D true) (leads D false) c.position.ensures.ran (YieldsList-from_slice l cc) (λ x q k. search (rules, tests)) (λ x q k. search (rules, tests)) in
    subst (λ i. lead_first D D ≡ dependency (get_or l i d) ∷ dependencies (remove l i)) (sym c.unwrap_or.ensures) (leader_at D l c.position.result c.requires first d)
