use Rattle.std.proofs.Common.{not, ap, ◌∙◌}
use Rattle.columns.specs.Members.{dependency, dependencies}
use Rattle.columns.proofs.Trees.{none_leads}
use Rattle.columns.proofs.dependencies.leads_off.Goals as goal

pub returns : goal.returns
returns c = ap not c.has_right.ensures ∙ none_leads (dependencies c.args.deps.now) (dependency c.args.d.now)
