use Rattle.std.proofs.Common.{◌∙◌, rules}
use Rattle.std.proofs.lemmas.Iterator.{YieldsList-from_slice}
use Rattle.std.proofs.lemmas.Iterator.Consumers.{YieldsList-from_filter_map}
use Rattle.model.specs.Sorts.{lookup}
use Rattle.columns.specs.Named.{named_columns}
use Rattle.sorts.proofs.Placing.{folded, placed_named}
use Rattle.sorts.proofs.describing.named_set.Goals as goal

pub returns : goal.returns
returns c =
    let C = named_columns c.args.columns.now in
    folded _ _ c.fold.ensures.ran (YieldsList-from_filter_map _ (λ r. lookup C r.now) (YieldsList-from_slice c.args.names.now cc) c.filter_map.ensures.closure (λ x r q k. search rules)) c.empty.ensures (λ a x b q k. search rules)
    ∙ placed_named C c.args.names.now
