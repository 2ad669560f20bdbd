use Rattle.std.proofs.Common.{◌≡◌, not, rules, tests, ◌∙◌}
use Rattle.std.specs.List.{position}
use Rattle.std.proofs.lemmas.Iterator.{YieldsList-from_slice}
use Rattle.std.proofs.lemmas.Iterator.Search.{position_from_yields_List}
use Rattle.runs.proofs.Cuts.{cut_at}
use Rattle.runs.proofs.split_run.Goals as goal

pub returns-clause-front : goal.returns-clause-front
returns-clause-front g c p h =
    let stop : c.position.result ≡ position (λ x. not (p x)) c.args.items.now = position_from_yields_List (λ x. not (p x)) _ _ c.position.result c.position.ensures.ran (YieldsList-from_slice c.args.items.now cc) (λ x b q k. search (rules, tests, h)) in
    c.split_at.ensures.front ∙ (cut_at p c.args.items.now c.position.result _ stop c.unwrap_or-end.ensures).0

pub returns-clause-behind : goal.returns-clause-behind
returns-clause-behind g c p h =
    let stop : c.position.result ≡ position (λ x. not (p x)) c.args.items.now = position_from_yields_List (λ x. not (p x)) _ _ c.position.result c.position.ensures.ran (YieldsList-from_slice c.args.items.now cc) (λ x b q k. search (rules, tests, h)) in
    c.split_at.ensures.back ∙ (cut_at p c.args.items.now c.position.result _ stop c.unwrap_or-end.ensures).1
