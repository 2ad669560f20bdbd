use Rattle.std.proofs.Common.{◌++◌, vec_items, vec_len, ap, ◌∙◌, subst, rules}
use Rattle.columns.specs.Members.{Leader, dependencies}
use Rattle.columns.proofs.Trees.{arrange_more, arrange_all, arrange_none}
use Rattle.model.specs.TreeForm.{arrange, in_order}
use Rattle.columns.proofs.dependencies.in_order.Goals as goal

pub loop-rest-init : goal.loop-rest-init
loop-rest-init c =
    ap (λ l. dependencies l ++ arrange (vec_len c.in_ok-rest.rest) (dependencies (vec_items c.in_ok-rest.rest))) c.new-ordered.ensures.items
    ∙ arrange_all (vec_items c.in_ok-rest.rest) c.args.deps.now (vec_len c.in_ok-rest.rest) (search rules) (search rules)

pub loop-rest-preserved : goal.loop-rest-preserved
loop-rest-preserved c =
    arrange_more (vec_items c.loop-rest.ordered) (vec_items c.push.new.self) (vec_items c.loop-rest.rest) (vec_items c.remove-first.new.self) c.remove-first.result c.leader-at.result
    (vec_len c.loop-rest.rest) (vec_len c.remove-first.new.self) (in_order (dependencies c.args.deps.now))
    (subst (λ l. Leader l c.leader-at.result) c.deref.ensures.value c.leader-at.ensures.leads) c.remove-first.ensures.value c.in_ok-push.ensures.items c.remove-first.ensures.items c.remove-first.ensures.len c.loop-rest.invariant

pub returns : goal.returns
returns c = arrange_none (vec_items c.loop-rest.ordered) (vec_items c.loop-rest.rest) (vec_len c.loop-rest.rest) (in_order (dependencies c.args.deps.now)) (search rules) c.loop-rest.invariant
