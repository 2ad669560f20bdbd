use Rattle.std.proofs.Common.{◌≡◌, reverse, refl, ap, ◌∙◌, rules}
use borrow.Author.Tests.{tests}
use Rattle.std.specs.Iterator.Adapters.{rev_steps}
use Rattle.std.specs.Slice.Iter.{iter_steps_back}
use Rattle.std.proofs.lemmas.Fn.{fold_over}
use Rattle.std.proofs.lemmas.Iterator.Adapters.{YieldsList-from_rev_slice}
use Rattle.std.proofs.lemmas.List.{reverse-reverse}
use Rattle.model.specs.Closures.{grow}
use Rattle.columns.specs.Members.{members, dependencies}
use Rattle.columns.proofs.Trees.{grow_more}
use Rattle.columns.proofs.dependencies.grow.Goals as goal

pub returns : goal.returns
returns c =
    let Z = members c.args.set in
    let yields = YieldsList-from_rev_slice {s = c.rev.result} c.args.deps.now cc in
    fold_over (rev_steps iter_steps_back) (λ y. y.now) _ (λ ys a. members a ≡ grow (dependencies (reverse ys)) Z) _ (λ ys a x b q j k. (grow_more ys x.now Z (members a) (members b) j (search (rules, tests)), search (rules, tests))) c.rev.result _ _ _ yields.runs refl c.fold.ensures.ran
    ∙ ap (λ l. grow (dependencies l) Z) (reverse-reverse c.args.deps.now)
