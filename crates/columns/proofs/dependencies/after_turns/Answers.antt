use Rattle.std.proofs.Common.{◌≡◌, length, refl, ap, ◌∙◌, arith, rules}
use borrow.Author.Tests.{tests}
use Rattle.std.proofs.lemmas.Fn.{fold_over}
use Rattle.std.proofs.iter.Yields.{nat_range_steps}
use Rattle.std.proofs.lemmas.Iterator.{YieldsList-from_range}
use Rattle.std.proofs.lemmas.List.FromFn.{length-range_with_len}
use Rattle.model.specs.Closures.{turns}
use Rattle.columns.specs.Members.{members, dependencies}
use Rattle.columns.proofs.Trees.{turns_push}
use Rattle.columns.proofs.dependencies.after_turns.Goals as goal

pub returns : goal.returns
returns c =
    let D = dependencies c.args.deps.now in
    let X = members c.args.set in
    let n = c.args.count in
    let yields = YieldsList-from_range 0 n n refl (omega arith) in
    fold_over nat_range_steps (λ y. y) _ (λ ys a. members a ≡ turns (length ys) D X) _
    (λ ys a x b q j k. (turns_push ys x D X (members a) (members b) j (search (rules, tests)), search (rules, tests)))
    _ _ _ _ yields.runs refl c.fold.ensures.ran
    ∙ ap (λ n. turns n D X) (length-range_with_len 0 n)
