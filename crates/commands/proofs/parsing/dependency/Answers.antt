use Rattle.std.proofs.Common.{◌≡◌, Some, vec_items, sym, ap, ◌∙◌, rules, tests}
use Rattle.model.specs.Values.{any}
use Rattle.std.specs.Result.{result_ok}
use Rattle.std.proofs.lemmas.Option.{MatchOption-at_none, MatchOption-at_some}
use Rattle.std.proofs.lemmas.Result.{err_from_is_err_and}
use Rattle.std.proofs.lemmas.Iterator.{YieldsList-from_slice}
use Rattle.std.proofs.lemmas.Iterator.Search.{any_from_yields_List}
use Rattle.commands.specs.Lines.{texts}
use Rattle.commands.specs.Forms.{is_arrow, no_arrow, dep, asked}
use Rattle.commands.proofs.Meanings.{dep_none, dep_two, dep_one}
use Rattle.commands.proofs.Results.{reads_not}
use Rattle.commands.proofs.parsing.dependency.Goals as goal

pub returns-in_err-right : goal.returns-in_err-right
returns-in_err-right c =
    let none = MatchOption-at_none _ _ (c.ok_or.ensures.ok_part ∙ ap result_ok c.in_err-right.was) c.split_first.ensures.cases in
    let said = dep_none c.args.words.now c.split_run.result.0.now c.split_run.result.1.now (c.split_run.ensures.front (λ w. no_arrow w.now) (λ a b k. search (rules, tests))) (c.split_run.ensures.behind (λ w. no_arrow w.now) (λ a b k. search (rules, tests))) none in
    let p = err_from_is_err_and c.from_residual.result c.from_residual.ensures.1 in
    rw (p.1, p.2) (reads_not c.in_err-right.field-0.0 asked _ (λ m. sym said))

pub returns-then-any : goal.returns-then-any
returns-then-any c =
    let right = c.in_ok-right.right.now in
    let some = MatchOption-at_some _ _ _ (c.ok_or.ensures.ok_part ∙ ap result_ok c.in_ok-right.was) c.split_first.ensures.cases in
    let found : c.any.result ≡ any (λ w. is_arrow w.now) right = any_from_yields_List (λ w. is_arrow w.now) _ _ c.any.result c.any.ensures.ran (YieldsList-from_slice right cc) (λ x b q k. search (rules, tests)) in
    sym (dep_two c.args.words.now c.split_run.result.0.now c.split_run.result.1.now (c.split_run.ensures.front (λ w. no_arrow w.now) (λ a b k. search (rules, tests))) (c.split_run.ensures.behind (λ w. no_arrow w.now) (λ a b k. search (rules, tests))) _ right some.0 (sym found ∙ c.if-any.true))

pub returns : goal.returns
returns c =
    let left = c.split_run.result.0.now in
    let right = c.in_ok-right.right.now in
    let some = MatchOption-at_some _ _ _ (c.ok_or.ensures.ok_part ∙ ap result_ok c.in_ok-right.was) c.split_first.ensures.cases in
    let found : c.any.result ≡ any (λ w. is_arrow w.now) right = any_from_yields_List (λ w. is_arrow w.now) _ _ c.any.result c.any.ensures.ran (YieldsList-from_slice right cc) (λ x b q k. search (rules, tests)) in
    let said = dep_one c.args.words.now left c.split_run.result.1.now (c.split_run.ensures.front (λ w. no_arrow w.now) (λ a b k. search (rules, tests))) (c.split_run.ensures.behind (λ w. no_arrow w.now) (λ a b k. search (rules, tests))) _ right some.0 (sym found ∙ c.if-any.false) in
    ap (λ l. Some (dep (texts l) (texts (vec_items c.in_ok-right-2.right)))) c.in_ok-left.ensures.items ∙ ap (λ l. Some (dep (texts left) (texts l))) c.in_ok-right-2.ensures.items ∙ sym said
