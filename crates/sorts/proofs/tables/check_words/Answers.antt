use Rattle.std.proofs.Common.{rules, tests}
use Rattle.model.specs.Words.{is_name}
use Rattle.std.proofs.lemmas.Iterator.{YieldsList-from_slice}
use Rattle.sorts.proofs.Mapped.{all_of}
use Rattle.sorts.proofs.Tabling.{all_names}
use Rattle.sorts.proofs.tables.check_words.Goals as goal

pub returns : goal.returns
returns c =
    let named = all_of is_name (λ d. d.word.now) _ _ _ c.all-named.ensures.ran (YieldsList-from_slice c.args.columns.now cc) (λ x b q k. search (rules, tests)) in
    rw (all_names c.args.columns.now, ← named) c.ensure.ensures
