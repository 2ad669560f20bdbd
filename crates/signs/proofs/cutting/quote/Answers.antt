use Rattle.std.proofs.Common.{length, ap, arith, rules, tests}
use Rattle.model.specs.Sorts.{is_text_byte}
use Rattle.runs.proofs.Cuts.{front_short}
use Rattle.signs.proofs.cutting.quote.Goals as goal

pub quote_end-requires : goal.quote_end-requires
quote_end-requires c = omega (arith, ap length (c.split_run.ensures.front is_text_byte (λ a b k. search (rules, tests))), front_short is_text_byte c.args.rest.now)
