use Rattle.std.proofs.Common.{ap, ◌∙◌}
use Rattle.model.specs.Values.{same_bytes}
use Rattle.cells.proofs.Sames.{matches_bytes}
use Rattle.cells.proofs.words.Word.is.Goals as goal

pub returns : goal.returns
returns c = matches_bytes c.as_bytes.result.now c.args.bytes.now c.eq.result c.eq.ensures ∙ ap (λ w. same_bytes w c.args.bytes.now) c.as_bytes.ensures.value
