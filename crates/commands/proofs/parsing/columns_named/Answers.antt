use Rattle.std.proofs.Common.{◌≡◌, ◌/◌, ◌*◌, length, sym, ap, ◌∙◌, subst, true-eqb, false-eqb, arith, rules}
use Rattle.sorts.specs.Offered.{offered_column}
use Rattle.commands.specs.Lists.{each}
use Rattle.commands.specs.Lines.{texts}
use Rattle.commands.specs.Forms.{headings_said}
use Rattle.commands.specs.Readings.{ReadsAs}
use Rattle.commands.proofs.Eaches.{reads_each}
use Rattle.commands.proofs.Shapes.{heading_of, headings_of_pairs, headings_odd}
use Rattle.commands.proofs.parsing.columns_named.Goals as goal

pub returns-then-not-is_empty : goal.returns-then-not-is_empty
returns-then-not-is_empty c = sym (headings_odd c.args.words.now (omega (arith, c.as_chunks.ensures.back_len, false-eqb _ 0 c.if-not-is_empty.ensures)))

pub returns : goal.returns
returns c =
    let words = c.args.words.now in
    let even : length words ≡ (length words / 2) * 2 = omega (arith, c.as_chunks.ensures.back_len, true-eqb _ 0 c.if-not-is_empty.ensures) in
    let said : each heading_of c.as_chunks.result.0.now ≡ headings_said (texts words) = ap (each heading_of) c.as_chunks.ensures.front ∙ sym (headings_of_pairs _ words even) in
    subst (ReadsAs c.each.result _) said (reads_each _ _ heading_of offered_column (λ x r k. search rules) _ c.each.result c.each.ensures.all c.each.ensures.malformed)
