use Rattle.std.proofs.Common.{◌+◌, get_or, drop, sym, ap, ◌∙◌, rules}
use Rattle.std.proofs.lemmas.List.{take_rest}
use Rattle.grammar.specs.Signs.{mark, equals_next}
use Rattle.signs.specs.Reached.{before}
use Rattle.signs.proofs.Cuts.{as_mark}
use Rattle.signs.proofs.cutting.piece_at.Goals as goal

pub returns-else-first-eq34 : goal.returns-else-first-eq34
returns-else-first-eq34 c =
    let b = c.args.text.now in
    let p = c.args.place in
    let e = c.mark.ensures ∙ ap (mark (get_or b p 0)) (c.is_equals.ensures ∙ ap equals_next (take_rest b (p + 1))) in
    e ∙ sym (as_mark p (before b p) (get_or b p 0) (drop (p + 1) b) (sym c.if-is_stray.ensures) (sym (c.if-is_ascii_lowercase.ensures {u = tt}).value) (sym (c.if-is_ascii_digit.ensures {u = tt}).value) (search rules))
