use Rattle.std.proofs.Common.{◌-◌, ◌^◌, true, false, [], ◌∷◌, Some, get_or, take, sym, ap, ◌∙◌, rules}
use Rattle.std.specs.Fmt.{◌++?◌, format_spec, padded_integral, styled_digits_output}
use Rattle.std.specs.Option.{option_map}
use Rattle.std.proofs.Output.{displays_on_ok_of_eq, has_written_append, has_written_of_eq}
use Rattle.std.proofs.lemmas.Fmt.{hex_byte}
use Rattle.std.proofs.lemmas.List.{flat_map_more, take_more}
use Rattle.outcomes.specs.Printed.{hex_pair, hex_text}
use Rattle.outcomes.proofs.HexDisplay.fmt.Goals as goal

pub loop-b-preserved : goal.loop-b-preserved
loop-b-preserved g c =
    λ plain.
    let took = g.W.Write.write_str_gives in
    let bytes = c.args.self.now.0.now in
    let i = c.loop-b.b-index in
    let b = get_or bytes i 0 in
    let before = c.loop-b.invariant plain in
    let text =
    ap (λ s. Some (32 ∷ []) ++? styled_digits_output c.in_radix.result s) {y = format_spec 32 0 4 2 (2 ^ 64 - 1)} c.laid_out.ensures
    ∙ ap (λ o. Some (32 ∷ []) ++? option_map (padded_integral (format_spec 32 0 4 2 (2 ^ 64 - 1)) false []) o) c.in_radix.ensures
    ∙ ap (λ l. Some (32 ∷ l)) (hex_byte true b (search rules)) in
    let pair = displays_on_ok_of_eq took c.loop-b.f c.write.new.self c.write.result _ (Some (hex_pair b)) text c.write.ensures.writes before.plain (search rules) in
    has_written_of_eq took c.args.f.now _ _ c.write.new.self (flat_map_more hex_pair [] (take i bytes) b ∙ ap hex_text (sym (take_more bytes i 0 c.loop-b-test.true)))
    (has_written_append took c.args.f.now (hex_text (take i bytes)) c.loop-b.f (hex_pair b) c.write.new.self before pair)
