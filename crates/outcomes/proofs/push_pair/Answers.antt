use Rattle.std.proofs.Common.{◌/◌, ◌%◌, ◌<◌, [], ◌∷◌, ◌++◌, string_bytes, ap, ◌∙◌, arith, rules}
use Rattle.outcomes.specs.Printed.{hex_digit}
use Rattle.outcomes.proofs.Pushes.{three, hex_small}
use Rattle.outcomes.proofs.push_pair.Goals as goal

pub returns : goal.returns
returns c =
    let b = c.args.b in
    let high : b / 16 < 16 = search rules in
    let low : b % 16 < 16 = search rules in
    let first = c.in_ok-push.ensures.bytes ∙ ap (λ l. string_bytes c.push_str.new.self ++ l) (c.push.ensures.ascii (omega (arith, c.hex_digit.ensures, hex_small (b / 16) high)) ∙ ap (λ d. d ∷ []) c.hex_digit.ensures) in
    let second = c.in_ok-push-2.ensures.bytes ∙ ap (λ l. string_bytes c.push.new.self ++ l) (c.push-2.ensures.ascii (omega (arith, c.hex_digit-2.ensures, hex_small (b % 16) low)) ∙ ap (λ d. d ∷ []) c.hex_digit-2.ensures) in
    three _ _ _ _ 32 (hex_digit (b / 16)) (hex_digit (b % 16)) c.in_ok-push_str.ensures.bytes first second
