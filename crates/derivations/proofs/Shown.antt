-- The worked examples hold, by computing.
use Rattle.std.proofs.Common.{refl}
use Rattle.derivations.specs.Examples.{Examples}

pub examples : Examples
examples = record {
  pads_signs = refl;
  pads_steps = refl;
  pads_right = refl;
  nested_steps = refl;
  forms_tree = refl;
  and_first = refl;
  stray_sign = refl;
  touching = refl;
  keyword_first = refl;
  nothing = refl;
  ends_early = refl;
  never_closed = refl;
  no_text_byte = refl;
  too_deep = refl;
  long_word = refl;
  greatest_number = refl;
  large_number = refl;
  empty_text = refl;
  long_text = refl;
  faulty = refl;
  faulty_steps = refl;
}
