-- The sign at a place that begins with none of a letter, a digit and a quote.
use Rattle.std.proofs.Common.{◌≡◌, ℕ, false, ◌&&◌, eqb, List, ◌∙◌}
use Rattle.std.proofs.lemmas.Bool.{cond-false}
use Rattle.model.specs.Words.{is_letter}
use Rattle.grammar.specs.Signs.{touches, is_digit, sign_at, mark, equals_next}

pub as_mark : (p a b : ℕ) (r : List ℕ) → (touches b && touches a) ≡ false → is_letter b ≡ false → is_digit b ≡ false → eqb b 0x22 ≡ false → sign_at p a b r ≡ mark b (equals_next r)
as_mark p a b r s l d q = cond-false (touches b && touches a) _ _ s ∙ cond-false (is_letter b) _ _ l ∙ cond-false (is_digit b) _ _ d ∙ cond-false (eqb b 0x22) _ _ q
