-- One byte more of a bank's text.
use Rattle.std.proofs.Common.{◌≡◌, ℕ, ◌<◌, List, [], ◌∷◌, ◌++◌, ap, ◌∙◌, append_assoc, arith}
use Rattle.std.proofs.lemmas.Bool.Decides.{nat_tests}
use Rattle.outcomes.specs.Printed.{hex_digit}

pub three : (s r q p : List ℕ) (a b c : ℕ) → r ≡ s ++ (a ∷ []) → q ≡ r ++ (b ∷ []) → p ≡ q ++ (c ∷ []) → p ≡ s ++ (a ∷ b ∷ c ∷ [])
three s r q p a b c d e f =
    f ∙ ap (λ l. l ++ (c ∷ [])) (e ∙ ap (λ l. l ++ (b ∷ [])) d) ∙ append_assoc (s ++ (a ∷ [])) (b ∷ []) (c ∷ []) ∙ append_assoc s (a ∷ []) (b ∷ c ∷ [])

pub hex_small : (n : ℕ) → n < 16 → hex_digit n < 128
hex_small n h = grind (arith, nat_tests)
