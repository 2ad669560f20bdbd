-- How tokens stand in a text, and that the reader finds just these.
use Rattle.std.specs.Prelude.{◌≡◌, ℕ, true, not, List, [], ◌∷◌, ◌++◌, Some}
use Rattle.model.specs.Values.{every}
use Rattle.commands.specs.Lines.{Lexeme, plain, quoted, is_sign, is_quote, bounded, tokens_of}

-- how a token is written
abbrev pub spelt : Lexeme → List ℕ
spelt (plain w) = w
spelt (quoted w) = 0x22 ∷ (w ++ (0x22 ∷ []))

-- a plain token has at least one byte, and a quoted one holds no quote
abbrev pub Proper : Lexeme → Type 0
Proper (plain []) = ⊥
Proper (plain (b ∷ w)) = every is_sign (b ∷ w) ≡ true
Proper (quoted w) = every (λ b. not (is_quote b)) w ≡ true

-- Tokens stand apart by spaces, and spaces may stand anywhere between them.
pub data Reads : List ℕ → List Lexeme → Type 0 where
  end : Reads [] []
  space : {l : List ℕ} {ts : List Lexeme} → Reads l ts → Reads (0x20 ∷ l) ts
  token : {l s : List ℕ} {ts : List Lexeme} (t : Lexeme) → Proper t → bounded l ≡ true → s ≡ spelt t ++ l → Reads l ts → Reads s (t ∷ ts)

-- The tokens that the reader finds are those that the grammar has, and where it finds none the grammar has none.
pub record Exact : Type 0 where
  pub sound : (l : List ℕ) (ts : List Lexeme) → tokens_of l ≡ Some ts → Reads l ts
  pub complete : (l : List ℕ) (ts : List Lexeme) → Reads l ts → tokens_of l ≡ Some ts
