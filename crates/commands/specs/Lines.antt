-- Lines and their tokens.
use Rattle.std.specs.Prelude.{◌≡◌, ℕ, ◌<◌, Bool, true, false, cond, not, ◌&&◌, ◌||◌, List, [], ◌∷◌, ◌++◌, map, length, Some, None, Option, ◌==◌, nat_le}
use Rattle.std.specs.Borrow.{Bor}
use Rattle.std.specs.Option.{option_map}
use Rattle.model.specs.Values.{every, tail}
use Rattle.commands.specs.declared.tokens.Token.{Token}
use Rattle.commands.specs.declared.tokens.Token.TheVariants.{Plain, Quoted}
use Rattle.commands.specs.Lists.{front, behind, and_then, each}

-- A token is a text in quotes, by the bytes between them, or any other run of bytes.
pub data Lexeme : Type 0 where
  plain : List ℕ → Lexeme
  quoted : List ℕ → Lexeme

abbrev pub lexeme : Token → Lexeme
lexeme (Plain w) = plain w.now
lexeme (Quoted w) = quoted w.now

abbrev pub is_space : ℕ → Bool
is_space b = b == 0x20

abbrev pub is_quote : ℕ → Bool
is_quote b = b == 0x22

-- a byte of a plain token: from 21 to 7E hexadecimal, but no quote
abbrev pub is_sign : ℕ → Bool
is_sign b = nat_le 0x21 b && (nat_le b 0x7E && not (is_quote b))

-- a token may end where the text ends, and before a space
abbrev pub bounded : List ℕ → Bool
bounded [] = true
bounded (b ∷ l) = is_space b

abbrev pub is_quoted : List ℕ → Bool
is_quoted [] = false
is_quoted (b ∷ l) = is_quote b

-- How far a reader is: between tokens, in a plain token or in quotes with what it has read of it, or past the closing quote.
pub data Reader : Type 0 where
  between : Reader
  in_plain : List ℕ → Reader
  in_quotes : List ℕ → Reader
  closed : Reader

abbrev pub lead : Lexeme → Option (List Lexeme) → Option (List Lexeme)
lead t ts = option_map (λ us. t ∷ us) ts

abbrev pub read : Reader → List ℕ → Option (List Lexeme)
read between [] = Some []
read (in_plain w) [] = Some (plain w ∷ [])
read (in_quotes w) [] = None
read closed [] = Some []
read between (b ∷ l) = cond (is_space b) (read between l) (cond (is_quote b) (read (in_quotes []) l) (cond (is_sign b) (read (in_plain (b ∷ [])) l) None))
read (in_plain w) (b ∷ l) = cond (is_space b) (lead (plain w) (read between l)) (cond (is_sign b) (read (in_plain (w ++ (b ∷ []))) l) None)
read (in_quotes w) (b ∷ l) = cond (is_quote b) (lead (quoted w) (read closed l)) (read (in_quotes (w ++ (b ∷ []))) l)
read closed (b ∷ l) = cond (is_space b) (read between l) None

-- the tokens of a text, or none where one is malformed
abbrev pub tokens_of : List ℕ → Option (List Lexeme)
tokens_of l = read between l

-- Some tokens are the first token of a text of some length, and those of what stands behind it.
abbrev pub Leads : Option (List Lexeme) → List ℕ → Option (Token × Bor (List ℕ)) → Type 0
Leads ts text None = ts ≡ None
Leads ts text (Some p) = (ts ≡ lead (lexeme p.0) (tokens_of p.1.now)) × (length p.1.now < length text)

-- the words that references hold
abbrev pub texts : List (Bor (List ℕ)) → List (List ℕ)
texts ws = map (λ w. w.now) ws

-- the tokens of a text of plain tokens only
abbrev pub plain_word : Lexeme → Option (List ℕ)
plain_word (plain w) = Some w
plain_word (quoted w) = None

abbrev pub words_of : List ℕ → Option (List (List ℕ))
words_of l = and_then (tokens_of l) (λ ts. each plain_word ts)

-- A line ends with 0A hexadecimal, or with the text.
abbrev pub first_line : List ℕ → List ℕ
first_line l = front (λ b. not (b == 0x0A)) l

abbrev pub later_lines : List ℕ → List ℕ
later_lines l = tail (behind (λ b. not (b == 0x0A)) l)

-- The command is what stands before the first space; its arguments stand behind.
abbrev pub command_word : List ℕ → List ℕ
command_word l = front (λ b. not (is_space b)) l

abbrev pub arguments_of : List ℕ → List ℕ
arguments_of l = behind (λ b. not (is_space b)) l

-- A line is skipped when it is empty, holds only spaces, or begins with #.
abbrev pub is_comment : List ℕ → Bool
is_comment [] = false
is_comment (b ∷ l) = b == 0x23

abbrev pub is_skipped : List ℕ → Bool
is_skipped l = is_comment l || every is_space l
