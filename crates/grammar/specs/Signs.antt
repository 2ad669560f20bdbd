-- The signs of a text, each with its place: the number of bytes before it.
use Rattle.std.specs.Prelude.{ℕ, zero, suc, ◌+◌, ◌-◌, ◌*◌, Bool, false, cond, ◌&&◌, ◌||◌, List, [], ◌∷◌, length, drop, Some, None, codes, Option, ◌==◌, nat_le}
use Rattle.model.specs.Values as values
use Rattle.model.specs.Values.{find, same_bytes}
use Rattle.model.specs.Words.{is_letter}
use Rattle.model.specs.Sorts.{is_text_byte}
use Rattle.model.specs.Conditions.{Comparison, equals, differs, less, at_most, greater, at_least}

pub data Keyword : Type 0 where
  AND AS DEFAULT DROP JOIN NOT OR RENAME SELECT : Keyword

abbrev pub spelling : Keyword → List ℕ
spelling AND = codes "and"
spelling AS = codes "as"
spelling DEFAULT = codes "default"
spelling DROP = codes "drop"
spelling JOIN = codes "join"
spelling NOT = codes "not"
spelling OR = codes "or"
spelling RENAME = codes "rename"
spelling SELECT = codes "select"

abbrev pub all_keywords : List Keyword
all_keywords = AND ∷ AS ∷ DEFAULT ∷ DROP ∷ JOIN ∷ NOT ∷ OR ∷ RENAME ∷ SELECT ∷ []

-- A word is a run of letters that is no keyword, a number a run of digits. A text stands between quotes; a quote is broken where
-- it holds a byte that no text may hold, or is never closed, and has then the place of that byte, or its own. A stray sign is one
-- that the grammar has nowhere: a byte that begins no other, or a word or a number that touches the one before it.
pub data Sign : Type 0 where
  word number quoted : List ℕ → Sign
  key : Keyword → Sign
  comparing : Comparison → Sign
  opening closing stray : Sign
  broken : ℕ → Sign

pub record Token : Type 0 where
  pub sign : Sign
  pub place : ℕ

abbrev pub at : ℕ → Sign → Token
at p s = record { sign = s; place = p }

-- the longest front whose members all pass a test
abbrev pub front : {A : Type 0} → (A → Bool) → List A → List A
front = values.front

abbrev pub is_digit : ℕ → Bool
is_digit b = nat_le 0x30 b && nat_le b 0x39

-- the number that digits write, after those of n
abbrev pub decimal_after : ℕ → List ℕ → ℕ
decimal_after n [] = n
decimal_after n (b ∷ r) = decimal_after (n * 10 + (b - 0x30)) r

abbrev pub decimal : List ℕ → ℕ
decimal b = decimal_after 0 b

-- words and numbers may not touch
abbrev pub touches : ℕ → Bool
touches b = is_letter b || is_digit b

abbrev pub known_word : List ℕ → Option Keyword → Sign
known_word w None = word w
known_word w (Some k) = key k

abbrev pub word_sign : List ℕ → Sign
word_sign w = known_word w (find (λ k. same_bytes w (spelling k)) all_keywords)

-- a quote at p that holds b up to the bytes r
abbrev pub quote_end : ℕ → List ℕ → List ℕ → Sign
quote_end p b [] = broken p
quote_end p b (x ∷ r) = cond (x == 0x22) (quoted b) (broken (p + 1 + length b))

abbrev pub held : List ℕ → List ℕ
held r = front is_text_byte r

abbrev pub quote_sign : ℕ → List ℕ → Sign
quote_sign p r = quote_end p (held r) (drop (length (held r)) r)

-- A sign, with how many bytes it takes after its first.
pub record Piece : Type 0 where
  pub sign : Sign
  pub more : ℕ

abbrev pub piece : Sign → ℕ → Piece
piece s n = record { sign = s; more = n }

-- how many bytes a quote takes after itself
abbrev pub quote_more : Sign → ℕ
quote_more (quoted b) = length b + 1
quote_more (word b) = 0
quote_more (number b) = 0
quote_more (key k) = 0
quote_more (comparing c) = 0
quote_more opening = 0
quote_more closing = 0
quote_more stray = 0
quote_more (broken q) = 0

abbrev pub quote_piece : Sign → Piece
quote_piece s = piece s (quote_more s)

-- whether an = follows
abbrev pub equals_next : List ℕ → Bool
equals_next [] = false
equals_next (x ∷ r) = x == 0x3D

-- the other signs, ( ) = != < <= > >=, by their first byte and whether an = follows
abbrev pub mark : ℕ → Bool → Piece
mark b e =
    cond (b == 0x28) (piece opening 0)
    (cond (b == 0x29) (piece closing 0)
    (cond (b == 0x3D) (piece (comparing equals) 0)
    (cond (b == 0x21) (cond e (piece (comparing differs) 1) (piece stray 0))
    (cond (b == 0x3C) (cond e (piece (comparing at_most) 1) (piece (comparing less) 0))
    (cond (b == 0x3E) (cond e (piece (comparing at_least) 1) (piece (comparing greater) 0)) (piece stray 0))))))

-- the sign at p that begins with the byte b, before which stands the byte a, and after it r
abbrev pub sign_at : ℕ → ℕ → ℕ → List ℕ → Piece
sign_at p a b r =
    cond (touches b && touches a) (piece stray 0)
    (cond (is_letter b) (piece (word_sign (b ∷ front is_letter r)) (length (front is_letter r)))
    (cond (is_digit b) (piece (number (b ∷ front is_digit r)) (length (front is_digit r)))
    (cond (b == 0x22) (quote_piece (quote_sign p r)) (mark b (equals_next r)))))

-- The signs from the place p on. The byte a stands before it, and the first n bytes still belong to a sign. Spaces belong to none.
abbrev pub signs_from : ℕ → ℕ → ℕ → List ℕ → List Token
signs_from p a n [] = []
signs_from p a (suc n) (b ∷ r) = signs_from (p + 1) b n r
signs_from p a zero (b ∷ r) =
    cond (b == 0x20) (signs_from (p + 1) b 0 r)
    (at p (sign_at p a b r).sign ∷ signs_from (p + 1) b (sign_at p a b r).more r)

abbrev pub signs : List ℕ → List Token
signs b = signs_from 0 0 0 b
