-- The grammar, as a relation between signs and what they say. Braces mean any number of times:
--   condition: conj { or conj }     conj: neg { and neg }     neg: not neg, or ( condition ), or word op operand
--   definition: source { step }     source: word, or ( definition )
--   step: join source; select condition; drop word default cell; rename word as word
-- d is how many brackets and nots may be open at once, those around not counted.
use Rattle.std.specs.Prelude.{◌≡◌, ℕ, suc, ◌≤◌, true, List, [], ◌∷◌, ◌++◌, length}
use Rattle.model.specs.Values.{Value, num, text}
use Rattle.model.specs.Sorts.{is_text, greatest}
use Rattle.model.specs.Conditions.{Comparison}
use Rattle.grammar.specs.Signs.{Sign, word, number, quoted, key, comparing, opening, closing, decimal, Token, at, AND, AS, DEFAULT, DROP, JOIN, NOT, OR, RENAME, SELECT}
use Rattle.grammar.specs.Phrases.{Term, named, given, Phrase, compared, negated, bracket, both, either, source, select, drop, rename, join, Placed, placed}

-- a word has at most 12 letters
abbrev pub Short : List ℕ → Type 0
Short w = length w ≤ 12

-- a cell: a number up to the greatest, or a text of 1 to 16 bytes
pub data Cell : Sign → Value → Type 0 where
  a_number : {b : List ℕ} → decimal b ≤ greatest → Cell (number b) (num (decimal b))
  a_text : {b : List ℕ} → is_text b ≡ true → Cell (quoted b) (text b)

-- an operand: word, number or text
pub data Operand : Sign → Term → Type 0 where
  a_word : {w : List ℕ} → Short w → Operand (word w) (named w)
  a_cell : {s : Sign} {v : Value} → Cell s v → Operand s (given v)

pub data Part : Type 0 where
  condition conj neg : Part

-- the signs s are such a part of the grammar, which says k, and then r
pub data Says : Part → ℕ → List Token → List Token → Phrase → Type 0 where
  comparison : {d p q o : ℕ} {w : List ℕ} {c : Comparison} {x : Sign} {t : Term} {r : List Token} → Short w → Operand x t → Says neg d (at p (word w) ∷ at q (comparing c) ∷ at o x ∷ r) r (compared w c t)
  negation : {d p : ℕ} {s r : List Token} {k : Phrase} → Says neg d s r k → Says neg (suc d) (at p (key NOT) ∷ s) r (negated k)
  brackets : {d p q : ℕ} {s r : List Token} {k : Phrase} → Says condition d s (at q closing ∷ r) k → Says neg (suc d) (at p opening ∷ s) r (bracket k)
  one_neg : {d : ℕ} {s r : List Token} {k : Phrase} → Says neg d s r k → Says conj d s r k
  and_neg : {d p : ℕ} {s m r : List Token} {k l : Phrase} → Says conj d s (at p (key AND) ∷ m) k → Says neg d m r l → Says conj d s r (both k l)
  one_conj : {d : ℕ} {s r : List Token} {k : Phrase} → Says conj d s r k → Says condition d s r k
  or_conj : {d p : ℕ} {s m r : List Token} {k l : Phrase} → Says condition d s (at p (key OR) ∷ m) k → Says conj d m r l → Says condition d s r (either k l)

pub data Piece : Type 0 where
  definition a_source a_step : Piece

-- the signs s are such a piece of the grammar, with these steps, and then r
pub data Defines : Piece → ℕ → List Token → List Token → List Placed → Type 0 where
  table : {d p : ℕ} {w : List ℕ} {r : List Token} → Short w → Defines a_source d (at p (word w) ∷ r) r (placed p (source w) ∷ [])
  nested : {d p q : ℕ} {s r : List Token} {S : List Placed} → Defines definition d s (at q closing ∷ r) S → Defines a_source (suc d) (at p opening ∷ s) r S
  one_source : {d : ℕ} {s r : List Token} {S : List Placed} → Defines a_source d s r S → Defines definition d s r S
  one_step : {d : ℕ} {s m r : List Token} {S T : List Placed} → Defines definition d s m S → Defines a_step d m r T → Defines definition d s r (S ++ T)
  joining : {d p : ℕ} {s r : List Token} {S : List Placed} → Defines a_source d s r S → Defines a_step d (at p (key JOIN) ∷ s) r (S ++ (placed p join ∷ []))
  selecting : {d p : ℕ} {s r : List Token} {k : Phrase} → Says condition d s r k → Defines a_step d (at p (key SELECT) ∷ s) r (placed p (select k) ∷ [])
  dropping : {d p q o t : ℕ} {w : List ℕ} {x : Sign} {v : Value} {r : List Token} → Short w → Cell x v → Defines a_step d (at p (key DROP) ∷ at q (word w) ∷ at o (key DEFAULT) ∷ at t x ∷ r) r (placed p (drop w v) ∷ [])
  renaming : {d p q o t : ℕ} {w v : List ℕ} {r : List Token} → Short w → Short v → Defines a_step d (at p (key RENAME) ∷ at q (word w) ∷ at o (key AS) ∷ at t (word v) ∷ r) r (placed p (rename w v) ∷ [])
