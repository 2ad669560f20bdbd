-- Which fault a text is refused with, and where.
use Rattle.std.specs.Prelude.{◌≡◌, ℕ, ◌<◌, ◌≤◌, ◌↔◌, List, [], ◌∷◌, ◌++◌, length, Some, Option}
use Rattle.model.specs.Faults.{Fault}
use Rattle.grammar.specs.Signs.{Sign, word, number, quoted, broken, Token, at, signs}
use Rattle.grammar.specs.Phrases.{Phrase, Placed}
use Rattle.grammar.specs.Grammar.{Says, condition, Defines, definition}
use Rattle.grammar.specs.Reading.{condition_fault, definition_fault}

pub data Kind : Type 0 where
  conditions definitions : Kind

-- the signs are a whole condition, or definition, of depth d
abbrev pub Sentence : Kind → ℕ → List Token → Type 0
Sentence conditions d s = (k : Phrase) × Says condition d s [] k
Sentence definitions d s = (S : List Placed) × Defines definition d s [] S

-- some condition, or definition, of depth d begins with the signs
abbrev pub Begins : Kind → ℕ → List Token → Type 0
Begins g d s = (u : List Token) × Sentence g d (s ++ u)

abbrev pub fault_of : Kind → List ℕ → Option Fault
fault_of conditions b = condition_fault b
fault_of definitions b = definition_fault b

-- both words, both numbers, both texts, or the same
pub data Alike : Sign → Sign → Type 0 where
  words : {w v : List ℕ} → Alike (word w) (word v)
  numbers : {b c : List ℕ} → Alike (number b) (number c)
  texts : {b c : List ℕ} → Alike (quoted b) (quoted c)
  same : {s : Sign} → Alike s s

-- what a sign may be meant as: one that is alike; and a broken quote, a text
pub data Meant : Sign → Sign → Type 0 where
  alike : {s x : Sign} → Alike s x → Meant s x
  mended : {q : ℕ} {c : List ℕ} → Meant (broken q) (quoted c)

-- The sign t after the signs l is at fault in one of four ways. The grammar lacks it: nothing that it may be meant as can come.
pub record Lacking (g : Kind) (l : List Token) (t : Token) : Type 0 where
  pub before : Begins g 8 l
  pub none : (x : Token) → Meant t.sign x.sign → (d : ℕ) → Begins g d (l ++ (x ∷ [])) → ⊥

-- It is a broken quote, where a text can come.
pub record Broken (g : Kind) (l : List Token) (t : Token) (q : ℕ) : Type 0 where
  pub quote : t.sign ≡ broken q
  pub fits : (p : ℕ) × ((c : List ℕ) × Begins g 8 (l ++ (at p (quoted c) ∷ [])))

-- It is a bracket or a not too many.
pub record Deep (g : Kind) (l : List Token) (t : Token) : Type 0 where
  pub before : Begins g 8 l
  pub deeper : (d : ℕ) × Begins g d (l ++ (t ∷ []))
  pub none : Begins g 8 (l ++ (t ∷ [])) → ⊥

-- It is too long a word, too large a number, or a text that no cell holds.
pub record Large (g : Kind) (l : List Token) (t : Token) : Type 0 where
  pub fits : (x : Token) × (Alike t.sign x.sign × Begins g 8 (l ++ (x ∷ [])))
  pub none : (d : ℕ) → Begins g d (l ++ (t ∷ [])) → ⊥

-- a fault of no table
abbrev pub fault_at : ℕ → ℕ → Fault
fault_at n p = record { number = n; kind = 0; place = p }

pub data DueSign (g : Kind) (l : List Token) (t : Token) : Fault → Type 0 where
  lacking : Lacking g l t → DueSign g l t (fault_at 1 t.place)
  broken_quote : {q : ℕ} → Broken g l t q → DueSign g l t (fault_at 1 q)
  too_deep : Deep g l t → DueSign g l t (fault_at 2 t.place)
  too_large : Large g l t → DueSign g l t (fault_at 3 t.place)

-- The text is too long; or it ends where more must come; or one of its signs is at fault.
pub data Due (g : Kind) (b : List ℕ) : Fault → Type 0 where
  too_long : 256 < length b → Due g b (fault_at 3 256)
  ends : length b ≤ 256 → Begins g 8 (signs b) → ((d : ℕ) → Sentence g d (signs b) → ⊥) → Due g b (fault_at 1 (length b))
  at_sign : {f : Fault} → length b ≤ 256 → (l : List Token) (t : Token) (m : List Token) → signs b ≡ l ++ (t ∷ m) → DueSign g l t f → Due g b f

-- A text is refused with a fault exactly when the fault is due.
abbrev pub RefusedExactly : Type 0
RefusedExactly = (g : Kind) (b : List ℕ) (f : Fault) → (fault_of g b ≡ Some f) ↔ Due g b f
