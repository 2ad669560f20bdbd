-- The signs of a text from a place on.
use Rattle.std.specs.Prelude.{◌≡◌, ℕ, ◌<◌, ◌≤◌, Bool, true, false, List, [], ◌∷◌, length, drop, Some, None, Option, slice_index}
use Rattle.std.specs.Borrow.{Bor}
use Rattle.grammar.specs.Signs as grammar
use Rattle.grammar.specs.Signs.{at, signs_from}
use Rattle.signs.specs.Spoken.{said}
use Rattle.signs.specs.declared.sign.Token.{Token}

-- the byte before a place, and 0 before the first
abbrev pub before : List ℕ → ℕ → ℕ
before b a = slice_index (0 ∷ b) a

abbrev pub signs_at : List ℕ → ℕ → List grammar.Token
signs_at b a = signs_from a (before b a) 0 (drop a b)

abbrev pub token : Token → grammar.Token
token t = at t.place (said t.sign)

-- the first sign from a place on, with what stands behind it
pub record First (b : List ℕ) (a : ℕ) (t : Token) : Type 0 where
  pub first : signs_at b a ≡ token t ∷ signs_at b t.end
  pub onward : a < t.end
  pub inside : t.end ≤ length b

abbrev pub Next : List ℕ → ℕ → Option Token → Type 0
Next b a None = signs_at b a ≡ []
Next b a (Some t) = First b a t

-- the first sign is passed, and z is the place then
abbrev pub Passed : List ℕ → ℕ → Option Token → ℕ → Type 0
Passed b a None z = (signs_at b a ≡ []) × (z ≡ a)
Passed b a (Some t) z = First b a t × (z ≡ t.end)

-- no sign that passes the test comes first
abbrev pub Lacking : (grammar.Sign → Bool) → List grammar.Token → Type 0
Lacking f [] = Unit {0}
Lacking f (t ∷ l) = f t.sign ≡ false

-- a sign that passes the test comes first, at the place p
pub record Found (f : grammar.Sign → Bool) (b : List ℕ) (a p z : ℕ) : Type 0 where
  pub sign : grammar.Sign
  pub first : signs_at b a ≡ at p sign ∷ signs_at b z
  pub is : f sign ≡ true
  pub onward : a < z

-- the first sign is passed exactly if it passes the test
abbrev pub Taken : (grammar.Sign → Bool) → List ℕ → ℕ → Option ℕ → ℕ → Type 0
Taken f b a None z = Lacking f (signs_at b a) × (z ≡ a)
Taken f b a (Some p) z = Found f b a p z

-- Each call answers whether the sign is of the kind. Post relates what a call is given and what it answers.
abbrev pub Tells : (grammar.Sign → Bool) → (Bor Token → Bool → Type 0) → Type 0
Tells kind Post = (t : Bor Token) (r : Bool) → Post t r → r ≡ kind (said t.now.sign)
