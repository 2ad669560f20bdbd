-- What it says of a sign that it is taken.
use Rattle.std.proofs.Common.{◌≡◌, ℕ, zero, suc, Bool, true, false, cond, leb, ◌⊎◌, List, length, get_or, sym, refl, ap, ◌∙◌, inl, inr, eqb-true, leb-true}
use mathlib.Core.Bool.{false≢true}
use Rattle.model.specs.Values.{Value, num, text}
use Rattle.model.specs.Sorts.{greatest, is_text}
use Rattle.model.specs.Conditions.{Comparison}
use Rattle.grammar.specs.Signs.{Sign, word, number, quoted, key, comparing, opening, closing, stray, broken, Keyword, AND, AS, DEFAULT, DROP, JOIN, NOT, OR, RENAME, SELECT, all_keywords}
use Rattle.grammar.specs.Phrases.{Term, named, given}
use Rattle.grammar.specs.Grammar.{Short, Cell, a_number, a_text, Operand, a_word, a_cell}
use Rattle.grammar.specs.Reading.{Want, Taken, goes, stops, stop, on_word, on_cell, on_operand, on_comparing, index, is_key, is_opening, is_closing, deeper}

-- taken so that what is wanted then has P
abbrev pub Then : (List Want → Type 0) → Taken → Type 0
Then P (goes l K) = P K
Then P (stops l f) = ⊥

indexed : (k : Keyword) → get_or all_keywords (index k) AND ≡ k
indexed AND = refl
indexed AS = refl
indexed DEFAULT = refl
indexed DROP = refl
indexed JOIN = refl
indexed NOT = refl
indexed OR = refl
indexed RENAME = refl
indexed SELECT = refl

pub key_is : (k : Keyword) (s : Sign) → is_key k s ≡ true → s ≡ key k
key_is k (word w) e = absurd (false≢true e)
key_is k (number b) e = absurd (false≢true e)
key_is k (quoted b) e = absurd (false≢true e)
key_is k (key j) e = ap key (sym (indexed j) ∙ ap (λ n. get_or all_keywords n AND) (sym (eqb-true (index k) (index j) e)) ∙ indexed k)
key_is k (comparing c) e = absurd (false≢true e)
key_is k opening e = absurd (false≢true e)
key_is k closing e = absurd (false≢true e)
key_is k stray e = absurd (false≢true e)
key_is k (broken q) e = absurd (false≢true e)

pub opening_is : (s : Sign) → is_opening s ≡ true → s ≡ opening
opening_is (word w) e = absurd (false≢true e)
opening_is (number b) e = absurd (false≢true e)
opening_is (quoted b) e = absurd (false≢true e)
opening_is (key j) e = absurd (false≢true e)
opening_is (comparing c) e = absurd (false≢true e)
opening_is opening e = refl
opening_is closing e = absurd (false≢true e)
opening_is stray e = absurd (false≢true e)
opening_is (broken q) e = absurd (false≢true e)

pub closing_is : (s : Sign) → is_closing s ≡ true → s ≡ closing
closing_is (word w) e = absurd (false≢true e)
closing_is (number b) e = absurd (false≢true e)
closing_is (quoted b) e = absurd (false≢true e)
closing_is (key j) e = absurd (false≢true e)
closing_is (comparing c) e = absurd (false≢true e)
closing_is opening e = absurd (false≢true e)
closing_is closing e = refl
closing_is stray e = absurd (false≢true e)
closing_is (broken q) e = absurd (false≢true e)

module _ (P : List Want → Type 0) where
  pub of_cond : (b : Bool) (x y : Taken) → Then P (cond b x y) → ((b ≡ true) × Then P x) ⊎ Then P y
  of_cond true x y h = inl (refl, h)
  of_cond false x y h = inr h

  pub of_deeper : (p d : ℕ) (k : ℕ → Taken) → Then P (deeper p d k) → (e : ℕ) × (d ≡ suc e) × Then P (k e)
  of_deeper p zero k h = absurd h
  of_deeper p (suc d) k h = (d, refl, h)

  of_test : (b : Bool) (p : ℕ) (x : Taken) → Then P (cond b x (stop 3 p)) → (b ≡ true) × Then P x
  of_test true p x h = (refl, h)
  of_test false p x h = absurd h

  pub of_word : (p : ℕ) (s : Sign) (k : List ℕ → Taken) → Then P (on_word p s k) → (w : List ℕ) × (s ≡ word w) × Short w × Then P (k w)
  of_word p (word w) k h = let c = of_test (leb (length w) 12) p (k w) h in (w, refl, leb-true (length w) 12 c.0, c.1)
  of_word p (number b) k h = absurd h
  of_word p (quoted b) k h = absurd h
  of_word p (key j) k h = absurd h
  of_word p (comparing c) k h = absurd h
  of_word p opening k h = absurd h
  of_word p closing k h = absurd h
  of_word p stray k h = absurd h
  of_word p (broken q) k h = absurd h

  pub of_cell : (p : ℕ) (s : Sign) (k : Value → Taken) → Then P (on_cell p s k) → (v : Value) × Cell s v × Then P (k v)
  of_cell p (word w) k h = absurd h
  of_cell p (number b) k h = let c = of_test _ p _ h in (num _, a_number (leb-true _ greatest c.0), c.1)
  of_cell p (quoted b) k h = let c = of_test (is_text b) p (k (text b)) h in (text b, a_text c.0, c.1)
  of_cell p (key j) k h = absurd h
  of_cell p (comparing c) k h = absurd h
  of_cell p opening k h = absurd h
  of_cell p closing k h = absurd h
  of_cell p stray k h = absurd h
  of_cell p (broken q) k h = absurd h

  pub of_operand : (p : ℕ) (s : Sign) (k : Term → Taken) → Then P (on_operand p s k) → (t : Term) × Operand s t × Then P (k t)
  of_operand p (word w) k h = let c = of_test (leb (length w) 12) p (k (named w)) h in (named w, a_word (leb-true (length w) 12 c.0), c.1)
  of_operand p (number b) k h = let c = of_cell p (number b) (λ v. k (given v)) h in (given c.0, a_cell c.1, c.2)
  of_operand p (quoted b) k h = let c = of_cell p (quoted b) (λ v. k (given v)) h in (given c.0, a_cell c.1, c.2)
  of_operand p (key j) k h = absurd h
  of_operand p (comparing c) k h = absurd h
  of_operand p opening k h = absurd h
  of_operand p closing k h = absurd h
  of_operand p stray k h = absurd h
  of_operand p (broken q) k h = absurd h

  pub of_comparing : (p : ℕ) (s : Sign) (k : Comparison → Taken) → Then P (on_comparing p s k) → (c : Comparison) × (s ≡ comparing c) × Then P (k c)
  of_comparing p (word w) k h = absurd h
  of_comparing p (number b) k h = absurd h
  of_comparing p (quoted b) k h = absurd h
  of_comparing p (key j) k h = absurd h
  of_comparing p (comparing c) k h = (c, refl, h)
  of_comparing p opening k h = absurd h
  of_comparing p closing k h = absurd h
  of_comparing p stray k h = absurd h
  of_comparing p (broken q) k h = absurd h
