-- What holds of each way in which a sign can be taken holds of what is done with it.
use Rattle.std.proofs.Common.{ℕ, Bool, true, false, cond, leb, List, length}
use Rattle.model.specs.Values.{Value, num, text}
use Rattle.model.specs.Sorts.{is_text}
use Rattle.model.specs.Conditions.{Comparison}
use Rattle.grammar.specs.Signs.{Sign, word, number, quoted, key, comparing, opening, closing, stray, broken}
use Rattle.grammar.specs.Phrases.{Term, named, given}
use Rattle.grammar.specs.Reading.{Taken, stop, on_word, on_cell, on_operand, on_comparing}

pub by_cond : (R : Taken → Taken → Type 0) (b : Bool) (x x' y y' : Taken) → R x x' → R y y' → R (cond b x y) (cond b x' y')
by_cond R true x x' y y' h g = h
by_cond R false x x' y y' h g = g

-- a relation that holds of two equal faults
module _ (R : Taken → Taken → Type 0) (same_stop : (n p : ℕ) → R (stop n p) (stop n p)) (p : ℕ) where
  pub by_word : (s : Sign) (k k' : List ℕ → Taken) → ((w : List ℕ) → R (k w) (k' w)) → R (on_word p s k) (on_word p s k')
  by_word (word w) k k' h = by_cond R (leb (length w) 12) (k w) (k' w) (stop 3 p) (stop 3 p) (h w) (same_stop 3 p)
  by_word (number b) k k' h = same_stop 1 p
  by_word (quoted b) k k' h = same_stop 1 p
  by_word (key j) k k' h = same_stop 1 p
  by_word (comparing c) k k' h = same_stop 1 p
  by_word opening k k' h = same_stop 1 p
  by_word closing k k' h = same_stop 1 p
  by_word stray k k' h = same_stop 1 p
  by_word (broken q) k k' h = same_stop 1 p

  pub by_cell : (s : Sign) (k k' : Value → Taken) → ((v : Value) → R (k v) (k' v)) → R (on_cell p s k) (on_cell p s k')
  by_cell (word w) k k' h = same_stop 1 p
  by_cell (number b) k k' h = by_cond R _ _ _ (stop 3 p) (stop 3 p) (h (num _)) (same_stop 3 p)
  by_cell (quoted b) k k' h = by_cond R (is_text b) (k (text b)) (k' (text b)) (stop 3 p) (stop 3 p) (h (text b)) (same_stop 3 p)
  by_cell (key j) k k' h = same_stop 1 p
  by_cell (comparing c) k k' h = same_stop 1 p
  by_cell opening k k' h = same_stop 1 p
  by_cell closing k k' h = same_stop 1 p
  by_cell stray k k' h = same_stop 1 p
  by_cell (broken q) k k' h = same_stop 1 q

  pub by_operand : (s : Sign) (k k' : Term → Taken) → ((t : Term) → R (k t) (k' t)) → R (on_operand p s k) (on_operand p s k')
  by_operand (word w) k k' h = by_cond R (leb (length w) 12) (k (named w)) (k' (named w)) (stop 3 p) (stop 3 p) (h (named w)) (same_stop 3 p)
  by_operand (number b) k k' h = by_cell (number b) (λ v. k (given v)) (λ v. k' (given v)) (λ v. h (given v))
  by_operand (quoted b) k k' h = by_cell (quoted b) (λ v. k (given v)) (λ v. k' (given v)) (λ v. h (given v))
  by_operand (key j) k k' h = same_stop 1 p
  by_operand (comparing c) k k' h = same_stop 1 p
  by_operand opening k k' h = same_stop 1 p
  by_operand closing k k' h = same_stop 1 p
  by_operand stray k k' h = same_stop 1 p
  by_operand (broken q) k k' h = same_stop 1 q

  pub by_comparing : (s : Sign) (k k' : Comparison → Taken) → ((c : Comparison) → R (k c) (k' c)) → R (on_comparing p s k) (on_comparing p s k')
  by_comparing (word w) k k' h = same_stop 1 p
  by_comparing (number b) k k' h = same_stop 1 p
  by_comparing (quoted b) k k' h = same_stop 1 p
  by_comparing (key j) k k' h = same_stop 1 p
  by_comparing (comparing c) k k' h = h c
  by_comparing opening k k' h = same_stop 1 p
  by_comparing closing k k' h = same_stop 1 p
  by_comparing stray k k' h = same_stop 1 p
  by_comparing (broken q) k k' h = same_stop 1 p
