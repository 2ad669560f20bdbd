-- The parts of a condition, in the grammar's words.
use Rattle.std.specs.Prelude.{◌≡◌, ℕ, ◌⊎◌, List, [], ◌∷◌}
use Rattle.grammar.specs.Signs.{Token, at, key, AND}
use Rattle.grammar.specs.Phrases.{Phrase, either, parts}
use Rattle.grammar.specs.Grammar.{Says, condition, conj, neg}

-- the signs s are neg { and neg }, with what each neg says, and then r
pub data Negs : ℕ → List Token → List Token → List Phrase → Type 0 where
  last_neg : {d : ℕ} {s r : List Token} {k : Phrase} → Says neg d s r k → Negs d s r (k ∷ [])
  neg_and : {d p : ℕ} {s m r : List Token} {k : Phrase} {ks : List Phrase} → Says neg d s (at p (key AND) ∷ m) k → Negs d m r ks → Negs d s r (k ∷ ks)

-- The parts of a conj are what its negs say. A condition is a conj, or has an `or` at its top and is its only part.
pub record PartsRule : Type 0 where
  pub joined : (d : ℕ) (s r : List Token) (ks : List Phrase) → Negs d s r ks → (k : Phrase) × (Says conj d s r k × (parts k ≡ ks))
  pub parted : (d : ℕ) (s r : List Token) (k : Phrase) → Says conj d s r k → Negs d s r (parts k)
  pub whole :
      (d : ℕ) (s r : List Token) (k : Phrase) →
      Says condition d s r k → Says conj d s r k ⊎ ((i : Phrase) × ((j : Phrase) × ((k ≡ either i j) × (parts k ≡ k ∷ []))))
