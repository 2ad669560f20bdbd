-- What the readers answer: how reading goes on behind what they have read.
use Rattle.std.specs.Prelude.{◌≡◌, ℕ, Bool, cond, List, [], ◌∷◌, ◌++◌, length, Some, None, Ok, Err, Result}
use Rattle.model.specs.Faults.{Fault, fault}
use Rattle.cells.specs.Numbered.{told}
use Rattle.cells.specs.declared.faults.Refusal.{Refusal}
use Rattle.cells.specs.declared.faults.Refusal.TheVariants as refusal
use Rattle.grammar.specs.Signs.{Sign, Token}
use Rattle.grammar.specs.Phrases as grammar
use Rattle.grammar.specs.Phrases.{compared, negated, bracket, both, either}
use Rattle.grammar.specs.Reading.{Item, leaf, a_not, a_bracket, an_and, an_or, Want, Taken, takes, lacks, at_end, go_on, Read, reads, following, run, steps}
use Rattle.phrases.specs.Written.{ByWord, phrase}
use Rattle.conditions.specs.declared.trees.Formula.{Formula}
use Rattle.signs.specs.Reached.{signs_at}

-- reading a text from the place a, with this wanted
abbrev pub from : List ℕ → ℕ → List Want → Read
from b a K = run (length b) K (signs_at b a)

-- The first sign, where there is one, is judged by J and goes on by k; where there is none, that is a fault.
abbrev pub Awaits : {A : Type 0} → ℕ → List Want → (ℕ → Sign → (A → Taken) → Taken) → (A → Taken) → List Token → Type 0
Awaits e K J k [] = at_end e K ≡ reads [] (fault 1 0 e)
Awaits e K J k (t ∷ l) = takes K t.place t.sign ≡ J t.place t.sign k

-- a sign is taken as a value
abbrev pub Next : {A B : Type 0} → (ℕ → Sign → (A → Taken) → Taken) → (B → A) → List ℕ → ℕ → Result B Refusal → ℕ → Type 0
Next {A = A} J v b a (Ok x) z = (K : List Want) (k : A → Taken) → Awaits (length b) K J k (signs_at b a) → from b a K ≡ go_on (k (v x)) (from b z)
Next {A = A} J v b a (Err (refusal.Fault f)) z = (K : List Want) (k : A → Taken) → Awaits (length b) K J k (signs_at b a) → from b a K ≡ reads [] (Some (told f))
Next J v b a (Err refusal.Memory) z = ⊥

-- the items of a condition
abbrev pub postfix : grammar.Phrase → List Item
postfix (compared w c t) = leaf w c t ∷ []
postfix (negated k) = postfix k ++ (a_not ∷ [])
postfix (bracket k) = postfix k ++ (a_bracket ∷ [])
postfix (both k l) = postfix k ++ (postfix l ++ (an_and ∷ []))
postfix (either k l) = postfix k ++ (postfix l ++ (an_or ∷ []))

-- Reading stops with a fault, whatever is wanted later, and completes no step before.
pub record Stops (start : List Want → Read) (f : Fault) : Type 0 where
  pub items : List Item
  pub quiet : (S : List grammar.Phrase) → steps items S ≡ []
  pub stops : (K : List Want) → start K ≡ reads items (Some f)

-- a phrase is read up to the place z, from where reading goes on
abbrev pub Said : (List Want → Read) → List ℕ → Result (Formula ByWord) Refusal → ℕ → Type 0
Said start b (Ok t) z = (K : List Want) → start K ≡ following (postfix (phrase t)) (from b z K)
Said start b (Err (refusal.Fault f)) z = Stops start (told f)
Said start b (Err refusal.Memory) z = Unit {0}

-- the judges of a sign that has to be this
abbrev pub on_test : (Sign → Bool) → ℕ → Sign → (Unit {0} → Taken) → Taken
on_test f p s k = cond (f s) (k tt) (lacks p)

-- the text ends, or a sign follows that the grammar lacks
abbrev pub Ends : List ℕ → ℕ → Result (Unit {0}) Refusal → Type 0
Ends b a (Ok u) = from b a [] ≡ reads [] None
Ends b a (Err (refusal.Fault f)) = from b a [] ≡ reads [] (Some (told f))
Ends b a (Err refusal.Memory) = ⊥
