-- What the parser answers, of the place where it stands before and after.
use Rattle.std.specs.Prelude.{◌≡◌, ℕ, ◌<◌, ◌≤◌, Bool, ◌⊎◌, List, ◌∷◌, [], length, Some, Ok, Err, Option, Result}
use Rattle.model.specs.Faults.{fault}
use Rattle.cells.specs.Numbered.{told}
use Rattle.cells.specs.declared.faults.Fault.{Fault}
use Rattle.cells.specs.declared.faults.Refusal.{Refusal}
use Rattle.cells.specs.declared.faults.Refusal.TheVariants as refusal
use Rattle.grammar.specs.Signs as grammar
use Rattle.grammar.specs.Phrases.{Placed}
use Rattle.grammar.specs.Reading.{Want, more_steps}
use Rattle.conditions.specs.declared.trees.Formula.{Formula}
use Rattle.phrases.specs.Written.{ByWord}
use Rattle.phrases.specs.declared.steps.Placed as program
use Rattle.phrases.specs.declared.steps.Step.{Step}
use Rattle.signs.specs.Reached.{First, signs_at}
use Rattle.signs.specs.Spoken.{said}
use Rattle.signs.specs.declared.sign.Sign.{Sign}
use Rattle.signs.specs.declared.sign.Token.{Token}
use Rattle.reader.specs.Judging.{ended}
use Rattle.reader.specs.Saying as saying
use Rattle.reader.specs.Saying.{Next, Said, from, on_test}
use Rattle.reader.specs.Stepping.{Built, Further, Stepped}
use Rattle.reader.specs.declared.parser.Parser.{Parser}

-- a parser begins at the first sign of a text that is not too long
abbrev pub Begins : List ℕ → Result Parser Refusal → Type 0
Begins b (Ok p) = (p.reader.text.now ≡ b) × (p.reader.at ≡ 0) × (length b ≤ 256)
Begins b (Err (refusal.Fault f)) = (256 < length b) × (Some (told f) ≡ fault 3 0 256)
Begins b (Err refusal.Memory) = ⊥

-- The same text, at a place no earlier. It relates two parsers, as no fact of a type can, and is a clause apart in each
-- contract, since the measure of the recursion stands on it.
pub record Onward (p q : Parser) : Type 0 where
  pub same : q.reader.text ≡ p.reader.text
  pub after : p.reader.at ≤ q.reader.at

-- the next sign is passed, or the text ends
abbrev pub Wanted : Parser → Result Token Refusal → Parser → Type 0
Wanted p (Ok t) q = First p.reader.text.now p.reader.at t × (q.reader.at ≡ t.end)
Wanted p (Err (refusal.Fault f)) q = (signs_at p.reader.text.now p.reader.at ≡ []) × (told f ≡ ended p.reader.text.now) × (q.reader.at ≡ p.reader.at)
Wanted p (Err refusal.Memory) q = ⊥

-- the next sign is passed, and what it is judged to be is the answer
pub record Judges {T : Type 0} (Post : Token → Result T Refusal → Type 0) (p : Parser) (r : Result T Refusal) (q : Parser) : Type 0 where
  pub token : Token
  pub first : First p.reader.text.now p.reader.at token
  pub passed : q.reader.at ≡ token.end
  pub judged : Post token r

-- the text ends where a sign is wanted, which is a fault
pub record Lacks {T : Type 0} (p : Parser) (r : Result T Refusal) (q : Parser) : Type 0 where
  pub fault : Fault
  pub none : signs_at p.reader.text.now p.reader.at ≡ []
  pub refused : r ≡ Err (refusal.Fault fault)
  pub is : told fault ≡ ended p.reader.text.now
  pub stays : q.reader.at ≡ p.reader.at

-- Post relates a sign and what it is judged to be.
abbrev pub Asked : {T : Type 0} → (Token → Result T Refusal → Type 0) → Parser → Result T Refusal → Parser → Type 0
Asked Post p r q = Judges Post p r q ⊎ Lacks p r q

-- Each call answers whether the sign is of the kind. Post relates what a call is given and what it answers.
abbrev pub Tells : (grammar.Sign → Bool) → (Sign → Bool → Type 0) → Type 0
Tells kind Post = (s : Sign) (r : Bool) → Post s r → r ≡ kind (said s)

-- the next sign has to be of the kind
abbrev pub Expects : (grammar.Sign → Bool) → Parser → Result (Unit {0}) Refusal → Parser → Type 0
Expects kind p r q = Next (on_test kind) (λ u. u) p.reader.text.now p.reader.at r q.reader.at

-- a phrase is read, where W is wanted
abbrev pub Reads : (List Want → List Want) → Parser → Result (Formula ByWord) Refusal → Parser → Type 0
Reads W p r q = Said (λ K. from p.reader.text.now p.reader.at (W K)) p.reader.text.now r q.reader.at

-- a step is read, where W is wanted of a step that begins at a place
abbrev pub ReadsStep : (ℕ → List Want → List Want) → Parser → Result Step Refusal → Parser → Type 0
ReadsStep W p r q = Stepped (λ n K. from p.reader.text.now p.reader.at (W n K)) p.reader.text.now r q.reader.at

-- steps are read and added to S, which makes T, where W is wanted
abbrev pub Builds : (List Want → List Want) → Parser → List Placed → List Placed → Result (Unit {0}) Refusal → Parser → Type 0
Builds W p S T r q = Built (λ K. from p.reader.text.now p.reader.at (W K)) p.reader.text.now S T r q.reader.at

-- one further step is read, if there is one, with d brackets and nots that may still be opened
abbrev pub Continues : ℕ → Parser → List Placed → List Placed → Result (Option program.Placed) Refusal → Parser → Type 0
Continues d p S T r q = Further (λ K. more_steps d ∷ K) p.reader.text.now p.reader.at S T r q.reader.at

-- no sign may follow
abbrev pub Ends : Parser → Result (Unit {0}) Refusal → Type 0
Ends p r = saying.Ends p.reader.text.now p.reader.at r
