-- What the readers of steps and definitions answer.
use Rattle.std.specs.Prelude.{◌≡◌, ℕ, List, [], ◌∷◌, ◌++◌, Some, None, Ok, Err, Option, Result}
use Rattle.std.specs.Borrow.{Bor}
use Rattle.model.specs.Faults.{Fault}
use Rattle.cells.specs.Numbered.{told}
use Rattle.cells.specs.declared.faults.Refusal.{Refusal}
use Rattle.cells.specs.declared.faults.Refusal.TheVariants as refusal
use Rattle.grammar.specs.Signs.{Sign}
use Rattle.grammar.specs.Phrases.{Phrase, Step, source, select, drop, rename, join, Placed, placed}
use Rattle.grammar.specs.Reading.{Item, a_select, a_step, Want, Taken, Read, reads, following, on_word, steps}
use Rattle.phrases.specs.Written as written
use Rattle.phrases.specs.declared.steps.Placed as program_placed
use Rattle.phrases.specs.declared.steps.Step as program
use Rattle.reader.specs.Saying.{from, postfix, Stops}

-- the items of a step
abbrev pub step_items : ℕ → Step → List Item
step_items p (source w) = a_step (placed p (source w)) ∷ []
step_items p (select k) = postfix k ++ (a_select p ∷ [])
step_items p (drop w v) = a_step (placed p (drop w v)) ∷ []
step_items p (rename w v) = a_step (placed p (rename w v)) ∷ []
step_items p join = a_step (placed p join) ∷ []

abbrev pub all_items : List Placed → List Item
all_items [] = []
all_items (s ∷ S) = step_items s.place s.step ++ all_items S

-- a step is read, wherever it began
abbrev pub Stepped : (ℕ → List Want → Read) → List ℕ → Result program.Step Refusal → ℕ → Type 0
Stepped start b (Ok s) z = (p : ℕ) (K : List Want) → start p K ≡ following (step_items p (written.step s)) (from b z K)
Stepped start b (Err (refusal.Fault f)) z = (p : ℕ) → Stops (start p) (told f)
Stepped start b (Err refusal.Memory) z = Unit {0}

-- steps are read and added to S, which makes T
pub record Adds (start : List Want → Read) (b : List ℕ) (S T : List Placed) (z : ℕ) : Type 0 where
  pub new : List Placed
  pub all : T ≡ S ++ new
  pub goes : (K : List Want) → start K ≡ following (all_items new) (from b z K)

-- steps are read and added, and then reading stops with a fault
pub record StopsAdding (start : List Want → Read) (S T : List Placed) (f : Fault) : Type 0 where
  pub new : List Placed
  pub all : T ≡ S ++ new
  pub items : List Item
  pub quiet : (R : List Phrase) → steps items R ≡ []
  pub stops : (K : List Want) → start K ≡ reads (all_items new ++ items) (Some f)

abbrev pub Built : (List Want → Read) → List ℕ → List Placed → List Placed → Result (Unit {0}) Refusal → ℕ → Type 0
Built start b S T (Ok u) z = Adds start b S T z
Built start b S T (Err (refusal.Fault f)) z = StopsAdding start S T (told f)
Built start b S T (Err refusal.Memory) z = Unit {0}

-- steps are read and added to S, which makes T, before X is wanted
pub record AddsBefore (start : List Want → Read) (b : List ℕ) (X : List Want → List Want) (S T : List Placed) (z : ℕ) : Type 0 where
  pub new : List Placed
  pub all : T ≡ S ++ new
  pub goes : (K : List Want) → start K ≡ following (all_items new) (from b z (X K))

-- Where a further step is wanted by X, one is read, which follows the steps that are added before it; or none is there.
abbrev pub Further : (List Want → List Want) → List ℕ → ℕ → List Placed → List Placed → Result (Option program_placed.Placed) Refusal → ℕ → Type 0
Further X b a S T (Ok (Some x)) z = AddsBefore (λ K. from b a (X K)) b X S (T ++ (written.placed x ∷ [])) z
Further X b a S T (Ok None) z = (T ≡ S) × ((K : List Want) → from b a (X K) ≡ from b z K)
Further X b a S T (Err (refusal.Fault f)) z = StopsAdding (λ K. from b a (X K)) S T (told f)
Further X b a S T (Err refusal.Memory) z = Unit {0}

-- a word with its place
abbrev pub on_table : ℕ → Sign → ((ℕ × List ℕ) → Taken) → Taken
on_table p s k = on_word p s (λ w. k (p, w))

abbrev pub table : (ℕ × Bor (List ℕ)) → ℕ × List ℕ
table t = (t.0, t.1.now)

-- a whole definition: the steps that it adds to S are those that reading gives, and so is its fault
pub record Gives (r : Read) (S T : List Placed) (f : Option Fault) : Type 0 where
  pub new : List Placed
  pub all : T ≡ S ++ new
  pub steps : steps r.items [] ≡ new
  pub fault : r.fault ≡ f

abbrev pub Whole : Read → List Placed → List Placed → Result (Unit {0}) Refusal → Type 0
Whole r S T (Ok u) = Gives r S T None
Whole r S T (Err (refusal.Fault f)) = Gives r S T (Some (told f))
Whole r S T (Err refusal.Memory) = Unit {0}
