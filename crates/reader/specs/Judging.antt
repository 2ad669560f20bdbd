-- How single signs are judged.
use Rattle.std.specs.Prelude.{◌≡◌, ℕ, ◌+◌, ◌-◌, ◌*◌, cond, true, false, List, [], length, Some, None, Ok, Err, Option, Result, nat_le}
use Rattle.std.specs.Borrow.{Bor}
use Rattle.model.specs.Faults.{Fault}
use Rattle.cells.specs.Numbered.{told}
use Rattle.cells.specs.declared.faults.Refusal.{Refusal}
use Rattle.cells.specs.declared.faults.Refusal.TheVariants as refusal
use Rattle.model.specs.Sorts.{greatest}
use Rattle.grammar.specs.Signs.{decimal}
use Rattle.grammar.specs.Reading.{Taken, stops}

-- A sign is taken as a value, or stops reading with a fault. J is how it is judged.
abbrev pub Judged : {A B : Type 0} → ((A → Taken) → Taken) → (B → A) → Result B Refusal → Type 0
Judged {A = A} J v (Ok x) = (k : A → Taken) → J k ≡ k (v x)
Judged {A = A} J v (Err (refusal.Fault f)) = (k : A → Taken) → J k ≡ stops [] (told f)
Judged J v (Err refusal.Memory) = ⊥

abbrev pub spelt : Bor (List ℕ) → List ℕ
spelt w = w.now

-- the fault of a text that ends where a sign is wanted
abbrev pub ended : List ℕ → Fault
ended b = record { number = 1; kind = 0; place = length b }

-- one more digit, unless the number is above the greatest
abbrev pub one_digit : ℕ → ℕ → ℕ
one_digit n d = cond (nat_le n greatest) (n * 10 + (d - 0x30)) n

-- the number that digits write, where it is not above the greatest
abbrev pub Counted : List ℕ → Option ℕ → Type 0
Counted b None = nat_le (decimal b) greatest ≡ false
Counted b (Some n) = (nat_le (decimal b) greatest ≡ true) × (n ≡ decimal b)
