-- Judging a sign by another judge.
use Rattle.std.proofs.Common.{◌≡◌, ℕ, true, List, Err, sym, refl, ap, ◌∙◌, subst, Bor}
use Rattle.std.proofs.lemmas.Bool.{cond-true}
use Rattle.model.specs.Sorts.{is_text}
use Rattle.model.specs.Values.{Value, text}
use Rattle.cells.specs.Held.{offered}
use Rattle.cells.specs.declared.faults.Refusal.{Refusal}
use Rattle.cells.specs.declared.faults.Refusal.TheVariants.{Fault, Memory}
use Rattle.cells.proofs.Texts.{text_utf8, offered_utf8}
use Rattle.grammar.specs.Phrases.{Term, named, given}
use Rattle.grammar.specs.Reading.{Taken, on_word, on_cell, on_operand, stop}
use Rattle.signs.specs.Spoken.{said}
use Rattle.signs.specs.declared.sign.Sign.{Sign}
use Rattle.signs.specs.declared.sign.Sign.TheVariants.{Word, Number, Quoted, Key, Comparing, Opening, Closing, Stray, Broken}
use Rattle.reader.specs.Judging.{Judged}

-- a fault by one judge is one by another who asks the first
pub judged_err : {A A' B B' : Type 0} (J : (A → Taken) → Taken) (J' : (A' → Taken) → Taken) (v : B → A) (v' : B' → A') (g : A → A') → ((k : A' → Taken) → J' k ≡ J (λ a. k (g a))) → (e : Refusal) → Judged J v (Err e) → Judged J' v' (Err e)
judged_err J J' v v' g like (Fault f) h = λ k. like k ∙ h (λ a. k (g a))
judged_err J J' v v' g like Memory h = h

pub operand_word : (p : ℕ) (s : Sign) (x : Bor (List ℕ)) → s ≡ Word x → (k : Term → Taken) → on_operand p (said s) k ≡ on_word p (said s) (λ w. k (named w))
operand_word p s x e k = subst (λ s. on_operand p (said s) k ≡ on_word p (said s) (λ w. k (named w))) (sym e) refl

pub operand_cell : (p : ℕ) (s : Sign) → ((x : Bor (List ℕ)) → s ≡ Word x → ⊥) → (k : Term → Taken) → on_operand p (said s) k ≡ on_cell p (said s) (λ v. k (given v))
operand_cell p (Word x) no_word k = absurd (no_word x refl)
operand_cell p (Number x) no_word k = refl
operand_cell p (Quoted x) no_word k = refl
operand_cell p (Key x) no_word k = refl
operand_cell p (Comparing x) no_word k = refl
operand_cell p Opening no_word k = refl
operand_cell p Closing no_word k = refl
operand_cell p Stray no_word k = refl
operand_cell p (Broken x) no_word k = refl

pub text_cell : (p : ℕ) (s : Sign) (x : Bor (List ℕ)) → s ≡ Quoted x → is_text x.now ≡ true → (k : Value → Taken) → on_cell p (said s) k ≡ k (offered x.now)
text_cell p s x e t k =
    subst (λ s. on_cell p (said s) k ≡ k (offered x.now)) (sym e) (cond-true (is_text x.now) (k (text x.now)) (stop 3 p) t ∙ ap k (sym (offered_utf8 x.now (text_utf8 x.now t))))
