-- Texts as a cursor reads them, and refusals. Assumes nothing.
use Rattle.std.proofs.Common.{◌≡◌, ℕ, ◌≤◌, Bool, true, false, cond, List, [], ◌∷◌, length, take, drop, Err, Result, sym, refl, ap, ◌∙◌, subst, ap₂}
use mathlib.Core.Bool.{false≢true}
use Rattle.std.proofs.lemmas.Bool.{le-leb}
use Rattle.model.specs.Values.{Value, text}
use Rattle.model.specs.Sorts.{texts, is_text, of_kind}
use Rattle.model.specs.Banks.{Read, found, bad, read_cell}
use Rattle.cells.specs.Held.{is_utf8, offered}
use Rattle.cells.specs.Numbered.{number}
use Rattle.cells.specs.declared.faults.Refusal.{Refusal}
use Rattle.cells.specs.declared.faults.Refusal.TheVariants as refusal
use Rattle.banks.specs.declared.cursor.Cursor.{Cursor}
use Rattle.banks.specs.Fields.{Refuses, Reads}

-- an answer that is passed on, of a method that began later
pub answered : {A B : Type 0} (f : A → B) (size size' kind kind' : ℕ) (after : Cursor) (o o' : Read B) (r : Result A Refusal) → Reads f size' kind' after o r → size' ≡ size → kind' ≡ kind → o' ≡ o → Reads f size kind after o' r
answered f size size' kind kind' after o o' r h s k e = subst (λ n. Reads f n kind after o' r) s (subst (λ n. Reads f size' n after o' r) k (subst (λ x. Reads f size' kind' after x r) (sym e) h))

-- a refusal that is passed on
carried : {B B' : Type 0} (kind kind' : ℕ) (o : Read B) (o' : Read B') (e : Refusal) → Refuses kind o e → ((n p : ℕ) → o ≡ bad n p → o' ≡ bad n p) → kind ≡ kind' → Refuses kind' o' e
carried kind kind' o o' (refusal.Fault e) h b k = (b (number e.cause) e.place h.0, h.1 ∙ k)
carried kind kind' o o' refusal.Memory h b k = tt

pub passed_on : {B A' B' : Type 0} (g : A' → B') (kind size' kind' : ℕ) (after' : Cursor) (o : Read B) (o' : Read B') (e : Refusal) (r : Result A' Refusal) → Refuses kind o e → ((n p : ℕ) → o ≡ bad n p → o' ≡ bad n p) → kind ≡ kind' → r ≡ Err e → Reads g size' kind' after' o' r
passed_on g kind size' kind' after' o o' e r h b k q = subst (Reads g size' kind' after' o') (sym q) (carried kind kind' o o' e h b k)

offered_is : (s : List ℕ) (u : Bool) → is_text s ≡ true → of_kind texts (cond u (text s) (text [])) ≡ of_kind texts (text s) → cond u (text s) (text []) ≡ text s
offered_is s true e k = refl
offered_is s false e k = absurd (false≢true (k ∙ e))

pub text_found : (size n : ℕ) (r s rest : List ℕ) → n ≤ length r → s ≡ take n r → rest ≡ drop n r → is_text s ≡ true → (v : Value) → v ≡ offered s → of_kind texts v ≡ of_kind texts (text s) → read_cell size texts (n ∷ r) ≡ found v rest
text_found size n r s rest l p q e v o k =
    let w : v ≡ text s = o ∙ offered_is s (is_utf8 s) e (subst (λ x. of_kind texts x ≡ of_kind texts (text s)) o k) in
    let t : is_text (take n r) ≡ true = subst (λ x. is_text x ≡ true) p e in
    rw (le-leb n (length r) l, t) (ap₂ found (sym (w ∙ ap text p)) (sym q))
