-- A table looked for by its name.
use Rattle.std.proofs.Common.{◌≡◌, ℕ, suc, ◌+◌, ◌<◌, ◌≤◌, Bool, true, false, not, ltb, List, [], ◌∷◌, map, length, Some, None, Option, sym, refl, ap, ◌∙◌, subst, arith}
use Rattle.std.specs.List.{position, position_or_len}
use Rattle.std.proofs.lemmas.Bool.{cond-true, cond-false, cond_both, ltb-true, ltb-false}
use Rattle.cells.specs.Worded.{letters}
use Rattle.session.specs.Callers.{names, stored, is_named, named, Placed}
use Rattle.session.specs.declared.tables.Table.{Table}

-- the names that are in use
pub names_are : (ts : List Table) → map (λ t. letters t.name) ts ≡ names (map stored ts)
names_are [] = refl
names_are (t ∷ ts) = ap (λ l. letters t.name ∷ l) (names_are ts)

module _ (n : List ℕ) where
  abbrev has_it : Table → Bool
  has_it t = is_named n (stored t)

  abbrev place : List Table → ℕ
  place ts = position_or_len has_it ts

  here : (t : Table) (ts : List Table) → has_it t ≡ true → place (t ∷ ts) ≡ 0
  here t ts e = cond-false (not (has_it t)) _ _ (ap not e)

  further : (t : Table) (ts : List Table) → has_it t ≡ false → place (t ∷ ts) ≡ suc (place ts)
  further t ts e = cond-true (not (has_it t)) (1 + place ts) 0 (ap not e) ∙ omega arith

  nowhere : (ts : List Table) → length ts ≤ place ts → named n ts ≡ None
  nowhere [] le = refl
  nowhere (t ∷ ts) le = step (has_it t) refl (λ k. nowhere ts k)
    where
      step : (b : Bool) → has_it t ≡ b → (length ts ≤ place ts → named n ts ≡ None) → named n (t ∷ ts) ≡ None
      step true e rest = absurd (omega (arith, le, here t ts e))
      step false e rest = cond-false (has_it t) _ _ e ∙ rest (omega (arith, le, further t ts e))

  somewhere : (ts : List Table) → place ts < length ts → Placed ts n (Some (place ts))
  somewhere [] lt = absurd (omega arith)
  somewhere (t ∷ ts) lt = step (has_it t) refl (λ k. somewhere ts k)
    where
      step : (b : Bool) → has_it t ≡ b → (place ts < length ts → Placed ts n (Some (place ts))) → Placed (t ∷ ts) n (Some (place (t ∷ ts)))
      step true e rest = subst (λ i. Placed (t ∷ ts) n (Some i)) (sym (here t ts e)) (omega arith, λ d. cond-true (has_it t) _ _ e, λ d R. cond-true (has_it t) _ _ e)
      step false e rest =
          let found = rest (omega (arith, lt, further t ts e)) in
          subst (λ i. Placed (t ∷ ts) n (Some i)) (sym (further t ts e))
          (omega (arith, found.0), λ d. cond-false (has_it t) _ _ e ∙ found.1 d, λ d R. cond-false (has_it t) _ _ e ∙ ap (λ l. stored t ∷ l) (found.2 d R))

  pub placed : (ts : List Table) (o : Option ℕ) → o ≡ position has_it ts → Placed ts n o
  placed ts o e =
      subst (Placed ts n) (sym e)
      (cond_both (ltb (place ts) (length ts)) (Some (place ts)) None (Placed ts n) (λ k. somewhere ts (ltb-true (place ts) (length ts) k)) (λ k. nowhere ts (ltb-false (place ts) (length ts) k)))
