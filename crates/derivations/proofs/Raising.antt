-- Reading with one more of depth allowed.
use Rattle.std.proofs.Common.{◌≡◌, ℕ, zero, suc, ◌⊎◌, List, [], ◌∷◌, refl, ap, inl, inr}
use Rattle.grammar.specs.Signs.{Sign, AND, AS, DEFAULT, DROP, JOIN, NOT, OR, RENAME, SELECT}
use Rattle.grammar.specs.Phrases.{source, drop, rename, join, placed}
use Rattle.grammar.specs.Reading.{Item, leaf, a_not, a_bracket, an_and, an_or, a_select, a_step, Want, a_neg, more_and, more_or, a_source, more_steps, an_op, an_operand, a_closing, drop_column, rename_column, drop_default, drop_cell, rename_as, rename_word, complete, Taken, goes, stops, after, stop, lacks, is_key, is_opening, is_closing, deeper, a_condition, a_definition, takes, at_end}
use Rattle.derivations.proofs.Along.{by_cond, by_word, by_cell, by_operand, by_comparing}

abbrev up_one : Want → Want
up_one (a_neg d) = a_neg (suc d)
up_one (more_and d) = more_and (suc d)
up_one (more_or d) = more_or (suc d)
up_one (a_source d) = a_source (suc d)
up_one (more_steps d) = more_steps (suc d)
up_one (an_op w) = an_op w
up_one (an_operand w c) = an_operand w c
up_one a_closing = a_closing
up_one (drop_column p) = drop_column p
up_one (rename_column p) = rename_column p
up_one (drop_default p w) = drop_default p w
up_one (drop_cell p w) = drop_cell p w
up_one (rename_as p w) = rename_as p w
up_one (rename_word p w) = rename_word p w
up_one (complete i) = complete i

abbrev pub up : List Want → List Want
up [] = []
up (w ∷ K) = up_one w ∷ up K

-- a sign is taken, whatever is wanted then
abbrev pub Goes : Taken → Type 0
Goes (goes l K) = Unit {0}
Goes (stops l f) = ⊥

-- Y is X with one more of depth: only a fault of depth may go away
abbrev pub Up : Taken → Taken → Type 0
Up (goes l K) y = y ≡ goes l (up K)
Up (stops l f) y = (y ≡ stops l f) ⊎ ((f.number ≡ 2) × Goes y)

same_stop : (n p : ℕ) → Up (stop n p) (stop n p)
same_stop n p = inl refl

pub goes_after : (i : Item) (x : Taken) → Goes x → Goes (after i x)
goes_after i (goes l K) h = h
goes_after i (stops l f) h = h

up_after : (i : Item) (x x' : Taken) → Up x x' → Up (after i x) (after i x')
up_after i (goes l K) x' h = ap (after i) h
up_after i (stops l f) x' (inl h) = inl (ap (after i) h)
up_after i (stops l f) x' (inr h) = inr (h.0, goes_after i x' h.1)

up_deeper : (p d : ℕ) (k k' : ℕ → Taken) → ((e : ℕ) → Up (k e) (k' (suc e))) → Goes (k' zero) → Up (deeper p d k) (deeper p (suc d) k')
up_deeper p zero k k' h g = inr (refl, g)
up_deeper p (suc d) k k' h g = h d

module _ (p : ℕ) where
  pub up_takes : (K : List Want) (s : Sign) → Up (takes K p s) (takes (up K) p s)
  up_takes [] s = same_stop 1 p
  up_takes (a_neg d ∷ K) s =
      by_cond Up (is_key NOT s) _ _ _ _ (up_deeper p d (λ e. goes [] (a_neg e ∷ complete a_not ∷ K)) (λ e. goes [] (a_neg e ∷ complete a_not ∷ up K)) (λ e. refl) tt)
      (by_cond Up (is_opening s) _ _ _ _ (up_deeper p d (λ e. goes [] (a_condition e (a_closing ∷ complete a_bracket ∷ K))) (λ e. goes [] (a_condition e (a_closing ∷ complete a_bracket ∷ up K))) (λ e. refl) tt)
      (by_word Up same_stop p s (λ w. goes [] (an_op w ∷ K)) (λ w. goes [] (an_op w ∷ up K)) (λ w. refl)))
  up_takes (an_op w ∷ K) s = by_comparing Up same_stop p s (λ c. goes [] (an_operand w c ∷ K)) (λ c. goes [] (an_operand w c ∷ up K)) (λ c. refl)
  up_takes (an_operand w c ∷ K) s = by_operand Up same_stop p s (λ x. goes (leaf w c x ∷ []) K) (λ x. goes (leaf w c x ∷ []) (up K)) (λ x. refl)
  up_takes (more_and d ∷ K) s = by_cond Up (is_key AND s) (goes [] (a_neg d ∷ complete an_and ∷ more_and d ∷ K)) _ (takes K p s) _ refl (up_takes K s)
  up_takes (more_or d ∷ K) s = by_cond Up (is_key OR s) (goes [] (a_neg d ∷ more_and d ∷ complete an_or ∷ more_or d ∷ K)) _ (takes K p s) _ refl (up_takes K s)
  up_takes (a_closing ∷ K) s = by_cond Up (is_closing s) (goes [] K) _ (lacks p) (lacks p) refl (same_stop 1 p)
  up_takes (a_source d ∷ K) s =
      by_cond Up (is_opening s) _ _ _ _ (up_deeper p d (λ e. goes [] (a_definition e (a_closing ∷ K))) (λ e. goes [] (a_definition e (a_closing ∷ up K))) (λ e. refl) tt)
      (by_word Up same_stop p s (λ w. goes (a_step (placed p (source w)) ∷ []) K) (λ w. goes (a_step (placed p (source w)) ∷ []) (up K)) (λ w. refl))
  up_takes (more_steps d ∷ K) s =
      by_cond Up (is_key JOIN s) (goes [] (a_source d ∷ complete (a_step (placed p join)) ∷ more_steps d ∷ K)) _ _ _ refl
      (by_cond Up (is_key SELECT s) (goes [] (a_condition d (complete (a_select p) ∷ more_steps d ∷ K))) _ _ _ refl
      (by_cond Up (is_key DROP s) (goes [] (drop_column p ∷ more_steps d ∷ K)) _ _ _ refl
      (by_cond Up (is_key RENAME s) (goes [] (rename_column p ∷ more_steps d ∷ K)) _ _ _ refl (up_takes K s))))
  up_takes (drop_column q ∷ K) s = by_word Up same_stop p s (λ w. goes [] (drop_default q w ∷ K)) (λ w. goes [] (drop_default q w ∷ up K)) (λ w. refl)
  up_takes (drop_default q w ∷ K) s = by_cond Up (is_key DEFAULT s) (goes [] (drop_cell q w ∷ K)) _ (lacks p) (lacks p) refl (same_stop 1 p)
  up_takes (drop_cell q w ∷ K) s = by_cell Up same_stop p s (λ v. goes (a_step (placed q (drop w v)) ∷ []) K) (λ v. goes (a_step (placed q (drop w v)) ∷ []) (up K)) (λ v. refl)
  up_takes (rename_column q ∷ K) s = by_word Up same_stop p s (λ w. goes [] (rename_as q w ∷ K)) (λ w. goes [] (rename_as q w ∷ up K)) (λ w. refl)
  up_takes (rename_as q w ∷ K) s = by_cond Up (is_key AS s) (goes [] (rename_word q w ∷ K)) _ (lacks p) (lacks p) refl (same_stop 1 p)
  up_takes (rename_word q w ∷ K) s = by_word Up same_stop p s (λ v. goes (a_step (placed q (rename w v)) ∷ []) K) (λ v. goes (a_step (placed q (rename w v)) ∷ []) (up K)) (λ v. refl)
  up_takes (complete i ∷ K) s = up_after i (takes K p s) (takes (up K) p s) (up_takes K s)

-- the end of the text is met alike
pub up_end : (e : ℕ) (K : List Want) → (at_end e (up K)).fault ≡ (at_end e K).fault
up_end e [] = refl
up_end e (a_neg d ∷ K) = refl
up_end e (an_op w ∷ K) = refl
up_end e (an_operand w c ∷ K) = refl
up_end e (more_and d ∷ K) = up_end e K
up_end e (more_or d ∷ K) = up_end e K
up_end e (a_closing ∷ K) = refl
up_end e (a_source d ∷ K) = refl
up_end e (more_steps d ∷ K) = up_end e K
up_end e (drop_column q ∷ K) = refl
up_end e (drop_default q w ∷ K) = refl
up_end e (drop_cell q w ∷ K) = refl
up_end e (rename_column q ∷ K) = refl
up_end e (rename_as q w ∷ K) = refl
up_end e (rename_word q w ∷ K) = refl
up_end e (complete i ∷ K) = up_end e K
