-- What is read without fault is derived.
use Rattle.std.proofs.Common.{◌≡◌, ℕ, suc, Bool, true, false, cond, List, [], ◌∷◌, Some, None, Option, sym, refl, subst, inl, inr, arith, lit≤}
use Rattle.model.specs.Values.{Value, num}
use Rattle.model.specs.Conditions.{Comparison, equals}
use Rattle.model.specs.Faults.{Fault}
use Rattle.grammar.specs.Signs.{Sign, word, number, key, comparing, opening, closing, AND, AS, DEFAULT, DROP, JOIN, NOT, OR, RENAME, SELECT, Token, at}
use Rattle.grammar.specs.Phrases.{Term, Phrase, source, drop, rename, join, Placed, placed}
use Rattle.grammar.specs.Grammar.{Short, Cell, a_number, Operand, a_word, Part, condition, conj, neg, Says, comparison, negation, brackets, one_neg, and_neg, one_conj, or_conj, Piece, definition, a_source as the_source, a_step as the_step, Defines, table, nested, one_source, one_step, joining, selecting, dropping, renaming}
use Rattle.grammar.specs.Reading.{Item, leaf, a_not, a_bracket, an_and, an_or, a_select, a_step, Want, a_neg, more_and, more_or, a_source, more_steps, an_op, an_operand, a_closing, drop_column, rename_column, drop_default, drop_cell, rename_as, rename_word, complete, Taken, goes, stops, after, lacks, is_key, is_opening, is_closing, deeper, a_condition, a_definition, take_neg, take_source, take_step, takes, Read, go_on, at_end, run}
use Rattle.derivations.proofs.Taking.{Then, key_is, opening_is, closing_is, of_cond, of_deeper, of_word, of_cell, of_operand, of_comparing}

-- the signs are what is wanted, and no more
pub data Fills : List Want → List Token → Type 0 where
  f_end : Fills [] []
  f_neg : {d : ℕ} {K : List Want} {s r : List Token} {k : Phrase} → Says neg d s r k → Fills K r → Fills (a_neg d ∷ K) s
  f_op : {w : List ℕ} {K : List Want} {q o : ℕ} {c : Comparison} {x : Sign} {t : Term} {r : List Token} → Operand x t → Fills K r → Fills (an_op w ∷ K) (at q (comparing c) ∷ at o x ∷ r)
  f_operand : {w : List ℕ} {c : Comparison} {K : List Want} {o : ℕ} {x : Sign} {t : Term} {r : List Token} → Operand x t → Fills K r → Fills (an_operand w c ∷ K) (at o x ∷ r)
  f_no_and : {d : ℕ} {K : List Want} {s : List Token} → Fills K s → Fills (more_and d ∷ K) s
  f_and : {d : ℕ} {K : List Want} {p : ℕ} {m r : List Token} {k : Phrase} → Says neg d m r k → Fills (more_and d ∷ K) r → Fills (more_and d ∷ K) (at p (key AND) ∷ m)
  f_no_or : {d : ℕ} {K : List Want} {s : List Token} → Fills K s → Fills (more_or d ∷ K) s
  f_or : {d : ℕ} {K : List Want} {p : ℕ} {m r : List Token} {k : Phrase} → Says conj d m r k → Fills (more_or d ∷ K) r → Fills (more_or d ∷ K) (at p (key OR) ∷ m)
  f_closing : {K : List Want} {p : ℕ} {r : List Token} → Fills K r → Fills (a_closing ∷ K) (at p closing ∷ r)
  f_source : {d : ℕ} {K : List Want} {s r : List Token} {S : List Placed} → Defines the_source d s r S → Fills K r → Fills (a_source d ∷ K) s
  f_no_steps : {d : ℕ} {K : List Want} {s : List Token} → Fills K s → Fills (more_steps d ∷ K) s
  f_step : {d : ℕ} {K : List Want} {s r : List Token} {T : List Placed} → Defines the_step d s r T → Fills (more_steps d ∷ K) r → Fills (more_steps d ∷ K) s
  f_drop_column : {p : ℕ} {K : List Want} {q o t : ℕ} {w : List ℕ} {x : Sign} {v : Value} {r : List Token} → Short w → Cell x v → Fills K r → Fills (drop_column p ∷ K) (at q (word w) ∷ at o (key DEFAULT) ∷ at t x ∷ r)
  f_drop_default : {p : ℕ} {w : List ℕ} {K : List Want} {o t : ℕ} {x : Sign} {v : Value} {r : List Token} → Cell x v → Fills K r → Fills (drop_default p w ∷ K) (at o (key DEFAULT) ∷ at t x ∷ r)
  f_drop_cell : {p : ℕ} {w : List ℕ} {K : List Want} {t : ℕ} {x : Sign} {v : Value} {r : List Token} → Cell x v → Fills K r → Fills (drop_cell p w ∷ K) (at t x ∷ r)
  f_rename_column : {p : ℕ} {K : List Want} {q o t : ℕ} {w v : List ℕ} {r : List Token} → Short w → Short v → Fills K r → Fills (rename_column p ∷ K) (at q (word w) ∷ at o (key AS) ∷ at t (word v) ∷ r)
  f_rename_as : {p : ℕ} {w : List ℕ} {K : List Want} {o t : ℕ} {v : List ℕ} {r : List Token} → Short v → Fills K r → Fills (rename_as p w ∷ K) (at o (key AS) ∷ at t (word v) ∷ r)
  f_rename_word : {p : ℕ} {w : List ℕ} {K : List Want} {t : ℕ} {v : List ℕ} {r : List Token} → Short v → Fills K r → Fills (rename_word p w ∷ K) (at t (word v) ∷ r)
  f_complete : {i : Item} {K : List Want} {s : List Token} → Fills K s → Fills (complete i ∷ K) s

-- a part, and then what fills K
abbrev Left : Part → ℕ → List Want → List Token → Type 0
Left g d K s = (r : List Token) × (k : Phrase) × Says g d s r k × Fills K r

abbrev LeftPiece : Piece → ℕ → List Want → List Token → Type 0
LeftPiece g d K s = (r : List Token) × (S : List Placed) × Defines g d s r S × Fills K r

un_neg : {d : ℕ} {K : List Want} {s : List Token} → Fills (a_neg d ∷ K) s → Left neg d K s
un_neg (f_neg x g) = (_, _, x, g)

un_complete : {i : Item} {K : List Want} {s : List Token} → Fills (complete i ∷ K) s → Fills K s
un_complete (f_complete g) = g

fold_and : {d : ℕ} {K : List Want} {s r : List Token} {k : Phrase} → Says conj d s r k → Fills (more_and d ∷ K) r → Left conj d K s
fold_and x (f_no_and g) = (_, _, x, g)
fold_and x (f_and y g) = fold_and (and_neg x y) g

fold_or : {d : ℕ} {K : List Want} {s r : List Token} {k : Phrase} → Says condition d s r k → Fills (more_or d ∷ K) r → Left condition d K s
fold_or x (f_no_or g) = (_, _, x, g)
fold_or x (f_or y g) = fold_or (or_conj x y) g

conj_of : {d : ℕ} {K : List Want} {s : List Token} → Fills (a_neg d ∷ more_and d ∷ K) s → Left conj d K s
conj_of h = let c = un_neg h in fold_and (one_neg c.2) c.3

pub condition_of : {d : ℕ} {K : List Want} {s : List Token} → Fills (a_condition d K) s → Left condition d K s
condition_of h = let c = conj_of h in fold_or (one_conj c.2) c.3

un_source : {d : ℕ} {K : List Want} {s : List Token} → Fills (a_source d ∷ K) s → LeftPiece the_source d K s
un_source (f_source x g) = (_, _, x, g)

fold_steps : {d : ℕ} {K : List Want} {s r : List Token} {S : List Placed} → Defines definition d s r S → Fills (more_steps d ∷ K) r → LeftPiece definition d K s
fold_steps x (f_no_steps g) = (_, _, x, g)
fold_steps x (f_step y g) = fold_steps (one_step x y) g

pub definition_of : {d : ℕ} {K : List Want} {s : List Token} → Fills (a_definition d K) s → LeftPiece definition d K s
definition_of h = let c = un_source h in fold_steps (one_source c.2) c.3

-- each first sign, put back
close_bracket : {d p : ℕ} {K : List Want} {s r : List Token} {k : Phrase} → Says condition d s r k → Fills (a_closing ∷ K) r → Left neg (suc d) K (at p opening ∷ s)
close_bracket x (f_closing g) = (_, _, brackets x, g)

close_source : {d p : ℕ} {K : List Want} {s r : List Token} {S : List Placed} → Defines definition d s r S → Fills (a_closing ∷ K) r → Fills (a_source (suc d) ∷ K) (at p opening ∷ s)
close_source x (f_closing g) = f_source (nested x) g

with_op : {d p : ℕ} {w : List ℕ} {K : List Want} {u : List Token} → Short w → Fills (an_op w ∷ K) u → Fills (a_neg d ∷ K) (at p (word w) ∷ u)
with_op h (f_op y g) = f_neg (comparison h y) g

with_operand : {w : List ℕ} {c : Comparison} {q : ℕ} {K : List Want} {u : List Token} → Fills (an_operand w c ∷ K) u → Fills (an_op w ∷ K) (at q (comparing c) ∷ u)
with_operand (f_operand y g) = f_op y g

with_drop : {d p : ℕ} {K : List Want} {u : List Token} → Fills (drop_column p ∷ more_steps d ∷ K) u → Fills (more_steps d ∷ K) (at p (key DROP) ∷ u)
with_drop (f_drop_column h y g) = f_step (dropping h y) g

with_default : {p q : ℕ} {w : List ℕ} {K : List Want} {u : List Token} → Short w → Fills (drop_default p w ∷ K) u → Fills (drop_column p ∷ K) (at q (word w) ∷ u)
with_default h (f_drop_default y g) = f_drop_column h y g

with_cell : {p o : ℕ} {w : List ℕ} {K : List Want} {u : List Token} → Fills (drop_cell p w ∷ K) u → Fills (drop_default p w ∷ K) (at o (key DEFAULT) ∷ u)
with_cell (f_drop_cell y g) = f_drop_default y g

with_rename : {d p : ℕ} {K : List Want} {u : List Token} → Fills (rename_column p ∷ more_steps d ∷ K) u → Fills (more_steps d ∷ K) (at p (key RENAME) ∷ u)
with_rename (f_rename_column h y g) = f_step (renaming h y) g

with_as : {p q : ℕ} {w : List ℕ} {K : List Want} {u : List Token} → Short w → Fills (rename_as p w ∷ K) u → Fills (rename_column p ∷ K) (at q (word w) ∷ u)
with_as h (f_rename_as y g) = f_rename_column h y g

with_word : {p o : ℕ} {w : List ℕ} {K : List Want} {u : List Token} → Fills (rename_word p w ∷ K) u → Fills (rename_as p w ∷ K) (at o (key AS) ∷ u)
with_word (f_rename_word y g) = f_rename_as y g

with_join : {d p : ℕ} {i : Item} {K : List Want} {s r : List Token} {S : List Placed} → Defines the_source d s r S → Fills (complete i ∷ more_steps d ∷ K) r → Fills (more_steps d ∷ K) (at p (key JOIN) ∷ s)
with_join x g = f_step (joining x) (un_complete g)

-- the sign is the one that is meant
put : (K : List Want) (p : ℕ) {s x : Sign} (u : List Token) → s ≡ x → Fills K (at p x ∷ u) → Fills K (at p s ∷ u)
put K p u e g = subst (λ y. Fills K (at p y ∷ u)) (sym e) g

deep_put : {d e : ℕ} (K : List Want) (s : List Token) → d ≡ suc e → Fills (a_neg (suc e) ∷ K) s → Fills (a_neg d ∷ K) s
deep_put K s e g = subst (λ n. Fills (a_neg n ∷ K) s) (sym e) g

deep_put_source : {d e : ℕ} (K : List Want) (s : List Token) → d ≡ suc e → Fills (a_source (suc e) ∷ K) s → Fills (a_source d ∷ K) s
deep_put_source K s e g = subst (λ n. Fills (a_source n ∷ K) s) (sym e) g

-- a sign that is taken, before what is wanted then
module _ (p : ℕ) (s : Sign) (u : List Token) where
  abbrev Fill : List Want → Type 0
  Fill M = Fills M u

  undo_neg : (d : ℕ) (K : List Want) → Then Fill (take_neg d p s K) → Fills (a_neg d ∷ K) (at p s ∷ u)
  undo_neg d K h =
      elim (of_cond Fill (is_key NOT s) (deeper p d (λ e. goes [] (a_neg e ∷ complete a_not ∷ K))) _ h) [
        | inl g ↦
            let c = of_deeper Fill p d (λ e. goes [] (a_neg e ∷ complete a_not ∷ K)) g.1 in
            let x = un_neg c.2 in
            put (a_neg d ∷ K) p u (key_is NOT s g.0) (deep_put K (at p (key NOT) ∷ u) c.1 (f_neg (negation x.2) (un_complete x.3)))
        | inr h ↦
            elim (of_cond Fill (is_opening s) (deeper p d (λ e. goes [] (a_condition e (a_closing ∷ complete a_bracket ∷ K)))) _ h) [
              | inl g ↦
                  let c = of_deeper Fill p d (λ e. goes [] (a_condition e (a_closing ∷ complete a_bracket ∷ K))) g.1 in
                  let x = condition_of c.2 in
                  let y = close_bracket {p = p} x.2 x.3 in
                  put (a_neg d ∷ K) p u (opening_is s g.0) (deep_put K (at p opening ∷ u) c.1 (f_neg y.2 (un_complete y.3)))
              | inr h ↦
                  let c = of_word Fill p s (λ w. goes [] (an_op w ∷ K)) h in
                  put (a_neg d ∷ K) p u c.1 (with_op c.2 c.3)
            ]
      ]

  undo_source : (d : ℕ) (K : List Want) → Then Fill (take_source d p s K) → Fills (a_source d ∷ K) (at p s ∷ u)
  undo_source d K h =
      elim (of_cond Fill (is_opening s) (deeper p d (λ e. goes [] (a_definition e (a_closing ∷ K)))) _ h) [
        | inl g ↦
            let c = of_deeper Fill p d (λ e. goes [] (a_definition e (a_closing ∷ K))) g.1 in
            let x = definition_of c.2 in
            put (a_source d ∷ K) p u (opening_is s g.0) (deep_put_source K (at p opening ∷ u) c.1 (close_source x.2 x.3))
        | inr h ↦
            let c = of_word Fill p s (λ w. goes (a_step (placed p (source w)) ∷ []) K) h in
            put (a_source d ∷ K) p u c.1 (f_source (table c.2) c.3)
      ]

  undo_step : (d : ℕ) (K : List Want) (past : Taken) → (Then Fill past → Fills K (at p s ∷ u)) → Then Fill (take_step d p s K past) → Fills (more_steps d ∷ K) (at p s ∷ u)
  undo_step d K past go h =
      elim (of_cond Fill (is_key JOIN s) (goes [] (a_source d ∷ complete (a_step (placed p join)) ∷ more_steps d ∷ K)) _ h) [
        | inl g ↦ let x = un_source g.1 in put (more_steps d ∷ K) p u (key_is JOIN s g.0) (with_join x.2 x.3)
        | inr h ↦
            elim (of_cond Fill (is_key SELECT s) (goes [] (a_condition d (complete (a_select p) ∷ more_steps d ∷ K))) _ h) [
              | inl g ↦ let x = condition_of g.1 in put (more_steps d ∷ K) p u (key_is SELECT s g.0) (f_step (selecting x.2) (un_complete x.3))
              | inr h ↦
                  elim (of_cond Fill (is_key DROP s) (goes [] (drop_column p ∷ more_steps d ∷ K)) _ h) [
                    | inl g ↦ put (more_steps d ∷ K) p u (key_is DROP s g.0) (with_drop g.1)
                    | inr h ↦
                        elim (of_cond Fill (is_key RENAME s) (goes [] (rename_column p ∷ more_steps d ∷ K)) past h) [
                          | inl g ↦ put (more_steps d ∷ K) p u (key_is RENAME s g.0) (with_rename g.1)
                          | inr h ↦ f_no_steps (go h)
                        ]
                  ]
            ]
      ]

  undo_and : (d : ℕ) (K : List Want) → (Then Fill (takes K p s) → Fills K (at p s ∷ u)) → Then Fill (takes (more_and d ∷ K) p s) → Fills (more_and d ∷ K) (at p s ∷ u)
  undo_and d K go h =
      elim (of_cond Fill (is_key AND s) (goes [] (a_neg d ∷ complete an_and ∷ more_and d ∷ K)) (takes K p s) h) [
        | inl g ↦ let x = un_neg g.1 in put (more_and d ∷ K) p u (key_is AND s g.0) (f_and x.2 (un_complete x.3))
        | inr h ↦ f_no_and (go h)
      ]

  undo_or : (d : ℕ) (K : List Want) → (Then Fill (takes K p s) → Fills K (at p s ∷ u)) → Then Fill (takes (more_or d ∷ K) p s) → Fills (more_or d ∷ K) (at p s ∷ u)
  undo_or d K go h =
      elim (of_cond Fill (is_key OR s) (goes [] (a_neg d ∷ more_and d ∷ complete an_or ∷ more_or d ∷ K)) (takes K p s) h) [
        | inl g ↦ let x = conj_of g.1 in put (more_or d ∷ K) p u (key_is OR s g.0) (f_or x.2 (un_complete x.3))
        | inr h ↦ f_no_or (go h)
      ]

  only : (b : Bool) (K M : List Want) (l : List Item) → Then Fill (cond b (goes l M) (lacks p)) → (b ≡ true → Fills M u → Fills K (at p s ∷ u)) → Fills K (at p s ∷ u)
  only true K M l h go = go refl h
  only false K M l h go = absurd h

  of_after : (i : Item) (x : Taken) → Then Fill (after i x) → Then Fill x
  of_after i (goes l K) h = h
  of_after i (stops l f) h = h

  pub undo : (K : List Want) → Then Fill (takes K p s) → Fills K (at p s ∷ u)
  undo [] h = absurd h
  undo (a_neg d ∷ K) h = undo_neg d K h
  undo (an_op w ∷ K) h = let c = of_comparing Fill p s (λ c. goes [] (an_operand w c ∷ K)) h in put (an_op w ∷ K) p u c.1 (with_operand c.2)
  undo (an_operand w c ∷ K) h = let c = of_operand Fill p s (λ x. goes (leaf w c x ∷ []) K) h in f_operand c.1 c.2
  undo (more_and d ∷ K) h = undo_and d K (undo K) h
  undo (more_or d ∷ K) h = undo_or d K (undo K) h
  undo (a_closing ∷ K) h = only (is_closing s) (a_closing ∷ K) K [] h (λ e g. put (a_closing ∷ K) p u (closing_is s e) (f_closing g))
  undo (a_source d ∷ K) h = undo_source d K h
  undo (more_steps d ∷ K) h = undo_step d K (takes K p s) (undo K) h
  undo (drop_column q ∷ K) h = let c = of_word Fill p s (λ w. goes [] (drop_default q w ∷ K)) h in put (drop_column q ∷ K) p u c.1 (with_default c.2 c.3)
  undo (drop_default q w ∷ K) h = only (is_key DEFAULT s) (drop_default q w ∷ K) (drop_cell q w ∷ K) [] h (λ e g. put (drop_default q w ∷ K) p u (key_is DEFAULT s e) (with_cell g))
  undo (drop_cell q w ∷ K) h = let c = of_cell Fill p s (λ v. goes (a_step (placed q (drop w v)) ∷ []) K) h in f_drop_cell c.1 c.2
  undo (rename_column q ∷ K) h = let c = of_word Fill p s (λ w. goes [] (rename_as q w ∷ K)) h in put (rename_column q ∷ K) p u c.1 (with_as c.2 c.3)
  undo (rename_as q w ∷ K) h = only (is_key AS s) (rename_as q w ∷ K) (rename_word q w ∷ K) [] h (λ e g. put (rename_as q w ∷ K) p u (key_is AS s e) (with_word g))
  undo (rename_word q w ∷ K) h = let c = of_word Fill p s (λ v. goes (a_step (placed q (rename w v)) ∷ []) K) h in put (rename_word q w ∷ K) p u c.1 (f_rename_word c.2 c.3)
  undo (complete i ∷ K) h = f_complete (undo K (of_after i (takes K p s) h))

-- a fault is not none
pub no_fault : {o : Option Fault} {f : Fault} → o ≡ Some f → o ≡ None → ⊥
no_fault h e = let z : ◌≡◌ {A = ℕ} 0 1 = cc in omega arith

end_fills : (e : ℕ) (K : List Want) → (at_end e K).fault ≡ None → Fills K []
end_fills e [] h = f_end
end_fills e (a_neg d ∷ K) h = absurd (no_fault refl h)
end_fills e (an_op w ∷ K) h = absurd (no_fault refl h)
end_fills e (an_operand w c ∷ K) h = absurd (no_fault refl h)
end_fills e (more_and d ∷ K) h = f_no_and (end_fills e K h)
end_fills e (more_or d ∷ K) h = f_no_or (end_fills e K h)
end_fills e (a_closing ∷ K) h = absurd (no_fault refl h)
end_fills e (a_source d ∷ K) h = absurd (no_fault refl h)
end_fills e (more_steps d ∷ K) h = f_no_steps (end_fills e K h)
end_fills e (drop_column q ∷ K) h = absurd (no_fault refl h)
end_fills e (drop_default q w ∷ K) h = absurd (no_fault refl h)
end_fills e (drop_cell q w ∷ K) h = absurd (no_fault refl h)
end_fills e (rename_column q ∷ K) h = absurd (no_fault refl h)
end_fills e (rename_as q w ∷ K) h = absurd (no_fault refl h)
end_fills e (rename_word q w ∷ K) h = absurd (no_fault refl h)
end_fills e (complete i ∷ K) h = f_complete (end_fills e K h)

gone_on : (x : Taken) (more : List Want → Read) (s : List Token) → ((M : List Want) → (more M).fault ≡ None → Fills M s) → (go_on x more).fault ≡ None → Then (λ M. Fills M s) x
gone_on (goes l K) more s go h = go K h
gone_on (stops l f) more s go h = absurd (no_fault refl h)

pub run_fills : (s : List Token) (e : ℕ) (K : List Want) → (run e K s).fault ≡ None → Fills K s
run_fills [] e K h = end_fills e K h
run_fills (t ∷ s) e K h = undo t.place t.sign s K (gone_on (takes K t.place t.sign) (λ M. run e M s) s (λ M. run_fills s e M) h)

whole : {s : List Token} → Fills [] s → s ≡ []
whole f_end = refl

-- what fills the wants of a condition, or of a definition, alone is one
pub whole_condition : {d : ℕ} {s : List Token} → Fills (a_condition d []) s → (k : Phrase) × Says condition d s [] k
whole_condition {d} {s} h = let c = condition_of h in (c.1, subst (λ r. Says condition d s r c.1) (whole c.3) c.2)

pub whole_definition : {d : ℕ} {s : List Token} → Fills (a_definition d []) s → (S : List Placed) × Defines definition d s [] S
whole_definition {d} {s} h = let c = definition_of h in (c.1, subst (λ r. Defines definition d s r c.1) (whole c.3) c.2)

-- a text, a word and a number for what is wanted
short : Short []
short = lit≤ tt

a_zero : Cell (number []) (num 0)
a_zero = a_number (lit≤ tt)

-- whatever is wanted can come
pub fillable : (K : List Want) → (u : List Token) × Fills K u
fillable [] = ([], f_end)
fillable (a_neg d ∷ K) = let f = fillable K in (at 0 (word []) ∷ at 0 (comparing equals) ∷ at 0 (word []) ∷ f.0, f_neg (comparison short (a_word short)) f.1)
fillable (an_op w ∷ K) = let f = fillable K in (at 0 (comparing equals) ∷ at 0 (word []) ∷ f.0, f_op (a_word short) f.1)
fillable (an_operand w c ∷ K) = let f = fillable K in (at 0 (word []) ∷ f.0, f_operand (a_word short) f.1)
fillable (more_and d ∷ K) = let f = fillable K in (f.0, f_no_and f.1)
fillable (more_or d ∷ K) = let f = fillable K in (f.0, f_no_or f.1)
fillable (a_closing ∷ K) = let f = fillable K in (at 0 closing ∷ f.0, f_closing f.1)
fillable (a_source d ∷ K) = let f = fillable K in (at 0 (word []) ∷ f.0, f_source (table short) f.1)
fillable (more_steps d ∷ K) = let f = fillable K in (f.0, f_no_steps f.1)
fillable (drop_column q ∷ K) = let f = fillable K in (at 0 (word []) ∷ at 0 (key DEFAULT) ∷ at 0 (number []) ∷ f.0, f_drop_column short a_zero f.1)
fillable (drop_default q w ∷ K) = let f = fillable K in (at 0 (key DEFAULT) ∷ at 0 (number []) ∷ f.0, f_drop_default a_zero f.1)
fillable (drop_cell q w ∷ K) = let f = fillable K in (at 0 (number []) ∷ f.0, f_drop_cell a_zero f.1)
fillable (rename_column q ∷ K) = let f = fillable K in (at 0 (word []) ∷ at 0 (key AS) ∷ at 0 (word []) ∷ f.0, f_rename_column short short f.1)
fillable (rename_as q w ∷ K) = let f = fillable K in (at 0 (key AS) ∷ at 0 (word []) ∷ f.0, f_rename_as short f.1)
fillable (rename_word q w ∷ K) = let f = fillable K in (at 0 (word []) ∷ f.0, f_rename_word short f.1)
fillable (complete i ∷ K) = let f = fillable K in (f.0, f_complete f.1)
