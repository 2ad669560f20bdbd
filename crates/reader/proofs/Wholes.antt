-- Whole texts.
use Rattle.std.proofs.Common.{◌≡◌, ℕ, ◌≤◌, leb, List, [], ◌∷◌, ◌++◌, length, None, Ok, Err, Option, Result, sym, refl, ap, ◌∙◌, subst}
use Rattle.std.proofs.lemmas.List.{append_assoc, append-nil}
use Rattle.std.proofs.lemmas.Bool.{cond-true, le-leb}
use Rattle.model.specs.Faults as model
use Rattle.cells.specs.declared.faults.Refusal.{Refusal}
use Rattle.cells.specs.declared.faults.Refusal.TheVariants.{Fault, Memory}
use Rattle.grammar.specs.Phrases as grammar
use Rattle.grammar.specs.Phrases.{Placed, compared, negated, bracket, both, either}
use Rattle.grammar.specs.Reading.{Item, a_not, a_bracket, an_and, an_or, a_condition, a_definition, Read, following, read_condition, read_definition, condition_fault, condition_trees, definition_steps, definition_fault, trees, steps}
use Rattle.phrases.specs.Written.{ByWord, phrase}
use Rattle.conditions.specs.declared.trees.Formula.{Formula}
use Rattle.reader.specs.Saying.{from, postfix, Said, Ends}
use Rattle.reader.specs.Stepping.{all_items, Adds, Built, Gives, Whole}
use Rattle.reader.proofs.Steps.{steps_all}

pub trees_postfix : (k : grammar.Phrase) (l : List Item) (S : List grammar.Phrase) → trees (postfix k ++ l) S ≡ trees l (k ∷ S)
trees_postfix (compared w c t) l S = refl
trees_postfix (negated k) l S = ap (λ m. trees m S) (append_assoc (postfix k) (a_not ∷ []) l) ∙ trees_postfix k (a_not ∷ l) S
trees_postfix (bracket k) l S = ap (λ m. trees m S) (append_assoc (postfix k) (a_bracket ∷ []) l) ∙ trees_postfix k (a_bracket ∷ l) S
trees_postfix (both k m) l S =
    ap (λ n. trees n S) (append_assoc (postfix k) (postfix m ++ (an_and ∷ [])) l ∙ ap (λ n. postfix k ++ n) (append_assoc (postfix m) (an_and ∷ []) l))
    ∙ (trees_postfix k (postfix m ++ (an_and ∷ l)) S ∙ trees_postfix m (an_and ∷ l) (k ∷ S))
trees_postfix (either k m) l S =
    ap (λ n. trees n S) (append_assoc (postfix k) (postfix m ++ (an_or ∷ [])) l ∙ ap (λ n. postfix k ++ n) (append_assoc (postfix m) (an_or ∷ []) l))
    ∙ (trees_postfix k (postfix m ++ (an_or ∷ l)) S ∙ trees_postfix m (an_or ∷ l) (k ∷ S))

-- a text that is not too long is read from its first sign
pub short_condition : (b : List ℕ) → length b ≤ 256 → read_condition b ≡ from b 0 (a_condition 8 [])
short_condition b h = cond-true (leb (length b) 256) _ _ (le-leb (length b) 256 h)

pub short_definition : (b : List ℕ) → length b ≤ 256 → read_definition b ≡ from b 0 (a_definition 8 [])
short_definition b h = cond-true (leb (length b) 256) _ _ (le-leb (length b) 256 h)

-- the parser begins at the beginning
pub said_begins : (b c : List ℕ) (a : ℕ) (r : Result (Formula ByWord) Refusal) (z : ℕ) → c ≡ b → a ≡ 0 → Said (λ K. from c a (a_condition 8 K)) c r z → Said (λ K. from b 0 (a_condition 8 K)) b r z
said_begins b c a r z e i h = subst (λ n. Said (λ K. from b n (a_condition 8 K)) b r z) i (subst (λ x. Said (λ K. from x a (a_condition 8 K)) x r z) e h)

pub built_begins : (b c : List ℕ) (a : ℕ) (S T : List Placed) (r : Result (Unit {0}) Refusal) (z : ℕ) → c ≡ b → a ≡ 0 → Built (λ K. from c a (a_definition 8 K)) c S T r z → Built (λ K. from b 0 (a_definition 8 K)) b S T r z
built_begins b c a S T r z e i h = subst (λ n. Built (λ K. from b n (a_definition 8 K)) b S T r z) i (subst (λ x. Built (λ K. from x a (a_definition 8 K)) x S T r z) e h)

pub ends_moved : (b c : List ℕ) (a : ℕ) (r : Result (Unit {0}) Refusal) → c ≡ b → Ends c a r → Ends b a r
ends_moved b c a r e h = subst (λ x. Ends x a r) e h

pub condition_read : (b : List ℕ) (k : Formula ByWord) (z : ℕ) → length b ≤ 256 → Said (λ K. from b 0 (a_condition 8 K)) b (Ok k) z → Ends b z (Ok tt) → (condition_fault b ≡ None) × (condition_trees b ≡ phrase k ∷ [])
condition_read b k z l h g =
    let e = short_condition b l ∙ (h [] ∙ ap (following (postfix (phrase k))) g) in
    (ap (λ (r : Read). r.fault) e, ap (λ (r : Read). trees r.items []) e ∙ trees_postfix (phrase k) [] [])

-- the end of a definition
pub definition_ends : (b : List ℕ) (S T : List Placed) (z : ℕ) (r : Result (Unit {0}) Refusal) → length b ≤ 256 → Adds (λ K. from b 0 (a_definition 8 K)) b S T z → Ends b z r → Whole (read_definition b) S T r
definition_ends b S T z (Ok u) l h g =
    let e = short_definition b l ∙ (h.goes [] ∙ ap (following (all_items h.new)) g) in
    record { new = h.new; all = h.all; steps = ap (λ (r : Read). steps r.items []) e ∙ (steps_all h.new [] [] ∙ append-nil h.new); fault = ap (λ (r : Read). r.fault) e }
definition_ends b S T z (Err (Fault f)) l h g =
    let e = short_definition b l ∙ (h.goes [] ∙ ap (following (all_items h.new)) g) in
    record { new = h.new; all = h.all; steps = ap (λ (r : Read). steps r.items []) e ∙ (steps_all h.new [] [] ∙ append-nil h.new); fault = ap (λ (r : Read). r.fault) e }
definition_ends b S T z (Err Memory) l h g = tt

pub definition_stops : (b : List ℕ) (S T : List Placed) (z : ℕ) (e : Refusal) → length b ≤ 256 → Built (λ K. from b 0 (a_definition 8 K)) b S T (Err e) z → Whole (read_definition b) S T (Err e)
definition_stops b S T z (Fault f) l h =
    let e = short_definition b l ∙ h.stops [] in
    record {
      new = h.new;
      all = h.all;
      steps = ap (λ (r : Read). steps r.items []) e ∙ (steps_all h.new h.items [] ∙ (ap (λ R. h.new ++ R) (h.quiet []) ∙ append-nil h.new));
      fault = ap (λ (r : Read). r.fault) e;
    }
definition_stops b S T z Memory l h = tt

-- what a whole definition gives, from the first sign and no step
pub given_steps : (b c : List ℕ) (a : ℕ) (T : List Placed) (f : Option model.Fault) → c ≡ b → a ≡ 0 → length b ≤ 256 → Gives (from c a (a_definition 8 [])) [] T f → (T ≡ definition_steps b) × (f ≡ definition_fault b)
given_steps b c a T f e i l h =
    let r = short_definition b l ∙ (ap (λ n. from b n (a_definition 8 [])) (sym i) ∙ ap (λ x. from x a (a_definition 8 [])) (sym e)) in
    (h.all ∙ (sym h.steps ∙ ap (λ (x : Read). steps x.items []) (sym r)), sym h.fault ∙ ap (λ (x : Read). x.fault) (sym r))
