-- Reading accepts what the grammar derives, and nothing else; and each in one way.
use Rattle.std.proofs.Common.{◌≡◌, ℕ, ◌≤◌, Bool, true, false, cond, leb, List, [], ◌∷◌, ◌++◌, length, None, sym, refl, ap, ◌∙◌, subst, append-nil, le-leb, leb-true}
use Rattle.model.specs.Faults.{fault}
use Rattle.grammar.specs.Signs.{Token, signs}
use Rattle.grammar.specs.Phrases.{Phrase, Placed}
use Rattle.grammar.specs.Grammar.{condition, Says, definition, Defines}
use Rattle.grammar.specs.Reading.{a_condition, a_definition, Read, reads, run, trees, steps, read_condition, read_definition, within_256, condition_fault, condition_trees, definition_fault, definition_steps}
use Rattle.derivations.specs.Accepted.{IsCondition, IsDefinition, ConditionAccepted, DefinitionAccepted, OneReading}
use Rattle.derivations.proofs.Tracing.{postfix, items_of, trees_postfix, steps_items, run_condition, run_definition}
use Rattle.derivations.proofs.Filling.{run_fills, no_fault, whole_condition, whole_definition}
use Rattle.derivations.proofs.Deepening.{climb, climb_turn, deeper_condition, deeper_definition}

pub within : (b : List ℕ) (r : Read) → length b ≤ 256 → within_256 b r ≡ r
within b r h = ap (λ c. cond c r (reads [] (fault 3 0 256))) (le-leb (length b) 256 h)

of_within : (c : Bool) (r : Read) → (cond c r (reads [] (fault 3 0 256))).fault ≡ None → (c ≡ true) × (r.fault ≡ None)
of_within true r h = (refl, h)
of_within false r h = absurd (no_fault refl h)

read_is : (b : List ℕ) (k : Phrase) → IsCondition b k → read_condition b ≡ reads (postfix k ++ []) None
read_is b k h = within b (run (length b) (a_condition 8 []) (signs b)) h.short ∙ run_condition h.says (length b)

trees_are : (b : List ℕ) (k : Phrase) → IsCondition b k → condition_trees b ≡ k ∷ []
trees_are b k h = ap (λ r. trees r.items []) (read_is b k h) ∙ trees_postfix k [] []

found : (b : List ℕ) → condition_fault b ≡ None → (k : Phrase) × IsCondition b k
found b e =
    let c = of_within (leb (length b) 256) (run (length b) (a_condition 8 []) (signs b)) e in
    let x = whole_condition (run_fills (signs b) (length b) (a_condition 8 []) c.1) in
    (x.0, record { short = leb-true (length b) 256 c.0; says = x.1 })

pub condition_accepted : ConditionAccepted
condition_accepted b = (
  λ k. (
    (λ h. (ap (λ r. r.fault) (read_is b k h), trees_are b k h)),
    (λ h.
        let x = found b h.0 in
        let t = trees_are b x.0 x.1 in
        let g = h.1 in
        let same : x.0 ≡ k = cc in
        subst (IsCondition b) same x.1),
  ),
  found b,
)

reads_are : (b : List ℕ) (S : List Placed) → IsDefinition b S → read_definition b ≡ reads (items_of S ++ []) None
reads_are b S h = within b (run (length b) (a_definition 8 []) (signs b)) h.short ∙ run_definition h.defines (length b)

steps_are : (b : List ℕ) (S : List Placed) → IsDefinition b S → definition_steps b ≡ S
steps_are b S h = ap (λ r. steps r.items []) (reads_are b S h) ∙ steps_items S [] [] ∙ append-nil S

defined : (b : List ℕ) → definition_fault b ≡ None → (S : List Placed) × IsDefinition b S
defined b e =
    let c = of_within (leb (length b) 256) (run (length b) (a_definition 8 []) (signs b)) e in
    let x = whole_definition (run_fills (signs b) (length b) (a_definition 8 []) c.1) in
    (x.0, record { short = leb-true (length b) 256 c.0; defines = x.1 })

pub definition_accepted : DefinitionAccepted
definition_accepted b = (
  λ S. (
    (λ h. (ap (λ r. r.fault) (reads_are b S h), steps_are b S h)),
    (λ h. let x = defined b h.0 in subst (IsDefinition b) (sym (steps_are b x.0 x.1) ∙ h.1) x.1),
  ),
  defined b,
)

same_condition : (d : ℕ) (s : List Token) (k l : Phrase) → Says condition d s [] k → Says condition d s [] l → k ≡ l
same_condition d s k l x y =
    let e : k ∷ [] ≡ l ∷ [] = sym (trees_postfix k [] []) ∙ ap (λ r. trees r.items []) (sym (run_condition x 0) ∙ run_condition y 0) ∙ trees_postfix l [] [] in
    cc

same_definition : (d : ℕ) (s : List Token) (S T : List Placed) → Defines definition d s [] S → Defines definition d s [] T → S ≡ T
same_definition d s S T x y =
    sym (steps_items S [] [] ∙ append-nil S) ∙ ap (λ r. steps r.items []) (sym (run_definition x 0) ∙ run_definition y 0) ∙ steps_items T [] [] ∙ append-nil T

pub one_reading : OneReading
one_reading = (
  (λ d e s k l x y. same_condition (climb e d) s k l (deeper_condition e x) (subst (λ n. Says condition n s [] l) (climb_turn d e) (deeper_condition d y))),
  (λ d e s S T x y. same_definition (climb e d) s S T (deeper_definition e x) (subst (λ n. Defines definition n s [] T) (climb_turn d e) (deeper_definition d y))),
)
