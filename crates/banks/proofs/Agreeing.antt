-- The rows that break a dependency. Assumes nothing.
use Rattle.std.proofs.Common.{◌≡◌, ℕ, suc, ltb, lt-ltb, Some, MatchOption, arith, ◌+◌, ◌<◌, Bool, true, false, cond, not, ◌&&◌, ◌||◌, List, [], ◌∷◌, ◌++◌, map, length, get_or, take, drop, None, Option, sym, refl, ap, ◌∙◌, ap₂, add-one}
use Rattle.std.specs.List.{position, position_or_len, enumerate_from}
use Rattle.std.proofs.lemmas.Bool.Decides.{nat_tests}
use Rattle.std.proofs.lemmas.List.{take_more, drop_more, map_push, length-drop, drop-drop, get_or-drop}
use Rattle.model.specs.Values.{Tuple, Relation, any}
use Rattle.model.specs.Sorts.{agrees, Dependency}
use Rattle.model.specs.Faults.{Fault, fault}
use Rattle.model.specs.Judging.{breaks, dep_fault}
use Rattle.cells.specs.Held.{tuple, tuples}
use Rattle.cells.specs.declared.rows.Row.{Row}
use Rattle.columns.specs.Members.{dependency, dependencies, members}
use Rattle.sorts.specs.Sealed.{narrowed}
use Rattle.sorts.proofs.Mapped.{any_map}
use Rattle.columns.specs.declared.dependencies.Dependency.{Dependency as Columns-dependency}

-- the rows before one, the last of them first
abbrev onto : Relation → Relation → Relation
onto E [] = E
onto E (t ∷ R) = onto (t ∷ E) R

onto_push : (E R : Relation) (t : Tuple) → onto E (R ++ t ∷ []) ≡ t ∷ onto E R
onto_push E [] t = refl
onto_push E (s ∷ R) t = onto_push (s ∷ E) R t

or_turn : (a b c : Bool) → ((a || b) || c) ≡ (b || (a || c))
or_turn true true c = refl
or_turn true false c = refl
or_turn false true c = refl
or_turn false false c = refl

any_onto : (p : Tuple → Bool) (E R : Relation) → any p (onto E R) ≡ (any p E || any p R)
any_onto p E [] = sym (or_false (any p E))
  where
    or_false : (b : Bool) → (b || false) ≡ b
    or_false true = refl
    or_false false = refl
any_onto p E (t ∷ R) = any_onto p (t ∷ E) R ∙ or_turn (p t) (any p E) (any p R)

any_same : {A : Type 0} (p q : A → Bool) (l : List A) → ((a : A) → p a ≡ q a) → any p l ≡ any q l
any_same p q [] e = refl
any_same p q (a ∷ l) e = ap₂ ◌||◌ (e a) (any_same p q l e)

breaks_onto : (D : List Dependency) (R : Relation) (t : Tuple) → breaks D (onto [] R) t ≡ breaks D R t
breaks_onto D R t = any_same (λ d. any (λ s. agrees d.left s t && not (agrees d.right s t)) (onto [] R)) (λ d. any (λ s. agrees d.left s t && not (agrees d.right s t)) R) D
    (λ d. any_onto (λ s. agrees d.left s t && not (agrees d.right s t)) [] R)

-- the fault of the rows from a place on
abbrev pub fault_from : ℕ → List Dependency → List Row → ℕ → Option Fault
fault_from k D rows i = dep_fault k D (onto [] (tuples (take i rows))) i (tuples (drop i rows))

module _ (k : ℕ) (D : List Dependency) (rows : List Row) (i : ℕ) (here : i < length rows) (r : Row) (stands : r ≡ get_or rows i r) where
  row_next : tuples (drop i rows) ≡ tuple r ∷ tuples (drop (i + 1) rows)
  row_next = ap tuples (drop_more rows i r here) ∙ ap (λ x. tuple x ∷ tuples (drop (i + 1) rows)) (sym stands)

  turn : (b : Bool) → breaks D (tuples (take i rows)) (tuple r) ≡ b → fault_from k D rows i ≡ cond b (fault 20 k i) (dep_fault k D (tuple r ∷ onto [] (tuples (take i rows))) (suc i) (tuples (drop (i + 1) rows)))
  turn b e =
      ap (λ J. dep_fault k D (onto [] (tuples (take i rows))) i J) row_next
      ∙ ap (λ x. cond x (fault 20 k i) (dep_fault k D (tuple r ∷ onto [] (tuples (take i rows))) (suc i) (tuples (drop (i + 1) rows)))) (breaks_onto D (tuples (take i rows)) (tuple r) ∙ e)

  taken_next : tuple r ∷ onto [] (tuples (take i rows)) ≡ onto [] (tuples (take (i + 1) rows))
  taken_next =
      sym (onto_push [] (tuples (take i rows)) (tuple r))
      ∙ ap (onto []) (sym (map_push tuple (take i rows) r) ∙ ap (λ x. tuples (take i rows ++ x ∷ [])) stands ∙ ap tuples (sym (take_more rows i r here)))

  turned : (b : Bool) → breaks D (tuples (take i rows)) (tuple r) ≡ b → fault_from k D rows i ≡ cond b (fault 20 k i) (fault_from k D rows (i + 1))
  turned b e = turn b e ∙ ap (cond b (fault 20 k i)) (ap₂ (λ E j. dep_fault k D E j (tuples (drop (i + 1) rows))) taken_next (sym (add-one i)))

-- whether the row at a place breaks a dependency with one of those before it
abbrev pub breaks_at : List Dependency → List Row → ℕ × Row → Bool
breaks_at D rows p = breaks D (tuples (take p.0 rows)) (tuple p.1)

-- the fault of the first row that does, counted from a place on
abbrev pub told_from : ℕ → ℕ → Option ℕ → Option Fault
told_from k i None = None
told_from k i (Some q) = fault 20 k (i + q)

same_test : (q m : ℕ) → ltb (1 + q) (suc m) ≡ ltb q m
same_test q m = grind (arith, nat_tests)

told_next : (k i q : ℕ) (b : Bool) → told_from k i (cond b (Some (1 + q)) None) ≡ told_from k (i + 1) (cond b (Some q) None)
told_next k i q true = let e : i + (1 + q) ≡ i + 1 + q = omega arith in ap (fault 20 k) e
told_next k i q false = refl

told_here : (k i q m : ℕ) (b : Bool) → told_from k i (cond (ltb (cond (not b) (1 + q) 0) (suc m)) (Some (cond (not b) (1 + q) 0)) None) ≡ cond b (fault 20 k i) (told_from k (i + 1) (cond (ltb q m) (Some q) None))
told_here k i q m true = let e : i + 0 ≡ i = omega arith in ap (λ t. told_from k i (cond t (Some 0) None)) (lt-ltb 0 (suc m) (omega arith)) ∙ ap (fault 20 k) e
told_here k i q m false = ap (λ t. told_from k i (cond t (Some (1 + q)) None)) (same_test q m) ∙ told_next k i q (ltb q m)

module _ (k : ℕ) (D : List Dependency) (rows : List Row) where
  pub first_from : (l : List Row) (i : ℕ) → drop i rows ≡ l → fault_from k D rows i ≡ told_from k i (position (breaks_at D rows) (enumerate_from i l))
  first_from [] i e = ap (λ J. dep_fault k D (onto [] (tuples (take i rows))) i (tuples J)) e
  first_from (r ∷ l) i e =
      let here : i < length rows = omega (arith, length-drop i rows, ap length e) in
      let same : i + 0 ≡ i = omega arith in
      let stands : r ≡ get_or rows i r = sym (ap (λ x. get_or x 0 r) e) ∙ get_or-drop i rows 0 r ∙ ap (λ j. get_or rows j r) same in
      let next : drop (i + 1) rows ≡ l = sym (drop-drop 1 i rows) ∙ ap (drop 1) e in
      let b = breaks D (tuples (take i rows)) (tuple r) in
      let es = enumerate_from (i + 1) l in
      turned k D rows i here r stands b refl ∙ ap (cond b (fault 20 k i)) (first_from l (i + 1) next)
      ∙ sym (told_here k i (position_or_len (breaks_at D rows) es) (length es) b)

first_of : (D : List Dependency) (rows : List Row) (o : Option ℕ) → ((k : ℕ) → dep_fault k D [] 0 (tuples rows) ≡ told_from k 0 o) → MatchOption o ((k : ℕ) → dep_fault k D [] 0 (tuples rows) ≡ None) (λ p. (k : ℕ) → dep_fault k D [] 0 (tuples rows) ≡ fault 20 k p)
first_of D rows None h = h
first_of D rows (Some p) h = λ k. let e : 0 + p ≡ p = omega arith in h k ∙ ap (fault 20 k) e

pub first_told : (D : List Dependency) (rows : List Row) (o : Option ℕ) → o ≡ position (breaks_at D rows) (enumerate_from 0 rows) → MatchOption o ((k : ℕ) → dep_fault k D [] 0 (tuples rows) ≡ None) (λ p. (k : ℕ) → dep_fault k D [] 0 (tuples rows) ≡ fault 20 k p)
first_told D rows o e = first_of D rows o (λ k. first_from k D rows rows 0 refl ∙ ap (told_from k 0) (sym e))

-- whether a row breaks a dependency with one of the earlier rows
abbrev pub breaks_by : ℕ → Relation → Tuple → Columns-dependency → Bool
breaks_by w E t d = any (λ s. agrees (take w (members d.left)) s t && not (agrees (take w (members d.right)) s t)) E

pub breaks_each : (w : ℕ) (E : Relation) (t : Tuple) (D : List Columns-dependency) → breaks (map (narrowed w) (dependencies D)) E t ≡ any (breaks_by w E t) D
breaks_each w E t D =
    any_map (λ d. any (λ s. agrees d.left s t && not (agrees d.right s t)) E) (narrowed w) (dependencies D)
    ∙ any_map (λ d. any (λ s. agrees (take w d.left) s t && not (agrees (take w d.right) s t)) E) dependency D
