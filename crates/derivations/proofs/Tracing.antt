-- What reading gives for the signs of a derivation: the items of what they say, and then what the rest gives.
use Rattle.std.proofs.Common.{◌≡◌, ℕ, false, cond, List, [], ◌∷◌, ◌++◌, length, None, sym, refl, ap, ◌∙◌, append_assoc, append-nil, le-leb}
use Rattle.model.specs.Values.{Value, text}
use Rattle.model.specs.Sorts.{greatest}
use Rattle.model.specs.Conditions.{Comparison}
use Rattle.grammar.specs.Signs.{Sign, word, key, comparing, Keyword, AND, AS, DEFAULT, OR, Token, at}
use Rattle.grammar.specs.Phrases.{Term, named, given, Phrase, compared, negated, bracket, both, either, Step, source, select, drop, rename, join, Placed, placed}
use Rattle.grammar.specs.Grammar.{Short, Cell, a_number, a_text, Operand, a_word, a_cell, Part, condition, conj, neg, Says, comparison, negation, brackets, one_neg, and_neg, one_conj, or_conj, Piece, definition, a_source as the_source, a_step as the_step, Defines, table, nested, one_source, one_step, joining, selecting, dropping, renaming}
use Rattle.grammar.specs.Reading.{Item, leaf, a_not, a_bracket, an_and, an_or, a_select, a_step, Want, a_neg, more_and, more_or, a_source, more_steps, an_op, an_operand, a_closing, drop_column, rename_column, drop_default, drop_cell, rename_as, complete, Taken, goes, stops, after, stop, is_key, a_condition, a_definition, takes, Read, reads, following, go_on, run, trees, steps}

-- the items of a phrase, in the order in which they are complete, and those of steps
abbrev pub postfix : Phrase → List Item
postfix (compared w c x) = leaf w c x ∷ []
postfix (negated k) = postfix k ++ (a_not ∷ [])
postfix (bracket k) = postfix k ++ (a_bracket ∷ [])
postfix (both k l) = postfix k ++ (postfix l ++ (an_and ∷ []))
postfix (either k l) = postfix k ++ (postfix l ++ (an_or ∷ []))

abbrev pub of_step : Step → ℕ → List Item
of_step (source w) p = a_step (placed p (source w)) ∷ []
of_step (select k) p = postfix k ++ (a_select p ∷ [])
of_step (drop w v) p = a_step (placed p (drop w v)) ∷ []
of_step (rename w v) p = a_step (placed p (rename w v)) ∷ []
of_step join p = a_step (placed p join) ∷ []

abbrev pub items_of : List Placed → List Item
items_of [] = []
items_of (x ∷ S) = of_step x.step x.place ++ items_of S

pub items_append : (S T : List Placed) → items_of (S ++ T) ≡ items_of S ++ items_of T
items_append [] T = refl
items_append (x ∷ S) T = ap (λ l. of_step x.step x.place ++ l) (items_append S T) ∙ sym (append_assoc (of_step x.step x.place) (items_of S) (items_of T))

-- a phrase's items make the phrase
pub trees_postfix : (k : Phrase) (l : List Item) (K : List Phrase) → trees (postfix k ++ l) K ≡ trees l (k ∷ K)
trees_postfix (compared w c x) l K = refl
trees_postfix (negated k) l K = ap (λ m. trees m K) (append_assoc (postfix k) (a_not ∷ []) l) ∙ trees_postfix k (a_not ∷ l) K
trees_postfix (bracket k) l K = ap (λ m. trees m K) (append_assoc (postfix k) (a_bracket ∷ []) l) ∙ trees_postfix k (a_bracket ∷ l) K
trees_postfix (both j k) l K =
    ap (λ m. trees m K) (append_assoc (postfix j) (postfix k ++ (an_and ∷ [])) l ∙ ap (λ m. postfix j ++ m) (append_assoc (postfix k) (an_and ∷ []) l)) ∙
    trees_postfix j (postfix k ++ (an_and ∷ l)) K ∙
    trees_postfix k (an_and ∷ l) (j ∷ K)
trees_postfix (either j k) l K =
    ap (λ m. trees m K) (append_assoc (postfix j) (postfix k ++ (an_or ∷ [])) l ∙ ap (λ m. postfix j ++ m) (append_assoc (postfix k) (an_or ∷ []) l)) ∙
    trees_postfix j (postfix k ++ (an_or ∷ l)) K ∙
    trees_postfix k (an_or ∷ l) (j ∷ K)

pub steps_postfix : (k : Phrase) (l : List Item) (K : List Phrase) → steps (postfix k ++ l) K ≡ steps l (k ∷ K)
steps_postfix (compared w c x) l K = refl
steps_postfix (negated k) l K = ap (λ m. steps m K) (append_assoc (postfix k) (a_not ∷ []) l) ∙ steps_postfix k (a_not ∷ l) K
steps_postfix (bracket k) l K = ap (λ m. steps m K) (append_assoc (postfix k) (a_bracket ∷ []) l) ∙ steps_postfix k (a_bracket ∷ l) K
steps_postfix (both j k) l K =
    ap (λ m. steps m K) (append_assoc (postfix j) (postfix k ++ (an_and ∷ [])) l ∙ ap (λ m. postfix j ++ m) (append_assoc (postfix k) (an_and ∷ []) l)) ∙
    steps_postfix j (postfix k ++ (an_and ∷ l)) K ∙
    steps_postfix k (an_and ∷ l) (j ∷ K)
steps_postfix (either j k) l K =
    ap (λ m. steps m K) (append_assoc (postfix j) (postfix k ++ (an_or ∷ [])) l ∙ ap (λ m. postfix j ++ m) (append_assoc (postfix k) (an_or ∷ []) l)) ∙
    steps_postfix j (postfix k ++ (an_or ∷ l)) K ∙
    steps_postfix k (an_or ∷ l) (j ∷ K)

steps_one : (s : Step) (p : ℕ) (l : List Item) (K : List Phrase) → steps (of_step s p ++ l) K ≡ placed p s ∷ steps l K
steps_one (source w) p l K = refl
steps_one (select k) p l K = ap (λ m. steps m K) (append_assoc (postfix k) (a_select p ∷ []) l) ∙ steps_postfix k (a_select p ∷ l) K
steps_one (drop w v) p l K = refl
steps_one (rename w v) p l K = refl
steps_one join p l K = refl

pub steps_items : (S : List Placed) (l : List Item) (K : List Phrase) → steps (items_of S ++ l) K ≡ S ++ steps l K
steps_items [] l K = refl
steps_items (x ∷ S) l K =
    ap (λ m. steps m K) (append_assoc (of_step x.step x.place) (items_of S) l) ∙
    steps_one x.step x.place (items_of S ++ l) K ∙
    ap (λ T. x ∷ T) (steps_items S l K)

pub follow : (a b : List Item) (r : Read) → following (a ++ b) r ≡ following a (following b r)
follow a b r = ap (λ l. reads l r.fault) (append_assoc a b r.items)

-- a completed item comes before what else is given
after_on : (i : Item) (x : Taken) (more : List Want → Read) → go_on (after i x) more ≡ following (i ∷ []) (go_on x more)
after_on i (goes l K) more = refl
after_on i (stops l f) more = refl

pub run_complete : (e : ℕ) (i : Item) (K : List Want) (s : List Token) → run e (complete i ∷ K) s ≡ following (i ∷ []) (run e K s)
run_complete e i K [] = refl
run_complete e i K (t ∷ s) = after_on i (takes K t.place t.sign) (λ M. run e M s)

-- the rest does not begin with a keyword
abbrev pub Past : Keyword → List Token → Type 0
Past k [] = Unit {0}
Past k (t ∷ r) = is_key k t.sign ≡ false

pop_and : (e d : ℕ) (K : List Want) (r : List Token) → Past AND r → run e (more_and d ∷ K) r ≡ run e K r
pop_and e d K [] h = refl
pop_and e d K (t ∷ r) h = ap (λ b. go_on (cond b (goes [] (a_neg d ∷ complete an_and ∷ more_and d ∷ K)) (takes K t.place t.sign)) (λ M. run e M r)) h

pop_or : (e d : ℕ) (K : List Want) (r : List Token) → Past OR r → run e (more_or d ∷ K) r ≡ run e K r
pop_or e d K [] h = refl
pop_or e d K (t ∷ r) h = ap (λ b. go_on (cond b (goes [] (a_neg d ∷ more_and d ∷ complete an_or ∷ more_or d ∷ K)) (takes K t.place t.sign)) (λ M. run e M r)) h

abbrev Traced : Part → ℕ → List Token → List Token → Phrase → Type 0
Traced neg d s r k = (e : ℕ) (K : List Want) → run e (a_neg d ∷ K) s ≡ following (postfix k) (run e K r)
Traced conj d s r k = (e : ℕ) (K : List Want) → run e (a_neg d ∷ more_and d ∷ K) s ≡ following (postfix k) (run e (more_and d ∷ K) r)
Traced condition d s r k = Past AND r → (e : ℕ) (K : List Want) → run e (a_condition d K) s ≡ following (postfix k) (run e (more_or d ∷ K) r)

on_operand_is : (e p : ℕ) (K : List Want) (r : List Token) (w : List ℕ) (c : Comparison) (x : Sign) (t : Term) → Operand x t → run e (an_operand w c ∷ K) (at p x ∷ r) ≡ following (leaf w c t ∷ []) (run e K r)
on_operand_is e p K r w c _ _ (a_word {w = v} h) = ap (λ b. go_on (cond b (goes (leaf w c (named v) ∷ []) K) (stop 3 p)) (λ M. run e M r)) (le-leb (length v) 12 h)
on_operand_is e p K r w c _ t (a_cell (a_number h)) = ap (λ b. go_on (cond b (goes (leaf w c t ∷ []) K) (stop 3 p)) (λ M. run e M r)) (le-leb _ greatest h)
on_operand_is e p K r w c _ _ (a_cell (a_text {b = n} h)) = ap (λ b. go_on (cond b (goes (leaf w c (given (text n)) ∷ []) K) (stop 3 p)) (λ M. run e M r)) h

trace_neg : (e d p q o : ℕ) (K : List Want) (r : List Token) (w : List ℕ) (c : Comparison) (x : Sign) (t : Term) → Short w → Operand x t → run e (a_neg d ∷ K) (at p (word w) ∷ at q (comparing c) ∷ at o x ∷ r) ≡ following (leaf w c t ∷ []) (run e K r)
trace_neg e d p q o K r w c x t h y =
    ap (λ b. go_on (cond b (goes [] (an_op w ∷ K)) (stop 3 p)) (λ M. run e M (at q (comparing c) ∷ at o x ∷ r))) (le-leb (length w) 12 h) ∙
    on_operand_is e o K r w c x t y

-- reading goes over the signs of a derivation
pub trace : {g : Part} {d : ℕ} {s r : List Token} {k : Phrase} → Says g d s r k → Traced g d s r k
trace (comparison {d = d} {p = p} {q = q} {o = o} {w = w} {c = c} {x = x} {t = t} {r = r} h y) = λ e K. trace_neg e d p q o K r w c x t h y
trace (negation {d = d} {r = r} {k = k} x) =
    λ e K.
    trace x e (complete a_not ∷ K) ∙
    ap (following (postfix k)) (run_complete e a_not K r) ∙
    sym (follow (postfix k) (a_not ∷ []) (run e K r))
trace (brackets {d = d} {q = q} {r = r} {k = k} x) =
    λ e K.
    trace x refl e (a_closing ∷ complete a_bracket ∷ K) ∙
    ap (following (postfix k)) (run_complete e a_bracket K r) ∙
    sym (follow (postfix k) (a_bracket ∷ []) (run e K r))
trace (one_neg {d = d} x) = λ e K. trace x e (more_and d ∷ K)
trace (and_neg {d = d} {r = r} {k = k} {l = l} x y) =
    λ e K.
    trace x e K ∙
    ap (following (postfix k)) (trace y e (complete an_and ∷ more_and d ∷ K) ∙ ap (following (postfix l)) (run_complete e an_and (more_and d ∷ K) r) ∙ sym (follow (postfix l) (an_and ∷ []) (run e (more_and d ∷ K) r))) ∙
    sym (follow (postfix k) (postfix l ++ (an_and ∷ [])) (run e (more_and d ∷ K) r))
trace (one_conj {d = d} {r = r} {k = k} x) = λ h e K. trace x e (more_or d ∷ K) ∙ ap (following (postfix k)) (pop_and e d (more_or d ∷ K) r h)
trace (or_conj {d = d} {r = r} {k = k} {l = l} x y) =
    λ h e K.
    trace x refl e K ∙
    ap (following (postfix k)) (trace y e (complete an_or ∷ more_or d ∷ K) ∙ ap (following (postfix l)) (pop_and e d (complete an_or ∷ more_or d ∷ K) r h ∙ run_complete e an_or (more_or d ∷ K) r) ∙ sym (follow (postfix l) (an_or ∷ []) (run e (more_or d ∷ K) r))) ∙
    sym (follow (postfix k) (postfix l ++ (an_or ∷ [])) (run e (more_or d ∷ K) r))

-- the rest does not go on with a condition
abbrev pub Free : List Token → Type 0
Free r = Past AND r × Past OR r

abbrev TracedPiece : Piece → ℕ → List Token → List Token → List Placed → Type 0
TracedPiece the_source d s r S = (e : ℕ) (K : List Want) → run e (a_source d ∷ K) s ≡ following (items_of S) (run e K r)
TracedPiece definition d s r S = Free r → (e : ℕ) (K : List Want) → run e (a_definition d K) s ≡ following (items_of S) (run e (more_steps d ∷ K) r)
TracedPiece the_step d s r S = Free r → (e : ℕ) (K : List Want) → run e (more_steps d ∷ K) s ≡ following (items_of S) (run e (more_steps d ∷ K) r)

step_free : {d : ℕ} {s r : List Token} {T : List Placed} → Defines the_step d s r T → Free s
step_free (joining x) = (refl, refl)
step_free (selecting x) = (refl, refl)
step_free (dropping h x) = (refl, refl)
step_free (renaming h g) = (refl, refl)

on_cell_is : (e p q : ℕ) (K : List Want) (r : List Token) (w : List ℕ) (x : Sign) (v : Value) → Cell x v → run e (drop_cell q w ∷ K) (at p x ∷ r) ≡ following (a_step (placed q (drop w v)) ∷ []) (run e K r)
on_cell_is e p q K r w _ v (a_number h) = ap (λ b. go_on (cond b (goes (a_step (placed q (drop w v)) ∷ []) K) (stop 3 p)) (λ M. run e M r)) (le-leb _ greatest h)
on_cell_is e p q K r w _ _ (a_text {b = n} h) = ap (λ b. go_on (cond b (goes (a_step (placed q (drop w (text n))) ∷ []) K) (stop 3 p)) (λ M. run e M r)) h

trace_drop : (e p q o t : ℕ) (K : List Want) (r : List Token) (w : List ℕ) (x : Sign) (v : Value) → Short w → Cell x v → run e (drop_column p ∷ K) (at q (word w) ∷ at o (key DEFAULT) ∷ at t x ∷ r) ≡ following (a_step (placed p (drop w v)) ∷ []) (run e K r)
trace_drop e p q o t K r w x v h y =
    ap (λ b. go_on (cond b (goes [] (drop_default p w ∷ K)) (stop 3 q)) (λ M. run e M (at o (key DEFAULT) ∷ at t x ∷ r))) (le-leb (length w) 12 h) ∙
    on_cell_is e t p K r w x v y

trace_rename : (e p q o t : ℕ) (K : List Want) (r : List Token) (w v : List ℕ) → Short w → Short v → run e (rename_column p ∷ K) (at q (word w) ∷ at o (key AS) ∷ at t (word v) ∷ r) ≡ following (a_step (placed p (rename w v)) ∷ []) (run e K r)
trace_rename e p q o t K r w v h g =
    ap (λ b. go_on (cond b (goes [] (rename_as p w ∷ K)) (stop 3 q)) (λ M. run e M (at o (key AS) ∷ at t (word v) ∷ r))) (le-leb (length w) 12 h) ∙
    ap (λ b. go_on (cond b (goes (a_step (placed p (rename w v)) ∷ []) K) (stop 3 t)) (λ M. run e M r)) (le-leb (length v) 12 g)

pub trace_piece : {g : Piece} {d : ℕ} {s r : List Token} {S : List Placed} → Defines g d s r S → TracedPiece g d s r S
trace_piece (table {p = p} {w = w} {r = r} h) = λ e K. ap (λ b. go_on (cond b (goes (a_step (placed p (source w)) ∷ []) K) (stop 3 p)) (λ M. run e M r)) (le-leb (length w) 12 h)
trace_piece (nested x) = λ e K. trace_piece x (refl, refl) e (a_closing ∷ K)
trace_piece (one_source {d = d} x) = λ h e K. trace_piece x e (more_steps d ∷ K)
trace_piece (one_step {d = d} {r = r} {S = S} {T = T} x y) =
    λ h e K.
    trace_piece x (step_free y) e K ∙
    ap (following (items_of S)) (trace_piece y h e K) ∙
    sym (follow (items_of S) (items_of T) (run e (more_steps d ∷ K) r)) ∙
    ap (λ l. following l (run e (more_steps d ∷ K) r)) (sym (items_append S T))
trace_piece (joining {d = d} {p = p} {r = r} {S = S} x) =
    λ h e K.
    trace_piece x e (complete (a_step (placed p join)) ∷ more_steps d ∷ K) ∙
    ap (following (items_of S)) (run_complete e (a_step (placed p join)) (more_steps d ∷ K) r) ∙
    sym (follow (items_of S) (a_step (placed p join) ∷ []) (run e (more_steps d ∷ K) r)) ∙
    ap (λ l. following l (run e (more_steps d ∷ K) r)) (sym (items_append S (placed p join ∷ [])))
trace_piece (selecting {d = d} {p = p} {r = r} {k = k} x) =
    λ h e K.
    trace x h.0 e (complete (a_select p) ∷ more_steps d ∷ K) ∙
    ap (following (postfix k)) (pop_or e d (complete (a_select p) ∷ more_steps d ∷ K) r h.1 ∙ run_complete e (a_select p) (more_steps d ∷ K) r) ∙
    sym (follow (postfix k) (a_select p ∷ []) (run e (more_steps d ∷ K) r)) ∙
    ap (λ l. following l (run e (more_steps d ∷ K) r)) (sym (append-nil (postfix k ++ (a_select p ∷ []))))
trace_piece (dropping {d = d} {p = p} {q = q} {o = o} {t = t} {w = w} {x = x} {v = v} {r = r} h y) = λ f e K. trace_drop e p q o t (more_steps d ∷ K) r w x v h y
trace_piece (renaming {d = d} {p = p} {q = q} {o = o} {t = t} {w = w} {v = v} {r = r} h g) = λ f e K. trace_rename e p q o t (more_steps d ∷ K) r w v h g

-- what reading gives of a whole condition, and of a whole definition
pub run_condition : {d : ℕ} {s : List Token} {k : Phrase} → Says condition d s [] k → (e : ℕ) → run e (a_condition d []) s ≡ reads (postfix k ++ []) None
run_condition x e = trace x tt e []

pub run_definition : {d : ℕ} {s : List Token} {S : List Placed} → Defines definition d s [] S → (e : ℕ) → run e (a_definition d []) s ≡ reads (items_of S ++ []) None
run_definition x e = trace_piece x (tt, tt) e []
