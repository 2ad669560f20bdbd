-- The steps that are complete where reading stops.
use Rattle.std.proofs.Common.{◌≡◌, ℕ, zero, suc, Bool, true, false, cond, leb, List, [], ◌∷◌, ◌++◌, length, Some, None, Option, sym, refl, ap, ◌∙◌, subst, inl, inr, append_assoc, append-nil}
use Rattle.model.specs.Faults.{Fault, fault}
use Rattle.grammar.specs.Signs.{Sign, key, Keyword, AND, AS, DEFAULT, DROP, JOIN, NOT, OR, RENAME, SELECT, Token, signs}
use Rattle.grammar.specs.Phrases.{Phrase, both, either, negated, bracket, source, drop, rename, join, Placed, placed}
use Rattle.grammar.specs.Grammar.{Defines, definition}
use Rattle.grammar.specs.Reading.{Item, leaf, a_not, a_bracket, an_and, an_or, a_select, a_step, Want, a_neg, more_and, more_or, a_source, more_steps, an_op, an_operand, a_closing, drop_column, rename_column, drop_default, drop_cell, rename_as, rename_word, complete, Taken, goes, stops, after, stop, lacks, is_key, is_opening, is_closing, deeper, a_condition, a_definition, takes, Read, reads, following, go_on, at_end, run, trees, steps, pair_up, over, chosen, used, definition_steps}
use Rattle.derivations.specs.Refused.{definitions}
use Rattle.derivations.specs.StepsSoFar.{NoFurther, StopsAfter, NoAndOr, StepsSoFar}
use Rattle.derivations.proofs.Tracing.{items_of, steps_items, run_definition}
use Rattle.derivations.proofs.Taking.{key_is}
use Rattle.derivations.proofs.Filling.{no_fault}
use Rattle.derivations.proofs.Deepening.{climb, climb_turn, deeper_definition}
use Rattle.derivations.proofs.Along.{by_word, by_cell, by_operand, by_comparing}
use Rattle.derivations.proofs.Raising.{up, Goes}
use Rattle.derivations.proofs.Passing.{Passes, here, next, run_passes, ups, start, raised, begins, goes_begins, passed, begins_passed, stopped}
use Rattle.derivations.proofs.Refusing.{stops_none}

-- the items that are complete where no sign comes that is wanted
abbrev pending : List Want → List Item
pending [] = []
pending (a_neg d ∷ K) = []
pending (an_op w ∷ K) = []
pending (an_operand w c ∷ K) = []
pending (more_and d ∷ K) = pending K
pending (more_or d ∷ K) = pending K
pending (a_closing ∷ K) = []
pending (a_source d ∷ K) = []
pending (more_steps d ∷ K) = pending K
pending (drop_column q ∷ K) = []
pending (drop_default q w ∷ K) = []
pending (drop_cell q w ∷ K) = []
pending (rename_column q ∷ K) = []
pending (rename_as q w ∷ K) = []
pending (rename_word q w ∷ K) = []
pending (complete i ∷ K) = i ∷ pending K

pending_up : (K : List Want) → pending (up K) ≡ pending K
pending_up [] = refl
pending_up (a_neg d ∷ K) = refl
pending_up (an_op w ∷ K) = refl
pending_up (an_operand w c ∷ K) = refl
pending_up (more_and d ∷ K) = pending_up K
pending_up (more_or d ∷ K) = pending_up K
pending_up (a_closing ∷ K) = refl
pending_up (a_source d ∷ K) = refl
pending_up (more_steps d ∷ K) = pending_up K
pending_up (drop_column q ∷ K) = refl
pending_up (drop_default q w ∷ K) = refl
pending_up (drop_cell q w ∷ K) = refl
pending_up (rename_column q ∷ K) = refl
pending_up (rename_as q w ∷ K) = refl
pending_up (rename_word q w ∷ K) = refl
pending_up (complete i ∷ K) = ap (λ l. i ∷ l) (pending_up K)

pending_ups : (j : ℕ) (K : List Want) → pending (ups j K) ≡ pending K
pending_ups zero K = refl
pending_ups (suc j) K = pending_up (ups j K) ∙ pending_ups j K

pending_end : (e : ℕ) (K : List Want) → (at_end e K).items ≡ pending K
pending_end e [] = refl
pending_end e (a_neg d ∷ K) = refl
pending_end e (an_op w ∷ K) = refl
pending_end e (an_operand w c ∷ K) = refl
pending_end e (more_and d ∷ K) = pending_end e K
pending_end e (more_or d ∷ K) = pending_end e K
pending_end e (a_closing ∷ K) = refl
pending_end e (a_source d ∷ K) = refl
pending_end e (more_steps d ∷ K) = pending_end e K
pending_end e (drop_column q ∷ K) = refl
pending_end e (drop_default q w ∷ K) = refl
pending_end e (drop_cell q w ∷ K) = refl
pending_end e (rename_column q ∷ K) = refl
pending_end e (rename_as q w ∷ K) = refl
pending_end e (rename_word q w ∷ K) = refl
pending_end e (complete i ∷ K) = ap (λ l. i ∷ l) (pending_end e K)

-- after the steps of a definition nothing becomes complete before the next sign
abbrev Closed : List Want → Type 0
Closed [] = Unit {0}
Closed (a_neg d ∷ K) = Closed K
Closed (an_op w ∷ K) = Closed K
Closed (an_operand w c ∷ K) = Closed K
Closed (more_and d ∷ K) = Closed K
Closed (more_or d ∷ K) = Closed K
Closed (a_closing ∷ K) = Closed K
Closed (a_source d ∷ K) = Closed K
Closed (more_steps d ∷ K) = (pending K ≡ []) × Closed K
Closed (drop_column q ∷ K) = Closed K
Closed (drop_default q w ∷ K) = Closed K
Closed (drop_cell q w ∷ K) = Closed K
Closed (rename_column q ∷ K) = Closed K
Closed (rename_as q w ∷ K) = Closed K
Closed (rename_word q w ∷ K) = Closed K
Closed (complete i ∷ K) = Closed K

-- what is wanted stays so, and a fault comes after the items P
abbrev Good : List Item → Taken → Type 0
Good P (goes l M) = Closed M
Good P (stops l f) = l ≡ P

abbrev Bare : Taken → Taken → Type 0
Bare x y = Good [] x

bare_stop : (n p : ℕ) → Bare (stop n p) (stop n p)
bare_stop n p = refl

good_cond : (P : List Item) (b : Bool) (x y : Taken) → Good P x → Good P y → Good P (cond b x y)
good_cond P true x y h g = h
good_cond P false x y h g = g

good_deeper : (p d : ℕ) (k : ℕ → Taken) → ((e : ℕ) → Good [] (k e)) → Good [] (deeper p d k)
good_deeper p zero k h = refl
good_deeper p (suc d) k h = h d

good_after : (P : List Item) (i : Item) (x : Taken) → Good P x → Good (i ∷ P) (after i x)
good_after P i (goes l M) h = h
good_after P i (stops l f) h = ap (λ m. i ∷ m) h

good_takes : (K : List Want) → Closed K → (p : ℕ) (s : Sign) → Good (pending K) (takes K p s)
good_takes [] h p s = refl
good_takes (a_neg d ∷ K) h p s =
    good_cond [] (is_key NOT s) _ _ (good_deeper p d (λ e. goes [] (a_neg e ∷ complete a_not ∷ K)) (λ e. h))
    (good_cond [] (is_opening s) _ _ (good_deeper p d (λ e. goes [] (a_condition e (a_closing ∷ complete a_bracket ∷ K))) (λ e. h))
    (by_word Bare bare_stop p s (λ w. goes [] (an_op w ∷ K)) (λ w. goes [] (an_op w ∷ K)) (λ w. h)))
good_takes (an_op w ∷ K) h p s = by_comparing Bare bare_stop p s (λ c. goes [] (an_operand w c ∷ K)) (λ c. goes [] (an_operand w c ∷ K)) (λ c. h)
good_takes (an_operand w c ∷ K) h p s = by_operand Bare bare_stop p s (λ x. goes (leaf w c x ∷ []) K) (λ x. goes (leaf w c x ∷ []) K) (λ x. h)
good_takes (more_and d ∷ K) h p s = good_cond (pending K) (is_key AND s) (goes [] (a_neg d ∷ complete an_and ∷ more_and d ∷ K)) (takes K p s) h (good_takes K h p s)
good_takes (more_or d ∷ K) h p s = good_cond (pending K) (is_key OR s) (goes [] (a_neg d ∷ more_and d ∷ complete an_or ∷ more_or d ∷ K)) (takes K p s) h (good_takes K h p s)
good_takes (a_closing ∷ K) h p s = good_cond [] (is_closing s) (goes [] K) (lacks p) h refl
good_takes (a_source d ∷ K) h p s =
    good_cond [] (is_opening s) _ _ (good_deeper p d (λ e. goes [] (a_definition e (a_closing ∷ K))) (λ e. (refl, h)))
    (by_word Bare bare_stop p s (λ w. goes (a_step (placed p (source w)) ∷ []) K) (λ w. goes (a_step (placed p (source w)) ∷ []) K) (λ w. h))
good_takes (more_steps d ∷ K) h p s =
    good_cond (pending K) (is_key JOIN s) (goes [] (a_source d ∷ complete (a_step (placed p join)) ∷ more_steps d ∷ K)) _ h
    (good_cond (pending K) (is_key SELECT s) (goes [] (a_condition d (complete (a_select p) ∷ more_steps d ∷ K))) _ h
    (good_cond (pending K) (is_key DROP s) (goes [] (drop_column p ∷ more_steps d ∷ K)) _ h
    (good_cond (pending K) (is_key RENAME s) (goes [] (rename_column p ∷ more_steps d ∷ K)) (takes K p s) h (good_takes K h.1 p s))))
good_takes (drop_column q ∷ K) h p s = by_word Bare bare_stop p s (λ w. goes [] (drop_default q w ∷ K)) (λ w. goes [] (drop_default q w ∷ K)) (λ w. h)
good_takes (drop_default q w ∷ K) h p s = good_cond [] (is_key DEFAULT s) (goes [] (drop_cell q w ∷ K)) (lacks p) h refl
good_takes (drop_cell q w ∷ K) h p s = by_cell Bare bare_stop p s (λ v. goes (a_step (placed q (drop w v)) ∷ []) K) (λ v. goes (a_step (placed q (drop w v)) ∷ []) K) (λ v. h)
good_takes (rename_column q ∷ K) h p s = by_word Bare bare_stop p s (λ w. goes [] (rename_as q w ∷ K)) (λ w. goes [] (rename_as q w ∷ K)) (λ w. h)
good_takes (rename_as q w ∷ K) h p s = good_cond [] (is_key AS s) (goes [] (rename_word q w ∷ K)) (lacks p) h refl
good_takes (rename_word q w ∷ K) h p s = by_word Bare bare_stop p s (λ v. goes (a_step (placed q (rename w v)) ∷ []) K) (λ v. goes (a_step (placed q (rename w v)) ∷ []) K) (λ v. h)
good_takes (complete i ∷ K) h p s = good_after (pending K) i (takes K p s) (good_takes K h p s)

closed_passes : {K N : List Want} {l : List Token} {L : List Item} → Passes K l L N → Closed K → Closed N
closed_passes here h = h
closed_passes (next {K = K} {t = t} e x) h = closed_passes x (subst (Good (pending K)) e (good_takes K h t.place t.sign))

-- a sign that is taken, and is no `and` and no `or`, comes after what is pending
abbrev Front : List Item → Taken → Type 0
Front P (goes l M) = (Y : List Item) × (l ≡ P ++ Y)
Front P (stops l f) = Unit {0}

front_nil : (x : Taken) → Front [] x
front_nil (goes l M) = (l, refl)
front_nil (stops l f) = tt

front_after : (P : List Item) (i : Item) (x : Taken) → Front P x → Front (i ∷ P) (after i x)
front_after P i (goes l M) h = (h.0, ap (λ m. i ∷ m) h.1)
front_after P i (stops l f) h = tt

front_takes : (K : List Want) → Closed K → (p : ℕ) (s : Sign) → is_key AND s ≡ false → is_key OR s ≡ false → Front (pending K) (takes K p s)
front_takes [] h p s a o = tt
front_takes (a_neg d ∷ K) h p s a o = front_nil (takes (a_neg d ∷ K) p s)
front_takes (an_op w ∷ K) h p s a o = front_nil (takes (an_op w ∷ K) p s)
front_takes (an_operand w c ∷ K) h p s a o = front_nil (takes (an_operand w c ∷ K) p s)
front_takes (more_and d ∷ K) h p s a o = subst (λ b. Front (pending K) (cond b (goes [] (a_neg d ∷ complete an_and ∷ more_and d ∷ K)) (takes K p s))) (sym a) (front_takes K h p s a o)
front_takes (more_or d ∷ K) h p s a o = subst (λ b. Front (pending K) (cond b (goes [] (a_neg d ∷ more_and d ∷ complete an_or ∷ more_or d ∷ K)) (takes K p s))) (sym o) (front_takes K h p s a o)
front_takes (a_closing ∷ K) h p s a o = front_nil (takes (a_closing ∷ K) p s)
front_takes (a_source d ∷ K) h p s a o = front_nil (takes (a_source d ∷ K) p s)
front_takes (more_steps d ∷ K) h p s a o = subst (λ P. Front P (takes (more_steps d ∷ K) p s)) (sym h.0) (front_nil (takes (more_steps d ∷ K) p s))
front_takes (drop_column q ∷ K) h p s a o = front_nil (takes (drop_column q ∷ K) p s)
front_takes (drop_default q w ∷ K) h p s a o = front_nil (takes (drop_default q w ∷ K) p s)
front_takes (drop_cell q w ∷ K) h p s a o = front_nil (takes (drop_cell q w ∷ K) p s)
front_takes (rename_column q ∷ K) h p s a o = front_nil (takes (rename_column q ∷ K) p s)
front_takes (rename_as q w ∷ K) h p s a o = front_nil (takes (rename_as q w ∷ K) p s)
front_takes (rename_word q w ∷ K) h p s a o = front_nil (takes (rename_word q w ∷ K) p s)
front_takes (complete i ∷ K) h p s a o = front_after (pending K) i (takes K p s) (front_takes K h p s a o)

not_key : (k : Keyword) (s : Sign) → (s ≡ key k → ⊥) → is_key k s ≡ false
not_key k s h = tell (is_key k s) refl
  where
    tell : (b : Bool) → is_key k s ≡ b → b ≡ false
    tell true e = absurd (h (key_is k s e))
    tell false e = refl

go_front : (P : List Item) (x : Taken) (more : List Want → Read) → Front P x → (go_on x more).fault ≡ None → (Y : List Item) × ((go_on x more).items ≡ P ++ Y)
go_front P (goes l M) more h e = (h.0 ++ (more M).items, ap (λ m. m ++ (more M).items) h.1 ∙ append_assoc P h.0 (more M).items)
go_front P (stops l f) more h e = absurd (no_fault refl e)

so_far : (e : ℕ) (K : List Want) (u : List Token) → Closed K → NoAndOr u → (run e K u).fault ≡ None → (Y : List Item) × ((run e K u).items ≡ pending K ++ Y)
so_far e K [] h n f = ([], pending_end e K ∙ sym (append-nil (pending K)))
so_far e K (t ∷ u) h n f =
    go_front (pending K) (takes K t.place t.sign) (λ M. run e M u) (front_takes K h t.place t.sign (not_key AND t.sign n.0) (not_key OR t.sign n.1)) f

-- what reading gives where it goes no further
halt : (x : Taken) (P : List Item) (more : List Want → Read) → Good P x → (Goes x → ⊥) → (go_on x more).items ≡ P
halt (goes l M) P more h n = absurd (n tt)
halt (stops l f) P more h n = h

halted : (e : ℕ) (l : List Token) {L : List Item} {N : List Want} → Passes (start definitions 8) l L N → Closed N → (m : List Token) → NoFurther l m → (run e N m).items ≡ pending N
halted e l {N = N} x h [] n = pending_end e N
halted e l {N = N} x h (t ∷ m) n = halt (takes N t.place t.sign) (pending N) (λ M. run e M m) (good_takes N h t.place t.sign) (λ g. n (goes_begins definitions 8 x t g))

-- the steps of some items and then some more
steps_append : (X Y : List Item) (K : List Phrase) → steps (X ++ Y) K ≡ steps X K ++ steps Y (trees X K)
steps_append [] Y K = refl
steps_append (leaf w c x ∷ X) Y K = steps_append X Y _
steps_append (a_not ∷ X) Y K = steps_append X Y (over negated K)
steps_append (a_bracket ∷ X) Y K = steps_append X Y (over bracket K)
steps_append (an_and ∷ X) Y K = steps_append X Y (pair_up both K)
steps_append (an_or ∷ X) Y K = steps_append X Y (pair_up either K)
steps_append (a_select p ∷ X) Y K = ap (λ S. chosen p K ++ S) (steps_append X Y (used K)) ∙ sym (append_assoc (chosen p K) (steps X (used K)) (steps Y (trees X (used K))))
steps_append (a_step s ∷ X) Y K = ap (λ S. s ∷ S) (steps_append X Y K)

module _ (l : List Token) (d : ℕ) (u : List Token) (S : List Placed) (free : NoAndOr u) (x : Defines definition d (l ++ u) [] S) {L : List Item} {N : List Want} (way : Passes (start definitions 8) l L N) where
  deep : Passes (start definitions (climb d 8)) l L (ups d N)
  deep = raised definitions d 8 way

  all : run 0 (start definitions (climb d 8)) (l ++ u) ≡ reads (items_of S ++ []) None
  all = run_definition (subst (λ n. Defines definition n (l ++ u) [] S) (climb_turn 8 d) (deeper_definition 8 x)) 0

  rest_is : following L (run 0 (ups d N) u) ≡ reads (items_of S ++ []) None
  rest_is = sym (run_passes deep 0 u) ∙ all

  rest : (Y : List Item) × ((run 0 (ups d N) u).items ≡ pending (ups d N) ++ Y)
  rest = so_far 0 (ups d N) u (closed_passes deep (refl, tt)) free (ap (λ r. r.fault) rest_is)

  all_items : items_of S ++ [] ≡ (L ++ pending N) ++ rest.0
  all_items =
      sym (ap (λ r. r.items) rest_is) ∙
      ap (λ m. L ++ m) (rest.1 ∙ ap (λ m. m ++ rest.0) (pending_ups d N)) ∙
      sym (append_assoc L (pending N) rest.0)

  all_steps : (T : List Placed) × (S ≡ steps (L ++ pending N) [] ++ T)
  all_steps =
      (steps rest.0 (trees (L ++ pending N) []), sym (steps_items S [] [] ∙ append-nil S) ∙ ap (λ m. steps m []) all_items ∙ steps_append (L ++ pending N) rest.0 [])

within_steps : (c : Bool) (r : Read) (S : List Placed) (I : List Item) → r.items ≡ I → (T : List Placed) × (S ≡ steps I [] ++ T) → (T : List Placed) × (S ≡ steps (cond c r (reads [] (fault 3 0 256))).items [] ++ T)
within_steps true r S I e h = (h.0, h.1 ∙ ap (λ m. steps m [] ++ h.0) (sym e))
within_steps false r S I e h = (S, refl)

-- every text has signs after which its reading stops
module _ (b : List ℕ) where
  at_last : {L : List Item} {N : List Want} → Passes (start definitions 8) (signs b) L N → (l : List Token) × StopsAfter b l
  at_last x = (signs b, record { rest = []; whole = sym (append-nil (signs b)); begun = begins definitions 8 x; further = tt })

  stops_somewhere : (o : Option Fault) → (run 0 (start definitions 8) (signs b)).fault ≡ o → (l : List Token) × StopsAfter b l
  stops_somewhere None e = at_last (passed (signs b) [] 0 (start definitions 8) (ap (λ s. (run 0 (start definitions 8) s).fault) (append-nil (signs b)) ∙ e)).way
  stops_somewhere (Some f) e =
      elim (stopped (signs b) 0 (start definitions 8) f e) [
        | inl r ↦ at_last r.way
        | inr r ↦ (r.front, record { rest = r.here ∷ r.rest; whole = r.whole; begun = begins definitions 8 r.way; further = stops_none definitions r.front r.way r.here r.met })
      ]

stops_first : (b : List ℕ) (l : List Token) → StopsAfter b l → (d : ℕ) (u : List Token) (S : List Placed) → NoAndOr u → Defines definition d (l ++ u) [] S → (T : List Placed) × (S ≡ definition_steps b ++ T)
stops_first b l s d u S free x =
    let p = begins_passed definitions 8 l s.begun in
    let h = closed_passes p.way (refl, tt) in
    within_steps (leb (length b) 256) (run (length b) (start definitions 8) (signs b)) S (p.items ++ pending p.wants)
    (ap (λ t. (run (length b) (start definitions 8) t).items) s.whole ∙ ap (λ r. r.items) (run_passes p.way (length b) s.rest) ∙ ap (λ m. p.items ++ m) (halted (length b) l p.way h s.rest s.further))
    (all_steps l d u S free x p.way)

pub steps_so_far : StepsSoFar
steps_so_far = ((λ b. stops_somewhere b (run 0 (start definitions 8) (signs b)).fault refl), stops_first)
