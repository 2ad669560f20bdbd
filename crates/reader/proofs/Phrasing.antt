-- What is said of a phrase, from what is said of its parts.
use Rattle.std.proofs.Common.{◌≡◌, ℕ, ◌≤◌, Bool, true, false, is_some, List, [], ◌∷◌, ◌++◌, length, Some, None, Option, Ok, Err, Result, sym, refl, ap, ◌∙◌, subst, Bor, arith}
use Rattle.std.proofs.lemmas.Bool.{both_ways}
use Rattle.std.proofs.lemmas.List.{append_assoc}
use Rattle.cells.specs.declared.faults.Refusal.{Refusal}
use Rattle.cells.specs.declared.faults.Refusal.TheVariants.{Fault, Memory}
use Rattle.grammar.specs.Signs.{Sign, Token, AND, OR}
use Rattle.grammar.specs.Phrases as grammar
use Rattle.grammar.specs.Phrases.{Term, compared, negated, bracket, both, either}
use Rattle.grammar.specs.Reading.{Item, a_not, a_bracket, an_and, an_or, Want, Taken, goes, a_neg, a_closing, complete, more_and, more_or, is_key, is_closing, Read, following, steps}
use Rattle.phrases.specs.Written.{ByWord, phrase}
use Rattle.conditions.specs.declared.trees.Formula.{Formula}
use Rattle.signs.specs.Reached.{signs_at, Found, Lacking, Taken as Tried}
use Rattle.reader.specs.Saying.{from, Awaits, Next, postfix, Said, on_test}
use Rattle.reader.proofs.Running.{and_found, complete_run, following_all, or_found}

-- a condition's items leave its tree
pub steps_postfix : (k : grammar.Phrase) (l : List Item) (S : List grammar.Phrase) → steps (postfix k ++ l) S ≡ steps l (k ∷ S)
steps_postfix (compared w c t) l S = refl
steps_postfix (negated k) l S = ap (λ m. steps m S) (append_assoc (postfix k) (a_not ∷ []) l) ∙ steps_postfix k (a_not ∷ l) S
steps_postfix (bracket k) l S = ap (λ m. steps m S) (append_assoc (postfix k) (a_bracket ∷ []) l) ∙ steps_postfix k (a_bracket ∷ l) S
steps_postfix (both k m) l S =
    ap (λ n. steps n S) (append_assoc (postfix k) (postfix m ++ (an_and ∷ [])) l ∙ ap (λ n. postfix k ++ n) (append_assoc (postfix m) (an_and ∷ []) l))
    ∙ (steps_postfix k (postfix m ++ (an_and ∷ l)) S ∙ steps_postfix m (an_and ∷ l) (k ∷ S))
steps_postfix (either k m) l S =
    ap (λ n. steps n S) (append_assoc (postfix k) (postfix m ++ (an_or ∷ [])) l ∙ ap (λ n. postfix k ++ n) (append_assoc (postfix m) (an_or ∷ []) l))
    ∙ (steps_postfix k (postfix m ++ (an_or ∷ l)) S ∙ steps_postfix m (an_or ∷ l) (k ∷ S))

-- a sign that is at fault
pub next_err : {A B : Type 0} (J : ℕ → Sign → (A → Taken) → Taken) (v : B → A) (b : List ℕ) (a z y : ℕ) (W : List Want → List Want) (k : List Want → A → Taken) → ((K : List Want) → Awaits (length b) (W K) J (k K) (signs_at b a)) → (e : Refusal) → Next J v b a (Err e) z → Said (λ K. from b a (W K)) b (Err e) y
next_err J v b a z y W k aw (Fault f) h = record { items = []; quiet = λ S. refl; stops = λ K. h (W K) (k K) (aw K) }
next_err J v b a z y W k aw Memory h = tt

pub closing_awaits : (e : ℕ) (K : List Want) (l : List Token) → Awaits e (a_closing ∷ K) (on_test is_closing) (λ u. goes [] K) l
closing_awaits e K [] = refl
closing_awaits e K (t ∷ l) = refl

pub closing_goes : (b : List ℕ) (a z : ℕ) → Next (on_test is_closing) (λ (u : Unit {0}). u) b a (Ok tt) z → (K : List Want) → from b a (a_closing ∷ K) ≡ from b z K
closing_goes b a z h K = h (a_closing ∷ K) (λ u. goes [] K) (closing_awaits (length b) K (signs_at b a))

-- a phrase, and then one item that stands over it
pub item_over : (start : List Want → Read) (b : List ℕ) (t u : Formula ByWord) (i : Item) (z : ℕ) → Said start b (Ok t) z → postfix (phrase u) ≡ postfix (phrase t) ++ (i ∷ []) → Said (λ K. start (complete i ∷ K)) b (Ok u) z
item_over start b t u i z h e =
    λ K. h (complete i ∷ K) ∙ (ap (following (postfix (phrase t))) (complete_run (length b) i K (signs_at b z)) ∙ (following_all (postfix (phrase t)) (i ∷ []) (from b z K) ∙ ap (λ l. following l (from b z K)) (sym e)))

-- a phrase, and then a fault
pub said_stops : (start : List Want → Read) (b : List ℕ) (t : Formula ByWord) (X : List Want → List Want) (m z : ℕ) (e : Refusal) → Said start b (Ok t) m → Said (λ K. from b m (X K)) b (Err e) z → Said (λ K. start (X K)) b (Err e) z
said_stops start b t X m z (Fault f) h g =
    record { items = postfix (phrase t) ++ g.items; quiet = λ S. steps_postfix (phrase t) g.items S ∙ g.quiet (phrase t ∷ S); stops = λ K. h (X K) ∙ ap (following (postfix (phrase t))) (g.stops K) }
said_stops start b t X m z Memory h g = tt

-- a phrase is read before w is wanted
abbrev pub Before : (List Want → Read) → List ℕ → grammar.Phrase → Want → ℕ → Type 0
Before start b k w z = (K : List Want) → start K ≡ following (postfix k) (from b z (w ∷ K))

-- w is met at z: the item i stands over what is read so far and what N wants
abbrev pub Met : List ℕ → Want → Item → (List Want → List Want) → ℕ → ℕ → Type 0
Met b w i N z m = (K : List Want) → from b z (w ∷ K) ≡ from b m (N (complete i ∷ w ∷ K))

pub one_more : (start : List Want → Read) (b : List ℕ) (w : Want) (i : Item) (N : List Want → List Want) (k t : grammar.Phrase) (l : Formula ByWord) (z m n : ℕ) → Before start b k w z → Met b w i N z m → Said (λ K. from b m (N K)) b (Ok l) n → postfix t ≡ postfix k ++ (postfix (phrase l) ++ (i ∷ [])) → Before start b t w n
one_more start b w i N k t l z m n before met said whole K =
    let inner = met K ∙ (said (complete i ∷ w ∷ K) ∙ (ap (following (postfix (phrase l))) (complete_run (length b) i (w ∷ K) (signs_at b n)) ∙ following_all (postfix (phrase l)) (i ∷ []) (from b n (w ∷ K)))) in
    before K ∙ (ap (following (postfix k)) inner ∙ (following_all (postfix k) (postfix (phrase l) ++ (i ∷ [])) (from b n (w ∷ K)) ∙ ap (λ x. following x (from b n (w ∷ K))) (sym whole)))

pub more_stops : (start : List Want → Read) (b : List ℕ) (w : Want) (i : Item) (N : List Want → List Want) (k : grammar.Phrase) (z m n y : ℕ) (e : Refusal) → Before start b k w z → Met b w i N z m → Said (λ K. from b m (N K)) b (Err e) n → Said start b (Err e) y
more_stops start b w i N k z m n y (Fault f) before met g =
    record { items = postfix k ++ g.items; quiet = λ S. steps_postfix k g.items S ∙ g.quiet (k ∷ S); stops = λ K. before K ∙ ap (following (postfix k)) (met K ∙ g.stops (complete i ∷ w ∷ K)) }
more_stops start b w i N k z m n y Memory before met g = tt

-- an and, or an or, is passed
pub met_and : {x y : Bor (List ℕ)} (a d z : ℕ) (o : Option ℕ) → x ≡ y → true ≡ is_some o → Tried (is_key AND) x.now a o z → Met y.now (more_and d) an_and (λ K. a_neg d ∷ K) a z
met_and {y = y} a d z None e s h K = absurd (both_ways false refl (sym s))
met_and {y = y} a d z (Some p) e s h K = and_found y.now a p z d K (subst (λ t. Found (is_key AND) t.now a p z) e h)

pub met_or : {x y : Bor (List ℕ)} (a d z : ℕ) (o : Option ℕ) → x ≡ y → true ≡ is_some o → Tried (is_key OR) x.now a o z → Met y.now (more_or d) an_or (λ K. a_neg d ∷ more_and d ∷ K) a z
met_or {y = y} a d z None e s h K = absurd (both_ways false refl (sym s))
met_or {y = y} a d z (Some p) e s h K = or_found y.now a p z d K (subst (λ t. Found (is_key OR) t.now a p z) e h)

pub taken_after : (f : Sign → Bool) (b : List ℕ) (a z : ℕ) (o : Option ℕ) → Tried f b a o z → a ≤ z
taken_after f b a z None h = omega (arith, h.1)
taken_after f b a z (Some p) h = omega (arith, h.onward)

-- the same of the text behind an equal reference
pub next_moved : {A B : Type 0} {x y : Bor (List ℕ)} (J : ℕ → Sign → (A → Taken) → Taken) (v : B → A) (m : ℕ) (r : Result B Refusal) (z : ℕ) → x ≡ y → Next J v x.now m r z → Next J v y.now m r z
next_moved J v m r z e h = subst (λ t. Next J v t.now m r z) e h

pub said_moved : {x y : Bor (List ℕ)} (X : List Want → List Want) (m : ℕ) (r : Result (Formula ByWord) Refusal) (z : ℕ) → x ≡ y → Said (λ K. from x.now m (X K)) x.now r z → Said (λ K. from y.now m (X K)) y.now r z
said_moved X m r z e h = subst (λ t. Said (λ K. from t.now m (X K)) t.now r z) e h

pub closing_err : (b : List ℕ) (a z y : ℕ) (X : List Want → List Want) (e : Refusal) → Next (on_test is_closing) (λ (u : Unit {0}). u) b a (Err e) z → Said (λ K. from b a (a_closing ∷ X K)) b (Err e) y
closing_err b a z y X e h = next_err (on_test is_closing) (λ u. u) b a z y (λ K. a_closing ∷ X K) (λ K u. goes [] (X K)) (λ K. closing_awaits (length b) (X K) (signs_at b a)) e h

pub lacking_moved : {x y : Bor (List ℕ)} (f : Sign → Bool) (m a : ℕ) → x ≡ y → m ≡ a → Lacking f (signs_at x.now m) → Lacking f (signs_at y.now a)
lacking_moved {y = y} f m a e i h = subst (λ n. Lacking f (signs_at y.now n)) i (subst (λ t. Lacking f (signs_at t.now m)) e h)
