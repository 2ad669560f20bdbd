-- Each way in which a sign can be met, with what it says of other signs in its place.
use Rattle.std.proofs.Common.{◌≡◌, ℕ, zero, suc, Bool, true, false, cond, leb, List, [], ◌∷◌, length, sym, refl, ap, ◌∙◌, subst, inl, inr, arith}
use mathlib.Core.Bool.{false≢true}
use Rattle.model.specs.Values.{Value, num, text}
use Rattle.model.specs.Sorts.{is_text}
use Rattle.model.specs.Conditions.{Comparison}
use Rattle.grammar.specs.Signs.{Sign, word, number, quoted, key, comparing, opening, closing, stray, broken, Keyword, AND, AS, DEFAULT, DROP, JOIN, NOT, OR, RENAME, SELECT}
use Rattle.grammar.specs.Phrases.{Term, named, given, source, drop, rename, join, placed}
use Rattle.grammar.specs.Reading.{Item, leaf, a_not, a_bracket, an_and, an_or, a_select, a_step, Want, a_neg, more_and, more_or, a_source, more_steps, an_op, an_operand, a_closing, drop_column, rename_column, drop_default, drop_cell, rename_as, rename_word, complete, Taken, goes, stops, after, stop, lacks, is_key, is_opening, is_closing, on_word, on_cell, on_operand, on_comparing, deeper, a_condition, a_definition, take_step, takes}
use Rattle.derivations.specs.Refused.{Alike, words, numbers, texts, same, Meant, alike, mended, fault_at}
use Rattle.derivations.proofs.Taking.{key_is, opening_is}
use Rattle.derivations.proofs.Raising.{up, Goes, Up, up_takes, goes_after}
use Rattle.derivations.proofs.Passing.{ups}

-- refused at every depth
abbrev pub Firm : Taken → Type 0
Firm (goes l K) = ⊥
Firm (stops l f) = f.number ≡ 2 → ⊥

pub firm_lacks : (p : ℕ) → Firm (lacks p)
firm_lacks p e = omega arith

firm_after : (i : Item) (x : Taken) → Firm x → Firm (after i x)
firm_after i (goes l K) h = h
firm_after i (stops l f) h = h

firm_up : (x y : Taken) → Up x y → Firm x → Firm y
firm_up (goes l K) y h g = absurd g
firm_up (stops l f) y (inl h) g = subst Firm (sym h) g
firm_up (stops l f) y (inr h) g = absurd (g h.0)

pub firm_ups : (j : ℕ) (K : List Want) (p : ℕ) (s : Sign) → Firm (takes K p s) → Firm (takes (ups j K) p s)
firm_ups zero K p s h = h
firm_ups (suc j) K p s h = firm_up (takes (ups j K) p s) (takes (up (ups j K)) p s) (up_takes p (ups j K) s) (firm_ups j K p s h)

pub firm_goes : (x : Taken) → Firm x → Goes x → ⊥
firm_goes (goes l K) h g = h
firm_goes (stops l f) h g = g

pub data Met (K : List Want) (p : ℕ) (s : Sign) : Taken → Type 0 where
  m_goes : {l : List Item} {M : List Want} → Met K p s (goes l M)
  m_lacks : {l : List Item} → ((x : Sign) → Meant s x → (q : ℕ) → Firm (takes K q x)) → Met K p s (stops l (fault_at 1 p))
  m_broken : {l : List Item} {q : ℕ} (c : List ℕ) → s ≡ broken q → Goes (takes K p (quoted c)) → Met K p s (stops l (fault_at 1 q))
  m_deep : {l : List Item} → Goes (takes (up K) p s) → Met K p s (stops l (fault_at 2 p))
  m_large : {l : List Item} (x : Sign) → Alike s x → Goes (takes K p x) → Met K p s (stops l (fault_at 3 p))

met_goes : (K : List Want) (p : ℕ) (s : Sign) (x : Taken) → Goes x → Met K p s x
met_goes K p s (goes l M) h = m_goes
met_goes K p s (stops l f) h = absurd h

-- the tests of signs that are met alike
abbrev is_word : Sign → Bool
is_word (word w) = true
is_word (number b) = false
is_word (quoted b) = false
is_word (key j) = false
is_word (comparing c) = false
is_word opening = false
is_word closing = false
is_word stray = false
is_word (broken q) = false

abbrev is_cell : Sign → Bool
is_cell (word w) = false
is_cell (number b) = true
is_cell (quoted b) = true
is_cell (key j) = false
is_cell (comparing c) = false
is_cell opening = false
is_cell closing = false
is_cell stray = false
is_cell (broken q) = true

abbrev is_comparing : Sign → Bool
is_comparing (word w) = false
is_comparing (number b) = false
is_comparing (quoted b) = false
is_comparing (key j) = false
is_comparing (comparing c) = true
is_comparing opening = false
is_comparing closing = false
is_comparing stray = false
is_comparing (broken q) = false

-- a test that goes by what a sign may be meant as
abbrev Fair : (Sign → Bool) → Type 0
Fair f = (s x : Sign) → Meant s x → f x ≡ f s

fair_key : (k : Keyword) → Fair (is_key k)
fair_key k _ _ (alike words) = refl
fair_key k _ _ (alike numbers) = refl
fair_key k _ _ (alike texts) = refl
fair_key k _ _ (alike same) = refl
fair_key k _ _ mended = refl

fair_opening : Fair is_opening
fair_opening _ _ (alike words) = refl
fair_opening _ _ (alike numbers) = refl
fair_opening _ _ (alike texts) = refl
fair_opening _ _ (alike same) = refl
fair_opening _ _ mended = refl

fair_closing : Fair is_closing
fair_closing _ _ (alike words) = refl
fair_closing _ _ (alike numbers) = refl
fair_closing _ _ (alike texts) = refl
fair_closing _ _ (alike same) = refl
fair_closing _ _ mended = refl

fair_word : Fair is_word
fair_word _ _ (alike words) = refl
fair_word _ _ (alike numbers) = refl
fair_word _ _ (alike texts) = refl
fair_word _ _ (alike same) = refl
fair_word _ _ mended = refl

fair_cell : Fair is_cell
fair_cell _ _ (alike words) = refl
fair_cell _ _ (alike numbers) = refl
fair_cell _ _ (alike texts) = refl
fair_cell _ _ (alike same) = refl
fair_cell _ _ mended = refl

fair_comparing : Fair is_comparing
fair_comparing _ _ (alike words) = refl
fair_comparing _ _ (alike numbers) = refl
fair_comparing _ _ (alike texts) = refl
fair_comparing _ _ (alike same) = refl
fair_comparing _ _ mended = refl

no_word : (q : ℕ) (x : Sign) (k : List ℕ → Taken) → is_word x ≡ false → Firm (on_word q x k)
no_word q (word w) k h = absurd (false≢true (sym h))
no_word q (number b) k h = firm_lacks q
no_word q (quoted b) k h = firm_lacks q
no_word q (key j) k h = firm_lacks q
no_word q (comparing c) k h = firm_lacks q
no_word q opening k h = firm_lacks q
no_word q closing k h = firm_lacks q
no_word q stray k h = firm_lacks q
no_word q (broken o) k h = firm_lacks q

no_cell : (q : ℕ) (x : Sign) (k : Value → Taken) → is_cell x ≡ false → Firm (on_cell q x k)
no_cell q (word w) k h = firm_lacks q
no_cell q (number b) k h = absurd (false≢true (sym h))
no_cell q (quoted b) k h = absurd (false≢true (sym h))
no_cell q (key j) k h = firm_lacks q
no_cell q (comparing c) k h = firm_lacks q
no_cell q opening k h = firm_lacks q
no_cell q closing k h = firm_lacks q
no_cell q stray k h = firm_lacks q
no_cell q (broken o) k h = absurd (false≢true (sym h))

no_operand : (q : ℕ) (x : Sign) (k : Term → Taken) → is_word x ≡ false → is_cell x ≡ false → Firm (on_operand q x k)
no_operand q (word w) k h g = absurd (false≢true (sym h))
no_operand q (number b) k h g = absurd (false≢true (sym g))
no_operand q (quoted b) k h g = absurd (false≢true (sym g))
no_operand q (key j) k h g = firm_lacks q
no_operand q (comparing c) k h g = firm_lacks q
no_operand q opening k h g = firm_lacks q
no_operand q closing k h g = firm_lacks q
no_operand q stray k h g = firm_lacks q
no_operand q (broken o) k h g = absurd (false≢true (sym g))

no_comparing : (q : ℕ) (x : Sign) (k : Comparison → Taken) → is_comparing x ≡ false → Firm (on_comparing q x k)
no_comparing q (word w) k h = firm_lacks q
no_comparing q (number b) k h = firm_lacks q
no_comparing q (quoted b) k h = firm_lacks q
no_comparing q (key j) k h = firm_lacks q
no_comparing q (comparing c) k h = absurd (false≢true (sym h))
no_comparing q opening k h = firm_lacks q
no_comparing q closing k h = firm_lacks q
no_comparing q stray k h = firm_lacks q
no_comparing q (broken o) k h = firm_lacks q

-- a sign within its limit, or one that is too large
met_limit : (K : List Want) (p : ℕ) (s : Sign) (b : Bool) (y : Taken) (x : Sign) → Goes y → Alike s x → Goes (takes K p x) → Met K p s (cond b y (stop 3 p))
met_limit K p s true y x h a g = met_goes K p s y h
met_limit K p s false y x h a g = m_large x a g

-- K wants a word, after some tests that s fails
module _ (K : List Want) (p : ℕ) (k : ℕ → List ℕ → Taken) (good : (q : ℕ) (w : List ℕ) → Goes (k q w)) where
  abbrev AsWord : Sign → Type 0
  AsWord s = (x : Sign) → Meant s x → (q : ℕ) → takes K q x ≡ on_word q x (k q)

  not_a_word : (s : Sign) → AsWord s → is_word s ≡ false → (x : Sign) → Meant s x → (q : ℕ) → Firm (takes K q x)
  not_a_word s h e x m q = subst Firm (sym (h x m q)) (no_word q x (k q) (fair_word s x m ∙ e))

  met_word : (s : Sign) → AsWord s → Met K p s (on_word p s (k p))
  met_word (word w) h = met_limit K p (word w) (leb (length w) 12) (k p w) (word []) (good p w) words (subst Goes (sym (h (word []) (alike words) p)) (good p []))
  met_word (number b) h = m_lacks (not_a_word (number b) h refl)
  met_word (quoted b) h = m_lacks (not_a_word (quoted b) h refl)
  met_word (key j) h = m_lacks (not_a_word (key j) h refl)
  met_word (comparing c) h = m_lacks (not_a_word (comparing c) h refl)
  met_word opening h = m_lacks (not_a_word opening h refl)
  met_word closing h = m_lacks (not_a_word closing h refl)
  met_word stray h = m_lacks (not_a_word stray h refl)
  met_word (broken q) h = m_lacks (not_a_word (broken q) h refl)

-- K wants a cell
module _ (K : List Want) (p : ℕ) (k : ℕ → Value → Taken) (good : (q : ℕ) (v : Value) → Goes (k q v)) (h : (q : ℕ) (x : Sign) → takes K q x ≡ on_cell q x (k q)) where
  not_a_cell : (s : Sign) → is_cell s ≡ false → (x : Sign) → Meant s x → (q : ℕ) → Firm (takes K q x)
  not_a_cell s e x m q = subst Firm (sym (h q x)) (no_cell q x (k q) (fair_cell s x m ∙ e))

  met_cell : (s : Sign) → Met K p s (on_cell p s (k p))
  met_cell (word w) = m_lacks (not_a_cell (word w) refl)
  met_cell (number b) = met_limit K p (number b) _ _ (number []) (good p (num _)) numbers (subst Goes (sym (h p (number []))) (good p (num 0)))
  met_cell (quoted b) = met_limit K p (quoted b) (is_text b) (k p (text b)) (quoted (97 ∷ [])) (good p (text b)) texts (subst Goes (sym (h p (quoted (97 ∷ [])))) (good p (text (97 ∷ []))))
  met_cell (key j) = m_lacks (not_a_cell (key j) refl)
  met_cell (comparing c) = m_lacks (not_a_cell (comparing c) refl)
  met_cell opening = m_lacks (not_a_cell opening refl)
  met_cell closing = m_lacks (not_a_cell closing refl)
  met_cell stray = m_lacks (not_a_cell stray refl)
  met_cell (broken q) = m_broken (97 ∷ []) refl (subst Goes (sym (h p (quoted (97 ∷ [])))) (good p (text (97 ∷ []))))

-- K wants an operand
module _ (K : List Want) (p : ℕ) (k : ℕ → Term → Taken) (good : (q : ℕ) (t : Term) → Goes (k q t)) (h : (q : ℕ) (x : Sign) → takes K q x ≡ on_operand q x (k q)) where
  not_an_operand : (s : Sign) → is_word s ≡ false → is_cell s ≡ false → (x : Sign) → Meant s x → (q : ℕ) → Firm (takes K q x)
  not_an_operand s e f x m q = subst Firm (sym (h q x)) (no_operand q x (k q) (fair_word s x m ∙ e) (fair_cell s x m ∙ f))

  met_operand : (s : Sign) → Met K p s (on_operand p s (k p))
  met_operand (word w) = met_limit K p (word w) (leb (length w) 12) (k p (named w)) (word []) (good p (named w)) words (subst Goes (sym (h p (word []))) (good p (named [])))
  met_operand (number b) = met_limit K p (number b) _ _ (number []) (good p (given (num _))) numbers (subst Goes (sym (h p (number []))) (good p (given (num 0))))
  met_operand (quoted b) = met_limit K p (quoted b) (is_text b) (k p (given (text b))) (quoted (97 ∷ [])) (good p (given (text b))) texts (subst Goes (sym (h p (quoted (97 ∷ [])))) (good p (given (text (97 ∷ [])))))
  met_operand (key j) = m_lacks (not_an_operand (key j) refl refl)
  met_operand (comparing c) = m_lacks (not_an_operand (comparing c) refl refl)
  met_operand opening = m_lacks (not_an_operand opening refl refl)
  met_operand closing = m_lacks (not_an_operand closing refl refl)
  met_operand stray = m_lacks (not_an_operand stray refl refl)
  met_operand (broken q) = m_broken (97 ∷ []) refl (subst Goes (sym (h p (quoted (97 ∷ [])))) (good p (given (text (97 ∷ [])))))

-- K wants a comparing sign
module _ (K : List Want) (p : ℕ) (k : ℕ → Comparison → Taken) (good : (q : ℕ) (c : Comparison) → Goes (k q c)) (h : (q : ℕ) (x : Sign) → takes K q x ≡ on_comparing q x (k q)) where
  not_comparing : (s : Sign) → is_comparing s ≡ false → (x : Sign) → Meant s x → (q : ℕ) → Firm (takes K q x)
  not_comparing s e x m q = subst Firm (sym (h q x)) (no_comparing q x (k q) (fair_comparing s x m ∙ e))

  met_comparing : (s : Sign) → Met K p s (on_comparing p s (k p))
  met_comparing (word w) = m_lacks (not_comparing (word w) refl)
  met_comparing (number b) = m_lacks (not_comparing (number b) refl)
  met_comparing (quoted b) = m_lacks (not_comparing (quoted b) refl)
  met_comparing (key j) = m_lacks (not_comparing (key j) refl)
  met_comparing (comparing c) = met_goes K p (comparing c) (k p c) (good p c)
  met_comparing opening = m_lacks (not_comparing opening refl)
  met_comparing closing = m_lacks (not_comparing closing refl)
  met_comparing stray = m_lacks (not_comparing stray refl)
  met_comparing (broken q) = m_lacks (not_comparing (broken q) refl)

-- K wants one sign
met_one : (K M : List Want) (p : ℕ) (s : Sign) (f : Sign → Bool) → Fair f → ((q : ℕ) (x : Sign) → takes K q x ≡ cond (f x) (goes [] M) (lacks q)) → (b : Bool) → f s ≡ b → Met K p s (cond b (goes [] M) (lacks p))
met_one K M p s f fair h true e = m_goes
met_one K M p s f fair h false e =
    m_lacks (λ x m q. subst Firm (sym (h q x ∙ ap (λ b. cond b (goes [] M) (lacks q)) (fair s x m ∙ e))) (firm_lacks q))

-- what K' does not take itself it leaves to K
abbrev Leaves : List Want → List Want → Sign → Type 0
Leaves K' K s = (x : Sign) → Meant s x → (q : ℕ) → (takes K' q x ≡ takes K q x) × (takes (up K') q x ≡ takes (up K) q x)

met_past : (K' K : List Want) (p : ℕ) (s : Sign) (y : Taken) → Leaves K' K s → Met K p s y → Met K' p s y
met_past K' K p s _ h m_goes = m_goes
met_past K' K p s _ h (m_lacks f) = m_lacks (λ x m q. subst Firm (sym (h x m q).0) (f x m q))
met_past K' K p s _ h (m_broken {q = q} c e g) = m_broken c e (subst Goes (sym (h (quoted c) (subst (λ y. Meant y (quoted c)) (sym e) mended) p).0) g)
met_past K' K p s _ h (m_deep g) = m_deep (subst Goes (sym (h s (alike same) p).1) g)
met_past K' K p s _ h (m_large x a g) = m_large x a (subst Goes (sym (h x (alike a) p).0) g)

met_after : (i : Item) (K : List Want) (p : ℕ) (s : Sign) (y : Taken) → Met K p s y → Met (complete i ∷ K) p s (after i y)
met_after i K p s _ m_goes = m_goes
met_after i K p s _ (m_lacks f) = m_lacks (λ x m q. firm_after i (takes K q x) (f x m q))
met_after i K p s _ (m_broken c e g) = m_broken c e (goes_after i (takes K p (quoted c)) g)
met_after i K p s _ (m_deep g) = m_deep (goes_after i (takes (up K) p s) g)
met_after i K p s _ (m_large x a g) = m_large x a (goes_after i (takes K p x) g)

if_not : (b : Bool) (x y : Taken) → b ≡ false → cond b x y ≡ y
if_not b x y h = ap (λ c. cond c x y) h

met_key : (K : List Want) (p : ℕ) (s x : Sign) (y : Taken) → s ≡ x → Met K p x y → Met K p s y
met_key K p s x y e h = subst (λ z. Met K p z y) (sym e) h

-- one that opens
met_not : (K : List Want) (p d : ℕ) → Met (a_neg d ∷ K) p (key NOT) (deeper p d (λ e. goes [] (a_neg e ∷ complete a_not ∷ K)))
met_not K p zero = m_deep tt
met_not K p (suc d) = m_goes

met_bracket : (K : List Want) (p d : ℕ) → Met (a_neg d ∷ K) p opening (deeper p d (λ e. goes [] (a_condition e (a_closing ∷ complete a_bracket ∷ K))))
met_bracket K p zero = m_deep tt
met_bracket K p (suc d) = m_goes

met_nested : (K : List Want) (p d : ℕ) → Met (a_source d ∷ K) p opening (deeper p d (λ e. goes [] (a_definition e (a_closing ∷ K))))
met_nested K p zero = m_deep tt
met_nested K p (suc d) = m_goes

met_neg : (d : ℕ) (K : List Want) (p : ℕ) (s : Sign) (a b : Bool) → is_key NOT s ≡ a → is_opening s ≡ b → Met (a_neg d ∷ K) p s (cond a (deeper p d (λ e. goes [] (a_neg e ∷ complete a_not ∷ K))) (cond b (deeper p d (λ e. goes [] (a_condition e (a_closing ∷ complete a_bracket ∷ K)))) (on_word p s (λ w. goes [] (an_op w ∷ K)))))
met_neg d K p s true b e f = met_key (a_neg d ∷ K) p s (key NOT) _ (key_is NOT s e) (met_not K p d)
met_neg d K p s false true e f = met_key (a_neg d ∷ K) p s opening _ (opening_is s f) (met_bracket K p d)
met_neg d K p s false false e f = met_word (a_neg d ∷ K) p (λ q w. goes [] (an_op w ∷ K)) (λ q w. tt) s (λ x m q. if_not (is_key NOT x) _ _ (fair_key NOT s x m ∙ e) ∙ if_not (is_opening x) _ _ (fair_opening s x m ∙ f))

met_source : (d : ℕ) (K : List Want) (p : ℕ) (s : Sign) (b : Bool) → is_opening s ≡ b → Met (a_source d ∷ K) p s (cond b (deeper p d (λ e. goes [] (a_definition e (a_closing ∷ K)))) (on_word p s (λ w. goes (a_step (placed p (source w)) ∷ []) K)))
met_source d K p s true f = met_key (a_source d ∷ K) p s opening _ (opening_is s f) (met_nested K p d)
met_source d K p s false f = met_word (a_source d ∷ K) p (λ q w. goes (a_step (placed q (source w)) ∷ []) K) (λ q w. tt) s (λ x m q. if_not (is_opening x) _ _ (fair_opening s x m ∙ f))

met_and : (d : ℕ) (K : List Want) (p : ℕ) (s : Sign) (b : Bool) → is_key AND s ≡ b → Met K p s (takes K p s) → Met (more_and d ∷ K) p s (cond b (goes [] (a_neg d ∷ complete an_and ∷ more_and d ∷ K)) (takes K p s))
met_and d K p s true e h = m_goes
met_and d K p s false e h = met_past (more_and d ∷ K) K p s (takes K p s) (λ x m q. (if_not (is_key AND x) _ _ (fair_key AND s x m ∙ e), if_not (is_key AND x) _ _ (fair_key AND s x m ∙ e))) h

met_or : (d : ℕ) (K : List Want) (p : ℕ) (s : Sign) (b : Bool) → is_key OR s ≡ b → Met K p s (takes K p s) → Met (more_or d ∷ K) p s (cond b (goes [] (a_neg d ∷ more_and d ∷ complete an_or ∷ more_or d ∷ K)) (takes K p s))
met_or d K p s true e h = m_goes
met_or d K p s false e h = met_past (more_or d ∷ K) K p s (takes K p s) (λ x m q. (if_not (is_key OR x) _ _ (fair_key OR s x m ∙ e), if_not (is_key OR x) _ _ (fair_key OR s x m ∙ e))) h

past_steps : (d q : ℕ) (x : Sign) (K : List Want) (y : Taken) → is_key JOIN x ≡ false → is_key SELECT x ≡ false → is_key DROP x ≡ false → is_key RENAME x ≡ false → take_step d q x K y ≡ y
past_steps d q x K y e f g h = if_not (is_key JOIN x) _ _ e ∙ if_not (is_key SELECT x) _ _ f ∙ if_not (is_key DROP x) _ _ g ∙ if_not (is_key RENAME x) _ _ h

module _ (n : ℕ) (K : List Want) (p : ℕ) (s : Sign) where
  met_steps : (a b c d : Bool) → is_key JOIN s ≡ a → is_key SELECT s ≡ b → is_key DROP s ≡ c → is_key RENAME s ≡ d → Met K p s (takes K p s) → Met (more_steps n ∷ K) p s (cond a (goes [] (a_source n ∷ complete (a_step (placed p join)) ∷ more_steps n ∷ K)) (cond b (goes [] (a_condition n (complete (a_select p) ∷ more_steps n ∷ K))) (cond c (goes [] (drop_column p ∷ more_steps n ∷ K)) (cond d (goes [] (rename_column p ∷ more_steps n ∷ K)) (takes K p s)))))
  met_steps true b c d e f g h y = m_goes
  met_steps false true c d e f g h y = m_goes
  met_steps false false true d e f g h y = m_goes
  met_steps false false false true e f g h y = m_goes
  met_steps false false false false e f g h y =
      met_past (more_steps n ∷ K) K p s (takes K p s)
      (λ x m q. (
        past_steps n q x K (takes K q x) (fair_key JOIN s x m ∙ e) (fair_key SELECT s x m ∙ f) (fair_key DROP s x m ∙ g) (fair_key RENAME s x m ∙ h),
        past_steps (suc n) q x (up K) (takes (up K) q x) (fair_key JOIN s x m ∙ e) (fair_key SELECT s x m ∙ f) (fair_key DROP s x m ∙ g) (fair_key RENAME s x m ∙ h),
      ))
      y

pub met : (K : List Want) (p : ℕ) (s : Sign) → Met K p s (takes K p s)
met [] p s = m_lacks (λ x m q. firm_lacks q)
met (a_neg d ∷ K) p s = met_neg d K p s (is_key NOT s) (is_opening s) refl refl
met (an_op w ∷ K) p s = met_comparing (an_op w ∷ K) p (λ q c. goes [] (an_operand w c ∷ K)) (λ q c. tt) (λ q x. refl) s
met (an_operand w c ∷ K) p s = met_operand (an_operand w c ∷ K) p (λ q x. goes (leaf w c x ∷ []) K) (λ q x. tt) (λ q x. refl) s
met (more_and d ∷ K) p s = met_and d K p s (is_key AND s) refl (met K p s)
met (more_or d ∷ K) p s = met_or d K p s (is_key OR s) refl (met K p s)
met (a_closing ∷ K) p s = met_one (a_closing ∷ K) K p s is_closing fair_closing (λ q x. refl) (is_closing s) refl
met (a_source d ∷ K) p s = met_source d K p s (is_opening s) refl
met (more_steps d ∷ K) p s = met_steps d K p s (is_key JOIN s) (is_key SELECT s) (is_key DROP s) (is_key RENAME s) refl refl refl refl (met K p s)
met (drop_column n ∷ K) p s = met_word (drop_column n ∷ K) p (λ q w. goes [] (drop_default n w ∷ K)) (λ q w. tt) s (λ x m q. refl)
met (drop_default n w ∷ K) p s = met_one (drop_default n w ∷ K) (drop_cell n w ∷ K) p s (is_key DEFAULT) (fair_key DEFAULT) (λ q x. refl) (is_key DEFAULT s) refl
met (drop_cell n w ∷ K) p s = met_cell (drop_cell n w ∷ K) p (λ q v. goes (a_step (placed n (drop w v)) ∷ []) K) (λ q v. tt) (λ q x. refl) s
met (rename_column n ∷ K) p s = met_word (rename_column n ∷ K) p (λ q w. goes [] (rename_as n w ∷ K)) (λ q w. tt) s (λ x m q. refl)
met (rename_as n w ∷ K) p s = met_one (rename_as n w ∷ K) (rename_word n w ∷ K) p s (is_key AS) (fair_key AS) (λ q x. refl) (is_key AS s) refl
met (rename_word n w ∷ K) p s = met_word (rename_word n w ∷ K) p (λ q v. goes (a_step (placed n (rename w v)) ∷ []) K) (λ q v. tt) s (λ x m q. refl)
met (complete i ∷ K) p s = met_after i K p s (takes K p s) (met K p s)

-- no depth, and nothing before it, has a broken quote taken
pub never_broken : (K : List Want) (p q : ℕ) → Goes (takes K p (broken q)) → ⊥
never_broken [] p q h = h
never_broken (a_neg d ∷ K) p q h = h
never_broken (an_op w ∷ K) p q h = h
never_broken (an_operand w c ∷ K) p q h = h
never_broken (more_and d ∷ K) p q h = never_broken K p q h
never_broken (more_or d ∷ K) p q h = never_broken K p q h
never_broken (a_closing ∷ K) p q h = h
never_broken (a_source d ∷ K) p q h = h
never_broken (more_steps d ∷ K) p q h = never_broken K p q h
never_broken (drop_column n ∷ K) p q h = h
never_broken (drop_default n w ∷ K) p q h = h
never_broken (drop_cell n w ∷ K) p q h = h
never_broken (rename_column n ∷ K) p q h = h
never_broken (rename_as n w ∷ K) p q h = h
never_broken (rename_word n w ∷ K) p q h = h
never_broken (complete i ∷ K) p q h = never_broken K p q (of_after i (takes K p (broken q)) h)
  where
    of_after : (i : Item) (x : Taken) → Goes (after i x) → Goes x
    of_after i (goes l M) g = g
    of_after i (stops l f) g = g
