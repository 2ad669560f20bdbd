-- A text is refused with the fault that is due.
use Rattle.std.proofs.Common.{◌≡◌, ℕ, ◌≤◌, Bool, true, false, cond, leb, ◌⊎◌, List, [], ◌∷◌, ◌++◌, length, Some, None, sym, refl, ap, ◌∙◌, subst, inl, inr, append_assoc, append-nil, arith, le-leb, leb-false, leb-true}
use borrow.Author.Tests.{lt-leb}
use Rattle.model.specs.Faults.{Fault, fault}
use Rattle.grammar.specs.Signs.{Sign, quoted, broken, Token, at, signs}
use Rattle.grammar.specs.Reading.{Item, Want, a_neg, more_and, more_or, a_source, more_steps, an_op, an_operand, a_closing, drop_column, rename_column, drop_default, drop_cell, rename_as, rename_word, complete, Taken, goes, stops, takes, reads, go_on, at_end, run, within_256}
use Rattle.derivations.specs.Refused.{Kind, conditions, definitions, Sentence, Begins, fault_of, Alike, words, numbers, texts, same, Meant, alike, mended, fault_at, DueSign, lacking, broken_quote, too_deep, too_large, Due, too_long, ends, at_sign, RefusedExactly}
use Rattle.derivations.proofs.Filling.{run_fills, no_fault}
use Rattle.derivations.proofs.Deepening.{climb}
use Rattle.derivations.proofs.Raising.{up, Goes}
use Rattle.derivations.proofs.Passing.{Passes, run_passes, ups, ends_alike, start, raised, sentence_run, fills_sentence, sentence_above, begins, goes_begins, begins_goes, begins_goes_above, Passed, begins_passed, AtEnd, stopped}
use Rattle.derivations.proofs.Meeting.{Firm, firm_ups, firm_goes, Met, m_goes, m_lacks, m_broken, m_deep, m_large, met, never_broken}

fault_is : (g : Kind) (b : List ℕ) → fault_of g b ≡ (within_256 b (run (length b) (start g 8) (signs b))).fault
fault_is conditions b = refl
fault_is definitions b = refl

-- the end of the text is no fault, or 1 there
end_cases : (e : ℕ) (K : List Want) → ((at_end e K).fault ≡ None) ⊎ ((at_end e K).fault ≡ Some (fault_at 1 e))
end_cases e [] = inl refl
end_cases e (a_neg d ∷ K) = inr refl
end_cases e (an_op w ∷ K) = inr refl
end_cases e (an_operand w c ∷ K) = inr refl
end_cases e (more_and d ∷ K) = end_cases e K
end_cases e (more_or d ∷ K) = end_cases e K
end_cases e (a_closing ∷ K) = inr refl
end_cases e (a_source d ∷ K) = inr refl
end_cases e (more_steps d ∷ K) = end_cases e K
end_cases e (drop_column q ∷ K) = inr refl
end_cases e (drop_default q w ∷ K) = inr refl
end_cases e (drop_cell q w ∷ K) = inr refl
end_cases e (rename_column q ∷ K) = inr refl
end_cases e (rename_as q w ∷ K) = inr refl
end_cases e (rename_word q w ∷ K) = inr refl
end_cases e (complete i ∷ K) = end_cases e K

-- what is read to the end
run_end : {K N : List Want} {s : List Token} {L : List Item} → Passes K s L N → (e : ℕ) → (run e K s).fault ≡ (at_end e N).fault
run_end {K} {s = s} x e = ap (λ l. (run e K l).fault) (sym (append-nil s)) ∙ ap (λ r. r.fault) (run_passes x e [])

module _ (g : Kind) {s : List Token} {L : List Item} {N : List Want} (x : Passes (start g 8) s L N) (e : ℕ) where
  no_sentence : {f : Fault} → (at_end e N).fault ≡ Some f → (d : ℕ) → Sentence g d s → ⊥
  no_sentence h d y =
      no_fault h (sym (ends_alike d e N) ∙ sym (run_end (raised g d 8 x) e) ∙ sentence_run g (climb d 8) s (sentence_above g 8 d s y) e)

  end_sentence : (at_end e N).fault ≡ None → Sentence g 8 s
  end_sentence h = fills_sentence g 8 s (run_fills s e (start g 8) (run_end x e ∙ h))

-- a sign that is met after the signs l
module _ (g : Kind) (l : List Token) {L : List Item} {N : List Want} (x : Passes (start g 8) l L N) where
  firm_none : (t : Token) → Firm (takes N t.place t.sign) → (d : ℕ) → Begins g d (l ++ (t ∷ [])) → ⊥
  firm_none t h d y = firm_goes (takes (ups d N) t.place t.sign) (firm_ups d N t.place t.sign h) (begins_goes_above g 8 d x t y)

  pub stops_none : (t : Token) {L' : List Item} {f : Fault} → takes N t.place t.sign ≡ stops L' f → Begins g 8 (l ++ (t ∷ [])) → ⊥
  stops_none t h y = subst Goes h (begins_goes g 8 x t y)

  deep_begins : (t : Token) → Goes (takes (up N) t.place t.sign) → Begins g 9 (l ++ (t ∷ []))
  deep_begins t h = goes_begins g 9 (raised g 1 8 x) t h

  abbrev Dues : Token → Taken → Type 0
  Dues t (goes M K) = Unit {0}
  Dues t (stops M f) = DueSign g l t f

  due_sign : (t : Token) (y : Taken) → takes N t.place t.sign ≡ y → Met N t.place t.sign y → Dues t y
  due_sign t _ e m_goes = tt
  due_sign t _ e (m_lacks h) = lacking (record { before = begins g 8 x; none = λ z m d. firm_none z (h z.sign m z.place) d })
  due_sign t _ e (m_broken c q h) = broken_quote (record { quote = q; fits = (t.place, (c, goes_begins g 8 x (at t.place (quoted c)) h)) })
  due_sign t _ e (m_deep h) = too_deep (record { before = begins g 8 x; deeper = (9, deep_begins t h); none = stops_none t e })
  due_sign t _ e (m_large z a h) = too_large (record { fits = (at t.place z, (a, goes_begins g 8 x (at t.place z) h)); none = firm_none t (subst Firm (sym e) (λ n. omega arith)) })

is_due : (g : Kind) (b : List ℕ) (f : Fault) (c : Bool) → leb (length b) 256 ≡ c → (cond c (run (length b) (start g 8) (signs b)) (reads [] (fault 3 0 256))).fault ≡ Some f → Due g b f
is_due g b f true e h =
    elim (stopped (signs b) (length b) (start g 8) f h) [
      | inl r ↦ end_due r (end_cases (length b) r.wants)
      | inr r ↦ at_sign (leb-true (length b) 256 e) r.front r.here r.rest r.whole (subst (Dues g r.front r.way r.here) r.met (due_sign g r.front r.way r.here (takes r.wants r.here.place r.here.sign) refl (met r.wants r.here.place r.here.sign)))
    ]
  where
    end_due : (r : AtEnd (length b) (start g 8) (signs b) f) → ((at_end (length b) r.wants).fault ≡ None) ⊎ ((at_end (length b) r.wants).fault ≡ Some (fault_at 1 (length b))) → Due g b f
    end_due r (inl n) = absurd (no_fault r.met n)
    end_due r (inr n) =
        let m = r.met in
        let is : fault_at 1 (length b) ≡ f = cc in
        subst (Due g b) is (ends (leb-true (length b) 256 e) (begins g 8 r.way) (no_sentence g r.way (length b) r.met))
is_due g b f false e h = let is : fault_at 3 256 ≡ f = cc in subst (Due g b) is (too_long (leb-false (length b) 256 e))

alike_broken : (s z : Sign) (q : ℕ) → Alike s z → s ≡ broken q → z ≡ broken q
alike_broken _ _ q words e = absurd (let z : ◌≡◌ {A = ℕ} 0 1 = cc in omega arith)
alike_broken _ _ q numbers e = absurd (let z : ◌≡◌ {A = ℕ} 0 1 = cc in omega arith)
alike_broken _ _ q texts e = absurd (let z : ◌≡◌ {A = ℕ} 0 1 = cc in omega arith)
alike_broken _ _ q same e = e

mend : (s : Sign) (q : ℕ) (c : List ℕ) → s ≡ broken q → Meant s (quoted c)
mend s q c e = subst (λ y. Meant y (quoted c)) (sym e) mended

-- a sign of which a fault is due stops with it
module _ (g : Kind) (l : List Token) {L : List Item} {N : List Want} (x : Passes (start g 8) l L N) (t : Token) where
  Stops : Taken → Fault → Type 0
  Stops y f = (M : List Item) × (y ≡ stops M f)

  not_broken : (K : List Want) (q : ℕ) → t.sign ≡ broken q → Goes (takes K t.place t.sign) → ⊥
  not_broken K q e h = never_broken K t.place q (subst (λ z. Goes (takes K t.place z)) e h)

  not_alike_broken : (q : ℕ) (z : Token) → t.sign ≡ broken q → Alike t.sign z.sign → Goes (takes N z.place z.sign) → ⊥
  not_alike_broken q z e a h = never_broken N z.place q (subst (λ y. Goes (takes N z.place y)) (alike_broken t.sign z.sign q a e) h)

  goes_on : {M : List Item} {K : List Want} → takes N t.place t.sign ≡ goes M K → Begins g 8 (l ++ (t ∷ []))
  goes_on e = goes_begins g 8 x t (subst Goes (sym e) tt)

  sign_stops : (y : Taken) (f : Fault) → takes N t.place t.sign ≡ y → Met N t.place t.sign y → DueSign g l t f → Stops y f
  unfolding Stops
  sign_stops _ _ e m_goes (lacking r) = absurd (r.none t (alike same) 8 (goes_on e))
  sign_stops _ _ e m_goes (broken_quote {q = q} r) = absurd (not_broken N q r.quote (subst Goes (sym e) tt))
  sign_stops _ _ e m_goes (too_deep r) = absurd (r.none (goes_on e))
  sign_stops _ _ e m_goes (too_large r) = absurd (r.none 8 (goes_on e))
  sign_stops _ _ e (m_lacks h) (lacking r) = (_, refl)
  sign_stops _ _ e (m_lacks h) (broken_quote {q = q} r) = absurd (firm_none g l x (at r.fits.0 (quoted r.fits.1.0)) (h (quoted r.fits.1.0) (mend t.sign q r.fits.1.0 r.quote) r.fits.0) 8 r.fits.1.1)
  sign_stops _ _ e (m_lacks h) (too_deep r) = absurd (firm_none g l x t (h t.sign (alike same) t.place) r.deeper.0 r.deeper.1)
  sign_stops _ _ e (m_lacks h) (too_large r) = absurd (firm_none g l x r.fits.0 (h r.fits.0.sign (alike r.fits.1.0) r.fits.0.place) 8 r.fits.1.1)
  sign_stops _ _ e (m_broken {q = q} c b h) (lacking r) = absurd (r.none (at t.place (quoted c)) (mend t.sign q c b) 8 (goes_begins g 8 x (at t.place (quoted c)) h))
  sign_stops _ _ e (m_broken {l = M} {q = q} c b h) (broken_quote {q = p} r) =
      let a = r.quote in
      let is : q ≡ p = cc in
      (M, ap (λ n. stops M (fault_at 1 n)) is)
  sign_stops _ _ e (m_broken {q = q} c b h) (too_deep r) = absurd (not_broken (ups r.deeper.0 N) q b (begins_goes_above g 8 r.deeper.0 x t r.deeper.1))
  sign_stops _ _ e (m_broken {q = q} c b h) (too_large r) = absurd (not_alike_broken q r.fits.0 b r.fits.1.0 (begins_goes g 8 x r.fits.0 r.fits.1.1))
  sign_stops _ _ e (m_deep h) (lacking r) = absurd (r.none t (alike same) 9 (deep_begins g l x t h))
  sign_stops _ _ e (m_deep h) (broken_quote {q = q} r) = absurd (not_broken (up N) q r.quote h)
  sign_stops _ _ e (m_deep h) (too_deep r) = (_, refl)
  sign_stops _ _ e (m_deep h) (too_large r) = absurd (r.none 9 (deep_begins g l x t h))
  sign_stops _ _ e (m_large z a h) (lacking r) = absurd (r.none (at t.place z) (alike a) 8 (goes_begins g 8 x (at t.place z) h))
  sign_stops _ _ e (m_large z a h) (broken_quote {q = q} r) = absurd (not_alike_broken q (at t.place z) r.quote a h)
  sign_stops _ _ e (m_large z a h) (too_deep r) = absurd (firm_none g l x t (subst Firm (sym e) (λ n. omega arith)) r.deeper.0 r.deeper.1)
  sign_stops _ _ e (m_large z a h) (too_large r) = (_, refl)

  stops_there : (f : Fault) → DueSign g l t f → (m : List Token) (e : ℕ) → (run e (start g 8) (l ++ (t ∷ m))).fault ≡ Some f
  unfolding Stops
  stops_there f d m e =
      let r = sign_stops (takes N t.place t.sign) f refl (met N t.place t.sign) d in
      ap (λ y. y.fault) (run_passes x e (t ∷ m)) ∙ ap (λ y. (go_on y (λ M. run e M m)).fault) r.1

in_time : (g : Kind) (b : List ℕ) → length b ≤ 256 → fault_of g b ≡ (run (length b) (start g 8) (signs b)).fault
in_time g b h = fault_is g b ∙ ap (λ c. (cond c (run (length b) (start g 8) (signs b)) (reads [] (fault 3 0 256))).fault) (le-leb (length b) 256 h)

shorter : (g : Kind) (l : List Token) (t : Token) → Begins g 8 (l ++ (t ∷ [])) → Begins g 8 l
shorter g l t y = (t ∷ y.0, subst (Sentence g 8) (append_assoc l (t ∷ []) y.0) y.1)

due_begins : (g : Kind) (l : List Token) (t : Token) (f : Fault) → DueSign g l t f → Begins g 8 l
due_begins g l t _ (lacking r) = r.before
due_begins g l t _ (broken_quote r) = shorter g l (at r.fits.0 (quoted r.fits.1.0)) r.fits.1.1
due_begins g l t _ (too_deep r) = r.before
due_begins g l t _ (too_large r) = shorter g l r.fits.0 r.fits.1.1

is_refused : (g : Kind) (b : List ℕ) (f : Fault) → Due g b f → fault_of g b ≡ Some f
is_refused g b _ (too_long h) = fault_is g b ∙ ap (λ c. (cond c (run (length b) (start g 8) (signs b)) (reads [] (fault 3 0 256))).fault) (lt-leb (length b) 256 h)
is_refused g b _ (ends h x n) = in_time g b h ∙ run_end r.way (length b) ∙ at_last (end_cases (length b) r.wants)
  where
    r : Passed (start g 8) (signs b)
    r = begins_passed g 8 (signs b) x

    at_last : ((at_end (length b) r.wants).fault ≡ None) ⊎ ((at_end (length b) r.wants).fault ≡ Some (fault_at 1 (length b))) → (at_end (length b) r.wants).fault ≡ Some (fault_at 1 (length b))
    at_last (inl e) = absurd (n 8 (end_sentence g r.way (length b) e))
    at_last (inr e) = e
is_refused g b f (at_sign h l t m e d) =
    let r = begins_passed g 8 l (due_begins g l t f d) in
    in_time g b h ∙ ap (λ s. (run (length b) (start g 8) s).fault) e ∙ stops_there g l r.way t f d m (length b)

pub refused_exactly : RefusedExactly
refused_exactly g b f = ((λ h. is_due g b f (leb (length b) 256) refl (sym (fault_is g b) ∙ h)), is_refused g b f)
