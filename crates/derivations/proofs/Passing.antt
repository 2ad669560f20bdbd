-- Reading over a beginning of the signs.
use Rattle.std.proofs.Common.{◌≡◌, ℕ, zero, suc, ◌⊎◌, List, [], ◌∷◌, ◌++◌, Some, None, sym, refl, ap, ◌∙◌, subst, inl, inr, append_assoc}
use Rattle.model.specs.Faults.{Fault}
use Rattle.grammar.specs.Signs.{Token}
use Rattle.grammar.specs.Reading.{Item, Want, Taken, goes, stops, takes, Read, following, go_on, at_end, run, a_condition, a_definition}
use Rattle.derivations.specs.Refused.{Kind, conditions, definitions, Sentence, Begins}
use Rattle.derivations.proofs.Tracing.{follow, run_condition, run_definition}
use Rattle.derivations.proofs.Taking.{Then}
use Rattle.derivations.proofs.Filling.{Fills, undo, no_fault, fillable, whole_condition, whole_definition}
use Rattle.derivations.proofs.Deepening.{climb, climb_turn, deeper_condition, deeper_definition}
use Rattle.derivations.proofs.Raising.{up, Goes, Up, up_takes, up_end}

-- the signs l are taken with K wanted; the items L are complete then, and N is wanted
pub data Passes : List Want → List Token → List Item → List Want → Type 0 where
  here : {K : List Want} → Passes K [] [] K
  next : {K M N : List Want} {t : Token} {l : List Token} {L L' : List Item} → takes K t.place t.sign ≡ goes L M → Passes M l L' N → Passes K (t ∷ l) (L ++ L') N

pub run_passes : {K N : List Want} {l : List Token} {L : List Item} → Passes K l L N → (e : ℕ) (u : List Token) → run e K (l ++ u) ≡ following L (run e N u)
run_passes here e u = refl
run_passes {N = N} (next {t = t} {l = l} {L = L} {L' = L'} q x) e u =
    ap (λ y. go_on y (λ M. run e M (l ++ u))) q ∙ ap (following L) (run_passes x e u) ∙ sym (follow L L' (run e N u))

pub back : {K N : List Want} {l : List Token} {L : List Item} → Passes K l L N → (u : List Token) → Fills N u → Fills K (l ++ u)
back here u h = h
back (next {K = K} {t = t} {l = l} q x) u h = undo t.place t.sign (l ++ u) K (subst (Then (λ M. Fills M (l ++ u))) (sym q) (back x u h))

up_passes : {K N : List Want} {l : List Token} {L : List Item} → Passes K l L N → Passes (up K) l L (up N)
up_passes here = here
up_passes (next {K = K} {t = t} {L = L} q x) = next (subst (λ y. Up y (takes (up K) t.place t.sign)) q (up_takes t.place K t.sign)) (up_passes x)

-- j more of depth
abbrev pub ups : ℕ → List Want → List Want
ups zero K = K
ups (suc j) K = up (ups j K)

raise : (j : ℕ) {K N : List Want} {l : List Token} {L : List Item} → Passes K l L N → Passes (ups j K) l L (ups j N)
raise zero x = x
raise (suc j) x = up_passes (raise j x)

pub ends_alike : (j e : ℕ) (K : List Want) → (at_end e (ups j K)).fault ≡ (at_end e K).fault
ends_alike zero e K = refl
ends_alike (suc j) e K = up_end e (ups j K) ∙ ends_alike j e K

abbrev pub start : Kind → ℕ → List Want
start conditions d = a_condition d []
start definitions d = a_definition d []

up_start : (g : Kind) (d : ℕ) → up (start g d) ≡ start g (suc d)
up_start conditions d = refl
up_start definitions d = refl

ups_start : (g : Kind) (j d : ℕ) → ups j (start g d) ≡ start g (climb j d)
ups_start g zero d = refl
ups_start g (suc j) d = ap up (ups_start g j d) ∙ up_start g (climb j d)

pub raised : (g : Kind) (j d : ℕ) {N : List Want} {l : List Token} {L : List Item} → Passes (start g d) l L N → Passes (start g (climb j d)) l L (ups j N)
raised g j d {N} {l} {L} x = subst (λ K. Passes K l L (ups j N)) (ups_start g j d) (raise j x)

-- sentences are what is read without fault
pub sentence_run : (g : Kind) (d : ℕ) (s : List Token) → Sentence g d s → (e : ℕ) → (run e (start g d) s).fault ≡ None
sentence_run conditions d s x e = ap (λ r. r.fault) (run_condition x.1 e)
sentence_run definitions d s x e = ap (λ r. r.fault) (run_definition x.1 e)

pub fills_sentence : (g : Kind) (d : ℕ) (s : List Token) → Fills (start g d) s → Sentence g d s
fills_sentence conditions d s x = whole_condition x
fills_sentence definitions d s x = whole_definition x

deeper_sentence : (g : Kind) (j d : ℕ) (s : List Token) → Sentence g d s → Sentence g (climb j d) s
deeper_sentence conditions j d s x = (x.0, deeper_condition j x.1)
deeper_sentence definitions j d s x = (x.0, deeper_definition j x.1)

-- a sentence of depth d at a depth above both d and c
pub sentence_above : (g : Kind) (c d : ℕ) (s : List Token) → Sentence g d s → Sentence g (climb d c) s
sentence_above g c d s x = subst (λ n. Sentence g n s) (climb_turn c d) (deeper_sentence g c d s x)

goes_fills : (x : Taken) → Goes x → (u : List Token) × Then (λ M. Fills M u) x
goes_fills (goes l K) h = fillable K
goes_fills (stops l f) h = absurd h

on_goes : (x : Taken) (more : List Want → Read) → (go_on x more).fault ≡ None → Goes x
on_goes (goes l K) more h = tt
on_goes (stops l f) more h = absurd (no_fault refl h)

-- after the signs l of some sentence of depth d
module _ (g : Kind) (d : ℕ) {l : List Token} {L : List Item} {N : List Want} (x : Passes (start g d) l L N) where
  pub begins : Begins g d l
  begins = let f = fillable N in (f.0, fills_sentence g d (l ++ f.0) (back x f.0 f.1))

  -- a sign that is taken begins a sentence
  pub goes_begins : (t : Token) → Goes (takes N t.place t.sign) → Begins g d (l ++ (t ∷ []))
  goes_begins t h =
      let f = goes_fills (takes N t.place t.sign) h in
      let y = fills_sentence g d (l ++ (t ∷ f.0)) (back x (t ∷ f.0) (undo t.place t.sign f.0 N f.1)) in
      (f.0, subst (Sentence g d) (sym (append_assoc l (t ∷ []) f.0)) y)

  sentence_goes : (t : Token) (u : List Token) → Sentence g d (l ++ (t ∷ u)) → Goes (takes N t.place t.sign)
  sentence_goes t u y = on_goes (takes N t.place t.sign) (λ M. run 0 M u) (sym (ap (λ r. r.fault) (run_passes x 0 (t ∷ u))) ∙ sentence_run g d (l ++ (t ∷ u)) y 0)

  -- and one that begins a sentence is taken
  pub begins_goes : (t : Token) → Begins g d (l ++ (t ∷ [])) → Goes (takes N t.place t.sign)
  begins_goes t y = sentence_goes t y.0 (subst (Sentence g d) (append_assoc l (t ∷ []) y.0) y.1)

-- with enough depth allowed
pub begins_goes_above : (g : Kind) (c d : ℕ) {l : List Token} {L : List Item} {N : List Want} → Passes (start g c) l L N → (t : Token) → Begins g d (l ++ (t ∷ [])) → Goes (takes (ups d N) t.place t.sign)
begins_goes_above g c d {l} x t y = begins_goes g (climb d c) (raised g d c x) t (y.0, sentence_above g c d (l ++ (t ∷ []) ++ y.0) y.1)

-- what can be read can be read to any point
pub record Passed (K : List Want) (l : List Token) : Type 0 where
  pub items : List Item
  pub wants : List Want
  pub way : Passes K l items wants

pub passed : (l u : List Token) (e : ℕ) (K : List Want) → (run e K (l ++ u)).fault ≡ None → Passed K l
passed [] u e K h = record { items = []; wants = K; way = here }
passed (t ∷ l) u e K h = more (takes K t.place t.sign) refl (λ M. passed l u e M) h
  where
    more : (x : Taken) → takes K t.place t.sign ≡ x → ((M : List Want) → (run e M (l ++ u)).fault ≡ None → Passed M l) → (go_on x (λ M. run e M (l ++ u))).fault ≡ None → Passed K (t ∷ l)
    more (goes L M) q ih h = let r = ih M h in record { items = L ++ r.items; wants = r.wants; way = next q r.way }
    more (stops L f) q ih h = absurd (no_fault refl h)

pub begins_passed : (g : Kind) (d : ℕ) (l : List Token) → Begins g d l → Passed (start g d) l
begins_passed g d l x = passed l x.0 0 (start g d) (sentence_run g d (l ++ x.0) x.1 0)

-- where reading stops: at the end, or at a sign
pub record AtEnd (e : ℕ) (K : List Want) (s : List Token) (f : Fault) : Type 0 where
  pub items : List Item
  pub wants : List Want
  pub way : Passes K s items wants
  pub met : (at_end e wants).fault ≡ Some f

pub record AtSign (K : List Want) (s : List Token) (f : Fault) : Type 0 where
  pub front : List Token
  pub here : Token
  pub rest : List Token
  pub whole : s ≡ front ++ (here ∷ rest)
  pub items : List Item
  pub wants : List Want
  pub way : Passes K front items wants
  pub last : List Item
  pub met : takes wants here.place here.sign ≡ stops last f

more_stopped : {e : ℕ} {K M : List Want} {t : Token} {s : List Token} {L : List Item} {f : Fault} → takes K t.place t.sign ≡ goes L M → AtEnd e M s f ⊎ AtSign M s f → AtEnd e K (t ∷ s) f ⊎ AtSign K (t ∷ s) f
more_stopped {L = L} q (inl r) = inl (record { items = L ++ r.items; wants = r.wants; way = next q r.way; met = r.met })
more_stopped {t = t} {L = L} q (inr r) = inr (record { front = t ∷ r.front; here = r.here; rest = r.rest; whole = ap (λ l. t ∷ l) r.whole; items = L ++ r.items; wants = r.wants; way = next q r.way; last = r.last; met = r.met })

pub stopped : (s : List Token) (e : ℕ) (K : List Want) (f : Fault) → (run e K s).fault ≡ Some f → AtEnd e K s f ⊎ AtSign K s f
stopped [] e K f h = inl (record { items = []; wants = K; way = here; met = h })
stopped (t ∷ s) e K f h = more (takes K t.place t.sign) refl (λ M. stopped s e M f) h
  where
    more : (x : Taken) → takes K t.place t.sign ≡ x → ((M : List Want) → (run e M s).fault ≡ Some f → AtEnd e M s f ⊎ AtSign M s f) → (go_on x (λ M. run e M s)).fault ≡ Some f → AtEnd e K (t ∷ s) f ⊎ AtSign K (t ∷ s) f
    more (goes L M) q ih h = more_stopped q (ih M h)
    more (stops L f') q ih h = let same : f' ≡ f = cc in inr (record { front = []; here = t; rest = s; whole = refl; items = []; wants = K; way = here; last = L; met = q ∙ ap (stops L) same })
