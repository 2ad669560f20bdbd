-- What is said of steps and lists of steps, from what is said of their parts.
use Rattle.std.proofs.Common.{◌≡◌, ℕ, Bool, false, List, [], ◌∷◌, ◌++◌, length, Some, Ok, Err, Option, Result, sym, refl, ap, ◌∙◌, subst, Bor}
use Rattle.std.proofs.lemmas.List.{append_assoc, append-nil, map_push}
use Rattle.std.proofs.lemmas.Bool.{cond-true, cond-false}
use Rattle.cells.specs.Numbered.{told}
use Rattle.cells.specs.declared.faults.Fault as program_fault
use Rattle.cells.specs.declared.faults.Refusal.{Refusal}
use Rattle.cells.specs.declared.faults.Refusal.TheVariants.{Fault, Memory}
use Rattle.grammar.specs.Signs.{Sign, Token, AS, DEFAULT, DROP, JOIN, RENAME, SELECT}
use Rattle.grammar.specs.Phrases as grammar
use Rattle.grammar.specs.Phrases.{Step, Placed, placed, drop, rename, select, source, join}
use Rattle.grammar.specs.Reading.{Item, a_select, a_step, Want, Taken, goes, complete, drop_column, drop_default, drop_cell, rename_column, rename_as, rename_word, a_closing, a_condition, a_source, more_steps, on_cell, on_word, is_closing, is_key, is_opening, deeper, go_on, Read, reads, following, run, steps}
use Rattle.phrases.specs.Written as written
use Rattle.conditions.specs.declared.trees.Formula.{Formula}
use Rattle.phrases.specs.Written.{ByWord}
use Rattle.phrases.specs.declared.steps.Step as program
use Rattle.phrases.specs.declared.steps.Placed as program_placed
use Rattle.signs.specs.Reached.{signs_at, Lacking, Found}
use Rattle.reader.specs.Judging.{Judged}
use Rattle.reader.specs.Saying.{from, Awaits, Next, Said, postfix, Stops, on_test}
use Rattle.reader.specs.Stepping.{step_items, all_items, Stepped, Adds, AddsBefore, Built, Further, on_table}
use Rattle.reader.proofs.Running.{following_all, complete_run, found_goes}
use Rattle.reader.proofs.Phrasing.{closing_awaits, steps_postfix}

-- a sign of a step that is at fault
pub step_err : {A B : Type 0} (start : ℕ → List Want → Read) (J : ℕ → Sign → (A → Taken) → Taken) (v : B → A) (b : List ℕ) (m z y : ℕ) (W : ℕ → List Want → List Want) (k : ℕ → List Want → A → Taken) → ((p : ℕ) (K : List Want) (l : List Token) → Awaits (length b) (W p K) J (k p K) l) → ((p : ℕ) (K : List Want) → start p K ≡ from b m (W p K)) → (e : Refusal) → Next J v b m (Err e) z → Stepped start b (Err e) y
step_err start J v b m z y W k aw begins (Fault f) h = λ p. record { items = []; quiet = λ S. refl; stops = λ K. begins p K ∙ h (W p K) (k p K) (aw p K (signs_at b m)) }
step_err start J v b m z y W k aw begins Memory h = tt

pub drop_column_awaits : (e p : ℕ) (K : List Want) (l : List Token) → Awaits e (drop_column p ∷ K) on_word (λ w. goes [] (drop_default p w ∷ K)) l
drop_column_awaits e p K [] = refl
drop_column_awaits e p K (t ∷ l) = refl

pub drop_default_awaits : (e : ℕ) (w : List ℕ) (p : ℕ) (K : List Want) (l : List Token) → Awaits e (drop_default p w ∷ K) (on_test (is_key DEFAULT)) (λ u. goes [] (drop_cell p w ∷ K)) l
drop_default_awaits e w p K [] = refl
drop_default_awaits e w p K (t ∷ l) = refl

pub drop_cell_awaits : (e : ℕ) (w : List ℕ) (p : ℕ) (K : List Want) (l : List Token) → Awaits e (drop_cell p w ∷ K) on_cell (λ v. goes (a_step (placed p (drop w v)) ∷ []) K) l
drop_cell_awaits e w p K [] = refl
drop_cell_awaits e w p K (t ∷ l) = refl

pub rename_column_awaits : (e p : ℕ) (K : List Want) (l : List Token) → Awaits e (rename_column p ∷ K) on_word (λ w. goes [] (rename_as p w ∷ K)) l
rename_column_awaits e p K [] = refl
rename_column_awaits e p K (t ∷ l) = refl

pub rename_as_awaits : (e : ℕ) (w : List ℕ) (p : ℕ) (K : List Want) (l : List Token) → Awaits e (rename_as p w ∷ K) (on_test (is_key AS)) (λ u. goes [] (rename_word p w ∷ K)) l
rename_as_awaits e w p K [] = refl
rename_as_awaits e w p K (t ∷ l) = refl

pub rename_word_awaits : (e : ℕ) (w : List ℕ) (p : ℕ) (K : List Want) (l : List Token) → Awaits e (rename_word p w ∷ K) on_word (λ v. goes (a_step (placed p (rename w v)) ∷ []) K) l
rename_word_awaits e w p K [] = refl
rename_word_awaits e w p K (t ∷ l) = refl

-- a select, from its condition
pub select_said : (start : List Want → Read) (b : List ℕ) (k : Formula ByWord) (z : ℕ) → Said start b (Ok k) z → (p : ℕ) (K : List Want) → start (complete (a_select p) ∷ K) ≡ following (step_items p (select (written.phrase k))) (from b z K)
select_said start b k z h p K =
    h (complete (a_select p) ∷ K) ∙ (ap (following (postfix (written.phrase k))) (complete_run (length b) (a_select p) K (signs_at b z)) ∙ following_all (postfix (written.phrase k)) (a_select p ∷ []) (from b z K))

-- the steps that the items of steps make
pub steps_items : (p : ℕ) (s : Step) (l : List Item) (R : List grammar.Phrase) → steps (step_items p s ++ l) R ≡ placed p s ∷ steps l R
steps_items p (source w) l R = refl
steps_items p (select k) l R = ap (λ m. steps m R) (append_assoc (postfix k) (a_select p ∷ []) l) ∙ steps_postfix k (a_select p ∷ l) R
steps_items p (drop w v) l R = refl
steps_items p (rename w v) l R = refl
steps_items p join l R = refl

pub steps_all : (S : List Placed) (l : List Item) (R : List grammar.Phrase) → steps (all_items S ++ l) R ≡ S ++ steps l R
steps_all [] l R = refl
steps_all (s ∷ S) l R =
    ap (λ m. steps m R) (append_assoc (step_items s.place s.step) (all_items S) l)
    ∙ (steps_items s.place s.step (all_items S ++ l) R ∙ ap (λ T. s ∷ T) (steps_all S l R))

pub all_append : (S T : List Placed) → all_items (S ++ T) ≡ all_items S ++ all_items T
all_append [] T = refl
all_append (s ∷ S) T = ap (λ l. step_items s.place s.step ++ l) (all_append S T) ∙ sym (append_assoc (step_items s.place s.step) (all_items S) (all_items T))

-- steps are added, and then more of them
pub adds_on : (start : List Want → Read) (b : List ℕ) (X : List Want → List Want) (S M T : List Placed) (z n : ℕ) → AddsBefore start b X S M z → AddsBefore (λ K. from b z (X K)) b X M T n → AddsBefore start b X S T n
adds_on start b X S M T z n h g = record {
  new = h.new ++ g.new;
  all = g.all ∙ (ap (λ L. L ++ g.new) h.all ∙ append_assoc S h.new g.new);
  goes = λ K. h.goes K ∙ (ap (following (all_items h.new)) (g.goes K) ∙ (following_all (all_items h.new) (all_items g.new) (from b n (X K)) ∙ ap (λ l. following l (from b n (X K))) (sym (all_append h.new g.new))));
}

pub adds_stops : (start : List Want → Read) (b : List ℕ) (X : List Want → List Want) (S M T : List Placed) (z n y : ℕ) (e : Refusal) → AddsBefore start b X S M z → Further X b z M T (Err e) n → Built start b S T (Err e) y
adds_stops start b X S M T z n y (Fault f) h g = record {
  new = h.new ++ g.new;
  all = g.all ∙ (ap (λ L. L ++ g.new) h.all ∙ append_assoc S h.new g.new);
  items = g.items;
  quiet = g.quiet;
  stops = λ K. h.goes K ∙ (ap (following (all_items h.new)) (g.stops K) ∙ ap (λ l. reads l (Some (told f))) (sym (append_assoc (all_items h.new) (all_items g.new) g.items) ∙ ap (λ l. l ++ g.items) (sym (all_append h.new g.new))));
}
adds_stops start b X S M T z n y Memory h g = tt

-- the same of the text behind an equal reference
pub built_moved : {x y : Bor (List ℕ)} (X : List Want → List Want) (m : ℕ) (S T : List Placed) (r : Result (Unit {0}) Refusal) (z : ℕ) → x ≡ y → Built (λ K. from x.now m (X K)) x.now S T r z → Built (λ K. from y.now m (X K)) y.now S T r z
built_moved X m S T r z e h = subst (λ t. Built (λ K. from t.now m (X K)) t.now S T r z) e h

pub further_moved : {x y : Bor (List ℕ)} (X : List Want → List Want) (m : ℕ) (S T : List Placed) (r : Result (Option program_placed.Placed) Refusal) (z : ℕ) → x ≡ y → Further X x.now m S T r z → Further X y.now m S T r z
further_moved X m S T r z e h = subst (λ t. Further X t.now m S T r z) e h

pub stepped_moved : {x y : Bor (List ℕ)} (X : ℕ → List Want → List Want) (m : ℕ) (r : Result program.Step Refusal) (z : ℕ) → x ≡ y → Stepped (λ p K. from x.now m (X p K)) x.now r z → Stepped (λ p K. from y.now m (X p K)) y.now r z
stepped_moved X m r z e h = subst (λ t. Stepped (λ p K. from t.now m (X p K)) t.now r z) e h

pub found_moved : {x y : Bor (List ℕ)} (f : Sign → Bool) (m a p z : ℕ) → x ≡ y → m ≡ a → Found f x.now m p z → Found f y.now a p z
found_moved {y = y} f m a p z e i h = subst (λ n. Found f y.now n p z) i (subst (λ t. Found f t.now m p z) e h)

-- the sign that is found is not one that lacks
lacking_found : (f g : Sign → Bool) (b : List ℕ) (a p z : ℕ) (F : Found f b a p z) → Lacking g (signs_at b a) → g F.sign ≡ false
lacking_found f g b a p z F h = subst (λ l. Lacking g l) F.first h

pub join_found : (b : List ℕ) (a p z d : ℕ) → Found (is_key JOIN) b a p z → (K : List Want) → from b a (more_steps d ∷ K) ≡ from b z (a_source d ∷ complete (a_step (placed p join)) ∷ more_steps d ∷ K)
join_found b a p z d F K = found_goes (is_key JOIN) b a p z (more_steps d ∷ K) _ F (cond-true (is_key JOIN F.sign) _ _ F.is)

pub select_found : (b : List ℕ) (a p z d : ℕ) → Lacking (is_key JOIN) (signs_at b a) → Found (is_key SELECT) b a p z → (K : List Want) → from b a (more_steps d ∷ K) ≡ from b z (a_condition d (complete (a_select p) ∷ more_steps d ∷ K))
select_found b a p z d j F K =
    found_goes (is_key SELECT) b a p z (more_steps d ∷ K) _ F (cond-false (is_key JOIN F.sign) _ _ (lacking_found (is_key SELECT) (is_key JOIN) b a p z F j) ∙ cond-true (is_key SELECT F.sign) _ _ F.is)

pub drop_found : (b : List ℕ) (a p z d : ℕ) → Lacking (is_key JOIN) (signs_at b a) → Lacking (is_key SELECT) (signs_at b a) → Found (is_key DROP) b a p z → (K : List Want) → from b a (more_steps d ∷ K) ≡ from b z (drop_column p ∷ more_steps d ∷ K)
drop_found b a p z d j s F K =
    found_goes (is_key DROP) b a p z (more_steps d ∷ K) _ F (cond-false (is_key JOIN F.sign) _ _ (lacking_found (is_key DROP) (is_key JOIN) b a p z F j) ∙ (cond-false (is_key SELECT F.sign) _ _ (lacking_found (is_key DROP) (is_key SELECT) b a p z F s) ∙ cond-true (is_key DROP F.sign) _ _ F.is))

pub rename_found : (b : List ℕ) (a p z d : ℕ) → Lacking (is_key JOIN) (signs_at b a) → Lacking (is_key SELECT) (signs_at b a) → Lacking (is_key DROP) (signs_at b a) → Found (is_key RENAME) b a p z → (K : List Want) → from b a (more_steps d ∷ K) ≡ from b z (rename_column p ∷ more_steps d ∷ K)
rename_found b a p z d j s x F K =
    found_goes (is_key RENAME) b a p z (more_steps d ∷ K) _ F (cond-false (is_key JOIN F.sign) _ _ (lacking_found (is_key RENAME) (is_key JOIN) b a p z F j) ∙ (cond-false (is_key SELECT F.sign) _ _ (lacking_found (is_key RENAME) (is_key SELECT) b a p z F s) ∙ (cond-false (is_key DROP F.sign) _ _ (lacking_found (is_key RENAME) (is_key DROP) b a p z F x) ∙ cond-true (is_key RENAME F.sign) _ _ F.is)))

pub keyed_err : (b : List ℕ) (S : List Placed) (W : ℕ → List Want → List Want) (X : List Want → List Want) (a p m n z : ℕ) (e : Refusal) → ((K : List Want) → from b a (X K) ≡ from b m (W p (X K))) → Stepped (λ q K. from b m (W q K)) b (Err e) n → Further X b a S S (Err e) z
keyed_err b S W X a p m n z (Fault f) begins h =
    let s = h p in
    record { new = []; all = sym (append-nil S); items = s.items; quiet = s.quiet; stops = λ K. begins K ∙ s.stops (X K) }
keyed_err b S W X a p m n z Memory begins h = tt

-- a join, from its source
pub join_adds : (b : List ℕ) (S M : List Placed) (p d a m n : ℕ) → Found (is_key JOIN) b a p m → Adds (λ K. from b m (a_source d ∷ K)) b S M n → AddsBefore (λ K. from b a (more_steps d ∷ K)) b (λ K. more_steps d ∷ K) S (M ++ (placed p join ∷ [])) n
join_adds b S M p d a m n F h =
    let i : Item = a_step (placed p join) in
    record {
      new = h.new ++ (placed p join ∷ []);
      all = ap (λ L. L ++ (placed p join ∷ [])) h.all ∙ append_assoc S h.new (placed p join ∷ []);
      goes = λ K. join_found b a p m d F K
          ∙ (h.goes (complete i ∷ more_steps d ∷ K)
          ∙ (ap (following (all_items h.new)) (complete_run (length b) i (more_steps d ∷ K) (signs_at b n))
          ∙ (following_all (all_items h.new) (i ∷ []) (from b n (more_steps d ∷ K)) ∙ ap (λ l. following l (from b n (more_steps d ∷ K))) (sym (all_append h.new (placed p join ∷ []))))));
    }

-- a definition in brackets
pub nested_built : (b : List ℕ) (start : List Want → Read) (S T : List Placed) (m z : ℕ) (r : Result (Unit {0}) Refusal) → Adds start b S T m → Next (on_test is_closing) (λ (u : Unit {0}). u) b m r z → Built (λ K. start (a_closing ∷ K)) b S T r z
nested_built b start S T m z (Ok u) h g = record {
  new = h.new;
  all = h.all;
  goes = λ K. h.goes (a_closing ∷ K) ∙ ap (following (all_items h.new)) (g (a_closing ∷ K) (λ u. goes [] K) (closing_awaits (length b) K (signs_at b m)));
}
nested_built b start S T m z (Err (Fault f)) h g = record {
  new = h.new;
  all = h.all;
  items = [];
  quiet = λ R. refl;
  stops = λ K. h.goes (a_closing ∷ K) ∙ ap (following (all_items h.new)) (g (a_closing ∷ K) (λ u. goes [] K) (closing_awaits (length b) K (signs_at b m)));
}
nested_built b start S T m z (Err Memory) h g = tt

-- the same of an equal place
pub next_here : {A B : Type 0} {m a : ℕ} (J : ℕ → Sign → (A → Taken) → Taken) (v : B → A) (b : List ℕ) (r : Result B Refusal) (z : ℕ) → m ≡ a → Next J v b m r z → Next J v b a r z
next_here J v b r z i h = subst (λ n. Next J v b n r z) i h

-- a source
source_awaits : (e d : ℕ) (K : List Want) (l : List Token) → Lacking is_opening l → Awaits e (a_source d ∷ K) on_table (λ t. goes (a_step (placed t.0 (source t.1)) ∷ []) K) l
source_awaits e d K [] o = refl
source_awaits e d K (t ∷ l) o = cond-false (is_opening t.sign) _ _ o

pub source_err : {B : Type 0} (v : B → ℕ × List ℕ) (b : List ℕ) (S T : List Placed) (a z y d : ℕ) (e : Refusal) → T ≡ S → Lacking is_opening (signs_at b a) → Next on_table v b a (Err e) y → Built (λ K. from b a (a_source d ∷ K)) b S T (Err e) z
source_err v b S T a z y d (Fault f) same o h = record {
  new = [];
  all = same ∙ sym (append-nil S);
  items = [];
  quiet = λ R. refl;
  stops = λ K. h (a_source d ∷ K) (λ t. goes (a_step (placed t.0 (source t.1)) ∷ []) K) (source_awaits (length b) d K (signs_at b a) o);
}
source_err v b S T a z y d Memory same o h = tt

pub source_adds : {B : Type 0} (v : B → ℕ × List ℕ) (b : List ℕ) (S T : List Placed) (a z d : ℕ) (x : B) → T ≡ S ++ (placed (v x).0 (source (v x).1) ∷ []) → Lacking is_opening (signs_at b a) → Next on_table v b a (Ok x) z → Adds (λ K. from b a (a_source d ∷ K)) b S T z
source_adds v b S T a z d x all o h = record {
  new = placed (v x).0 (source (v x).1) ∷ [];
  all = all;
  goes = λ K. h (a_source d ∷ K) (λ t. goes (a_step (placed t.0 (source t.1)) ∷ []) K) (source_awaits (length b) d K (signs_at b a) o);
}

pub source_deep : {B : Type 0} (v : B → ℕ) (b : List ℕ) (S T : List Placed) (a p m z d : ℕ) (e : Refusal) → T ≡ S → Found is_opening b a p m → Judged (deeper p d) v (Err e) → Built (λ K. from b a (a_source d ∷ K)) b S T (Err e) z
source_deep v b S T a p m z d (Fault f) same F h = record {
  new = [];
  all = same ∙ sym (append-nil S);
  items = [];
  quiet = λ R. refl;
  stops = λ K. ap (run (length b) (a_source d ∷ K)) F.first ∙ ap (λ T. go_on T (from b m)) (cond-true (is_opening F.sign) _ _ F.is ∙ h _);
}
source_deep v b S T a p m z d Memory same F h = tt

-- one step pushed
pub pushed_placed : (v w : List program_placed.Placed) (x : program_placed.Placed) → w ≡ v ++ (x ∷ []) → written.all_placed w ≡ written.all_placed v ++ (written.placed x ∷ [])
pushed_placed v w x e = ap written.all_placed e ∙ map_push written.placed v x

-- what is said of another beginning
pub built_from : (start begin : List Want → Read) (b : List ℕ) (S T : List Placed) (r : Result (Unit {0}) Refusal) (z : ℕ) → ((K : List Want) → start K ≡ begin K) → Built begin b S T r z → Built start b S T r z
built_from start begin b S T (Ok u) z e h = record { new = h.new; all = h.all; goes = λ K. e K ∙ h.goes K }
built_from start begin b S T (Err (Fault f)) z e h = record { new = h.new; all = h.all; items = h.items; quiet = h.quiet; stops = λ K. e K ∙ h.stops K }
built_from start begin b S T (Err Memory) z e h = tt

-- reading stops with a fault before any step
pub built_stops : (start : List Want → Read) (b : List ℕ) (S T : List Placed) (e : Refusal) (z : ℕ) → T ≡ S → ((f : program_fault.Fault) → e ≡ Fault f → Stops start (told f)) → Built start b S T (Err e) z
built_stops start b S T (Fault f) z same h =
    let s = h f refl in
    record { new = []; all = same ∙ sym (append-nil S); items = s.items; quiet = s.quiet; stops = s.stops }
built_stops start b S T Memory z same h = tt

pub same_placed : {v w : List program_placed.Placed} → v ≡ w → written.all_placed v ≡ written.all_placed w
same_placed e = ap written.all_placed e
