use Rattle.std.proofs.Common.{ℕ, List, [], ◌∷◌, ◌++◌, Some, Ok, Err, Option, vec_items, sym, refl, ◌∙◌, subst, Bor, arith, rules}
use Rattle.std.proofs.lemmas.Result.{err_from_is_err_and}
use Rattle.grammar.specs.Reading.{a_condition, a_definition, a_select, a_source, complete, drop_column, is_closing, is_key, more_steps, rename_column}
use Rattle.grammar.specs.Signs.{DROP, RENAME, SELECT}
use Rattle.phrases.specs.Written.{all_placed, placed}
use Rattle.phrases.specs.declared.steps.Placed as program
use Rattle.reader.specs.Saying.{from, on_test}
use Rattle.reader.specs.Stepping.{AddsBefore, Further, on_table, table}
use Rattle.reader.proofs.Asking.{asked_at}
use Rattle.reader.proofs.Phrasing.{lacking_moved, next_moved}
use Rattle.reader.proofs.Steps.{adds_on, adds_stops, built_moved, drop_found, found_moved, further_moved, join_adds, keyed_err, nested_built, next_here, pushed_placed, rename_found, select_found, source_adds, source_deep, source_err, stepped_moved}
use Rattle.reader.proofs.parser.Parser.+definition_nested_source_step.Goals as goal

pub definition-returns-in_err-placed-clause-built : goal.definition-returns-in_err-placed-clause-built
definition-returns-in_err-placed-clause-built t c =
    let p = err_from_is_err_and c.from_residual-in_err-placed.result c.from_residual-in_err-placed.ensures.1 in
    let b = c.args.self.now.reader.text.now in
    let a = c.args.self.now.reader.at in
    let d = c.args.depth in
    let z = c.loop-placed.self.reader.at in
    let n = c.step.new.self.reader.at in
    let S = all_placed (vec_items c.args.steps.now) in
    let M = all_placed (vec_items c.loop-placed.steps) in
    let T = all_placed (vec_items c.step.new.steps) in
    let f = c.in_err-placed.field-0.0 in
    let h = further_moved (λ K. more_steps d ∷ K) z M T (Err f) n c.loop-placed.invariant.same c.in_err-placed.ensures.further in
    rw (p.1, p.2) (adds_stops (λ K. from b a (a_definition d K)) b (λ K. more_steps d ∷ K) S M T z n n f c.loop-placed.invariant.adds h)

pub definition-loop-placed-preserved : goal.definition-loop-placed-preserved
definition-loop-placed-preserved t c =
    let b = c.args.self.now.reader.text.now in
    let a = c.args.self.now.reader.at in
    let d = c.args.depth in
    let z = c.loop-placed.self.reader.at in
    let n = c.step.new.self.reader.at in
    let S = all_placed (vec_items c.args.steps.now) in
    let M = all_placed (vec_items c.loop-placed.steps) in
    let T = all_placed (vec_items c.step.new.steps) in
    let x = c.in-Some.placed in
    let P : Option program.Placed → Type 0 = λ o. Further (λ K. more_steps d ∷ K) b z M T (Ok o) n in
    let h : P (Some x) = subst P c.in-Some.is (further_moved (λ K. more_steps d ∷ K) z M T (Ok c.in_ok-placed.field-0) n c.loop-placed.invariant.same c.in_ok-placed.ensures.further) in
    let e = pushed_placed (vec_items c.step.new.steps) (vec_items c.push.new.self) x c.in_ok-push.ensures.items in
    let adds = adds_on (λ K. from b a (a_definition d K)) b (λ K. more_steps d ∷ K) S M (T ++ (placed x ∷ [])) z n c.loop-placed.invariant.adds h in
    record {
      same = c.step.ensures.onward.same ∙ c.loop-placed.invariant.same;
      after = omega (arith, c.loop-placed.invariant.after, c.step.ensures.onward.after);
      adds = subst (λ T. AddsBefore (λ K. from b a (a_definition d K)) b (λ K. more_steps d ∷ K) S T n) (sym e) adds;
    }

pub nested-returns-clause-built : goal.nested-returns-clause-built
nested-returns-clause-built t c =
    let b = c.args.self.now.reader.text.now in
    let a = c.args.self.now.reader.at in
    let d = c.args.depth in
    let m = c.definition.new.self.reader.at in
    let z = c.expect.new.self.reader.at in
    let S = all_placed (vec_items c.args.steps.now) in
    let T = all_placed (vec_items c.definition.new.steps) in
    let h = next_moved (on_test is_closing) (λ u. u) m c.expect.result z c.definition.ensures.onward.same (c.expect.ensures.next is_closing (search rules)) in
    nested_built b (λ K. from b a (a_definition d K)) S T m z c.expect.result c.in_ok-definition.ensures.built h

pub source-returns-in_err-depth-clause-built : goal.source-returns-in_err-depth-clause-built
source-returns-in_err-depth-clause-built t c =
    let p = err_from_is_err_and c.from_residual.result c.from_residual.ensures.1 in
    let b = c.args.self.now.reader.text.now in
    let a = c.args.self.now.reader.at in
    let m = c.take_opening.new.self.at in
    let S = all_placed (vec_items c.args.steps.now) in
    rw (p.1, p.2) (source_deep (λ x. x) b S S a c.in-Some.place m m c.args.depth c.in_err-depth.field-0.0 refl c.in-Some.ensures.taken c.in_err-depth.ensures)

pub source-returns-in_err-place-clause-built : goal.source-returns-in_err-place-clause-built
source-returns-in_err-place-clause-built t c =
    let p = err_from_is_err_and c.from_residual-in_err-place.result c.from_residual-in_err-place.ensures.1 in
    let b = c.args.self.now.reader.text.now in
    let a = c.args.self.now.reader.at in
    let z = c.next.new.self.reader.at in
    let f = c.in_err-place.field-0.0 in
    let S = all_placed (vec_items c.args.steps.now) in
    let o = c.in_default.ensures.taken in
    let h = next_here on_table table b (Err f) z o.1 (asked_at on_table table _ _ c.next.new.self (Err f) c.take_opening.ensures.same c.in_err-place.ensures.asked (λ t r m. m.1)) in
    rw (p.1, p.2) (source_err table b S S a z z c.args.depth f refl o.0 h)

pub source-returns-clause-built : goal.source-returns-clause-built
source-returns-clause-built t c =
    let b = c.args.self.now.reader.text.now in
    let a = c.args.self.now.reader.at in
    let z = c.next.new.self.reader.at in
    let x : ℕ × Bor (List ℕ) = (c.in_ok-place.place, c.in_ok-place.table) in
    let S = all_placed (vec_items c.args.steps.now) in
    let T = all_placed (vec_items c.push.new.self) in
    let o = c.in_default.ensures.taken in
    let h = next_here on_table table b (Ok x) z o.1 (asked_at on_table table _ _ c.next.new.self (Ok x) c.take_opening.ensures.same c.in_ok-place.ensures.asked (λ t r m. m.1)) in
    let e = pushed_placed (vec_items c.args.steps.now) (vec_items c.push.new.self) _ c.in_ok-push.ensures.items in
    source_adds table b S T a z c.args.depth x e o.0 h

pub step-returns-in-Some-clause-further : goal.step-returns-in-Some-clause-further
step-returns-in-Some-clause-further t c =
    let b = c.args.self.now.reader.text.now in
    let a = c.args.self.now.reader.at in
    let d = c.args.depth in
    let m = c.take_key.new.self.at in
    let n = c.source.new.self.reader.at in
    let S = all_placed (vec_items c.args.steps.now) in
    let M = all_placed (vec_items c.source.new.steps) in
    join_adds b S M c.in-Some.place d a m n c.in-Some.ensures.taken (built_moved (λ K. a_source d ∷ K) m S M (Ok tt) n c.take_key.ensures.same c.in_ok-source.ensures.built)

pub step-returns-in_err-step-clause-further : goal.step-returns-in_err-step-clause-further
step-returns-in_err-step-clause-further t c =
    let r = err_from_is_err_and c.from_residual-in_err-step.result c.from_residual-in_err-step.ensures.1 in
    let b = c.args.self.now.reader.text.now in
    let a = c.args.self.now.reader.at in
    let d = c.args.depth in
    let S = all_placed (vec_items c.args.steps.now) in
    let e1 = c.take_key.ensures.same in
    let j = c.in_default.ensures.taken in
    let p = c.in-Some-take_key.place in
    let m = c.take_key-2.new.self.at in
    let n = c.selected.new.self.reader.at in
    let F = found_moved (is_key SELECT) c.take_key.new.self.at a p m e1 j.1 c.in-Some-take_key.ensures.taken in
    let f = c.in_err-step.field-0.0 in
    let h = stepped_moved (λ q K. a_condition d (complete (a_select q) ∷ K)) m (Err f) n (c.take_key-2.ensures.same ∙ e1) c.in_err-step.ensures.said in
    rw (r.1, r.2) (keyed_err b S (λ q K. a_condition d (complete (a_select q) ∷ K)) (λ K. more_steps d ∷ K) a p m n n f (select_found b a p m d j.0 F) h)

pub step-returns-in_err-step-2-clause-further : goal.step-returns-in_err-step-2-clause-further
step-returns-in_err-step-2-clause-further t c =
    let r = err_from_is_err_and c.from_residual-in_err-step-2.result c.from_residual-in_err-step-2.ensures.1 in
    let b = c.args.self.now.reader.text.now in
    let a = c.args.self.now.reader.at in
    let d = c.args.depth in
    let S = all_placed (vec_items c.args.steps.now) in
    let e1 = c.take_key.ensures.same in
    let j = c.in_default.ensures.taken in
    let e2 = c.take_key-2.ensures.same ∙ e1 in
    let s = c.in_default-take_key.ensures.taken in
    let sl = lacking_moved (is_key SELECT) c.take_key.new.self.at a e1 j.1 s.0 in
    let i2 = s.1 ∙ j.1 in
    let p = c.in-Some-take_key-2.place in
    let m = c.take_key-3.new.self.at in
    let n = c.dropped.new.self.reader.at in
    let F = found_moved (is_key DROP) c.take_key-2.new.self.at a p m e2 i2 c.in-Some-take_key-2.ensures.taken in
    let f = c.in_err-step-2.field-0.0 in
    let h = stepped_moved (λ q K. drop_column q ∷ K) m (Err f) n (c.take_key-3.ensures.same ∙ e2) c.in_err-step-2.ensures.said in
    rw (r.1, r.2) (keyed_err b S (λ q K. drop_column q ∷ K) (λ K. more_steps d ∷ K) a p m n n f (drop_found b a p m d j.0 sl F) h)

pub step-returns-in_err-step-3-clause-further : goal.step-returns-in_err-step-3-clause-further
step-returns-in_err-step-3-clause-further t c =
    let r = err_from_is_err_and c.from_residual-in_err-step-3.result c.from_residual-in_err-step-3.ensures.1 in
    let b = c.args.self.now.reader.text.now in
    let a = c.args.self.now.reader.at in
    let d = c.args.depth in
    let S = all_placed (vec_items c.args.steps.now) in
    let e1 = c.take_key.ensures.same in
    let j = c.in_default.ensures.taken in
    let e2 = c.take_key-2.ensures.same ∙ e1 in
    let s = c.in_default-take_key.ensures.taken in
    let sl = lacking_moved (is_key SELECT) c.take_key.new.self.at a e1 j.1 s.0 in
    let i2 = s.1 ∙ j.1 in
    let e3 = c.take_key-3.ensures.same ∙ e2 in
    let x = c.in_default-take_key-2.ensures.taken in
    let xl = lacking_moved (is_key DROP) c.take_key-2.new.self.at a e2 i2 x.0 in
    let i3 = x.1 ∙ i2 in
    let p = c.in-Some-take_key-3.place in
    let m = c.take_key-4.new.self.at in
    let n = c.renamed.new.self.reader.at in
    let F = found_moved (is_key RENAME) c.take_key-3.new.self.at a p m e3 i3 c.in-Some-take_key-3.ensures.taken in
    let f = c.in_err-step-3.field-0.0 in
    let h = stepped_moved (λ q K. rename_column q ∷ K) m (Err f) n (c.take_key-4.ensures.same ∙ e3) c.in_err-step-3.ensures.said in
    rw (r.1, r.2) (keyed_err b S (λ q K. rename_column q ∷ K) (λ K. more_steps d ∷ K) a p m n n f (rename_found b a p m d j.0 sl xl F) h)
