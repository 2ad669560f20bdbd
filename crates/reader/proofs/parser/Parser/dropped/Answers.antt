use Rattle.std.proofs.Common.{◌≡◌, ℕ, List, [], ◌∷◌, length, Ok, Err, refl, ◌∙◌, rules}
use Rattle.std.proofs.lemmas.Result.{err_from_is_err_and}
use Rattle.grammar.specs.Phrases.{placed, drop}
use Rattle.grammar.specs.Reading.{Want, a_step, drop_column, drop_default, drop_cell, goes, is_key, on_cell, on_word}
use Rattle.grammar.specs.Signs.{DEFAULT}
use Rattle.phrases.specs.Written.{constant}
use Rattle.signs.specs.Reached.{signs_at}
use Rattle.reader.specs.Judging.{spelt}
use Rattle.reader.specs.Saying.{from, on_test}
use Rattle.reader.proofs.Asking.{asked_at}
use Rattle.reader.proofs.Phrasing.{next_moved}
use Rattle.reader.proofs.Steps.{step_err, drop_column_awaits, drop_default_awaits, drop_cell_awaits}
use Rattle.reader.proofs.parser.Parser.dropped.Goals as goal

pub returns-in_err-expect-clause-said : goal.returns-in_err-expect-clause-said
returns-in_err-expect-clause-said c =
    let p = err_from_is_err_and c.from_residual-in_err-expect.result c.from_residual-in_err-expect.ensures.1 in
    let b = c.args.self.now.reader.text.now in
    let a = c.args.self.now.reader.at in
    let m = c.next.new.self.reader.at in
    let z = c.expect.new.self.reader.at in
    let w = c.in_ok-column.column.now in
    let f = c.in_err-expect.field-0.0 in
    let column = asked_at on_word spelt _ c.args.self.now c.next.new.self (Ok c.in_ok-column.column) refl c.in_ok-column.ensures.asked (λ t r m. m.1) in
    let one : (q : ℕ) (K : List Want) → from b a (drop_column q ∷ K) ≡ from b m (drop_default q w ∷ K) = λ q K. column (drop_column q ∷ K) (λ w. goes [] (drop_default q w ∷ K)) (drop_column_awaits (length b) q K (signs_at b a)) in
    let h = next_moved (on_test (is_key DEFAULT)) (λ u. u) m (Err f) z c.next.ensures.onward.same (c.in_err-expect.ensures.next (is_key DEFAULT) (search rules)) in
    rw (p.1, p.2) (step_err (λ q K. from b a (drop_column q ∷ K)) (on_test (is_key DEFAULT)) (λ u. u) b m z z (λ q K. drop_default q w ∷ K) (λ q K u. goes [] (drop_cell q w ∷ K)) (drop_default_awaits (length b) w) one f h)

pub returns-in_err-value-clause-said : goal.returns-in_err-value-clause-said
returns-in_err-value-clause-said c =
    let p = err_from_is_err_and c.from_residual-in_err-value.result c.from_residual-in_err-value.ensures.1 in
    let b = c.args.self.now.reader.text.now in
    let a = c.args.self.now.reader.at in
    let m = c.next.new.self.reader.at in
    let n = c.expect.new.self.reader.at in
    let z = c.next-2.new.self.reader.at in
    let w = c.in_ok-column.column.now in
    let f = c.in_err-value.field-0.0 in
    let e = c.next.ensures.onward.same in
    let column = asked_at on_word spelt _ c.args.self.now c.next.new.self (Ok c.in_ok-column.column) refl c.in_ok-column.ensures.asked (λ t r m. m.1) in
    let k = next_moved (on_test (is_key DEFAULT)) (λ u. u) m (Ok tt) n e (c.in_ok-expect.ensures.next (is_key DEFAULT) (search rules)) in
    let two : (q : ℕ) (K : List Want) → from b a (drop_column q ∷ K) ≡ from b n (drop_cell q w ∷ K) = λ q K. column (drop_column q ∷ K) (λ w. goes [] (drop_default q w ∷ K)) (drop_column_awaits (length b) q K (signs_at b a)) ∙ k (drop_default q w ∷ K) (λ u. goes [] (drop_cell q w ∷ K)) (drop_default_awaits (length b) w q K (signs_at b m)) in
    let h = asked_at on_cell constant _ c.expect.new.self c.next-2.new.self (Err f) (c.expect.ensures.onward.same ∙ e) c.in_err-value.ensures.asked (λ t r m. m.1) in
    rw (p.1, p.2) (step_err (λ q K. from b a (drop_column q ∷ K)) on_cell constant b n z z (λ q K. drop_cell q w ∷ K) (λ q K v. goes (a_step (placed q (drop w v)) ∷ []) K) (drop_cell_awaits (length b) w) two f h)

pub returns-clause-said : goal.returns-clause-said
returns-clause-said c =
    let b = c.args.self.now.reader.text.now in
    let a = c.args.self.now.reader.at in
    let m = c.next.new.self.reader.at in
    let n = c.expect.new.self.reader.at in
    let w = c.in_ok-column.column.now in
    let e = c.next.ensures.onward.same in
    let column = asked_at on_word spelt _ c.args.self.now c.next.new.self (Ok c.in_ok-column.column) refl c.in_ok-column.ensures.asked (λ t r m. m.1) in
    let k = next_moved (on_test (is_key DEFAULT)) (λ u. u) m (Ok tt) n e (c.in_ok-expect.ensures.next (is_key DEFAULT) (search rules)) in
    let h = asked_at on_cell constant _ c.expect.new.self c.next-2.new.self (Ok c.in_ok-value.value) (c.expect.ensures.onward.same ∙ e) c.in_ok-value.ensures.asked (λ t r m. m.1) in
    λ q K. column (drop_column q ∷ K) (λ w. goes [] (drop_default q w ∷ K)) (drop_column_awaits (length b) q K (signs_at b a)) ∙ (k (drop_default q w ∷ K) (λ u. goes [] (drop_cell q w ∷ K)) (drop_default_awaits (length b) w q K (signs_at b m)) ∙ h (drop_cell q w ∷ K) (λ v. goes (a_step (placed q (drop w v)) ∷ []) K) (drop_cell_awaits (length b) w q K (signs_at b n)))
