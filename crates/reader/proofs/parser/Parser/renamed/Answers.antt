use Rattle.std.proofs.Common.{◌≡◌, ℕ, List, [], ◌∷◌, length, Ok, Err, refl, ◌∙◌, rules}
use Rattle.std.proofs.lemmas.Result.{err_from_is_err_and}
use Rattle.grammar.specs.Phrases.{placed, rename}
use Rattle.grammar.specs.Reading.{Want, a_step, rename_column, rename_as, rename_word, goes, is_key, on_word}
use Rattle.grammar.specs.Signs.{AS}
use Rattle.signs.specs.Reached.{signs_at}
use Rattle.reader.specs.Judging.{spelt}
use Rattle.reader.specs.Saying.{from, on_test}
use Rattle.reader.proofs.Asking.{asked_at}
use Rattle.reader.proofs.Phrasing.{next_moved}
use Rattle.reader.proofs.Steps.{step_err, rename_column_awaits, rename_as_awaits, rename_word_awaits}
use Rattle.reader.proofs.parser.Parser.renamed.Goals as goal

pub returns-in_err-expect-clause-said : goal.returns-in_err-expect-clause-said
returns-in_err-expect-clause-said c =
    let p = err_from_is_err_and c.from_residual-in_err-expect.result c.from_residual-in_err-expect.ensures.1 in
    let b = c.args.self.now.reader.text.now in
    let a = c.args.self.now.reader.at in
    let m = c.next.new.self.reader.at in
    let z = c.expect.new.self.reader.at in
    let w = c.in_ok-column.column.now in
    let f = c.in_err-expect.field-0.0 in
    let column = asked_at on_word spelt _ c.args.self.now c.next.new.self (Ok c.in_ok-column.column) refl c.in_ok-column.ensures.asked (λ t r m. m.1) in
    let one : (q : ℕ) (K : List Want) → from b a (rename_column q ∷ K) ≡ from b m (rename_as q w ∷ K) = λ q K. column (rename_column q ∷ K) (λ w. goes [] (rename_as q w ∷ K)) (rename_column_awaits (length b) q K (signs_at b a)) in
    let h = next_moved (on_test (is_key AS)) (λ u. u) m (Err f) z c.next.ensures.onward.same (c.in_err-expect.ensures.next (is_key AS) (search rules)) in
    rw (p.1, p.2) (step_err (λ q K. from b a (rename_column q ∷ K)) (on_test (is_key AS)) (λ u. u) b m z z (λ q K. rename_as q w ∷ K) (λ q K u. goes [] (rename_word q w ∷ K)) (rename_as_awaits (length b) w) one f h)

pub returns-in_err-new-clause-said : goal.returns-in_err-new-clause-said
returns-in_err-new-clause-said c =
    let p = err_from_is_err_and c.from_residual-in_err-new.result c.from_residual-in_err-new.ensures.1 in
    let b = c.args.self.now.reader.text.now in
    let a = c.args.self.now.reader.at in
    let m = c.next.new.self.reader.at in
    let n = c.expect.new.self.reader.at in
    let z = c.next-2.new.self.reader.at in
    let w = c.in_ok-column.column.now in
    let f = c.in_err-new.field-0.0 in
    let e = c.next.ensures.onward.same in
    let column = asked_at on_word spelt _ c.args.self.now c.next.new.self (Ok c.in_ok-column.column) refl c.in_ok-column.ensures.asked (λ t r m. m.1) in
    let k = next_moved (on_test (is_key AS)) (λ u. u) m (Ok tt) n e (c.in_ok-expect.ensures.next (is_key AS) (search rules)) in
    let two : (q : ℕ) (K : List Want) → from b a (rename_column q ∷ K) ≡ from b n (rename_word q w ∷ K) = λ q K. column (rename_column q ∷ K) (λ w. goes [] (rename_as q w ∷ K)) (rename_column_awaits (length b) q K (signs_at b a)) ∙ k (rename_as q w ∷ K) (λ u. goes [] (rename_word q w ∷ K)) (rename_as_awaits (length b) w q K (signs_at b m)) in
    let h = asked_at on_word spelt _ c.expect.new.self c.next-2.new.self (Err f) (c.expect.ensures.onward.same ∙ e) c.in_err-new.ensures.asked (λ t r m. m.1) in
    rw (p.1, p.2) (step_err (λ q K. from b a (rename_column q ∷ K)) on_word spelt b n z z (λ q K. rename_word q w ∷ K) (λ q K v. goes (a_step (placed q (rename w v)) ∷ []) K) (rename_word_awaits (length b) w) two f h)

pub returns-clause-said : goal.returns-clause-said
returns-clause-said c =
    let b = c.args.self.now.reader.text.now in
    let a = c.args.self.now.reader.at in
    let m = c.next.new.self.reader.at in
    let n = c.expect.new.self.reader.at in
    let w = c.in_ok-column.column.now in
    let e = c.next.ensures.onward.same in
    let column = asked_at on_word spelt _ c.args.self.now c.next.new.self (Ok c.in_ok-column.column) refl c.in_ok-column.ensures.asked (λ t r m. m.1) in
    let k = next_moved (on_test (is_key AS)) (λ u. u) m (Ok tt) n e (c.in_ok-expect.ensures.next (is_key AS) (search rules)) in
    let h = asked_at on_word spelt _ c.expect.new.self c.next-2.new.self (Ok c.in_ok-new.new) (c.expect.ensures.onward.same ∙ e) c.in_ok-new.ensures.asked (λ t r m. m.1) in
    λ q K. column (rename_column q ∷ K) (λ w. goes [] (rename_as q w ∷ K)) (rename_column_awaits (length b) q K (signs_at b a)) ∙ (k (rename_as q w ∷ K) (λ u. goes [] (rename_word q w ∷ K)) (rename_as_awaits (length b) w q K (signs_at b m)) ∙ h (rename_word q w ∷ K) (λ v. goes (a_step (placed q (rename w v)) ∷ []) K) (rename_word_awaits (length b) w q K (signs_at b n)))
