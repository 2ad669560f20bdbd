use Rattle.std.proofs.Common.{List, ◌∷◌, Ok, Err, refl, ap, ◌∙◌, arith, rules}
use Rattle.std.proofs.lemmas.Result.{err_from_is_err_and}
use Rattle.conditions.proofs.Built.{not_gives, bracket_gives, and_gives, or_gives}
use Rattle.grammar.specs.Phrases.{both, bracket, either, negated}
use Rattle.grammar.specs.Reading.{Want, a_neg, a_not, a_bracket, a_closing, a_condition, an_and, an_or, complete, is_closing, is_key, more_and, more_or, following}
use Rattle.grammar.specs.Signs.{AND, OR}
use Rattle.phrases.specs.Written.{phrase}
use Rattle.reader.specs.Saying.{from, on_test, postfix}
use Rattle.reader.proofs.Phrasing.{closing_err, closing_goes, item_over, met_and, met_or, more_stops, next_moved, one_more, said_moved, said_stops, taken_after}
use Rattle.reader.proofs.parser.Parser.+bracketed_condition_conjunction_negated_negation.Goals as goal

pub negated-returns-clause-said : goal.negated-returns-clause-said
negated-returns-clause-said t c =
    let b = c.args.self.now.reader.text.now in
    let a = c.args.self.now.reader.at in
    let d = c.args.depth in
    let z = c.negation.new.self.reader.at in
    item_over (λ K. from b a (a_neg d ∷ K)) b c.in_ok-inner.inner c.in_ok-not.field-0 a_not z c.in_ok-inner.ensures.said (ap postfix (not_gives phrase negated (λ p k. refl) _ _ c.in_ok-not.ensures))

pub bracketed-returns-in_err-expect-clause-said : goal.bracketed-returns-in_err-expect-clause-said
bracketed-returns-in_err-expect-clause-said t c =
    let p = err_from_is_err_and c.from_residual-in_err-expect.result c.from_residual-in_err-expect.ensures.1 in
    let b = c.args.self.now.reader.text.now in
    let a = c.args.self.now.reader.at in
    let d = c.args.depth in
    let m = c.condition.new.self.reader.at in
    let z = c.expect.new.self.reader.at in
    let f = c.in_err-expect.field-0.0 in
    let h = next_moved (on_test is_closing) (λ u. u) m (Err f) z c.condition.ensures.onward.same (c.in_err-expect.ensures.next is_closing (search rules)) in
    rw (p.1, p.2) (said_stops (λ K. from b a (a_condition d K)) b c.in_ok-inner.inner (λ K. a_closing ∷ complete a_bracket ∷ K) m z f c.in_ok-inner.ensures.said (closing_err b m z z (λ K. complete a_bracket ∷ K) f h))

pub bracketed-returns-clause-said : goal.bracketed-returns-clause-said
bracketed-returns-clause-said t c =
    let b = c.args.self.now.reader.text.now in
    let a = c.args.self.now.reader.at in
    let d = c.args.depth in
    let m = c.condition.new.self.reader.at in
    let z = c.expect.new.self.reader.at in
    let k = c.in_ok-inner.inner in
    let h = next_moved (on_test is_closing) (λ u. u) m (Ok tt) z c.condition.ensures.onward.same (c.in_ok-expect.ensures.next is_closing (search rules)) in
    let inner = λ (K : List Want). c.in_ok-inner.ensures.said (a_closing ∷ K) ∙ ap (following (postfix (phrase k))) (closing_goes b m z h K) in
    item_over (λ K. from b a (a_condition d (a_closing ∷ K))) b k c.in_ok-bracketed.field-0 a_bracket z inner (ap postfix (bracket_gives phrase bracket (λ p k. refl) _ _ c.in_ok-bracketed.ensures))

pub conjunction-returns-in_err-right-clause-said : goal.conjunction-returns-in_err-right-clause-said
conjunction-returns-in_err-right-clause-said t c =
    let p = err_from_is_err_and c.from_residual-in_err-right.result c.from_residual-in_err-right.ensures.1 in
    let b = c.args.self.now.reader.text.now in
    let a = c.args.self.now.reader.at in
    let d = c.args.depth in
    let z = c.loop-self.self.reader.at in
    let m = c.take_key.new.self.at in
    let n = c.negation-in-loop-self.new.self.reader.at in
    let f = c.in_err-right.field-0.0 in
    let same = c.loop-self.invariant.same in
    let met = met_and z d m c.take_key.result same (c.loop-self-test.ensures {u = tt}) c.take_key.ensures.taken in
    let right = said_moved (λ K. a_neg d ∷ K) m (Err f) n (c.take_key.ensures.same ∙ same) c.in_err-right.ensures.said in
    rw (p.1, p.2) (more_stops (λ K. from b a (a_neg d ∷ more_and d ∷ K)) b (more_and d) an_and (λ K. a_neg d ∷ K) (phrase c.loop-self.left) z m n n f c.loop-self.invariant.before met right)

pub conjunction-loop-self-preserved : goal.conjunction-loop-self-preserved
conjunction-loop-self-preserved t c =
    let b = c.args.self.now.reader.text.now in
    let a = c.args.self.now.reader.at in
    let d = c.args.depth in
    let z = c.loop-self.self.reader.at in
    let m = c.take_key.new.self.at in
    let n = c.negation-in-loop-self.new.self.reader.at in
    let l = c.in_ok-right.right in
    let same = c.loop-self.invariant.same in
    let met = met_and z d m c.take_key.result same (c.loop-self-test.ensures {u = tt}) c.take_key.ensures.taken in
    let right = said_moved (λ K. a_neg d ∷ K) m (Ok l) n (c.take_key.ensures.same ∙ same) c.in_ok-right.ensures.said in
    record {
      same = c.negation-in-loop-self.ensures.onward.same ∙ (c.take_key.ensures.same ∙ same);
      after = omega (arith, c.loop-self.invariant.after, taken_after (is_key AND) _ z m c.take_key.result c.take_key.ensures.taken, c.negation-in-loop-self.ensures.onward.after);
      before = one_more (λ K. from b a (a_neg d ∷ more_and d ∷ K)) b (more_and d) an_and (λ K. a_neg d ∷ K) (phrase c.loop-self.left) (phrase c.in_ok-left-2.left) l z m n c.loop-self.invariant.before met right (ap postfix (and_gives phrase both (λ p k q l. refl) _ _ _ c.in_ok-left-2.ensures));
    }

pub condition-returns-in_err-right-clause-said : goal.condition-returns-in_err-right-clause-said
condition-returns-in_err-right-clause-said t c =
    let p = err_from_is_err_and c.from_residual-in_err-right.result c.from_residual-in_err-right.ensures.1 in
    let b = c.args.self.now.reader.text.now in
    let a = c.args.self.now.reader.at in
    let d = c.args.depth in
    let z = c.loop-self.self.reader.at in
    let m = c.take_key.new.self.at in
    let n = c.conjunction-in-loop-self.new.self.reader.at in
    let f = c.in_err-right.field-0.0 in
    let same = c.loop-self.invariant.same in
    let met = met_or z d m c.take_key.result same (c.loop-self-test.ensures {u = tt}) c.take_key.ensures.taken in
    let right = said_moved (λ K. a_neg d ∷ more_and d ∷ K) m (Err f) n (c.take_key.ensures.same ∙ same) c.in_err-right.ensures.said in
    rw (p.1, p.2) (more_stops (λ K. from b a (a_condition d K)) b (more_or d) an_or (λ K. a_neg d ∷ more_and d ∷ K) (phrase c.loop-self.left) z m n n f c.loop-self.invariant.before met right)

pub condition-loop-self-preserved : goal.condition-loop-self-preserved
condition-loop-self-preserved t c =
    let b = c.args.self.now.reader.text.now in
    let a = c.args.self.now.reader.at in
    let d = c.args.depth in
    let z = c.loop-self.self.reader.at in
    let m = c.take_key.new.self.at in
    let n = c.conjunction-in-loop-self.new.self.reader.at in
    let l = c.in_ok-right.right in
    let same = c.loop-self.invariant.same in
    let met = met_or z d m c.take_key.result same (c.loop-self-test.ensures {u = tt}) c.take_key.ensures.taken in
    let right = said_moved (λ K. a_neg d ∷ more_and d ∷ K) m (Ok l) n (c.take_key.ensures.same ∙ same) c.in_ok-right.ensures.said in
    record {
      same = c.conjunction-in-loop-self.ensures.onward.same ∙ (c.take_key.ensures.same ∙ same);
      after = omega (arith, c.loop-self.invariant.after, taken_after (is_key OR) _ z m c.take_key.result c.take_key.ensures.taken, c.conjunction-in-loop-self.ensures.onward.after);
      before = one_more (λ K. from b a (a_condition d K)) b (more_or d) an_or (λ K. a_neg d ∷ more_and d ∷ K) (phrase c.loop-self.left) (phrase c.in_ok-left-2.left) l z m n c.loop-self.invariant.before met right (ap postfix (or_gives phrase either (λ p k q l. refl) _ _ _ c.in_ok-left-2.ensures));
    }
