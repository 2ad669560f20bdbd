use Rattle.std.proofs.Common.{◌≡◌, ℕ, ◌+◌, ◌-◌, ◌<◌, false, List, ◌∷◌, length, get_or, take, drop, sym, refl, ap, ◌∙◌, arith, rules, tests}
use Rattle.std.proofs.lemmas.List.{take_rest, get_or-drop, length-drop}
use Rattle.grammar.specs.Signs.{at, Piece, front, sign_at}
use Rattle.signs.specs.Reached.{before, signs_at, First}
use Rattle.signs.specs.Spoken.{cut}
use Rattle.signs.specs.declared.cutting.Piece as program
use Rattle.signs.proofs.Reaching.{is_space, spaces, front_stops, first_sign, first_inside, no_sign}
use Rattle.signs.proofs.reader.Reader.peek.Goals as goal

-- the spaces from a place on
spaced : (b : List ℕ) (a n : ℕ) → n ≡ length (front is_space (drop a b)) → signs_at b a ≡ signs_at b (a + n)
spaced b a n e = spaces b (drop a b) a refl ∙ ap (λ k. signs_at b (a + k)) (sym e)

first : (b : List ℕ) (a n : ℕ) (s : program.Piece) → n ≡ length (front is_space (drop a b)) → a + n < length b → cut s ≡ sign_at (a + n) (before b (a + n)) (get_or b (a + n) 0) (drop (a + n + 1) b) → First b a (record { sign = s.sign; place = a + n; end = a + n + 1 + s.more })
first b a n s e h c =
    let long = length-drop a b in
    let stop : is_space (get_or b (a + n) 0) ≡ false = ap is_space (sym (get_or-drop a b n 0)) ∙ (ap (λ k. is_space (get_or (drop a b) k 0)) e ∙ front_stops is_space (drop a b) (omega (arith, long, e))) in
    let more = ap (λ (p : Piece). p.more) c in
    record { first = spaced b a n e ∙ (first_sign b (a + n) h stop ∙ ap (λ (p : Piece). at (a + n) p.sign ∷ signs_at b (a + n + 1 + p.more)) (sym c)); onward = omega arith; inside = omega (arith, first_inside b (a + n) h, more) }

-- how many spaces are passed
passed : (b : List ℕ) (a : ℕ) (s : List ℕ) → s ≡ front is_space (take (length b - a) (drop a b)) → length s ≡ length (front is_space (drop a b))
passed b a s e = ap length e ∙ ap (λ l. length (front is_space l)) (take_rest b a)

pub returns-then-place-text : goal.returns-then-place-text
returns-then-place-text c =
    let b = c.args.self.now.text.now in
    let a = c.args.self.now.at in
    let s = c.split_run.result.0.now in
    spaced b a (length s) (passed b a s (c.split_run.ensures.front is_space (λ a b k. search (rules, tests)))) ∙ no_sign b (a + length s) (omega arith)

pub overflow_add-result-2 : goal.overflow_add-result-2
overflow_add-result-2 c =
    let more = ap (λ (p : Piece). p.more) c.piece_at-piece.ensures in
    omega (arith, more, first_inside c.args.self.now.text.now (c.args.self.now.at + length c.split_run.result.0.now) (omega arith))

pub returns : goal.returns
returns c =
    let b = c.args.self.now.text.now in
    let a = c.args.self.now.at in
    let s = c.split_run.result.0.now in
    first b a (length s) c.piece_at-piece.result (passed b a s (c.split_run.ensures.front is_space (λ a b k. search (rules, tests)))) (omega arith) c.piece_at-piece.ensures
