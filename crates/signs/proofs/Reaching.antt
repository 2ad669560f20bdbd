-- The signs from a place on: spaces are passed over, and so are the bytes of a sign.
use Rattle.std.proofs.Common.{◌≡◌, ℕ, zero, suc, ◌+◌, ◌<◌, ◌≤◌, Bool, true, false, cond, ◌&&◌, eqb, List, [], ◌∷◌, length, get_or, drop, sym, refl, ap, ◌∙◌, add-zero, add-one, arith}
use Rattle.std.proofs.lemmas.List.{drop_all, drop_more, length-drop}
use Rattle.std.proofs.lemmas.Bool.{cond-true, cond-false, cond_both, both_ways}
use Rattle.model.specs.Words.{is_letter}
use Rattle.model.specs.Sorts.{is_text_byte}
use Rattle.grammar.specs.Signs.{at, Piece, front, touches, is_digit, sign_at, signs_from, mark, equals_next, quote_end, quote_more, held}
use Rattle.signs.specs.Reached.{before, signs_at}
use Rattle.runs.proofs.Cuts.{front_short}

abbrev pub is_space : ℕ → Bool
is_space b = eqb b 0x20

pub before_next : (b : List ℕ) (a : ℕ) → before b (a + 1) ≡ get_or b a 0
before_next b a = ap (before b) (add-one a)

-- the first n bytes belong to a sign
pub skip : (b : List ℕ) (n a : ℕ) → a + n ≤ length b → signs_from a (before b a) n (drop a b) ≡ signs_at b (a + n)
skip b zero a h = ap (signs_at b) (sym (add-zero a))
skip b (suc n) a h =
    let e : a + 1 + n ≡ a + suc n = omega arith in
    ap (signs_from a (before b a) (suc n)) (drop_more b a 0 (omega arith))
    ∙ (ap (λ x. signs_from (a + 1) x n (drop (a + 1) b)) (sym (before_next b a)) ∙ (skip b n (a + 1) (omega arith) ∙ ap (signs_at b) e))

pub record Split (b : List ℕ) (a x : ℕ) (r : List ℕ) : Type 0 where
  pub inside : a < length b
  pub here : get_or b a 0 ≡ x
  pub rest : drop (a + 1) b ≡ r

pub split : (b : List ℕ) (a x : ℕ) (r : List ℕ) → drop a b ≡ x ∷ r → Split b a x r
split b a x r e =
    let lt : a < length b = omega (arith, ap length e, length-drop a b) in
    let m : get_or b a 0 ∷ drop (a + 1) b ≡ x ∷ r = sym (drop_more b a 0 lt) ∙ e in
    record { inside = lt; here = cc; rest = cc }

pub spaces : (b r : List ℕ) (a : ℕ) → drop a b ≡ r → signs_at b a ≡ signs_at b (a + length (front is_space r))
spaces b [] a e = ap (signs_at b) (sym (add-zero a))
spaces b (x ∷ r) a e = by (split b a x r e) (spaces b r (a + 1) (split b a x r e).rest) (is_space x) refl
  where
    by : Split b a x r → signs_at b (a + 1) ≡ signs_at b (a + 1 + length (front is_space r)) → (t : Bool) → is_space x ≡ t → signs_at b a ≡ signs_at b (a + length (front is_space (x ∷ r)))
    by S more true s =
        let f = cond-true (is_space x) (x ∷ front is_space r) [] s in
        let n : a + 1 + length (front is_space r) ≡ a + suc (length (front is_space r)) = omega arith in
        ap (signs_from a (before b a) 0) e
        ∙ (cond-true (is_space x) _ _ s
        ∙ (ap (λ y. signs_from (a + 1) y 0 r) (sym (before_next b a ∙ S.here))
        ∙ (ap (signs_from (a + 1) (before b (a + 1)) 0) (sym S.rest)
        ∙ (more ∙ (ap (signs_at b) n ∙ ap (λ l. signs_at b (a + length l)) (sym f))))))
    by S more false s = ap (signs_at b) (sym (add-zero a)) ∙ ap (λ l. signs_at b (a + length l)) (sym (cond-false (is_space x) (x ∷ front is_space r) [] s))

-- behind the longest front stands no member of it
pub front_stops : (p : ℕ → Bool) (l : List ℕ) → length (front p l) < length l → p (get_or l (length (front p l)) 0) ≡ false
front_stops p [] h = absurd (omega arith)
front_stops p (x ∷ l) h = by (front_stops p l) (p x) refl
  where
    by : (length (front p l) < length l → p (get_or l (length (front p l)) 0) ≡ false) → (t : Bool) → p x ≡ t → p (get_or (x ∷ l) (length (front p (x ∷ l))) 0) ≡ false
    by more true s =
        let f = cond-true (p x) (x ∷ front p l) [] s in
        let n = ap length f in
        ap (λ k. p (get_or (x ∷ l) k 0)) n ∙ more (omega (arith, n))
    by more false s = ap (λ k. p (get_or (x ∷ l) (length k) 0)) (cond-false (p x) (x ∷ front p l) [] s) ∙ s

-- a sign ends within the text
mark_fits : (b n : ℕ) (e : Bool) → (e ≡ true → 1 ≤ n) → (mark b e).more ≤ n
mark_fits b n e h =
    let P : Piece → Type 0 = λ s. s.more ≤ n in
    let two : (x y : Piece) → x.more ≤ 1 → y.more ≤ 0 → P (cond e x y) = λ x y l m. cond_both e x y P (λ t. omega (arith, l, h t)) (λ t. omega (arith, m)) in
    cond_both (eqb b 0x28) _ _ P (λ t. omega arith) (λ t.
    cond_both (eqb b 0x29) _ _ P (λ t. omega arith) (λ t.
    cond_both (eqb b 0x3D) _ _ P (λ t. omega arith) (λ t.
    cond_both (eqb b 0x21) _ _ P (λ t. two _ _ (omega arith) (omega arith)) (λ t.
    cond_both (eqb b 0x3C) _ _ P (λ t. two _ _ (omega arith) (omega arith)) (λ t.
    cond_both (eqb b 0x3E) _ _ P (λ t. two _ _ (omega arith) (omega arith)) (λ t. omega arith))))))

mark_inside : (b : ℕ) (r : List ℕ) → (mark b (equals_next r)).more ≤ length r
mark_inside b [] = mark_fits b 0 false (λ t. absurd (both_ways false refl t))
mark_inside b (x ∷ r) = mark_fits b (suc (length r)) (eqb x 0x3D) (λ t. omega arith)

quote_fits : (p : ℕ) (h l r : List ℕ) → length h + length l ≤ length r → quote_more (quote_end p h l) ≤ length r
quote_fits p h [] r n = omega arith
quote_fits p h (x ∷ l) r n = cond_both (eqb x 0x22) _ _ (λ s. quote_more s ≤ length r) (λ t. omega arith) (λ t. omega arith)

pub more_fits : (p a b : ℕ) (r : List ℕ) → (sign_at p a b r).more ≤ length r
more_fits p a b r =
    let P : Piece → Type 0 = λ s. s.more ≤ length r in
    cond_both (touches b && touches a) _ _ P (λ t. omega arith) (λ t.
    cond_both (is_letter b) _ _ P (λ t. front_short is_letter r) (λ t.
    cond_both (is_digit b) _ _ P (λ t. front_short is_digit r) (λ t.
    cond_both (eqb b 0x22) _ _ P (λ t. quote_fits p (held r) (drop (length (held r)) r) r (omega (arith, length-drop (length (held r)) r, front_short is_text_byte r))) (λ t. mark_inside b r))))

pub first_inside : (b : List ℕ) (a : ℕ) → a < length b → a + 1 + (sign_at a (before b a) (get_or b a 0) (drop (a + 1) b)).more ≤ length b
first_inside b a h = omega (arith, more_fits a (before b a) (get_or b a 0) (drop (a + 1) b), length-drop (a + 1) b)

pub first_sign : (b : List ℕ) (a : ℕ) → a < length b → is_space (get_or b a 0) ≡ false → signs_at b a ≡ at a (sign_at a (before b a) (get_or b a 0) (drop (a + 1) b)).sign ∷ signs_at b (a + 1 + (sign_at a (before b a) (get_or b a 0) (drop (a + 1) b)).more)
first_sign b a h s =
    let S = sign_at a (before b a) (get_or b a 0) (drop (a + 1) b) in
    ap (signs_from a (before b a) 0) (drop_more b a 0 h)
    ∙ (cond-false (is_space (get_or b a 0)) _ _ s
    ∙ ap (λ l. at a S.sign ∷ l) (ap (λ x. signs_from (a + 1) x S.more (drop (a + 1) b)) (sym (before_next b a)) ∙ skip b S.more (a + 1) (first_inside b a h)))

-- the end of the text
pub no_sign : (b : List ℕ) (a : ℕ) → length b ≤ a → signs_at b a ≡ []
no_sign b a h = ap (signs_from a (before b a) 0) (drop_all a b h)
