-- How a reader goes over runs of bytes.
use Rattle.std.proofs.Common.{◌≡◌, ℕ, ◌<◌, Bool, true, false, cond, not, ◌&&◌, List, [], ◌∷◌, ◌++◌, length, Some, None, Option, sym, refl, ap, ◌∙◌, append_assoc, append-nil, arith, Bor}
use Rattle.std.proofs.lemmas.Bool.Decides.{nat_tests}
use Rattle.std.proofs.lemmas.Bool.{cond-true, cond-false, not_from_true, true≢false, and_from, and_left, and_right}
use Rattle.std.specs.Bool.{then_some}
use Rattle.std.specs.Option.{option_map}
use Rattle.commands.specs.declared.tokens.Token.{Token}
use Rattle.commands.specs.Lists.{front, behind}
use Rattle.commands.specs.Lines.{Lexeme, plain, quoted, is_space, is_quote, is_sign, bounded, is_quoted, in_plain, in_quotes, closed, lead, read, tokens_of, lexeme, Leads}

sign_not_space : (b : ℕ) → is_sign b ≡ true → is_space b ≡ false
sign_not_space b e = grind (arith, nat_tests)

-- a byte that may stand in quotes
abbrev pub is_held : ℕ → Bool
is_held b = not (is_quote b)

-- what comes of a plain token read so far, before the rest of the text
abbrev settled : List ℕ → List ℕ → Option (List Lexeme)
settled w l = cond (bounded l) (lead (plain w) (tokens_of l)) None

pub plain_run : (w l : List ℕ) → read (in_plain w) l ≡ settled (w ++ front is_sign l) (behind is_sign l)
plain_run w [] = ap (λ v. Some (plain v ∷ [])) (sym (append-nil w))
plain_run w (b ∷ l) = step (is_sign b) refl (plain_run (w ++ (b ∷ [])) l)
  where
    step : (s : Bool) → is_sign b ≡ s → read (in_plain (w ++ (b ∷ []))) l ≡ settled ((w ++ (b ∷ [])) ++ front is_sign l) (behind is_sign l) → read (in_plain w) (b ∷ l) ≡ settled (w ++ front is_sign (b ∷ l)) (behind is_sign (b ∷ l))
    step true e ih =
        cond-false (is_space b) _ _ (sign_not_space b e) ∙ cond-true (is_sign b) _ _ e ∙ ih ∙ ap (λ v. settled v (behind is_sign l)) (append_assoc w (b ∷ []) (front is_sign l)) ∙ sym (ap (λ v. settled (w ++ v) (behind is_sign (b ∷ l))) (cond-true (is_sign b) _ _ e) ∙ ap (λ v. settled (w ++ (b ∷ front is_sign l)) v) (cond-true (is_sign b) _ _ e))
    step false e ih =
        ends (is_space b) refl ∙ sym (ap (λ v. settled (w ++ v) (behind is_sign (b ∷ l))) (cond-false (is_sign b) _ _ e) ∙ ap (λ v. settled (w ++ []) v) (cond-false (is_sign b) _ _ e) ∙ ap (λ v. settled v (b ∷ l)) (append-nil w))
      where
        ends : (t : Bool) → is_space b ≡ t → read (in_plain w) (b ∷ l) ≡ settled w (b ∷ l)
        ends true q = cond-true (is_space b) _ _ q ∙ sym (cond-true (is_space b) _ _ q ∙ ap (lead (plain w)) (cond-true (is_space b) _ _ q))
        ends false q = cond-false (is_space b) _ _ q ∙ cond-false (is_sign b) _ _ e ∙ sym (cond-false (is_space b) _ _ q)

pub closed_is : (l : List ℕ) → read closed l ≡ cond (bounded l) (tokens_of l) None
closed_is [] = refl
closed_is (b ∷ l) = by (is_space b) refl
  where
    by : (t : Bool) → is_space b ≡ t → read closed (b ∷ l) ≡ cond (bounded (b ∷ l)) (tokens_of (b ∷ l)) None
    by true q = cond-true (is_space b) _ _ q ∙ sym (cond-true (is_space b) _ _ q ∙ cond-true (is_space b) _ _ q)
    by false q = cond-false (is_space b) _ _ q ∙ sym (cond-false (is_space b) _ _ q)

-- what comes of a text in quotes read so far, before the rest from the closing quote on
abbrev pub quoted_then : List ℕ → List ℕ → Option (List Lexeme)
quoted_then w [] = None
quoted_then w (q ∷ l) = lead (quoted w) (read closed l)

pub quote_run : (w l : List ℕ) → read (in_quotes w) l ≡ quoted_then (w ++ front is_held l) (behind is_held l)
quote_run w [] = refl
quote_run w (b ∷ l) = step (is_quote b) refl (quote_run (w ++ (b ∷ [])) l)
  where
    step : (s : Bool) → is_quote b ≡ s → read (in_quotes (w ++ (b ∷ []))) l ≡ quoted_then ((w ++ (b ∷ [])) ++ front is_held l) (behind is_held l) → read (in_quotes w) (b ∷ l) ≡ quoted_then (w ++ front is_held (b ∷ l)) (behind is_held (b ∷ l))
    step true e ih =
        let n = not_from_true (is_quote b) e in
        cond-true (is_quote b) _ _ e ∙ sym (ap (λ v. quoted_then (w ++ v) (behind is_held (b ∷ l))) (cond-false (not (is_quote b)) _ _ n) ∙ ap (λ v. quoted_then (w ++ []) v) (cond-false (not (is_quote b)) _ _ n) ∙ ap (λ v. lead (quoted v) (read closed l)) (append-nil w))
    step false e ih =
        let n : not (is_quote b) ≡ true = ap not e in
        cond-false (is_quote b) _ _ e ∙ ih ∙ ap (λ v. quoted_then v (behind is_held l)) (append_assoc w (b ∷ []) (front is_held l)) ∙ sym (ap (λ v. quoted_then (w ++ v) (behind is_held (b ∷ l))) (cond-true (not (is_quote b)) _ _ n) ∙ ap (λ v. quoted_then (w ++ (b ∷ front is_held l)) v) (cond-true (not (is_quote b)) _ _ n))

abbrev pub is_some : List ℕ → Bool
is_some [] = false
is_some (b ∷ l) = true

-- tokens before others
abbrev pub before : {A : Type 0} → List A → Option (List A) → Option (List A)
before ts us = option_map (λ vs. ts ++ vs) us

-- one more token before the others
pub before_lead : {A : Type 0} (ts : List A) (t : A) (us : Option (List A)) → before ts (option_map (λ vs. t ∷ vs) us) ≡ before (ts ++ (t ∷ [])) us
before_lead ts t None = refl
before_lead ts t (Some us) = ap Some (sym (append_assoc ts (t ∷ []) us))

-- the tokens of a text that begins with a plain one
pub plain_first : (l : List ℕ) → bounded l ≡ false → is_quoted l ≡ false → tokens_of l ≡ cond (is_some (front is_sign l) && bounded (behind is_sign l)) (lead (plain (front is_sign l)) (tokens_of (behind is_sign l))) None
plain_first [] u q = absurd (true≢false u)
plain_first (b ∷ l) u q = cond-false (is_space b) _ _ u ∙ cond-false (is_quote b) _ _ q ∙ step (is_sign b) refl
  where
    step : (s : Bool) → is_sign b ≡ s → cond (is_sign b) (read (in_plain (b ∷ [])) l) None ≡ cond (is_some (front is_sign (b ∷ l)) && bounded (behind is_sign (b ∷ l))) (lead (plain (front is_sign (b ∷ l))) (tokens_of (behind is_sign (b ∷ l)))) None
    step true e = rw e (plain_run (b ∷ []) l)
    step false e = rw e

empty_is : (l : List ℕ) → length l ≡ 0 → l ≡ []
empty_is [] e = refl
empty_is (b ∷ l) e = absurd (omega arith)

-- the tokens of what stands behind an opening quote, from what stands from the closing quote on
module _ (inner after : List ℕ) (e : after ≡ behind is_held inner) where
  pub quoted_none : length after ≡ 0 → read (in_quotes []) inner ≡ None
  quoted_none n = quote_run [] inner ∙ ap (quoted_then (front is_held inner)) (sym e ∙ empty_is after n)

  pub quoted_some : (held : List ℕ) → held ≡ front is_held inner → (q : ℕ) (l : List ℕ) → after ≡ q ∷ l → bounded l ≡ true → read (in_quotes []) inner ≡ lead (quoted held) (tokens_of l)
  quoted_some held d q l n b =
      quote_run [] inner ∙ ap (λ v. quoted_then v (behind is_held inner)) (sym d) ∙ ap (quoted_then held) (sym e ∙ n) ∙ ap (lead (quoted held)) (closed_is l ∙ cond-true (bounded l) (tokens_of l) None b)

  pub quoted_unbounded : (q : ℕ) (l : List ℕ) → after ≡ q ∷ l → bounded l ≡ false → read (in_quotes []) inner ≡ None
  quoted_unbounded q l n b =
      quote_run [] inner ∙ ap (quoted_then (front is_held inner)) (sym e ∙ n) ∙ ap (lead (quoted (front is_held inner))) (closed_is l ∙ cond-false (bounded l) (tokens_of l) None b)

is_some_from : (l : List ℕ) → (length l ≡ 0 → ⊥) → is_some l ≡ true
is_some_from [] h = absurd (h refl)
is_some_from (b ∷ l) h = refl

not_some_from : (l : List ℕ) → length l ≡ 0 → is_some l ≡ false
not_some_from [] h = refl
not_some_from (b ∷ l) h = absurd (omega arith)

module _ (text : List ℕ) (u : bounded text ≡ false) (q : is_quoted text ≡ false) where
  pub plain_some : (word after : List ℕ) → word ≡ front is_sign text → after ≡ behind is_sign text → (length word ≡ 0 → ⊥) → bounded after ≡ true → tokens_of text ≡ lead (plain word) (tokens_of after)
  plain_some word after d e n b =
      plain_first text u q ∙ cond-true (is_some (front is_sign text) && bounded (behind is_sign text)) _ None (and_from (is_some (front is_sign text)) _ (ap is_some (sym d) ∙ is_some_from word n) (ap bounded (sym e) ∙ b)) ∙ ap (λ v. lead (plain v) (tokens_of (behind is_sign text))) (sym d) ∙ ap (λ v. lead (plain word) (tokens_of v)) (sym e)

  pub plain_unbounded : (after : List ℕ) → after ≡ behind is_sign text → bounded after ≡ false → tokens_of text ≡ None
  plain_unbounded after e b = plain_first text u q ∙ cond-false (is_some (front is_sign text) && bounded (behind is_sign text)) _ None (and_right (is_some (front is_sign text)) _ (ap bounded (sym e) ∙ b))

  pub plain_empty : (word : List ℕ) → word ≡ front is_sign text → length word ≡ 0 → tokens_of text ≡ None
  plain_empty word d n = plain_first text u q ∙ cond-false (is_some (front is_sign text) && bounded (behind is_sign text)) _ None (and_left (is_some (front is_sign text)) _ (ap is_some (sym d) ∙ not_some_from word n))

-- a token leads a text where a test is passed, and none does where it is not
pub leads_if : (text : List ℕ) (ts : Option (List Lexeme)) (b : Bool) (t : Token) (l : Bor (List ℕ)) → (b ≡ true → (ts ≡ lead (lexeme t) (tokens_of l.now)) × (length l.now < length text)) → (b ≡ false → ts ≡ None) → Leads ts text (then_some b (t, l))
leads_if text ts true t l passes fails = passes refl
leads_if text ts false t l passes fails = fails refl
