-- The reader's tokens are those of the grammar.
use Rattle.std.proofs.Common.{◌≡◌, ℕ, Bool, true, false, not, List, [], ◌∷◌, ◌++◌, Some, None, Option, sym, refl, ap, ◌∙◌, subst, append_assoc, append-nil, arith}
use Rattle.std.proofs.lemmas.Bool.{cond-true, cond-false, and_from, and_parts, eqb-true, not-true}
use Rattle.std.proofs.lemmas.Bool.Decides.{nat_tests}
use Rattle.model.specs.Values.{every}
use Rattle.commands.specs.Lines.{Lexeme, plain, quoted, is_space, is_quote, is_sign, bounded, Reader, between, in_plain, in_quotes, closed, lead, read, tokens_of}
use Rattle.commands.specs.Grammar.{spelt, Proper, Reads, end, space, token, Exact}

-- from a token to its text

sign_not_space : (b : ℕ) → is_sign b ≡ true → is_space b ≡ false
sign_not_space b e = grind (arith, nat_tests)

sign_not_quote : (b : ℕ) → is_sign b ≡ true → is_quote b ≡ false
sign_not_quote b e = grind (arith, nat_tests)

-- a plain token read to its end
plain_through : (w u l : List ℕ) → every is_sign u ≡ true → bounded l ≡ true → read (in_plain w) (u ++ l) ≡ lead (plain (w ++ u)) (tokens_of l)
plain_through w [] [] e h = ap (λ v. Some (plain v ∷ [])) (sym (append-nil w))
plain_through w [] (b ∷ l) e h = cond-true (is_space b) _ _ h ∙ sym (ap (lead (plain (w ++ []))) (cond-true (is_space b) _ _ h) ∙ ap (λ v. lead (plain v) (read between l)) (append-nil w))
plain_through w (b ∷ u) l e h =
    let p = and_parts (is_sign b) (every is_sign u) e in
    cond-false (is_space b) _ _ (sign_not_space b p.0) ∙ cond-true (is_sign b) _ _ p.0 ∙ plain_through (w ++ (b ∷ [])) u l p.1 h ∙ ap (λ v. lead (plain v) (tokens_of l)) (append_assoc w (b ∷ []) u)

closed_through : (l : List ℕ) → bounded l ≡ true → read closed l ≡ tokens_of l
closed_through [] h = refl
closed_through (b ∷ l) h = cond-true (is_space b) _ _ h ∙ sym (cond-true (is_space b) _ _ h)

-- a quoted one
quote_through : (w u l : List ℕ) → every (λ b. not (is_quote b)) u ≡ true → bounded l ≡ true → read (in_quotes w) (u ++ (0x22 ∷ l)) ≡ lead (quoted (w ++ u)) (tokens_of l)
quote_through w [] l e h = ap (lead (quoted w)) (closed_through l h) ∙ ap (λ v. lead (quoted v) (tokens_of l)) (sym (append-nil w))
quote_through w (b ∷ u) l e h =
    let p = and_parts (not (is_quote b)) (every (λ x. not (is_quote x)) u) e in
    cond-false (is_quote b) _ _ (not-true (is_quote b) p.0) ∙ quote_through (w ++ (b ∷ [])) u l p.1 h ∙ ap (λ v. lead (quoted v) (tokens_of l)) (append_assoc w (b ∷ []) u)

token_through : (t : Lexeme) (l : List ℕ) → Proper t → bounded l ≡ true → tokens_of (spelt t ++ l) ≡ lead t (tokens_of l)
token_through (plain []) l p h = absurd p
token_through (plain (b ∷ w)) l p h =
    let s = and_parts (is_sign b) (every is_sign w) p in
    cond-false (is_space b) _ _ (sign_not_space b s.0) ∙ cond-false (is_quote b) _ _ (sign_not_quote b s.0) ∙ cond-true (is_sign b) _ _ s.0 ∙ plain_through (b ∷ []) w l s.1 h
token_through (quoted w) l p h = ap (λ v. read (in_quotes []) v) (append_assoc w (0x22 ∷ []) l) ∙ quote_through [] w l p h

pub complete : (l : List ℕ) (ts : List Lexeme) → Reads l ts → tokens_of l ≡ Some ts
complete l ts end = refl
complete l ts (space r) = complete _ ts r
complete l ts (token t p h e r) = ap tokens_of e ∙ token_through t _ p h ∙ ap (lead t) (complete _ _ r)

-- from a text to its tokens

-- what the reader has read of the token that it is in
abbrev held : Reader → List ℕ
held between = []
held (in_plain w) = w
held (in_quotes w) = 0x22 ∷ w
held closed = []

abbrev Fine : Reader → Type 0
Fine between = Unit {0}
Fine (in_plain w) = Proper (plain w)
Fine (in_quotes w) = Proper (quoted w)
Fine closed = Unit {0}

-- past a closing quote the text has to go on with a space
abbrev Fits : Reader → List ℕ → Type 0
Fits between l = Unit {0}
Fits (in_plain w) l = Unit {0}
Fits (in_quotes w) l = Unit {0}
Fits closed l = bounded l ≡ true

abbrev Found : Reader → List ℕ → List Lexeme → Type 0
Found s l ts = Fits s l × Reads (held s ++ l) ts

-- the tokens behind the first
record Led (t : Lexeme) (o : Option (List Lexeme)) (ts : List Lexeme) : Type 0 where
  others : List Lexeme
  found : o ≡ Some others
  whole : ts ≡ t ∷ others

led : (t : Lexeme) (o : Option (List Lexeme)) (ts : List Lexeme) → lead t o ≡ Some ts → Led t o ts
led t None ts e = let z : ◌≡◌ {A = ℕ} 0 1 = cc in absurd (omega arith)
led t (Some us) ts e = record { others = us; found = refl; whole = cc }

same_some : {A : Type 0} (a b : A) → Some a ≡ Some b → a ≡ b
same_some a b e = cc

none_some : {A : Type 0} (a : A) → None ≡ Some a → ⊥
none_some a e = let z : ◌≡◌ {A = ℕ} 0 1 = cc in omega arith

every_more : (p : ℕ → Bool) (w : List ℕ) (b : ℕ) → every p w ≡ true → p b ≡ true → every p (w ++ (b ∷ [])) ≡ true
every_more p [] b e h = and_from (p b) true h refl
every_more p (a ∷ w) b e h = let s = and_parts (p a) (every p w) e in and_from (p a) (every p (w ++ (b ∷ []))) s.0 (every_more p w b s.1 h)

plain_more : (w : List ℕ) (b : ℕ) → Proper (plain w) → is_sign b ≡ true → Proper (plain (w ++ (b ∷ [])))
plain_more [] b p h = absurd p
plain_more (a ∷ w) b p h = every_more is_sign (a ∷ w) b p h

-- what is found at a byte, from what is found behind it in each state that the reader may come to
abbrev Behind : List ℕ → Type 0
Behind l = (s : Reader) → Fine s → (ts : List Lexeme) → read s l ≡ Some ts → Found s l ts

spaced : (b : ℕ) (l : List ℕ) (ts : List Lexeme) → is_space b ≡ true → Reads l ts → Reads (b ∷ l) ts
spaced b l ts e r = subst (λ x. Reads (x ∷ l) ts) (sym (eqb-true b 0x20 e)) (space r)

at_between : (b : ℕ) (l : List ℕ) (ts : List Lexeme) → Behind l → read between (b ∷ l) ≡ Some ts → Reads (b ∷ l) ts
at_between b l ts k e = by_space (is_space b) refl
  where
    by_sign : (v : Bool) → is_sign b ≡ v → is_space b ≡ false → is_quote b ≡ false → Reads (b ∷ l) ts
    by_sign true s n q = (k (in_plain (b ∷ [])) (and_from (is_sign b) true s refl) ts (sym (cond-true (is_sign b) _ _ s) ∙ sym (cond-false (is_quote b) _ _ q) ∙ sym (cond-false (is_space b) _ _ n) ∙ e)).1
    by_sign false s n q = absurd (none_some ts (sym (cond-false (is_sign b) _ _ s) ∙ sym (cond-false (is_quote b) _ _ q) ∙ sym (cond-false (is_space b) _ _ n) ∙ e))

    by_quote : (v : Bool) → is_quote b ≡ v → is_space b ≡ false → Reads (b ∷ l) ts
    by_quote true q n = subst (λ x. Reads (x ∷ l) ts) (sym (eqb-true b 0x22 q)) (k (in_quotes []) refl ts (sym (cond-true (is_quote b) _ _ q) ∙ sym (cond-false (is_space b) _ _ n) ∙ e)).1
    by_quote false q n = by_sign (is_sign b) refl n q

    by_space : (v : Bool) → is_space b ≡ v → Reads (b ∷ l) ts
    by_space true n = spaced b l ts n (k between tt ts (sym (cond-true (is_space b) _ _ n) ∙ e)).1
    by_space false n = by_quote (is_quote b) refl n

at_plain : (w : List ℕ) (b : ℕ) (l : List ℕ) (ts : List Lexeme) → Proper (plain w) → Behind l → read (in_plain w) (b ∷ l) ≡ Some ts → Reads (w ++ (b ∷ l)) ts
at_plain w b l ts p k e = by_space (is_space b) refl
  where
    ended : is_space b ≡ true → Led (plain w) (read between l) ts → Reads (w ++ (b ∷ l)) ts
    ended n h = subst (Reads (w ++ (b ∷ l))) (sym h.whole) (token (plain w) p n refl (spaced b l h.others n (k between tt h.others h.found).1))

    by_sign : (v : Bool) → is_sign b ≡ v → is_space b ≡ false → Reads (w ++ (b ∷ l)) ts
    by_sign true s n = subst (λ x. Reads x ts) (append_assoc w (b ∷ []) l) (k (in_plain (w ++ (b ∷ []))) (plain_more w b p s) ts (sym (cond-true (is_sign b) _ _ s) ∙ sym (cond-false (is_space b) _ _ n) ∙ e)).1
    by_sign false s n = absurd (none_some ts (sym (cond-false (is_sign b) _ _ s) ∙ sym (cond-false (is_space b) _ _ n) ∙ e))

    by_space : (v : Bool) → is_space b ≡ v → Reads (w ++ (b ∷ l)) ts
    by_space true n = ended n (led (plain w) (read between l) ts (sym (cond-true (is_space b) _ _ n) ∙ e))
    by_space false n = by_sign (is_sign b) refl n

at_quotes : (w : List ℕ) (b : ℕ) (l : List ℕ) (ts : List Lexeme) → Proper (quoted w) → Behind l → read (in_quotes w) (b ∷ l) ≡ Some ts → Reads (0x22 ∷ (w ++ (b ∷ l))) ts
at_quotes w b l ts p k e = by_quote (is_quote b) refl
  where
    shut : is_quote b ≡ true → 0x22 ∷ (w ++ (b ∷ l)) ≡ spelt (quoted w) ++ l
    shut q = ap (λ x. 0x22 ∷ (w ++ (x ∷ l))) (eqb-true b 0x22 q) ∙ ap (λ v. 0x22 ∷ v) (sym (append_assoc w (0x22 ∷ []) l))

    ended : is_quote b ≡ true → Led (quoted w) (read closed l) ts → Reads (0x22 ∷ (w ++ (b ∷ l))) ts
    ended q h =
        let f = k closed tt h.others h.found in
        subst (Reads (0x22 ∷ (w ++ (b ∷ l)))) (sym h.whole) (token (quoted w) p f.0 (shut q) f.1)

    by_quote : (v : Bool) → is_quote b ≡ v → Reads (0x22 ∷ (w ++ (b ∷ l))) ts
    by_quote true q = ended q (led (quoted w) (read closed l) ts (sym (cond-true (is_quote b) _ _ q) ∙ e))
    by_quote false q = subst (λ x. Reads (0x22 ∷ x) ts) (append_assoc w (b ∷ []) l) (k (in_quotes (w ++ (b ∷ []))) (every_more (λ x. not (is_quote x)) w b p (ap not q)) ts (sym (cond-false (is_quote b) _ _ q) ∙ e)).1

at_closed : (b : ℕ) (l : List ℕ) (ts : List Lexeme) → Behind l → read closed (b ∷ l) ≡ Some ts → Found closed (b ∷ l) ts
at_closed b l ts k e = by_space (is_space b) refl
  where
    by_space : (v : Bool) → is_space b ≡ v → Found closed (b ∷ l) ts
    by_space true n = (n, spaced b l ts n (k between tt ts (sym (cond-true (is_space b) _ _ n) ∙ e)).1)
    by_space false n = absurd (none_some ts (sym (cond-false (is_space b) _ _ n) ∙ e))

found : (l : List ℕ) → Behind l
found [] between f ts e = (tt, subst (Reads []) (same_some [] ts e) end)
found [] (in_plain w) f ts e = (tt, subst (Reads (w ++ [])) (same_some (plain w ∷ []) ts e) (token (plain w) f refl refl end))
found [] (in_quotes w) f ts e = absurd (none_some ts e)
found [] closed f ts e = (refl, subst (Reads []) (same_some [] ts e) end)
found (b ∷ l) between f ts e = (tt, at_between b l ts (found l) e)
found (b ∷ l) (in_plain w) f ts e = (tt, at_plain w b l ts f (found l) e)
found (b ∷ l) (in_quotes w) f ts e = (tt, at_quotes w b l ts f (found l) e)
found (b ∷ l) closed f ts e = at_closed b l ts (found l) e

pub exact : Exact
exact = record { sound = λ l ts e. (found l between tt ts e).1; complete = complete }
