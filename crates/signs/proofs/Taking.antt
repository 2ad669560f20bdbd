-- A sign that is passed if it passes a test.
use Rattle.std.proofs.Common.{◌≡◌, ℕ, Bool, true, false, List, Some, None, Option, MatchOption, sym, ap, ◌∙◌, subst, Bor}
use Rattle.std.specs.Bool.{then_some}
use Rattle.grammar.specs.Signs as grammar
use Rattle.signs.specs.Reached.{First, Next, Found, Tells}
use Rattle.signs.specs.Spoken.{said}
use Rattle.signs.specs.declared.sign.Token.{Token}

-- the token is kept exactly if the test says so of it
abbrev pub Kept : (Bor Token → Bool → Type 0) → Option Token → Option Token → Type 0
Kept Post o k = MatchOption o (k ≡ None) (λ t. (r : Bool) × ((p : Bor Token) × Post p r × (p.now ≡ t)) × (k ≡ then_some r t))

pub found : (kind : grammar.Sign → Bool) (Post : Bor Token → Bool → Type 0) (b : List ℕ) (a : ℕ) (o k : Option Token) (u : Token) → Tells kind Post → Next b a o → Kept Post o k → k ≡ Some u → Found kind b a u.place u.end
found kind Post b a None k u tells n h e = absurd (cc)
found kind Post b a (Some t) k u tells n (r, m, s) e = by r m s
  where
    by : (r : Bool) → ((p : Bor Token) × Post p r × (p.now ≡ t)) → k ≡ then_some r t → Found kind b a u.place u.end
    by true (p, m, i) s =
        let F : First b a u = subst (First b a) (cc) n in
        let j : p.now ≡ u = cc in
        record { sign = said u.sign; first = F.first; is = sym (tells p true m ∙ ap (λ (t : Token). kind (said t.sign)) j); onward = F.onward }
    by false m s = absurd (cc)
