-- The next sign, by a judge.
use Rattle.std.proofs.Common.{◌≡◌, ℕ, List, [], length, Some, Ok, Err, Result, sym, ap, ◌∙◌, subst, inl, inr, Bor}
use Rattle.cells.specs.Numbered.{told}
use Rattle.cells.specs.declared.faults.Refusal.{Refusal}
use Rattle.cells.specs.declared.faults.Refusal.TheVariants.{Fault, Memory}
use Rattle.grammar.specs.Signs.{Sign}
use Rattle.grammar.specs.Reading.{Want, Taken, stops, go_on, reads, run}
use Rattle.signs.specs.Reached.{First, signs_at}
use Rattle.signs.specs.Spoken.{said}
use Rattle.signs.specs.declared.sign.Token.{Token}
use Rattle.reader.specs.Judging.{Judged}
use Rattle.reader.specs.Saying.{from, Awaits, Next}
use Rattle.reader.specs.Parsing.{Asked, Lacks}
use Rattle.reader.specs.declared.parser.Parser.{Parser}

module _ {A B : Type 0} (J : ℕ → Sign → (A → Taken) → Taken) (v : B → A) where
  -- a sign is passed and judged
  judged : (b : List ℕ) (a z : ℕ) (t : Token) → First b a t → z ≡ t.end → (r : Result B Refusal) → Judged (J t.place (said t.sign)) v r → Next J v b a r z
  judged b a z t F e r h = by r h
    where
      here : (K : List Want) (k : A → Taken) (T : Taken) → Awaits (length b) K J k (signs_at b a) → J t.place (said t.sign) k ≡ T → from b a K ≡ go_on T (from b z)
      here K k T aw j =
          ap (run (length b) K) F.first
          ∙ (ap (λ T. go_on T (from b t.end)) (subst (Awaits (length b) K J k) F.first aw ∙ j) ∙ ap (λ n. go_on T (from b n)) (sym e))

      by : (r : Result B Refusal) → Judged (J t.place (said t.sign)) v r → Next J v b a r z
      by (Ok x) h = λ K k aw. here K k (k (v x)) aw (h k)
      by (Err (Fault f)) h = λ K k aw. here K k (stops [] (told f)) aw (h k)
      by (Err Memory) h = h

  -- the text ends
  lacks : (p q : Parser) (r : Result B Refusal) → Lacks p r q → Next J v p.reader.text.now p.reader.at r q.reader.at
  lacks p q r l =
      let b = p.reader.text.now in
      let N : Result B Refusal → Type 0 = λ r. Next J v b p.reader.at r q.reader.at in
      let over : Next J v b p.reader.at (Err (Fault l.fault)) q.reader.at = λ K k aw. ap (run (length b) K) l.none ∙ (subst (Awaits (length b) K J k) l.none aw ∙ ap (λ f. reads [] (Some f)) (sym l.is)) in
      subst N (sym l.refused) over

  next_of : (Post : Token → Result B Refusal → Type 0) (p q : Parser) (r : Result B Refusal) → ((t : Token) (r : Result B Refusal) → Post t r → Judged (J t.place (said t.sign)) v r) → Asked Post p r q → Next J v p.reader.text.now p.reader.at r q.reader.at
  next_of Post p q r judges (inl m) = judged p.reader.text.now p.reader.at q.reader.at m.token m.first m.passed r (judges m.token r m.judged)
  next_of Post p q r judges (inr n) = lacks p q r n

  -- the same of the text behind an equal reference
  pub asked_at : {x : Bor (List ℕ)} (Post : Token → Result B Refusal → Type 0) (p q : Parser) (r : Result B Refusal) → p.reader.text ≡ x → Asked Post p r q → ((t : Token) (r : Result B Refusal) → Post t r → Judged (J t.place (said t.sign)) v r) → Next J v x.now p.reader.at r q.reader.at
  asked_at Post p q r e h judges = subst (λ x. Next J v x.now p.reader.at r q.reader.at) e (next_of Post p q r judges h)
