-- The parts of a condition.
use Rattle.std.proofs.Common.{◌≡◌, ℕ, ◌⊎◌, List, [], ◌∷◌, ◌++◌, sym, refl, ap, ◌∙◌, subst, inl, inr, append_assoc}
use Rattle.grammar.specs.Signs.{Token, at, key, AND}
use Rattle.grammar.specs.Phrases.{Phrase, both, either, parts}
use Rattle.grammar.specs.Grammar.{Says, condition, conj, neg, comparison, negation, brackets, one_neg, and_neg, one_conj, or_conj}
use Rattle.derivations.specs.Parts.{Negs, last_neg, neg_and, PartsRule}

-- a neg is one part
one_part : {d : ℕ} {s r : List Token} {k : Phrase} → Says neg d s r k → parts k ≡ k ∷ []
one_part (comparison h x) = refl
one_part (negation x) = refl
one_part (brackets x) = refl

abbrev Joined : ℕ → List Token → List Token → List Phrase → Type 0
Joined d s r ks = (k : Phrase) × (Says conj d s r k × (parts k ≡ ks))

join_on : {d p : ℕ} {s m r : List Token} {k : Phrase} {ks : List Phrase} → Says conj d s (at p (key AND) ∷ m) k → Negs d m r ks → Joined d s r (parts k ++ ks)
join_on {k = k} x (last_neg {k = l} y) = (both k l, (and_neg x y, ap (λ ls. parts k ++ ls) (one_part y)))
join_on {k = k} x (neg_and {k = l} {ks = ks} y n) =
    let c = join_on (and_neg x y) n in
    (c.0, (c.1.0, c.1.1 ∙ append_assoc (parts k) (parts l) ks ∙ ap (λ ls. parts k ++ (ls ++ ks)) (one_part y)))

join_all : {d : ℕ} {s r : List Token} {ks : List Phrase} → Negs d s r ks → Joined d s r ks
join_all (last_neg {k = k} x) = (k, (one_neg x, one_part x))
join_all (neg_and {k = k} {ks = ks} x n) = let c = join_on (one_neg x) n in (c.0, (c.1.0, c.1.1 ∙ ap (λ ls. ls ++ ks) (one_part x)))

-- one neg more
more_negs : {d p : ℕ} {s m r : List Token} {ks : List Phrase} {l : Phrase} → Negs d s (at p (key AND) ∷ m) ks → Says neg d m r l → Negs d s r (ks ++ (l ∷ []))
more_negs (last_neg x) y = neg_and x (last_neg y)
more_negs (neg_and x n) y = neg_and x (more_negs n y)

part_all : {d : ℕ} {s r : List Token} {k : Phrase} → Says conj d s r k → Negs d s r (parts k)
part_all {d} {s} {r} (one_neg x) = subst (Negs d s r) (sym (one_part x)) (last_neg x)
part_all {d} {s} {r} (and_neg {k = k} {l = l} x y) = subst (λ ls. Negs d s r (parts k ++ ls)) (sym (one_part y)) (more_negs (part_all x) y)

top : {d : ℕ} {s r : List Token} {k : Phrase} → Says condition d s r k → Says conj d s r k ⊎ ((i : Phrase) × ((j : Phrase) × ((k ≡ either i j) × (parts k ≡ k ∷ []))))
top (one_conj x) = inl x
top (or_conj {k = k} {l = l} x y) = inr (k, (l, (refl, refl)))

pub parts_rule : PartsRule
parts_rule = record { joined = λ d s r ks n. join_all n; parted = λ d s r k x. part_all x; whole = λ d s r k x. top x }
