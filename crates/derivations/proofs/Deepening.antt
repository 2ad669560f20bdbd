-- What is derived at one depth is derived at every greater one.
use Rattle.std.proofs.Common.{◌≡◌, ℕ, zero, suc, ◌+◌, List, arith}
use Rattle.grammar.specs.Signs.{Token}
use Rattle.grammar.specs.Phrases.{Phrase, Placed}
use Rattle.grammar.specs.Grammar.{Part, condition, Says, comparison, negation, brackets, one_neg, and_neg, one_conj, or_conj, Piece, definition, Defines, table, nested, one_source, one_step, joining, selecting, dropping, renaming}

-- j more of depth
abbrev pub climb : ℕ → ℕ → ℕ
climb zero d = d
climb (suc j) d = suc (climb j d)

climbs : (j d : ℕ) → climb j d ≡ j + d
climbs zero d = omega arith
climbs (suc j) d = omega (arith, climbs j d)

pub climb_turn : (j d : ℕ) → climb j d ≡ climb d j
climb_turn j d = omega (arith, climbs j d, climbs d j)

deepen : {g : Part} {d : ℕ} {s r : List Token} {k : Phrase} → Says g d s r k → Says g (suc d) s r k
deepen (comparison h x) = comparison h x
deepen (negation x) = negation (deepen x)
deepen (brackets x) = brackets (deepen x)
deepen (one_neg x) = one_neg (deepen x)
deepen (and_neg x y) = and_neg (deepen x) (deepen y)
deepen (one_conj x) = one_conj (deepen x)
deepen (or_conj x y) = or_conj (deepen x) (deepen y)

deepen_piece : {g : Piece} {d : ℕ} {s r : List Token} {S : List Placed} → Defines g d s r S → Defines g (suc d) s r S
deepen_piece (table h) = table h
deepen_piece (nested x) = nested (deepen_piece x)
deepen_piece (one_source x) = one_source (deepen_piece x)
deepen_piece (one_step x y) = one_step (deepen_piece x) (deepen_piece y)
deepen_piece (joining x) = joining (deepen_piece x)
deepen_piece (selecting x) = selecting (deepen x)
deepen_piece (dropping h x) = dropping h x
deepen_piece (renaming h g) = renaming h g

pub deeper_condition : (j : ℕ) {d : ℕ} {s r : List Token} {k : Phrase} → Says condition d s r k → Says condition (climb j d) s r k
deeper_condition zero x = x
deeper_condition (suc j) x = deepen (deeper_condition j x)

pub deeper_definition : (j : ℕ) {d : ℕ} {s r : List Token} {S : List Placed} → Defines definition d s r S → Defines definition (climb j d) s r S
deeper_definition zero x = x
deeper_definition (suc j) x = deepen_piece (deeper_definition j x)
