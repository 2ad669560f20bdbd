-- How formulas are made from others: the last formula is made from those before it.
use Rattle.std.specs.Prelude.{◌≡◌}
use Rattle.conditions.specs.declared.trees.Formula.{Formula}
use Rattle.conditions.specs.declared.trees.Formula.TheVariants.{Not', Bracket', And', Or'}

-- k under not
abbrev pub IsNot : {T : Type 0} → Formula T → Formula T → Type 0
IsNot k (Not' p m) = m ≡ k
IsNot k _ = ⊥

-- k in brackets
abbrev pub IsBracket : {T : Type 0} → Formula T → Formula T → Type 0
IsBracket k (Bracket' p m) = m ≡ k
IsBracket k _ = ⊥

-- k and l
abbrev pub IsAnd : {T : Type 0} → Formula T → Formula T → Formula T → Type 0
IsAnd k l (And' p m q n) = (m ≡ k) × (n ≡ l)
IsAnd k l _ = ⊥

-- k or l
abbrev pub IsOr : {T : Type 0} → Formula T → Formula T → Formula T → Type 0
IsOr k l (Or' p m q n) = (m ≡ k) × (n ≡ l)
IsOr k l _ = ⊥
