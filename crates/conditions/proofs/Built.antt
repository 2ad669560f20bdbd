-- What a meaning gives of formulas that are made of others, where it goes through formulas case by case.
use Rattle.std.proofs.Common.{◌≡◌, ap, ap₂, ◌∙◌}
use Rattle.conditions.specs.Building.{IsNot, IsBracket, IsAnd, IsOr}
use Rattle.conditions.specs.declared.trees.Formula.{Formula}
use Rattle.conditions.specs.declared.trees.Formula.TheVariants.{Atom, Not', Bracket', And', Or'}

module _ {T X : Type 0} (f : Formula T → X) (g : X → X) where
  pub not_gives : ((p : _) (k : Formula T) → f (Not' p k) ≡ g (f k)) → (k w : Formula T) → IsNot k w → f w ≡ g (f k)
  not_gives says k (Not' p m) h = says p m ∙ ap (λ x. g (f x)) h
  not_gives says k (Atom c) h = elim h [ ]
  not_gives says k (Bracket' p m) h = elim h [ ]
  not_gives says k (And' p m q n) h = elim h [ ]
  not_gives says k (Or' p m q n) h = elim h [ ]

  pub bracket_gives : ((p : _) (k : Formula T) → f (Bracket' p k) ≡ g (f k)) → (k w : Formula T) → IsBracket k w → f w ≡ g (f k)
  bracket_gives says k (Bracket' p m) h = says p m ∙ ap (λ x. g (f x)) h
  bracket_gives says k (Atom c) h = elim h [ ]
  bracket_gives says k (Not' p m) h = elim h [ ]
  bracket_gives says k (And' p m q n) h = elim h [ ]
  bracket_gives says k (Or' p m q n) h = elim h [ ]

module _ {T X : Type 0} (f : Formula T → X) (g : X → X → X) where
  pub and_gives : ((p : _) (k : Formula T) (q : _) (l : Formula T) → f (And' p k q l) ≡ g (f k) (f l)) → (k l w : Formula T) → IsAnd k l w → f w ≡ g (f k) (f l)
  and_gives says k l (And' p m q n) h = says p m q n ∙ ap₂ (λ x y. g (f x) (f y)) h.0 h.1
  and_gives says k l (Atom c) h = elim h [ ]
  and_gives says k l (Not' p m) h = elim h [ ]
  and_gives says k l (Bracket' p m) h = elim h [ ]
  and_gives says k l (Or' p m q n) h = elim h [ ]

  pub or_gives : ((p : _) (k : Formula T) (q : _) (l : Formula T) → f (Or' p k q l) ≡ g (f k) (f l)) → (k l w : Formula T) → IsOr k l w → f w ≡ g (f k) (f l)
  or_gives says k l (Or' p m q n) h = says p m q n ∙ ap₂ (λ x y. g (f x) (f y)) h.0 h.1
  or_gives says k l (Atom c) h = elim h [ ]
  or_gives says k l (Not' p m) h = elim h [ ]
  or_gives says k l (Bracket' p m) h = elim h [ ]
  or_gives says k l (And' p m q n) h = elim h [ ]
