-- Numbers in groups of seven bits. Assumes nothing.
use Rattle.std.proofs.Common.{◌≡◌, ℕ, ◌+◌, ◌-◌, ◌*◌, ◌/◌, ◌%◌, ◌<◌, ◌≤◌, Bool, true, false, ltb, List, [], ◌∷◌, ◌++◌, Some, None, Option, sym, refl, ap, ◌∙◌, subst, inl, inr, arith}
use Rattle.std.proofs.lemmas.Bool.{cases_lt, cases_eq, lt-ltb, le-ltb, eq-eqb, ne_eqb}
use Rattle.model.specs.Sorts.{greatest}
use Rattle.model.specs.Banks.{groups, find_number}
use Rattle.coding.specs.Numbers.{Begins, NoNumber, GroupsOnce, NumbersExact, NoneExact}

-- the groups by the number's size
pub one : (n : ℕ) → n < 128 → groups n ≡ n ∷ []
one n h = rw (lt-ltb n 128 h)

pub two : (n : ℕ) → 128 ≤ n → n < 16384 → groups n ≡ (128 + n / 128) ∷ (n % 128) ∷ []
two n l h = rw (le-ltb n 128 l, lt-ltb n 16384 h)

pub three : (n : ℕ) → 16384 ≤ n → n < 2097152 → groups n ≡ (128 + n / 16384) ∷ (128 + n / 128 % 128) ∷ (n % 128) ∷ []
three n l h =
    let l₁ : 128 ≤ n = omega arith in
    rw (le-ltb n 128 l₁, le-ltb n 16384 l, lt-ltb n 2097152 h)

pub four : (n : ℕ) → 2097152 ≤ n → groups n ≡ (128 + n / 2097152) ∷ (128 + n / 16384 % 128) ∷ (128 + n / 128 % 128) ∷ (n % 128) ∷ []
four n l =
    let l₁ : 128 ≤ n = omega arith in
    let l₂ : 16384 ≤ n = omega arith in
    rw (le-ltb n 128 l₁, le-ltb n 16384 l₂, le-ltb n 2097152 l)

-- the number by the shape of its groups
abbrev pub of_two : ℕ → ℕ → ℕ
of_two a b = (a - 128) * 128 + b

abbrev pub of_three : ℕ → ℕ → ℕ → ℕ
of_three a b c = ((a - 128) * 128 + (b - 128)) * 128 + c

abbrev pub of_four : ℕ → ℕ → ℕ → ℕ → ℕ
of_four a b c d = (((a - 128) * 128 + (b - 128)) * 128 + (c - 128)) * 128 + d

some_at : (m n : ℕ) (r : List ℕ) → m ≡ n → ◌≡◌ {A = Option (ℕ × List ℕ)} (Some (m, r)) (Some (n, r))
some_at m n r e = ap (λ x. Some (x, r)) e

pub none_some : (n : ℕ) (r : List ℕ) → ◌≡◌ {A = Option (ℕ × List ℕ)} None (Some (n, r)) → ⊥
none_some n r e = let z : ◌≡◌ {A = ℕ} 0 1 = cc in omega arith

pub same_some : (m n : ℕ) (r s : List ℕ) → ◌≡◌ {A = Option (ℕ × List ℕ)} (Some (m, r)) (Some (n, s)) → (m ≡ n) × (r ≡ s)
same_some m n r s e = let p : ◌≡◌ {A = ℕ × List ℕ} (m, r) (n, s) = cc in (ap (λ x. x.0) p, ap (λ x. x.1) p)

pub find_one : (a : ℕ) (r : List ℕ) → a < 128 → find_number (a ∷ r) ≡ Some (a, r)
find_one a r h =
    let ne : a ≡ 128 → ⊥ = λ e. omega arith in
    rw (ne_eqb a 128 ne, lt-ltb a 128 h) (some_at (0 * 128 + a) a r (omega arith))

pub find_two : (a b : ℕ) (r : List ℕ) → 128 < a → a < 256 → b < 128 → find_number (a ∷ b ∷ r) ≡ Some (of_two a b, r)
find_two a b r h₀ f₀ h₁ =
    let ne : a ≡ 128 → ⊥ = λ e. omega arith in
    let l₀ : 128 ≤ a = omega arith in
    rw (ne_eqb a 128 ne, le-ltb a 128 l₀, lt-ltb a 256 f₀, lt-ltb b 128 h₁) (some_at _ (of_two a b) r (omega arith))

pub find_three : (a b c : ℕ) (r : List ℕ) → 128 < a → a < 256 → 128 ≤ b → b < 256 → c < 128 → find_number (a ∷ b ∷ c ∷ r) ≡ Some (of_three a b c, r)
find_three a b c r h₀ f₀ h₁ f₁ h₂ =
    let ne : a ≡ 128 → ⊥ = λ e. omega arith in
    let l₀ : 128 ≤ a = omega arith in
    rw (ne_eqb a 128 ne, le-ltb a 128 l₀, lt-ltb a 256 f₀, le-ltb b 128 h₁, lt-ltb b 256 f₁, lt-ltb c 128 h₂) (some_at _ (of_three a b c) r (omega arith))

pub find_four : (a b c d : ℕ) (r : List ℕ) → 128 < a → a < 256 → 128 ≤ b → b < 256 → 128 ≤ c → c < 256 → d < 128 → find_number (a ∷ b ∷ c ∷ d ∷ r) ≡ Some (of_four a b c d, r)
find_four a b c d r h₀ f₀ h₁ f₁ h₂ f₂ h₃ =
    let ne : a ≡ 128 → ⊥ = λ e. omega arith in
    let l₀ : 128 ≤ a = omega arith in
    rw (ne_eqb a 128 ne, le-ltb a 128 l₀, lt-ltb a 256 f₀, le-ltb b 128 h₁, lt-ltb b 256 f₁, le-ltb c 128 h₂, lt-ltb c 256 f₂, lt-ltb d 128 h₃) (some_at _ (of_four a b c d) r (omega arith))

four_is : (n : ℕ) → of_four (128 + n / 2097152) (128 + n / 16384 % 128) (128 + n / 128 % 128) (n % 128) ≡ n
four_is n =
    let d₀ : n / 2097152 * 128 + n / 16384 % 128 ≡ n / 16384 = omega arith in
    let d₁ : n / 16384 * 128 + n / 128 % 128 ≡ n / 128 = omega arith in
    omega arith

-- groups are found
pub find_groups : (n : ℕ) (r : List ℕ) → n ≤ greatest → find_number (groups n ++ r) ≡ Some (n, r)
find_groups n r h = elim (cases_lt n 128) [
  | inl l ↦ rw (one n l) (find_one n r l)
  | inr g ↦ elim (cases_lt n 16384) [
    | inl l ↦ rw (two n g l) (find_two (128 + n / 128) (n % 128) r (omega arith) (omega arith) (omega arith) ∙ some_at _ n r (omega arith))
    | inr g₁ ↦ elim (cases_lt n 2097152) [
      | inl l ↦ rw (three n g₁ l) (find_three (128 + n / 16384) (128 + n / 128 % 128) (n % 128) r (omega arith) (omega arith) (omega arith) (omega arith) (omega arith) ∙ some_at _ n r (omega arith))
      | inr g₂ ↦ rw (four n g₂) (find_four (128 + n / 2097152) (128 + n / 16384 % 128) (128 + n / 128 % 128) (n % 128) r (omega arith) (omega arith) (omega arith) (omega arith) (omega arith) (omega arith) (omega arith) ∙ some_at _ n r (four_is n))
    ]
  ]
]

-- What stands at the front of bytes: a number of one to four groups, or none.
pub data Shape : List ℕ → Type 0 where
  one_group : (a : ℕ) (r : List ℕ) → a < 128 → Shape (a ∷ r)
  two_groups : (a b : ℕ) (r : List ℕ) → 128 < a → a < 256 → b < 128 → Shape (a ∷ b ∷ r)
  three_groups : (a b c : ℕ) (r : List ℕ) → 128 < a → a < 256 → 128 ≤ b → b < 256 → c < 128 → Shape (a ∷ b ∷ c ∷ r)
  four_groups : (a b c d : ℕ) (r : List ℕ) → 128 < a → a < 256 → 128 ≤ b → b < 256 → 128 ≤ c → c < 256 → d < 128 → Shape (a ∷ b ∷ c ∷ d ∷ r)
  no_groups : (b : List ℕ) → find_number b ≡ None → Shape b

-- no number where a first group is padding, a group is no byte, or none is the last of four
pub none_padded : (a : ℕ) (r : List ℕ) → a ≡ 128 → find_number (a ∷ r) ≡ None
none_padded a r e = rw (eq-eqb a 128 e)

module _ (a : ℕ) (hi : 128 < a) where
  ne : a ≡ 128 → ⊥
  ne e = omega arith

  le : 128 ≤ a
  le = omega arith

  none_first : (r : List ℕ) → 256 ≤ a → find_number (a ∷ r) ≡ None
  none_first r g = rw (ne_eqb a 128 ne, le-ltb a 128 le, le-ltb a 256 g)

  module _ (fits : a < 256) where
    none_one : find_number (a ∷ []) ≡ None
    none_one = rw (ne_eqb a 128 ne, le-ltb a 128 le, lt-ltb a 256 fits)

    module _ (b : ℕ) (hi₁ : 128 ≤ b) where
      none_second : (r : List ℕ) → 256 ≤ b → find_number (a ∷ b ∷ r) ≡ None
      none_second r g = rw (ne_eqb a 128 ne, le-ltb a 128 le, lt-ltb a 256 fits, le-ltb b 128 hi₁, le-ltb b 256 g)

      module _ (fits₁ : b < 256) where
        none_two : find_number (a ∷ b ∷ []) ≡ None
        none_two = rw (ne_eqb a 128 ne, le-ltb a 128 le, lt-ltb a 256 fits, le-ltb b 128 hi₁, lt-ltb b 256 fits₁)

        module _ (c : ℕ) (hi₂ : 128 ≤ c) where
          none_third : (r : List ℕ) → 256 ≤ c → find_number (a ∷ b ∷ c ∷ r) ≡ None
          none_third r g = rw (ne_eqb a 128 ne, le-ltb a 128 le, lt-ltb a 256 fits, le-ltb b 128 hi₁, lt-ltb b 256 fits₁, le-ltb c 128 hi₂, le-ltb c 256 g)

          module _ (fits₂ : c < 256) where
            none_three : find_number (a ∷ b ∷ c ∷ []) ≡ None
            none_three = rw (ne_eqb a 128 ne, le-ltb a 128 le, lt-ltb a 256 fits, le-ltb b 128 hi₁, lt-ltb b 256 fits₁, le-ltb c 128 hi₂, lt-ltb c 256 fits₂)

            none_fourth : (d : ℕ) (r : List ℕ) → 128 ≤ d → (t : Bool) → ltb d 256 ≡ t → find_number (a ∷ b ∷ c ∷ d ∷ r) ≡ None
            none_fourth d r h true e = rw (ne_eqb a 128 ne, le-ltb a 128 le, lt-ltb a 256 fits, le-ltb b 128 hi₁, lt-ltb b 256 fits₁, le-ltb c 128 hi₂, lt-ltb c 256 fits₂, le-ltb d 128 h, e)
            none_fourth d r h false e = rw (ne_eqb a 128 ne, le-ltb a 128 le, lt-ltb a 256 fits, le-ltb b 128 hi₁, lt-ltb b 256 fits₁, le-ltb c 128 hi₂, lt-ltb c 256 fits₂, le-ltb d 128 h, e)

            shape_four : (r : List ℕ) → Shape (a ∷ b ∷ c ∷ r)
            shape_four [] = no_groups (a ∷ b ∷ c ∷ []) none_three
            shape_four (d ∷ r) = elim (cases_lt d 128) [
              | inl l ↦ four_groups a b c d r hi fits hi₁ fits₁ hi₂ fits₂ l
              | inr g ↦ no_groups (a ∷ b ∷ c ∷ d ∷ r) (none_fourth d r g (ltb d 256) refl)
            ]

        shape_three : (r : List ℕ) → Shape (a ∷ b ∷ r)
        shape_three [] = no_groups (a ∷ b ∷ []) none_two
        shape_three (c ∷ r) = elim (cases_lt c 128) [
          | inl l ↦ three_groups a b c r hi fits hi₁ fits₁ l
          | inr g ↦ elim (cases_lt c 256) [ inl f ↦ shape_four c g f r | inr n ↦ no_groups (a ∷ b ∷ c ∷ r) (none_third c g r n) ]
        ]

    shape_two : (r : List ℕ) → Shape (a ∷ r)
    shape_two [] = no_groups (a ∷ []) none_one
    shape_two (b ∷ r) = elim (cases_lt b 128) [
      | inl l ↦ two_groups a b r hi fits l
      | inr g ↦ elim (cases_lt b 256) [ inl f ↦ shape_three b g f r | inr n ↦ no_groups (a ∷ b ∷ r) (none_second b g r n) ]
    ]

pub shape : (b : List ℕ) → Shape b
shape [] = no_groups [] refl
shape (a ∷ r) = elim (cases_lt a 128) [
  | inl l ↦ one_group a r l
  | inr g ↦ elim (cases_eq a 128) [
    | inl e ↦ no_groups (a ∷ r) (none_padded a r e)
    | inr n ↦ let hi : 128 < a = omega arith in elim (cases_lt a 256) [ inl f ↦ shape_two a hi f r | inr m ↦ no_groups (a ∷ r) (none_first a hi r m) ]
  ]
]

-- what has a shape begins with that number's groups
begins_one : (a : ℕ) (r : List ℕ) → a < 128 → Begins (a ∷ r) a r
begins_one a r h = (omega arith, rw (one a h))

begins_two : (a b : ℕ) (r : List ℕ) → 128 < a → a < 256 → b < 128 → Begins (a ∷ b ∷ r) (of_two a b) r
begins_two a b r h f lo =
    let n = of_two a b in
    let e₁ : 128 + n / 128 ≡ a = omega arith in
    let e₂ : n % 128 ≡ b = omega arith in
    (omega arith, rw (two n (omega arith) (omega arith), e₁, e₂))

begins_three : (a b c : ℕ) (r : List ℕ) → 128 < a → a < 256 → 128 ≤ b → b < 256 → c < 128 → Begins (a ∷ b ∷ c ∷ r) (of_three a b c) r
begins_three a b c r h₀ f₀ h₁ f₁ lo =
    let n = of_three a b c in
    let e₀ : 128 + n / 16384 ≡ a = omega arith in
    let e₁ : 128 + n / 128 % 128 ≡ b = omega arith in
    let e₂ : n % 128 ≡ c = omega arith in
    (omega arith, rw (three n (omega arith) (omega arith), e₀, e₁, e₂))

begins_four : (a b c d : ℕ) (r : List ℕ) → 128 < a → a < 256 → 128 ≤ b → b < 256 → 128 ≤ c → c < 256 → d < 128 → Begins (a ∷ b ∷ c ∷ d ∷ r) (of_four a b c d) r
begins_four a b c d r h₀ f₀ h₁ f₁ h₂ f₂ lo =
    let n = of_four a b c d in
    let q₁ : n / 16384 ≡ (a - 128) * 128 + (b - 128) = omega arith in
    let e₁ : 128 + n / 16384 % 128 ≡ b = omega arith in
    let e₀ : 128 + n / 2097152 ≡ a = omega arith in
    let e₂ : 128 + n / 128 % 128 ≡ c = omega arith in
    let e₃ : n % 128 ≡ d = omega arith in
    (omega arith, rw (four n (omega arith), e₀, e₁, e₂, e₃))

-- what was found is what stands there
pub data Front (b : List ℕ) : Option (ℕ × List ℕ) → Type 0 where
  a_number : (n : ℕ) (r : List ℕ) → Begins b n r → Front b (Some (n, r))
  no_number : NoNumber b → Front b None

front_of_shape : (b : List ℕ) → Shape b → Front b (find_number b)
front_of_shape _ (one_group a r h) = rw (find_one a r h) (a_number a r (begins_one a r h))
front_of_shape _ (two_groups a b r h₀ f₀ h₁) = rw (find_two a b r h₀ f₀ h₁) (a_number (of_two a b) r (begins_two a b r h₀ f₀ h₁))
front_of_shape _ (three_groups a b c r h₀ f₀ h₁ f₁ h₂) = rw (find_three a b c r h₀ f₀ h₁ f₁ h₂) (a_number (of_three a b c) r (begins_three a b c r h₀ f₀ h₁ f₁ h₂))
front_of_shape _ (four_groups a b c d r h₀ f₀ h₁ f₁ h₂ f₂ h₃) = rw (find_four a b c d r h₀ f₀ h₁ f₁ h₂ f₂ h₃) (a_number (of_four a b c d) r (begins_four a b c d r h₀ f₀ h₁ f₁ h₂ f₂ h₃))
front_of_shape _ (no_groups b h) = rw h (no_number (λ n r g. none_some n r (sym h ∙ ap find_number g.1 ∙ find_groups n r g.0)))

pub front : (b : List ℕ) → Front b (find_number b)
front b = front_of_shape b (shape b)

pub groups_once : GroupsOnce
groups_once m n r s h g e = same_some m n r s (sym (find_groups m r h) ∙ ap find_number e ∙ find_groups n s g)

begins_found : (b : List ℕ) (n : ℕ) (r : List ℕ) (o : Option (ℕ × List ℕ)) → Front b o → o ≡ Some (n, r) → Begins b n r
begins_found b n r _ (a_number m s g) e = let w = same_some m n s r e in subst (λ x. Begins b x r) w.0 (subst (λ x. Begins b m x) w.1 g)
begins_found b n r _ (no_number f) e = absurd (none_some n r e)

none_found : (b : List ℕ) (o : Option (ℕ × List ℕ)) → Front b o → o ≡ None → NoNumber b
none_found b _ (a_number m s g) e = absurd (none_some m s (sym e))
none_found b _ (no_number f) e = f

found_begins : (b : List ℕ) (n : ℕ) (r : List ℕ) → Begins b n r → find_number b ≡ Some (n, r)
found_begins b n r g = ap find_number g.1 ∙ find_groups n r g.0

found_none : (b : List ℕ) (o : Option (ℕ × List ℕ)) → Front b o → NoNumber b → o ≡ None
found_none b _ (a_number m s g) f = absurd (f m s g)
found_none b _ (no_number f) g = refl

pub numbers_exact : NumbersExact
numbers_exact b n r = (begins_found b n r (find_number b) (front b), found_begins b n r)

pub none_exact : NoneExact
none_exact b = (none_found b (find_number b) (front b), found_none b (find_number b) (front b))
