-- Membership in lists.
use Rattle.std.proofs.Common.{◌≡◌, Bool, true, false, cond, not, ◌&&◌, ◌||◌, ◌⊎◌, List, [], ◌∷◌, ◌++◌, map, Some, None, Option, sym, refl, ap, ◌∙◌, ap₂, inl, inr, true≢false}
use mathlib.Core.List.{head-eq_of_cons-eq, tail-eq_of_cons-eq}
use mathlib.Core.Bool.{false≢true}
use Rattle.model.specs.Facts.{or_left, or_right}
use Rattle.model.specs.Values.{any, filter, find, ◌∈◌}

pub in_append_left : {A : Type 0} (a : A) (l r : List A) → a ∈ l → a ∈ (l ++ r)
in_append_left a [] r h = absurd h
in_append_left a (b ∷ l) r (inl e) = inl e
in_append_left a (b ∷ l) r (inr h) = inr (in_append_left a l r h)

pub in_append_right : {A : Type 0} (a : A) (l r : List A) → a ∈ r → a ∈ (l ++ r)
in_append_right a [] r h = h
in_append_right a (b ∷ l) r h = inr (in_append_right a l r h)

pub of_append : {A : Type 0} (a : A) (l r : List A) → a ∈ (l ++ r) → (a ∈ l) ⊎ (a ∈ r)
of_append a [] r h = inr h
of_append a (b ∷ l) r (inl e) = inl (inl e)
of_append a (b ∷ l) r (inr h) = elim (of_append a l r h) [ inl g ↦ inl (inr g) | inr g ↦ inr g ]

pub in_map : {A B : Type 0} (f : A → B) (a : A) (l : List A) → a ∈ l → f a ∈ map f l
in_map f a [] h = absurd h
in_map f a (b ∷ l) (inl e) = inl (ap f e)
in_map f a (b ∷ l) (inr h) = inr (in_map f a l h)

pub of_map : {A B : Type 0} (f : A → B) (b : B) (l : List A) → b ∈ map f l → (a : A) × (a ∈ l) × (b ≡ f a)
of_map f b [] h = absurd h
of_map f b (a ∷ l) (inl e) = (a, inl refl, e)
of_map f b (a ∷ l) (inr h) = let g = of_map f b l h in (g.0, inr g.1, g.2)

in_filter_at : {A : Type 0} (p : A → Bool) (a b : A) (l : List A) (x : Bool) → p b ≡ x → p a ≡ true → (a ≡ b) ⊎ (a ∈ l) → (a ∈ l → a ∈ filter p l) → a ∈ cond x (b ∷ filter p l) (filter p l)
in_filter_at p a b l true e t (inl h) ih = inl h
in_filter_at p a b l true e t (inr h) ih = inr (ih h)
in_filter_at p a b l false e t (inl h) ih = absurd (false≢true (sym e ∙ ap p (sym h) ∙ t))
in_filter_at p a b l false e t (inr h) ih = ih h

pub in_filter : {A : Type 0} (p : A → Bool) (a : A) (l : List A) → a ∈ l → p a ≡ true → a ∈ filter p l
in_filter p a [] h t = absurd h
in_filter p a (b ∷ l) h t = in_filter_at p a b l (p b) refl t h (λ g. in_filter p a l g t)

of_filter_at : {A : Type 0} (p : A → Bool) (a b : A) (l : List A) (x : Bool) → p b ≡ x → (a ∈ filter p l → (a ∈ l) × (p a ≡ true)) → a ∈ cond x (b ∷ filter p l) (filter p l) → ((a ≡ b) ⊎ (a ∈ l)) × (p a ≡ true)
of_filter_at p a b l true e ih (inl h) = (inl h, ap p h ∙ e)
of_filter_at p a b l true e ih (inr h) = (inr (ih h).0, (ih h).1)
of_filter_at p a b l false e ih h = (inr (ih h).0, (ih h).1)

pub of_filter : {A : Type 0} (p : A → Bool) (a : A) (l : List A) → a ∈ filter p l → (a ∈ l) × (p a ≡ true)
of_filter p a [] h = absurd h
of_filter p a (b ∷ l) h = of_filter_at p a b l (p b) refl (of_filter p a l) h

-- what `find` answers
pub data Found {A : Type 0} (p : A → Bool) (l : List A) : Option A → Type 0 where
  hit : (a : A) → a ∈ l → p a ≡ true → Found p l (Some a)
  miss : ((a : A) → a ∈ l → p a ≡ true → ⊥) → Found p l None

found_later : {A : Type 0} (p : A → Bool) (b : A) (l : List A) (out : Option A) → p b ≡ false → Found p l out → Found p (b ∷ l) out
found_later p b l out e (hit a h t) = hit a (inr h) t
found_later p b l out e (miss n) = miss (λ a h t. elim h [ inl g ↦ false≢true (sym e ∙ ap p (sym g) ∙ t) | inr g ↦ n a g t ])

found_at : {A : Type 0} (p : A → Bool) (b : A) (l : List A) (x : Bool) → p b ≡ x → Found p l (find p l) → Found p (b ∷ l) (cond x (Some b) (find p l))
found_at p b l true e ih = hit b (inl refl) e
found_at p b l false e ih = found_later p b l (find p l) e ih

pub found : {A : Type 0} (p : A → Bool) (l : List A) → Found p l (find p l)
found p [] = miss (λ a h t. h)
found p (b ∷ l) = found_at p b l (p b) refl (found p l)

pub bool_cases : {C : Type 0} (b : Bool) → (b ≡ true → C) → (b ≡ false → C) → C
bool_cases true f g = f refl
bool_cases false f g = g refl

pub and_left : (a b : Bool) → (a && b) ≡ true → a ≡ true
and_left true b e = refl
and_left false b e = e

pub and_right : (a b : Bool) → (a && b) ≡ true → b ≡ true
and_right true b e = e
and_right false b e = absurd (false≢true e)

pub not_true : (a : Bool) → not a ≡ true → a ≡ false
not_true true e = absurd (false≢true e)
not_true false e = refl

pub not_false : (a : Bool) → a ≡ false → not a ≡ true
not_false true e = absurd (true≢false e)
not_false false e = refl

pub clash : {C : Type 0} (b : Bool) → b ≡ true → b ≡ false → C
clash true e f = absurd (true≢false f)
clash false e f = absurd (false≢true e)

pub in_any : {A : Type 0} (p : A → Bool) (a : A) (l : List A) → a ∈ l → p a ≡ true → any p l ≡ true
in_any p a [] h e = absurd h
in_any p a (b ∷ l) (inl g) e = or_left (p b) (any p l) (ap p (sym g) ∙ e)
in_any p a (b ∷ l) (inr g) e = or_right (p b) (any p l) (in_any p a l g e)

of_any_at : {A : Type 0} (p : A → Bool) (b : A) (l : List A) (x : Bool) → p b ≡ x → (x || any p l) ≡ true → (any p l ≡ true → (a : A) × (a ∈ l) × (p a ≡ true)) → (a : A) × (a ∈ (b ∷ l)) × (p a ≡ true)
of_any_at p b l true e h ih = (b, inl refl, e)
of_any_at p b l false e h ih = let w = ih h in (w.0, inr w.1, w.2)

pub of_any : {A : Type 0} (p : A → Bool) (l : List A) → any p l ≡ true → (a : A) × (a ∈ l) × (p a ≡ true)
of_any p [] e = absurd (false≢true e)
of_any p (b ∷ l) e = of_any_at p b l (p b) refl e (of_any p l)

filter_all_at : {A : Type 0} (p : A → Bool) (b : A) (l : List A) (x : Bool) → x ≡ true → filter p l ≡ l → cond x (b ∷ filter p l) (filter p l) ≡ b ∷ l
filter_all_at {A} p b l true e h = ap {B = List A} (λ m. b ∷ m) h
filter_all_at p b l false e h = absurd (false≢true e)

pub filter_all : {A : Type 0} (p : A → Bool) (l : List A) → ((a : A) → a ∈ l → p a ≡ true) → filter p l ≡ l
filter_all p [] f = refl
filter_all p (b ∷ l) f = filter_all_at p b l (p b) (f b (inl refl)) (filter_all p l (λ a h. f a (inr h)))

pub map_cong : {A B : Type 0} (f g : A → B) (l : List A) → ((a : A) → a ∈ l → f a ≡ g a) → map f l ≡ map g l
map_cong f g [] h = refl
map_cong {A} {B} f g (a ∷ l) h = ap₂ {C = List B} ◌∷◌ (h a (inl refl)) (map_cong f g l (λ b k. h b (inr k)))

pub map_at : {A B : Type 0} (f g : A → B) (l : List A) → map f l ≡ map g l → (a : A) → a ∈ l → f a ≡ g a
map_at f g [] e a h = absurd h
map_at f g (b ∷ l) e a (inl p) = ap f p ∙ head-eq_of_cons-eq e ∙ ap g (sym p)
map_at f g (b ∷ l) e a (inr h) = map_at f g l (tail-eq_of_cons-eq e) a h

pub map_append : {A B : Type 0} (f : A → B) (l r : List A) → map f (l ++ r) ≡ map f l ++ map f r
map_append f [] r = refl
map_append {A} {B} f (a ∷ l) r = ap {B = List B} (λ m. f a ∷ m) (map_append f l r)
