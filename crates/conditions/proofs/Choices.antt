-- No fault is due exactly to 1 to 32 ascending cells of one kind.
use Rattle.std.proofs.Common.{◌≡◌, ℕ, ◌≤◌, Bool, true, false, ◌&&◌, leb, List, [], ◌∷◌, length, Some, None, Option, sym, refl, ap, ◌∙◌, inl, inr, arith}
use mathlib.Core.Bool.{false≢true}
use Prim.Native.Nat.{Ordering}
use Rattle.std.proofs.lemmas.Bool.{and_from, and_parts, le-leb, leb-true}
use Rattle.model.specs.Decisions.{is_below}
use Rattle.model.specs.Faults.{Fault, or_then}
use Rattle.model.specs.Orders.{Order, by_bytes}
use Rattle.model.specs.Sorts.{Kind, numbers, texts, of_kind}
use Rattle.model.specs.Values.{Value, num, text, ◌∈◌, every}
use Rattle.conditions.specs.Picks.{kind_of_value, is_cell, is_choice, is_few, of_first_kind, below_next, rising, unless, pick_fault, BelowNext, Rising, Choice, PicksRight}

every_in : (p : Value → Bool) (l : List Value) → every p l ≡ true → (v : Value) → v ∈ l → p v ≡ true
every_in p [] h v m = absurd m
every_in p (x ∷ l) h v (inl e) = ap p e ∙ (and_parts (p x) (every p l) h).0
every_in p (x ∷ l) h v (inr m) = every_in p l (and_parts (p x) (every p l) h).1 v m

every_from : (p : Value → Bool) (l : List Value) → ((v : Value) → v ∈ l → p v ≡ true) → every p l ≡ true
every_from p [] f = refl
every_from p (x ∷ l) f = and_from (p x) (every p l) (f x (inl refl)) (every_from p l (λ v m. f v (inr m)))

-- a cell of a kind is of its own
kind_is : (k : Kind) (v : Value) → of_kind k v ≡ true → k ≡ kind_of_value v
kind_is numbers (num n) h = refl
kind_is numbers (text b) h = absurd (false≢true h)
kind_is texts (num n) h = absurd (false≢true h)
kind_is texts (text b) h = refl

own_kind : (k : Kind) (v : Value) → of_kind k v ≡ true → is_cell v ≡ true
own_kind k v h = ap (λ j. of_kind j v) (sym (kind_is k v h)) ∙ h

below_is : (x : Ordering) → is_below x ≡ true → x ≡ Ordering.lt
below_is Ordering.lt h = refl
below_is Ordering.eq h = absurd (false≢true h)
below_is Ordering.gt h = absurd (false≢true h)

next_is : (o : Order) (v : Value) (l : List Value) → below_next o v l ≡ true → BelowNext o v l
next_is o v [] h = tt
next_is o v (w ∷ l) h = below_is (o v w) h

next_from : (o : Order) (v : Value) (l : List Value) → BelowNext o v l → below_next o v l ≡ true
next_from o v [] h = refl
next_from o v (w ∷ l) h = ap is_below h

rising_is : (o : Order) (l : List Value) → rising o l ≡ true → Rising o l
rising_is o [] h = tt
rising_is o (v ∷ l) h = let p = and_parts (below_next o v l) (rising o l) h in (next_is o v l p.0, rising_is o l p.1)

rising_from : (o : Order) (l : List Value) → Rising o l → rising o l ≡ true
rising_from o [] h = refl
rising_from o (v ∷ l) h = and_from (below_next o v l) (rising o l) (next_from o v l h.0) (rising_from o l h.1)

-- no fault of several is due when none of each is
unless_none : (b : Bool) (n : ℕ) → unless b n ≡ None → b ≡ true
unless_none true n h = refl
unless_none false n h = let z : ◌≡◌ {A = ℕ} 0 1 = cc in absurd (let y : ⊥ = omega arith in y)

none_of : (f g : Option Fault) → or_then f g ≡ None → (f ≡ None) × (g ≡ None)
none_of None g h = (refl, h)
none_of (Some f) g h = let z : ◌≡◌ {A = ℕ} 0 1 = cc in absurd (let y : ⊥ = omega arith in y)

some_kind : (l : List Value) → 1 ≤ length l → of_first_kind l ≡ true → (k : Kind) × ((v : Value) → v ∈ l → of_kind k v ≡ true)
some_kind [] h e = absurd (let z : ⊥ = omega arith in z)
some_kind (v ∷ l) h e = (kind_of_value v, every_in (of_kind (kind_of_value v)) (v ∷ l) e)

right : (l : List Value) → pick_fault l ≡ None → Choice l
right l h =
    let p = none_of (unless (every is_cell l) 17) _ h in
    let q = none_of (unless (is_few l) 4) _ p.1 in
    let r = none_of (unless (of_first_kind l) 17) _ q.1 in
    let few = and_parts (leb 1 (length l)) (leb (length l) 32) (unless_none (is_few l) 4 q.0) in
    let least = leb-true 1 (length l) few.0 in
    let k = some_kind l least (unless_none (of_first_kind l) 17 r.0) in
    record { least = least; most = leb-true (length l) 32 few.1; kind = k.0; cells = k.1; ascending = rising_is by_bytes l (unless_none (rising by_bytes l) 18 r.1) }

first_kind_from : (l : List Value) (k : Kind) → ((v : Value) → v ∈ l → of_kind k v ≡ true) → of_first_kind l ≡ true
first_kind_from [] k f = refl
first_kind_from (v ∷ l) k f = ap (λ j. every (of_kind j) (v ∷ l)) (sym (kind_is k v (f v (inl refl)))) ∙ every_from (of_kind k) (v ∷ l) f

faultless : (a b c d : Bool) → a ≡ true → b ≡ true → c ≡ true → d ≡ true → or_then (unless a 17) (or_then (unless b 4) (or_then (unless c 17) (unless d 18))) ≡ None
faultless a b c d e f g h = ap (λ x. or_then (unless x 17) (or_then (unless b 4) (or_then (unless c 17) (unless d 18)))) e
    ∙ ap (λ x. or_then (unless x 4) (or_then (unless c 17) (unless d 18))) f ∙ ap (λ x. or_then (unless x 17) (unless d 18)) g ∙ ap (λ x. unless x 18) h

left : (l : List Value) → Choice l → pick_fault l ≡ None
left l c =
    faultless (every is_cell l) (is_few l) (of_first_kind l) (rising by_bytes l) (every_from is_cell l (λ v m. own_kind c.kind v (c.cells v m)))
    (and_from (leb 1 (length l)) (leb (length l) 32) (le-leb 1 (length l) c.least) (le-leb (length l) 32 c.most)) (first_kind_from l c.kind c.cells) (rising_from by_bytes l c.ascending)

pub picks_right : PicksRight
picks_right l = (right l, left l)

-- what is one to 32 cells of one kind, ascending, is a choice
pub choice_from : (l : List Value) → is_few l ≡ true → of_first_kind l ≡ true → rising by_bytes l ≡ true → is_choice l ≡ true
choice_from l e e₁ e₂ = and_from (is_few l) (of_first_kind l && rising by_bytes l) e (and_from (of_first_kind l) (rising by_bytes l) e₁ e₂)
