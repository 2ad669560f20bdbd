-- Dependencies in turn: in tree form they can be so arranged, and `in_order` does.
use Rattle.std.proofs.Common.{◌≡◌, ℕ, zero, suc, ◌≤◌, Bool, true, false, cond, not, ◌&&◌, ◌⊎◌, List, [], ◌∷◌, ◌++◌, length, sym, refl, ap, ◌∙◌, subst, inl, inr, true≢false, arith}
use Rattle.model.specs.ColumnSets.{Apart, ColumnSet, Same, same}
use Rattle.model.specs.Sorts.{Dependency}
use Rattle.model.specs.TreeForm.{Leads, RightOnce, TreeForm, after_first, arrange, front, in_order, lead_first, leads_off, more, one, sets}
use Rattle.model.specs.Values.{tail, ◌∈◌}
use Rattle.laws.proofs.Cells.{is_same_set, same_is, same_sym}
use Rattle.laws.proofs.Members.{and_left, and_right, clash, not_true}

-- each right set is apart from the earlier left and right sets, and from its own left set
abbrev pub InTurn : List Dependency → Type 0
InTurn [] = Unit {0}
InTurn (d ∷ D) = Apart d.left d.right × ((e : Dependency) → e ∈ D → Apart e.right d.left × Apart e.right d.right) × InTurn D

abbrev pub ApartSets : List Dependency → Type 0
ApartSets D = (d : Dependency) → d ∈ D → Apart d.left d.right

pub in_sets_left : (D : List Dependency) (d : Dependency) → d ∈ D → d.left ∈ sets D
in_sets_left [] d h = absurd h
in_sets_left (e ∷ D) d (inl p) = inl (ap (λ x. x.left) p)
in_sets_left (e ∷ D) d (inr h) = inr (inr (in_sets_left D d h))

pub in_sets_right : (D : List Dependency) (d : Dependency) → d ∈ D → d.right ∈ sets D
in_sets_right [] d h = absurd h
in_sets_right (e ∷ D) d (inl p) = inr (inl (ap (λ x. x.right) p))
in_sets_right (e ∷ D) d (inr h) = inr (inr (in_sets_right D d h))

-- a set of the list is the right set of some dependency, or apart from them all
pub right_or_apart : (D l : List Dependency) (X : ColumnSet) → ((e : Dependency) → e ∈ l → Same e.right X ⊎ Apart e.right X) →
    ((e : Dependency) × (e ∈ l) × Same e.right X) ⊎ ((e : Dependency) → e ∈ l → Apart e.right X)
right_or_apart D [] X f = inr (λ e h. absurd h)
right_or_apart D (d ∷ l) X f = go (f d (inl refl)) (right_or_apart D l X (λ e h. f e (inr h)))
  where
    go : Same d.right X ⊎ Apart d.right X → ((e : Dependency) × (e ∈ l) × Same e.right X) ⊎ ((e : Dependency) → e ∈ l → Apart e.right X) →
        ((e : Dependency) × (e ∈ (d ∷ l)) × Same e.right X) ⊎ ((e : Dependency) → e ∈ (d ∷ l) → Apart e.right X)
    go (inl s) r = inl (d, inl refl, s)
    go (inr a) (inl r) = inl (r.0, inr r.1, r.2)
    go (inr a) (inr r) = inr (λ e h. elim h [ inl p ↦ subst (λ x. Apart x.right X) (sym p) a | inr g ↦ r e g ])

pub root_or_not : (D : List Dependency) → TreeForm D → (d : Dependency) → d ∈ D →
    ((e : Dependency) × (e ∈ D) × Same e.right d.left) ⊎ ((e : Dependency) → e ∈ D → Apart e.right d.left)
root_or_not D T d h = right_or_apart D D d.left (λ e g. T.equal_or_apart e.right d.left (in_sets_right D e g) (in_sets_left D d h))

-- `lead_first` rearranges
in_front : (d : Dependency) (l : List Dependency) (x : Dependency) → (x ≡ d) ⊎ (x ∈ l) → x ∈ after_first d l
in_front d [] x h = h
in_front d (e ∷ l) x (inl p) = inr (inl p)
in_front d (e ∷ l) x (inr (inl p)) = inl p
in_front d (e ∷ l) x (inr (inr h)) = inr (inr h)

of_front : (d : Dependency) (l : List Dependency) (x : Dependency) → x ∈ after_first d l → (x ≡ d) ⊎ (x ∈ l)
of_front d [] x h = h
of_front d (e ∷ l) x (inl p) = inr (inl p)
of_front d (e ∷ l) x (inr (inl p)) = inl p
of_front d (e ∷ l) x (inr (inr h)) = inr (inr h)

length_front : (d : Dependency) (l : List Dependency) → length (after_first d l) ≡ suc (length l)
length_front d [] = refl
length_front d (e ∷ l) = refl

once_front : (d : Dependency) (l : List Dependency) → ((e : Dependency) → e ∈ l → Same d.right e.right → ⊥) → RightOnce l → RightOnce (after_first d l)
once_front d [] f out = (f, out)
once_front d (e ∷ l) f out = (
  (λ x h s. elim h [
    | inl p ↦ f e (inl refl) (same_sym e.right d.right (subst (λ y. Same e.right y.right) p s))
    | inr g ↦ out.0 x g s
  ]),
  ((λ x h. f x (inr h)), out.1),
)

in_lead_at : (D : List Dependency) (d : Dependency) (l : List Dependency) (b : Bool) (x : Dependency) → (x ∈ l → x ∈ lead_first D l) → (x ≡ d) ⊎ (x ∈ l) → x ∈ cond b (d ∷ l) (after_first d (lead_first D l))
in_lead_at D d l true x ih h = h
in_lead_at D d l false x ih (inl p) = in_front d (lead_first D l) x (inl p)
in_lead_at D d l false x ih (inr h) = in_front d (lead_first D l) x (inr (ih h))

in_lead : (D l : List Dependency) (x : Dependency) → x ∈ l → x ∈ lead_first D l
in_lead D [] x h = h
in_lead D (d ∷ l) x h = in_lead_at D d l (leads_off D d) x (in_lead D l x) h

of_lead_at : (D : List Dependency) (d : Dependency) (l : List Dependency) (b : Bool) (x : Dependency) → (x ∈ lead_first D l → x ∈ l) → x ∈ cond b (d ∷ l) (after_first d (lead_first D l)) → (x ≡ d) ⊎ (x ∈ l)
of_lead_at D d l true x ih h = h
of_lead_at D d l false x ih h = elim (of_front d (lead_first D l) x h) [ inl p ↦ inl p | inr g ↦ inr (ih g) ]

pub of_lead : (D l : List Dependency) (x : Dependency) → x ∈ lead_first D l → x ∈ l
of_lead D [] x h = h
of_lead D (d ∷ l) x h = of_lead_at D d l (leads_off D d) x (of_lead D l x) h

length_lead_at : (D : List Dependency) (d : Dependency) (l : List Dependency) (b : Bool) → length (lead_first D l) ≡ length l → length (cond b (d ∷ l) (after_first d (lead_first D l))) ≡ suc (length l)
length_lead_at D d l true e = refl
length_lead_at D d l false e = length_front d (lead_first D l) ∙ ap suc e

length_lead : (D l : List Dependency) → length (lead_first D l) ≡ length l
length_lead D [] = refl
length_lead D (d ∷ l) = length_lead_at D d l (leads_off D d) (length_lead D l)

once_lead_at : (D : List Dependency) (d : Dependency) (l : List Dependency) (b : Bool) → RightOnce (d ∷ l) → RightOnce (lead_first D l) → RightOnce (cond b (d ∷ l) (after_first d (lead_first D l)))
once_lead_at D d l true out ih = out
once_lead_at D d l false out ih = once_front d (lead_first D l) (λ e h. out.0 e (of_lead D l e h)) ih

once_lead : (D l : List Dependency) → RightOnce l → RightOnce (lead_first D l)
once_lead D [] out = out
once_lead D (d ∷ l) out = once_lead_at D d l (leads_off D d) out (once_lead D l out.1)

-- its head leads off, if any does
abbrev pub HeadLeads : List Dependency → List Dependency → Type 0
HeadLeads D [] = Unit {0}
HeadLeads D (d ∷ l) = leads_off D d ≡ true

head_front : (D : List Dependency) (d : Dependency) (l : List Dependency) (x : Dependency) → x ∈ l → HeadLeads D l → HeadLeads D (after_first d l)
head_front D d [] x h g = absurd h
head_front D d (e ∷ l) x h g = g

lead_head_at : (D : List Dependency) (d : Dependency) (l : List Dependency) (b : Bool) → leads_off D d ≡ b → ((x : Dependency) → x ∈ l → leads_off D x ≡ true → HeadLeads D (lead_first D l)) →
    (x : Dependency) → (x ≡ d) ⊎ (x ∈ l) → leads_off D x ≡ true → HeadLeads D (cond b (d ∷ l) (after_first d (lead_first D l)))
lead_head_at D d l true e ih x h t = e
lead_head_at D d l false e ih x (inl p) t = clash (leads_off D x) t (ap (leads_off D) p ∙ e)
lead_head_at D d l false e ih x (inr h) t = head_front D d (lead_first D l) x (in_lead D l x h) (ih x h t)

lead_head : (D l : List Dependency) (x : Dependency) → x ∈ l → leads_off D x ≡ true → HeadLeads D (lead_first D l)
lead_head D [] x h t = tt
lead_head D (d ∷ l) x h t = lead_head_at D d l (leads_off D d) refl (lead_head D l) x h t

pub leads_off_is : (D : List Dependency) (d : Dependency) → leads_off D d ≡ true → (e : Dependency) → e ∈ D → Same e.right d.left → ⊥
leads_off_is [] d t e h s = h
leads_off_is (f ∷ D) d t e (inl p) s = clash (same f.right d.left) (is_same_set f.right d.left (subst (λ x. Same x.right d.left) p s)) (not_true (same f.right d.left) (and_left (not (same f.right d.left)) (leads_off D d) t))
leads_off_is (f ∷ D) d t e (inr h) s = leads_off_is D d (and_right (not (same f.right d.left)) (leads_off D d) t) e h s

leads_off_not : (D : List Dependency) (d : Dependency) → leads_off D d ≡ false → (e : Dependency) × (e ∈ D) × Same e.right d.left
leads_off_not [] d t = absurd (true≢false t)
leads_off_not (f ∷ D) d t = go (same f.right d.left) refl t (leads_off_not D d)
  where
    go : (b : Bool) → same f.right d.left ≡ b → (not b && leads_off D d) ≡ false → (leads_off D d ≡ false → (e : Dependency) × (e ∈ D) × Same e.right d.left) → (e : Dependency) × (e ∈ (f ∷ D)) × Same e.right d.left
    go true e t ih = (f, inl refl, same_is f.right d.left e)
    go false e t ih = let w = ih t in (w.0, inr w.1, w.2)

-- a walk back along the dependencies comes to an end
drop_at : (l : List Dependency) (e : Dependency) → e ∈ l → List Dependency
drop_at [] e h = []
drop_at (b ∷ l) e (inl p) = l
drop_at (b ∷ l) e (inr h) = b ∷ drop_at l e h

length_drop_at : (l : List Dependency) (e : Dependency) (h : e ∈ l) → suc (length (drop_at l e h)) ≡ length l
unfolding drop_at
length_drop_at [] e h = absurd h
length_drop_at (b ∷ l) e (inl p) = refl
length_drop_at (b ∷ l) e (inr h) = ap suc (length_drop_at l e h)

in_drop_at : (l : List Dependency) (e : Dependency) (h : e ∈ l) (x : Dependency) → x ∈ l → (x ≡ e) ⊎ (x ∈ drop_at l e h)
unfolding drop_at
in_drop_at [] e h x g = absurd g
in_drop_at (b ∷ l) e (inl p) x (inl q) = inl (q ∙ sym p)
in_drop_at (b ∷ l) e (inl p) x (inr g) = inr g
in_drop_at (b ∷ l) e (inr h) x (inl q) = inr (inl q)
in_drop_at (b ∷ l) e (inr h) x (inr g) = elim (in_drop_at l e h x g) [ inl q ↦ inl q | inr k ↦ inr (inr k) ]

pub same_refl : (X : ColumnSet) → Same X X
same_refl X = ((λ i h. h), (λ i h. h))

pub same_trans : (X Y Z : ColumnSet) → Same X Y → Same Y Z → Same X Z
same_trans X Y Z s t = ((λ i h. t.0 i (s.0 i h)), (λ i h. s.1 i (t.1 i h)))

pub leads_into : (D : List Dependency) (X Y Z : ColumnSet) → Leads D X Y → Same Y Z → Leads D X Z
leads_into D X Y Z (one {X = X'} {Z = Y'} d h s t) u = one d h s (same_trans d.right Y' Z t u)
leads_into D X Y Z (more {X = X'} {Y = W} {Z = Y'} p q) u = more p (leads_into D W Y' Z q u)

module _ (D R : List Dependency) (sub : (d : Dependency) → d ∈ R → d ∈ D) (N : (X : ColumnSet) → Leads D X X → ⊥) (back : (d : Dependency) → d ∈ R → (e : Dependency) × (e ∈ R) × Same e.right d.left) where
  abbrev Seen : List Dependency → Dependency → Type 0
  Seen U d = (x : Dependency) → x ∈ R → (x ∈ U) ⊎ Leads D d.left x.right

  -- back over e: all that was seen before is seen from e, and e
  seen_on : (U : List Dependency) (d e : Dependency) (g : e ∈ U) → e ∈ R → Same e.right d.left → Seen U d → Seen (drop_at U e g) e
  seen_on U d e g he s f x hx = elim (f x hx) [
    | inl k ↦ elim (in_drop_at U e g x k) [
      | inl q ↦ inr (subst (λ y. Leads D e.left y.right) (sym q) (one e (sub e he) (same_refl e.left) (same_refl e.right)))
      | inr m ↦ inl m
    ]
    | inr p ↦ inr (more (one e (sub e he) (same_refl e.left) s) p)
  ]

  step : (U : List Dependency) (d : Dependency) → Seen U d → (w : (e : Dependency) × (e ∈ R) × Same e.right d.left) → (w.0 ∈ U) ⊎ Leads D d.left w.0.right →
      ((V : List Dependency) → suc (length V) ≤ length U → (e : Dependency) → e ∈ R → Seen V e → ⊥) → ⊥
  step U d f w (inl g) rec = rec (drop_at U w.0 g) (omega (arith, length_drop_at U w.0 g)) w.0 w.1 (seen_on U d w.0 g w.1 w.2 f)
  step U d f w (inr p) rec = N d.left (leads_into D d.left w.0.right d.left p w.2)

  walk : (k : ℕ) (U : List Dependency) → length U ≤ k → (d : Dependency) → d ∈ R → Seen U d → ⊥
  walk zero U b d h f = step U d f (back d h) (f (back d h).0 (back d h).1) (λ V l e he g. let z : ⊥ = omega arith in z)
  walk (suc k) U b d h f = step U d f (back d h) (f (back d h).0 (back d h).1) (λ V l e he g. walk k V (omega arith) e he g)

  no_circle : (d : Dependency) → d ∈ R → ⊥
  no_circle d h = walk (length R) R (omega arith) d h (λ x g. inl g)

-- one that leads off, unless there is none at all
some_leader : (R l : List Dependency) → ((x : Dependency) → x ∈ l → leads_off R x ≡ false) ⊎ ((x : Dependency) × (x ∈ l) × (leads_off R x ≡ true))
some_leader R [] = inl (λ x h. absurd h)
some_leader R (d ∷ l) = go (leads_off R d) refl (some_leader R l)
  where
    go : (b : Bool) → leads_off R d ≡ b → ((x : Dependency) → x ∈ l → leads_off R x ≡ false) ⊎ ((x : Dependency) × (x ∈ l) × (leads_off R x ≡ true)) →
        ((x : Dependency) → x ∈ (d ∷ l) → leads_off R x ≡ false) ⊎ ((x : Dependency) × (x ∈ (d ∷ l)) × (leads_off R x ≡ true))
    go true e r = inr (d, inl refl, e)
    go false e (inl f) = inl (λ x h. elim h [ inl p ↦ ap (leads_off R) p ∙ e | inr g ↦ f x g ])
    go false e (inr w) = inr (w.0, inr w.1, w.2)

pub head_leads : (D R : List Dependency) → ((d : Dependency) → d ∈ R → d ∈ D) → ((X : ColumnSet) → Leads D X X → ⊥) → HeadLeads R (lead_first R R)
head_leads D [] sub N = tt
head_leads D (d ∷ R) sub N = elim (some_leader (d ∷ R) (d ∷ R)) [
  | inl f ↦ absurd (no_circle D (d ∷ R) sub N (λ x h. leads_off_not (d ∷ R) x (f x h)) d (inl refl))
  | inr w ↦ lead_head (d ∷ R) (d ∷ R) w.0 w.1 w.2
]

-- what is still to be arranged
record LeftOver (D R : List Dependency) : Type 0 where
  apart : ApartSets R
  lefts : (d e : Dependency) → d ∈ R → e ∈ R → Same e.right d.left ⊎ Apart e.right d.left
  rights : (d e : Dependency) → d ∈ R → e ∈ R → Same e.right d.right ⊎ Apart e.right d.right
  once : RightOnce R
  sub : (d : Dependency) → d ∈ R → d ∈ D

over_lead : (D R : List Dependency) → LeftOver D R → LeftOver D (lead_first R R)
over_lead D R L = record {
  apart = λ d h. L.apart d (of_lead R R d h);
  lefts = λ d e h g. L.lefts d e (of_lead R R d h) (of_lead R R e g);
  rights = λ d e h g. L.rights d e (of_lead R R d h) (of_lead R R e g);
  once = once_lead R R L.once;
  sub = λ d h. L.sub d (of_lead R R d h);
}

over_rest : (D : List Dependency) (d : Dependency) (R : List Dependency) → LeftOver D (d ∷ R) → LeftOver D R
over_rest D d R L = record {
  apart = λ d h. L.apart d (inr h);
  lefts = λ d e h g. L.lefts d e (inr h) (inr g);
  rights = λ d e h g. L.rights d e (inr h) (inr g);
  once = L.once.1;
  sub = λ d h. L.sub d (inr h);
}

of_arrange_at : (k : ℕ) (l : List Dependency) (x : Dependency) → x ∈ (front l ++ arrange k (tail l)) → ((m : List Dependency) → x ∈ arrange k m → x ∈ m) → x ∈ l
of_arrange_at k [] x h rec = rec [] h
of_arrange_at k (d ∷ l) x (inl p) rec = inl p
of_arrange_at k (d ∷ l) x (inr h) rec = inr (rec l h)

pub of_arrange : (k : ℕ) (R : List Dependency) (x : Dependency) → x ∈ arrange k R → x ∈ R
of_arrange zero R x h = absurd h
of_arrange (suc k) R x h = of_lead R R x (of_arrange_at k (lead_first R R) x h (λ m g. of_arrange k m x g))

in_arrange_at : (k : ℕ) (l : List Dependency) (x : Dependency) → length l ≤ suc k → x ∈ l → ((m : List Dependency) → length m ≤ k → x ∈ m → x ∈ arrange k m) → x ∈ (front l ++ arrange k (tail l))
in_arrange_at k [] x b h rec = absurd h
in_arrange_at k (d ∷ l) x b (inl p) rec = inl p
in_arrange_at k (d ∷ l) x b (inr h) rec = inr (rec l (omega arith) h)

in_arrange : (k : ℕ) (R : List Dependency) (x : Dependency) → length R ≤ k → x ∈ R → x ∈ arrange k R
in_arrange zero [] x b h = h
in_arrange zero (d ∷ R) x b h = let z : ⊥ = omega arith in absurd z
in_arrange (suc k) R x b h = in_arrange_at k (lead_first R R) x (omega (arith, length_lead R R)) (in_lead R R x h) (λ m c g. in_arrange k m x c g)

turn_at : (D R : List Dependency) (k : ℕ) (l : List Dependency) → LeftOver D l → HeadLeads R l → ((x : Dependency) → x ∈ l → x ∈ R) → ((m : List Dependency) → LeftOver D m → InTurn (arrange k m)) → InTurn (front l ++ arrange k (tail l))
turn_at D R k [] L H mem rec = rec [] L
turn_at D R k (d ∷ l) L H mem rec = (
  L.apart d (inl refl),
  (λ e h.
      let g = of_arrange k l e h in (
        (elim (L.lefts d e (inl refl) (inr g)) [ inl s ↦ absurd (leads_off_is R d H e (mem e (inr g)) s) | inr a ↦ a ]),
        (elim (L.rights d e (inl refl) (inr g)) [ inl s ↦ absurd (L.once.0 e g (same_sym e.right d.right s)) | inr a ↦ a ]),
      )),
  rec l (over_rest D d l L),
)

turn : (D : List Dependency) → ((X : ColumnSet) → Leads D X X → ⊥) → (k : ℕ) (R : List Dependency) → LeftOver D R → InTurn (arrange k R)
turn D N zero R L = tt
turn D N (suc k) R L = turn_at D R k (lead_first R R) (over_lead D R L) (head_leads D R L.sub N) (of_lead R R) (λ m M. turn D N k m M)

pub in_order_turn : (D : List Dependency) → TreeForm D → ApartSets D → InTurn (in_order D)
in_order_turn D T A = turn D T.no_return (length D) D (record {
  apart = A;
  lefts = λ d e h g. T.equal_or_apart e.right d.left (in_sets_right D e g) (in_sets_left D d h);
  rights = λ d e h g. T.equal_or_apart e.right d.right (in_sets_right D e g) (in_sets_right D d h);
  once = T.right_once;
  sub = λ d h. h;
})

pub in_order_has : (D : List Dependency) (d : Dependency) → d ∈ D → d ∈ in_order D
in_order_has D d h = in_arrange (length D) D d (omega arith) h

pub of_in_order : (D : List Dependency) (d : Dependency) → d ∈ in_order D → d ∈ D
of_in_order D d h = of_arrange (length D) D d h
