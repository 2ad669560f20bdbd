-- The order of rows is total, and an ascending relation is known by its members.
use Rattle.std.proofs.Common.{◌≡◌, ℕ, suc, ◌≤◌, Bool, true, false, cond, ◌⊎◌, List, [], ◌∷◌, length, sym, refl, ap, ◌∙◌, subst, ap₂, inl, inr, arith}
use Prim.Native.Nat.{compare, Ordering}
use Rattle.model.specs.Orders.{Ascending, Below, BelowFirst, Order, Total, by_bytes, compare_tuples, insert, insert_at, lexical, relation_of, then_by}
use Rattle.model.specs.Values.{Relation, Tuple, Value, filter, num, text, ◌∈◌}
use Rattle.laws.specs.Orders.{RelationExact, RelationUnique}
use Rattle.laws.proofs.Members.{of_filter}

abbrev LtCode : Ordering → Type 0
LtCode Ordering.lt = Unit {0}
LtCode Ordering.eq = ⊥
LtCode Ordering.gt = ⊥

pub eq≢lt : Ordering.eq ≡ Ordering.lt → ⊥
eq≢lt e = subst LtCode (sym e) tt

pub gt≢lt : Ordering.gt ≡ Ordering.lt → ⊥
gt≢lt e = subst LtCode (sym e) tt

nat_same : (a b : ℕ) → compare a b ≡ Ordering.eq → a ≡ b
nat_same a b e = grind arith

nat_self : (a : ℕ) → compare a a ≡ Ordering.eq
nat_self a = grind arith

nat_chain : (a b d : ℕ) → compare a b ≡ Ordering.lt → compare b d ≡ Ordering.lt → compare a d ≡ Ordering.lt
nat_chain a b d e f = grind arith

nat_turn : (a b : ℕ) → compare a b ≡ Ordering.gt → compare b a ≡ Ordering.lt
nat_turn a b e = grind arith

pub nat_order : Total compare
nat_order = record { same = nat_same; self = nat_self; chain = nat_chain; turn = nat_turn }

module _ {A : Type 0} (c : A → A → Ordering) (O : Total c) where
  lex_same_at : (out : Ordering) (a b : A) (s t : List A) → c a b ≡ out → then_by out (lexical c s t) ≡ Ordering.eq → (lexical c s t ≡ Ordering.eq → s ≡ t) → ◌≡◌ {A = List A} (a ∷ s) (b ∷ t)
  lex_same_at Ordering.lt a b s t e h ih = absurd (eq≢lt (sym h))
  lex_same_at Ordering.eq a b s t e h ih = ap₂ {C = List A} ◌∷◌ (O.same a b e) (ih h)
  lex_same_at Ordering.gt a b s t e h ih = cc

  lex_same : (s t : List A) → lexical c s t ≡ Ordering.eq → s ≡ t
  lex_same [] [] e = refl
  lex_same [] (b ∷ t) e = absurd (eq≢lt (sym e))
  lex_same (a ∷ s) [] e = cc
  lex_same (a ∷ s) (b ∷ t) e = lex_same_at (c a b) a b s t refl e (lex_same s t)

  lex_self : (s : List A) → lexical c s s ≡ Ordering.eq
  lex_self [] = refl
  lex_self (a ∷ s) = ap (λ out. then_by out (lexical c s s)) (O.self a) ∙ lex_self s

  lex_turn_at : (out : Ordering) (a b : A) (s t : List A) → c a b ≡ out → then_by out (lexical c s t) ≡ Ordering.gt → (lexical c s t ≡ Ordering.gt → lexical c t s ≡ Ordering.lt) → then_by (c b a) (lexical c t s) ≡ Ordering.lt
  lex_turn_at Ordering.lt a b s t e h ih = cc
  lex_turn_at Ordering.eq a b s t e h ih =
      let p : c b a ≡ Ordering.eq = subst (λ x. c b x ≡ Ordering.eq) (sym (O.same a b e)) (O.self b) in
      ap (λ out. then_by out (lexical c t s)) p ∙ ih h
  lex_turn_at Ordering.gt a b s t e h ih = ap (λ out. then_by out (lexical c t s)) (O.turn a b e)

  lex_turn : (s t : List A) → lexical c s t ≡ Ordering.gt → lexical c t s ≡ Ordering.lt
  lex_turn [] [] e = cc
  lex_turn [] (b ∷ t) e = cc
  lex_turn (a ∷ s) [] e = refl
  lex_turn (a ∷ s) (b ∷ t) e = lex_turn_at (c a b) a b s t refl e (lex_turn s t)

  lex_chain_at : (out out' : Ordering) (a b d : A) (s t u : List A) → c a b ≡ out → c b d ≡ out' → then_by out (lexical c s t) ≡ Ordering.lt → then_by out' (lexical c t u) ≡ Ordering.lt →
      (lexical c s t ≡ Ordering.lt → lexical c t u ≡ Ordering.lt → lexical c s u ≡ Ordering.lt) → then_by (c a d) (lexical c s u) ≡ Ordering.lt
  lex_chain_at Ordering.lt Ordering.lt a b d s t u e f h k ih = ap (λ out. then_by out (lexical c s u)) (O.chain a b d e f)
  lex_chain_at Ordering.lt Ordering.eq a b d s t u e f h k ih = ap (λ out. then_by out (lexical c s u)) (subst (λ x. c a x ≡ Ordering.lt) (O.same b d f) e)
  lex_chain_at Ordering.lt Ordering.gt a b d s t u e f h k ih = absurd (gt≢lt k)
  lex_chain_at Ordering.eq Ordering.lt a b d s t u e f h k ih = ap (λ out. then_by out (lexical c s u)) (subst (λ x. c x d ≡ Ordering.lt) (sym (O.same a b e)) f)
  lex_chain_at Ordering.eq Ordering.eq a b d s t u e f h k ih = ap (λ out. then_by out (lexical c s u)) (subst (λ x. c a x ≡ Ordering.eq) (O.same b d f) e) ∙ ih h k
  lex_chain_at Ordering.eq Ordering.gt a b d s t u e f h k ih = absurd (gt≢lt k)
  lex_chain_at Ordering.gt out' a b d s t u e f h k ih = absurd (gt≢lt h)

  lex_chain : (s t u : List A) → lexical c s t ≡ Ordering.lt → lexical c t u ≡ Ordering.lt → lexical c s u ≡ Ordering.lt
  lex_chain [] [] u e f = f
  lex_chain [] (b ∷ t) [] e f = absurd (gt≢lt f)
  lex_chain [] (b ∷ t) (d ∷ u) e f = refl
  lex_chain (a ∷ s) [] u e f = absurd (gt≢lt e)
  lex_chain (a ∷ s) (b ∷ t) [] e f = absurd (gt≢lt f)
  lex_chain (a ∷ s) (b ∷ t) (d ∷ u) e f = lex_chain_at (c a b) (c b d) a b d s t u refl refl e f (lex_chain s t u)

  pub lexical_order : Total (lexical c)
  lexical_order = record { same = lex_same; self = lex_self; chain = lex_chain; turn = lex_turn }

pub text_order : Total (lexical compare)
text_order = lexical_order compare nat_order

value_same : (a b : Value) → by_bytes a b ≡ Ordering.eq → a ≡ b
value_same (num m) (num n) e = ap num (nat_same m n e)
value_same (num m) (text t) e = absurd (eq≢lt (sym e))
value_same (text s) (num n) e = cc
value_same (text s) (text t) e = ap text (text_order.same s t e)

value_self : (a : Value) → by_bytes a a ≡ Ordering.eq
value_self (num m) = nat_self m
value_self (text s) = text_order.self s

value_chain : (a b d : Value) → by_bytes a b ≡ Ordering.lt → by_bytes b d ≡ Ordering.lt → by_bytes a d ≡ Ordering.lt
value_chain (num m) (num n) (num k) e f = nat_chain m n k e f
value_chain (num m) (num n) (text u) e f = refl
value_chain (num m) (text t) (num k) e f = absurd (gt≢lt f)
value_chain (num m) (text t) (text u) e f = refl
value_chain (text s) (num n) d e f = absurd (gt≢lt e)
value_chain (text s) (text t) (num k) e f = absurd (gt≢lt f)
value_chain (text s) (text t) (text u) e f = text_order.chain s t u e f

value_turn : (a b : Value) → by_bytes a b ≡ Ordering.gt → by_bytes b a ≡ Ordering.lt
value_turn (num m) (num n) e = nat_turn m n e
value_turn (num m) (text t) e = cc
value_turn (text s) (num n) e = refl
value_turn (text s) (text t) e = text_order.turn s t e

pub value_order : Total by_bytes
value_order = record { same = value_same; self = value_self; chain = value_chain; turn = value_turn }

module _ (o : Order) (O : Total o) where
  pub tuple_order : Total (compare_tuples o)
  tuple_order = lexical_order o O

  -- Ascending relations.
  pub below_all : (s : Tuple) (R : Relation) → BelowFirst o s R → Ascending o R → (t : Tuple) → t ∈ R → Below o s t
  below_all s [] b a t h = absurd h
  below_all s (r ∷ R) b a t (inl e) = subst (λ x. Below o s x) (sym e) b
  below_all s (r ∷ R) b a t (inr h) = tuple_order.chain s r t b (below_all r R a.0 a.1 t h)

  not_below_self : (s : Tuple) → Below o s s → ⊥
  not_below_self s b = eq≢lt (sym (tuple_order.self s) ∙ b)

  below_each : (s : Tuple) (R : Relation) → ((t : Tuple) → t ∈ R → Below o s t) → BelowFirst o s R
  below_each s [] f = tt
  below_each s (r ∷ R) f = f r (inl refl)

  -- two ascending relations with the same members are equal
  same_heads : (out : Ordering) (s t : Tuple) (R Q : Relation) → compare_tuples o s t ≡ out → Ascending o (s ∷ R) → Ascending o (t ∷ Q) → s ∈ (t ∷ Q) → t ∈ (s ∷ R) → s ≡ t
  same_heads Ordering.lt s t R Q e a b (inl h) k = h
  same_heads Ordering.lt s t R Q e a b (inr h) k = absurd (not_below_self s (tuple_order.chain s t s e (below_all t Q b.0 b.1 s h)))
  same_heads Ordering.eq s t R Q e a b h k = tuple_order.same s t e
  same_heads Ordering.gt s t R Q e a b h (inl k) = sym k
  same_heads Ordering.gt s t R Q e a b h (inr k) = absurd (not_below_self t (tuple_order.chain t s t (tuple_order.turn s t e) (below_all s R a.0 a.1 t k)))

  tail_member : (s t : Tuple) (R Q : Relation) → s ≡ t → Ascending o (s ∷ R) → ((x : Tuple) → x ∈ (s ∷ R) → x ∈ (t ∷ Q)) → (x : Tuple) → x ∈ R → x ∈ Q
  tail_member s t R Q e a f x h = elim (f x (inr h)) [
    | inl k ↦ absurd (not_below_self s (subst (λ y. Below o s y) (k ∙ sym e) (below_all s R a.0 a.1 x h)))
    | inr k ↦ k
  ]

  pub same_members : (R Q : Relation) → Ascending o R → Ascending o Q → ((x : Tuple) → x ∈ R → x ∈ Q) → ((x : Tuple) → x ∈ Q → x ∈ R) → R ≡ Q
  same_members [] [] a b f g = refl
  same_members [] (t ∷ Q) a b f g = absurd (g t (inl refl))
  same_members (s ∷ R) [] a b f g = absurd (f s (inl refl))
  same_members (s ∷ R) (t ∷ Q) a b f g =
      let e : s ≡ t = same_heads (compare_tuples o s t) s t R Q refl a b (f s (inl refl)) (g t (inl refl)) in
      ap₂ {C = Relation} ◌∷◌ e (same_members R Q a.1 b.1 (tail_member s t R Q e a f) (tail_member t s Q R (sym e) b g))

  -- insertion and sorting
  in_insert_at : (out : Ordering) (s t : Tuple) (R R' : Relation) → compare_tuples o s t ≡ out → (x : Tuple) → ((x ≡ s) ⊎ (x ∈ R) → x ∈ R') → (x ≡ s) ⊎ ((x ≡ t) ⊎ (x ∈ R)) → x ∈ insert_at out s t R R'
  in_insert_at Ordering.lt s t R R' e x ih h = h
  in_insert_at Ordering.eq s t R R' e x ih (inl h) = inl (h ∙ tuple_order.same s t e)
  in_insert_at Ordering.eq s t R R' e x ih (inr h) = h
  in_insert_at Ordering.gt s t R R' e x ih (inl h) = inr (ih (inl h))
  in_insert_at Ordering.gt s t R R' e x ih (inr (inl h)) = inl h
  in_insert_at Ordering.gt s t R R' e x ih (inr (inr h)) = inr (ih (inr h))

  of_insert_at : (out : Ordering) (s t : Tuple) (R R' : Relation) (x : Tuple) → (x ∈ R' → (x ≡ s) ⊎ (x ∈ R)) → x ∈ insert_at out s t R R' → (x ≡ s) ⊎ ((x ≡ t) ⊎ (x ∈ R))
  of_insert_at Ordering.lt s t R R' x ih h = h
  of_insert_at Ordering.eq s t R R' x ih h = inr h
  of_insert_at Ordering.gt s t R R' x ih (inl h) = inr (inl h)
  of_insert_at Ordering.gt s t R R' x ih (inr h) = elim (ih h) [ inl g ↦ inl g | inr g ↦ inr (inr g) ]

  in_insert : (s : Tuple) (R : Relation) (x : Tuple) → (x ≡ s) ⊎ (x ∈ R) → x ∈ insert o s R
  in_insert s [] x h = h
  in_insert s (t ∷ R) x h = in_insert_at (compare_tuples o s t) s t R (insert o s R) refl x (in_insert s R x) h

  of_insert : (s : Tuple) (R : Relation) (x : Tuple) → x ∈ insert o s R → (x ≡ s) ⊎ (x ∈ R)
  of_insert s [] x h = h
  of_insert s (t ∷ R) x h = of_insert_at (compare_tuples o s t) s t R (insert o s R) x (of_insert s R x) h

  ascending_insert_at : (out : Ordering) (s t : Tuple) (R R' : Relation) → compare_tuples o s t ≡ out → Ascending o (t ∷ R) → Ascending o R' → ((x : Tuple) → x ∈ R' → (x ≡ s) ⊎ (x ∈ R)) → Ascending o (insert_at out s t R R')
  ascending_insert_at Ordering.lt s t R R' e a b f = (e, a)
  ascending_insert_at Ordering.eq s t R R' e a b f = a
  ascending_insert_at Ordering.gt s t R R' e a b f = (below_each t R' (λ x h. go x (f x h)), b)
    where
      go : (x : Tuple) → (x ≡ s) ⊎ (x ∈ R) → Below o t x
      go x (inl h) = subst (λ y. Below o t y) (sym h) (tuple_order.turn s t e)
      go x (inr h) = below_all t R a.0 a.1 x h

  ascending_insert : (s : Tuple) (R : Relation) → Ascending o R → Ascending o (insert o s R)
  ascending_insert s [] a = (tt, tt)
  ascending_insert s (t ∷ R) a = ascending_insert_at (compare_tuples o s t) s t R (insert o s R) refl a (ascending_insert s R a.1) (of_insert s R)

  pub ascending_relation : (l : List Tuple) → Ascending o (relation_of o l)
  ascending_relation [] = tt
  ascending_relation (t ∷ l) = ascending_insert t (relation_of o l) (ascending_relation l)

  pub in_relation : (l : List Tuple) (x : Tuple) → x ∈ l → x ∈ relation_of o l
  in_relation [] x h = h
  in_relation (t ∷ l) x (inl e) = in_insert t (relation_of o l) x (inl e)
  in_relation (t ∷ l) x (inr h) = in_insert t (relation_of o l) x (inr (in_relation l x h))

  pub of_relation : (l : List Tuple) (x : Tuple) → x ∈ relation_of o l → x ∈ l
  of_relation [] x h = h
  of_relation (t ∷ l) x h = elim (of_insert t (relation_of o l) x h) [ inl e ↦ inl e | inr g ↦ inr (of_relation l x g) ]

  length_insert_at : (out : Ordering) (s t : Tuple) (R R' : Relation) → length R' ≤ suc (length R) → length (insert_at out s t R R') ≤ suc (suc (length R))
  length_insert_at Ordering.lt s t R R' h = omega arith
  length_insert_at Ordering.eq s t R R' h = omega arith
  length_insert_at Ordering.gt s t R R' h = omega arith

  length_insert : (s : Tuple) (R : Relation) → length (insert o s R) ≤ suc (length R)
  length_insert s [] = omega arith
  length_insert s (t ∷ R) = length_insert_at (compare_tuples o s t) s t R (insert o s R) (length_insert s R)

  pub length_relation : (l : List Tuple) → length (relation_of o l) ≤ length l
  length_relation [] = omega arith
  length_relation (t ∷ l) = omega (arith, length_insert t (relation_of o l), length_relation l)

  -- keeping some rows
  ascending_filter_at : (p : Tuple → Bool) (s : Tuple) (R : Relation) (x : Bool) → Ascending o (s ∷ R) → Ascending o (filter p R) → Ascending o (cond x (s ∷ filter p R) (filter p R))
  ascending_filter_at p s R true a b = (below_each s (filter p R) (λ t h. below_all s R a.0 a.1 t (of_filter p t R h).0), b)
  ascending_filter_at p s R false a b = b

  pub ascending_filter : (p : Tuple → Bool) (R : Relation) → Ascending o R → Ascending o (filter p R)
  ascending_filter p [] a = tt
  ascending_filter p (s ∷ R) a = ascending_filter_at p s R (p s) a (ascending_filter p R a.1)

length_filter_at : {A : Type 0} (p : A → Bool) (s : A) (R : List A) (x : Bool) → length (filter p R) ≤ length R → length (cond x (s ∷ filter p R) (filter p R)) ≤ suc (length R)
length_filter_at p s R true h = omega arith
length_filter_at p s R false h = omega arith

pub length_filter : {A : Type 0} (p : A → Bool) (R : List A) → length (filter p R) ≤ length R
length_filter p [] = omega arith
length_filter p (s ∷ R) = length_filter_at p s R (p s) (length_filter p R)

pub relation_exact : RelationExact
relation_exact o O l = (ascending_relation o O l, λ t. (of_relation o O l t, in_relation o O l t))

pub relation_unique : RelationUnique
relation_unique o O R Q a b f = same_members o O R Q a b (λ t. (f t).0) (λ t. (f t).1)
