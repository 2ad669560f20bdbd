-- The test of tree form.
use Rattle.std.proofs.Common.{◌≡◌, ℕ, zero, suc, ◌<◌, ◌≤◌, Bool, true, not, ◌&&◌, ◌||◌, List, [], ◌∷◌, ◌++◌, length, refl, ap, ◌∙◌, subst, inl, inr, arith}
use Rattle.model.specs.ColumnSets.{ColumnSet, Same, apart, same}
use Rattle.model.specs.Facts.{and_both, or_left, or_right}
use Rattle.model.specs.Sorts.{Dependency}
use Rattle.model.specs.TreeForm.{Leads, RightOnce, arrange, arranged, front, in_order, lead_first, leads_off, more, one, right_once, sets}
use Rattle.model.specs.Values.{any, every, tail, ◌∈◌}
use Rattle.laws.specs.Closures.{TreeTest}
use Rattle.laws.proofs.Cells.{apart_is, is_apart, is_same_set, or_cases, same_is}
use Rattle.laws.proofs.Members.{and_left, and_right, bool_cases, clash, in_any, not_false, not_true, of_any}
use Rattle.laws.proofs.Turns.{HeadLeads, head_leads, in_order_has, leads_off_is, of_arrange, of_lead, same_trans}

pub every_is : {A : Type 0} (p : A → Bool) (l : List A) → every p l ≡ true → (a : A) → a ∈ l → p a ≡ true
every_is p [] e a h = absurd h
every_is p (b ∷ l) e a (inl g) = ap p g ∙ and_left (p b) (every p l) e
every_is p (b ∷ l) e a (inr h) = every_is p l (and_right (p b) (every p l) e) a h

pub is_every : {A : Type 0} (p : A → Bool) (l : List A) → ((a : A) → a ∈ l → p a ≡ true) → every p l ≡ true
is_every p [] f = refl
is_every p (b ∷ l) f = and_both (p b) (every p l) (f b (inl refl)) (is_every p l (λ a h. f a (inr h)))

-- no set is the right set of two
once_is : (D : List Dependency) → right_once D ≡ true → RightOnce D
once_is [] e = tt
once_is (d ∷ D) e = (
  (λ c h s. clash (any (λ x. same d.right x.right) D) (in_any (λ x. same d.right x.right) c D h (is_same_set d.right c.right s))
      (not_true (any (λ x. same d.right x.right) D) (and_left (not (any (λ x. same d.right x.right) D)) (right_once D) e))),
  once_is D (and_right (not (any (λ x. same d.right x.right) D)) (right_once D) e),
)

is_once : (D : List Dependency) → RightOnce D → right_once D ≡ true
is_once [] out = refl
is_once (d ∷ D) out = and_both (not (any (λ x. same d.right x.right) D)) (right_once D)
    (not_false (any (λ x. same d.right x.right) D) (bool_cases (any (λ x. same d.right x.right) D)
    (λ e. let w = of_any (λ x. same d.right x.right) D e in absurd (out.0 w.0 w.1 (same_is d.right w.0.right w.2))) (λ e. e)))
    (is_once D out.1)

-- an arranged list leads nowhere back: the places in it rise along every way
index : (l : List Dependency) (d : Dependency) → d ∈ l → ℕ
index [] d h = zero
index (e ∷ l) d (inl p) = zero
index (e ∷ l) d (inr h) = suc (index l d h)

rises : (l : List Dependency) → arranged l ≡ true → (d e : Dependency) (h : d ∈ l) (g : e ∈ l) → Same d.right e.left → index l d h < index l e g
unfolding index
rises [] t d e h g s = absurd h
rises (x ∷ l) t d e h (inl q) s = absurd (leads_off_is (x ∷ l) x (and_left (leads_off (x ∷ l) x) (arranged l) t) d h (subst (λ y. Same d.right y.left) q s))
rises (x ∷ l) t d e (inl p) (inr g) s = omega arith
rises (x ∷ l) t d e (inr h) (inr g) s = omega (arith, rises l (and_right (leads_off (x ∷ l) x) (arranged l) t) d e h g s)

record Rise (l : List Dependency) (X Z : ColumnSet) : Type 0 where
  first_dep : Dependency
  last_dep : Dependency
  first_in : first_dep ∈ l
  last_in : last_dep ∈ l
  begins : Same X first_dep.left
  ends : Same last_dep.right Z
  no_fall : index l first_dep first_in ≤ index l last_dep last_in

rise : (D l : List Dependency) → ((d : Dependency) → d ∈ D → d ∈ l) → arranged l ≡ true → (X Z : ColumnSet) → Leads D X Z → Rise l X Z
rise D l f t X Z (one {X = X'} {Z = Z'} d h s u) = record { first_dep = d; last_dep = d; first_in = f d h; last_in = f d h; begins = s; ends = u; no_fall = omega arith }
rise D l f t X Z (more {X = X'} {Y = Y'} {Z = Z'} p q) =
    let v = rise D l f t X' Y' p in
    let w = rise D l f t Y' Z' q in
    record {
      first_dep = v.first_dep;
      last_dep = w.last_dep;
      first_in = v.first_in;
      last_in = w.last_in;
      begins = v.begins;
      ends = w.ends;
      no_fall = omega (arith, v.no_fall, w.no_fall, rises l t v.last_dep w.first_dep v.last_in w.first_in (same_trans v.last_dep.right Y' w.first_dep.left v.ends w.begins));
    }

never : (D l : List Dependency) → ((d : Dependency) → d ∈ D → d ∈ l) → arranged l ≡ true → (X : ColumnSet) → Leads D X X → ⊥
never D l f t X p =
    let v = rise D l f t X X p in
    omega (arith, v.no_fall, rises l t v.last_dep v.first_dep v.last_in v.first_in (same_trans v.last_dep.right X v.first_dep.left v.ends v.begins))

-- and where nothing leads back, the list is arranged
is_leading : (D : List Dependency) (d : Dependency) → ((e : Dependency) → e ∈ D → Same e.right d.left → ⊥) → leads_off D d ≡ true
is_leading [] d f = refl
is_leading (e ∷ D) d f = and_both (not (same e.right d.left)) (leads_off D d)
    (not_false (same e.right d.left) (bool_cases (same e.right d.left) (λ t. absurd (f e (inl refl) (same_is e.right d.left t))) (λ t. t)))
    (is_leading D d (λ x h. f x (inr h)))

arranged_at : (R : List Dependency) (k : ℕ) (l : List Dependency) → HeadLeads R l → ((x : Dependency) → x ∈ l → x ∈ R) → ((m : List Dependency) → ((x : Dependency) → x ∈ m → x ∈ l) → arranged (arrange k m) ≡ true) → arranged (front l ++ arrange k (tail l)) ≡ true
arranged_at R k [] H mem rec = rec [] (λ x h. h)
arranged_at R k (d ∷ l) H mem rec = and_both (leads_off (d ∷ arrange k l) d) (arranged (arrange k l))
    (is_leading (d ∷ arrange k l) d (λ e h s. leads_off_is R d H e (elim h [ inl p ↦ mem e (inl p) | inr g ↦ mem e (inr (of_arrange k l e g)) ]) s))
    (rec l (λ x h. inr h))

arranges : (D : List Dependency) → ((X : ColumnSet) → Leads D X X → ⊥) → (k : ℕ) (R : List Dependency) → ((d : Dependency) → d ∈ R → d ∈ D) → arranged (arrange k R) ≡ true
arranges D N zero R f = refl
arranges D N (suc k) R f = arranged_at R k (lead_first R R) (head_leads D R f N) (of_lead R R) (λ m g. arranges D N k m (λ d h. f d (of_lead R R d (g d h))))

pub tree_test : TreeTest
tree_test D = (
  λ T.
      and_both pairs_apart rests
      (is_every (λ X. every (λ Y. same X Y || apart X Y) (sets D)) (sets D) (λ X h. is_every (λ Y. same X Y || apart X Y) (sets D) (λ Y g. elim (T.equal_or_apart X Y h g) [
        | inl s ↦ or_left (same X Y) (apart X Y) (is_same_set X Y s)
        | inr a ↦ or_right (same X Y) (apart X Y) (is_apart X Y a)
      ])))
      (and_both (right_once D) (arranged (in_order D)) (is_once D T.right_once) (arranges D T.no_return (length D) D (λ d h. h))),
  λ e. record {
    equal_or_apart = λ X Y h g. elim (or_cases (same X Y) (apart X Y) (every_is (λ Y. same X Y || apart X Y) (sets D) (every_is (λ X. every (λ Y. same X Y || apart X Y) (sets D)) (sets D) (and_left pairs_apart rests e) X h) Y g)) [
      | inl s ↦ inl (same_is X Y s)
      | inr a ↦ inr (apart_is X Y a)
    ];
    right_once = once_is D (and_left (right_once D) (arranged (in_order D)) (and_right pairs_apart rests e));
    no_return = never D (in_order D) (in_order_has D) (and_right (right_once D) (arranged (in_order D)) (and_right pairs_apart rests e));
  },
)
  where
    pairs_apart : Bool
    pairs_apart = every (λ X. every (λ Y. same X Y || apart X Y) (sets D)) (sets D)

    rests : Bool
    rests = right_once D && arranged (in_order D)
