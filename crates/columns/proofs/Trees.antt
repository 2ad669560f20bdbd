-- How closure, tree form and the order of dependencies go from place to place.
use Rattle.std.proofs.Common.{◌≡◌, ℕ, zero, suc, ◌+◌, ◌-◌, ◌<◌, Bool, true, false, cond, not, ◌&&◌, ◌||◌, List, [], ◌∷◌, ◌++◌, length, reverse, get_or, take, drop, Option, None, Some, sym, refl, ap, ◌∙◌, ap₂, add-one, arith}
use Rattle.std.specs.List.{remove}
use Rattle.std.proofs.Math.Bool.{and_assoc, and_comm}
use Rattle.std.proofs.lemmas.List.{append-nil, append_assoc, map-append, length-map, length_push, reverse-append, take_rest}
use Rattle.std.specs.List.{AllWithin, HoldsAt, enumerate_from, list_all, list_any}
use Rattle.std.specs.Option.{MatchOption, unwrap_or}
use Rattle.model.specs.Values.{any, every, tail}
use Rattle.model.specs.ColumnSets as sets
use Rattle.model.specs.Sorts as sorts
use Rattle.model.specs.Closures.{grow, turns}
use Rattle.model.specs.TreeForm.{sets as sets_of, leads_off, right_once, arranged, after_first, lead_first, front, arrange, in_order}
use Rattle.columns.specs.declared.dependencies.Dependency.{Dependency}
use Rattle.columns.proofs.Chains.{after, all_from}
use Rattle.columns.specs.Members.{members, dependency, dependencies, Leader}

-- the fold from the last dependency to the first
pub grow_more : (ys : List Dependency) (x : Dependency) (Z W V : sets.ColumnSet) → W ≡ grow (dependencies (reverse ys)) Z →
    V ≡ cond (sets.within (members x.left) W) (sets.union W (members x.right)) W → V ≡ grow (dependencies (reverse (ys ++ x ∷ []))) Z
grow_more ys x Z W V w v = v ∙ ap (λ U. cond (sets.within (members x.left) U) (sets.union U (members x.right)) U) w ∙ ap (λ l. grow (dependencies l) Z) (sym (reverse-append ys (x ∷ [])))

turns_more : (k : ℕ) (D : List sorts.Dependency) (Z : sets.ColumnSet) → turns (suc k) D Z ≡ grow D (turns k D Z)
turns_more zero D Z = refl
turns_more (suc k) D Z = turns_more k D (grow D Z)

pub not_or : (a b : Bool) → not (a || b) ≡ (not a && not b)
not_or true b = refl
not_or false b = refl

pub turns_push : {A : Type 0} (ys : List A) (x : A) (D : List sorts.Dependency) (Z W V : sets.ColumnSet) → W ≡ turns (length ys) D Z → V ≡ grow D W → V ≡ turns (length (ys ++ x ∷ [])) D Z
turns_push ys x D Z W V w v = v ∙ ap (grow D) w ∙ sym (turns_more (length ys) D Z) ∙ ap (λ k. turns k D Z) (sym (add-one (length ys)) ∙ sym (length_push ys x))

-- what the chains over the dependencies answer
pub none_leads : (D : List sorts.Dependency) (d : sorts.Dependency) → not (any (λ e. sets.same d.left e.right) D) ≡ leads_off D d
none_leads [] d = refl
none_leads (e ∷ D) d = not_or (sets.same d.left e.right) (any (λ e. sets.same d.left e.right) D) ∙ ap₂ (λ a b. not a && b) (and_comm (sets.within d.left e.right) (sets.within e.right d.left)) (none_leads D d)

pub all_sets : (t : sets.ColumnSet → Bool) (l : List Dependency) → list_all (λ d. t (members d.left) && t (members d.right)) l ≡ every t (sets_of (dependencies l))
all_sets t [] = refl
all_sets t (d ∷ l) = and_assoc (t (members d.left)) (t (members d.right)) (list_all (λ d. t (members d.left) && t (members d.right)) l) ∙ ap (λ b. t (members d.left) && (t (members d.right) && b)) (all_sets t l)

pub some_right : (x : sets.ColumnSet) (l : List Dependency) → list_any (λ e. sets.same x (members e.right)) l ≡ any (λ e. sets.same x e.right) (dependencies l)
some_right x [] = refl
some_right x (e ∷ l) = ap (λ b. sets.same x (members e.right) || b) (some_right x l)

abbrev pub no_later_right : List Dependency → ℕ → Dependency → Bool
no_later_right xs i x = not (any (λ e. sets.same (members x.right) e.right) (dependencies (take (length xs - (i + 1)) (drop (i + 1) xs))))

pub rights_once : (xs : List Dependency) → list_all (λ p. no_later_right xs p.0 p.1) (enumerate_from 0 xs) ≡ right_once (dependencies xs)
rights_once xs = all_from (λ l. right_once (dependencies l)) (no_later_right xs) xs
    (λ i x ys e. ap (λ l. not (any (λ d. sets.same (members x.right) d.right) (dependencies l)) && right_once (dependencies ys)) (after i x xs ys e ∙ sym (take_rest xs (i + 1))))
    refl 0 xs refl

abbrev pub leads_rest : List Dependency → ℕ → Dependency → Bool
leads_rest xs i x = leads_off (dependencies (take (length xs - i) (drop i xs))) (dependency x)

pub all_arranged : (xs : List Dependency) → list_all (λ p. leads_rest xs p.0 p.1) (enumerate_from 0 xs) ≡ arranged (dependencies xs)
all_arranged xs = all_from (λ l. arranged (dependencies l)) (leads_rest xs) xs
    (λ i x ys e. ap (λ l. leads_off (dependencies l) (dependency x) && arranged (dependencies ys)) (e ∙ sym (take_rest xs i)))
    refl 0 xs refl

-- the first that leads off, or the last, set before the others
after_led : (D : List sorts.Dependency) (d e : sorts.Dependency) (l m : List sorts.Dependency) → leads_off D d ≡ false → lead_first D l ≡ e ∷ m → lead_first D (d ∷ l) ≡ e ∷ d ∷ m
after_led D d e l m f q = ap (λ b. cond b (d ∷ l) (after_first d (lead_first D l))) f ∙ ap (after_first d) q

pub led_at : (D : List sorts.Dependency) (l : List Dependency) (i : ℕ) → i < length l → ((k : ℕ) (y : Dependency) → k < i → leads_off D (dependency (get_or l k y)) ≡ false) →
    ((y : Dependency) → leads_off D (dependency (get_or l i y)) ≡ true) → (d : Dependency) → lead_first D (dependencies l) ≡ dependency (get_or l i d) ∷ dependencies (remove l i)
led_at D [] i h f t d = absurd (let z : ⊥ = omega arith in z)
led_at D (x ∷ l) zero h f t d = ap (λ b. cond b (dependency x ∷ dependencies l) (after_first (dependency x) (lead_first D (dependencies l)))) (t d)
led_at D (x ∷ l) (suc i) h f t d = after_led D (dependency x) (dependency (get_or l i d)) (dependencies l) (dependencies (remove l i)) (f 0 d (omega arith)) (led_at D l i (omega arith) (λ k y g. f (suc k) y (omega arith)) t d)

pub led_last : (D : List sorts.Dependency) (l : List Dependency) (i : ℕ) → suc i ≡ length l → ((k : ℕ) (y : Dependency) → k < suc i → leads_off D (dependency (get_or l k y)) ≡ false) →
    (d : Dependency) → lead_first D (dependencies l) ≡ dependency (get_or l i d) ∷ dependencies (remove l i)
led_last D [] i h f d = absurd (let z : ⊥ = omega arith in z)
led_last D (x ∷ []) zero h f d = ap (λ b. cond b (dependency x ∷ []) (dependency x ∷ [])) (f 0 d (omega arith))
led_last D (x ∷ []) (suc i) h f d = absurd (let z : ⊥ = omega arith in z)
led_last D (x ∷ y ∷ l) zero h f d = absurd (let z : ⊥ = omega arith in z)
led_last D (x ∷ y ∷ l) (suc i) h f d = after_led D (dependency x) (dependency (get_or (y ∷ l) i d)) (dependencies (y ∷ l)) (dependencies (remove (y ∷ l) i)) (f 0 d (omega arith)) (led_last D (y ∷ l) i (omega arith) (λ k z g. f (suc k) z (omega arith)) d)

abbrev pub leads : List sorts.Dependency → Bool → Dependency → Type 0
leads D b x = leads_off D (dependency x) ≡ b

pub leader_at : (D : List sorts.Dependency) (l : List Dependency) (r : Option ℕ) → 0 < length l →
    MatchOption r (AllWithin (leads D false) l 0 (length l)) (λ i. (i < length l) × HoldsAt (leads D true) l i × AllWithin (leads D false) l 0 i) →
    (d : Dependency) → let i = unwrap_or r (length l - 1) in lead_first D (dependencies l) ≡ dependency (get_or l i d) ∷ dependencies (remove l i)
leader_at D l None h f d = led_last D l (length l - 1) (omega arith) (λ k y g. f k y (omega arith) (omega arith)) d
leader_at D l (Some i) h f d = led_at D l i f.0 (λ k y g. f.2 k y (omega arith) g) f.1 d

-- one dependency more in order
pub arrange_next : (k : ℕ) (D R : List sorts.Dependency) (d : sorts.Dependency) → lead_first D D ≡ d ∷ R → arrange (suc k) D ≡ d ∷ arrange k R
arrange_next k D R d e = ap (λ l. front l ++ arrange k (tail l)) e

pub arrange_more : (ordered ordered' rest rest' : List Dependency) (x : Dependency) (i n n' : ℕ) (E : List sorts.Dependency) → Leader rest i → x ≡ get_or rest i x →
    ordered' ≡ ordered ++ x ∷ [] → rest' ≡ remove rest i → n' + 1 ≡ n → dependencies ordered ++ arrange n (dependencies rest) ≡ E → dependencies ordered' ++ arrange n' (dependencies rest') ≡ E
arrange_more ordered ordered' rest rest' x i n n' E led e o r len inv =
    let D = dependencies rest in
    let R = dependencies (remove rest i) in
    let next : arrange n D ≡ dependency x ∷ arrange n' R = ap (λ k. arrange k D) (sym len ∙ add-one n') ∙ arrange_next n' D R (dependency (get_or rest i x)) (led x) ∙ ap (λ y. dependency y ∷ arrange n' R) (sym e) in
    ap₂ (λ a b. dependencies a ++ arrange n' (dependencies b)) o r ∙ ap (λ l. l ++ arrange n' R) (map-append dependency ordered (x ∷ [])) ∙ append_assoc (dependencies ordered) (dependency x ∷ []) (arrange n' R)
    ∙ ap (λ l. dependencies ordered ++ l) (sym next) ∙ inv

pub arrange_all : (xs ys : List Dependency) (n : ℕ) → xs ≡ ys → n ≡ length ys → arrange n (dependencies xs) ≡ in_order (dependencies ys)
arrange_all xs ys n e h = ap₂ (λ k l. arrange k (dependencies l)) (h ∙ sym (length-map ys dependency)) e

pub arrange_none : (ordered rest : List Dependency) (n : ℕ) (E : List sorts.Dependency) → n ≡ 0 → dependencies ordered ++ arrange n (dependencies rest) ≡ E → dependencies ordered ≡ E
arrange_none ordered rest n E z inv = sym (append-nil (dependencies ordered)) ∙ ap (λ k. dependencies ordered ++ arrange k (dependencies rest)) (sym z) ∙ inv
