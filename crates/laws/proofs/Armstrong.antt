-- Closure is the least closed set, and is what Armstrong's axioms derive.
use Rattle.std.proofs.Common.{◌≡◌, ℕ, zero, suc, ◌<◌, ◌≤◌, Bool, true, false, cond, not, ◌&&◌, List, [], ◌∷◌, length, sym, refl, subst, inl, inr, true≢false, arith}
use mathlib.Core.Bool.{false≢true}
use Rattle.model.specs.Closures.{Derives, augmentation, closure, given, grow, reflexivity, transitivity, turns}
use Rattle.model.specs.ColumnSets.{ColumnSet, Within, union, within}
use Rattle.model.specs.Facts.{and_both, in_union_left, in_union_right}
use Rattle.model.specs.Sorts.{Dependency}
use Rattle.model.specs.Values.{any, ◌∈◌}
use Rattle.laws.specs.Closures.{ArmstrongSound, ClosureDerives, ClosureIsLeast}
use Rattle.laws.proofs.Cells.{agree_within, is_within, of_union, within_is}
use Rattle.laws.proofs.Members.{and_left, and_right, bool_cases, clash, in_any, not_false, not_true, of_any}

within_trans : (X Y Z : ColumnSet) → Within X Y → Within Y Z → Within X Z
within_trans X Y Z a b i h = b i (a i h)

-- one turn
grow_at_has : (d : Dependency) (W : ColumnSet) (b : Bool) → Within W (cond b (union W d.right) W)
grow_at_has d W true i h = in_union_left W d.right i h
grow_at_has d W false i h = h

grow_has : (D : List Dependency) (Z : ColumnSet) → Within Z (grow D Z)
grow_has [] Z i h = h
grow_has (d ∷ D) Z i h = grow_at_has d (grow D Z) (within d.left (grow D Z)) i (grow_has D Z i h)

grow_at_fires : (d : Dependency) (W : ColumnSet) (b : Bool) → b ≡ true → Within d.right (cond b (union W d.right) W)
grow_at_fires d W true e = in_union_right W d.right
grow_at_fires d W false e = absurd (false≢true e)

grow_fires : (D : List Dependency) (Z : ColumnSet) (d : Dependency) → d ∈ D → Within d.left Z → Within d.right (grow D Z)
grow_fires [] Z d h w = absurd h
grow_fires (e ∷ D) Z d (inl p) w = subst (λ x. Within x.right (grow (e ∷ D) Z)) (sym p)
    (grow_at_fires e (grow D Z) (within e.left (grow D Z)) (is_within e.left (grow D Z) (within_trans e.left Z (grow D Z) (subst (λ x. Within x.left Z) p w) (grow_has D Z))))
grow_fires (e ∷ D) Z d (inr h) w = within_trans d.right (grow D Z) (grow (e ∷ D) Z) (grow_fires D Z d h w) (grow_at_has e (grow D Z) (within e.left (grow D Z)))

abbrev Follows : List Dependency → ColumnSet → Type 0
Follows D Z = (d : Dependency) → d ∈ D → Within d.left Z → Within d.right Z

grow_at_least : (d : Dependency) (V W : ColumnSet) (b : Bool) → within d.left V ≡ b → (Within d.left W → Within d.right W) → Within V W → Within (cond b (union V d.right) V) W
grow_at_least d V W true e f a i h = elim (of_union V d.right i h) [ inl g ↦ a i g | inr g ↦ f (within_trans d.left V W (within_is d.left V e) a) i g ]
grow_at_least d V W false e f a i h = a i h

grow_least : (D : List Dependency) (Z W : ColumnSet) → Follows D W → Within Z W → Within (grow D Z) W
grow_least [] Z W f a = a
grow_least (d ∷ D) Z W f a = grow_at_least d (grow D Z) W (within d.left (grow D Z)) refl (f d (inl refl)) (grow_least D Z W (λ e h. f e (inr h)) a)

turns_has : (k : ℕ) (D : List Dependency) (Z : ColumnSet) → Within Z (turns k D Z)
turns_has zero D Z i h = h
turns_has (suc k) D Z i h = turns_has k D (grow D Z) i (grow_has D Z i h)

turns_least : (k : ℕ) (D : List Dependency) (Z W : ColumnSet) → Follows D W → Within Z W → Within (turns k D Z) W
turns_least zero D Z W f a = a
turns_least (suc k) D Z W f a = turns_least k D (grow D Z) W f (grow_least D Z W f a)

-- the dependencies whose right sets are still missing
open_at : Bool → ℕ → ℕ
open_at true n = n
open_at false n = suc n

open_in : List Dependency → ColumnSet → ℕ
open_in [] Z = zero
open_in (d ∷ D) Z = open_at (within d.right Z) (open_in D Z)

open_at_le : (a b : Bool) (m n : ℕ) → (a ≡ true → b ≡ true) → m ≤ n → open_at b m ≤ open_at a n
unfolding open_at
open_at_le true true m n f h = h
open_at_le true false m n f h = absurd (false≢true (f refl))
open_at_le false true m n f h = omega arith
open_at_le false false m n f h = omega arith

more_within : (X Z W : ColumnSet) → Within Z W → within X Z ≡ true → within X W ≡ true
more_within X Z W a e = is_within X W (within_trans X Z W (within_is X Z e) a)

open_le : (D : List Dependency) (Z W : ColumnSet) → Within Z W → open_in D W ≤ open_in D Z
unfolding open_in
open_le [] Z W a = omega arith
open_le (d ∷ D) Z W a = open_at_le (within d.right Z) (within d.right W) (open_in D W) (open_in D Z) (more_within d.right Z W a) (open_le D Z W a)

open_at_lt : (a b : Bool) (m n : ℕ) → (a ≡ true → b ≡ true) → m < n → open_at b m < open_at a n
unfolding open_at
open_at_lt true true m n f h = h
open_at_lt true false m n f h = absurd (false≢true (f refl))
open_at_lt false true m n f h = omega arith
open_at_lt false false m n f h = omega arith

open_at_new : (a b : Bool) (m n : ℕ) → a ≡ false → b ≡ true → m ≤ n → open_at b m < open_at a n
unfolding open_at
open_at_new true b m n e f h = absurd (true≢false e)
open_at_new false true m n e f h = omega arith
open_at_new false false m n e f h = absurd (false≢true f)

open_lt : (D : List Dependency) (Z W : ColumnSet) → Within Z W → (d : Dependency) → d ∈ D → within d.right Z ≡ false → within d.right W ≡ true → open_in D W < open_in D Z
unfolding open_in
open_lt [] Z W a d h e f = absurd h
open_lt (c ∷ D) Z W a d (inl p) e f = open_at_new (within c.right Z) (within c.right W) (open_in D W) (open_in D Z) (subst (λ x. within x.right Z ≡ false) p e) (subst (λ x. within x.right W ≡ true) p f) (open_le D Z W a)
open_lt (c ∷ D) Z W a d (inr h) e f = open_at_lt (within c.right Z) (within c.right W) (open_in D W) (open_in D Z) (more_within c.right Z W a) (open_lt D Z W a d h e f)

open_most_at : (b : Bool) (m n : ℕ) → m ≤ n → open_at b m ≤ suc n
unfolding open_at
open_most_at true m n h = omega arith
open_most_at false m n h = omega arith

open_most : (D : List Dependency) (Z : ColumnSet) → open_in D Z ≤ length D
unfolding open_in
open_most [] Z = omega arith
open_most (d ∷ D) Z = open_most_at (within d.right Z) (open_in D Z) (length D) (open_most D Z)

-- some dependency whose left set is whole and whose right set is not
lacking : ColumnSet → Dependency → Bool
lacking Z d = within d.left Z && not (within d.right Z)

follows_of : (D : List Dependency) (Z : ColumnSet) → any (lacking Z) D ≡ false → Follows D Z
unfolding lacking
follows_of D Z e d h w = bool_cases (within d.right Z) (within_is d.right Z)
    (λ n. clash (any (lacking Z) D) (in_any (lacking Z) d D h (and_both (within d.left Z) (not (within d.right Z)) (is_within d.left Z w) (not_false (within d.right Z) n))) e)

follows_stays : (k : ℕ) (D : List Dependency) (Z : ColumnSet) → Follows D Z → Follows D (turns k D Z)
follows_stays k D Z f d h w = within_trans d.right Z (turns k D Z) (f d h (within_trans d.left (turns k D Z) Z w (turns_least k D Z Z f (λ i g. g)))) (turns_has k D Z)

turns_follow_at : (k : ℕ) (D : List Dependency) (Z : ColumnSet) → open_in D Z ≤ k → ((d : Dependency) × (d ∈ D) × (lacking Z d ≡ true)) → open_in D (grow D Z) < open_in D Z
unfolding lacking
turns_follow_at k D Z h w =
    let d = w.0 in
    open_lt D Z (grow D Z) (grow_has D Z) d w.1 (not_true (within d.right Z) (and_right (within d.left Z) (not (within d.right Z)) w.2))
    (is_within d.right (grow D Z) (grow_fires D Z d w.1 (within_is d.left Z (and_left (within d.left Z) (not (within d.right Z)) w.2))))

turns_follow : (k : ℕ) (D : List Dependency) (Z : ColumnSet) → open_in D Z ≤ k → Follows D (turns k D Z)
turns_follow zero D Z h = bool_cases (any (lacking Z) D)
    (λ e. let z : ⊥ = omega (arith, turns_follow_at zero D Z h (of_any (lacking Z) D e)) in absurd z)
    (λ e. follows_of D Z e)
turns_follow (suc k) D Z h = bool_cases (any (lacking Z) D)
    (λ e. turns_follow k D (grow D Z) (omega (arith, turns_follow_at (suc k) D Z h (of_any (lacking Z) D e))))
    (λ e. follows_stays (suc k) D Z (follows_of D Z e))

pub closure_is_least : ClosureIsLeast
closure_is_least D X = record {
  closed = record { holds = turns_has (length D) D X; follows = turns_follow (length D) D X (open_most D X) };
  least = λ W c. turns_least (length D) D X W c.follows c.holds;
}

-- Armstrong's axioms
derives_within : (D : List Dependency) (X Y : ColumnSet) → Derives D X Y → Within Y (closure D X)
derives_within D X Y (given {d = d} h) = (closure_is_least D d.left).closed.follows d h (closure_is_least D d.left).closed.holds
derives_within D X Y (reflexivity {X = X'} {Y = Y'} w) = within_trans Y' X' (closure D X') w (closure_is_least D X').closed.holds
derives_within D X Y (augmentation {X = X'} {Y = Y'} Z p) = λ i h.
    let c = (closure_is_least D (union X' Z)).closed in
    elim (of_union Y' Z i h) [
      | inl g ↦ (closure_is_least D X').least (closure D (union X' Z)) (record { holds = within_trans X' (union X' Z) (closure D (union X' Z)) (in_union_left X' Z) c.holds; follows = c.follows }) i (derives_within D X' Y' p i g)
      | inr g ↦ c.holds i (in_union_right X' Z i g)
    ]
derives_within D X Y (transitivity {X = X'} {Y = Y'} {Z = Z'} p q) =
    within_trans Z' (closure D Y') (closure D X') (derives_within D Y' Z' q)
    ((closure_is_least D Y').least (closure D X') (record { holds = derives_within D X' Y' p; follows = (closure_is_least D X').closed.follows }))

with_union : (D : List Dependency) (W Y : ColumnSet) → Derives D W Y → Derives D W (union W Y)
with_union D W Y p = transitivity (reflexivity (λ i h. elim (of_union W W i h) [ inl g ↦ g | inr g ↦ g ]))
    (transitivity (augmentation W p) (reflexivity (λ i h. elim (of_union W Y i h) [ inl g ↦ in_union_right Y W i g | inr g ↦ in_union_left Y W i g ])))

derive_grow_at : (E : List Dependency) (d : Dependency) (W : ColumnSet) (b : Bool) → within d.left W ≡ b → d ∈ E → Derives E W (cond b (union W d.right) W)
derive_grow_at E d W true e h = with_union E W d.right (transitivity (reflexivity (within_is d.left W e)) (given h))
derive_grow_at E d W false e h = reflexivity (λ i g. g)

derive_grow : (E D : List Dependency) (Z : ColumnSet) → ((d : Dependency) → d ∈ D → d ∈ E) → Derives E Z (grow D Z)
derive_grow E [] Z f = reflexivity (λ i g. g)
derive_grow E (d ∷ D) Z f = transitivity (derive_grow E D Z (λ e h. f e (inr h))) (derive_grow_at E d (grow D Z) (within d.left (grow D Z)) refl (f d (inl refl)))

derive_turns : (k : ℕ) (D : List Dependency) (Z : ColumnSet) → Derives D Z (turns k D Z)
derive_turns zero D Z = reflexivity (λ i g. g)
derive_turns (suc k) D Z = transitivity (derive_grow D D Z (λ d h. h)) (derive_turns k D (grow D Z))

pub closure_derives : ClosureDerives
closure_derives D X Y = (derives_within D X Y, λ w. transitivity (derive_turns (length D) D X) (reflexivity w))

pub armstrong_sound : ArmstrongSound
armstrong_sound D X Y (given {d = d} h) R M s t hs ht a = M d h s t hs ht a
armstrong_sound D X Y (reflexivity {X = X'} {Y = Y'} w) R M s t hs ht a = agree_within Y' X' s t w a
armstrong_sound D X Y (augmentation {X = X'} {Y = Y'} Z p) R M s t hs ht a = λ i h. elim (of_union Y' Z i h) [
  | inl g ↦ armstrong_sound D X' Y' p R M s t hs ht (λ j k. a j (in_union_left X' Z j k)) i g
  | inr g ↦ a i (in_union_right X' Z i g)
]
armstrong_sound D X Y (transitivity {X = X'} {Y = Y'} {Z = Z'} p q) R M s t hs ht a = armstrong_sound D Y' Z' q R M s t hs ht (armstrong_sound D X' Y' p R M s t hs ht a)
