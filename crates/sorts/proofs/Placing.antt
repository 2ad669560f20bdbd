-- The set that is built up from the places of its columns.
use Rattle.std.proofs.Common.{◌≡◌, ℕ, zero, suc, true, false, List, [], ◌∷◌, ◌++◌, Some, None, Option, set, replicate, sym, refl, ap, ◌∙◌, Bor}
use denote.Param.Members.{Mut}
use Rattle.std.specs.Fn.{Called}
use Rattle.std.specs.Iterator.{Drains}
use Rattle.std.specs.List.{FoldsTo, filter_map, cons_option}
use Rattle.std.proofs.lemmas.Fn.{fold_over}
use Rattle.std.proofs.lemmas.Iterator.{YieldsList}
use Rattle.model.specs.ColumnSets as sets
use Rattle.model.specs.Sorts.{Column, lookup}
use Rattle.columns.specs.Members.{members}
use Rattle.columns.specs.declared.set.ColumnSet.{ColumnSet}
use Rattle.sorts.specs.Describing.{named_set, with_place}
use Rattle.sorts.specs.Offered.{words}

-- the set of some places
abbrev pub placed : List ℕ → sets.ColumnSet
placed [] = replicate 8 false
placed (p ∷ l) = set (placed l) p true

-- two places, in either order
either_first : (X : sets.ColumnSet) (p q : ℕ) → set (set X p true) q true ≡ set (set X q true) p true
either_first [] p q = refl
either_first (b ∷ X) zero zero = refl
either_first (b ∷ X) zero (suc q) = refl
either_first (b ∷ X) (suc p) zero = refl
either_first (b ∷ X) (suc p) (suc q) = ap (λ Y. b ∷ Y) (either_first X p q)

pub placed_push : (l : List ℕ) (p : ℕ) → placed (l ++ p ∷ []) ≡ set (placed l) p true
placed_push [] p = refl
placed_push (q ∷ l) p = ap (λ X. set X q true) (placed_push l p) ∙ either_first (placed l) p q

module _ {S X F : Type 0} {steps : S → Option X → S → Type 0} {v : X → ℕ} {g : Mut F (ColumnSet × (X × Unit {0})) ColumnSet} {f : F} {s : S} {all : List ℕ} (init r : ColumnSet) where
  pub folded : (xs : List X) × (q : F) × Drains steps s xs × FoldsTo {P = F × ColumnSet} (λ a x b. Called g a.0 (a.1, (x, tt)) b.1 b.0) (f, init) xs (q, r) → YieldsList steps v s all → members init ≡ replicate 8 false →
      ((a : ColumnSet) (x : X) (b : ColumnSet) (q : F) → Called g f (a, (x, tt)) b q → (members b ≡ set (members a) (v x) true) × (q ≡ f)) → members r ≡ placed all
  folded ran gives empty adds =
      fold_over steps v g (λ ps X. members X ≡ placed ps) f
      (λ ps a x b q so_far call. let k = adds a x b q call in (k.0 ∙ ap (λ X. set X (v x) true) so_far ∙ sym (placed_push ps (v x)), k.1))
      s all init r gives.runs empty ran

named_first : (o : Option ℕ) (l : List ℕ) → placed (cons_option o l) ≡ with_place o (placed l)
named_first None l = refl
named_first (Some p) l = refl

pub placed_named : (C : List Column) (names : List (Bor (List ℕ))) → placed (filter_map (λ r. lookup C r.now) names) ≡ named_set C (words names)
placed_named C [] = refl
placed_named C (r ∷ names) = named_first (lookup C r.now) (filter_map (λ n. lookup C n.now) names) ∙ ap (with_place (lookup C r.now)) (placed_named C names)
