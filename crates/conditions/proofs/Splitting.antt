-- The parts of a condition admit what it admits, and how they are gathered.
use Rattle.std.proofs.Common.{◌≡◌, Bool, true, false, ◌&&◌, List, [], ◌∷◌, ◌++◌, map, Box, sym, refl, ap, ◌∙◌, ap₂, append_assoc}
use Rattle.model.specs.Conditions.{Condition, compared, negated, bracket, both, either, admits_row, parts_of}
use Rattle.model.specs.Orders.{Order, by_bytes}
use Rattle.model.specs.Sorts.{Part, admitted}
use Rattle.model.specs.Values.{Tuple}
use Rattle.cells.specs.declared.values.Cell.{Cell}
use Rattle.conditions.specs.Meaning.{meaning, written_part}
use Rattle.conditions.specs.declared.places.Place.{Place}
use Rattle.conditions.specs.declared.trees.Compared.{Compared}
use Rattle.conditions.specs.declared.trees.Formula.{Formula, And}
use Rattle.conditions.specs.declared.trees.Formula.TheVariants.{Atom, Not', Bracket', And', Or'}
use Rattle.std.specs.declared.alloc.Global.{Global}
use Rattle.std.proofs.lemmas.List.{map_push}

and_assoc : (a b c : Bool) → (a && (b && c)) ≡ ((a && b) && c)
and_assoc true b c = refl
and_assoc false b c = refl

and_true : (a : Bool) → (a && true) ≡ a
and_true true = refl
and_true false = refl

admitted_append : (P Q : List Part) (t : Tuple) → admitted (P ++ Q) t ≡ (admitted P t && admitted Q t)
admitted_append [] Q t = refl
admitted_append (p ∷ P) Q t = ap (λ b. p.admits t && b) (admitted_append P Q t) ∙ and_assoc (p.admits t) (admitted P t) (admitted Q t)

pub parts_whole : (o : Order) (k : Condition) (t : Tuple) → admitted (parts_of o k) t ≡ admits_row o k t
parts_whole o (compared i c x) t = and_true (admits_row o (compared i c x) t)
parts_whole o (negated k) t = and_true (admits_row o (negated k) t)
parts_whole o (bracket k) t = and_true (admits_row o (bracket k) t)
parts_whole o (both k l) t = admitted_append (parts_of o k) (parts_of o l) t ∙ ap₂ ◌&&◌ (parts_whole o k t) (parts_whole o l t)
parts_whole o (either k l) t = and_true (admits_row o (either k l) t)

abbrev pub parts : Formula (Compared Place Cell) → List Part
parts w = parts_of by_bytes (meaning w)

-- the parts of k and of l are added to those gathered before
pub add_both : (w k k' l l' : Formula (Compared Place Cell)) (a b d : List (Formula (Compared Place Cell))) → parts w ≡ parts k ++ parts l → k' ≡ k → l' ≡ l →
    map written_part b ≡ map written_part a ++ parts k' → map written_part d ≡ map written_part b ++ parts l' → map written_part d ≡ map written_part a ++ parts w
add_both w k k' l l' a b d e p q s t =
    t ∙ ap₂ ◌++◌ (s ∙ ap (λ v. map written_part a ++ parts v) p) (ap parts q) ∙ append_assoc (map written_part a) (parts k) (parts l) ∙ ap (λ P. map written_part a ++ P) (sym e)

-- anything but a conjunction is one part
one_part : (w : Formula (Compared Place Cell)) → ((x y : Box (Formula (Compared Place Cell)) Global) → w ≡ And x y → ⊥) → written_part w ∷ [] ≡ parts w
one_part (Atom c) h = refl
one_part (Not' p k) h = refl
one_part (Bracket' p k) h = refl
one_part (And' p k q l) h = absurd (h (record { ptr = p.ptr; alloc = p.alloc; value = k }) (record { ptr = q.ptr; alloc = q.alloc; value = l }) refl)
one_part (Or' p k q l) h = refl

pub add_one : (w : Formula (Compared Place Cell)) (a b : List (Formula (Compared Place Cell))) → ((x y : Box (Formula (Compared Place Cell)) Global) → w ≡ And x y → ⊥) → b ≡ a ++ w ∷ [] → map written_part b ≡ map written_part a ++ parts w
add_one w a b h e = ap (map written_part) e ∙ map_push written_part a w ∙ ap (λ P. map written_part a ++ P) (one_part w h)
