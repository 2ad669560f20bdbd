-- Agreement read place by place.
use Rattle.std.proofs.Common.{◌≡◌, ℕ, zero, suc, ◌+◌, Bool, true, false, not, ◌&&◌, ◌||◌, List, [], ◌∷◌, map, get_or, Option, None, Some, sym, refl, ap, ◌∙◌, ap₂, zero-add, arith, Bor}
use Rattle.std.specs.List.{list_all, enumerate_from}
use Rattle.std.specs.Option.{option_map, unwrap_or}
use Rattle.model.specs.Values.{Tuple, tail, cell, same_value}
use Rattle.model.specs.Sorts.{agrees}
use Rattle.cells.specs.declared.values.Cell.{Cell}
use Rattle.cells.specs.declared.values.Cell.TheVariants.{Num}
use Rattle.cells.specs.Held.{value}

cell_tail : (t : Tuple) (i : ℕ) → cell (tail t) i ≡ cell t (suc i)
cell_tail [] i = refl
cell_tail (v ∷ t) i = refl

-- the chain over the places from i on, of tuples that hold at a place what s and t hold i further on
all_agree_from : (X : List Bool) (i : ℕ) (S T s t : Tuple) → ((k : ℕ) → cell s k ≡ cell S (i + k)) → ((k : ℕ) → cell t k ≡ cell T (i + k)) →
    list_all (λ p. not p.1 || same_value (cell S p.0) (cell T p.0)) (enumerate_from i X) ≡ agrees X s t
all_agree_from [] i S T s t f g = refl
all_agree_from (b ∷ X) i S T s t f g =
    let here : (U u : Tuple) → ((k : ℕ) → cell u k ≡ cell U (i + k)) → cell U i ≡ cell u 0 = λ U u h. ap (cell U) (let e : i ≡ i + 0 = omega arith in e) ∙ sym (h 0) in
    let next : (U u : Tuple) → ((k : ℕ) → cell u k ≡ cell U (i + k)) → (k : ℕ) → cell (tail u) k ≡ cell U (i + 1 + k) = λ U u h k. cell_tail u k ∙ h (suc k) ∙ ap (cell U) (let e : i + suc k ≡ i + 1 + k = omega arith in e) in
    let more = all_agree_from X (i + 1) S T (tail s) (tail t) (next S s f) (next T t g) in
    elim b as (λ b. list_all (λ p. not p.1 || same_value (cell S p.0) (cell T p.0)) (enumerate_from i (b ∷ X)) ≡ agrees (b ∷ X) s t) [
      | true ↦ ap₂ ◌&&◌ (ap₂ same_value (here S s f) (here T t g)) more
      | false ↦ more
    ]

pub all_agree : (X : List Bool) (s t : Tuple) → list_all (λ p. not p.1 || same_value (cell s p.0) (cell t p.0)) (enumerate_from 0 X) ≡ agrees X s t
all_agree X s t = all_agree_from X 0 s t s t (λ k. ap (cell s) (sym (zero-add k))) (λ k. ap (cell t) (sym (zero-add k)))

-- the value at a place of a row
cell_get : (l : List Cell) (i : ℕ) → cell (map value l) i ≡ value (get_or l i (Num 0))
cell_get [] i = refl
cell_get (c ∷ l) zero = refl
cell_get (c ∷ l) (suc i) = cell_get l i

unwrap_now : (r : Option (Bor Cell)) (z : Bor Cell) → (unwrap_or r z).now ≡ unwrap_or (option_map (λ x. x.now) r) z.now
unwrap_now None z = refl
unwrap_now (Some x) z = refl

-- the same, as `get` with the number 0 for a place past the end answers it
pub cell_or : (l m : List Cell) (i : ℕ) (r : Option (Bor Cell)) (z o : Bor Cell) → m ≡ l → ((d : Cell) → unwrap_or (option_map (λ x. x.now) r) d ≡ get_or m i d) → z.now ≡ Num 0 → o ≡ unwrap_or r z →
    cell (map value l) i ≡ value o.now
cell_or l m i r z o p g e u =
    cell_get l i ∙ ap (λ k. value (get_or k i (Num 0))) (sym p) ∙ ap value (sym (g (Num 0)) ∙ ap (unwrap_or (option_map (λ x. x.now) r)) (sym e) ∙ sym (unwrap_now r z) ∙ ap (λ b. b.now) (sym u))
