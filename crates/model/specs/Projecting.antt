-- Columns by their words: a tuple projected to other columns, and column sets, dependencies and parts lifted to more columns.
use Rattle.std.specs.Prelude.{◌≡◌, ℕ, zero, suc, Bool, true, false, cond, ◌&&◌, ◌||◌, List, [], ◌∷◌, map, length, Some, None, Option, refl}
use Rattle.std.proofs.Common.{sym, ap, ◌∙◌}
use Rattle.std.specs.Option.{option_map}
use Rattle.model.specs.Values.{Value, num, Tuple, tail, cell, any, same_bytes}
use Rattle.model.specs.ColumnSets.{ColumnSet, has, Within}
use Rattle.model.specs.Sorts.{Column, lookup, Agree, Dependency, Part}
use Rattle.model.specs.Facts.{cell_tail, has_tail, or_left, or_right, and_both}

-- whether a column has the word
abbrev pub has_column : List Column → List ℕ → Bool
has_column C w = any (λ c. same_bytes c.word w) C

-- the value of a tuple with columns C in the column w (where there is none, the number 0)
abbrev pub cell_or_zero : Tuple → Option ℕ → Value
cell_or_zero t None = num 0
cell_or_zero t (Some i) = cell t i

abbrev pub value_of : List Column → Tuple → List ℕ → Value
value_of C t w = cell_or_zero t (lookup C w)

-- a tuple with columns C projected to the columns B
abbrev pub project : List Column → List Column → Tuple → Tuple
project C B t = map (λ c. value_of C t c.word) B

-- A set X of columns of B as a set of columns of C: each of C that has the word of a column of B in X.
abbrev pub has_word : List Column → ColumnSet → List ℕ → Bool
has_word [] X w = false
has_word (b ∷ B) X w = (has X 0 && same_bytes w b.word) || has_word B (tail X) w

abbrev pub lift : List Column → List Column → ColumnSet → ColumnSet
lift C B X = map (λ c. has_word B X c.word) C

abbrev pub lift_dep : List Column → List Column → Dependency → Dependency
lift_dep C B d = record { left = lift C B d.left; right = lift C B d.right }

-- Tuples that agree on a lifted set agree on the set when they are projected.
pub value_past : (t : Tuple) (x : Option ℕ) → cell_or_zero t (option_map suc x) ≡ cell_or_zero (tail t) x
value_past t None = refl
value_past t (Some i) = sym (cell_tail t i)

value_alike_at : (p : Column → Bool) (c : Column) (C : List Column) (w : List ℕ) (b : Bool) → same_bytes c.word w ≡ b → (same_bytes c.word w ≡ true → p c ≡ true) → (s t : Tuple) → Agree (map p (c ∷ C)) s t →
    value_of C (tail s) w ≡ value_of C (tail t) w → cell_or_zero s (cond b (Some 0) (option_map suc (lookup C w))) ≡ cell_or_zero t (cond b (Some 0) (option_map suc (lookup C w)))
value_alike_at p c C w true e f s t a ih = a zero (f e)
value_alike_at p c C w false e f s t a ih = value_past s (lookup C w) ∙ ih ∙ sym (value_past t (lookup C w))

value_alike : (p : Column → Bool) (C : List Column) (w : List ℕ) → ((c : Column) → same_bytes c.word w ≡ true → p c ≡ true) → (s t : Tuple) → Agree (map p C) s t → value_of C s w ≡ value_of C t w
value_alike p [] w f s t a = refl
value_alike p (c ∷ C) w f s t a =
    value_alike_at p c C w (same_bytes c.word w) refl (f c) s t a (value_alike p C w f (tail s) (tail t) (λ i h. cell_tail s i ∙ a (suc i) h ∙ sym (cell_tail t i)))

pub map_within : (p q : Column → Bool) (C : List Column) → ((c : Column) → p c ≡ true → q c ≡ true) → Within (map p C) (map q C)
map_within p q [] f i h = h
map_within p q (c ∷ C) f zero h = f c h
map_within p q (c ∷ C) f (suc i) h = map_within p q C f i h

pub lift_agree : (C B : List Column) (X : ColumnSet) (s t : Tuple) → Agree (lift C B X) s t → Agree X (project C B s) (project C B t)
lift_agree C [] X s t a i h = refl
lift_agree C (b ∷ B) X s t a zero h =
    value_alike (λ c. has_word (b ∷ B) X c.word) C b.word (λ c e. or_left (has X 0 && same_bytes c.word b.word) (has_word B (tail X) c.word) (and_both (has X 0) (same_bytes c.word b.word) h e)) s t a
lift_agree C (b ∷ B) X s t a (suc i) h =
    lift_agree C B (tail X) s t
    (λ j g. a j (map_within (λ c. has_word B (tail X) c.word) (λ c. has_word (b ∷ B) X c.word) C (λ c. or_right (has X 0 && same_bytes c.word b.word) (has_word B (tail X) c.word)) j g)) i (has_tail X i ∙ h)

pub project_length : (C B : List Column) (s t : Tuple) → length (project C B s) ≡ length (project C B t)
project_length C [] s t = refl
project_length C (c ∷ B) s t = ap suc (project_length C B s t)

-- a part of a sort with columns B, asked of tuples with columns C
abbrev pub lift_part : List Column → List Column → Part → Part
lift_part C B p = record {
  reads = lift C B p.reads;
  admits = λ t. p.admits (project C B t);
  alike = λ s t e a. p.alike (project C B s) (project C B t) (project_length C B s t) (lift_agree C B p.reads s t a);
}
