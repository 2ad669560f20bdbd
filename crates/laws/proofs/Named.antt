-- Rows by the words of their columns.
use Rattle.std.proofs.Common.{◌≡◌, ℕ, zero, suc, Bool, true, false, cond, ◌&&◌, ◌||◌, List, [], ◌∷◌, ◌++◌, map, Some, None, Option, sym, refl, ap, ◌∙◌, subst, ap₂, inl, inr, true≢false}
use mathlib.Core.Bool.{false≢true}
use Rattle.std.specs.Option.{option_map}
use Rattle.model.specs.ColumnSets.{Apart, ColumnSet, Within, has, non_empty}
use Rattle.model.specs.Facts.{and_both, has_tail, or_left, or_right}
use Rattle.model.specs.Projecting.{cell_or_zero, has_column, has_word, lift, map_within, project, value_of, value_past}
use Rattle.model.specs.Sorts.{Agree, Column, Distinct, Shaped, all_columns, lookup}
use Rattle.model.specs.Values.{Tuple, Value, cell, filter, same_bytes, tail, ◌∈◌}
use Rattle.laws.proofs.Cells.{OfKind, bytes_is, is_bytes, or_cases, some_is}
use Rattle.laws.proofs.Members.{and_left, and_right, bool_cases, in_any, map_cong, of_any, of_append, of_filter}

pub is_column : (C : List Column) (c : Column) → c ∈ C → has_column C c.word ≡ true
is_column C c h = in_any (λ e. same_bytes e.word c.word) c C h (is_bytes c.word c.word refl)

-- what a lookup finds in a list with one more column
past : (v : Value) (t : Tuple) (x : Option ℕ) → cell_or_zero (v ∷ t) (option_map suc x) ≡ cell_or_zero t x
past v t x = value_past (v ∷ t) x

here : (c : Column) (C : List Column) → lookup (c ∷ C) c.word ≡ Some 0
here c C = ap (λ b. cond b (Some 0) (option_map suc (lookup C c.word))) (is_bytes c.word c.word refl)

further : (c : Column) (C : List Column) (w : List ℕ) → same_bytes c.word w ≡ false → lookup (c ∷ C) w ≡ option_map suc (lookup C w)
further c C w e = ap (λ b. cond b (Some 0) (option_map suc (lookup C w))) e

unlike : (c : Column) (C : List Column) → Distinct (c ∷ C) → (e : Column) → e ∈ C → same_bytes c.word e.word ≡ false
unlike c C d e h = bool_cases (same_bytes c.word e.word) (λ s. absurd (d.0 e h (bytes_is c.word e.word s))) (λ s. s)

-- the cell of a column of B in a row made by words
at_project_at : (g : List ℕ → Value) (c : Column) (B : List Column) (w : List ℕ) (b : Bool) → same_bytes c.word w ≡ b → (b || has_column B w) ≡ true →
    (has_column B w ≡ true → value_of B (map (λ c. g c.word) B) w ≡ g w) → cell_or_zero (g c.word ∷ map (λ c. g c.word) B) (cond b (Some 0) (option_map suc (lookup B w))) ≡ g w
at_project_at g c B w true e n ih = ap g (bytes_is c.word w e)
at_project_at g c B w false e n ih = past (g c.word) (map (λ c. g c.word) B) (lookup B w) ∙ ih n

pub at_project : (g : List ℕ → Value) (B : List Column) (w : List ℕ) → has_column B w ≡ true → value_of B (map (λ c. g c.word) B) w ≡ g w
at_project g [] w n = absurd (false≢true n)
at_project g (c ∷ B) w n = at_project_at g c B w (same_bytes c.word w) refl n (at_project g B w)

pub project_self : (C : List Column) (t : Tuple) → Distinct C → Shaped C t → project C C t ≡ t
project_self [] [] d s = refl
project_self [] (v ∷ t) d s = absurd s
project_self (c ∷ C) [] d s = absurd s
project_self (c ∷ C) (v ∷ t) d s = ap₂ {C = Tuple} ◌∷◌ (ap (cell_or_zero (v ∷ t)) (here c C))
    (map_cong (λ e. value_of (c ∷ C) (v ∷ t) e.word) (λ e. value_of C t e.word) C (λ e h. ap (cell_or_zero (v ∷ t)) (further c C e.word (unlike c C d e h)) ∙ past v t (lookup C e.word)) ∙ project_self C t d.1 s.1)

-- rows set one behind the other
at_left_at : (c : Column) (U B : List Column) (v : Value) (u b : Tuple) (w : List ℕ) (x : Bool) → (x || has_column U w) ≡ true →
    (has_column U w ≡ true → value_of (U ++ B) (u ++ b) w ≡ value_of U u w) → cell_or_zero (v ∷ (u ++ b)) (cond x (Some 0) (option_map suc (lookup (U ++ B) w))) ≡ cell_or_zero (v ∷ u) (cond x (Some 0) (option_map suc (lookup U w)))
at_left_at c U B v u b w true n ih = refl
at_left_at c U B v u b w false n ih = past v (u ++ b) (lookup (U ++ B) w) ∙ ih n ∙ sym (past v u (lookup U w))

pub at_left : (U B : List Column) (u b : Tuple) (w : List ℕ) → Shaped U u → has_column U w ≡ true → value_of (U ++ B) (u ++ b) w ≡ value_of U u w
at_left [] B u b w s n = absurd (false≢true n)
at_left (c ∷ U) B [] b w s n = absurd s
at_left (c ∷ U) B (v ∷ u) b w s n = at_left_at c U B v u b w (same_bytes c.word w) n (at_left U B u b w s.1)

at_right_at : (c : Column) (U B : List Column) (v : Value) (u b : Tuple) (w : List ℕ) (x : Bool) → (x || has_column U w) ≡ false →
    (has_column U w ≡ false → value_of (U ++ B) (u ++ b) w ≡ value_of B b w) → cell_or_zero (v ∷ (u ++ b)) (cond x (Some 0) (option_map suc (lookup (U ++ B) w))) ≡ value_of B b w
at_right_at c U B v u b w true n ih = absurd (true≢false n)
at_right_at c U B v u b w false n ih = past v (u ++ b) (lookup (U ++ B) w) ∙ ih n

pub at_right : (U B : List Column) (u b : Tuple) (w : List ℕ) → Shaped U u → has_column U w ≡ false → value_of (U ++ B) (u ++ b) w ≡ value_of B b w
at_right [] B [] b w s n = refl
at_right [] B (v ∷ u) b w s n = absurd s
at_right (c ∷ U) B [] b w s n = absurd s
at_right (c ∷ U) B (v ∷ u) b w s n = at_right_at c U B v u b w (same_bytes c.word w) n (at_right U B u b w s.1)

-- kinds
pub kind_at : (C : List Column) (t : Tuple) → Distinct C → Shaped C t → (c : Column) → c ∈ C → OfKind c.kind (value_of C t c.word)
kind_at [] t d s c h = absurd h
kind_at (e ∷ C) [] d s c h = absurd s
kind_at (e ∷ C) (v ∷ t) d s c (inl p) = subst (λ x. OfKind x.kind (value_of (e ∷ C) (v ∷ t) x.word)) (sym p) (subst (λ i. OfKind e.kind (cell_or_zero (v ∷ t) i)) (sym (here e C)) s.0)
kind_at (e ∷ C) (v ∷ t) d s c (inr h) =
    subst (λ x. OfKind c.kind x) (sym (ap (cell_or_zero (v ∷ t)) (further e C c.word (unlike e C d c h)) ∙ past v t (lookup C c.word))) (kind_at C t d.1 s.1 c h)

pub shaped_map : (f : Column → Value) (B : List Column) → ((c : Column) → c ∈ B → OfKind c.kind (f c)) → Shaped B (map f B)
shaped_map f [] h = tt
shaped_map f (c ∷ B) h = (h c (inl refl), shaped_map f B (λ e g. h e (inr g)))

pub shaped_append : (U B : List Column) (u b : Tuple) → Shaped U u → Shaped B b → Shaped (U ++ B) (u ++ b)
shaped_append [] B [] b s r = r
shaped_append [] B (v ∷ u) b s r = absurd s
shaped_append (c ∷ U) B [] b s r = absurd s
shaped_append (c ∷ U) B (v ∷ u) b s r = (s.0, shaped_append U B u b s.1 r)

pub distinct_append : (U B : List Column) → Distinct U → Distinct B → ((c e : Column) → c ∈ U → e ∈ B → c.word ≡ e.word → ⊥) → Distinct (U ++ B)
distinct_append [] B d b f = b
distinct_append (c ∷ U) B d b f = ((λ e h p. elim (of_append e U B h) [ inl g ↦ d.0 e g p | inr g ↦ f c e (inl refl) g p ]), distinct_append U B d.1 b (λ x e h g. f x e (inr h) g))

distinct_filter_at : (p : Column → Bool) (c : Column) (V : List Column) (x : Bool) → Distinct (c ∷ V) → Distinct (filter p V) → Distinct (cond x (c ∷ filter p V) (filter p V))
distinct_filter_at p c V true d ih = ((λ e h. d.0 e (of_filter p e V h).0), ih)
distinct_filter_at p c V false d ih = ih

pub distinct_filter : (p : Column → Bool) (V : List Column) → Distinct V → Distinct (filter p V)
distinct_filter p [] d = d
distinct_filter p (c ∷ V) d = distinct_filter_at p c V (p c) d (distinct_filter p V d.1)

-- the column at a place
pub column_of : (p : Column → Bool) (V : List Column) → Distinct V → (i : ℕ) → has (map p V) i ≡ true → (c : Column) × (c ∈ V) × (p c ≡ true) × (lookup V c.word ≡ Some i)
column_of p [] d i h = absurd (false≢true h)
column_of p (c ∷ V) d zero h = (c, inl refl, h, here c V)
column_of p (c ∷ V) d (suc i) h = let w = column_of p V d.1 i h in (w.0, inr w.1, w.2, further c V w.0.word (unlike c V d w.0 w.1) ∙ ap (option_map suc) w.3)

-- rows that agree on all columns
pub all_agree : (V : List Column) (s t : Tuple) → Shaped V s → Shaped V t → Agree (all_columns V) s t → s ≡ t
all_agree [] [] [] p q a = refl
all_agree [] [] (w ∷ t) p q a = absurd q
all_agree [] (v ∷ s) t p q a = absurd p
all_agree (c ∷ V) [] t p q a = absurd p
all_agree (c ∷ V) (v ∷ s) [] p q a = absurd q
all_agree (c ∷ V) (v ∷ s) (w ∷ t) p q a = ap₂ {C = Tuple} ◌∷◌ (a zero refl) (all_agree V s t p.1 q.1 (λ i h. a (suc i) h))

-- lifted sets: the words of the columns in a set
pub of_word : (B : List Column) (X : ColumnSet) (w : List ℕ) → has_word B X w ≡ true → (i : ℕ) × (c : Column) × (c ∈ B) × (has X i ≡ true) × (w ≡ c.word) × ((g : List ℕ → Value) → cell (map (λ c. g c.word) B) i ≡ g w)
of_word [] X w h = absurd (false≢true h)
of_word (b ∷ B) X w h = elim (or_cases (has X 0 && same_bytes w b.word) (has_word B (tail X) w) h) [
  | inl g ↦
      let e = bytes_is w b.word (and_right (has X 0) (same_bytes w b.word) g) in
      (zero, b, inl refl, and_left (has X 0) (same_bytes w b.word) g, e, λ f. ap f (sym e))
  | inr g ↦ let v = of_word B (tail X) w g in (suc v.0, v.1, inr v.2, sym (has_tail X v.0) ∙ v.3, v.4, v.5)
]

pub in_word : (B : List Column) (X : ColumnSet) (i : ℕ) → has X i ≡ true → Within X (all_columns B) → (c : Column) × (c ∈ B) × (has_word B X c.word ≡ true)
in_word [] X i h s = absurd (false≢true (s i h))
in_word (b ∷ B) X zero h s = (b, inl refl, or_left (has X 0 && same_bytes b.word b.word) (has_word B (tail X) b.word) (and_both (has X 0) (same_bytes b.word b.word) h (is_bytes b.word b.word refl)))
in_word (b ∷ B) X (suc i) h s =
    let w = in_word B (tail X) i (has_tail X i ∙ h) (λ j g. s (suc j) (sym (has_tail X j) ∙ g)) in
    (w.0, inr w.1, or_right (has X 0 && same_bytes w.0.word b.word) (has_word B (tail X) w.0.word) w.2)

pub agree_lift : (C B : List Column) → Distinct C → (X : ColumnSet) (s t : Tuple) → Agree X (project C B s) (project C B t) → Agree (lift C B X) s t
agree_lift C B d X s t a i h =
    let k = column_of (λ c. has_word B X c.word) C d i h in
    let v = of_word B X k.0.word k.2 in
    let e : value_of C s k.0.word ≡ value_of C t k.0.word = sym (v.5 (value_of C s)) ∙ a v.0 v.3 ∙ v.5 (value_of C t) in
    sym (ap (cell_or_zero s) k.3) ∙ e ∙ ap (cell_or_zero t) k.3

-- the set X has a column of a word: by one place alone, where the words are distinct
word_place : (B : List Column) → Distinct B → (X : ColumnSet) (w : List ℕ) → has_word B X w ≡ true → (i : ℕ) × (lookup B w ≡ Some i) × (has X i ≡ true)
word_place [] d X w h = absurd (false≢true h)
word_place (b ∷ B) d X w h = elim (or_cases (has X 0 && same_bytes w b.word) (has_word B (tail X) w) h) [
  | inl g ↦
      let e = bytes_is w b.word (and_right (has X 0) (same_bytes w b.word) g) in
      (zero, subst (λ x. lookup (b ∷ B) x ≡ Some 0) (sym e) (here b B), and_left (has X 0) (same_bytes w b.word) g)
  | inr g ↦
      let v = word_place B d.1 (tail X) w g in
      let q = of_word B (tail X) w g in
      let n : same_bytes b.word w ≡ false = subst (λ x. same_bytes b.word x ≡ false) (sym q.4) (unlike b B d q.1 q.2) in
      (suc v.0, further b B w n ∙ ap (option_map suc) v.1, sym (has_tail X v.0) ∙ v.2)
]

place_of : Option ℕ → ℕ
place_of None = 0
place_of (Some i) = i

both_at : (p q : Column → Bool) (C : List Column) (i : ℕ) → has (map p C) i ≡ true → has (map q C) i ≡ true → (c : Column) × (p c ≡ true) × (q c ≡ true)
both_at p q [] i h k = absurd (false≢true h)
both_at p q (c ∷ C) zero h k = (c, h, k)
both_at p q (c ∷ C) (suc i) h k = both_at p q C i h k

pub lift_apart : (C B : List Column) → Distinct B → (X Y : ColumnSet) → Apart X Y → Apart (lift C B X) (lift C B Y)
unfolding place_of
lift_apart C B d X Y a i h k =
    let c = both_at (λ c. has_word B X c.word) (λ c. has_word B Y c.word) C i h k in
    let x = word_place B d X c.0.word c.1 in
    let y = word_place B d Y c.0.word c.2 in
    a x.0 x.2 (subst (λ j. has Y j ≡ true) (ap place_of (sym y.1 ∙ x.1)) y.2)

pub lift_within : (C B : List Column) (X : ColumnSet) → Within (lift C B X) (all_columns C)
lift_within C B X = map_within (λ c. has_word B X c.word) (λ c. true) C (λ c e. refl)

pub some_at : (p : Column → Bool) (C : List Column) (c : Column) → c ∈ C → p c ≡ true → non_empty (map p C) ≡ true
some_at p [] c h e = absurd h
some_at p (b ∷ C) c (inl q) e = or_left (p b) (non_empty (map p C)) (ap p (sym q) ∙ e)
some_at p (b ∷ C) c (inr h) e = or_right (p b) (non_empty (map p C)) (some_at p C c h e)

pub lift_some : (C B : List Column) → ((c : Column) → c ∈ B → has_column C c.word ≡ true) → (X : ColumnSet) → Within X (all_columns B) → non_empty X ≡ true → non_empty (lift C B X) ≡ true
lift_some C B n X w e =
    let k = some_is X e in
    let c = in_word B X k.0 k.1 w in
    let v = of_any (λ x. same_bytes x.word c.0.word) C (n c.0 c.1) in
    some_at (λ x. has_word B X x.word) C v.0 v.1 (ap (has_word B X) (bytes_is v.0.word c.0.word v.2) ∙ c.2)
