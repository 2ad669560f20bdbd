-- Drop: a table without a column of the table below, which gets a default in new rows.
use Rattle.std.specs.Prelude.{◌≡◌, ℕ, zero, suc, true, false, cond, List, [], ◌∷◌, map, length, Some, None, Option, refl}
use Rattle.std.proofs.Common.{ap, sym, ◌∙◌, arith}
use Rattle.std.proofs.lemmas.Bool.{false≢true}
use Rattle.model.specs.Values.{Value, num, Tuple, Relation, ◌∈◌, tail, cell, find, filter}
use Rattle.model.specs.Orders.{Order, relation_of}
use Rattle.model.specs.ColumnSets.{ColumnSet, has, non_empty}
use Rattle.model.specs.Sorts.{of_kind, Column, Agree, agrees, Dependency, Part, Sort}
use Rattle.model.specs.Tables.{Rules}
use Rattle.model.specs.Facts.{cell_tail}

-- a list without the element at place k
abbrev pub without : {A : Type 0} → ℕ → List A → List A
without k [] = []
without zero (a ∷ l) = l
without (suc k) (a ∷ l) = a ∷ without k l

-- a tuple with a value added at place k
abbrev pub add_at : ℕ → Value → Tuple → Tuple
add_at zero v t = v ∷ t
add_at (suc k) v [] = num 0 ∷ add_at k v []
add_at (suc k) v (w ∷ t) = w ∷ add_at k v t

abbrev pub column_at : List Column → ℕ → Option Column
column_at [] k = None
column_at (c ∷ C) zero = Some c
column_at (c ∷ C) (suc k) = column_at C k

pub add_at_head : (k : ℕ) (v : Value) (s : Tuple) → cell (add_at (suc k) v s) zero ≡ cell s zero
add_at_head k v [] = refl
add_at_head k v (w ∷ s) = refl

pub add_at_tail : (k : ℕ) (v : Value) (s : Tuple) (i : ℕ) → cell (add_at (suc k) v s) (suc i) ≡ cell (add_at k v (tail s)) i
add_at_tail k v [] i = refl
add_at_tail k v (w ∷ s) i = refl

pub add_at_alike : (k : ℕ) (v : Value) (X : ColumnSet) (s t : Tuple) → Agree (without k X) s t → Agree X (add_at k v s) (add_at k v t)
add_at_alike k v [] s t a i h = absurd (false≢true h)
add_at_alike zero v (b ∷ X) s t a zero h = refl
add_at_alike zero v (b ∷ X) s t a (suc i) h = a i h
add_at_alike (suc k) v (b ∷ X) s t a zero h = add_at_head k v s ∙ a zero h ∙ sym (add_at_head k v t)
add_at_alike (suc k) v (b ∷ X) s t a (suc i) h =
    add_at_tail k v s i ∙ add_at_alike k v X (tail s) (tail t) (λ j g. cell_tail s j ∙ a (suc j) g ∙ sym (cell_tail t j)) i h ∙ sym (add_at_tail k v t i)

pub add_at_length : (k : ℕ) (v w : Value) (s t : Tuple) → length s ≡ length t → length (add_at k v s) ≡ length (add_at k w t)
add_at_length zero v w s t e = ap suc e
add_at_length (suc k) v w [] [] e = ap suc (add_at_length k v w [] [] refl)
add_at_length (suc k) v w [] (y ∷ t) e = omega arith
add_at_length (suc k) v w (x ∷ s) [] e = omega arith
add_at_length (suc k) v w (x ∷ s) (y ∷ t) e = ap suc (add_at_length k v w s t (omega arith))

-- The sort loses the parts that read the column. Any other part is asked of the tuple with the default in that place.
abbrev pub drop_part : ℕ → Value → Part → Part
drop_part k a p = record {
  reads = without k p.reads;
  admits = λ t. p.admits (add_at k a t);
  alike = λ s t e g. p.alike (add_at k a s) (add_at k a t) (add_at_length k a a s t e) (add_at_alike k a p.reads s t g);
}

abbrev pub drop_parts : ℕ → Value → List Part → List Part
drop_parts k a [] = []
drop_parts k a (p ∷ P) = cond (has p.reads k) (drop_parts k a P) (drop_part k a p ∷ drop_parts k a P)

-- It loses a dependency whose right set empties.
abbrev pub drop_dep : ℕ → Dependency → Dependency
drop_dep k d = record { left = without k d.left; right = without k d.right }

abbrev pub drop_deps : ℕ → List Dependency → List Dependency
drop_deps k D = filter (λ d. non_empty d.right) (map (drop_dep k) D)

abbrev pub drop_sort : ℕ → Value → Sort → Sort
drop_sort k a S = record { columns = without k S.columns; deps = drop_deps k S.deps; parts = drop_parts k a S.parts }

-- the left set that determines the column
abbrev pub determining : ℕ → List Dependency → ColumnSet
determining k [] = []
determining k (d ∷ D) = cond (has d.right k) d.left (determining k D)

abbrev pub cell_or : ℕ → Value → Option Tuple → Value
cell_or k a None = a
cell_or k a (Some n) = cell n k

-- an offered tuple with the cell of a row of I that agrees on the determining set, or with the default if there is none
abbrev pub fill : ℕ → Value → List Dependency → Relation → Tuple → Tuple
fill k a D I t = add_at k (cell_or k a (find (agrees (determining k D) (add_at k a t)) I)) t

abbrev pub drop_put : Order → ℕ → Value → List Dependency → Relation → Relation → Relation
drop_put o k a D J I = relation_of o (map (fill k a D I) J)

abbrev pub drop : Order → ℕ → Value → Rules → Rules
drop o k a K = record {
  kind = 4;
  sort = drop_sort k a K.sort;
  stores = K.stores;
  shows = λ I. relation_of o (map (without k) (K.shows I));
  puts = λ J I. K.puts (drop_put o k a K.sort.deps J (K.shows I)) I;
}

-- What drop asks of the table below, for its laws: a column, a default of its kind, the column in a right set and in no left set.
pub record MayDrop (S : Sort) (k : ℕ) (a : Value) : Type 0 where
  pub column : (c : Column) × (column_at S.columns k ≡ Some c) × (of_kind c.kind a ≡ true)
  pub in_right : (d : Dependency) × (d ∈ S.deps) × (has d.right k ≡ true)
  pub in_no_left : (d : Dependency) → d ∈ S.deps → has d.left k ≡ false
  -- a part that reads the column reads it alone and admits the default
  pub parts_alone : (p : Part) → p ∈ S.parts → has p.reads k ≡ true → ((i : ℕ) → has p.reads i ≡ true → i ≡ k) × ((t : Tuple) → length t ≡ length S.columns → cell t k ≡ a → p.admits t ≡ true)
