-- A layer opens exactly when its premises hold, and the limits.
use Rattle.std.proofs.Common.{◌≡◌, ℕ, zero, suc, ◌≤◌, Bool, true, false, cond, not, ◌&&◌, ◌||◌, leb, ◌↔◌, List, [], ◌∷◌, ◌++◌, map, length, Some, None, Option, sym, refl, ap, ◌∙◌, subst, inl, inr, le→leb, leb→le}
use mathlib.Core.Bool.{false≢true}
use Rattle.model.specs.Closures.{closure}
use Rattle.model.specs.ColumnSets.{ColumnSet, apart, has, non_empty, singleton, within}
use Rattle.model.specs.Dropping.{MayDrop, column_at}
use Rattle.model.specs.Facts.{and_both, or_left, or_right}
use Rattle.model.specs.Faults.{Fault, fault, or_then}
use Rattle.model.specs.Joining.{MayJoin, join_deps, join_sort, shared_set}
use Rattle.model.specs.Opening.{drop_column_fault, drop_fault, few, in_some_left, in_some_right, is_cell, join_fault, join_fits, joinable, kind_fits, like_kinds, reads_alone, reads_output, rename_column_fault, rename_fault, same_kind, select_fault, unless}
use Rattle.model.specs.Projecting.{has_column}
use Rattle.model.specs.Renaming.{Unused}
use Rattle.model.specs.Selecting.{Predicate, ReadsNoOutput}
use Rattle.model.specs.Sorts.{Column, Kind, Part, Sort, all_columns, lookup, numbers, of_kind, texts}
use Rattle.model.specs.TreeForm.{tree_form}
use Rattle.model.specs.Values.{Tuple, Value, any, cell, every, same_bytes, ◌∈◌}
use Rattle.model.specs.Words.{is_name}
use Rattle.laws.specs.Opening.{Limited, OpeningExact}
use Rattle.laws.proofs.Cells.{apart_is, bytes_is, is_apart, is_bytes, is_test, is_within, or_cases, test_is, within_is}
use Rattle.laws.proofs.Conditioned.{in_singleton, of_singleton}
use Rattle.laws.proofs.Dropped.{length_map}
use Rattle.laws.proofs.Looking.{no_some}
use Rattle.laws.proofs.Members.{and_left, and_right, bool_cases, clash, in_any, in_filter, not_false, not_true, of_any, of_filter}
use Rattle.laws.proofs.Named.{some_at}
use Rattle.laws.proofs.Refusing.{none_or, or_none, test_some}
use Rattle.laws.proofs.Testing.{every_is, is_every, tree_test}

none_unless : (b : Bool) (n k p : ℕ) → b ≡ true → unless b n k p ≡ None
none_unless b n k p e = ap (λ x. cond x None (fault n k p)) e

few_is : {A : Type 0} (l : List A) → few l ≡ true → length l ≤ 8
few_is l e = leb→le (length l) 8 (test_is (leb (length l) 8) e)

is_few : {A : Type 0} (l : List A) → length l ≤ 8 → few l ≡ true
is_few l h = is_test (leb (length l) 8) (le→leb (length l) 8 h)

-- outputs
no_output_is : (S : Sort) → reads_output S ≡ false → ReadsNoOutput S
no_output_is S f p g d h = apart_is p.reads d.right (bool_cases (apart p.reads d.right) (λ e. e)
    (λ e. clash (reads_output S) (in_any (λ p. any (λ d. not (apart p.reads d.right)) S.deps) p S.parts g (in_any (λ d. not (apart p.reads d.right)) d S.deps h (not_false (apart p.reads d.right) e))) f))

is_no_output : (S : Sort) → ReadsNoOutput S → reads_output S ≡ false
is_no_output S N = bool_cases (reads_output S)
    (λ e.
    let v = of_any (λ p. any (λ d. not (apart p.reads d.right)) S.deps) S.parts e in
    let w = of_any (λ d. not (apart v.0.reads d.right)) S.deps v.2 in
    clash (apart v.0.reads w.0.right) (is_apart v.0.reads w.0.right (N v.0 v.1 w.0 w.1)) (not_true (apart v.0.reads w.0.right) w.2))
    (λ e. e)

select_opens : (p : ℕ) (P : Predicate) (S : Sort) → (select_fault p P S ≡ None) ↔ (ReadsNoOutput S × (length (P.parts ++ S.parts) ≤ 8))
select_opens p P S = (
  (λ e. let w = or_none (unless (not (reads_output S)) 11 3 p) (unless (few (P.parts ++ S.parts)) 4 3 p) e in
      (no_output_is S (not_true (reads_output S) (test_some (not (reads_output S)) 11 3 p w.0)), few_is (P.parts ++ S.parts) (test_some (few (P.parts ++ S.parts)) 4 3 p w.1))),
  (λ m. none_or (unless (not (reads_output S)) 11 3 p) (unless (few (P.parts ++ S.parts)) 4 3 p)
      (none_unless (not (reads_output S)) 11 3 p (not_false (reads_output S) (is_no_output S m.0))) (none_unless (few (P.parts ++ S.parts)) 4 3 p (is_few (P.parts ++ S.parts) m.1))),
)

-- drop
cell_of_kind : (k : Kind) (v : Value) → of_kind k v ≡ true → is_cell v ≡ true
cell_of_kind numbers v e = or_left (of_kind numbers v) (of_kind texts v) e
cell_of_kind texts v e = or_right (of_kind numbers v) (of_kind texts v) e

-- the tuple of the default alone
cell_copies : (a : Value) (C : List Column) (k : ℕ) (c : Column) → column_at C k ≡ Some c → cell (map (λ c. a) C) k ≡ a
cell_copies a [] k c e = no_some c e
cell_copies a (b ∷ C) zero c e = refl
cell_copies a (b ∷ C) (suc k) c e = cell_copies a C k c e

module _ (p : ℕ) (a : Value) (S : Sort) (k : ℕ) where
  abbrev C : List Column
  C = S.columns

  abbrev right : Bool
  right = in_some_right k S.deps && not (in_some_left k S.deps)

  kind_is : (x : Option Column) → column_at C k ≡ x → kind_fits a x ≡ true → (c : Column) × (column_at C k ≡ Some c) × (of_kind c.kind a ≡ true)
  kind_is None e h = absurd (false≢true h)
  kind_is (Some c) e h = (c, e, h)

  alone_is : (c : Column) → column_at C k ≡ Some c → (q : Part) → reads_alone k a C q ≡ true → has q.reads k ≡ true →
      ((i : ℕ) → has q.reads i ≡ true → i ≡ k) × ((t : Tuple) → length t ≡ length C → cell t k ≡ a → q.admits t ≡ true)
  alone_is c at_k q e r = elim (or_cases (not (has q.reads k)) (within q.reads (singleton k) && q.admits (map (λ c. a) C)) e) [
    | inl n ↦ clash (has q.reads k) r (not_true (has q.reads k) n)
    | inr h ↦
        let only : (i : ℕ) → has q.reads i ≡ true → i ≡ k = λ i m. of_singleton k i (within_is q.reads (singleton k) (and_left (within q.reads (singleton k)) (q.admits (map (λ c. a) C)) h) i m) in (
          only,
          λ t l z. q.alike t (map (λ c. a) C) (l ∙ sym (length_map (λ c. a) C)) (λ i m. ap (cell t) (only i m) ∙ z ∙ sym (cell_copies a C k c at_k) ∙ ap (cell (map (λ c. a) C)) (sym (only i m)))
              ∙ and_right (within q.reads (singleton k)) (q.admits (map (λ c. a) C)) h,
        )
  ]

  drop_is : drop_column_fault p a S (Some k) ≡ None → MayDrop S k a
  drop_is e =
      let w = or_none (unless right 12 4 p) (or_then (unless (kind_fits a (column_at C k)) 7 4 p) (unless (every (reads_alone k a C) S.parts) 13 4 p)) e in
      let v = or_none (unless (kind_fits a (column_at C k)) 7 4 p) (unless (every (reads_alone k a C) S.parts) 13 4 p) w.1 in
      let r = test_some right 12 4 p w.0 in
      let c = kind_is (column_at C k) refl (test_some (kind_fits a (column_at C k)) 7 4 p v.0) in
      record {
        column = c;
        in_right = of_any (λ d. has d.right k) S.deps (and_left (in_some_right k S.deps) (not (in_some_left k S.deps)) r);
        in_no_left = λ d h. bool_cases (has d.left k)
            (λ g. clash (in_some_left k S.deps) (in_any (λ d. has d.left k) d S.deps h g) (not_true (in_some_left k S.deps) (and_right (in_some_right k S.deps) (not (in_some_left k S.deps)) r)))
            (λ g. g);
        parts_alone = λ q g. alone_is c.0 c.1 q (every_is (reads_alone k a C) S.parts (test_some (every (reads_alone k a C) S.parts) 13 4 p v.1) q g);
      }

  is_drop : MayDrop S k a → drop_column_fault p a S (Some k) ≡ None
  is_drop Y = none_or (unless right 12 4 p) (or_then (unless (kind_fits a (column_at C k)) 7 4 p) (unless (every (reads_alone k a C) S.parts) 13 4 p))
      (none_unless right 12 4 p (and_both (in_some_right k S.deps) (not (in_some_left k S.deps)) (in_any (λ d. has d.right k) Y.in_right.0 S.deps Y.in_right.1 Y.in_right.2)
      (not_false (in_some_left k S.deps) (bool_cases (in_some_left k S.deps) (λ e. let w = of_any (λ d. has d.left k) S.deps e in clash (has w.0.left k) w.2 (Y.in_no_left w.0 w.1)) (λ e. e)))))
      (none_or (unless (kind_fits a (column_at C k)) 7 4 p) (unless (every (reads_alone k a C) S.parts) 13 4 p)
      (none_unless (kind_fits a (column_at C k)) 7 4 p (ap (kind_fits a) Y.column.1 ∙ Y.column.2))
      (none_unless (every (reads_alone k a C) S.parts) 13 4 p (is_every (reads_alone k a C) S.parts is_alone)))
    where
      is_alone : (q : Part) → q ∈ S.parts → reads_alone k a C q ≡ true
      is_alone q g = bool_cases (has q.reads k)
          (λ r. let w = Y.parts_alone q g r in
          or_right (not (has q.reads k)) (within q.reads (singleton k) && q.admits (map (λ c. a) C))
          (and_both (within q.reads (singleton k)) (q.admits (map (λ c. a) C)) (is_within q.reads (singleton k) (λ i m. in_singleton k i (w.0 i m)))
          (w.1 (map (λ c. a) C) (length_map (λ c. a) C) (cell_copies a C k Y.column.0 Y.column.1))))
          (λ r. or_left (not (has q.reads k)) (within q.reads (singleton k) && q.admits (map (λ c. a) C)) (not_false (has q.reads k) r))

not_fault : {A : Type 0} (n k p : ℕ) → fault n k p ≡ None → A
not_fault n k p e = no_some (record { number = n; kind = k; place = p }) (sym e)

drop_opens : (p : ℕ) (w : List ℕ) (a : Value) (S : Sort) → (drop_fault p w a S ≡ None) ↔ ((k : ℕ) × (lookup S.columns w ≡ Some k) × MayDrop S k a)
drop_opens p w a S = (
  (λ e. go (lookup S.columns w) refl (or_none (unless (is_cell a) 17 4 p) (drop_column_fault p a S (lookup S.columns w)) e).1),
  (λ m. none_or (unless (is_cell a) 17 4 p) (drop_column_fault p a S (lookup S.columns w))
      (none_unless (is_cell a) 17 4 p (cell_of_kind m.2.column.0.kind a m.2.column.2))
      (ap (drop_column_fault p a S) m.1 ∙ is_drop p a S m.0 m.2)),
)
  where
    go : (x : Option ℕ) → lookup S.columns w ≡ x → drop_column_fault p a S x ≡ None → (k : ℕ) × (lookup S.columns w ≡ Some k) × MayDrop S k a
    go None e h = not_fault 6 4 p h
    go (Some k) e h = (k, e, drop_is p a S k h)

-- rename
unused_is : (v : List ℕ) (S : Sort) → has_column S.columns v ≡ false → Unused v S
unused_is v S f c h e = clash (has_column S.columns v) (in_any (λ x. same_bytes x.word v) c S.columns h (is_bytes c.word v e)) f

is_unused : (v : List ℕ) (S : Sort) → Unused v S → has_column S.columns v ≡ false
is_unused v S u = bool_cases (has_column S.columns v) (λ e. let w = of_any (λ x. same_bytes x.word v) S.columns e in absurd (u w.0 w.1 (bytes_is w.0.word v w.2))) (λ e. e)

rename_opens : (p : ℕ) (w v : List ℕ) (S : Sort) → (rename_fault p w v S ≡ None) ↔ ((is_name v ≡ true) × ((k : ℕ) × (lookup S.columns w ≡ Some k)) × Unused v S)
rename_opens p w v S = (
  (λ e.
      let q = or_none (unless (is_name v) 3 5 p) (rename_column_fault p v S (lookup S.columns w)) e in
      let r = go (lookup S.columns w) refl q.1 in
      (test_some (is_name v) 3 5 p q.0, r.0, r.1)),
  (λ m. none_or (unless (is_name v) 3 5 p) (rename_column_fault p v S (lookup S.columns w)) (none_unless (is_name v) 3 5 p m.0)
      (ap (rename_column_fault p v S) m.1.1 ∙ none_unless (not (has_column S.columns v)) 5 5 p (not_false (has_column S.columns v) (is_unused v S m.2)))),
)
  where
    go : (x : Option ℕ) → lookup S.columns w ≡ x → rename_column_fault p v S x ≡ None → ((k : ℕ) × (lookup S.columns w ≡ Some k)) × Unused v S
    go None e h = not_fault 6 5 p h
    go (Some k) e h = ((k, e), unused_is v S (not_true (has_column S.columns v) (test_some (not (has_column S.columns v)) 5 5 p h)))

-- join
some_member : (q : Column → Bool) (V : List Column) → non_empty (map q V) ≡ true → (c : Column) × (c ∈ V) × (q c ≡ true)
some_member q [] e = absurd (false≢true e)
some_member q (c ∷ V) e = elim (or_cases (q c) (non_empty (map q V)) e) [ inl g ↦ (c, inl refl, g) | inr g ↦ let w = some_member q V g in (w.0, inr w.1, w.2) ]

kind_same : (k l : Kind) → same_kind k l ≡ true → k ≡ l
kind_same numbers numbers e = refl
kind_same numbers texts e = absurd (false≢true e)
kind_same texts numbers e = absurd (false≢true e)
kind_same texts texts e = refl

same_kinds : (k l : Kind) → k ≡ l → same_kind k l ≡ true
same_kinds k l e = subst (λ x. same_kind k x ≡ true) e (self k)
  where
    self : (k : Kind) → same_kind k k ≡ true
    self numbers = refl
    self texts = refl

module _ (U V : List Column) where
  like_is : like_kinds U V ≡ true → (c e : Column) → c ∈ U → e ∈ V → c.word ≡ e.word → c.kind ≡ e.kind
  like_is h c e hc he w =
      let q = every_is (λ e. not (same_bytes c.word e.word) || same_kind c.kind e.kind) V (every_is (λ c. every (λ e. not (same_bytes c.word e.word) || same_kind c.kind e.kind) V) U h c hc) e he in
      elim (or_cases (not (same_bytes c.word e.word)) (same_kind c.kind e.kind) q) [
        | inl n ↦ clash (same_bytes c.word e.word) (is_bytes c.word e.word w) (not_true (same_bytes c.word e.word) n)
        | inr g ↦ kind_same c.kind e.kind g
      ]

  is_like : ((c e : Column) → c ∈ U → e ∈ V → c.word ≡ e.word → c.kind ≡ e.kind) → like_kinds U V ≡ true
  is_like f = is_every (λ c. every (λ e. not (same_bytes c.word e.word) || same_kind c.kind e.kind) V) U (λ c hc. is_every (λ e. not (same_bytes c.word e.word) || same_kind c.kind e.kind) V (λ e he.
      bool_cases (same_bytes c.word e.word)
      (λ s. or_right (not (same_bytes c.word e.word)) (same_kind c.kind e.kind) (same_kinds c.kind e.kind (f c e hc he (bytes_is c.word e.word s))))
      (λ s. or_left (not (same_bytes c.word e.word)) (same_kind c.kind e.kind) (not_false (same_bytes c.word e.word) s))))

module _ (p : ℕ) (S T : Sort) where
  abbrev Q : Sort
  Q = join_sort S T

  abbrev X : ColumnSet
  X = shared_set S.columns T.columns

  abbrev some_columns : Bool
  some_columns = non_empty X

  abbrev like : Bool
  like = like_kinds S.columns T.columns

  abbrev whole : Bool
  whole = within (all_columns T.columns) (closure T.deps X)

  abbrev no_outputs : Bool
  no_outputs = not (reads_output S) && not (reads_output T)

  abbrev f₁₅ : Option Fault
  f₁₅ = unless (tree_form (join_deps S T)) 15 6 p

  abbrev f₄ : Option Fault
  f₄ = unless (join_fits Q) 4 6 p

  abbrev f₁₁ : Option Fault
  f₁₁ = unless no_outputs 11 6 p

  abbrev f₁₄ : Option Fault
  f₁₄ = unless (joinable S T) 14 6 p

  join_is : join_fault p S T ≡ None → MayJoin S T × Limited Q
  join_is e =
      let w₁ = or_none f₁₄ (or_then f₁₁ (or_then f₄ f₁₅)) e in
      let w₂ = or_none f₁₁ (or_then f₄ f₁₅) w₁.1 in
      let w₃ = or_none f₄ f₁₅ w₂.1 in
      let j = test_some (joinable S T) 14 6 p w₁.0 in
      let n = test_some no_outputs 11 6 p w₂.0 in
      let l = test_some (join_fits Q) 4 6 p w₃.0 in
      let m = some_member (λ c. has_column S.columns c.word) T.columns (and_left some_columns (like && whole) j) in (
        record {
          some_shared = (m.0, in_filter (λ c. has_column S.columns c.word) m.0 T.columns m.1 m.2);
          equal_kinds = like_is S.columns T.columns (and_left like whole (and_right some_columns (like && whole) j));
          determined = within_is (all_columns T.columns) (closure T.deps X) (and_right like whole (and_right some_columns (like && whole) j));
          left_parts = no_output_is S (not_true (reads_output S) (and_left (not (reads_output S)) (not (reads_output T)) n));
          right_parts = no_output_is T (not_true (reads_output T) (and_right (not (reads_output S)) (not (reads_output T)) n));
          tree = (tree_test (join_deps S T)).1 (test_some (tree_form (join_deps S T)) 15 6 p w₃.1);
        },
        record {
          columns = few_is Q.columns (and_left (few Q.columns) (few Q.deps && few Q.parts) l);
          deps = few_is Q.deps (and_left (few Q.deps) (few Q.parts) (and_right (few Q.columns) (few Q.deps && few Q.parts) l));
          parts = few_is Q.parts (and_right (few Q.deps) (few Q.parts) (and_right (few Q.columns) (few Q.deps && few Q.parts) l));
        },
      )

  is_join : MayJoin S T → Limited Q → join_fault p S T ≡ None
  is_join Y L =
      let m = of_filter (λ c. has_column S.columns c.word) Y.some_shared.0 T.columns Y.some_shared.1 in
      none_or f₁₄ (or_then f₁₁ (or_then f₄ f₁₅))
      (none_unless (joinable S T) 14 6 p (and_both some_columns (like && whole) (some_at (λ c. has_column S.columns c.word) T.columns Y.some_shared.0 m.0 m.1)
      (and_both like whole (is_like S.columns T.columns Y.equal_kinds) (is_within (all_columns T.columns) (closure T.deps X) Y.determined))))
      (none_or f₁₁ (or_then f₄ f₁₅)
      (none_unless no_outputs 11 6 p (and_both (not (reads_output S)) (not (reads_output T)) (not_false (reads_output S) (is_no_output S Y.left_parts)) (not_false (reads_output T) (is_no_output T Y.right_parts))))
      (none_or f₄ f₁₅
      (none_unless (join_fits Q) 4 6 p (and_both (few Q.columns) (few Q.deps && few Q.parts) (is_few Q.columns L.columns) (and_both (few Q.deps) (few Q.parts) (is_few Q.deps L.deps) (is_few Q.parts L.parts))))
      (none_unless (tree_form (join_deps S T)) 15 6 p ((tree_test (join_deps S T)).0 Y.tree))))

pub opening_exact : OpeningExact
opening_exact = record { select = select_opens; drop = drop_opens; rename = rename_opens; join = λ p S T. (join_is p S T, λ m. is_join p S T m.0 m.1) }
