-- The turns of the loops that read. Assumes nothing.
use Rattle.std.proofs.Common.{◌≡◌, ℕ, ◌+◌, ◌<◌, ◌≤◌, Bool, true, false, cond, eqb, List, [], ◌∷◌, ◌++◌, map, length, get_or, drop, sym, refl, ap, ◌∙◌, append_assoc, append-nil}
use Rattle.std.proofs.lemmas.List.{drop_more, drop_all}
use Rattle.model.specs.Values.{Value, Tuple}
use Rattle.model.specs.Banks.{Read, found, bad, and_then, place_in, kind_byte, read_header, read_cell, read_cells}
use Rattle.cells.specs.Held.{kind_of}
use Rattle.columns.specs.declared.column.Column.{Column}
use Rattle.columns.specs.Named.{named_column}
use Rattle.banks.specs.Fields.{kind_bytes}

-- what is read after cells that were
abbrev pub cells_after : Tuple → Read Tuple → Read Tuple
cells_after s o = and_then o (λ t b. found (s ++ t) b)

after_more : (s : Tuple) (v : Value) (o : Read Tuple) → cells_after s (and_then o (λ t b. found (v ∷ t) b)) ≡ cells_after (s ++ v ∷ []) o
after_more s v (found t b) = ap (λ x. found x b) (sym (append_assoc s (v ∷ []) t))
after_more s v (bad n p) = refl

module _ (size : ℕ) (C : List Column) (i : ℕ) (here : i < length C) (c : Column) (stands : c ≡ get_or C i c) (s : Tuple) (b : List ℕ) where
  next_column : map named_column (drop i C) ≡ named_column c ∷ map named_column (drop (i + 1) C)
  next_column = ap (map named_column) (drop_more C i c here) ∙ ap (λ x. named_column x ∷ map named_column (drop (i + 1) C)) (sym stands)

  pub cells_step : (v : Value) (b' : List ℕ) → read_cell size (kind_of c.kind) b ≡ found v b' → cells_after s (read_cells size (map named_column (drop i C)) b) ≡ cells_after (s ++ v ∷ []) (read_cells size (map named_column (drop (i + 1) C)) b')
  cells_step v b' e =
      ap (λ D. cells_after s (read_cells size D b)) next_column
      ∙ ap (λ o. cells_after s (and_then o (λ w b₁. and_then (read_cells size (map named_column (drop (i + 1) C)) b₁) (λ t b₂. found (w ∷ t) b₂)))) e
      ∙ after_more s v (read_cells size (map named_column (drop (i + 1) C)) b')

  pub cells_stop : (n p : ℕ) → read_cell size (kind_of c.kind) b ≡ bad n p → cells_after s (read_cells size (map named_column (drop i C)) b) ≡ bad n p
  cells_stop n p e =
      ap (λ D. cells_after s (read_cells size D b)) next_column
      ∙ ap (λ o. cells_after s (and_then o (λ w b₁. and_then (read_cells size (map named_column (drop (i + 1) C)) b₁) (λ t b₂. found (w ∷ t) b₂)))) e

pub cells_end : (size : ℕ) (C : List Column) (i : ℕ) (s : Tuple) (b : List ℕ) → length C ≤ i → cells_after s (read_cells size (map named_column (drop i C)) b) ≡ found s b
cells_end size C i s b h = ap (λ D. cells_after s (read_cells size (map named_column D) b)) (drop_all i C h) ∙ ap (λ x. found x b) (append-nil s)

-- the bytes of a header
module _ (size : ℕ) (x : ℕ) (h : List ℕ) where
  tested : (t : Bool) (p : ℕ) (b : List ℕ) → cond t (read_header size h b) (bad 24 p) ≡ and_then {A = Unit {0}} (cond {A = Read (Unit {0})} t (found tt b) (bad 24 p)) (λ _ r. read_header size h r)
  tested true p b = refl
  tested false p b = refl

  pub byte_of : (b : List ℕ) (o : Read (Unit {0})) → read_header size (x ∷ []) b ≡ o → read_header size (x ∷ h) b ≡ and_then o (λ _ r. read_header size h r)
  byte_of [] o e = ap (λ y. and_then y (λ _ r. read_header size h r)) e
  byte_of (y ∷ b) o e = tested (eqb x y) (place_in size (y ∷ b)) b ∙ ap (λ z. and_then z (λ _ r. read_header size h r)) e

-- the bytes of the kinds of columns from a place on
abbrev pub kinds_from : List Column → ℕ → List ℕ
kinds_from C i = kind_bytes (map named_column (drop i C))

module _ (size : ℕ) (C : List Column) (i : ℕ) (here : i < length C) (c : Column) (stands : c ≡ get_or C i c) (x : ℕ) (is : x ≡ kind_byte (kind_of c.kind)) (b : List ℕ) where
  next_kind : kinds_from C i ≡ x ∷ kinds_from C (i + 1)
  next_kind = ap (λ D. kind_bytes (map named_column D)) (drop_more C i c here) ∙ ap (λ d. kind_byte (kind_of d.kind) ∷ kinds_from C (i + 1)) (sym stands) ∙ ap (λ y. y ∷ kinds_from C (i + 1)) (sym is)

  pub kinds_step : (b' : List ℕ) → read_header size (x ∷ []) b ≡ found tt b' → read_header size (kinds_from C i) b ≡ read_header size (kinds_from C (i + 1)) b'
  kinds_step b' e = ap (λ h. read_header size h b) next_kind ∙ byte_of size x (kinds_from C (i + 1)) b (found tt b') e

  pub kinds_stop : (n p : ℕ) → read_header size (x ∷ []) b ≡ bad n p → read_header size (kinds_from C i) b ≡ bad n p
  kinds_stop n p e = ap (λ h. read_header size h b) next_kind ∙ byte_of size x (kinds_from C (i + 1)) b (bad n p) e

pub kinds_end : (size : ℕ) (C : List Column) (i : ℕ) (b : List ℕ) → length C ≤ i → read_header size (kinds_from C i) b ≡ found tt b
kinds_end size C i b h = ap (λ D. read_header size (kind_bytes (map named_column D)) b) (drop_all i C h)
