-- The fields of a bank: numbers, texts, cells and the header. Assumes nothing.
use Rattle.std.proofs.Common.{◌≡◌, ℕ, ◌≤◌, Bool, true, false, cond, eqb, leb, List, [], ◌∷◌, ◌++◌, length, take, drop, Option, sym, refl, ap, ◌∙◌, ap₂, append_assoc, arith, length-append, take-append-drop, length-take}
use mathlib.Core.Bool.{false≢true}
use lib.Seq.{take-append_seam, drop-append_seam}
use Rattle.std.proofs.lemmas.Bool.{leb-true, leb-false, le-leb, lt-leb, eqb-true, eqb-false, eq-eqb, ne_eqb, and_parts, and_from}
use Rattle.model.specs.Values.{Value, num, text, Tuple}
use Rattle.model.specs.Sorts.{Kind, numbers, texts, is_text, of_kind, greatest, Column}
use Rattle.model.specs.Decisions.{shaped}
use Rattle.model.specs.Banks.{groups, coded_cell, coded_row, Read, found, bad, and_then, place_in, read_header, find_number, or_23, read_number, read_text, read_cell, read_cells}
use Rattle.coding.specs.Numbers.{NoNumber}
use Rattle.coding.specs.Reading.{BadCell, not_a_number, no_length, cut_off, not_a_text}
use Rattle.coding.proofs.Groups.{find_groups, Front, a_number, no_number, front, none_exact}

-- good fields are read
pub number_good : (size n : ℕ) (r : List ℕ) → n ≤ greatest → read_number size (groups n ++ r) ≡ found n r
number_good size n r h = ap (or_23 size (groups n ++ r)) (find_groups n r h)

text_good : (size : ℕ) (s r : List ℕ) → is_text s ≡ true → read_text size (length s ∷ (s ++ r)) ≡ found s r
text_good size s r h =
    let l : leb (length s) (length (s ++ r)) ≡ true = le-leb (length s) (length (s ++ r)) (omega (arith, length-append s r)) in
    rw (l, take-append_seam s r, drop-append_seam s r, h)

pub cell_good : (size : ℕ) (k : Kind) (v : Value) (r : List ℕ) → of_kind k v ≡ true → read_cell size k (coded_cell v ++ r) ≡ found v r
cell_good size numbers (num n) r h = ap (λ o. and_then o (λ m rest. found (num m) rest)) (number_good size n r (leb-true n greatest h))
cell_good size numbers (text s) r h = absurd (false≢true h)
cell_good size texts (num n) r h = absurd (false≢true h)
cell_good size texts (text s) r h = ap (λ o. and_then o (λ m rest. found (text m) rest)) (text_good size s r h)

pub cells_good : (size : ℕ) (C : List Column) (t : Tuple) (r : List ℕ) → shaped C t ≡ true → read_cells size C (coded_row t ++ r) ≡ found t r
cells_good size [] [] r h = refl
cells_good size [] (v ∷ t) r h = absurd (false≢true h)
cells_good size (c ∷ C) [] r h = absurd (false≢true h)
cells_good size (c ∷ C) (v ∷ t) r h =
    let w = and_parts (of_kind c.kind v) (shaped C t) h in
    ap (read_cells size (c ∷ C)) (append_assoc (coded_cell v) (coded_row t) r)
    ∙ ap (λ o. and_then o (λ v b₁. and_then (read_cells size C b₁) (λ t b₂. found (v ∷ t) b₂))) (cell_good size c.kind v (coded_row t ++ r) w.0)
    ∙ ap (λ o. and_then o (λ t b₂. found (v ∷ t) b₂)) (cells_good size C t r w.1)

-- What is read as a cell.
pub data CellRead (size : ℕ) (b : List ℕ) (k : Kind) : Read Value → Type 0 where
  good_cell : (v : Value) (r : List ℕ) → of_kind k v ≡ true → b ≡ coded_cell v ++ r → CellRead size b k (found v r)
  bad_cell : (n p : ℕ) → BadCell b k n → p ≡ place_in size b → CellRead size b k (bad n p)

of_front : (size : ℕ) (b : List ℕ) (o : Option (ℕ × List ℕ)) → Front b o → CellRead size b numbers (and_then (or_23 size b o) (λ n rest. found (num n) rest))
of_front size b _ (a_number n r g) = good_cell (num n) r (le-leb n greatest g.0) g.1
of_front size b _ (no_number f) = bad_cell 23 (place_in size b) (not_a_number f) refl

text_split : (n : ℕ) (b : List ℕ) → n ≤ length b → n ∷ b ≡ length (take n b) ∷ (take n b ++ drop n b)
text_split n b h =
    let l : length (take n b) ≡ n = simp length-take (omega arith) in
    ap₂ {C = List ℕ} ◌∷◌ (sym l) (sym (take-append-drop n b))

of_text : (size n : ℕ) (b : List ℕ) (p q : Bool) → leb n (length b) ≡ p → is_text (take n b) ≡ q → CellRead size (n ∷ b) texts (and_then (cond p (cond q (found (take n b) (drop n b)) (bad 3 (place_in size (n ∷ b)))) (bad 23 (place_in size (n ∷ b)))) (λ s rest. found (text s) rest))
of_text size n b true true e h = good_cell (text (take n b)) (drop n b) h (text_split n b (leb-true n (length b) e))
of_text size n b true false e h = bad_cell 3 (place_in size (n ∷ b)) (not_a_text (take n b) (drop n b) (text_split n b (leb-true n (length b) e)) h) refl
of_text size n b false q e h = bad_cell 23 (place_in size (n ∷ b)) (cut_off n b refl (leb-false n (length b) e)) refl

pub cell_read : (size : ℕ) (k : Kind) (b : List ℕ) → CellRead size b k (read_cell size k b)
cell_read size numbers b = of_front size b (find_number b) (front b)
cell_read size texts [] = bad_cell 23 size (no_length refl) (omega arith)
cell_read size texts (n ∷ b) = of_text size n b (leb n (length b)) (is_text (take n b)) refl refl

-- What is read as the cells of some columns.
pub data CellsRead (size : ℕ) (b : List ℕ) (C : List Column) : Read Tuple → Type 0 where
  good_cells : (t : Tuple) (r : List ℕ) → shaped C t ≡ true → b ≡ coded_row t ++ r → CellsRead size b C (found t r)
  bad_cells : (A D : List Column) (c : Column) (t : Tuple) (r : List ℕ) (n p : ℕ) → C ≡ A ++ c ∷ D → shaped A t ≡ true → b ≡ coded_row t ++ r → BadCell r c.kind n → p ≡ place_in size r → CellsRead size b C (bad n p)

in_row : (b : List ℕ) (v : Value) (t : Tuple) (r s : List ℕ) → b ≡ coded_cell v ++ r → r ≡ coded_row t ++ s → b ≡ coded_row (v ∷ t) ++ s
in_row b v t r s g h = g ∙ ap (λ x. coded_cell v ++ x) h ∙ sym (append_assoc (coded_cell v) (coded_row t) s)

more_cells : (size : ℕ) (b : List ℕ) (c : Column) (C : List Column) (v : Value) (r : List ℕ) → of_kind c.kind v ≡ true → b ≡ coded_cell v ++ r → (o : Read Tuple) → CellsRead size r C o → CellsRead size b (c ∷ C) (and_then o (λ t b₂. found (v ∷ t) b₂))
more_cells size b c C v r h g _ (good_cells t s k e) = good_cells (v ∷ t) s (and_from (of_kind c.kind v) (shaped C t) h k) (in_row b v t r s g e)
more_cells size b c C v r h g _ (bad_cells A D d t s n p q k e x y) = bad_cells (c ∷ A) D d (v ∷ t) s n p (ap (λ (l : List Column). c ∷ l) q) (and_from (of_kind c.kind v) (shaped A t) h k) (in_row b v t r s g e) x y

first_cell : (size : ℕ) (b : List ℕ) (c : Column) (C : List Column) → ((r : List ℕ) → CellsRead size r C (read_cells size C r)) → (o : Read Value) → CellRead size b c.kind o → CellsRead size b (c ∷ C) (and_then o (λ v b₁. and_then (read_cells size C b₁) (λ t b₂. found (v ∷ t) b₂)))
first_cell size b c C rec _ (good_cell v r h g) = more_cells size b c C v r h g (read_cells size C r) (rec r)
first_cell size b c C rec _ (bad_cell n p h g) = bad_cells [] C c [] b n p refl refl refl h g

pub cells_read : (size : ℕ) (C : List Column) (b : List ℕ) → CellsRead size b C (read_cells size C b)
cells_read size [] b = good_cells [] b refl refl
cells_read size (c ∷ C) b = first_cell size b c C (cells_read size C) (read_cell size c.kind b) (cell_read size c.kind b)

-- What is read as the header.
pub data HeaderRead (size : ℕ) (b h : List ℕ) : Read (Unit {0}) → Type 0 where
  whole_header : (r : List ℕ) → b ≡ h ++ r → HeaderRead size b h (found tt r)
  short_header : (x : ℕ) (later : List ℕ) → h ≡ b ++ x ∷ later → HeaderRead size b h (bad 23 size)
  other_header : (g later rest : List ℕ) (x y p : ℕ) → h ≡ g ++ x ∷ later → b ≡ g ++ y ∷ rest → (x ≡ y → ⊥) → p ≡ place_in size (y ∷ rest) → HeaderRead size b h (bad 24 p)

longer_header : (size x y : ℕ) (b h : List ℕ) → x ≡ y → (o : Read (Unit {0})) → HeaderRead size b h o → HeaderRead size (y ∷ b) (x ∷ h) o
longer_header size x y b h e _ (whole_header r g) = whole_header r (ap₂ {C = List ℕ} ◌∷◌ (sym e) g)
longer_header size x y b h e _ (short_header z later g) = short_header z later (ap₂ {C = List ℕ} ◌∷◌ e g)
longer_header size x y b h e _ (other_header g later rest z w p i j n k) = other_header (x ∷ g) later rest z w p (ap (λ (l : List ℕ). x ∷ l) i) (ap₂ {C = List ℕ} ◌∷◌ (sym e) j) n k

of_byte : (size x y : ℕ) (b h : List ℕ) (t : Bool) → eqb x y ≡ t → HeaderRead size b h (read_header size h b) → HeaderRead size (y ∷ b) (x ∷ h) (cond t (read_header size h b) (bad 24 (place_in size (y ∷ b))))
of_byte size x y b h true e r = longer_header size x y b h (eqb-true x y e) (read_header size h b) r
of_byte size x y b h false e r = other_header [] h b x y (place_in size (y ∷ b)) refl refl (eqb-false x y e) refl

pub header_read : (size : ℕ) (h b : List ℕ) → HeaderRead size b h (read_header size h b)
header_read size [] b = whole_header b refl
header_read size (x ∷ h) [] = short_header x h refl
header_read size (x ∷ h) (y ∷ b) = of_byte size x y b h (eqb x y) refl (header_read size h b)

pub header_good : (size : ℕ) (h r : List ℕ) → read_header size h (h ++ r) ≡ found tt r
header_good size [] r = refl
header_good size (x ∷ h) r = rw (eq-eqb x x refl) (header_good size h r)

-- bad fields are refused at their first byte
pub number_bad : (size : ℕ) (b : List ℕ) → NoNumber b → read_number size b ≡ bad 23 (place_in size b)
number_bad size b f = ap (or_23 size b) ((none_exact b).1 f)

cell_bad : (size : ℕ) (k : Kind) (b : List ℕ) (n : ℕ) → BadCell b k n → read_cell size k b ≡ bad n (place_in size b)
cell_bad size _ b _ (not_a_number f) = ap (λ o. and_then o (λ m rest. found (num m) rest)) (number_bad size b f)
cell_bad size _ b _ (no_length g) = ap (read_cell size texts) g ∙ ap (λ p. bad 23 p) (simp g (omega arith))
cell_bad size _ b _ (cut_off n s g l) = ap (read_cell size texts) g ∙ rw (lt-leb n (length s) l, g)
cell_bad size _ b _ (not_a_text s r g h) =
    let l : leb (length s) (length (s ++ r)) ≡ true = le-leb (length s) (length (s ++ r)) (omega (arith, length-append s r)) in
    ap (read_cell size texts) g ∙ rw (l, take-append_seam s r, h, g)

pub cells_bad : (size : ℕ) (A D : List Column) (c : Column) (t : Tuple) (r : List ℕ) (n : ℕ) → shaped A t ≡ true → BadCell r c.kind n → read_cells size (A ++ c ∷ D) (coded_row t ++ r) ≡ bad n (place_in size r)
cells_bad size [] D c [] r n h x = ap (λ o. and_then o (λ v b₁. and_then (read_cells size D b₁) (λ t b₂. found (v ∷ t) b₂))) (cell_bad size c.kind r n x)
cells_bad size [] D c (v ∷ t) r n h x = absurd (false≢true h)
cells_bad size (a ∷ A) D c [] r n h x = absurd (false≢true h)
cells_bad size (a ∷ A) D c (v ∷ t) r n h x =
    let w = and_parts (of_kind a.kind v) (shaped A t) h in
    ap (read_cells size (a ∷ (A ++ c ∷ D))) (append_assoc (coded_cell v) (coded_row t) r)
    ∙ ap (λ o. and_then o (λ v b₁. and_then (read_cells size (A ++ c ∷ D) b₁) (λ t b₂. found (v ∷ t) b₂))) (cell_good size a.kind v (coded_row t ++ r) w.0)
    ∙ ap (λ o. and_then o (λ t b₂. found (v ∷ t) b₂)) (cells_bad size A D c t r n w.1 x)

pub header_ends : (size : ℕ) (b : List ℕ) (x : ℕ) (later : List ℕ) → read_header size (b ++ x ∷ later) b ≡ bad 23 size
header_ends size [] x later = refl
header_ends size (y ∷ b) x later = rw (eq-eqb y y refl) (header_ends size b x later)

pub header_other : (size : ℕ) (g later rest : List ℕ) (x y : ℕ) → (x ≡ y → ⊥) → read_header size (g ++ x ∷ later) (g ++ y ∷ rest) ≡ bad 24 (place_in size (y ∷ rest))
header_other size [] later rest x y n = rw (ne_eqb x y n)
header_other size (z ∷ g) later rest x y n = rw (eq-eqb z z refl) (header_other size g later rest x y n)
