-- The rows of a bank. Assumes nothing.
use Rattle.std.proofs.Common.{◌≡◌, ℕ, zero, suc, ◌<◌, Bool, true, false, cond, ◌⊎◌, List, [], ◌∷◌, ◌++◌, length, Some, None, Option, sym, refl, ap, ◌∙◌, ap₂, inl, inr, append_assoc, arith}
use Rattle.std.proofs.lemmas.Bool.{and_parts, and_from}
use Rattle.model.specs.Values.{Tuple, Relation, every}
use Rattle.model.specs.Orders.{by_bytes}
use Rattle.model.specs.Sorts.{Column, admitted, Sort}
use Rattle.model.specs.Faults.{Fault, fault, or_then}
use Rattle.model.specs.Decisions.{shaped}
use Rattle.model.specs.Judging.{above, row_fault, rows_fault}
use Rattle.model.specs.Banks.{coded_row, coded_rows, Read, found, bad, and_then, place_in, read_cells, judge_row, read_rows}
use Rattle.coding.specs.Reading.{BadCell, at}
use Rattle.coding.proofs.Fields.{cells_good, cells_bad, CellsRead, good_cells, bad_cells, cells_read}

-- faults, or none
pub not_none : (f : Fault) → ◌≡◌ {A = Option Fault} None (Some f) → ⊥
not_none f e = let z : ◌≡◌ {A = ℕ} 0 1 = cc in omega arith

pub same_fault : (f g : Fault) → ◌≡◌ {A = Option Fault} (Some f) (Some g) → f ≡ g
same_fault f g e = cc

pub or_none : (x y : Option Fault) → or_then x y ≡ None → (x ≡ None) × (y ≡ None)
or_none None y e = (refl, e)
or_none (Some f) y e = absurd (not_none f (sym e))

-- a row that is due no fault passes each test
passes : (a b c : Bool) (f g h : Fault) → cond a (cond b (cond c None (Some f)) (Some g)) (Some h) ≡ None → (a ≡ true) × (b ≡ true) × (c ≡ true)
passes true true true f g h e = (refl, refl, refl)
passes true true false f g h e = absurd (not_none f (sym e))
passes true false c f g h e = absurd (not_none g (sym e))
passes false b c f g h e = absurd (not_none h (sym e))

module _ (k : ℕ) (S : Sort) (before : Option Tuple) (row : ℕ) (t : Tuple) where
  pub row_passes : row_fault by_bytes k S before row t ≡ None → (shaped S.columns t ≡ true) × (above by_bytes before t ≡ true) × (admitted S.parts t ≡ true)
  row_passes e = passes (shaped S.columns t) (above by_bytes before t) (admitted S.parts t) (at 19 k row) (at 18 k row) (at 17 k row) e

  row_none : shaped S.columns t ≡ true → above by_bytes before t ≡ true → admitted S.parts t ≡ true → row_fault by_bytes k S before row t ≡ None
  row_none h a d = rw (h, a, d)

  row_19 : shaped S.columns t ≡ true → above by_bytes before t ≡ true → admitted S.parts t ≡ false → row_fault by_bytes k S before row t ≡ Some (at 19 k row)
  row_19 h a d = rw (h, a, d)

  row_18 : shaped S.columns t ≡ true → above by_bytes before t ≡ false → row_fault by_bytes k S before row t ≡ Some (at 18 k row)
  row_18 h a = rw (h, a)

pub fine_shaped : (k : ℕ) (S : Sort) (before : Option Tuple) (row : ℕ) (R : Relation) → rows_fault by_bytes k S before row R ≡ None → every (shaped S.columns) R ≡ true
fine_shaped k S before row [] e = refl
fine_shaped k S before row (t ∷ R) e =
    let w = or_none (row_fault by_bytes k S before row t) (rows_fault by_bytes k S (Some t) (suc row) R) e in
    and_from (shaped S.columns t) (every (shaped S.columns) R) (row_passes k S before row t w.0).0 (fine_shaped k S (Some t) (suc row) R w.1)

-- the faults of rows have the table's kind
pub or_either : (x y : Option Fault) (f : Fault) → or_then x y ≡ Some f → (x ≡ Some f) ⊎ (y ≡ Some f)
or_either None y f e = inr e
or_either (Some g) y f e = inl e

row_kind : (k row : ℕ) (a b c : Bool) (f : Fault) → cond a (cond b (cond c None (fault 19 k row)) (fault 18 k row)) (fault 17 k row) ≡ Some f → f.kind ≡ k
row_kind k row true true true f e = absurd (not_none f e)
row_kind k row true true false f e = sym (ap (λ (g : Fault). g.kind) (same_fault (at 19 k row) f e))
row_kind k row true false c f e = sym (ap (λ (g : Fault). g.kind) (same_fault (at 18 k row) f e))
row_kind k row false b c f e = sym (ap (λ (g : Fault). g.kind) (same_fault (at 17 k row) f e))

pub rows_kind : (k : ℕ) (S : Sort) (before : Option Tuple) (row : ℕ) (R : Relation) (f : Fault) → rows_fault by_bytes k S before row R ≡ Some f → f.kind ≡ k
rows_kind k S before row [] f e = absurd (not_none f e)
rows_kind k S before row (t ∷ R) f e = elim (or_either (row_fault by_bytes k S before row t) (rows_fault by_bytes k S (Some t) (suc row) R) f e) [
  | inl g ↦ row_kind k row (shaped S.columns t) (above by_bytes before t) (admitted S.parts t) f g
  | inr g ↦ rows_kind k S (Some t) (suc row) R f g
]

-- Rows of the columns' kinds are judged as they are when offered.
unfoldable pub judged : Option Fault → Relation → List ℕ → Read Relation
judged None R r = found R r
judged (Some f) R r = bad f.number f.place

unfoldable with_row : Tuple → Read Relation → Read Relation
with_row t o = and_then o (λ R r. found (t ∷ R) r)

with_judged : (t : Tuple) (o : Option Fault) (R : Relation) (r : List ℕ) → with_row t (judged o R r) ≡ judged o (t ∷ R) r
unfolding judged with_row
with_judged t None R r = refl
with_judged t (Some f) R r = refl

judge_step : (k row : ℕ) (t : Tuple) (a d : Bool) (o : Option Fault) (R : Relation) (s r : List ℕ) (rest : Tuple → List ℕ → Read Relation) → rest t s ≡ judged o (t ∷ R) r →
    and_then (cond a (cond d (found t s) (bad 19 row)) (bad 18 row)) rest ≡ judged (or_then (cond a (cond d None (fault 19 k row)) (fault 18 k row)) o) (t ∷ R) r
unfolding judged
judge_step k row t true true o R s r rest e = e
judge_step k row t true false o R s r rest e = refl
judge_step k row t false d o R s r rest e = refl

pub rows_good : (size k : ℕ) (S : Sort) (before : Option Tuple) (row : ℕ) (R : Relation) (r : List ℕ) → every (shaped S.columns) R ≡ true → read_rows size S before row (length R) (coded_rows R ++ r) ≡ judged (rows_fault by_bytes k S before row R) R r
unfolding judged with_row
rows_good size k S before row [] r h = refl
rows_good size k S before row (t ∷ R) r h =
    let w = and_parts (shaped S.columns t) (every (shaped S.columns) R) h in
    let s = coded_rows R ++ r in
    let rest : Tuple → List ℕ → Read Relation = λ t b₁. with_row t (read_rows size S (Some t) (suc row) (length R) b₁) in
    ap (read_rows size S before row (suc (length R))) (append_assoc (coded_row t) (coded_rows R) r)
    ∙ ap (λ o. and_then (and_then o (judge_row S before row)) rest) (cells_good size S.columns t s w.0)
    ∙ judge_step k row t (above by_bytes before t) (admitted S.parts t) (rows_fault by_bytes k S (Some t) (suc row) R) R s r rest
    (ap (with_row t) (rows_good size k S (Some t) (suc row) R r w.1) ∙ with_judged t (rows_fault by_bytes k S (Some t) (suc row) R) R r)
    ∙ ap (λ x. judged (or_then (cond x (cond (above by_bytes before t) (cond (admitted S.parts t) None (fault 19 k row)) (fault 18 k row)) (fault 17 k row)) (rows_fault by_bytes k S (Some t) (suc row) R)) (t ∷ R) r) (sym w.0)

-- What is read as n rows.
pub data RowsRead (size k : ℕ) (S : Sort) (before : Option Tuple) (row n : ℕ) (b : List ℕ) : Read Relation → Type 0 where
  good_rows : (R : Relation) (r : List ℕ) → length R ≡ n → rows_fault by_bytes k S before row R ≡ None → b ≡ coded_rows R ++ r → RowsRead size k S before row n b (found R r)
  bad_field : (R : Relation) (A D : List Column) (c : Column) (t : Tuple) (r : List ℕ) (m p : ℕ) → length R < n → rows_fault by_bytes k S before row R ≡ None → S.columns ≡ A ++ c ∷ D → shaped A t ≡ true → b ≡ coded_rows R ++ (coded_row t ++ r) → BadCell r c.kind m → p ≡ place_in size r → RowsRead size k S before row n b (bad m p)
  bad_row : (R : Relation) (t : Tuple) (r : List ℕ) (f : Fault) (m p : ℕ) → length R < n → rows_fault by_bytes k S before row R ≡ None → shaped S.columns t ≡ true → rows_fault by_bytes k S before row (R ++ t ∷ []) ≡ Some f → b ≡ coded_rows R ++ (coded_row t ++ r) → f ≡ at m k p → RowsRead size k S before row n b (bad m p)

module _ (size k : ℕ) (S : Sort) (before : Option Tuple) (row n : ℕ) (b : List ℕ) (t : Tuple) (r : List ℕ) (stands : b ≡ coded_row t ++ r) where
  under : (x : List ℕ) (R : Relation) → r ≡ coded_rows R ++ x → b ≡ coded_rows (t ∷ R) ++ x
  under x R e = stands ∙ ap (λ y. coded_row t ++ y) e ∙ sym (append_assoc (coded_row t) (coded_rows R) x)

  more_rows : row_fault by_bytes k S before row t ≡ None → (o : Read Relation) → RowsRead size k S (Some t) (suc row) n r o → RowsRead size k S before row (suc n) b (and_then o (λ R b₂. found (t ∷ R) b₂))
  more_rows h _ (good_rows R s l e g) = good_rows (t ∷ R) s (ap suc l) (ap₂ or_then h e) (under s R g)
  more_rows h _ (bad_field R A D c u s m p l e x y g z w) = bad_field (t ∷ R) A D c u s m p (omega arith) (ap₂ or_then h e) x y (under (coded_row u ++ s) R g) z w
  more_rows h _ (bad_row R u s f m p l e x y g z) = bad_row (t ∷ R) u s f m p (omega arith) (ap₂ or_then h e) x (ap₂ or_then h y) (under (coded_row u ++ s) R g) z

  judged_row : shaped S.columns t ≡ true → RowsRead size k S (Some t) (suc row) n r (read_rows size S (Some t) (suc row) n r) → (a d : Bool) → above by_bytes before t ≡ a → admitted S.parts t ≡ d →
      RowsRead size k S before row (suc n) b (and_then (cond a (cond d (found t r) (bad 19 row)) (bad 18 row)) (λ t b₁. and_then (read_rows size S (Some t) (suc row) n b₁) (λ R b₂. found (t ∷ R) b₂)))
  judged_row h rec true true e g = more_rows (row_none k S before row t h e g) (read_rows size S (Some t) (suc row) n r) rec
  judged_row h rec true false e g = bad_row [] t r (at 19 k row) 19 row (omega arith) refl h (ap (λ x. or_then x None) (row_19 k S before row t h e g)) stands refl
  judged_row h rec false d e g = bad_row [] t r (at 18 k row) 18 row (omega arith) refl h (ap (λ x. or_then x None) (row_18 k S before row t h e)) stands refl

first_row : (size k : ℕ) (S : Sort) (before : Option Tuple) (row n : ℕ) (b : List ℕ) → ((t : Tuple) (r : List ℕ) → RowsRead size k S (Some t) (suc row) n r (read_rows size S (Some t) (suc row) n r)) → (o : Read Tuple) → CellsRead size b S.columns o →
    RowsRead size k S before row (suc n) b (and_then (and_then o (judge_row S before row)) (λ t b₁. and_then (read_rows size S (Some t) (suc row) n b₁) (λ R b₂. found (t ∷ R) b₂)))
first_row size k S before row n b rec _ (good_cells t r h g) = judged_row size k S before row n b t r g h (rec t r) (above by_bytes before t) (admitted S.parts t) refl refl
first_row size k S before row n b rec _ (bad_cells A D c t r m p q h g x y) = bad_field [] A D c t r m p (omega arith) refl q h g x y

pub rows_read : (size k : ℕ) (S : Sort) (before : Option Tuple) (row n : ℕ) (b : List ℕ) → RowsRead size k S before row n b (read_rows size S before row n b)
rows_read size k S before row zero b = good_rows [] b refl refl refl
rows_read size k S before row (suc n) b = first_row size k S before row n b (λ t r. rows_read size k S (Some t) (suc row) n r) (read_cells size S.columns b) (cells_read size S.columns b)

-- A bad field, or a bad row, after good rows.
module _ (size k : ℕ) (S : Sort) where
  pass_row : (before : Option Tuple) (row n : ℕ) (t : Tuple) (R : Relation) (x : List ℕ) → row_fault by_bytes k S before row t ≡ None → read_rows size S before row (suc n) (coded_rows (t ∷ R) ++ x) ≡ and_then (read_rows size S (Some t) (suc row) n (coded_rows R ++ x)) (λ Q b₂. found (t ∷ Q) b₂)
  pass_row before row n t R x e =
      let w = row_passes k S before row t e in
      ap (read_rows size S before row (suc n)) (append_assoc (coded_row t) (coded_rows R) x)
      ∙ ap (λ o. and_then (and_then o (judge_row S before row)) (λ t b₁. and_then (read_rows size S (Some t) (suc row) n b₁) (λ Q b₂. found (t ∷ Q) b₂))) (cells_good size S.columns t (coded_rows R ++ x) w.0)
      ∙ rw (w.1, w.2)

  pub field_refused : (before : Option Tuple) (row n : ℕ) (R : Relation) (A D : List Column) (c : Column) (t : Tuple) (r : List ℕ) (m : ℕ) → length R < n → rows_fault by_bytes k S before row R ≡ None → S.columns ≡ A ++ c ∷ D → shaped A t ≡ true → BadCell r c.kind m → read_rows size S before row n (coded_rows R ++ (coded_row t ++ r)) ≡ bad m (place_in size r)
  field_refused before row zero R A D c t r m l e q h x = absurd (omega arith)
  field_refused before row (suc n) [] A D c t r m l e q h x =
      ap (λ o. and_then (and_then o (judge_row S before row)) (λ t b₁. and_then (read_rows size S (Some t) (suc row) n b₁) (λ Q b₂. found (t ∷ Q) b₂)))
      (ap (λ C. read_cells size C (coded_row t ++ r)) q ∙ cells_bad size A D c t r m h x)
  field_refused before row (suc n) (s ∷ R) A D c t r m l e q h x =
      let w = or_none (row_fault by_bytes k S before row s) (rows_fault by_bytes k S (Some s) (suc row) R) e in
      pass_row before row n s R (coded_row t ++ r) w.0
      ∙ ap (λ o. and_then o (λ Q b₂. found (s ∷ Q) b₂)) (field_refused (Some s) (suc row) n R A D c t r m (omega arith) w.1 q h x)

  refuse_step : (row : ℕ) (t : Tuple) (r : List ℕ) (rest : Tuple → List ℕ → Read Relation) (f : Fault) (a d : Bool) → or_then (cond a (cond d None (fault 19 k row)) (fault 18 k row)) None ≡ Some f → and_then (cond a (cond d (found t r) (bad 19 row)) (bad 18 row)) rest ≡ bad f.number f.place
  refuse_step row t r rest f true true e = absurd (not_none f e)
  refuse_step row t r rest f true false e = ap (λ (g : Fault). bad g.number g.place) (same_fault (at 19 k row) f e)
  refuse_step row t r rest f false d e = ap (λ (g : Fault). bad g.number g.place) (same_fault (at 18 k row) f e)

  pub row_refused : (before : Option Tuple) (row n : ℕ) (R : Relation) (t : Tuple) (r : List ℕ) (f : Fault) → length R < n → rows_fault by_bytes k S before row R ≡ None → shaped S.columns t ≡ true → rows_fault by_bytes k S before row (R ++ t ∷ []) ≡ Some f → read_rows size S before row n (coded_rows R ++ (coded_row t ++ r)) ≡ bad f.number f.place
  row_refused before row zero R t r f l e h x = absurd (omega arith)
  row_refused before row (suc n) [] t r f l e h x =
      ap (λ o. and_then (and_then o (judge_row S before row)) (λ t b₁. and_then (read_rows size S (Some t) (suc row) n b₁) (λ Q b₂. found (t ∷ Q) b₂))) (cells_good size S.columns t r h)
      ∙ refuse_step row t r (λ t b₁. and_then (read_rows size S (Some t) (suc row) n b₁) (λ Q b₂. found (t ∷ Q) b₂)) f (above by_bytes before t) (admitted S.parts t)
      (ap (λ z. or_then (cond z (cond (above by_bytes before t) (cond (admitted S.parts t) None (fault 19 k row)) (fault 18 k row)) (fault 17 k row)) None) (sym h) ∙ x)
  row_refused before row (suc n) (s ∷ R) t r f l e h x =
      let w = or_none (row_fault by_bytes k S before row s) (rows_fault by_bytes k S (Some s) (suc row) R) e in
      pass_row before row n s R (coded_row t ++ r) w.0
      ∙ ap (λ o. and_then o (λ Q b₂. found (s ∷ Q) b₂)) (row_refused (Some s) (suc row) n R t r f (omega arith) w.1 h (ap (λ z. or_then z (rows_fault by_bytes k S (Some s) (suc row) (R ++ t ∷ []))) (sym w.0) ∙ x))
