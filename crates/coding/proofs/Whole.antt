-- Whole banks. Assumes nothing.
use Rattle.std.proofs.Common.{◌≡◌, ℕ, ◌-◌, ◌<◌, ◌≤◌, Bool, true, false, cond, leb, ◌↔◌, List, [], ◌∷◌, ◌++◌, length, Some, None, Option, sym, refl, ap, ◌∙◌, subst, ap₂, append_assoc, append-nil, arith, length-append}
use Rattle.std.proofs.lemmas.Bool.{leb-true, leb-false, le-leb, lt-leb}
use Rattle.model.specs.Values.{Tuple, Relation}
use Rattle.model.specs.Orders.{by_bytes}
use Rattle.model.specs.Sorts.{Column, greatest, Sort}
use Rattle.model.specs.Faults.{Fault, or_then}
use Rattle.model.specs.Decisions.{shaped}
use Rattle.model.specs.Judging.{rows_fault, dep_fault, sort_fault}
use Rattle.model.specs.Banks.{groups, coded_row, coded_rows, header, bank, Read, found, bad, and_then, place_in, read_header, find_number, or_23, read_count, read_rows, read_end, read_fields, Reading, accepted, refused, accept_unless, judge_fields, read_bank}
use Rattle.coding.specs.Numbers.{Begins, NoNumber}
use Rattle.coding.specs.Reading.{JudgedAsOffered, BadCell, at}
use Rattle.coding.proofs.Groups.{Front, a_number, no_number, front}
use Rattle.coding.proofs.Fields.{number_good, number_bad, HeaderRead, whole_header, short_header, other_header, header_read, header_good, header_ends, header_other}
use Rattle.coding.proofs.Rows.{or_none, fine_shaped, judged, rows_good, RowsRead, rows_kind, good_rows, bad_field, bad_row, rows_read, field_refused, row_refused}

-- What is accepted and what is refused, by the tests that are computed.
abbrev pub CleanBank : ℕ → Sort → ℕ → List ℕ → Relation → Type 0
CleanBank k S room b R = (b ≡ bank S.columns R) × (sort_fault by_bytes k S R ≡ None) × (length R ≤ room)

-- rows that are due no fault of their own
abbrev pub Fine : ℕ → Sort → Relation → Type 0
Fine k S R = rows_fault by_bytes k S None 0 R ≡ None

pub data BankFault (k : ℕ) (S : Sort) (room : ℕ) (b : List ℕ) : Fault → Type 0 where
  header_cut : (x : ℕ) (later : List ℕ) → header S.columns ≡ b ++ x ∷ later → BankFault k S room b (at 23 k (length b))
  header_differs : (h later rest : List ℕ) (x y : ℕ) → header S.columns ≡ h ++ x ∷ later → b ≡ h ++ y ∷ rest → (x ≡ y → ⊥) → BankFault k S room b (at 24 k (length h))
  no_count : (rest : List ℕ) → b ≡ header S.columns ++ rest → NoNumber rest → BankFault k S room b (at 23 k (length (header S.columns)))
  count_above : (n : ℕ) (rest : List ℕ) → b ≡ header S.columns ++ (groups n ++ rest) → n ≤ greatest → room < n → BankFault k S room b (at 21 k (length (header S.columns)))
  cell_bad : (n : ℕ) (R : Relation) (C D : List Column) (c : Column) (t : Tuple) (rest : List ℕ) (number : ℕ) → b ≡ header S.columns ++ (groups n ++ (coded_rows R ++ (coded_row t ++ rest))) → n ≤ room → length R < n → Fine k S R → S.columns ≡ C ++ c ∷ D → shaped C t ≡ true → BadCell rest c.kind number → BankFault k S room b (at number k (length b - length rest))
  row_bad : (n : ℕ) (R : Relation) (t : Tuple) (rest : List ℕ) (f : Fault) → b ≡ header S.columns ++ (groups n ++ (coded_rows R ++ (coded_row t ++ rest))) → n ≤ room → length R < n → Fine k S R → shaped S.columns t ≡ true → rows_fault by_bytes k S None 0 (R ++ t ∷ []) ≡ Some f → BankFault k S room b f
  left_over : (R : Relation) (x : ℕ) (rest : List ℕ) → b ≡ bank S.columns R ++ x ∷ rest → length R ≤ room → Fine k S R → BankFault k S room b (at 23 k (length (bank S.columns R)))
  row_breaks : (R : Relation) (f : Fault) → b ≡ bank S.columns R → length R ≤ room → Fine k S R → dep_fault k S.deps [] 0 R ≡ Some f → BankFault k S room b f

-- the place after what stands before
after : (b x y : List ℕ) → b ≡ x ++ y → place_in (length b) y ≡ length x
after b x y e = omega (arith, ap length e, length-append x y)

bank_then : (C : List Column) (R : Relation) (r : List ℕ) → bank C R ++ r ≡ header C ++ (groups (length R) ++ (coded_rows R ++ r))
bank_then C R r = append_assoc (header C) (groups (length R) ++ coded_rows R) r ∙ ap (λ x. header C ++ x) (append_assoc (groups (length R)) (coded_rows R) r)

-- A good header and count, and what comes after them.
module _ (S : Sort) (room : ℕ) where
  rest_of : (size n : ℕ) → List ℕ → Read Relation
  rest_of size n b = and_then (read_rows size S None 0 n b) (read_end size)

  opened : (size n : ℕ) (r : List ℕ) → n ≤ greatest → n ≤ room → read_fields size S room (header S.columns ++ (groups n ++ r)) ≡ rest_of size n r
  unfolding rest_of
  opened size n r h l =
      ap (λ o. and_then o (λ _ b₁. and_then (read_count size room b₁) (λ n b₂. and_then (read_rows size S None 0 n b₂) (read_end size)))) (header_good size (header S.columns) (groups n ++ r))
      ∙ ap (λ o. and_then (and_then o (λ m rest. cond (leb m room) (found m rest) (bad 21 (place_in size (groups n ++ r))))) (λ n b₂. and_then (read_rows size S None 0 n b₂) (read_end size))) (number_good size n r h)
      ∙ rw (le-leb n room l)

judge_judged : (size k : ℕ) (S : Sort) (o : Option Fault) (R : Relation) → ((f : Fault) → o ≡ Some f → f.kind ≡ k) → judge_fields k S (and_then (judged o R []) (read_end size)) ≡ accept_unless (or_then o (dep_fault k S.deps [] 0 R)) R
unfolding judged
judge_judged size k S None R h = refl
judge_judged size k S (Some f) R h = ap (λ j. refused (record { number = f.number; kind = j; place = f.place })) (sym (h f refl))

pub judged_as_offered : JudgedAsOffered
unfolding rest_of
judged_as_offered k room S R h l e =
    let size = length (bank S.columns R) in
    ap (judge_fields k S) (opened S room size (length R) (coded_rows R) (omega arith) l
    ∙ ap (λ b. and_then (read_rows size S None 0 (length R) b) (read_end size)) (sym (append-nil (coded_rows R)))
    ∙ ap (λ o. and_then o (read_end size)) (rows_good size k S None 0 R [] e))
    ∙ judge_judged size k S (rows_fault by_bytes k S None 0 R) R (rows_kind k S None 0 R)

-- What is read as the fields of a bank.
data FieldsRead (k : ℕ) (S : Sort) (room : ℕ) (b : List ℕ) : Read Relation → Type 0 where
  good_fields : (R : Relation) → b ≡ bank S.columns R → Fine k S R → length R ≤ room → FieldsRead k S room b (found R [])
  bad_fields : (n p : ℕ) → BankFault k S room b (at n k p) → FieldsRead k S room b (bad n p)

module _ (k : ℕ) (S : Sort) (room : ℕ) (b : List ℕ) where
  moved : (n p q : ℕ) → p ≡ q → BankFault k S room b (at n k q) → BankFault k S room b (at n k p)
  moved n p q e d = subst (λ z. BankFault k S room b (at n k z)) (sym e) d

  of_end : (R : Relation) (r : List ℕ) → b ≡ header S.columns ++ (groups (length R) ++ (coded_rows R ++ r)) → Fine k S R → length R ≤ room → FieldsRead k S room b (read_end (length b) R r)
  of_end R [] g h l = good_fields R (g ∙ ap (λ x. header S.columns ++ (groups (length R) ++ x)) (append-nil (coded_rows R))) h l
  of_end R (x ∷ r) g h l =
      let e = g ∙ sym (bank_then S.columns R (x ∷ r)) in
      bad_fields 23 (place_in (length b) (x ∷ r)) (moved 23 (place_in (length b) (x ∷ r)) (length (bank S.columns R)) (after b (bank S.columns R) (x ∷ r) e) (left_over R x r e l h))

  of_rows : (n : ℕ) (s : List ℕ) → b ≡ header S.columns ++ (groups n ++ s) → n ≤ room → (o : Read Relation) → RowsRead (length b) k S None 0 n s o → FieldsRead k S room b (and_then o (read_end (length b)))
  of_rows n s g l _ (good_rows R r q h e) =
      of_end R r (g ∙ ap (λ x. header S.columns ++ (groups n ++ x)) e ∙ ap (λ x. header S.columns ++ (groups x ++ (coded_rows R ++ r))) (sym q)) h (omega arith)
  of_rows n s g l _ (bad_field R A D c t r m p q h i j e x y) =
      bad_fields m p (moved m p (length b - length r) y (cell_bad n R A D c t r m (g ∙ ap (λ x. header S.columns ++ (groups n ++ x)) e) l q h i j x))
  of_rows n s g l _ (bad_row R t r f m p q h i x e y) =
      bad_fields m p (subst (BankFault k S room b) y (row_bad n R t r f (g ∙ ap (λ x. header S.columns ++ (groups n ++ x)) e) l q h i x))

  of_room : (n : ℕ) (r s : List ℕ) → b ≡ header S.columns ++ r → Begins r n s → (t : Bool) → leb n room ≡ t →
      FieldsRead k S room b (and_then (cond t (found n s) (bad 21 (place_in (length b) r))) (λ n b₂. and_then (read_rows (length b) S None 0 n b₂) (read_end (length b))))
  of_room n r s g h true q =
      let w = g ∙ ap (λ x. header S.columns ++ x) h.1 in
      of_rows n s w (leb-true n room q) (read_rows (length b) S None 0 n s) (rows_read (length b) k S None 0 n s)
  of_room n r s g h false q =
      bad_fields 21 (place_in (length b) r) (moved 21 (place_in (length b) r) (length (header S.columns)) (after b (header S.columns) r g) (count_above n s (g ∙ ap (λ x. header S.columns ++ x) h.1) h.0 (leb-false n room q)))

  of_count : (r : List ℕ) → b ≡ header S.columns ++ r → (o : Option (ℕ × List ℕ)) → Front r o →
      FieldsRead k S room b (and_then (and_then (or_23 (length b) r o) (λ n rest. cond (leb n room) (found n rest) (bad 21 (place_in (length b) r)))) (λ n b₂. and_then (read_rows (length b) S None 0 n b₂) (read_end (length b))))
  of_count r g _ (a_number n s h) = of_room n r s g h (leb n room) refl
  of_count r g _ (no_number f) = bad_fields 23 (place_in (length b) r) (moved 23 (place_in (length b) r) (length (header S.columns)) (after b (header S.columns) r g) (no_count r g f))

  of_header : (o : Read (Unit {0})) → HeaderRead (length b) b (header S.columns) o →
      FieldsRead k S room b (and_then o (λ _ b₁. and_then (read_count (length b) room b₁) (λ n b₂. and_then (read_rows (length b) S None 0 n b₂) (read_end (length b)))))
  of_header _ (whole_header r g) = of_count r g (find_number r) (front r)
  of_header _ (short_header x later g) = bad_fields 23 (length b) (header_cut x later g)
  of_header _ (other_header h later rest x y p i j n q) = bad_fields 24 p (moved 24 p (length h) (q ∙ after b h (y ∷ rest) j) (header_differs h later rest x y i j n))

  fields_read : FieldsRead k S room b (read_fields (length b) S room b)
  fields_read = of_header (read_header (length b) (header S.columns) b) (header_read (length b) (header S.columns) b)

-- What is read as a bank.
data BankRead (k : ℕ) (S : Sort) (room : ℕ) (b : List ℕ) : Reading → Type 0 where
  sound : (R : Relation) → CleanBank k S room b R → BankRead k S room b (accepted R)
  due : (f : Fault) → BankFault k S room b f → BankRead k S room b (refused f)

of_deps : (k : ℕ) (S : Sort) (room : ℕ) (b : List ℕ) (R : Relation) → b ≡ bank S.columns R → Fine k S R → length R ≤ room → (o : Option Fault) → dep_fault k S.deps [] 0 R ≡ o → BankRead k S room b (accept_unless o R)
of_deps k S room b R g h l None e = sound R (g, ap₂ or_then h e, l)
of_deps k S room b R g h l (Some f) e = due f (row_breaks R f g l h e)

of_fields : (k : ℕ) (S : Sort) (room : ℕ) (b : List ℕ) (o : Read Relation) → FieldsRead k S room b o → BankRead k S room b (judge_fields k S o)
of_fields k S room b _ (good_fields R g h l) = of_deps k S room b R g h l (dep_fault k S.deps [] 0 R) refl
of_fields k S room b _ (bad_fields n p d) = due (at n k p) d

bank_read : (k : ℕ) (S : Sort) (room : ℕ) (b : List ℕ) → BankRead k S room b (read_bank k S room b)
bank_read k S room b = of_fields k S room b (read_fields (length b) S room b) (fields_read k S room b)

accepted_not_refused : (R : Relation) (f : Fault) → accepted R ≡ refused f → ⊥
accepted_not_refused R f e = let z : ◌≡◌ {A = ℕ} 0 1 = cc in omega arith

pub same_accepted : (R Q : Relation) → accepted R ≡ accepted Q → R ≡ Q
same_accepted R Q e = cc

same_refused : (f g : Fault) → refused f ≡ refused g → f ≡ g
same_refused f g e = cc

is_sound : (k : ℕ) (S : Sort) (room : ℕ) (b : List ℕ) (R : Relation) (o : Reading) → BankRead k S room b o → o ≡ accepted R → CleanBank k S room b R
is_sound k S room b R _ (sound Q s) e = subst (CleanBank k S room b) (same_accepted Q R e) s
is_sound k S room b R _ (due f d) e = absurd (accepted_not_refused R f (sym e))

is_due : (k : ℕ) (S : Sort) (room : ℕ) (b : List ℕ) (f : Fault) (o : Reading) → BankRead k S room b o → o ≡ refused f → BankFault k S room b f
is_due k S room b f _ (sound Q s) e = absurd (accepted_not_refused Q f e)
is_due k S room b f _ (due g d) e = subst (BankFault k S room b) (same_refused g f e) d

pub sound_accepted : (k room : ℕ) (S : Sort) (b : List ℕ) (R : Relation) → room ≤ greatest → CleanBank k S room b R → read_bank k S room b ≡ accepted R
sound_accepted k room S b R h (g, n, l) =
    let w = or_none (rows_fault by_bytes k S None 0 R) (dep_fault k S.deps [] 0 R) n in
    ap (read_bank k S room) g ∙ judged_as_offered k room S R h l (fine_shaped k S None 0 R w.0) ∙ ap (λ o. accept_unless o R) n

pub accepted_clean : (k room : ℕ) (S : Sort) (b : List ℕ) (R : Relation) → room ≤ greatest → (read_bank k S room b ≡ accepted R) ↔ CleanBank k S room b R
accepted_clean k room S b R h = (is_sound k S room b R (read_bank k S room b) (bank_read k S room b), sound_accepted k room S b R h)

-- A fault that is due is the one that is given.
module _ (k room : ℕ) (S : Sort) (b : List ℕ) (small : room ≤ greatest) where
  from_header : (n p : ℕ) → read_header (length b) (header S.columns) b ≡ bad n p → read_bank k S room b ≡ refused (at n k p)
  from_header n p e = ap (λ o. judge_fields k S (and_then o (λ _ b₁. and_then (read_count (length b) room b₁) (λ n b₂. and_then (read_rows (length b) S None 0 n b₂) (read_end (length b)))))) e

  from_count : (r : List ℕ) (n p : ℕ) → b ≡ header S.columns ++ r → read_count (length b) room r ≡ bad n p → read_bank k S room b ≡ refused (at n k p)
  from_count r n p g e =
      ap (λ x. judge_fields k S (read_fields (length b) S room x)) g
      ∙ ap (λ o. judge_fields k S (and_then o (λ _ b₁. and_then (read_count (length b) room b₁) (λ n b₂. and_then (read_rows (length b) S None 0 n b₂) (read_end (length b)))))) (header_good (length b) (header S.columns) r)
      ∙ ap (λ o. judge_fields k S (and_then o (λ n b₂. and_then (read_rows (length b) S None 0 n b₂) (read_end (length b))))) e

  from_rows : (n : ℕ) (r : List ℕ) (o : Read Relation) → b ≡ header S.columns ++ (groups n ++ r) → n ≤ room → read_rows (length b) S None 0 n r ≡ o → read_bank k S room b ≡ judge_fields k S (and_then o (read_end (length b)))
  unfolding rest_of
  from_rows n r o g l e =
      ap (λ x. judge_fields k S (read_fields (length b) S room x)) g
      ∙ ap (judge_fields k S) (opened S room (length b) n r (omega arith) l)
      ∙ ap (λ o. judge_fields k S (and_then o (read_end (length b)))) e

  due_refused : (f : Fault) → BankFault k S room b f → read_bank k S room b ≡ refused f
  unfolding judged
  due_refused _ (header_cut x later g) = from_header 23 (length b) (ap (λ h. read_header (length b) h b) g ∙ header_ends (length b) b x later)
  due_refused _ (header_differs h later rest x y i j n) = from_header 24 (length h)
      (ap₂ (λ a d. read_header (length b) a d) i j ∙ header_other (length b) h later rest x y n ∙ ap (λ p. bad 24 p) (after b h (y ∷ rest) j))
  due_refused _ (no_count r g f) = from_count r 23 (length (header S.columns)) g
      (ap (λ o. and_then o (λ n rest. cond (leb n room) (found n rest) (bad 21 (place_in (length b) r)))) (number_bad (length b) r f) ∙ ap (λ p. bad 23 p) (after b (header S.columns) r g))
  due_refused _ (count_above n r g h l) = from_count (groups n ++ r) 21 (length (header S.columns)) g
      (ap (λ o. and_then o (λ m rest. cond (leb m room) (found m rest) (bad 21 (place_in (length b) (groups n ++ r))))) (number_good (length b) n r h) ∙ rw (lt-leb n room l) (ap (λ p. bad 21 p) (after b (header S.columns) (groups n ++ r) g)))
  due_refused _ (cell_bad n R A D c t r m g l q h i j x) = from_rows n (coded_rows R ++ (coded_row t ++ r)) (bad m (place_in (length b) r)) g l (field_refused (length b) k S None 0 n R A D c t r m q h i j x)
  due_refused _ (row_bad n R t r f g l q h i x) =
      from_rows n (coded_rows R ++ (coded_row t ++ r)) (bad f.number f.place) g l (row_refused (length b) k S None 0 n R t r f q h i x)
      ∙ ap (λ j. refused (record { number = f.number; kind = j; place = f.place })) (sym (rows_kind k S None 0 (R ++ t ∷ []) f x))
  due_refused _ (left_over R x r g l h) =
      from_rows (length R) (coded_rows R ++ x ∷ r) (found R (x ∷ r)) (g ∙ bank_then S.columns R (x ∷ r)) l
      (rows_good (length b) k S None 0 R (x ∷ r) (fine_shaped k S None 0 R h) ∙ ap (λ o. judged o R (x ∷ r)) h)
      ∙ ap (λ p. refused (at 23 k p)) (after b (bank S.columns R) (x ∷ r) g)
  due_refused _ (row_breaks R f g l h e) =
      ap (read_bank k S room) g ∙ judged_as_offered k room S R small l (fine_shaped k S None 0 R h) ∙ ap (λ o. accept_unless o R) (ap₂ or_then h e)

pub refused_fault : (k room : ℕ) (S : Sort) (b : List ℕ) (f : Fault) → room ≤ greatest → (read_bank k S room b ≡ refused f) ↔ BankFault k S room b f
refused_fault k room S b f h = (is_due k S room b f (read_bank k S room b) (bank_read k S room b), due_refused k room S b h f)
