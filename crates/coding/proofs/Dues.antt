-- What is accepted and refused, in the words of the rules. Assumes nothing.
use Rattle.std.proofs.Common.{◌≡◌, ℕ, suc, ◌≤◌, Bool, true, false, cond, ◌⊎◌, List, [], ◌∷◌, ◌++◌, length, Some, None, Option, sym, refl, ap, ◌∙◌, subst, ap₂, inl, inr, arith}
use Rattle.std.proofs.lemmas.Bool.{both_ways}
use Rattle.model.specs.Values.{Tuple, Relation, ◌∈◌}
use Rattle.model.specs.Orders.{by_bytes, Ascending}
use Rattle.model.specs.Sorts.{Shaped, Dependency, MeetsDeps, admitted, Sort, greatest}
use Rattle.model.specs.Faults.{Fault, fault, or_then}
use Rattle.model.specs.Tables.{Rules}
use Rattle.model.specs.Decisions.{shaped}
use Rattle.model.specs.Judging.{breaks, rows_fault, dep_fault, sort_fault}
use Rattle.model.specs.Refusals.{RowsRight, Due}
use Rattle.model.specs.Refusals as offer
use Rattle.model.specs.Banks.{bank, coded_row, read_bank}
use Rattle.laws.proofs.Meeting.{shaped_is, is_shaped}
use Rattle.laws.proofs.Refusing.{rows_none, none_rows, sort_none, none_sort}
use Rattle.laws.proofs.Judging.{judge_due}
use Rattle.coding.specs.Reading.{WrittenReads, SoundBank, AcceptedExactly, BanksOnce, at, Begun, DueBank, RefusedExactly}
use Rattle.coding.specs.Reading as spec
use Rattle.coding.proofs.Rows.{not_none, same_fault, or_either}
use Rattle.coding.proofs.Whole.{Fine, BankFault, header_cut, header_differs, no_count, count_above, cell_bad, row_bad, left_over, row_breaks, accepted_clean, refused_fault, sound_accepted, same_accepted}

-- rows without fault are right
fine_right : (k : ℕ) (S : Sort) (R : Relation) → Fine k S R → RowsRight by_bytes S R
fine_right k S R e = let w = rows_none by_bytes k S None 0 R e in record { ascending = w.ascends; shaped = w.shapes; admits = w.parts }

right_fine : (k : ℕ) (S : Sort) (R : Relation) → RowsRight by_bytes S R → Fine k S R
right_fine k S R r = none_rows by_bytes k S None 0 R (record { first_above = tt; ascends = r.ascending; shapes = r.shaped; parts = r.admits })

-- lists
member : {A : Type 0} (a : A) (l r : List A) → a ∈ (l ++ a ∷ r)
member a [] r = inl refl
member a (x ∷ l) r = inr (member a l r)

in_either : {A : Type 0} (a b : A) (l : List A) → a ∈ (l ++ b ∷ []) → (a ∈ l) ⊎ (a ≡ b)
in_either a b [] (inl e) = inr e
in_either a b [] (inr h) = absurd h
in_either a b (x ∷ l) (inl e) = inl (inl e)
in_either a b (x ∷ l) (inr h) = elim (in_either a b l h) [ inl g ↦ inl (inr g) | inr g ↦ inr g ]

not_nil : {A : Type 0} (a : A) (l r : List A) → [] ≡ l ++ a ∷ r → ⊥
not_nil a [] r e = let z : ◌≡◌ {A = ℕ} 0 (suc (length r)) = ap length e in omega arith
not_nil a (x ∷ l) r e = let z : ◌≡◌ {A = ℕ} 0 (suc (length (l ++ a ∷ r))) = ap length e in omega arith

-- the last of a list is apart from the others
at_last : (R E L : Relation) (t u : Tuple) → R ++ t ∷ [] ≡ E ++ u ∷ L → ((R ≡ E) × (t ≡ u)) ⊎ ((M : Relation) × (R ≡ E ++ u ∷ M))
at_last [] [] L t u e = inl (refl, cc)
at_last [] (x ∷ E) L t u e = absurd (not_nil u E L cc)
at_last (s ∷ R) [] L t u e = let h : s ≡ u = cc in inr (R, ap (λ x. x ∷ R) h)
at_last (s ∷ R) (x ∷ E) L t u e =
    let h : s ≡ x = cc in
    let g : R ++ t ∷ [] ≡ E ++ u ∷ L = cc in
    elim (at_last R E L t u g) [
      | inl w ↦ inl (ap₂ {C = Relation} ◌∷◌ h w.0, w.1)
      | inr w ↦ inr (w.0, ap₂ {C = Relation} ◌∷◌ h w.1)
    ]

begins_ascending : (E L : Relation) (t : Tuple) → Ascending by_bytes (E ++ t ∷ L) → Ascending by_bytes (E ++ t ∷ [])
begins_ascending [] L t a = (tt, tt)
begins_ascending (x ∷ []) L t a = (a.0, begins_ascending [] L t a.1)
begins_ascending (x ∷ y ∷ E) L t a = (a.0, begins_ascending (y ∷ E) L t a.1)

-- The rows of a bank as rows that are offered to a table without stores.
abbrev offered_to : ℕ → Sort → Rules
offered_to k S = record { kind = k; sort = S; stores = []; shows = λ I. []; puts = λ J I. I }

dep_number_at : (k p : ℕ) (f : Fault) (b : Bool) (o : Option Fault) → (o ≡ Some f → f.number ≡ 20) → cond b (fault 20 k p) o ≡ Some f → f.number ≡ 20
dep_number_at k p f true o rec e = sym (ap (λ (g : Fault). g.number) (same_fault (at 20 k p) f e))
dep_number_at k p f false o rec e = rec e

dep_number : (k : ℕ) (D : List Dependency) (E : Relation) (p : ℕ) (J : Relation) (f : Fault) → dep_fault k D E p J ≡ Some f → f.number ≡ 20
dep_number k D E p [] f e = absurd (not_none f e)
dep_number k D E p (t ∷ J) f e = dep_number_at k p f (breaks D E t) (dep_fault k D (t ∷ E) (suc p) J) (dep_number k D (t ∷ E) (suc p) J f) e

module _ (k : ℕ) (S : Sort) where
  row_due : (J : Relation) (f : Fault) → rows_fault by_bytes k S None 0 J ≡ Some f → Due by_bytes (offered_to k S) J [] f
  row_due J f e = (judge_due by_bytes (offered_to k S) J [] f).0 (ap (λ x. or_then (or_then x (dep_fault k S.deps [] 0 J)) None) e)

  dep_due : (J : Relation) (f : Fault) → Fine k S J → dep_fault k S.deps [] 0 J ≡ Some f → Due by_bytes (offered_to k S) J [] f
  dep_due J f h e = (judge_due by_bytes (offered_to k S) J [] f).0 (ap₂ (λ x y. or_then (or_then x y) None) h e)

  judged_due : (J : Relation) (f : Fault) → Due by_bytes (offered_to k S) J [] f → (rows_fault by_bytes k S None 0 J ≡ Some f) ⊎ (dep_fault k S.deps [] 0 J ≡ Some f)
  judged_due J f d = elim (or_either (sort_fault by_bytes k S J) None f ((judge_due by_bytes (offered_to k S) J [] f).1 d)) [
    | inl e ↦ or_either (rows_fault by_bytes k S None 0 J) (dep_fault k S.deps [] 0 J) f e
    | inr e ↦ absurd (not_none f e)
  ]

-- A row that is bad after right ones is not above the last of them, or not admitted.
abbrev BadRow : ℕ → Sort → Relation → Tuple → Fault → Type 0
BadRow k S R t f = ((f ≡ at 18 k (length R)) × (Ascending by_bytes (R ++ t ∷ []) → ⊥)) ⊎ ((f ≡ at 19 k (length R)) × Ascending by_bytes (R ++ t ∷ []) × (admitted S.parts t ≡ false))

module _ (k : ℕ) (S : Sort) (R : Relation) (t : Tuple) (fine : Fine k S R) (fits : shaped S.columns t ≡ true) where
  right : RowsRight by_bytes S R
  right = fine_right k S R fine

  each_shaped : (s : Tuple) → s ∈ (R ++ t ∷ []) → Shaped S.columns s
  unfolding right
  each_shaped s m = elim (in_either s t R m) [ inl x ↦ right.shaped s x | inr q ↦ subst (Shaped S.columns) (sym q) (shaped_is S.columns t fits) ]

  of_row_due : (f : Fault) → rows_fault by_bytes k S None 0 (R ++ t ∷ []) ≡ Some f → Due by_bytes (offered_to k S) (R ++ t ∷ []) [] f → BadRow k S R t f
  unfolding right
  of_row_due _ e (offer.wrong_cells earlier later u q r n) = absurd (n (each_shaped u (subst (λ J. u ∈ J) (sym q) (member u earlier later))))
  of_row_due _ e (offer.not_above earlier later u q r h n) = elim (at_last R earlier later t u q) [
    | inl w ↦ inl (ap (λ (x : Relation). at 18 k (length x)) (sym w.0), λ a. n (subst (Ascending by_bytes) (ap₂ (λ (x : Relation) (y : Tuple). x ++ y ∷ []) w.0 w.1) a))
    | inr w ↦ absurd (n (begins_ascending earlier w.0 u (subst (Ascending by_bytes) w.1 right.ascending)))
  ]
  of_row_due _ e (offer.not_admitted earlier later u q r h a n) = elim (at_last R earlier later t u q) [
    | inl w ↦ inr (ap (λ (x : Relation). at 19 k (length x)) (sym w.0), subst (Ascending by_bytes) (sym (ap₂ (λ (x : Relation) (y : Tuple). x ++ y ∷ []) w.0 w.1)) a, ap (admitted S.parts) w.1 ∙ n)
    | inr w ↦ absurd (both_ways (admitted S.parts u) n (right.admits u (subst (λ J. u ∈ J) (sym w.1) (member u earlier w.0))))
  ]
  of_row_due f e (offer.breaks_dependency earlier later u q r m n) = absurd (not_none _ (sym (right_fine k S (R ++ t ∷ []) r) ∙ e))
  of_row_due _ e (offer.no_room m before after s fitting others Q q x y z l) = absurd (not_nil s before after q)

  bad_row_is : (f : Fault) → rows_fault by_bytes k S None 0 (R ++ t ∷ []) ≡ Some f → BadRow k S R t f
  bad_row_is f e = of_row_due f e (row_due k S (R ++ t ∷ []) f e)

-- A row that breaks a dependency with an earlier one.
record Break (k : ℕ) (S : Sort) (R : Relation) (f : Fault) : Type 0 where
  earlier : Relation
  later : Relation
  t : Tuple
  split : R ≡ earlier ++ t ∷ later
  met : MeetsDeps S.deps earlier
  broken : MeetsDeps S.deps (earlier ++ t ∷ []) → ⊥
  is : f ≡ at 20 k (length earlier)

of_dep_due : (k : ℕ) (S : Sort) (R : Relation) (f : Fault) → RowsRight by_bytes S R → Due by_bytes (offered_to k S) R [] f → Break k S R f
of_dep_due k S R _ r (offer.wrong_cells earlier later u q _ n) = absurd (n (r.shaped u (subst (λ J. u ∈ J) (sym q) (member u earlier later))))
of_dep_due k S R _ r (offer.not_above earlier later u q _ h n) = absurd (n (begins_ascending earlier later u (subst (Ascending by_bytes) q r.ascending)))
of_dep_due k S R _ r (offer.not_admitted earlier later u q _ h a n) = absurd (both_ways (admitted S.parts u) n (r.admits u (subst (λ J. u ∈ J) (sym q) (member u earlier later))))
of_dep_due k S R _ r (offer.breaks_dependency earlier later u q _ m n) = record { earlier = earlier; later = later; t = u; split = q; met = m; broken = n; is = refl }
of_dep_due k S R _ r (offer.no_room m before after s fitting others Q q x y z l) = absurd (not_nil s before after q)

module _ (k : ℕ) (S : Sort) (room : ℕ) (b : List ℕ) where
  of_bad_row : (n : ℕ) (R : Relation) (t : Tuple) (rest : List ℕ) (f : Fault) → Begun S room b n R (coded_row t ++ rest) → Shaped S.columns t → BadRow k S R t f → DueBank k S room b f
  of_bad_row n R t rest f g h (inl (e, x)) = subst (DueBank k S room b) (sym e) (spec.not_above n R t rest g h x)
  of_bad_row n R t rest f g h (inr (e, a, x)) = subst (DueBank k S room b) (sym e) (spec.not_admitted n R t rest g h a x)

  of_break : (R : Relation) (f : Fault) → b ≡ bank S.columns R → length R ≤ room → RowsRight by_bytes S R → Break k S R f → DueBank k S room b f
  of_break R f g l r w = subst (DueBank k S room b) (sym w.is) (spec.row_breaks R w.earlier w.later w.t g l r w.split w.met w.broken)

  fault_due : (f : Fault) → BankFault k S room b f → DueBank k S room b f
  fault_due _ (header_cut x later g) = spec.header_cut x later g
  fault_due _ (header_differs h later rest x y i j n) = spec.header_differs h later rest x y i j n
  fault_due _ (no_count rest g n) = spec.no_count rest g n
  fault_due _ (count_above n rest g h l) = spec.count_above n rest g h l
  fault_due _ (cell_bad n R C D c t rest m g l q h i j x) = spec.cell_bad n R C D c t rest m (record { stands = g; room_for = l; more = q; right = fine_right k S R h }) i (shaped_is C t j) x
  fault_due _ (row_bad n R t rest f g l q h i x) = of_bad_row n R t rest f (record { stands = g; room_for = l; more = q; right = fine_right k S R h }) (shaped_is S.columns t i) (bad_row_is k S R t h i f x)
  fault_due _ (left_over R x rest g l h) = spec.left_over R x rest g l (fine_right k S R h)
  fault_due _ (row_breaks R f g l h e) = of_break R f g l (fine_right k S R h) (of_dep_due k S R f (fine_right k S R h) (dep_due k S R f h e))

  row_fault_of : (R : Relation) (t : Tuple) (f : Fault) → (f.number ≡ 20 → ⊥) → Due by_bytes (offered_to k S) (R ++ t ∷ []) [] f → rows_fault by_bytes k S None 0 (R ++ t ∷ []) ≡ Some f
  row_fault_of R t f n d = elim (judged_due k S (R ++ t ∷ []) f d) [ inl e ↦ e | inr e ↦ absurd (n (dep_number k S.deps [] 0 (R ++ t ∷ []) f e)) ]

  dep_fault_of : (R : Relation) (f : Fault) → Fine k S R → Due by_bytes (offered_to k S) R [] f → dep_fault k S.deps [] 0 R ≡ Some f
  dep_fault_of R f h d = elim (judged_due k S R f d) [ inl e ↦ absurd (not_none f (sym h ∙ e)) | inr e ↦ e ]

  due_fault : (f : Fault) → DueBank k S room b f → BankFault k S room b f
  due_fault _ (spec.header_cut x later g) = header_cut x later g
  due_fault _ (spec.header_differs h later rest x y i j n) = header_differs h later rest x y i j n
  due_fault _ (spec.no_count rest g n) = no_count rest g n
  due_fault _ (spec.count_above n rest g h l) = count_above n rest g h l
  due_fault _ (spec.cell_bad n R C D c t rest m g i j x) = cell_bad n R C D c t rest m g.stands g.room_for g.more (right_fine k S R g.right) i (is_shaped C t j) x
  due_fault _ (spec.not_above n R t rest g h x) = row_bad n R t rest (at 18 k (length R)) g.stands g.room_for g.more (right_fine k S R g.right) (is_shaped S.columns t h) (row_fault_of R t (at 18 k (length R)) (λ e. omega arith) (offer.not_above R [] t refl g.right h x))
  due_fault _ (spec.not_admitted n R t rest g h a x) = row_bad n R t rest (at 19 k (length R)) g.stands g.room_for g.more (right_fine k S R g.right) (is_shaped S.columns t h) (row_fault_of R t (at 19 k (length R)) (λ e. omega arith) (offer.not_admitted R [] t refl g.right h a x))
  due_fault _ (spec.left_over R x rest g l r) = left_over R x rest g l (right_fine k S R r)
  due_fault _ (spec.row_breaks R earlier later t g l r q m n) = row_breaks R (at 20 k (length earlier)) g l (right_fine k S R r) (dep_fault_of R (at 20 k (length earlier)) (right_fine k S R r) (offer.breaks_dependency earlier later t q r m n))

pub refused_exactly : RefusedExactly
refused_exactly k room S b f h = let w = refused_fault k room S b f h in (λ q. fault_due k S room b f (w.0 q), λ d. w.1 (due_fault k S room b f d))

pub written_reads : WrittenReads
written_reads k room S R h m l = sound_accepted k room S (bank S.columns R) R h (refl, none_sort by_bytes k S R m, l)

pub accepted_exactly : AcceptedExactly
accepted_exactly k room S b R h =
    let w = accepted_clean k room S b R h in
    (λ q. let c = w.0 q in (c.0, sort_none by_bytes k S R c.1, c.2), λ s. w.1 (s.0, none_sort by_bytes k S R s.1, s.2))

pub banks_once : BanksOnce
banks_once S Q R h g m n e = same_accepted Q R (sym (written_reads 0 greatest S Q (omega arith) m h) ∙ ap (read_bank 0 S greatest) e ∙ written_reads 0 greatest S R (omega arith) n g)
