-- Rename keeps the laws.
use Rattle.std.proofs.Common.{◌≡◌, ℕ, zero, suc, true, ◌⊎◌, List, [], ◌∷◌, sym, refl, ap, ◌∙◌, subst, inl, inr}
use Rattle.model.specs.ColumnSets.{ColumnSet, Within}
use Rattle.model.specs.Orders.{Order}
use Rattle.model.specs.Renaming.{Unused, rename, rename_at, rename_sort}
use Rattle.model.specs.Sorts.{Column, Distinct, Meets, Shaped, Sort, all_columns}
use Rattle.model.specs.Tables.{Lawful, Rules}
use Rattle.model.specs.Values.{Relation, Tuple, ◌∈◌}

shaped_up : (k : ℕ) (w : List ℕ) (C : List Column) (t : Tuple) → Shaped C t → Shaped (rename_at k w C) t
shaped_up k w [] t h = h
shaped_up zero w (c ∷ C) [] h = h
shaped_up zero w (c ∷ C) (v ∷ t) h = h
shaped_up (suc k) w (c ∷ C) [] h = h
shaped_up (suc k) w (c ∷ C) (v ∷ t) h = (h.0, shaped_up k w C t h.1)

pub shaped_down : (k : ℕ) (w : List ℕ) (C : List Column) (t : Tuple) → Shaped (rename_at k w C) t → Shaped C t
shaped_down k w [] t h = h
shaped_down zero w (c ∷ C) [] h = h
shaped_down zero w (c ∷ C) (v ∷ t) h = h
shaped_down (suc k) w (c ∷ C) [] h = h
shaped_down (suc k) w (c ∷ C) (v ∷ t) h = (h.0, shaped_down k w C t h.1)

-- a column of the renamed is one as it was, or has the new word
renamed_or : (k : ℕ) (w : List ℕ) (C : List Column) (e : Column) → e ∈ rename_at k w C → (e ∈ C) ⊎ (e.word ≡ w)
renamed_or k w [] e h = absurd h
renamed_or zero w (c ∷ C) e (inl p) = inr (ap (λ x. x.word) p)
renamed_or zero w (c ∷ C) e (inr h) = inl (inr h)
renamed_or (suc k) w (c ∷ C) e (inl p) = inl (inl p)
renamed_or (suc k) w (c ∷ C) e (inr h) = elim (renamed_or k w C e h) [ inl g ↦ inl (inr g) | inr g ↦ inr g ]

distinct : (k : ℕ) (w : List ℕ) (C : List Column) → ((c : Column) → c ∈ C → c.word ≡ w → ⊥) → Distinct C → Distinct (rename_at k w C)
distinct k w [] u d = d
distinct zero w (c ∷ C) u d = ((λ e h p. u e (inr h) (sym p)), d.1)
distinct (suc k) w (c ∷ C) u d = ((λ e h p. elim (renamed_or k w C e h) [ inl g ↦ d.0 e g p | inr g ↦ u c (inl refl) (p ∙ g) ]), distinct k w C (λ e h. u e (inr h)) d.1)

all_same : (k : ℕ) (w : List ℕ) (C : List Column) → all_columns C ≡ all_columns (rename_at k w C)
all_same k w [] = refl
all_same zero w (c ∷ C) = refl
all_same (suc k) w (c ∷ C) = ap {B = ColumnSet} (λ l. true ∷ l) (all_same k w C)

module _ (o : Order) where
  -- what meets the renamed sort meets the sort below
  pub renamed_meets : (k : ℕ) (w : List ℕ) (S : Sort) (R : Relation) → Meets o (rename_sort k w S) R → Meets o S R
  renamed_meets k w S R M = record { ascending = M.ascending; shaped = λ t h. shaped_down k w S.columns t (M.shaped t h); admits = M.admits; deps = M.deps }

  pub rename_lawful : (k : ℕ) (w : List ℕ) (K : Rules) → Unused w K.sort → Lawful o K → Lawful o (rename k w K)
  rename_lawful k w K U L =
      let S = K.sort in
      let up : (R : Relation) → Meets o S R → Meets o (rename_sort k w S) R =
      λ R M. record { ascending = M.ascending; shaped = λ t h. shaped_up k w S.columns t (M.shaped t h); admits = M.admits; deps = M.deps } in
      let down : (R : Relation) → Meets o (rename_sort k w S) R → Meets o S R =
      λ R M. record { ascending = M.ascending; shaped = λ t h. shaped_down k w S.columns t (M.shaped t h); admits = M.admits; deps = M.deps } in
      record {
        formed = record {
          words = distinct k w S.columns U L.formed.words;
          sets_some = L.formed.sets_some;
          sets_within = λ d h. subst (λ Z. Within d.left Z × Within d.right Z) (all_same k w S.columns) (L.formed.sets_within d h);
          sets_apart = L.formed.sets_apart;
          tree = L.formed.tree;
        };
        shown_meets = λ I s. up (K.shows I) (L.shown_meets I s);
        put_meets = λ J I s M. L.put_meets J I s (down J M);
        put_shows = λ J I s M. L.put_shows J I s (down J M);
        show_puts = L.show_puts;
        no_more = L.no_more;
      }
