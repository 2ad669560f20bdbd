-- Columns that are described one after the other.
use Rattle.std.proofs.Common.{◌≡◌, ℕ, ◌+◌, ◌<◌, Bool, true, false, cond, ◌&&◌, not, eqb, List, [], ◌∷◌, ◌++◌, map, length, get_or, take, drop, Some, None, Option, sym, refl, ap, ◌∙◌, arith}
use Rattle.std.proofs.lemmas.List.{at_drop_more, map_more}
use Rattle.std.proofs.lemmas.Bool.{false≢true}
use Rattle.model.specs.Faults.{Fault, fault, or_then}
use Rattle.model.specs.Values.{every}
use Rattle.model.specs.Words.{is_name}
use Rattle.model.specs.Sorts.{Column, Sort}
use Rattle.cells.specs.Worded.{name_fault}
use Rattle.sorts.specs.declared.offered.NewColumn.{NewColumn}
use Rattle.sorts.specs.Describing.{words_fault, column_words, column_fault, columns_fault, later_column_fault, all_columns_fault, of_columns, with_column}
use Rattle.sorts.specs.Offered.{offered_column, offered_columns}

some_none : (f : Fault) → Some f ≡ None → ⊥
some_none f e = let z : ◌≡◌ {A = ℕ} 0 1 = cc in omega arith

none_first : (g h : Option Fault) → or_then g h ≡ None → g ≡ None
none_first None h e = refl
none_first (Some f) h e = absurd (some_none f e)

none_second : (g h k : Option Fault) → g ≡ None → or_then g h ≡ k → h ≡ k
none_second g h k e q = ap (λ x. or_then x h) (sym e) ∙ q

module _ (xs : List NewColumn) (i : ℕ) (d : NewColumn) (here : i < length xs) where
  words_at : words_fault (column_words (offered_columns (drop i xs))) ≡ or_then (name_fault (offered_column (get_or xs i d)).word) (words_fault (column_words (offered_columns (drop (i + 1) xs))))
  words_at = at_drop_more (λ l. words_fault (column_words (offered_columns l))) xs i d here

  columns_at : (E : List Column) → columns_fault E (offered_columns (drop i xs)) ≡ or_then (column_fault E (offered_column (get_or xs i d))) (columns_fault (E ++ offered_column (get_or xs i d) ∷ []) (offered_columns (drop (i + 1) xs)))
  columns_at E = at_drop_more (λ l. columns_fault E (offered_columns l)) xs i d here

  module _ (S : Sort) (T : Option Fault) (so : S ≡ of_columns (offered_columns (take i xs))) (due : columns_fault (offered_columns (take i xs)) (offered_columns (drop i xs)) ≡ T)
      (named : words_fault (column_words (offered_columns (drop i xs))) ≡ None) where
    a_name : name_fault (offered_column (get_or xs i d)).word ≡ None
    a_name = none_first _ _ (sym words_at ∙ named)

    here_fault : column_fault (offered_columns (take i xs)) (offered_column (get_or xs i d)) ≡ later_column_fault S.columns (offered_column (get_or xs i d))
    here_fault = ap (λ s. column_fault s.columns (offered_column (get_or xs i d))) (sym so) ∙ sym (ap (λ x. or_then x (column_fault S.columns (offered_column (get_or xs i d)))) a_name)

    pub next_refused : (f : Fault) → later_column_fault S.columns (offered_column (get_or xs i d)) ≡ Some f → T ≡ Some f
    next_refused f e = sym due ∙ columns_at (offered_columns (take i xs)) ∙ ap (λ x. or_then x (columns_fault (offered_columns (take i xs) ++ offered_column (get_or xs i d) ∷ []) (offered_columns (drop (i + 1) xs)))) (here_fault ∙ e)

    module _ (fits : later_column_fault S.columns (offered_column (get_or xs i d)) ≡ None) where
      one_more : offered_columns (take (i + 1) xs) ≡ offered_columns (take i xs) ++ offered_column (get_or xs i d) ∷ []
      one_more = map_more offered_column xs i d here

      pub next_described : (S' : Sort) → S' ≡ with_column S (offered_column (get_or xs i d)) → S' ≡ of_columns (offered_columns (take (i + 1) xs))
      next_described S' e = e ∙ ap (λ s. with_column s (offered_column (get_or xs i d))) so ∙ ap of_columns (sym one_more)

      pub next_due : columns_fault (offered_columns (take (i + 1) xs)) (offered_columns (drop (i + 1) xs)) ≡ T
      next_due = ap (λ E. columns_fault E (offered_columns (drop (i + 1) xs))) one_more ∙ none_second _ _ T (here_fault ∙ fits) (sym (columns_at (offered_columns (take i xs))) ∙ due)

      pub next_named : words_fault (column_words (offered_columns (drop (i + 1) xs))) ≡ None
      next_named = none_second _ _ None a_name (sym words_at ∙ named)

pub some_offered : (xs : List NewColumn) (b : Bool) → b ≡ eqb (length xs) 0 → cond (not b) None (fault 4 0 0) ≡ None → all_columns_fault (offered_columns xs) ≡ columns_fault [] (offered_columns xs)
some_offered [] true e h = absurd (some_none (record { number = 4; kind = 0; place = 0 }) h)
some_offered [] false e h = absurd (false≢true e)
some_offered (x ∷ xs) b e h = refl

-- every word is a name
both_due : (a b : Bool) → or_then (cond a None (fault 3 0 0)) (cond b None (fault 3 0 0)) ≡ cond (a && b) None (fault 3 0 0)
both_due true b = refl
both_due false b = refl

pub all_names : (xs : List NewColumn) → words_fault (column_words (offered_columns xs)) ≡ cond (every is_name (map (λ d. d.word.now) xs)) None (fault 3 0 0)
all_names [] = refl
all_names (d ∷ xs) = ap (or_then (cond (is_name d.word.now) None (fault 3 0 0))) (all_names xs) ∙ both_due (is_name d.word.now) (every is_name (map (λ d. d.word.now) xs))
