-- A column by its word among the first ones, and its kind.
use Rattle.std.proofs.Common.{◌≡◌, ℕ, zero, suc, ◌<◌, Bool, true, false, cond, ltb, List, [], ◌∷◌, length, get_or, take, Some, None, Option, sym, refl, ap, ◌∙◌, subst, arith}
use Rattle.std.specs.Option.{option_map}
use Rattle.std.proofs.lemmas.List.{length-map, length-take, get_or-take, get_or-map}
use Rattle.std.proofs.lemmas.Bool.{lt-ltb, le-ltb}
use Rattle.std.proofs.lemmas.Bool.Decides.{nat_tests}
use Rattle.model.specs.Values.{same_bytes}
use Rattle.model.specs.Sorts.{Column, Kind, lookup}
use Rattle.cells.specs.Held.{kind_of}
use Rattle.columns.specs.declared.column.Column as program
use Rattle.columns.specs.Named.{named_column, named_columns}
use Rattle.conditions.specs.Resolving.{first_eight, kind_named}

-- a place that is below n
abbrev cut : ℕ → Option ℕ → Option ℕ
cut n None = None
cut n (Some i) = cond (ltb i n) (Some i) None

cut_zero : (o : Option ℕ) → cut 0 o ≡ None
cut_zero None = refl
cut_zero (Some i) = ap (λ b. cond b (Some i) None) (le-ltb i 0 (omega arith))

mapped_cond : (b : Bool) (i : ℕ) → option_map suc (cond b (Some i) None) ≡ cond b (Some (suc i)) None
mapped_cond true i = refl
mapped_cond false i = refl

ltb_suc : (i n : ℕ) → ltb i n ≡ ltb (suc i) (suc n)
ltb_suc i n = grind (arith, nat_tests)

cut_suc : (n : ℕ) (o : Option ℕ) → option_map suc (cut n o) ≡ cut (suc n) (option_map suc o)
cut_suc n None = refl
cut_suc n (Some i) = mapped_cond (ltb i n) i ∙ ap (λ b. cond b (Some (suc i)) None) (ltb_suc i n)

cut_here : (n : ℕ) (b : Bool) (o : Option ℕ) → cond b (Some 0) (option_map suc (cut n o)) ≡ cut (suc n) (cond b (Some 0) (option_map suc o))
cut_here n true o = ap (λ b. cond b (Some 0) None) (sym (lt-ltb 0 (suc n) (omega arith)))
cut_here n false o = cut_suc n o

lookup_take : (n : ℕ) (C : List Column) (w : List ℕ) → lookup (take n C) w ≡ cut n (lookup C w)
lookup_take zero C w = sym (cut_zero (lookup C w))
lookup_take (suc n) [] w = refl
lookup_take (suc n) (c ∷ C) w = ap (λ o. cond (same_bytes c.word w) (Some 0) (option_map suc o)) (lookup_take n C w) ∙ cut_here n (same_bytes c.word w) (lookup C w)

-- the kind at a place
abbrev kind_at : List Column → Option ℕ → Option Kind
kind_at C None = None
kind_at [] (Some i) = None
kind_at (c ∷ C) (Some zero) = Some c.kind
kind_at (c ∷ C) (Some (suc i)) = kind_at C (Some i)

kind_next : (c : Column) (C : List Column) (b : Bool) (o : Option ℕ) → cond b (Some c.kind) (kind_at C o) ≡ kind_at (c ∷ C) (cond b (Some 0) (option_map suc o))
kind_next c C true o = refl
kind_next c C false None = refl
kind_next c C false (Some i) = refl

kind_lookup : (C : List Column) (w : List ℕ) → kind_named C w ≡ kind_at C (lookup C w)
kind_lookup [] w = refl
kind_lookup (c ∷ C) w = ap (cond (same_bytes c.word w) (Some c.kind)) (kind_lookup C w) ∙ kind_next c C (same_bytes c.word w) (lookup C w)

kind_get_or : (C : List Column) (i : ℕ) (d : Column) → i < length C → kind_at C (Some i) ≡ Some (get_or C i d).kind
kind_get_or [] i d h = absurd (let z : ⊥ = omega arith in z)
kind_get_or (c ∷ C) zero d h = refl
kind_get_or (c ∷ C) (suc i) d h = kind_get_or C i d (omega arith)

-- a place that is found is one of the list's
abbrev In : ℕ → Option ℕ → Type 0
In n None = Unit {0}
In n (Some i) = i < n

in_next : (n : ℕ) (b : Bool) (o : Option ℕ) → In n o → In (suc n) (cond b (Some 0) (option_map suc o))
in_next n true o h = omega arith
in_next n false None h = tt
in_next n false (Some i) h = omega arith

lookup_in : (C : List Column) (w : List ℕ) → In (length C) (lookup C w)
lookup_in [] w = tt
lookup_in (c ∷ C) w = in_next (length C) (same_bytes c.word w) (lookup C w) (lookup_in C w)

module _ (xs : List program.Column) (w : List ℕ) where
  pub found_within : (i : ℕ) → Some i ≡ lookup (named_columns xs) w → i < length xs
  found_within i e = subst (λ n. i < n) (length-map xs named_column) (subst (In (length (named_columns xs))) (sym e) (lookup_in (named_columns xs) w))

  place_cut : (o : Option ℕ) → o ≡ lookup (named_columns xs) w → cut 8 o ≡ lookup (first_eight xs) w
  place_cut o e = ap (cut 8) e ∙ sym (lookup_take 8 (named_columns xs) w)

  -- one of the eight
  pub some_place : (i : ℕ) → Some i ≡ lookup (named_columns xs) w → i < 8 → Some i ≡ lookup (first_eight xs) w
  some_place i e h = sym (ap (λ b. cond b (Some i) None) (lt-ltb i 8 h)) ∙ place_cut (Some i) e

  pub some_kind : (i : ℕ) (x : program.Column) → Some i ≡ lookup (named_columns xs) w → i < 8 → Some (kind_of (get_or xs i x).kind) ≡ kind_named (first_eight xs) w
  some_kind i x e h =
      let lt : i < length xs = found_within i e in
      let short : i < length (first_eight xs) = simp (length-take, length-map) (omega arith) in
      ap (λ c. Some c.kind) (sym (get_or-take 8 (named_columns xs) i (named_column x) h ∙ get_or-map named_column xs i x (named_column x) lt))
      ∙ sym (kind_get_or (first_eight xs) i (named_column x) short) ∙ ap (kind_at (first_eight xs)) (some_place i e h)
      ∙ sym (kind_lookup (first_eight xs) w)
