-- A column looked for among the columns from a place on.
use Rattle.std.proofs.Common.{◌≡◌, ℕ, suc, ◌+◌, Bool, true, false, cond, List, [], ◌∷◌, Some, None, Option, sym, refl, ap, ◌∙◌, arith}
use Rattle.std.specs.Option.{option_map}
use Rattle.std.specs.List.{position, position_from}
use Rattle.std.proofs.lemmas.Iterator.Adapters.{position_from-zero}
use Rattle.model.specs.Values.{same_bytes}
use Rattle.model.specs.Sorts.{lookup}
use Rattle.cells.specs.Worded.{letters}
use Rattle.columns.specs.declared.column.Column.{Column}
use Rattle.columns.specs.Named.{named_columns}

-- a place i further on
abbrev pub further : ℕ → Option ℕ → Option ℕ
further i None = None
further i (Some k) = Some (i + k)

further_suc : (i : ℕ) (r : Option ℕ) → further i (option_map suc r) ≡ further (i + 1) r
further_suc i None = refl
further_suc i (Some k) = ap Some (let e : i + suc k ≡ i + 1 + k = omega arith in e)

pub further_zero : (r : Option ℕ) → further 0 r ≡ r
further_zero None = refl
further_zero (Some k) = ap Some (let e : 0 + k ≡ k = omega arith in e)

position_further : (xs : List Column) (w : List ℕ) (i : ℕ) → position_from (λ x. same_bytes (letters x.word) w) i xs ≡ further i (lookup (named_columns xs) w)
position_further [] w i = refl
position_further (x ∷ xs) w i =
    let L : Option ℕ = lookup (named_columns xs) w in
    let cases : (b : Bool) → cond b (Some i) (position_from (λ y. same_bytes (letters y.word) w) (i + 1) xs) ≡ further i (cond b (Some 0) (option_map suc L)) = elim [
      | true ↦ ap Some (let e : i ≡ i + 0 = omega arith in e)
      | false ↦ position_further xs w (i + 1) ∙ sym (further_suc i L)
    ] in
    cases (same_bytes (letters x.word) w)

pub position_lookup : (xs : List Column) (w : List ℕ) → position (λ x. same_bytes (letters x.word) w) xs ≡ lookup (named_columns xs) w
position_lookup xs w = position_from-zero (λ x. same_bytes (letters x.word) w) xs ∙ position_further xs w 0 ∙ further_zero (lookup (named_columns xs) w)
