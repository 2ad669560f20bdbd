-- Where a column more is not refused, there are fewer than eight.
use Rattle.std.proofs.Common.{◌≡◌, ℕ, ◌<◌, ◌≤◌, cond, ltb, List, length, is_some, Some, None, sym, ap, ◌∙◌, ⊎_elim, arith, le-ltb}
use Rattle.std.proofs.lemmas.List.{length-map}
use Rattle.std.proofs.lemmas.Bool.{cases_lt}
use Rattle.model.specs.Sorts as sorts
use Rattle.model.specs.Faults.{Fault, fault}
use Rattle.columns.specs.declared.column.Column.{Column}
use Rattle.columns.specs.Named.{named_column, named_columns}
use Rattle.sorts.specs.Describing.{column_fault}

pub column_limit : (C : List Column) (n : ℕ) (c : sorts.Column) → n ≡ length C → 8 ≤ n → column_fault (named_columns C) c ≡ fault 4 0 0
column_limit C n c e h =
    ap (λ b. cond b (cond (is_some (sorts.lookup (named_columns C) c.word)) (fault 5 0 0) None) (fault 4 0 0)) (ap (λ k. ltb k 8) (length-map C named_column ∙ sym e) ∙ le-ltb n 8 h)

none_some : (f : Fault) → Some f ≡ None → ⊥
none_some f e = let z : ◌≡◌ {A = ℕ} 0 1 = cc in omega arith

pub column_room : (C : List Column) (n : ℕ) (c : sorts.Column) → n ≡ length C → column_fault (named_columns C) c ≡ None → n < 8
column_room C n c e h = ⊎_elim (λ lt. lt) (λ ge. absurd (none_some _ (sym (column_limit C n c e ge) ∙ h))) (cases_lt n 8)
