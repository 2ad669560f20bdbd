use Rattle.std.proofs.Common.{[], ◌∷◌, ◌++◌, length, vec_items, sym, ap, ◌∙◌, ap₂}
use lib.ListN.{length-map}
use Rattle.std.proofs.lemmas.Result.{on_ok_weaker}
use Rattle.model.specs.Banks.{groups, coded_rows}
use Rattle.cells.specs.Held.{tuple, tuples}
use Rattle.columns.specs.Named.{named_column}
use Rattle.banks.specs.Codable.{All, Codable}
use Rattle.banks.proofs.Coded.{all_mapped, rows_joined, in_turn, kinds_of}
use Rattle.banks.proofs.writing.put_bank.Goals as goal

pub put_all-requires : goal.put_all-requires
put_all-requires c = all_mapped (All Codable) tuple c.args.rows.now c.requires.codable

pub returns : goal.returns
returns c =
    let was = vec_items c.args.out.now in
    let counted = vec_items c.put_number.new.out in
    let C = c.args.columns.now in
    let R = c.args.rows.now in
    on_ok_weaker c.put_all.result
    (λ e. in_turn was (vec_items c.extend_from_slice.new.self) (vec_items c.put_kinds.new.out) counted (vec_items c.put_all.new.out)
    (1 ∷ length C ∷ []) (kinds_of C) (groups (length R)) (coded_rows (tuples R))
    c.in_ok-extend_from_slice.ensures.items c.in_ok-put_kinds.ensures c.in_ok-put_number.ensures (e ∙ ap (λ l. counted ++ l) (rows_joined R))
    ∙ ap₂ (λ m n. was ++ 1 ∷ m ∷ (kinds_of C ++ (groups n ++ coded_rows (tuples R)))) (sym (length-map C named_column)) (sym (length-map R tuple)))
    c.put_all.ensures
