use Rattle.std.proofs.Common.{◌≡◌, ◌≤◌, ◌∷◌, true, length, take, drop, refl, rules}
use Rattle.model.specs.Sorts.{texts, is_text}
use Rattle.cells.specs.Held.{value}
use Rattle.banks.proofs.Texts.{text_found}
use Rattle.banks.proofs.cursor.Cursor.text.Goals as goal

pub returns : goal.returns
returns c =
    let n = c.in_ok-length.length.now in
    let r = c.in_ok-length.bytes.now in
    let front : c.args.self.now.rest.now ≡ n ∷ r = search rules in
    let fits : n ≤ length r = search rules in
    let text : c.in_ok-text.text.now ≡ take n r = search rules in
    let rest : c.in_ok-text.rest.now ≡ drop n r = search rules in
    let good : is_text c.in_ok-text.text.now ≡ true = search rules in
    (rw front (text_found c.args.self.now.size n r c.in_ok-text.text.now c.in_ok-text.rest.now fits text rest good (value c.in_ok-cell.cell) c.in_ok-cell.ensures.value (c.in_ok-cell.ensures.kinds texts)), refl, refl)
