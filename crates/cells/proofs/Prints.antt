-- A row that is printed cell by cell.
use Rattle.std.proofs.Common.{◌≡◌, ℕ, ◌+◌, ◌-◌, ◌<◌, ◌≤◌, List, [], ◌∷◌, ◌++◌, map, length, get_or, take, drop, sym, refl, ap, ◌∙◌, arith}
use Rattle.std.proofs.lemmas.List.{map_more, flat_map_more, take_all}
use Rattle.std.specs.List.{flat_map}
use Rattle.cells.specs.Held.{value}
use Rattle.cells.specs.Printed.{printed, spaced, printed_row}
use Rattle.cells.specs.declared.values.Cell.{Cell}

pub spaced_more : (xs : List Cell) (i : ℕ) (x : Cell) → i < length xs → x ≡ get_or xs i x → flat_map spaced (map value (take i xs)) ++ spaced (value x) ≡ flat_map spaced (map value (take (i + 1) xs))
spaced_more xs i x lt is =
    ap (λ c. flat_map spaced (map value (take i xs)) ++ spaced (value c)) is
    ∙ flat_map_more spaced [] (map value (take i xs)) (value (get_or xs i x))
    ∙ sym (ap (flat_map spaced) (map_more value xs i x lt))

pub row_none : (cells : List Cell) → length cells < 1 → [] ≡ printed_row (map value cells)
row_none [] h = refl
row_none (x ∷ cells) h = absurd (omega arith)

pub row_some : (cells : List Cell) (x : Cell) → 1 ≤ length cells → x ≡ get_or cells 0 x → printed (value x) ++ flat_map spaced (map value (take (length cells - 1) (drop 1 cells))) ≡ printed_row (map value cells)
row_some [] x h is = absurd (omega arith)
row_some (y ∷ cells) x h is =
    ap (λ c. printed (value c) ++ flat_map spaced (map value (take (length (y ∷ cells) - 1) cells))) is
    ∙ ap (λ l. printed (value y) ++ flat_map spaced (map value l)) (take_all (length (y ∷ cells) - 1) cells (omega arith))
