-- Decimal digits and the number that they write.
use Rattle.std.proofs.Common.{◌≡◌, ℕ, zero, suc, ◌^◌, ◌<◌, Bool, true, false, ◌&&◌, leb, ltb, List, [], ◌∷◌, length, get_or, Some, None, Ok, Err, Result, sym, refl, ap, arith}
use Rattle.std.specs.Str.Parse.{digits_value, ParsesUnsigned}
use Rattle.std.specs.Char.{is_ascii_digit}
use Rattle.std.specs.Str.{all_ascii_digits, IsUtf8}
use Rattle.std.specs.List.{list_all}
use Rattle.std.specs.Result.{result_ok}
use Rattle.std.proofs.lemmas.Option.{none-some}
use Rattle.std.proofs.lemmas.Str.{IsUtf8-from_ascii}
use Rattle.std.proofs.lemmas.Str.Parse.{numerals_by_value, tells_all_ascii_digits, parse_digits}
use Rattle.std.proofs.lemmas.Bool.{cond-false, lt-leb, and_left, and_right, and_parts, leb-true, ltb-true, ltb-false}
use Rattle.std.proofs.lemmas.Bool.Decides.{nat_tests}
use Rattle.commands.specs.Spelling.{numeral}

pub all_digits : (w : List ℕ) → list_all is_ascii_digit w ≡ all_ascii_digits w
all_digits [] = refl
all_digits (c ∷ w) = ap (λ t. is_ascii_digit c && t) (all_digits w)

digit_ascii : (c : ℕ) → is_ascii_digit c ≡ true → c < 128
digit_ascii c e = grind (arith, nat_tests)

digits_ascii : (w : List ℕ) → all_ascii_digits w ≡ true → (i : ℕ) → get_or w i 0 < 128
digits_ascii [] e i = omega arith
digits_ascii (c ∷ w) e zero = digit_ascii c (and_parts (is_ascii_digit c) (all_ascii_digits w) e).0
digits_ascii (c ∷ w) e (suc i) = digits_ascii w (and_parts (is_ascii_digit c) (all_ascii_digits w) e).1 i

pub digits_text : (w : List ℕ) → all_ascii_digits w ≡ true → IsUtf8 w
digits_text w e = IsUtf8-from_ascii w (digits_ascii w e)

pub numeral_none : (limit : ℕ) (w : List ℕ) → (leb 1 (length w) && (leb (length w) 10 && (all_ascii_digits w && leb (digits_value 10 w) limit))) ≡ false → None ≡ numeral limit w
numeral_none limit w e = sym (cond-false _ (Some (digits_value 10 w)) None e)

pub numeral_above : (limit : ℕ) (w : List ℕ) → limit < digits_value 10 w → None ≡ numeral limit w
numeral_above limit w h =
    numeral_none limit w (and_right (leb 1 (length w)) _ (and_right (leb (length w) 10) _ (and_right (all_ascii_digits w) _ (lt-leb (digits_value 10 w) limit h))))

-- digits that are not read as a number write none within a limit of 32 bits
pub numeral_unread : {E : Type 0} (limit : ℕ) (w : List ℕ) (r : Result ℕ E) → ParsesUnsigned 32 10 w r → all_ascii_digits w ≡ true → limit < 2 ^ 32 → result_ok r ≡ None → None ≡ numeral limit w
numeral_unread limit w (Ok n) h d l e = absurd (none-some n (sym e))
numeral_unread limit w (Err x) h d l e =
    by (leb 1 (length w)) refl (parse_digits (numerals_by_value (λ ds. all_ascii_digits ds ≡ true) tells_all_ascii_digits) 32 w (Err x) h d)
  where
    by : (t : Bool) → leb 1 (length w) ≡ t → ((0 < length w) × (digits_value 10 w < 2 ^ 32) → ⊥) → None ≡ numeral limit w
    by false n fails = numeral_none limit w (and_left (leb 1 (length w)) _ n)
    by true n fails = large (ltb (digits_value 10 w) (2 ^ 32)) refl
      where
        large : (t : Bool) → ltb (digits_value 10 w) (2 ^ 32) ≡ t → None ≡ numeral limit w
        large true v = absurd (fails (omega (arith, leb-true 1 (length w) n), ltb-true (digits_value 10 w) (2 ^ 32) v))
        large false v = numeral_above limit w (omega (arith, ltb-false (digits_value 10 w) (2 ^ 32) v))
