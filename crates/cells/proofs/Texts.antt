-- What may be a text or a name is UTF-8, and what is offered as a text is a cell exactly when its bytes are.
use Rattle.std.proofs.Common.{◌≡◌, ℕ, zero, suc, ◌<◌, Bool, true, false, cond, not, ◌&&◌, eqb, leb, List, [], ◌∷◌, length, IsUtf8, IsAscii, sym, refl, arith}
use lib.Utf8.{encodes, scalars}
use Rattle.std.proofs.lemmas.Bool.{and_from, and_parts, leb-true, both_ways, cond-true, cond-false}
use Rattle.std.proofs.lemmas.Str.{encodes-chars, scalars-chars, IsUtf8-from_ascii}
use Rattle.std.specs.Str.{chars}
use Rattle.model.specs.Sorts.{Kind, numbers, texts, is_text_byte, is_text, of_kind}
use Rattle.model.specs.Values.{text, every, same_bytes}
use Rattle.model.specs.Words.{is_letter, is_word, is_keyword, is_name}
use Rattle.cells.specs.Held.{is_utf8, offered}
use Rattle.cells.proofs.Sames.{same_bytes_decides}

pub every_ascii : (p : ℕ → Bool) → ((x : ℕ) → p x ≡ true → x < 128) → (b : List ℕ) → every p b ≡ true → IsAscii b
every_ascii p low [] h i = omega arith
every_ascii p low (x ∷ b) h zero = low x (and_parts (p x) (every p b) h).0
every_ascii p low (x ∷ b) h (suc i) = every_ascii p low b (and_parts (p x) (every p b) h).1 i

pub text_utf8 : (b : List ℕ) → is_text b ≡ true → IsUtf8 b
text_utf8 b h =
    let rest = (and_parts (leb 1 (length b)) (leb (length b) 16 && every is_text_byte b) h).1 in
    IsUtf8-from_ascii b
    (every_ascii is_text_byte (λ x e. omega (arith, leb-true x 0x7E (and_parts (leb x 0x7E) (not (eqb x 0x22)) (and_parts (leb 0x20 x) (leb x 0x7E && not (eqb x 0x22)) e).1).0)) b
    (and_parts (leb (length b) 16) (every is_text_byte b) rest).1)

pub name_utf8 : (b : List ℕ) → is_name b ≡ true → IsUtf8 b
name_utf8 b h =
    let word = (and_parts (is_word b) (not (is_keyword b)) h).0 in
    let rest = (and_parts (leb 1 (length b)) (leb (length b) 12 && every is_letter b) word).1 in
    IsUtf8-from_ascii b
    (every_ascii is_letter (λ x e. omega (arith, leb-true x 0x7A (and_parts (leb 0x61 x) (leb x 0x7A) e).1)) b
    (and_parts (leb (length b) 12) (every is_letter b) rest).1)

pub utf8_true : (b : List ℕ) → IsUtf8 b → is_utf8 b ≡ true
utf8_true b u = and_from (scalars (chars b)) (same_bytes (encodes (chars b)) b) (scalars-chars b u) ((same_bytes_decides (encodes (chars b)) b).1 (encodes-chars b u))

true_utf8 : (b : List ℕ) → is_utf8 b ≡ true → IsUtf8 b
true_utf8 b h =
    let parts = and_parts (scalars (chars b)) (same_bytes (encodes (chars b)) b) h in
    (chars b, (parts.0, (same_bytes_decides (encodes (chars b)) b).0 parts.1))

not_so : (r : Bool) → (r ≡ true → ⊥) → r ≡ false
not_so true h = absurd (h refl)
not_so false h = refl

pub utf8_false : (b : List ℕ) → (IsUtf8 b → ⊥) → is_utf8 b ≡ false
utf8_false b no_text = not_so (is_utf8 b) (λ e. no_text (true_utf8 b e))

pub no_name : (b : List ℕ) → (IsUtf8 b → ⊥) → is_name b ≡ false
no_name b no_text = not_so (is_name b) (λ e. no_text (name_utf8 b e))

pub offered_utf8 : (b : List ℕ) → IsUtf8 b → offered b ≡ text b
offered_utf8 b u = cond-true (is_utf8 b) (text b) (text []) (utf8_true b u)

pub offered_other : (b : List ℕ) → (IsUtf8 b → ⊥) → offered b ≡ text []
offered_other b no_text = cond-false (is_utf8 b) (text b) (text []) (utf8_false b no_text)

kind_at : (k : Kind) (b : List ℕ) (u : Bool) → is_utf8 b ≡ u → of_kind k (cond u (text b) (text [])) ≡ of_kind k (text b)
kind_at numbers b true e = refl
kind_at numbers b false e = refl
kind_at texts b true e = refl
kind_at texts b false e = sym (not_so (is_text b) (λ h. both_ways (is_utf8 b) e (utf8_true b (text_utf8 b h))))

pub offered_kind : (k : Kind) (b : List ℕ) → of_kind k (offered b) ≡ of_kind k (text b)
offered_kind k b = kind_at k b (is_utf8 b) refl
