-- Words: the names of tables and columns.
use Rattle.std.specs.Prelude.{ℕ, Bool, not, ◌&&◌, List, [], ◌∷◌, length, codes, nat_le}
use Rattle.model.specs.Values.{any, every, same_bytes}

-- A word is 1 to 12 letters a to z.
abbrev pub is_letter : ℕ → Bool
is_letter x = nat_le 0x61 x && nat_le x 0x7A

abbrev pub is_word : List ℕ → Bool
is_word w = nat_le 1 (length w) && (nat_le (length w) 12 && every is_letter w)

-- the words that the grammar of definitions keeps for itself
abbrev pub keywords : List (List ℕ)
keywords = codes "and" ∷ codes "as" ∷ codes "default" ∷ codes "drop" ∷ codes "join" ∷ codes "not" ∷ codes "or" ∷ codes "rename" ∷ codes "select" ∷ []

abbrev pub is_keyword : List ℕ → Bool
is_keyword w = any (same_bytes w) keywords

-- A name is a word that may name something: any but a keyword.
abbrev pub is_name : List ℕ → Bool
is_name w = is_word w && not (is_keyword w)
