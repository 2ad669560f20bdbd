use Rattle.std.proofs.Common.{◌≡◌, ℕ, ◌+◌, ◌<◌, List, [], ◌∷◌, length, get_or, drop, refl, ap, ◌∙◌, rules, arith}
use Rattle.std.proofs.lemmas.List.{drop_more, drop_all}
use Rattle.commands.proofs.parsing.verb_of.Goals as goal

byte : (w : List ℕ) (i b : ℕ) (l : List ℕ) → i < length w → get_or w i 0 ≡ b → drop (i + 1) w ≡ l → drop i w ≡ b ∷ l
byte w i b l lt e f = drop_more w i 0 lt ∙ ap (λ x. x ∷ drop (i + 1) w) e ∙ ap (λ r. b ∷ r) f

-- the longest of the words
pub returns-in-column : goal.returns-in-column
returns-in-column c =
    let w = c.args.word.now in
    let long : length w ≡ 6 = omega arith in
    let m = byte w 4 109 _ (omega arith) (search rules) (byte w 5 110 [] (omega arith) (search rules) (drop_all 6 w (omega arith))) in
    let l = byte w 2 108 _ (omega arith) (search rules) (byte w 3 117 _ (omega arith) (search rules) m) in
    let word : w ≡ 99 ∷ 111 ∷ 108 ∷ 117 ∷ 109 ∷ 110 ∷ [] = byte w 0 99 _ (omega arith) (search rules) (byte w 1 111 _ (omega arith) (search rules) l) in
    rw word refl
