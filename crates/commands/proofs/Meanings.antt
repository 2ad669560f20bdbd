-- What a line means, step by step.
use Rattle.std.proofs.Common.{◌≡◌, ℕ, ◌||◌, true, false, cond, List, [], ◌∷◌, length, Some, None, sym, refl, ap, ◌∙◌, arith, Bor}
use Rattle.std.proofs.lemmas.Bool.{cond-true, cond-false}
use Rattle.model.specs.Values.{any}
use Rattle.commands.specs.declared.parsing.Verb.{Verb}
use Rattle.commands.specs.Lists.{front, behind, and_then}
use Rattle.commands.specs.Lines.{command_word, arguments_of, words_of, texts}
use Rattle.commands.specs.Forms.{Word, verb_of, says, command_of, is_arrow, no_arrow, dep, dep_parts, dep_said}
use Rattle.commands.proofs.Cuts.{front-map, behind-map}

-- the command of a line
pub command_steps : (l : List ℕ) (v : Verb) (ws : List Word) → verb_of (command_word l) ≡ Some v → words_of (arguments_of l) ≡ Some ws → command_of l ≡ says v ws
command_steps l v ws e f =
    ap (λ o. and_then o (λ u. and_then (words_of (arguments_of l)) (λ us. says u us))) e ∙ ap (λ o. and_then o (λ us. says v us)) f

pub command_malformed : (l : List ℕ) (v : Verb) → verb_of (command_word l) ≡ Some v → words_of (arguments_of l) ≡ None → command_of l ≡ None
command_malformed l v e f =
    ap (λ o. and_then o (λ u. and_then (words_of (arguments_of l)) (λ us. says u us))) e ∙ ap (λ o. and_then o (λ us. says v us)) f

pub none_is : (ws : List (Bor Word)) → length ws ≡ 0 → texts ws ≡ []
none_is [] e = refl
none_is (w ∷ ws) e = absurd (omega arith)

any-texts : (ws : List (Bor Word)) → any is_arrow (texts ws) ≡ any (λ w. is_arrow w.now) ws
any-texts [] = refl
any-texts (w ∷ ws) = ap (λ t. is_arrow w.now || t) (any-texts ws)

-- the words of a dependency, cut before the first arrow
module _ (ws left after : List (Bor Word)) (d : left ≡ front (λ w. no_arrow w.now) ws) (e : after ≡ behind (λ w. no_arrow w.now) ws) where
  cut : dep_said (texts ws) ≡ dep_parts (texts left) (texts after)
  cut =
      ap (λ l. dep_parts l (behind no_arrow (texts ws))) (sym (ap texts d ∙ front-map no_arrow (λ w. w.now) ws)) ∙ ap (dep_parts (texts left)) (sym (ap texts e ∙ behind-map no_arrow (λ w. w.now) ws))

  pub dep_none : length after ≡ 0 → dep_said (texts ws) ≡ None
  dep_none n = cut ∙ ap (dep_parts (texts left)) (none_is after n)

  module _ (arrow : Bor Word) (right : List (Bor Word)) (n : after ≡ arrow ∷ right) where
    rest : dep_said (texts ws) ≡ cond (any (λ w. is_arrow w.now) right) None (Some (dep (texts left) (texts right)))
    rest = cut ∙ ap (λ l. dep_parts (texts left) (texts l)) n ∙ ap (λ t. cond t None (Some (dep (texts left) (texts right)))) (any-texts right)

    pub dep_two : any (λ w. is_arrow w.now) right ≡ true → dep_said (texts ws) ≡ None
    dep_two e = rest ∙ cond-true (any (λ w. is_arrow w.now) right) None _ e

    pub dep_one : any (λ w. is_arrow w.now) right ≡ false → dep_said (texts ws) ≡ Some (dep (texts left) (texts right))
    dep_one e = rest ∙ cond-false (any (λ w. is_arrow w.now) right) None _ e
