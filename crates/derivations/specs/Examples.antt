-- Worked examples, computed from the definitions.
use Rattle.std.specs.Prelude.{◌≡◌, ℕ, List, [], ◌∷◌, ◌++◌, replicate, None, codes}
use Rattle.model.specs.Values.{num, text}
use Rattle.model.specs.Conditions.{equals, differs, less, greater}
use Rattle.model.specs.Faults.{fault}
use Rattle.grammar.specs.Signs.{at, word, quoted, key, comparing, stray, DEFAULT, DROP, SELECT, signs}
use Rattle.grammar.specs.Phrases.{named, given, compared, negated, bracket, both, either, source, select, drop, rename, join, placed}
use Rattle.grammar.specs.Reading.{condition_fault, condition_trees, definition_fault, definition_steps}

-- a definition, a condition with each of its forms, and one that shows that `and` joins before `or`
abbrev pub pads : List ℕ
pads = codes "songs select bank = \"Pads\" drop bank default \"Pads\""

abbrev pub nested : List ℕ
nested = codes "songs join (albums rename year as since) select since > 1970"

abbrev pub forms : List ℕ
forms = codes "not a=1 and (b<c or d!=\"x\")"

abbrev pub nine_nots : List ℕ
nine_nots = codes "not not not not not not not not not a = 1"

pub record Examples : Type 0 where
  pub pads_signs :
      signs pads ≡
      at 0 (word (codes "songs")) ∷
      at 6 (key SELECT) ∷
      at 13 (word (codes "bank")) ∷
      at 18 (comparing equals) ∷
      at 20 (quoted (codes "Pads")) ∷
      at 27 (key DROP) ∷
      at 32 (word (codes "bank")) ∷
      at 37 (key DEFAULT) ∷
      at 45 (quoted (codes "Pads")) ∷ []
  pub pads_steps :
      definition_steps pads ≡
      placed 0 (source (codes "songs")) ∷
      placed 6 (select (compared (codes "bank") equals (given (text (codes "Pads"))))) ∷
      placed 27 (drop (codes "bank") (text (codes "Pads"))) ∷ []
  pub pads_right : definition_fault pads ≡ None
  pub nested_steps :
      definition_steps nested ≡
      placed 0 (source (codes "songs")) ∷
      placed 12 (source (codes "albums")) ∷
      placed 19 (rename (codes "year") (codes "since")) ∷
      placed 6 join ∷
      placed 41 (select (compared (codes "since") greater (given (num 1970)))) ∷ []
  pub forms_tree :
      condition_trees forms ≡
      both (negated (compared (codes "a") equals (given (num 1))))
      (bracket (either (compared (codes "b") less (named (codes "c"))) (compared (codes "d") differs (given (text (codes "x")))))) ∷ []
  pub and_first :
      condition_trees (codes "a = b or c = d and e = f") ≡
      either (compared (codes "a") equals (named (codes "b")))
      (both (compared (codes "c") equals (named (codes "d"))) (compared (codes "e") equals (named (codes "f")))) ∷ []
  -- 1: the grammar lacks the sign, which is stray, missing, a keyword, or no quote
  pub stray_sign : condition_fault (codes "a = 1 ?") ≡ fault 1 0 6
  pub touching : signs (codes "b5") ≡ at 0 (word (codes "b")) ∷ at 1 stray ∷ []
  pub keyword_first : condition_fault (codes "a = default5") ≡ fault 1 0 4
  pub nothing : condition_fault [] ≡ fault 1 0 0
  pub ends_early : condition_fault (codes "a = 1 and ") ≡ fault 1 0 10
  pub never_closed : condition_fault (codes "a = \"Pads") ≡ fault 1 0 4
  pub no_text_byte : condition_fault (codes "a = \"P" ++ (0x7F ∷ codes "ads\"")) ≡ fault 1 0 6
  -- 2: a ninth not
  pub too_deep : condition_fault nine_nots ≡ fault 2 0 32
  -- 3: thirteen letters, a number past the greatest, an empty text, 257 bytes
  pub long_word : condition_fault (codes "abcdefghijklm = 1") ≡ fault 3 0 0
  pub greatest_number : condition_fault (codes "a = 268435455") ≡ None
  pub large_number : condition_fault (codes "a = 268435456") ≡ fault 3 0 4
  pub empty_text : condition_fault (codes "a = \"\"") ≡ fault 3 0 4
  pub long_text : condition_fault (replicate 257 0x20) ≡ fault 3 0 256
  -- the steps before a fault
  pub faulty : definition_fault (codes "songs select nosuch = 1 ?") ≡ fault 1 0 24
  pub faulty_steps :
      definition_steps (codes "songs select nosuch = 1 ?") ≡
      placed 0 (source (codes "songs")) ∷ placed 6 (select (compared (codes "nosuch") equals (given (num 1)))) ∷ []
