use Rattle.std.proofs.Common.{List, [], ◌∷◌, rules, tests}
use Rattle.std.proofs.lemmas.Iterator.{YieldsList-from_slice}
use Rattle.std.proofs.lemmas.Iterator.Consumers.{YieldsList-at, YieldsList-from_copied}
use Rattle.std.proofs.lemmas.Iterator.Search.{find_from_yields_List}
use Rattle.model.specs.Values.{same_bytes}
use Rattle.grammar.specs.Signs.{spelling}
use Rattle.signs.specs.Spoken.{keyword}
use Rattle.signs.specs.declared.sign.Keyword.{Keyword}
use Rattle.signs.specs.declared.sign.Keyword.TheVariants.{And, As, Default, Drop, Join, Not, Or, Rename, Select}
use Rattle.signs.proofs.Finding.{find_named}
use Rattle.signs.proofs.sign.Keyword.spelt.Goals as goal

abbrev all : List Keyword
all = And ∷ As ∷ Default ∷ Drop ∷ Join ∷ Not ∷ Or ∷ Rename ∷ Select ∷ []

pub returns : goal.returns
returns c =
    find_named keyword (λ k. same_bytes c.args.word.now (spelling k)) all _
    (find_from_yields_List (λ k. same_bytes c.args.word.now (spelling (keyword k))) _ _ _ c.find.ensures.ran (YieldsList-from_copied (YieldsList-at c.copied.ensures.source (YieldsList-from_slice all c.iter.ensures.rest))) (λ x r q k. search (rules, tests)))
