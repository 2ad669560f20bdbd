use Rattle.std.proofs.Common.{◌++◌, vec_items, ap, ◌∙◌, rules}
use Rattle.std.proofs.lemmas.Iterator.{YieldsList-from_slice, YieldsList-from_map}
use Rattle.std.proofs.lemmas.Iterator.Adapters.{items_from_extend}
use Rattle.std.proofs.lemmas.Result.{on_ok_weaker}
use Rattle.model.specs.Banks.{kind_byte}
use Rattle.cells.specs.Held.{kind_of}
use Rattle.banks.proofs.Coded.{kinds_mapped}
use Rattle.banks.proofs.writing.put_kinds.Goals as goal

pub returns : goal.returns
returns c =
    let C = c.args.columns.now in
    let put = items_from_extend c.extend.result c.extend.ensures.ran (YieldsList-from_map _ (λ d. kind_byte (kind_of d.kind)) (YieldsList-from_slice C cc) c.map.ensures.closure (λ x r q k. search rules)) in
    on_ok_weaker c.extend.result (λ e. e.0 ∙ ap (λ l. vec_items c.args.out.now ++ l) (kinds_mapped C)) put
