use Rattle.std.proofs.Common.{◌≡◌, rules}
use Rattle.std.specs.List.{fold}
use Rattle.reader.specs.Judging.{one_digit}
use Rattle.reader.proofs.Numbers.{counted}
use Rattle.reader.proofs.terminals.number.Goals as goal

pub returns : goal.returns
returns c =
    let folded : c.fold-n.result ≡ fold one_digit 0 c.args.digits.now = search rules in
    counted c.args.digits.now c.fold-n.result c.then_some.result folded c.then_some.ensures
