use Rattle.std.proofs.Common.{rules}
use Rattle.conditions.proofs.Splitting.{parts_whole}
use Rattle.conditions.proofs.building.Written.into_parts.Goals as goal

pub returns-clause-whole : goal.returns-clause-whole
returns-clause-whole c = search (rules, parts_whole)
