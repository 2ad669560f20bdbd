use Rattle.laws.proofs.Revising.{revision_characterised}
use Rattle.laws.proofs.Unique.{revision_unique}
use Rattle.laws.proofs.revision_stands.Goals as goal

pub returns : goal.returns
returns c = (revision_characterised, revision_unique)
