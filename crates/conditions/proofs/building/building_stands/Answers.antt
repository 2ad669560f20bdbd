use Rattle.std.proofs.Common.{refl}
use Rattle.model.specs.Conditions.{both, bracket, either, negated}
use Rattle.conditions.specs.Meaning.{meaning}
use Rattle.conditions.proofs.Built.{not_gives, bracket_gives, and_gives, or_gives}
use Rattle.conditions.proofs.building.building_stands.Goals as goal

pub returns : goal.returns
returns c = record {
  not = not_gives meaning negated (λ p k. refl);
  bracketed = bracket_gives meaning bracket (λ p k. refl);
  and = and_gives meaning both (λ p k q l. refl);
  or = or_gives meaning either (λ p k q l. refl);
}
