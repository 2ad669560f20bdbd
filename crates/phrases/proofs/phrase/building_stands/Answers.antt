use Rattle.std.proofs.Common.{refl}
use Rattle.grammar.specs.Phrases.{both, bracket, either, negated}
use Rattle.conditions.proofs.Built.{not_gives, bracket_gives, and_gives, or_gives}
use Rattle.phrases.specs.Written.{phrase}
use Rattle.phrases.proofs.phrase.building_stands.Goals as goal

pub returns : goal.returns
returns c = record {
  not = not_gives phrase negated (λ p k. refl);
  bracketed = bracket_gives phrase bracket (λ p k. refl);
  and = and_gives phrase both (λ p k q l. refl);
  or = or_gives phrase either (λ p k q l. refl);
}
