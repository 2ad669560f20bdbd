-- What a known column of the program is; the columns that words are looked for in, and what is refused there.
use Rattle.std.specs.Prelude.{ℕ, List}
use Rattle.model.specs.Sorts as model
use Rattle.cells.specs.Held.{kind_of}
use Rattle.cells.specs.declared.faults.Cause.{Cause}
use Rattle.cells.specs.declared.faults.Refusal.{Refusal}
use Rattle.cells.specs.declared.faults.Refusal.TheVariants.{Fault}
use Rattle.conditions.specs.Resolving.{first_eight}
use Rattle.conditions.specs.declared.settling.Known.{Known}
use Rattle.conditions.specs.declared.settling.Scope.{Scope}

abbrev pub known_place : Known → ℕ
known_place k = k.place.at

abbrev pub known_kind : Known → model.Kind
known_kind k = kind_of k.kind

abbrev pub in_scope : Scope → List model.Column
in_scope s = first_eight s.columns.now

abbrev pub refused_in : Scope → Cause → Refusal
refused_in s c = Fault (record { cause = c; kind = s.kind; place = s.place })
