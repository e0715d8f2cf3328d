-- What a version holds, and that it agrees, of this project.
use Rattle.std.specs.Prelude.{◌≡◌, ◌≤◌, length}
use Rattle.cim_model.specs.Profile.{IsFaultless}
use Rattle.cim_model.specs.Stands.{Stands}
use Rattle.desk.specs.Legal.{IsLegal}
use Rattle.link_rules.specs.Map.{IsMap}
use Rattle.versions.specs.History.{IsNow, Judges, Network, log_bytes, most_entries, most_log_bytes}
use Rattle.versions.specs.Past.{Past}
use Rattle.versions.specs.Serials.{AreCounts}
use Rattle.versions.specs.declared.held.Held.{Held}

-- the base and the log
abbrev pub past_of : Held → Past
past_of held = record { base = held.base; log = held.log }

-- the network that it holds
abbrev pub now_in : Held → Network
now_in held = record { model = held.index; overlay = held.overlay }

-- The base breaks no rule and the log is legal from it; the index is that of the model which the log makes of the base, the overlay is the
-- one that it leaves and stands, the graph is theirs, the counts are those of the log, and the bytes are those of its differences.
pub record Agrees (held : Held) : Type 0 where
  pub base_faultless : IsFaultless held.base
  pub legal : IsLegal (Judges held.base) held.log
  pub now : IsNow held.base held.log (now_in held)
  pub faultless : IsFaultless held.index
  pub stands : Stands held.index held.overlay
  pub map : IsMap held.index held.overlay held.graph
  pub counts : AreCounts held.counts.of held.log
  pub bytes : held.bytes ≡ log_bytes held.log
  pub few : length held.log ≤ most_entries
  pub short : held.bytes ≤ most_log_bytes
