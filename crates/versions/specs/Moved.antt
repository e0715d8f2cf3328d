-- What an event makes of what a version holds, of this project.
use Rattle.cim_model.specs.Profile.{IsFaultless}
use Rattle.cim_model.specs.Stands.{Stands}
use Rattle.link_rules.specs.Map.{IsMap}
use Rattle.room_words.specs.declared.event.Event.{Event}
use Rattle.versions.specs.Held.{now_in}
use Rattle.versions.specs.History.{Takes}
use Rattle.versions.specs.declared.held.Held.{Held}
use Rattle.versions.specs.declared.moved.Moved.{Moved}

-- An event takes effect on the network that is held: its index and its overlay are those that the event leaves, the overlay stands on a
-- model that breaks no rule, and the graph is theirs.
pub record IsMoved (held : Held) (one : Event) (moved : Moved) : Type 0 where
  pub takes : Takes (now_in held) one (record { model = moved.index; overlay = moved.overlay })
  pub faultless : IsFaultless moved.index
  pub stands : Stands moved.index moved.overlay
  pub map : IsMap moved.index moved.overlay moved.graph
