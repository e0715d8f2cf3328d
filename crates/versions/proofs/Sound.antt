-- From a network without fault, on which the overlay stands, entries lead to such a network.
use Rattle.std.proofs.Common.{◌≡◌, List, [], ◌∷◌, None, sym, subst}
use Rattle.cim_model.specs.Effects.{effect}
use Rattle.cim_model.specs.Profile.{IsFaultless}
use Rattle.cim_model.specs.Refusals.{refusal_of}
use Rattle.cim_model.specs.Stands.{Stands}
use Rattle.cim_words.specs.declared.statement.Statement.{Statement}
use Rattle.cutover.specs.Judgement.{IsAccepted}
use Rattle.room_words.specs.Differences.{Changes}
use Rattle.room_words.specs.declared.act.Act.{Act}
use Rattle.room_words.specs.declared.event.Entry.{Entry}
use Rattle.room_words.specs.declared.event.Event.{Event}
use Rattle.room_words.specs.declared.event.Event.TheVariants as event
use Rattle.room_words.specs.declared.overlay.Overlay.{Overlay}
use Rattle.versions.specs.History.{Network, Replays, Takes}

-- a model without fault, and an overlay that stands on it
pub record IsSound (network : Network) : Type 0 where
  pub faultless : IsFaultless network.model
  pub stands : Stands network.model network.overlay

-- what accepted acts and differences leave stands
pub record StandLaws : Type 0 where
  pub acts : (m : List Statement) (o : Overlay) (a : Act) → IsFaultless m → Stands m o → refusal_of m o a ≡ None → Stands m (effect o a)
  pub differences : (m : List Statement) (o : Overlay) (d : Changes) (result : List Statement) → Stands m o → IsAccepted m o d result → Stands result o

takes_sound : StandLaws → (before after : Network) (one : Event) → IsSound before → Takes before one after → IsSound after
takes_sound laws before after (event.Act act) sound is =
    let stands = laws.acts before.model before.overlay act sound.faultless sound.stands is.0 in
    subst IsSound (sym is.1) (record { faultless = sound.faultless; stands = stands })
takes_sound laws before after (event.Cutover d) sound is = record {
  faultless = is.0.2;
  stands = subst (Stands after.model) (sym is.1) (laws.differences before.model before.overlay d after.model sound.stands is.0);
}

pub replays_sound : StandLaws → (log : List Entry) (before after : Network) → IsSound before → Replays before log after → IsSound after
replays_sound laws [] before after sound is = subst IsSound (sym is) sound
replays_sound laws (entry ∷ entries) before after sound is =
    replays_sound laws entries is.0 after (takes_sound laws before is.0 entry.event sound is.1) is.2
