use Rattle.cim_model.specs.Profile.{IsFaultless}
use Rattle.cim_words.specs.declared.statement.Statement.{Statement}
use Rattle.room_words.specs.declared.event.Entry.{Entry}
use Rattle.std.proofs.Common.{List}
use Rattle.versions.specs.History.{IsNow, Network, untouched}
use Rattle.versions.proofs.Sound.{IsSound, replays_sound}
use Rattle.versions.proofs.laws.histories_keep_networks_sound.Goals as goal

sound : goal.After-accepted_differences_stand → (base : List Statement) (log : List Entry) (now : Network) → IsFaultless base → IsNow base log now → IsSound now
sound c base log now faultless is =
    replays_sound (record { acts = c.accepted_acts_stand.ensures; differences = c.accepted_differences_stand.ensures }) log (untouched base) now
    (record { faultless = faultless; stands = c.the_empty_overlay_stands.ensures base }) is

pub returns-clause-faultless : goal.returns-clause-faultless
returns-clause-faultless c base log now faultless is = (sound c base log now faultless is).faultless

pub returns-clause-stands : goal.returns-clause-stands
returns-clause-stands c base log now faultless is = (sound c base log now faultless is).stands
