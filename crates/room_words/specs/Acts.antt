-- What a switching order says by itself, of this project (after Switch, Cut, Clamp, Jumper and Ground of IEC 61970-301).
use Rattle.std.specs.Prelude.{true, false, Option, Some, None}
use Rattle.cim_words.specs.declared.identifier.Id.{Id}
use Rattle.room_words.specs.declared.act.Act.{Act}
use Rattle.room_words.specs.declared.act.Act.TheVariants as act
use Rattle.room_words.specs.declared.items.TempItem.{TempItem}
use Rattle.room_words.specs.declared.items.TempItem.TheVariants as item

-- what it acts on: the switch or the item, or the segment of a cut or a clamp
abbrev pub acted_on : Act → Option Id
acted_on (act.OpenSwitch id) = Some id
acted_on (act.CloseSwitch id) = Some id
acted_on (act.Release id) = Some id
acted_on (act.Remove id) = Some id
acted_on (act.Cut id segment length) = Some segment
acted_on (act.Clamp id segment length) = Some segment
acted_on (act.Jumper id first second phases) = None
acted_on (act.Ground id at phases) = None

-- the item that it places: a cut is placed open, and a jumper closed
abbrev pub placed : Act → Option TempItem
placed (act.OpenSwitch id) = None
placed (act.CloseSwitch id) = None
placed (act.Release id) = None
placed (act.Remove id) = None
placed (act.Cut id segment length) = Some (item.Cut id segment length true)
placed (act.Clamp id segment length) = Some (item.Clamp id segment length)
placed (act.Jumper id first second phases) = Some (item.Jumper id first second phases false)
placed (act.Ground id at phases) = Some (item.Ground id at phases)
