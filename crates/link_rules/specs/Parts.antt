-- The parts of stars, as the code makes them.
use Rattle.std.specs.Prelude.{ℕ, List, Bool, if◌then◌else◌, Option, None, Some, option_map, unwrap_or}
use Rattle.cim_model.specs.Live.{at_node, real}
use Rattle.cim_model.specs.Marks.{is_item_on, item_mark}
use Rattle.cim_model.specs.Model.{is_of}
use Rattle.cim_model.specs.Network.{node_of, open_of, phases_of}
use Rattle.cim_words.specs.Groups.{is_passing, is_switch, is_transformer}
use Rattle.cim_words.specs.declared.statement.Statement.{Statement}
use Rattle.graph_pages.specs.declared.star.Pass.{Pass}
use Rattle.graph_pages.specs.declared.star.Pass.TheVariants as pass
use Rattle.graph_pages.specs.declared.star.Spoke.{Spoke}
use Rattle.graph_pages.specs.declared.star.SpokePhases.TheVariants as phases
use Rattle.link_rules.specs.Inputs.{side_listed}
use Rattle.room_words.specs.Overlay.{position_of}
use Rattle.room_words.specs.declared.anchor.Anchor.{Anchor}
use Rattle.room_words.specs.declared.items.TempItem.{TempItem}
use Rattle.room_words.specs.declared.items.TempItem.TheVariants as item
use Rattle.room_words.specs.declared.overlay.Overlay.{Overlay}
use Rattle.room_words.specs.declared.term.Term.{Term}
use Rattle.segment_cuts.specs.declared.mark.Mark.{Mark}

-- a terminal of the model and a side of an item, as a star lists them
abbrev pub real_spoke : List Statement → ℕ → ℕ → Spoke
real_spoke m x t = record { term = real x t; at = option_map at_node (node_of m t); phases = phases.Own (phases_of m t) }

abbrev pub side_spoke : TempItem → Anchor × Term → Spoke
side_spoke one standing = record { term = standing.1; at = Some standing.0; phases = side_listed one }

-- an item as a mark of a segment, where it stands on it
abbrev pub mark_on : ℕ → TempItem → Option Mark
mark_on x one = if is_item_on x one then item_mark one else None

-- whether a switch of the model is open, and how current passes through equipment that is no segment, and through an item
abbrev pub switch_open : List Statement → Overlay → ℕ → Bool
switch_open m o x = unwrap_or (position_of o x) (open_of m x)

abbrev pub class_pass : List Statement → Overlay → ℕ → Pass
class_pass m o x =
    if is_of m is_switch x then pass.Switch (switch_open m o x) else
    if is_of m is_passing x then pass.Same else
    if is_of m is_transformer x then pass.Transformer else pass.Nothing

abbrev pub item_pass : TempItem → Pass
item_pass (item.Cut id segment length is_open) = pass.Switch is_open
item_pass (item.Clamp id segment length) = pass.Nothing
item_pass (item.Jumper id first second phases is_open) = pass.Switch is_open
item_pass (item.Ground id at phases) = pass.Nothing
