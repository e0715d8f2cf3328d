-- The live network: a model under an overlay. Its terminals, their owners, places and phases, what stands on a segment, and positions
-- (IEC 61970-301: a Terminal joins one piece of ConductingEquipment to a ConnectivityNode, a Switch is open or closed).
use Rattle.std.specs.Prelude.{ℕ, List, [], ◌++◌, map, Bool, ◌||◌, if◌then◌else◌, Option, None, is_some, option_map, unwrap_or}
use Rattle.std.specs.List.{filter_map, flat_map, list_any}
use Rattle.cim_words.specs.Groups.{is_node, is_passing, is_segment, is_switch, is_transformer}
use Rattle.cim_words.specs.PhaseNames.{and_then}
use Rattle.cim_words.specs.declared.phases.PhaseSet.{PhaseSet}
use Rattle.cim_words.specs.declared.statement.Statement.{Statement}
use Rattle.cim_model.specs.Model.{is_of}
use Rattle.cim_model.specs.Network.{is_equipment, node_of, open_of, owner_of, phases_of, segment_of, segment_phases, terminals_by_side}
use Rattle.cim_model.specs.Phases.{no_phases}
use Rattle.cim_model.specs.Stated.{terminals_at}
use Rattle.cim_model.specs.Values.{as_id, number_of_id}
use Rattle.room_words.specs.Items.{item_open, item_place, item_segment, item_terms, item_terms_at, makes}
use Rattle.room_words.specs.Overlay.{item_of, item_or, position_of}
use Rattle.room_words.specs.Terms.{same_term}
use Rattle.room_words.specs.declared.anchor.Anchor.{Anchor}
use Rattle.room_words.specs.declared.anchor.Anchor.TheVariants as anchor
use Rattle.room_words.specs.declared.items.TempItem.{TempItem}
use Rattle.room_words.specs.declared.items.TempItem.TheVariants as item
use Rattle.room_words.specs.declared.overlay.Overlay.{Overlay}
use Rattle.room_words.specs.declared.term.Term.{Term}
use Rattle.room_words.specs.declared.term.TermKey.{TermKey}
use Rattle.room_words.specs.declared.term.TermKey.TheVariants as key

-- whether an identifier is that of equipment or of an item
abbrev pub is_live : List Statement → Overlay → ℕ → Bool
is_live m o x = is_some (item_of o x) || is_equipment m x

-- a terminal of the model with its owner, and the terminals of a piece of equipment or an item in order of its sides
abbrev pub real : ℕ → ℕ → Term
real owner t = record { owner = as_id owner; key = key.Real (as_id t) }

abbrev pub terms_of : List Statement → Overlay → ℕ → List Term
terms_of m o x = item_or o x item_terms (map (real x) (terminals_by_side m x))

-- whether a terminal is one of the live network: its owner has it
abbrev pub is_term : List Statement → Overlay → Term → Bool
is_term m o t = list_any (λ (u : Term). same_term u t) (terms_of m o t.owner.number)

-- where a terminal stands: one of the model at its node, a side of an item where the item says
abbrev pub at_node : ℕ → Anchor
at_node n = anchor.Node (as_id n)

abbrev pub stated_place : List Statement → Overlay → Term → TermKey → Option Anchor
stated_place m o t (key.Real u) = option_map at_node (node_of m u.number)
stated_place m o t (key.Side number) = and_then (item_of o t.owner.number) (λ (one : TempItem). item_place one t)

abbrev pub place_of : List Statement → Overlay → Term → Option Anchor
place_of m o t = if is_term m o t then stated_place m o t t.key else None

-- the phases of a terminal: those of the model's, the segment's at a cut or a clamp, and those that a jumper or a ground states
abbrev pub side_phases : List Statement → TempItem → PhaseSet
side_phases m (item.Cut id segment length is_open) = segment_phases m segment.number
side_phases m (item.Clamp id segment length) = segment_phases m segment.number
side_phases m (item.Jumper id first second phases is_open) = phases
side_phases m (item.Ground id at phases) = phases

abbrev pub stated_phases : List Statement → Overlay → Term → TermKey → PhaseSet
stated_phases m o t (key.Real u) = phases_of m u.number
stated_phases m o t (key.Side number) = item_or o t.owner.number (side_phases m) no_phases

abbrev pub term_phases : List Statement → Overlay → Term → PhaseSet
term_phases m o t = if is_term m o t then stated_phases m o t t.key else no_phases

-- places: the nodes of the model, and the sides of cuts and clamps of the overlay
abbrev pub is_place : List Statement → Overlay → Anchor → Bool
is_place m o (anchor.Node n) = is_of m is_node n.number
is_place m o (anchor.Side id number) = list_any (makes (anchor.Side id number)) o.items

-- the terminals at a place: those of the model that name the node, each with its owner, and then those of the items
abbrev pub owned : List Statement → ℕ → Option Term
owned m t = option_map (λ (owner : ℕ). real owner t) (owner_of m t)

abbrev pub real_terms_at : List Statement → Anchor → List Term
real_terms_at m (anchor.Node n) = filter_map (owned m) (terminals_at m n.number)
real_terms_at m (anchor.Side id number) = []

abbrev pub terms_at : List Statement → Overlay → Anchor → List Term
terms_at m o place = real_terms_at m place ++ flat_map (item_terms_at place) o.items

-- the segment on which a cut or a clamp stands
abbrev pub item_segment_number : TempItem → Option ℕ
item_segment_number one = option_map number_of_id (item_segment one)

abbrev pub stands_on : List Statement → Overlay → ℕ → Option ℕ
stands_on m o x = item_or o x item_segment_number (segment_of m x)

-- whether a switch is open: as an item says, else by the position in force, else by the model
abbrev pub is_open : List Statement → Overlay → ℕ → Bool
is_open m o x = item_or o x item_open (unwrap_or (position_of o x) (open_of m x))

-- How current passes between the terminals of one owner, by its class: along the line of a segment; from side to side of a switch;
-- between all terminals of a junction, a busbar section or a series compensator; as through a transformer; and else not at all. A
-- temporary cut or jumper is a switch, and a temporary clamp or ground passes nothing.
pub data Conduction : Type 0 where
  PassesNothing : Conduction
  PassesAlong : Conduction
  PassesSwitched : Conduction
  PassesAll : Conduction
  PassesTransformed : Conduction

abbrev pub class_conduction : List Statement → ℕ → Conduction
class_conduction m x =
    if is_of m is_segment x then PassesAlong else
    if is_of m is_switch x then PassesSwitched else
    if is_of m is_passing x then PassesAll else
    if is_of m is_transformer x then PassesTransformed else PassesNothing

abbrev pub item_conduction : TempItem → Conduction
item_conduction (item.Cut id segment length is_open) = PassesSwitched
item_conduction (item.Clamp id segment length) = PassesNothing
item_conduction (item.Jumper id first second phases is_open) = PassesSwitched
item_conduction (item.Ground id at phases) = PassesNothing

abbrev pub conduction : List Statement → Overlay → ℕ → Conduction
conduction m o x = item_or o x item_conduction (class_conduction m x)
