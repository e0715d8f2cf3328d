-- The groups of classes (IEC 61970-301 names the classes; which of them form a group is this project's choice), and the classes on
-- which a property counts.
use Rattle.std.specs.Prelude.{Bool, true, false, ◌||◌}
use Rattle.cim_words.specs.declared.class.Class.{Class}
use Rattle.cim_words.specs.declared.class.Class.TheVariants as class
use Rattle.cim_words.specs.declared.known_prop.KnownProp.{KnownProp}
use Rattle.cim_words.specs.declared.known_prop.KnownProp.TheVariants.{K1, K2, K3, K4, K5, K6, K7, K8, K9, K10, K11, K12, K13, K14, K15, K16, K17, K18, K19, K20}

abbrev pub is_terminal : Class → Bool
is_terminal class.Terminal = true
is_terminal _ = false

abbrev pub is_node : Class → Bool
is_node class.ConnectivityNode = true
is_node _ = false

abbrev pub is_segment : Class → Bool
is_segment class.ACLineSegment = true
is_segment _ = false

abbrev pub is_cut : Class → Bool
is_cut class.Cut = true
is_cut _ = false

abbrev pub is_clamp : Class → Bool
is_clamp class.Clamp = true
is_clamp _ = false

abbrev pub is_segment_phase : Class → Bool
is_segment_phase class.ACLineSegmentPhase = true
is_segment_phase _ = false

abbrev pub is_consumer_phase : Class → Bool
is_consumer_phase class.EnergyConsumerPhase = true
is_consumer_phase _ = false

abbrev pub is_switch_phase : Class → Bool
is_switch_phase class.SwitchPhase = true
is_switch_phase _ = false

-- the kinds of switch, a cut among them
abbrev pub is_switch : Class → Bool
is_switch class.Switch = true
is_switch class.Breaker = true
is_switch class.Disconnector = true
is_switch class.Fuse = true
is_switch class.LoadBreakSwitch = true
is_switch class.Recloser = true
is_switch class.Sectionaliser = true
is_switch class.GroundDisconnector = true
is_switch class.Jumper = true
is_switch class.Cut = true
is_switch _ = false

-- what passes current between all its terminals
abbrev pub is_passing : Class → Bool
is_passing class.Junction = true
is_passing class.BusbarSection = true
is_passing class.SeriesCompensator = true
is_passing _ = false

abbrev pub is_transformer : Class → Bool
is_transformer class.PowerTransformer = true
is_transformer _ = false

-- what has one terminal
abbrev pub is_single : Class → Bool
is_single class.Clamp = true
is_single class.Ground = true
is_single class.EnergySource = true
is_single class.EnergyConsumer = true
is_single _ = false

-- the phases of a segment, a consumer or a switch, as objects of their own
abbrev pub is_phase_object : Class → Bool
is_phase_object class.ACLineSegmentPhase = true
is_phase_object class.EnergyConsumerPhase = true
is_phase_object class.SwitchPhase = true
is_phase_object _ = false

-- a class that has a meaning here
abbrev pub is_known_class : Class → Bool
is_known_class class.Other = false
is_known_class _ = true

-- equipment with two terminals
abbrev pub has_two_ends : Class → Bool
has_two_ends c = is_segment c || is_switch c

-- the classes of equipment
abbrev pub is_equipment_class : Class → Bool
is_equipment_class c = is_segment c || is_switch c || is_passing c || is_transformer c || is_single c

-- a class of what is no equipment
abbrev pub is_part : Class → Bool
is_part c = is_terminal c || is_node c || is_phase_object c

-- the classes on whose subjects a property counts; elsewhere it is carried without effect
abbrev pub counts_on : KnownProp → Class → Bool
counts_on K1 c = true
counts_on K2 c = is_terminal c
counts_on K3 c = is_terminal c
counts_on K4 c = is_terminal c
counts_on K5 c = is_terminal c
counts_on K6 c = is_switch c
counts_on K7 c = is_switch c
counts_on K8 c = is_segment c
counts_on K9 c = is_clamp c
counts_on K10 c = is_clamp c
counts_on K11 c = is_cut c
counts_on K12 c = is_cut c
counts_on K13 c = is_segment_phase c
counts_on K14 c = is_segment_phase c
counts_on K15 c = is_consumer_phase c
counts_on K16 c = is_consumer_phase c
counts_on K17 c = is_switch_phase c
counts_on K18 c = is_switch_phase c
counts_on K19 c = is_switch_phase c
counts_on K20 c = is_switch_phase c
