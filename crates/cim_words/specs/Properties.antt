-- The known properties by words of the standard, for definitions (RDF 1.1 for the type, IEC 61970-301 for the rest).
use Rattle.cim_words.specs.declared.known_prop.KnownProp.{KnownProp}
use Rattle.cim_words.specs.declared.known_prop.KnownProp.TheVariants.{K1, K2, K3, K4, K5, K6, K7, K8, K9, K10, K11, K12, K13, K14, K15, K16, K17, K18, K19, K20}

-- rdf:type
abbrev pub rdf_type : KnownProp
rdf_type = K1

-- Terminal.ConductingEquipment
abbrev pub conducting_equipment : KnownProp
conducting_equipment = K2

-- Terminal.ConnectivityNode
abbrev pub connectivity_node : KnownProp
connectivity_node = K3

-- Terminal.phases
abbrev pub phases : KnownProp
phases = K4

-- ACDCTerminal.sequenceNumber
abbrev pub sequence_number : KnownProp
sequence_number = K5

-- Switch.normalOpen
abbrev pub normal_open : KnownProp
normal_open = K6

-- Switch.open
abbrev pub switch_open : KnownProp
switch_open = K7

-- Conductor.length
abbrev pub conductor_length : KnownProp
conductor_length = K8

-- Clamp.ACLineSegment
abbrev pub clamp_segment : KnownProp
clamp_segment = K9

-- Clamp.lengthFromTerminal1
abbrev pub clamp_length : KnownProp
clamp_length = K10

-- Cut.ACLineSegment
abbrev pub cut_segment : KnownProp
cut_segment = K11

-- Cut.lengthFromTerminal1
abbrev pub cut_length : KnownProp
cut_length = K12

-- ACLineSegmentPhase.ACLineSegment
abbrev pub segment_of_phase : KnownProp
segment_of_phase = K13

-- ACLineSegmentPhase.phase
abbrev pub segment_phase : KnownProp
segment_phase = K14

-- EnergyConsumerPhase.EnergyConsumer
abbrev pub consumer_of_phase : KnownProp
consumer_of_phase = K15

-- EnergyConsumerPhase.phase
abbrev pub consumer_phase : KnownProp
consumer_phase = K16

-- SwitchPhase.Switch
abbrev pub switch_of_phase : KnownProp
switch_of_phase = K17

-- SwitchPhase.closed
abbrev pub switch_phase_closed : KnownProp
switch_phase_closed = K18

-- SwitchPhase.phaseSide1
abbrev pub phase_side_1 : KnownProp
phase_side_1 = K19

-- SwitchPhase.phaseSide2
abbrev pub phase_side_2 : KnownProp
phase_side_2 = K20
