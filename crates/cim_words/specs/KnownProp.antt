-- The properties that have a meaning here and their IRIs (RDF 1.1 for the type, IEC 61970-301 for the rest).
use Rattle.std.specs.Prelude.{ℕ, List, ◌++◌, codes, find, Option}
use Rattle.std.specs.Str.{bytes_eq}
use Rattle.cim_words.specs.Class.{cim_namespace}
use Rattle.cim_words.specs.declared.known_prop.KnownProp.{KnownProp}
use Rattle.cim_words.specs.declared.known_prop.KnownProp.TheVariants.{K1, K2, K3, K4, K5, K6, K7, K8, K9, K10, K11, K12, K13, K14, K15, K16, K17, K18, K19, K20}
use Rattle.cim_words.specs.declared.known_prop.TheConstants.{KNOWN_PROPS}

-- the IRI of a known property
unfoldable pub known_iri : KnownProp → List ℕ
known_iri K1 = codes "http://www.w3.org/1999/02/22-rdf-syntax-ns#type"
known_iri K2 = cim_namespace ++ codes "Terminal.ConductingEquipment"
known_iri K3 = cim_namespace ++ codes "Terminal.ConnectivityNode"
known_iri K4 = cim_namespace ++ codes "Terminal.phases"
known_iri K5 = cim_namespace ++ codes "ACDCTerminal.sequenceNumber"
known_iri K6 = cim_namespace ++ codes "Switch.normalOpen"
known_iri K7 = cim_namespace ++ codes "Switch.open"
known_iri K8 = cim_namespace ++ codes "Conductor.length"
known_iri K9 = cim_namespace ++ codes "Clamp.ACLineSegment"
known_iri K10 = cim_namespace ++ codes "Clamp.lengthFromTerminal1"
known_iri K11 = cim_namespace ++ codes "Cut.ACLineSegment"
known_iri K12 = cim_namespace ++ codes "Cut.lengthFromTerminal1"
known_iri K13 = cim_namespace ++ codes "ACLineSegmentPhase.ACLineSegment"
known_iri K14 = cim_namespace ++ codes "ACLineSegmentPhase.phase"
known_iri K15 = cim_namespace ++ codes "EnergyConsumerPhase.EnergyConsumer"
known_iri K16 = cim_namespace ++ codes "EnergyConsumerPhase.phase"
known_iri K17 = cim_namespace ++ codes "SwitchPhase.Switch"
known_iri K18 = cim_namespace ++ codes "SwitchPhase.closed"
known_iri K19 = cim_namespace ++ codes "SwitchPhase.phaseSide1"
known_iri K20 = cim_namespace ++ codes "SwitchPhase.phaseSide2"

-- its row in the table of properties
abbrev pub known_row : KnownProp → ℕ
known_row K1 = 1
known_row K2 = 2
known_row K3 = 3
known_row K4 = 4
known_row K5 = 5
known_row K6 = 6
known_row K7 = 7
known_row K8 = 8
known_row K9 = 9
known_row K10 = 10
known_row K11 = 11
known_row K12 = 12
known_row K13 = 13
known_row K14 = 14
known_row K15 = 15
known_row K16 = 16
known_row K17 = 17
known_row K18 = 18
known_row K19 = 19
known_row K20 = 20

-- the known property that an IRI names
unfoldable pub known_prop : List ℕ → Option KnownProp
known_prop text = find (λ k. bytes_eq (known_iri k) text) KNOWN_PROPS
