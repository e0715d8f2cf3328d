-- The classes of the model and their IRIs (IEC 61970-301, namespace CIM100).
use Rattle.std.specs.Prelude.{ℕ, List, ◌++◌, codes, find, unwrap_or}
use Rattle.std.specs.Str.{bytes_eq}
use Rattle.cim_words.specs.declared.class.Class.{Class}
use Rattle.cim_words.specs.declared.class.Class.TheVariants.{ACLineSegment, Switch, Breaker, Disconnector, Fuse, LoadBreakSwitch, Recloser, Sectionaliser, GroundDisconnector, Jumper, Cut, Junction, BusbarSection, SeriesCompensator, PowerTransformer, Clamp, Ground, EnergySource, EnergyConsumer, Terminal, ConnectivityNode, ACLineSegmentPhase, EnergyConsumerPhase, SwitchPhase, Other}
use Rattle.cim_words.specs.declared.class.TheConstants.{CLASSES}

-- the class's name in the standard
unfoldable pub class_name : Class → List ℕ
class_name ACLineSegment = codes "ACLineSegment"
class_name Switch = codes "Switch"
class_name Breaker = codes "Breaker"
class_name Disconnector = codes "Disconnector"
class_name Fuse = codes "Fuse"
class_name LoadBreakSwitch = codes "LoadBreakSwitch"
class_name Recloser = codes "Recloser"
class_name Sectionaliser = codes "Sectionaliser"
class_name GroundDisconnector = codes "GroundDisconnector"
class_name Jumper = codes "Jumper"
class_name Cut = codes "Cut"
class_name Junction = codes "Junction"
class_name BusbarSection = codes "BusbarSection"
class_name SeriesCompensator = codes "SeriesCompensator"
class_name PowerTransformer = codes "PowerTransformer"
class_name Clamp = codes "Clamp"
class_name Ground = codes "Ground"
class_name EnergySource = codes "EnergySource"
class_name EnergyConsumer = codes "EnergyConsumer"
class_name Terminal = codes "Terminal"
class_name ConnectivityNode = codes "ConnectivityNode"
class_name ACLineSegmentPhase = codes "ACLineSegmentPhase"
class_name EnergyConsumerPhase = codes "EnergyConsumerPhase"
class_name SwitchPhase = codes "SwitchPhase"
class_name Other = codes "Other"

-- the namespace in which the names stand
unfoldable pub cim_namespace : List ℕ
cim_namespace = codes "http://iec.ch/TC57/CIM100#"

-- the IRI that names a class
unfoldable pub class_iri : Class → List ℕ
class_iri c = cim_namespace ++ class_name c

-- the class that an IRI names, `Other` where it names none of them
unfoldable pub class_of : List ℕ → Class
class_of text = unwrap_or (find (λ c. bytes_eq (class_iri c) text) CLASSES) Other
