use Rattle.std.proofs.Common.{◌≡◌, refl}
use Rattle.cim_words.specs.Class.{class_of, class_iri, class_name, cim_namespace}
use Rattle.cim_words.specs.declared.class.Class.{Class}
use Rattle.cim_words.specs.declared.class.Class.TheVariants.{ACLineSegment, Switch, Breaker, Disconnector, Fuse, LoadBreakSwitch, Recloser, Sectionaliser, GroundDisconnector, Jumper, Cut, Junction, BusbarSection, SeriesCompensator, PowerTransformer, Clamp, Ground, EnergySource, EnergyConsumer, Terminal, ConnectivityNode, ACLineSegmentPhase, EnergyConsumerPhase, SwitchPhase, Other}
use Rattle.cim_words.proofs.class.classes_are_named.Goals as goal

named : (class : Class) → class_of (class_iri class) ≡ class
unfolding class_of class_iri class_name cim_namespace
named ACLineSegment = refl
named Switch = refl
named Breaker = refl
named Disconnector = refl
named Fuse = refl
named LoadBreakSwitch = refl
named Recloser = refl
named Sectionaliser = refl
named GroundDisconnector = refl
named Jumper = refl
named Cut = refl
named Junction = refl
named BusbarSection = refl
named SeriesCompensator = refl
named PowerTransformer = refl
named Clamp = refl
named Ground = refl
named EnergySource = refl
named EnergyConsumer = refl
named Terminal = refl
named ConnectivityNode = refl
named ACLineSegmentPhase = refl
named EnergyConsumerPhase = refl
named SwitchPhase = refl
named Other = refl

pub returns : goal.returns
returns c = named
