-- What is gathered under the identifiers that statements name.
use Rattle.std.specs.Prelude.{ℕ, List, Bool, not, ◌&&◌}
use Rattle.std.specs.List.{filter}
use Rattle.cim_words.specs.Groups.{is_terminal}
use Rattle.cim_words.specs.declared.identifier.Id.{Id}
use Rattle.cim_words.specs.declared.known_prop.KnownProp.{KnownProp}
use Rattle.cim_words.specs.Properties as property
use Rattle.cim_words.specs.declared.statement.Statement.{Statement}
use Rattle.cim_model.specs.Model.{naming}
use Rattle.cim_model.specs.Network.{has_sides, is_class, is_some_number}
use Rattle.cim_records.specs.Found.{known_of}
use Rattle.cim_records.specs.declared.gathering.Gathering.{Gathering}
use Rattle.cim_records.specs.declared.gathering.Gathering.TheVariants.{FirstTerminals, OtherTerminals, NodeTerminals}
use Rattle.cim_records.specs.declared.subject.Subject.{Subject}

-- the property by which terminals name what they are gathered under
abbrev pub property_of : Gathering → KnownProp
property_of FirstTerminals = property.conducting_equipment
property_of OtherTerminals = property.conducting_equipment
property_of NodeTerminals = property.connectivity_node

-- a terminal leads where it has the number 1 and its equipment has sides
abbrev pub leads : Subject → Subject → Bool
leads owner terminal = is_some_number 1 terminal.number && is_class has_sides owner.class

-- whether a subject is gathered under what it names
abbrev pub is_taken : Gathering → Subject → Subject → Bool
is_taken FirstTerminals key member = is_class is_terminal member.class && leads key member
is_taken OtherTerminals key member = is_class is_terminal member.class && not (leads key member)
is_taken NodeTerminals key member = is_class is_terminal member.class

-- those that are gathered under an identifier
abbrev pub gathered : Gathering → List (Id × Subject) → List Statement → ℕ → List ℕ
gathered gathering subjects statements x =
    filter (λ t. is_taken gathering (known_of subjects x) (known_of subjects t)) (naming statements (property_of gathering) x)
