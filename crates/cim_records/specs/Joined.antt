-- The union of sets of phases that are joined one after the other.
use Rattle.std.specs.Prelude.{ℕ, List, [], ◌∷◌, ◌||◌, Option, Some, None}
use Rattle.std.specs.List.{filter, filter_map}
use Rattle.cim_words.specs.Groups.{counts_on}
use Rattle.cim_words.specs.Phases.{has_phase}
use Rattle.cim_words.specs.declared.identifier.Id.{Id}
use Rattle.cim_words.specs.declared.known_prop.KnownProp.{KnownProp}
use Rattle.cim_words.specs.declared.phases.PhaseSet.{PhaseSet}
use Rattle.cim_words.specs.declared.statement.Statement.{Statement}
use Rattle.cim_model.specs.Model.{naming}
use Rattle.cim_model.specs.Network.{is_class}
use Rattle.cim_model.specs.Phases.{set_of}
use Rattle.cim_records.specs.Found.{known_of}
use Rattle.cim_records.specs.declared.subject.Subject.{Subject}

-- a set with the phases of another
abbrev pub join_one : Option PhaseSet → PhaseSet → PhaseSet
join_one None set = set
join_one (Some joined) set = set_of (λ p. has_phase joined p || has_phase set p)

-- the same with those of several
abbrev pub join_all : Option PhaseSet → List PhaseSet → Option PhaseSet
join_all joined [] = joined
join_all joined (set ∷ sets) = join_all (Some (join_one joined set)) sets

-- the phases that the phase objects state that name an identifier by a property
abbrev pub stated_by : List (Id × Subject) → List Statement → KnownProp → ℕ → List PhaseSet
stated_by subjects statements k x =
    filter_map (λ y. (known_of subjects y).phase) (filter (λ y. is_class (counts_on k) (known_of subjects y).class) (naming statements k x))
