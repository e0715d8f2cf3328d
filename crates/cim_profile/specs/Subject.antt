-- One subject of a model, as the rules take it.
use Rattle.std.specs.Prelude.{◌≡◌, List, map, Option}
use Rattle.cim_words.specs.declared.class.Class.{Class}
use Rattle.cim_words.specs.declared.statement.Statement.{Statement}
use Rattle.cim_profile.specs.Facts.{NameTypes}
use Rattle.cim_model.specs.Model.{about}
use Rattle.cim_profile.specs.declared.subject.Subject.{Subject}
use Rattle.cim_profile.specs.declared.table.Row.{Row}

-- the subject's statements are those of the model about it, and its types name the classes that they name
pub record IsSubjectOf (m : List Statement) (subject : Subject) : Type 0 where
  pub statements : subject.statements ≡ about m subject.id.number
  pub types : NameTypes m subject.id.number (map (λ (row : Row (Option Class)). row.value) subject.types.now)
