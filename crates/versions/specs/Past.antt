-- What contracts see of a version, of this project.
use Rattle.std.specs.Prelude.{List}
use Rattle.cim_words.specs.declared.statement.Statement.{Statement}
use Rattle.room_words.specs.declared.event.Entry.{Entry}

-- the model where a history began, and its entries
pub record Past : Type 0 where
  pub base : List Statement
  pub log : List Entry
