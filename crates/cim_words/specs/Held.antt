-- What a statement can hold: where a sentence ranges over all statements, it ranges over these.
use Rattle.std.specs.Prelude.{◌<◌, ◌^◌}
use Rattle.std.specs.Str.{IsUtf8}
use Rattle.cim_words.specs.Prop.{prop_iri}
use Rattle.cim_words.specs.declared.object.Object.{Object}
use Rattle.cim_words.specs.declared.object.Object.TheVariants as object
use Rattle.cim_words.specs.declared.statement.Statement.{Statement}

-- an object holds a number of 128 bits, or text
abbrev pub IsHeld : Object → Type 0
IsHeld (object.Id id) = id.number < 2 ^ 128
IsHeld (object.Name text) = IsUtf8 text
IsHeld (object.Text text) = IsUtf8 text

-- a statement's identifiers have 128 bits, and its texts are text
pub record IsStatement (s : Statement) : Type 0 where
  pub subject : s.subject.number < 2 ^ 128
  pub prop : IsUtf8 (prop_iri s.prop)
  pub object : IsHeld s.object
