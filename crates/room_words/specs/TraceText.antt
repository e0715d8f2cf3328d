-- The text of a trace, of this project.
use Rattle.std.specs.Prelude.{ℕ, List, [], ◌∷◌, ◌++◌, length, codes}
use Rattle.std.specs.List.{flat_map}
use Rattle.std.specs.Fmt.{decimal}
use Rattle.cim_words.specs.IdText.{id_text}
use Rattle.cim_words.specs.Phases.{phase_text}
use Rattle.cim_words.specs.Written.{line_feed}
use Rattle.cim_words.specs.declared.identifier.Id.{Id}
use Rattle.cim_words.specs.declared.phases.PhaseSet.{PhaseSet}

-- a row: the identifier of what is reached, a space, the phases, and a line feed
abbrev pub trace_row : Id × PhaseSet → List ℕ
trace_row row = id_text row.0.number ++ codes " " ++ phase_text row.1 ++ line_feed ∷ []

-- the first line: `trace`, how many entries the prefix has (none for a base alone) and how many rows there are
abbrev pub trace_head : ℕ → ℕ → List ℕ
trace_head at count = codes "trace " ++ decimal at ++ codes " " ++ decimal count ++ line_feed ∷ []

-- the first line, and then the rows
unfoldable pub trace_text : ℕ → List (Id × PhaseSet) → List ℕ
trace_text at rows = trace_head at (length rows) ++ flat_map trace_row rows
