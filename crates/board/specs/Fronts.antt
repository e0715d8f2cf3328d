-- What a reader keeps between two calls.
use Rattle.std.specs.Prelude.{◌≡◌, List, Option, Some, None}
use Rattle.atomic_table.specs.Table.{Me}
use Rattle.board.specs.declared.views.Knows.{Knows}
use Rattle.board.specs.declared.reader.front.Front.{Front}
use Rattle.board.specs.Views.{founds_of}
use Rattle.board.specs.Held.{IsWatching}
use Rattle.std.specs.Prelude.{ℕ}

abbrev pub version_of : {V : Type 0} → Option (Front V) → Option V
version_of (Some front) = Some front.version
version_of None = None

-- it has a version, and its seat knows that
pub record IsReader {V I O : Type 0} (log : V → List I) (origin : V → O) (m : Me (Option V) (Knows I O)) (console : ℕ) (held : Option (Front V)) : Type 0 where
  pub front : Front V
  pub held_is : held ≡ Some front
  pub watches : IsWatching log origin m console (founds_of m.0.role) front.slot front.number front.version
