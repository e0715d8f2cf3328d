-- What a look does.
use Rattle.std.specs.Prelude.{◌≡◌, ℕ, ◌≤◌, List, [], ◌∷◌, ◌++◌, length, Some}
use Rattle.board.specs.Lists.{IsPrefix}
use Rattle.board.specs.Ends.{ReaderState}

-- a look at this version: it adds the number that was newest, and the version has at least that many items, and begins with all that was seen before
pub record HasLooked {V I O : Type 0} (log : V → List I) (origin : V → O) (before after : ReaderState V I O) (version : V) : Type 0 where
  pub found : (n : ℕ) × (after.founds ≡ before.founds ++ n ∷ []) × (length before.seen ≤ n) × (n ≤ length after.seen)
  pub begins : IsPrefix before.seen after.seen
  pub seen : after.seen ≡ log version
  pub shown : after.shown ≡ Some version
  pub began : after.origin ≡ Some (origin version)
  pub board : after.board ≡ before.board
  pub console : after.console ≡ before.console
  pub origin_kept : after.origin ≡ before.origin
