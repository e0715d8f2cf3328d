-- When a version comes next, and what a post's look does.
use Rattle.std.specs.Prelude.{◌≡◌, List, [], ◌∷◌, ◌++◌}
use Rattle.board.specs.Looked.{HasLooked}
use Rattle.desk.specs.Ends.{PostState, PreparedState}
use Rattle.desk.specs.Legal.{Judgement, IsNext}
use Rattle.room_words.specs.declared.event.Entry.{Entry}

-- A prepared version follows another: its log has one more entry, which may come next there, and it began in the same place.
pub record Follows {V O : Type 0} (judges : O → Judgement) (origin : V → O) (log : V → List Entry) (before : V) (prepared : PreparedState V) : Type 0 where
  pub next : IsNext (judges (origin before)) (log before) prepared.entry
  pub log_is : log prepared.version ≡ log before ++ prepared.entry ∷ []
  pub began : origin prepared.version ≡ origin before

-- A post looks at this version as its reader does, and keeps its receipts.
pub record PostLooked {V O : Type 0} (log : V → List Entry) (origin : V → O) (before after : PostState V O) (version : V) : Type 0 where
  pub looked : HasLooked log origin before.reader after.reader version
  pub receipts : after.receipts ≡ before.receipts
  pub room : after.room ≡ before.room
