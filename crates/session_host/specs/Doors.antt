-- The sessions of a console that a door gives, one after another. All of it is of this project.
use Rattle.std.specs.Prelude.{ℕ, ◌≡◌, ◌⊎◌, ◌+◌, ◌<◌, ◌^◌, List, [], ◌∷◌, ◌++◌, length, map, Option, Some, None, IfSome, Bool, IsTrue, true, false, if◌then◌else◌}
use Rattle.board.specs.Lists.{IsPrefix}
use Rattle.cim_words.specs.declared.statement.Statement.{Statement}
use Rattle.desk.specs.Ends.{number_of}
use Rattle.grid_out.specs.Faults.{CountsFaults}
use Rattle.line_serve.specs.Served.{LeavesNothing, is_read_fault, is_write_fault}
use Rattle.line_serve.specs.declared.serving.LinesEnd.{LinesEnd}
use Rattle.line_serve.specs.declared.serving.LinesEnd.TheVariants as end
use Rattle.room_words.specs.declared.event.Entry.{Entry}
use Rattle.session_host.specs.Sessions.{IsSession, Shown, StaysSeated}
use Rattle.session_host.specs.Told.{Post}
use Rattle.session_host.specs.Views.{View, view_of}
use Rattle.session_host.specs.declared.door_end.DoorEnd.{DoorEnd}

-- a link as contracts see it: what it shows, and its faults of reading and of writing
pub record LinkShown : Type 0 where
  pub bytes : Shown
  pub read_faults : ℕ
  pub write_faults : ℕ

-- one session: its link as the door gave it, how it ended, and the link as the door got it back
pub record Visit : Type 0 where
  pub came : LinkShown
  pub ended : LinesEnd
  pub went : LinkShown

-- A session over the link of a visit, whose end has its cause in what the link shows.
pub record IsVisit (base : List Statement) (history : List Entry) (console : ℕ) (before : View) (visit : Visit) (after : View) : Type 0 where
  pub session : IsSession base history console before visit.ended after visit.came.bytes visit.went.bytes
  pub nothing_left : LeavesNothing visit.ended visit.came.bytes.left visit.went.bytes.left
  pub read_cause : CountsFaults visit.came.read_faults visit.went.read_faults (is_read_fault visit.ended)
  pub write_cause : CountsFaults visit.came.write_faults visit.went.write_faults (is_write_fault visit.ended)

-- Visits one after another: each session begins with the view in which the one before left the console.
abbrev pub AreVisits : List Statement → List Entry → ℕ → View → List Visit → View → Type 0
AreVisits base history console before [] after = after ≡ before
AreVisits base history console before (visit ∷ visits) after = (between : View)
    × IsVisit base history console before visit between × AreVisits base history console between visits after

-- how many of these ends are this one
abbrev pub is_end : LinesEnd → LinesEnd → Bool
is_end end.Bye end.Bye = true
is_end end.Ended end.Ended = true
is_end end.ReadFault end.ReadFault = true
is_end end.WriteFault end.WriteFault = true
is_end end.LongLine end.LongLine = true
is_end end.Spent end.Spent = true
is_end _ _ = false

abbrev pub how_many : LinesEnd → List LinesEnd → ℕ
how_many this [] = 0
how_many this (other ∷ ends) = (if is_end this other then 1 else 0) + how_many this ends

-- the counts of these ends
pub record CountsEnds (counted : DoorEnd) (ends : List LinesEnd) : Type 0 where
  pub sessions : counted.sessions ≡ length ends
  pub bye : counted.bye ≡ how_many end.Bye ends
  pub ended : counted.ended ≡ how_many end.Ended ends
  pub read_fault : counted.read_fault ≡ how_many end.ReadFault ends
  pub write_fault : counted.write_fault ≡ how_many end.WriteFault ends
  pub long_line : counted.long_line ≡ how_many end.LongLine ends
  pub spent : counted.spent ≡ how_many end.Spent ends

-- where a door tells the links that it still gives, these were the first of them and were taken off
abbrev pub GivesFirstOnes : Option (List LinkShown) → Option (List LinkShown) → List LinkShown → Type 0
GivesFirstOnes old new links = IfSome old (λ coming. (rest : List LinkShown) × (new ≡ Some rest) × (coming ≡ links ++ rest))

-- where it tells the links that were given back, these came to their end
abbrev pub TakesAllBack : Option (List LinkShown) → Option (List LinkShown) → List LinkShown → Type 0
TakesAllBack old new links = IfSome old (λ back. new ≡ Some (back ++ links))

-- A door as contracts see it: how many links it still gives, its faults, the links that it still gives and those that were given back,
-- where it tells them, and whether the link given last may be given back.
pub record DoorShown : Type 0 where
  pub number : ℕ
  pub faults : ℕ
  pub coming : Option (List LinkShown)
  pub back : Option (List LinkShown)
  pub lent : Bool

-- what doors and links tell of themselves
pub record DoorWords (D L : Type 0) : Type 0 where
  pub number : D → ℕ
  pub faults : D → ℕ
  pub coming : D → Option (List L)
  pub back : D → Option (List L)
  pub lent : D → Bool
  pub left : L → Option (List ℕ)
  pub written : L → Option (List ℕ)
  pub read_faults : L → ℕ
  pub write_faults : L → ℕ

module _ {D L : Type 0} (words : DoorWords D L) where
  abbrev pub link_shown : L → LinkShown
  link_shown link = record {
    bytes = record { left = words.left link; written = words.written link };
    read_faults = words.read_faults link;
    write_faults = words.write_faults link;
  }

  abbrev pub all_shown : Option (List L) → Option (List LinkShown)
  all_shown None = None
  all_shown (Some links) = Some (map link_shown links)

  abbrev pub door_shown : D → DoorShown
  door_shown door = record {
    number = words.number door;
    faults = words.faults door;
    coming = all_shown (words.coming door);
    back = all_shown (words.back door);
    lent = words.lent door;
  }

-- a console at its door, and the counts of its sessions' ends
pub record AtDoor : Type 0 where
  pub post : Post
  pub door : DoorShown
  pub counted : DoorEnd

-- before the first session
pub record IsFresh (counted : DoorEnd) : Type 0 where
  pub counts : CountsEnds counted []
  pub failed : counted.failed ≡ false

-- What a door gave and took back: a link for each visit. Its faults are counted, and whether it failed is noted.
pub record Gave (before after : DoorShown) (counted : DoorEnd) (visits : List Visit) : Type 0 where
  pub number : before.number ≡ length visits + after.number
  pub coming : GivesFirstOnes before.coming after.coming (map (λ visit. visit.came) visits)
  pub back : TakesAllBack before.back after.back (map (λ visit. visit.went) visits)
  pub counts : CountsEnds counted (map (λ visit. visit.ended) visits)
  pub cause : CountsFaults before.faults after.faults counted.failed

-- a door that gives no more: its number is 0, or it failed
abbrev pub GivesNoMore : DoorShown → DoorEnd → Type 0
GivesNoMore door counted = (door.number ≡ 0) ⊎ (counted.failed ≡ true)

-- A console has served sessions at its door, each over the next link that the door gave, which then went back. This holds in every history
-- that goes on from what the console has seen at the end.
pub record HasServed (before after : AtDoor) : Type 0 where
  pub visits : List Visit
  pub console : after.post.reader.console ≡ before.post.reader.console
  pub board : after.post.reader.board ≡ before.post.reader.board
  pub origin : after.post.reader.origin ≡ before.post.reader.origin
  pub begins : IsPrefix before.post.reader.seen after.post.reader.seen
  pub heard : (base : List Statement) → before.post.reader.origin ≡ Some base → (history : List Entry) → IsPrefix after.post.reader.seen history
      → AreVisits base history (number_of before.post) (view_of before.post) visits (view_of after.post)
  pub gave : Gave before.door after.door after.counted visits

-- The same until the door gave no more.
pub record ServedItsDoor (before after : AtDoor) : Type 0 where
  pub served : HasServed before after
  pub asked : GivesNoMore after.door after.counted

-- the next link of a door came
pub record ComesNext (before after : DoorShown) (link : LinkShown) : Type 0 where
  pub number : before.number ≡ after.number + 1
  pub faults : after.faults ≡ before.faults
  pub coming : GivesFirstOnes before.coming after.coming (link ∷ [])
  pub back : after.back ≡ before.back
  pub lent : IsTrue after.lent

-- a door gave no more: its number is 0, or it failed, which is noted
pub record ComesNoMore (before after : AtDoor) : Type 0 where
  pub asked : GivesNoMore after.door after.counted
  pub number : after.door.number ≡ before.door.number
  pub coming : after.door.coming ≡ before.door.coming
  pub back : after.door.back ≡ before.door.back
  pub cause : CountsFaults before.door.faults after.door.faults after.counted.failed
  pub counted : after.counted ≡ record before.counted { failed = after.counted.failed }

-- a link was served to its session's end, and went back to the door
pub record Serves (before after : AtDoor) (link : LinkShown) : Type 0 where
  pub ended : LinesEnd
  pub went : LinkShown
  pub seat : StaysSeated before.post after.post
  pub heard : (base : List Statement) → before.post.reader.origin ≡ Some base → (history : List Entry) → IsPrefix after.post.reader.seen history
      → IsVisit base history (number_of before.post) (view_of before.post) (record { came = link; ended = ended; went = went }) (view_of after.post)
  pub number : after.door.number ≡ before.door.number
  pub faults : after.door.faults ≡ before.door.faults
  pub coming : after.door.coming ≡ before.door.coming
  pub back : TakesAllBack before.door.back after.door.back (went ∷ [])
  pub counts : (ends : List LinesEnd) → CountsEnds before.counted ends → length ends + 1 < 2 ^ 32 → CountsEnds after.counted (ends ++ ended ∷ [])
  pub failed : after.counted.failed ≡ before.counted.failed
