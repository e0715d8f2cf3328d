-- Consoles that stand at their doors. All of it is of this project.
use Rattle.std.specs.Prelude.{List, map, All}
use Rattle.session_host.specs.Doors.{AtDoor, DoorShown, IsFresh}
use Rattle.session_host.specs.Told.{Post}
use Rattle.session_host.specs.declared.door_end.DoorEnd.{DoorEnd}

-- the consoles, the doors and the counts of those that stand at doors
abbrev pub posts_of : List AtDoor → List Post
posts_of = map (λ stand. stand.post)

abbrev pub doors_of : List AtDoor → List DoorShown
doors_of = map (λ stand. stand.door)

abbrev pub counts_of : List AtDoor → List DoorEnd
counts_of = map (λ stand. stand.counted)

-- no session of theirs was counted yet
abbrev pub AllFresh : List AtDoor → Type 0
AllFresh = All (λ stand. IsFresh stand.counted)
