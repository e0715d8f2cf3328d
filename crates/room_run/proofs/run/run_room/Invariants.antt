use Rattle.room_run.proofs.run.run_room.Given as goal

abbrev pub ghosts-run_named-N-Ledger : goal.ghosts-run_named-N-Ledger
ghosts-run_named-N-Ledger g a = record { name = a.seed.ledger; parts = a.seed.consoles }

abbrev pub ghosts-run_named-N-RoomName : goal.ghosts-run_named-N-RoomName
ghosts-run_named-N-RoomName g a = record { board = a.seed.board; posts = a.seed.consoles }
