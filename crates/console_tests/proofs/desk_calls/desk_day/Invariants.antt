use Rattle.console_tests.proofs.desk_calls.desk_day.Given as goal

abbrev pub ghosts-named_day-N-Ledger : goal.ghosts-named_day-N-Ledger
ghosts-named_day-N-Ledger g a = record { name = a.seed.ledger; parts = a.seed.consoles }

abbrev pub ghosts-named_day-N-RoomName : goal.ghosts-named_day-N-RoomName
ghosts-named_day-N-RoomName g a = record { board = a.seed.board; posts = a.seed.consoles }
