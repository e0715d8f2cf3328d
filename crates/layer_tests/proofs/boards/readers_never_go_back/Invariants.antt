use Rattle.layer_tests.proofs.boards.readers_never_go_back.Given as goal

abbrev pub ghosts-run : goal.ghosts-run
ghosts-run g a = record { board = a.writer.board }
