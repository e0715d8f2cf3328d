use Rattle.console_tests.proofs.replay.replayed.Given as goal

abbrev pub ghosts-after : goal.ghosts-after
ghosts-after g a = record { name = a.blank.name; parts = a.blank.parts }
