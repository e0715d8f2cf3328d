use Rattle.console_tests.proofs.feeder.first.Given as goal

abbrev pub ghosts-version_of : goal.ghosts-version_of
ghosts-version_of a = record { name = a.blank.name; parts = a.blank.parts }
