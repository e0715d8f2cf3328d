use Rattle.console_tests.proofs.desk_calls.named_day.Given as goal

abbrev pub ghosts-order : goal.ghosts-order
ghosts-order g a = record { name = a.blank.name; parts = a.blank.parts }
