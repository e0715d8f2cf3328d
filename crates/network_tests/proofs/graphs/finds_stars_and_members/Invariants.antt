use Rattle.network_tests.proofs.graphs.finds_stars_and_members.Given as goal

abbrev pub ghosts-two_busbars : goal.ghosts-two_busbars
ghosts-two_busbars g a = record { name = a.blank.name; parts = a.blank.parts }
