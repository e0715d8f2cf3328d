use Rattle.layer_tests.proofs.shared_pages.shares_keep.Given as goal

abbrev pub ghosts-counted : goal.ghosts-counted
ghosts-counted a = record { name = a.blank.name; parts = a.blank.parts }
