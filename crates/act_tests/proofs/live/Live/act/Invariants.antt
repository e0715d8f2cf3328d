use Rattle.act_tests.proofs.live.Live.act.Given as goal

abbrev pub ghosts-patched : goal.ghosts-patched
ghosts-patched a = record { name = a.blank.name; parts = a.blank.parts }
