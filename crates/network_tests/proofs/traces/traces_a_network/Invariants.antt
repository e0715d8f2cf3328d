use Rattle.network_tests.proofs.traces.traces_a_network.Given as goal

abbrev pub ghosts-network : goal.ghosts-network
ghosts-network g a = record { name = a.blank.name; parts = a.blank.parts }
