use Rattle.runs_tests.proofs.stations.the_run_of_a_sole_node.Given as goal

-- a ledger of one part, as the blank has
abbrev pub ghosts-ends : goal.ghosts-ends
ghosts-ends g a = record { name = a.blank.name; parts = a.blank.parts }
