use Rattle.runs_tests.proofs.stations.a_message_of_another_node.Given as goal

-- a ledger of one part, as the blank has
abbrev pub ghosts-hears : goal.ghosts-hears
ghosts-hears g a = record { name = a.blank.name; parts = a.blank.parts }
