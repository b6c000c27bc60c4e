use Rattle.runs_tests.proofs.copies.a_stray_message_is_a_breach.Given as goal

-- a ledger of one part, as the blank has
abbrev pub ghosts-breach_by_a_go : goal.ghosts-breach_by_a_go
ghosts-breach_by_a_go g a = record { name = a.blank.name; parts = a.blank.parts }
