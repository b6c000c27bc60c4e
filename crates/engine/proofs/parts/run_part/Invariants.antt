use Rattle.engine.proofs.parts.run_part.Given as goal

-- a ledger of one part, as the blank has
abbrev pub ghosts-run_part_counted : goal.ghosts-run_part_counted
ghosts-run_part_counted g a = record { name = a.blank.name; parts = a.blank.parts }
