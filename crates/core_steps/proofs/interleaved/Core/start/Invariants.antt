use Rattle.core_steps.proofs.interleaved.Core.start.Given as goal

-- a ledger of one part, as the blank has
abbrev pub ghosts-start_counted : goal.ghosts-start_counted
ghosts-start_counted a = record { name = a.blank.name; parts = a.blank.parts }
