use Rattle.core_steps.proofs.interleaved.Core.apply.Given as goal

-- a ledger of one part, as the blank has
abbrev pub ghosts-perform : goal.ghosts-perform
ghosts-perform a = record { name = a.blank.name; parts = a.blank.parts }
