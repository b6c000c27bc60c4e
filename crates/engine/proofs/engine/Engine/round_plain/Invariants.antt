use Rattle.engine.proofs.engine.Engine.round_plain.Given as goal

-- a ledger of one part, as the blank has
abbrev pub ghosts-round_counted : goal.ghosts-round_counted
ghosts-round_counted a = record { name = a.blank.name; parts = a.blank.parts }
