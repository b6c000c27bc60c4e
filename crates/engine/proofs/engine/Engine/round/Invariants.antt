use Rattle.engine.proofs.engine.Engine.round.Given as goal

-- a ledger of one part, as the blank has
abbrev pub ghosts-round_threaded : goal.ghosts-round_threaded
ghosts-round_threaded g a = record { name = a.blank.name; parts = a.blank.parts }
