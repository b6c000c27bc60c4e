use Rattle.parts_tests.proofs.queue.in_order_uncounted.Given as goal

-- a ledger of one part, as the blank has
abbrev pub ghosts-in_order : goal.ghosts-in_order
ghosts-in_order a = record { name = a.blank.name; parts = a.blank.parts }
