use Rattle.inbox.proofs.inbox.Inbox.open.Given as goal

-- so many sources
abbrev pub ghosts-open_for : goal.ghosts-open_for
ghosts-open_for g a = record { place = a.nodes }
