use Rattle.inbox.proofs.inbox.Pass.split_off.Given as goal

-- where the range is cut
abbrev pub ghosts-cut : goal.ghosts-cut
ghosts-cut a = record { place = a.mid }
