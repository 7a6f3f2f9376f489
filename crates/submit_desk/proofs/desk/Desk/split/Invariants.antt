use Rattle.submit_desk.proofs.desk.Desk.split.Given as goal

-- the number that the call picks
abbrev pub ghosts-split_as : goal.ghosts-split_as
ghosts-split_as g a = record { by = a.by }
