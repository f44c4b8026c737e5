use Rattle.worked_stages.proofs.crew.playing.done.Given as goal

abbrev pub ghosts-played : goal.ghosts-played
ghosts-played g a = record { name = a.blank.name; parts = a.blank.parts }
