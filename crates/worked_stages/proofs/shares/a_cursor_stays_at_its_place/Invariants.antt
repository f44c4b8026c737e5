use Rattle.worked_stages.proofs.shares.a_cursor_stays_at_its_place.Given as goal

abbrev pub ghosts-still_there : goal.ghosts-still_there
ghosts-still_there g a = record { name = a.blank.name; parts = a.blank.parts }
