use Rattle.worked_stages.proofs.shares.a_cursor_comes_up.Given as goal

abbrev pub ghosts-two_actors : goal.ghosts-two_actors
ghosts-two_actors g a = record { name = a.blank.name; parts = a.blank.parts }
