use Rattle.worked_stages.proofs.shares.no_actor_has_no_share.Given as goal

abbrev pub ghosts-no_actor : goal.ghosts-no_actor
ghosts-no_actor g a = record { name = a.blank.name; parts = a.blank.parts }
