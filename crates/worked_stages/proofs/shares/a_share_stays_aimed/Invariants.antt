use Rattle.worked_stages.proofs.shares.a_share_stays_aimed.Given as goal

abbrev pub ghosts-aims : goal.ghosts-aims
ghosts-aims g a = record { name = a.blank.name; parts = a.blank.parts }
