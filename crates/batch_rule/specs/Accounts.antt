-- Accounts of a batch ring, and what each call does to one.
use Rattle.std.specs.Prelude.{ℕ, ◌+◌, ◌-◌, Bool, true, false, cond, ◌||◌, List, [], ◌∷◌, ◌++◌, flat_map}
use Rattle.persist_batches.specs.declared.numbered.Numbered.{Numbered}
use Rattle.queue_passes.specs.Holds.{whole}
use Rattle.batch_rule.specs.declared.account.BatchAccount.{BatchAccount}

abbrev pub batch_account : Bool → ℕ → List Numbered → List Numbered → List (List Numbered) → BatchAccount
batch_account sends parts put taken others = record { sends = sends; parts = parts; put = put; taken = taken; others = others }

-- of the sender's pass, which comes with the ring
abbrev pub first_account : BatchAccount
first_account = batch_account true whole [] [] []

-- of a new worker's pass
abbrev pub worker_account : BatchAccount
worker_account = batch_account false 1 [] [] []

-- of a pass that was joined to another
abbrev pub spent_account : BatchAccount
spent_account = batch_account false 0 [] [] []

-- after a worker's pass was made
abbrev pub parted : BatchAccount → BatchAccount
parted old = batch_account old.sends (old.parts - 1) old.put old.taken old.others

abbrev pub with_put : BatchAccount → Numbered → BatchAccount
with_put old batch = batch_account old.sends old.parts (old.put ++ batch ∷ []) old.taken old.others

abbrev pub with_taken : BatchAccount → Numbered → BatchAccount
with_taken old batch = batch_account old.sends old.parts old.put (old.taken ++ batch ∷ []) old.others

-- the sender's list, if one of the two is the sender's, and what each of the two and each pass joined before has taken
abbrev pub joined : BatchAccount → BatchAccount → BatchAccount
joined mine theirs =
    batch_account (mine.sends || theirs.sends) (mine.parts + theirs.parts) (cond mine.sends mine.put theirs.put) mine.taken (mine.others ++ theirs.taken ∷ theirs.others)

-- all that was taken through the pass and those that were joined to it
abbrev pub all_taken : BatchAccount → List Numbered
all_taken a = a.taken ++ flat_map (λ row. row) a.others
