-- Accounts of a settled ring, and what each call does to one.
use Rattle.std.specs.Prelude.{ℕ, ◌+◌, ◌-◌, List, [], ◌∷◌, ◌++◌}
use Rattle.persist_batches.specs.declared.numbered.Numbered.{Numbered}
use Rattle.queue_passes.specs.Holds.{whole}
use Rattle.settled_rule.specs.declared.account.SettledAccount.{SettledAccount}

abbrev pub settled_account : ℕ → List Numbered → List Numbered → SettledAccount
settled_account parts put taken = record { parts = parts; put = put; taken = taken }

-- of the pass that comes with the ring
abbrev pub first_account : SettledAccount
first_account = settled_account whole [] []

-- of a further pass
abbrev pub new_account : SettledAccount
new_account = settled_account 1 [] []

-- of a pass that was joined to another
abbrev pub spent_account : SettledAccount
spent_account = settled_account 0 [] []

-- after a further pass was made
abbrev pub parted : SettledAccount → SettledAccount
parted old = settled_account (old.parts - 1) old.put old.taken

abbrev pub with_put : SettledAccount → Numbered → SettledAccount
with_put old batch = settled_account old.parts (old.put ++ batch ∷ []) old.taken

abbrev pub with_taken : SettledAccount → Numbered → SettledAccount
with_taken old batch = settled_account old.parts old.put (old.taken ++ batch ∷ [])

abbrev pub joined : SettledAccount → SettledAccount → SettledAccount
joined mine theirs = settled_account (mine.parts + theirs.parts) (mine.put ++ theirs.put) (mine.taken ++ theirs.taken)
