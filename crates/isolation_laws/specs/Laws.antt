-- What follows of every state that is reached, beside the isolation of its history.
use Rattle.std.specs.Prelude.{◌≡◌, ℕ, ◌<◌, ◌≤◌, ◌+◌, ◌⊎◌, List, Option, Some}
use Rattle.history_book.specs.Members.{◌∈◌}
use Rattle.history_book.specs.Isolation.{Committed}
use Rattle.history_book.specs.declared.item.Found.{Found}
use Rattle.history_book.specs.declared.item.Item.{Item}
use Rattle.history_book.specs.declared.item.Item.TheVariants.{Draw, Read}
use Rattle.system_parts.specs.Instance.{InstanceEntry}
use Rattle.system_parts.specs.Pairs.{Pairs}
use Rattle.machine.specs.State.{Client, State}
use Rattle.isolation_laws.specs.Words.{InstanceAt, Begun, Marked, drawn_stamp}
use Rattle.isolation_laws.specs.Pending.{Live}

-- the transaction is not placed so far
abbrev pub Unplaced : List Item → ℕ → Type 0
Unplaced h t = (c : ℕ) → Committed h t c → ⊥

-- it was marked before it was placed
pub record IsBarred (pairs : Pairs) (h : List Item) (t : ℕ) : Type 0 where
  pub marked : Marked pairs t
  pub unplaced : Unplaced h t

abbrev pub IsMarkedFirst : State → List Item → ℕ → Type 0
IsMarkedFirst w h t = IsBarred w.pairs h t

-- it has begun, is neither open in a session nor has a commit in flight, and was not placed
pub record IsOver (clients : List Client) (nodes : List (Option InstanceEntry)) (h : List Item) (t : ℕ) : Type 0 where
  pub session : ℕ
  pub begun : Begun h session t
  pub dead : Live clients nodes t → ⊥
  pub unplaced : Unplaced h t

abbrev pub IsLost : State → List Item → ℕ → Type 0
IsLost w h t = IsOver w.clients w.nodes h t

-- a value that was read is the reader's own, or that of a transaction that commits below the reader's start
abbrev pub ReadsWhatCommits : List Item → Type 0
ReadsWhatCommits h = (session s key : ℕ) (found : Found) → Read session s key (Some found) ∈ h → (found.from ≡ s) ⊎ ((c : ℕ) × Committed h found.from c × (c < s))

-- what was drawn in an instance's term lies above its epoch, and what was drawn in earlier terms does not
pub record DrawsKeepTerms (w : State) (h : List Item) : Type 0 where
  pub own : (n s m t : ℕ) (i : InstanceEntry) (commit : Option ℕ) → InstanceAt w.nodes n i → Draw s m i.term t commit ∈ h → i.epoch < drawn_stamp t commit
  pub earlier : (n s m term t : ℕ) (i : InstanceEntry) (commit : Option ℕ) → InstanceAt w.nodes n i → term < i.term → Draw s m term t commit ∈ h → drawn_stamp t commit ≤ i.epoch

-- an instance whose lease has not run out at a steady reading is of the record's term: nobody has taken a later one
abbrev pub LeasesAreOfTheTerm : State → Type 0
LeasesAreOfTheTerm w = (n reading : ℕ) (i : InstanceEntry) → InstanceAt w.nodes n i → w.seen ≤ reading + w.setup.skew → reading < i.until → i.term ≡ w.master.term
