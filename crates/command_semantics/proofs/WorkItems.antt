-- For turn_rules too.
-- The first item of a commit that is asked, of a write and of a fetch answers its line. A transaction that is open has a start
-- and an epoch.
use Rattle.std.proofs.Common.{arith}
use Rattle.command_semantics.proofs.Names.{◌≡◌, ℕ, Bool, true, false, cond, nat_lt, ◌||◌, List, [], ◌∷◌, Option, Some}
use Rattle.command_semantics.proofs.Names.{None, ◌⊎◌, inl, inr, refl, IsTrue, length, option_or}
use Rattle.command_semantics.proofs.Names.{SetupNumbers, KEY_LIMIT, Fate, Works, FailsUnchanged, FailsApplied, Session}
use Rattle.command_semantics.proofs.Names.{Item, Row, SessionState, has_transaction}
use Rattle.command_semantics.proofs.Names.{work_refusal, has_key, key_refusal, Commit, InstanceEntry, Client, State}
use Rattle.command_semantics.proofs.Names.{is_reading, commit_of, ask_commit_by, ask_commit_on, write_open, write_on}
use Rattle.command_semantics.proofs.Names.{reads_refusal, fetch_open, fetch_on}
use Rattle.command_semantics.proofs.Names.{ClientAt, ReachedInvariant, IsRefusal, IsReadOnly, IsAskCommit, IsWrite}
use Rattle.command_semantics.proofs.Names.{IsFetch}
use Rattle.history_book.specs.declared.cause.Cause.TheVariants as cause
use Rattle.history_book.specs.declared.item.Item.TheVariants as item
use Rattle.system_parts.specs.declared.session.State.TheVariants as phase
use Rattle.command_semantics.proofs.Plain.{one_plain, no_plain}
use Rattle.command_semantics.proofs.Fitting.{EpochFits}
use Rattle.command_semantics.proofs.OpeningItems.{Begins, alone, behind, ask_begins_if}

-- a session that may work has a number where an open one has
abbrev pub HasNumber : SessionState → Option ℕ → Type 0
HasNumber state number = EpochFits state number

starts_by : (state : SessionState) (start : Option ℕ) → (IsTrue (has_transaction state) → (t : ℕ) × (start ≡ Some t)) → HasNumber state start
starts_by state start begun = grind arith

pub starts : (w : State) (h : List Item) (s : ℕ) (c : Client) → ReachedInvariant w h → ClientAt w.clients s c → HasNumber c.entry.state c.entry.start
starts w h s c stands at = starts_by c.entry.state c.entry.start (λ has. let begun = stands.holds.requests.have_begun.begun s c at has in (begun.0, begun.1))

-- ---- a commit
abbrev pub CommitAnswer : ℕ → ℕ → Item → Type 0
CommitAnswer s node x = IsAskCommit s (λ asked. asked ≡ node) x ⊎ IsRefusal (Session s) x ⊎ IsReadOnly s x

commit_begins_of : (s node : ℕ) (c : Client) (start : ℕ) (keys : List ℕ) (post : Option InstanceEntry) → Begins (CommitAnswer s node) (commit_of s node c start keys post).items
commit_begins_of s node c start [] post = alone _ _ (inr (inr refl))
commit_begins_of s node c start (k ∷ ks) None = alone _ _ (inr (inl (refl, tt)))
commit_begins_of s node c start (k ∷ ks) (Some i) = ask_begins_if s c (item.AskCommit s node start) (CommitAnswer s node) i (Commit s start c.entry.keys) _ (inl (refl, refl)) (λ n. inr (inl (refl, tt)))

commit_begins_by : (s node : ℕ) (c : Client) (post : Option InstanceEntry) (state : SessionState) (reading : Bool) (start : Option ℕ) → HasNumber state start → Begins (CommitAnswer s node) (ask_commit_by s node c post (work_refusal state reading) start).items
commit_begins_by s node c post phase.Open true start has = alone _ _ (inr (inl (refl, tt)))
commit_begins_by s node c post phase.Open false None has = absurd has
commit_begins_by s node c post phase.Open false (Some start) has = commit_begins_of s node c start c.entry.keys post
commit_begins_by s node c post _ reading start has = alone _ _ (inr (inl (refl, tt)))

pub ask_commit_begins : (s node : ℕ) (c : Client) (post : Option InstanceEntry) → HasNumber c.entry.state c.entry.start → Begins (CommitAnswer s node) (ask_commit_on s node c post).items
ask_commit_begins s node c post has = commit_begins_by s node c post c.entry.state (is_reading c) c.entry.start has

-- ---- a write
abbrev pub WriteAnswer : ℕ → ℕ → List ℕ → Item → Type 0
WriteAnswer s key value x = IsWrite s key value x ⊎ IsRefusal (Session s) x

write_begins_if : (s key : ℕ) (value : List ℕ) (fate : Fate) (c : Client) (rows : List Row) (start : Option ℕ) (room : Bool) → HasNumber phase.Open start → Begins (WriteAnswer s key value) (write_open s key value fate c rows (cond room None (Some cause.TooManyKeys)) start).items
write_begins_if s key value fate c rows start false has = alone _ _ (inr (refl, tt))
write_begins_if s key value fate c rows None true has = absurd has
write_begins_if s key value Works c rows (Some start) true has = alone _ _ (inl (refl, refl, refl))
write_begins_if s key value FailsUnchanged c rows (Some start) true has = behind _ _ _ (inr refl) (one_plain _ refl)
write_begins_if s key value FailsApplied c rows (Some start) true has = behind _ _ _ (inr refl) (one_plain _ refl)

write_begins_by : (s key : ℕ) (value : List ℕ) (fate : Fate) (c : Client) (rows : List Row) (state : SessionState) (reading : Bool) (start : Option ℕ) → HasNumber state start → Begins (WriteAnswer s key value) (write_open s key value fate c rows (option_or (work_refusal state reading) (key_refusal c.entry.keys key)) start).items
write_begins_by s key value fate c rows phase.Open true start has = alone _ _ (inr (refl, tt))
write_begins_by s key value fate c rows phase.Open false start has = write_begins_if s key value fate c rows start (has_key c.entry.keys key || nat_lt (length c.entry.keys) KEY_LIMIT) has
write_begins_by s key value fate c rows _ reading start has = alone _ _ (inr (refl, tt))

pub write_begins : (s key : ℕ) (value : List ℕ) (fate : Fate) (c : Client) (rows : List Row) → HasNumber c.entry.state c.entry.start → Begins (WriteAnswer s key value) (write_on s key value fate c rows).items
write_begins s key value fate c rows has = write_begins_by s key value fate c rows c.entry.state (is_reading c) c.entry.start has

-- ---- a fetch
abbrev pub FetchAnswer : ℕ → ℕ → Item → Type 0
FetchAnswer s key x = IsFetch s key x ⊎ IsRefusal (Session s) x

-- a key that is to be kept has no room
fetch_begins_by : (setup : SetupNumbers) (s key : ℕ) (fate : Fate) (c : Client) (rows : List Row) (state : SessionState) (reading : Bool) (start epoch : Option ℕ) → HasNumber state start → HasNumber state epoch → Begins (FetchAnswer s key) (fetch_open setup s key fate c rows (option_or (work_refusal state reading) (reads_refusal setup c key)) start epoch).items
fetch_begins_by setup s key fate c rows state reading start epoch has sees = grind (arith, no_plain, one_plain)

pub fetch_begins : (setup : SetupNumbers) (s key : ℕ) (fate : Fate) (c : Client) (rows : List Row) → HasNumber c.entry.state c.entry.start → HasNumber c.entry.state c.entry.epoch → Begins (FetchAnswer s key) (fetch_on setup s key fate c rows).items
fetch_begins setup s key fate c rows has sees = fetch_begins_by setup s key fate c rows c.entry.state (is_reading c) c.entry.start c.entry.epoch has sees
