-- Every outcome keeps the read sets.
use Rattle.isolation_laws.proofs.Names.{Outcome, OfAskedBegin, OfAskedCommit, OfAnsweredBegin, OfFetched, OfReadStepped}
use Rattle.isolation_laws.proofs.Names.{left_by, told_by_outcome, ◌≡◌, ℕ, Bool, true, false, if◌then◌else◌, List, ◌++◌}
use Rattle.isolation_laws.proofs.Names.{◌⊎◌, inl, inr, refl, subst, Contains, cases_Bool, ◌∈◌, Item, SetupNumbers}
use Rattle.isolation_laws.proofs.Names.{has_key, key_added, read_ask, put_fresh, fetched, front_of, Client, State}
use Rattle.isolation_laws.proofs.Names.{told_by, marks_every, keeps_read, reads_after, AreReadSets, IsolationInvariant}
use Rattle.isolation_laws.proofs.Names.{Fetched, fetched_turn, fetched_client, fetched_state, fetched_items}
use Rattle.isolation_laws.proofs.Names.{ReadStepped, read_turn, read_client, read_stepped_state, read_stepped_items}
use Rattle.isolation_laws.proofs.Requests.WrittenKeys.{has_key_in, key_was_written}
use Rattle.isolation_laws.proofs.Memory.RecordedCommits.{added_there, added_keeps}
use Rattle.isolation_laws.proofs.Reading.ReadsOfReads.{fetched_open, stepped_open}
use Rattle.isolation_laws.proofs.Reading.KeptReads.{reads_keep}
use Rattle.isolation_laws.proofs.Reading.ReadSetsOfRequests.{sets_asked_begin, sets_asked_commit, sets_answered_begin}
use Rattle.isolation_laws.proofs.Reading.ReadSetsOfTurns.{KeepsMore, fetched_recall_of, told_recall_of, read_sets_turn}
use Rattle.isolation_laws.proofs.Holding.Alone.{read_sets_alone}
use Rattle.isolation_laws.proofs.Holding.LeftAlone.{alone}

-- ---- a fetch
contains_if : (chosen : Bool) (keys : List ℕ) (key other : ℕ) → Contains keys other → Contains (if chosen then key_added keys key else keys) other
contains_if true keys key other has = added_keeps keys key other has
contains_if false keys key other has = has

plain_after : (setup : SetupNumbers) (c : Client) (key : ℕ) → setup.strict ≡ false → reads_after setup c key ≡ c.reads
plain_after setup c key flag = rw flag refl

-- with strict reads the key is kept, or is in the write list
key_or_written : (setup : SetupNumbers) (c : Client) (key : ℕ) → setup.strict ≡ true → Contains (reads_after setup c key) key ⊎ (has_key c.entry.keys key ≡ true)
key_or_written setup c key strict = elim (cases_Bool (has_key c.entry.keys key)) [
  | inl has ↦ inr has
  | inr new ↦ inl (rw (strict, new) (added_there c.reads key))
]

fetched_more : (w : State) (h : List Item) (k : Fetched w) → IsolationInvariant w h → KeepsMore w.setup h k.start k.key k.it.c (fetched_client w k)
fetched_more w h k holds = record {
  entry = refl;
  plain = λ flag. plain_after w.setup k.it.c k.key flag;
  more = λ key has. contains_if (keeps_read w.setup k.it.c k.key) k.it.c.reads k.key key has;
  key = λ strict. elim (key_or_written w.setup k.it.c k.key strict) [
    | inl there ↦ inl there
    | inr has ↦ inr (key_was_written h k.start k.key (subst (λ keys. k.key ∈ keys) (holds.requests.keys.written k.it.session k.start k.it.c k.it.client_at (inl k.it.is_open) k.start_is) (has_key_in k.it.c.entry.keys k.key has)))
  ];
}

sets_fetched : (w : State) (h : List Item) (k : Fetched w) → IsolationInvariant w h → AreReadSets w.setup (fetched_state w k).clients w.nodes (h ++ fetched_items w k)
sets_fetched w h k holds =
    read_sets_turn w h k.first k.it.session k.start k.epoch k.key k.it.c (fetched_client w k) (fetched_turn w k) k.quiet k.it.client_at (fetched_open w k) (fetched_more w h k holds)
    (fetched_recall_of (marks_every w.setup) k.key k.start k.epoch (front_of k.start (fetched w.rows k.key k.start)) (put_fresh k.it.c.cache)) holds

-- ---- a step of a read
stepped_more : (w : State) (h : List Item) (k : ReadStepped w) → IsolationInvariant w h → KeepsMore w.setup h k.r.start k.r.key k.c (read_client w k)
stepped_more w h k holds = record {
  entry = refl;
  plain = λ flag. refl;
  more = λ key has. has;
  key = λ strict. holds.reads.read_sets.under_way strict k.session k.c k.r k.client_at k.under_way;
}

sets_stepped : (w : State) (h : List Item) (k : ReadStepped w) → IsolationInvariant w h → AreReadSets w.setup (read_stepped_state w k).clients w.nodes (h ++ read_stepped_items w k)
sets_stepped w h k holds =
    read_sets_turn w h k.first k.session k.r.start k.r.epoch k.r.key k.c (read_client w k) (read_turn w k) k.quiet k.client_at (stepped_open w h k holds) (stepped_more w h k holds)
    (told_recall_of _ k.r (told_by (read_ask k.r) w.rows w.pairs)) holds

-- ---- every outcome
pub read_sets_kept : (w : State) (h : List Item) (o : Outcome w) → IsolationInvariant w h → AreReadSets (left_by w o).setup (left_by w o).clients (left_by w o).nodes (h ++ told_by_outcome w o)
read_sets_kept w h (OfAskedBegin k) holds = sets_asked_begin w h k holds
read_sets_kept w h (OfAskedCommit k) holds = sets_asked_commit w h k holds
read_sets_kept w h (OfAnsweredBegin k) holds = sets_answered_begin w h k holds
read_sets_kept w h (OfFetched k) holds = sets_fetched w h k holds
read_sets_kept w h (OfReadStepped k) holds = sets_stepped w h k holds
read_sets_kept w h o holds = read_sets_alone w h o (alone w h o holds) refl refl refl (reads_keep w o refl) holds
