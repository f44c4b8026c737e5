-- What has to hold before a line so that what it asks for is granted: one field each, over the state that stands before the line,
-- the reading of the node's clock and the fates that are planned for the calls that come next.
use Rattle.std.specs.Prelude.{◌≡◌, ◌≢◌, ℕ, ◌+◌, ◌*◌, ◌<◌, ◌≤◌, ◌⊎◌, ◌^◌, false, [], length, slice_get, None, Some}
use Rattle.std.specs.List.{filter}
use Rattle.stamp_base.specs.declared.stores.Store.{Store}
use Rattle.stamp_base.specs.declared.stores.Store.TheVariants.{Cells, Table, Master}
use Rattle.port_io.specs.declared.weather.Fate.TheVariants.{Works}
use Rattle.port_io.specs.Planned.{planned_fate}
use Rattle.system_parts.specs.Rows.{fetched, front_of}
use Rattle.system_parts.specs.declared.session.State.TheVariants as phase
use Rattle.system_parts.specs.SessionSteps.{key_refusal}
use Rattle.system_parts.specs.declared.buckets.Verdict.TheVariants.{Free}
use Rattle.system_parts.specs.Buckets.{verdict_both}
use Rattle.system_parts.specs.Instance.{InstanceEntry, in_flight}
use Rattle.machine.specs.State.{Client}
use Rattle.machine.specs.Clients.{is_reading}
use Rattle.machine.specs.Events.Fetch.{reads_refusal}
use Rattle.script_data.specs.Data.{ScriptData}
use Rattle.command_semantics.specs.Runs.{Played, calls_on}
use Rattle.isolation_laws.specs.Bare.{is_bare}
use Rattle.isolation_laws.specs.Words.{InstanceAt, ClientAt, Marked}
use Rattle.grant_laws.specs.Granted.{reading_of, next_fate, HasStamp}

-- ---- what several lines need
-- the session's transaction has this start and is open, and no read is under way
pub record IsAtWork (p : Played) (session : ℕ) : Type 0 where
  pub client : Client
  pub start : ℕ
  pub session_is : ClientAt p.state.clients session client
  pub begun : client.entry.start ≡ Some start
  pub in_work : client.entry.state ≡ phase.Open
  pub at_rest : is_reading client ≡ false

-- the node takes a request in, and serves it as far as to its stamp
pub record CanServe (script : ScriptData) (p : Played) (node : ℕ) : Type 0 where
  pub oracle : InstanceEntry
  -- the node has the instance of the record's term
  pub node_has : InstanceAt p.state.nodes node oracle
  pub in_term : oracle.term ≡ p.state.master.term
  -- a slot is free
  pub slot : in_flight oracle < oracle.slots
  -- the lease stands
  pub leased : reading_of script p node < oracle.until
  -- the instance has a stamp at hand or can get a further range, and keeps no refusal of the record
  pub stamp : HasStamp script p oracle
  pub goes_on : oracle.stop ≡ None

-- ---- a write
pub record CanWrite (script : ScriptData) (p : Played) (session key : ℕ) : Type 0 where
  pub work : IsAtWork p session
  -- the key is among those that it wrote, or there is room for it
  pub room : key_refusal work.client.entry.keys key ≡ None
  -- the next call on the cells works
  pub writing : next_fate script p Cells ≡ Works

-- ---- a take
pub record CanTake (script : ScriptData) (p : Played) (node : ℕ) : Type 0 where
  -- the node is there, and has no instance
  pub vacant : slice_get p.state.nodes node ≡ Some None
  -- the record has no holder, or its lease has ended by every clock
  pub lapsed : (p.state.master.holder ≡ None) ⊎ (p.state.master.until + script.setup.skew ≤ reading_of script p node)
  -- there are stamps for one range more
  pub stamps : p.state.master.ceiling + script.setup.range ≤ 2 ^ 62
  -- the next call on the record works
  pub taking : next_fate script p Master ≡ Works

-- ---- a begin
pub record CanBegin (script : ScriptData) (p : Played) (session node : ℕ) : Type 0 where
  pub client : Client
  -- the session is free
  pub session_is : ClientAt p.state.clients session client
  pub is_free : client.entry.state ≡ phase.Free
  -- the node serves its request as far as to its stamp
  pub serving : CanServe script p node

-- ---- a commit
pub record CanCommit (script : ScriptData) (p : Played) (session node : ℕ) : Type 0 where
  pub work : IsAtWork p session
  -- it has written
  pub wrote : work.client.entry.keys ≢ []
  -- the node serves its request as far as to its stamp
  pub serving : CanServe script p node
  -- the transaction began above the instance's epoch
  pub in_epoch : serving.oracle.epoch < work.start
  -- the conflict memory has nothing against the keys that it wrote, nor against those that it keeps of what it read
  pub no_conflict : verdict_both serving.oracle.buckets work.start work.client.entry.keys work.client.reads ≡ Free
  -- nobody has marked the transaction
  pub unmarked : Marked p.state.pairs work.start → ⊥
  -- the next call on the commit table works
  pub placing : next_fate script p Table ≡ Works

-- ---- a read
-- a read calls the cells and the commit table
abbrev pub IsReadFrom : Store → Type 0
IsReadFrom Cells = Unit {0}
IsReadFrom Table = Unit {0}
IsReadFrom Master = ⊥

-- the cells without a shadow that a fetch of the key gives, down to the first that decides by itself
abbrev pub cells_to_read : Played → ℕ → ℕ → ℕ
cells_to_read p start key = length (filter is_bare (front_of start (fetched p.state.rows key start)))

pub record CanRead (script : ScriptData) (p : Played) (session key : ℕ) : Type 0 where
  pub work : IsAtWork p session
  -- the key need not be kept, or is among those that are, or there is room for it
  pub room : reads_refusal script.setup work.client key ≡ None
  -- on both stores the next calls work, as many as the read can make: the fetch, and three for each cell without a shadow
  pub reading : (store : Store) (n : ℕ) → IsReadFrom store → n ≤ 3 * cells_to_read p work.start key → planned_fate script.faults store (calls_on p.calls store + n + 1) ≡ Works

-- ---- the fetch of a read alone
pub record CanFetch (script : ScriptData) (p : Played) (session key : ℕ) : Type 0 where
  pub work : IsAtWork p session
  -- the key need not be kept, or is among those that are, or there is room for it
  pub room : reads_refusal script.setup work.client key ≡ None
  -- the next call on the cells works
  pub fetching : next_fate script p Cells ≡ Works
