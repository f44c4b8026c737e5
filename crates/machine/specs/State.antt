-- The state of the whole system, as plain data.
use Rattle.std.specs.Prelude.{ℕ, List, [], Option, None, replicate}
use Rattle.stamp_base.specs.SetupNumbers.{SetupNumbers}
use Rattle.system_parts.specs.Rows.{Row}
use Rattle.std.specs.FinMap as map
use Rattle.system_parts.specs.Pairs.{Pairs}
use Rattle.system_parts.specs.Record.{MasterRecord, free_record}
use Rattle.system_parts.specs.declared.asks.Ask.{Ask}
use Rattle.system_parts.specs.SessionSteps.{SessionEntry, session_new}
use Rattle.system_parts.specs.Resolve.{Settling}
use Rattle.system_parts.specs.KeyRead.{Reading}
use Rattle.system_parts.specs.Cache.{Cache, cache_new}
use Rattle.system_parts.specs.Sweep.{Sweeping}
use Rattle.system_parts.specs.Instance.{InstanceEntry}

-- what a session has under way between two of its events
pub data UnderWay : Type 0 where
  Nothing : UnderWay
  -- a read
  Reads : Reading → UnderWay
  -- the resolve of its own commit, whose outcome is open
  Settles : Settling → UnderWay
  -- the asks of a completion that are left
  Completes : List Ask → UnderWay

-- a client: its session, what it has under way, the shadow that its last read offers to set (key, version and commit), the keys
-- that its transaction read and had not written, where the setup has them kept, and what it remembers of other transactions
pub record Client : Type 0 where
  pub entry : SessionEntry
  pub under_way : UnderWay
  pub heal : Option (ℕ × ℕ × ℕ)
  pub reads : List ℕ
  pub cache : Cache

pub record State : Type 0 where
  -- the numbers of the setup, which no event changes
  pub setup : SetupNumbers
  -- the greatest reading that was handed in
  pub seen : ℕ
  -- the 16 clients, by their sessions' numbers
  pub clients : List Client
  -- for each node its instance, where it has one
  pub nodes : List (Option InstanceEntry)
  -- the open sweep
  pub sweep : Option Sweeping
  -- the stores: cells, commit table, master record
  pub rows : List Row
  pub pairs : Pairs
  pub master : MasterRecord

-- a client before its first transaction, with room for so many decisions
abbrev pub client_new : ℕ → Client
client_new room = record { entry = session_new; under_way = Nothing; heal = None; reads = []; cache = cache_new room }

abbrev pub opening : SetupNumbers → State
opening setup = record {
  setup = setup;
  seen = 0;
  clients = replicate 16 (client_new setup.cache);
  nodes = replicate setup.nodes None;
  sweep = None;
  rows = [];
  pairs = map.empty;
  master = free_record;
}
