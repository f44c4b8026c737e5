-- A session begins a read by a fetch of the key's cells up to its start. The read goes over these cells, down to the first
-- that decides by itself; where no step on the stores is needed, it has its answer at once. A failed fetch ends the read
-- without an answer.
use Rattle.std.specs.Prelude.{ℕ, Bool, not, ◌&&◌, if◌then◌else◌, List, [], ◌∷◌, Option, None, Some, length}
use Rattle.std.specs.Option.{option_or}
use Rattle.stamp_base.specs.declared.stores.Store.{Store}
use Rattle.stamp_base.specs.declared.stores.Store.TheVariants.{Cells}
use Rattle.stamp_base.specs.SetupNumbers.{SetupNumbers}
use Rattle.port_io.specs.declared.weather.Fate.{Fate}
use Rattle.port_io.specs.declared.weather.Fate.TheVariants.{Works}
use Rattle.history_book.specs.declared.cause.Cause.{Cause}
use Rattle.history_book.specs.declared.item.Actor.TheVariants.{Session}
use Rattle.history_book.specs.declared.item.Found.{Found}
use Rattle.history_book.specs.declared.item.StoreStep.TheVariants as step
use Rattle.history_book.specs.declared.item.Item.{Item}
use Rattle.history_book.specs.declared.item.Item.TheVariants as item
use Rattle.system_parts.specs.declared.rows.Cell.{Cell}
use Rattle.system_parts.specs.Rows.{Row, fetched, front_of}
use Rattle.system_parts.specs.SessionSteps.{work_refusal, has_key, key_added, key_refusal}
use Rattle.system_parts.specs.KeyRead.{ReadTurn, Asks, Answers}
use Rattle.system_parts.specs.Cache.{put_fresh}
use Rattle.system_parts.specs.Recalled.{Remembering, recalled_over}
use Rattle.machine.specs.State.{Client, Nothing, Reads}
use Rattle.machine.specs.Effect.{Effect, done, refused, faulted}
use Rattle.machine.specs.Clients.{is_reading}
use Rattle.machine.specs.Events.Write.{open_asks}

abbrev pub found_of : Option (ℕ × List ℕ) → Option Found
found_of None = None
found_of (Some found) = Some (record { from = found.0; value = found.1 })

-- a read goes on, or has its answer, and with it the shadow that may be set
abbrev pub client_read : Client → ReadTurn → Client
client_read c (Asks r) = record c { under_way = Reads r; heal = None }
client_read c (Answers a) = record c { under_way = Nothing; heal = a.heal }

-- the same, with what the session remembers then
abbrev pub client_recalled : Client → Remembering → Client
client_recalled c x = client_read (record c { cache = x.1 }) x.0

-- a fetch, and a step of a read, first put a fresh decision with those that are kept
abbrev pub client_put_fresh : Client → Client
client_put_fresh c = record c { cache = put_fresh c.cache }

abbrev pub read_items : ℕ → ℕ → ℕ → ReadTurn → List Item
read_items session start key (Asks r) = []
read_items session start key (Answers a) = item.Read session start key (found_of a.found) ∷ []

-- whether a read may mark every version that it resolves, and not those alone that are at most the epoch: where sessions place
-- their commits, no epoch tells which of them may still come
abbrev pub marks_every : SetupNumbers → Bool
marks_every setup = setup.direct

-- ---- what the transaction has read: kept in the strict form alone, and of keys alone that it has not written itself
abbrev pub keeps_read : SetupNumbers → Client → ℕ → Bool
keeps_read setup c key = setup.strict && not (has_key c.entry.keys key)

abbrev pub reads_after : SetupNumbers → Client → ℕ → List ℕ
reads_after setup c key = if keeps_read setup c key then key_added c.reads key else c.reads

abbrev pub client_fetched : SetupNumbers → Client → ℕ → Client
client_fetched setup c key = record c { reads = reads_after setup c key }

-- another key is refused where as many are kept as may be
abbrev pub reads_refusal : SetupNumbers → Client → ℕ → Option Cause
reads_refusal setup c key = if keeps_read setup c key then key_refusal c.reads key else None

abbrev pub fetch_refused : SetupNumbers → Client → ℕ → Option Cause
fetch_refused setup c key = option_or (work_refusal c.entry.state (is_reading c)) (reads_refusal setup c key)

-- the read over the fetched cells, once what was just decided is kept
abbrev pub fetch_recall : SetupNumbers → ℕ → ℕ → ℕ → Client → List Cell → Remembering
fetch_recall setup key start epoch c cells = recalled_over (marks_every setup) key start epoch (front_of start cells) (put_fresh c.cache)

-- the fetch, and that read as far as it goes
abbrev pub fetch_worked : ℕ → ℕ → ℕ → Client → List Cell → Remembering → Effect Client
fetch_worked session start key c cells x = done (client_recalled c x) (item.Step (Session session) (step.Fetch key (length cells)) ∷ read_items session start key x.0)

abbrev pub fetch_by : SetupNumbers → ℕ → ℕ → ℕ → ℕ → Fate → Client → List Cell → Effect Client
fetch_by setup session start epoch key Works c cells = fetch_worked session start key (client_fetched setup c key) cells (fetch_recall setup key start epoch c cells)
fetch_by setup session start epoch key fate c cells = faulted (record (client_put_fresh c) { heal = None }) (Session session) Cells []

abbrev pub fetch_open : SetupNumbers → ℕ → ℕ → Fate → Client → List Row → Option Cause → Option ℕ → Option ℕ → Effect Client
fetch_open setup session key fate c rows (Some why) start epoch = refused c (Session session) why
fetch_open setup session key fate c rows None (Some start) (Some epoch) = fetch_by setup session start epoch key fate c (fetched rows key start)
fetch_open setup session key fate c rows None _ _ = done c []

abbrev pub fetch_on : SetupNumbers → ℕ → ℕ → Fate → Client → List Row → Effect Client
fetch_on setup session key fate c rows = fetch_open setup session key fate c rows (fetch_refused setup c key) c.entry.start c.entry.epoch

abbrev pub epoch_asks : Option ℕ → Option Store → Option Store
epoch_asks None asks = None
epoch_asks (Some epoch) asks = asks

abbrev pub fetch_asks : SetupNumbers → ℕ → Client → Option Store
fetch_asks setup key c = epoch_asks c.entry.epoch (open_asks (fetch_refused setup c key) c.entry.start)
