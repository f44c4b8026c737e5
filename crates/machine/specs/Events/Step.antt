-- A session makes the next step of what it has under way, which is one call on a store: a step of a read, of the resolve
-- of its own commit, or of a completion, or the placing of a commit that was handed to it.
use Rattle.std.specs.Prelude.{ℕ, List, [], ◌∷◌, ◌++◌, Option, None, Some}
use Rattle.stamp_base.specs.declared.stores.Store.{Store}
use Rattle.stamp_base.specs.declared.stores.Store.TheVariants.{Table}
use Rattle.port_io.specs.declared.weather.Fate.{Fate}
use Rattle.history_book.specs.declared.cause.Cause.{Cause}
use Rattle.history_book.specs.declared.item.Actor.TheVariants.{Session}
use Rattle.history_book.specs.declared.item.Ending.TheVariants.{Dead as DeadEnd}
use Rattle.history_book.specs.declared.item.Item.{Item}
use Rattle.history_book.specs.declared.item.Item.TheVariants as item
use Rattle.system_parts.specs.Rows.{Row}
use Rattle.system_parts.specs.Pairs.{Pairs}
use Rattle.system_parts.specs.declared.asks.Ask.{Ask}
use Rattle.system_parts.specs.declared.asks.Told.{Told}
use Rattle.system_parts.specs.declared.resolve.Outcome.TheVariants as outcome
use Rattle.system_parts.specs.declared.session.State as state
use Rattle.system_parts.specs.SessionSteps.{SessionEntry, step_refusal, handed_commit}
use Rattle.system_parts.specs.Resolve.{Settling, own_settling, settle_ask, SettleTurn, Goes, Decides, settle_turn}
use Rattle.system_parts.specs.KeyRead.{Reading, read_ask}
use Rattle.system_parts.specs.Cache.{cache_learnt, learnt_by}
use Rattle.system_parts.specs.Recalled.{Remembering, recalled_told}
use Rattle.system_parts.specs.Completion.{first_ask}
use Rattle.machine.specs.State.{UnderWay, Nothing, Reads, Settles, Completes, Client}
use Rattle.machine.specs.Effect.{Effect, Faults, done, refused}
use Rattle.machine.specs.StoreSteps.{Met, met, store_of}
use Rattle.machine.specs.Clients.{is_reading, client_freed, client_aborted, client_committed}
use Rattle.machine.specs.Events.Fetch.{client_recalled, client_put_fresh, read_items}
use Rattle.machine.specs.Events.Place.{place_on}

abbrev pub StepParts : Type 0
StepParts = Client × List Row × Pairs

-- what the step left of the stores, with the client and further items
abbrev pub stepped_on : Client → Met → List Item → Effect StepParts
stepped_on c m items = done (c, m.rows, m.pairs) (m.items ++ items)

-- the store failed
abbrev pub step_failed : Client → Ask → Met → Effect StepParts
step_failed c asked m = record { parts = (c, m.rows, m.pairs); items = m.items; stop = Some (Faults (store_of asked)) }

-- ---- a read: what the step decides for good is learnt, and the read goes on as far as it can
abbrev pub step_recall : Client → Reading → Told → Remembering
step_recall c r answer = recalled_told (cache_learnt c.cache (learnt_by r answer)) r answer

-- a failed step ends it without an answer
abbrev pub read_worked : ℕ → Client → Reading → Met → Remembering → Effect StepParts
read_worked session c r m x = stepped_on (client_recalled c x) m (read_items session r.start r.key x.0)

abbrev pub read_by : ℕ → Client → Reading → Met → Option Told → Effect StepParts
read_by session c r m None = step_failed (record c { under_way = Nothing }) (read_ask r) m
read_by session c r m (Some answer) = read_worked session c r m (step_recall c r answer)

abbrev pub read_step : ℕ → Client → Reading → Met → Effect StepParts
read_step session c r m = read_by session (client_put_fresh c) r m m.told

-- ---- the own commit, whose outcome is open: after a failed step the resolve starts over
abbrev pub settle_items : ℕ → Option ℕ → SettleTurn → List Item
settle_items session (Some start) (Decides (outcome.Committed commit by_table)) = item.Committed session start commit ∷ []
settle_items session (Some start) (Decides outcome.Dead) = item.End session start DeadEnd ∷ []
settle_items session _ _ = []

abbrev pub client_settled : Client → Settling → SettleTurn → Client
client_settled c x (Goes point) = record c { under_way = Settles (record x { point = point }) }
client_settled c x (Decides (outcome.Committed commit by_table)) = client_committed c commit
client_settled c x (Decides outcome.Dead) = client_aborted c

abbrev pub settle_by : ℕ → Client → Settling → Met → Option Told → Effect StepParts
settle_by session c x m None = step_failed (record c { under_way = Nothing }) (settle_ask x) m
settle_by session c x m (Some answer) = stepped_on (client_settled c x (settle_turn x answer)) m (settle_items session c.entry.start (settle_turn x answer))

abbrev pub settle_step : ℕ → Client → Settling → Met → Effect StepParts
settle_step session c x m = settle_by session c x m m.told

-- ---- a completion: the last step frees the session, and so does a failed one
abbrev pub after_asks : Client → List Ask → Client
after_asks c [] = client_freed c
after_asks c (asked ∷ asks) = record c { under_way = Completes (asked ∷ asks) }

abbrev pub complete_by : Client → Ask → List Ask → Met → Option Told → Effect StepParts
complete_by c asked asks m None = step_failed (client_freed c) asked m
complete_by c asked asks m (Some answer) = stepped_on (after_asks c asks) m []

abbrev pub complete_step : Client → Ask → List Ask → Met → Effect StepParts
complete_step c asked asks m = complete_by c asked asks m m.told

-- ---- what is under way: an outcome that is open is resolved by the first key of the write list
abbrev pub own_resolve : Option ℕ → List ℕ → UnderWay
own_resolve (Some start) (key ∷ keys) = Settles (own_settling key start)
own_resolve _ _ = Nothing

abbrev pub work_by : state.State → SessionEntry → UnderWay → UnderWay
work_by state.TheVariants.OpenOutcome e Nothing = own_resolve e.start e.keys
work_by _ e work = work

abbrev pub work_of : Client → UnderWay
work_of c = work_by c.entry.state c.entry c.under_way

-- what is asked next
abbrev pub next_of : UnderWay → Option Ask
next_of Nothing = None
next_of (Reads r) = Some (read_ask r)
next_of (Settles x) = Some (settle_ask x)
next_of (Completes asks) = first_ask asks

abbrev pub step_at : ℕ → Fate → Client → List Row → Pairs → UnderWay → Effect StepParts
step_at session fate c rows pairs Nothing = done (c, rows, pairs) []
step_at session fate c rows pairs (Reads r) = read_step session c r (met (Session session) (read_ask r) fate rows pairs)
step_at session fate c rows pairs (Settles x) = settle_step session c x (met (Session session) (settle_ask x) fate rows pairs)
step_at session fate c rows pairs (Completes []) = done (c, rows, pairs) []
step_at session fate c rows pairs (Completes (asked ∷ asks)) = complete_step c asked asks (met (Session session) asked fate rows pairs)

-- a placing changes no cell
abbrev pub placed_among : List Row → Effect (Client × Pairs) → Effect StepParts
placed_among rows placed = record { parts = (placed.parts.0, rows, placed.parts.1); items = placed.items; stop = placed.stop }

-- a commit to place comes before all else
abbrev pub step_due : ℕ → Fate → Client → List Row → Pairs → Option (ℕ × ℕ) → Effect StepParts
step_due session fate c rows pairs None = step_at session fate c rows pairs (work_of c)
step_due session fate c rows pairs (Some stamps) = placed_among rows (place_on session stamps.0 stamps.1 fate c pairs)

abbrev pub step_by : ℕ → Fate → Client → List Row → Pairs → Option Cause → Effect StepParts
step_by session fate c rows pairs (Some why) = refused (c, rows, pairs) (Session session) why
step_by session fate c rows pairs None = step_due session fate c rows pairs (handed_commit c.entry)

abbrev pub step_on : ℕ → Fate → Client → List Row → Pairs → Effect StepParts
step_on session fate c rows pairs = step_by session fate c rows pairs (step_refusal c.entry.state (is_reading c))

abbrev pub store_asked : Option Ask → Option Store
store_asked None = None
store_asked (Some asked) = Some (store_of asked)

abbrev pub asked_next : Client → Option (ℕ × ℕ) → Option Store
asked_next c None = store_asked (next_of (work_of c))
asked_next c (Some stamps) = Some Table

abbrev pub step_asks_by : Client → Option Cause → Option Store
step_asks_by c (Some why) = None
step_asks_by c None = asked_next c (handed_commit c.entry)

abbrev pub step_asks : Client → Option Store
step_asks c = step_asks_by c (step_refusal c.entry.state (is_reading c))
