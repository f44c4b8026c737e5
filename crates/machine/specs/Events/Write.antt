-- A session writes a value at a key: a bare cell, whose version is the start. A failed write ends the transaction, with
-- the key among those that are undone.
use Rattle.std.specs.Prelude.{ℕ, List, [], ◌∷◌, Option, None, Some}
use Rattle.std.specs.Option.{option_or}
use Rattle.stamp_base.specs.declared.stores.Store.{Store}
use Rattle.stamp_base.specs.declared.stores.Store.TheVariants.{Cells}
use Rattle.port_io.specs.declared.weather.Fate.{Fate}
use Rattle.port_io.specs.declared.weather.Fate.TheVariants.{Works}
use Rattle.port_io.specs.Fates.{fated}
use Rattle.history_book.specs.declared.cause.Cause.{Cause}
use Rattle.history_book.specs.declared.item.Actor.TheVariants.{Session}
use Rattle.history_book.specs.declared.item.Ending.TheVariants.{Aborted}
use Rattle.history_book.specs.declared.item.Item.TheVariants as item
use Rattle.system_parts.specs.Rows.{Row, put_row}
use Rattle.system_parts.specs.SessionSteps.{work_refusal, key_refusal, session_wrote}
use Rattle.machine.specs.State.{Client}
use Rattle.machine.specs.Effect.{Effect, Faults, done, refused}
use Rattle.machine.specs.Clients.{is_reading, client_aborted}

-- the key is in the write list; an offered shadow is offered no longer
abbrev pub client_wrote : Client → ℕ → Client
client_wrote c key = record c { entry = session_wrote c.entry key; heal = None }

abbrev pub write_refused : Client → ℕ → Option Cause
write_refused c key = option_or (work_refusal c.entry.state (is_reading c)) (key_refusal c.entry.keys key)

-- by the fate, `rows` being the cells now
abbrev pub write_by : ℕ → ℕ → ℕ → List ℕ → Fate → Client → List Row → Effect (Client × List Row)
write_by session start key value Works c rows = done (client_wrote c key, rows) (item.Write session start key value ∷ [])
write_by session start key value fate c rows = record {
  parts = (client_aborted (client_wrote c key), rows);
  items = item.Fault (Session session) Cells ∷ item.End session start Aborted ∷ [];
  stop = Some (Faults Cells);
}

abbrev pub write_open : ℕ → ℕ → List ℕ → Fate → Client → List Row → Option Cause → Option ℕ → Effect (Client × List Row)
write_open session key value fate c rows (Some why) start = refused (c, rows) (Session session) why
write_open session key value fate c rows None None = done (c, rows) []
write_open session key value fate c rows None (Some start) = write_by session start key value fate c (fated fate rows (put_row rows key start value))

abbrev pub write_on : ℕ → ℕ → List ℕ → Fate → Client → List Row → Effect (Client × List Row)
write_on session key value fate c rows = write_open session key value fate c rows (write_refused c key) c.entry.start

-- the cells are asked where the session may go on, and has a start
abbrev pub open_asks : Option Cause → Option ℕ → Option Store
open_asks None (Some start) = Some Cells
open_asks _ _ = None

abbrev pub write_asks : ℕ → Client → Option Store
write_asks key c = open_asks (write_refused c key) c.entry.start
