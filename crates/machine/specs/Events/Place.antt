-- A session places the record of a commit that was handed to it, unless the commit table has a mark in its place. So it
-- learns how its transaction ends; where the store failed it does not, and the outcome is open.
use Rattle.std.specs.Prelude.{ℕ, [], ◌∷◌, ◌++◌, Option, None, Some}
use Rattle.stamp_base.specs.declared.stores.Store.TheVariants.{Table}
use Rattle.stamp_base.specs.declared.stores.Mark.{Mark}
use Rattle.stamp_base.specs.declared.stores.Mark.TheVariants as mark
use Rattle.port_io.specs.declared.weather.Fate.{Fate}
use Rattle.port_io.specs.declared.weather.Fate.TheVariants.{Works}
use Rattle.port_io.specs.Fates.{fated}
use Rattle.history_book.specs.declared.cause.Cause.TheVariants as cause
use Rattle.history_book.specs.declared.item.Actor.TheVariants.{Session}
use Rattle.history_book.specs.declared.item.StoreStep.TheVariants.{PutFound}
use Rattle.history_book.specs.declared.item.Item.TheVariants as item
use Rattle.system_parts.specs.Pairs.{Pairs, mark_of, put_pair}
use Rattle.machine.specs.State.{Client}
use Rattle.machine.specs.Effect.{Effect, Refuses, Faults, done, kept_items}
use Rattle.machine.specs.Clients.{client_aborted, client_committed, client_opened}

-- by the fate, and by what the table has for the transaction
abbrev pub place_by : ℕ → ℕ → ℕ → Fate → Option Mark → Client → Pairs → Effect (Client × Pairs)
place_by session start commit Works None c pairs = done (client_committed c commit, pairs) (item.Placed start commit ∷ item.Committed session start commit ∷ [])
place_by session start commit Works (Some found) c pairs = record {
  parts = (client_aborted c, pairs);
  items = item.Step (Session session) (PutFound start) ∷ item.Refused (Session session) (cause.Invalid start) ∷ [];
  stop = Some (Refuses (cause.Invalid start));
}
place_by session start commit fate found c pairs = record {
  parts = (client_opened c, pairs);
  items = kept_items fate found (item.Placed start commit ∷ []) ++ item.Fault (Session session) Table ∷ item.Refused (Session session) (cause.Open start) ∷ [];
  stop = Some (Faults Table);
}

abbrev pub place_on : ℕ → ℕ → ℕ → Fate → Client → Pairs → Effect (Client × Pairs)
place_on session start commit fate c pairs =
    place_by session start commit fate (mark_of pairs start) c (fated fate pairs (put_pair pairs start (mark.Committed commit)))
