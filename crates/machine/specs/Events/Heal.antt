-- A session sets the shadow that its last read offers. Done or failed, the offer is used up.
use Rattle.std.specs.Prelude.{ℕ, Bool, false, List, Option, None, Some}
use Rattle.stamp_base.specs.declared.stores.Store.{Store}
use Rattle.stamp_base.specs.declared.stores.Store.TheVariants.{Cells}
use Rattle.port_io.specs.declared.weather.Fate.{Fate}
use Rattle.history_book.specs.declared.cause.Cause.{Cause}
use Rattle.history_book.specs.declared.cause.Cause.TheVariants as cause
use Rattle.history_book.specs.declared.item.Actor.TheVariants.{Session}
use Rattle.system_parts.specs.Rows.{Row}
use Rattle.system_parts.specs.Pairs.{Pairs}
use Rattle.system_parts.specs.declared.asks.Ask.TheVariants.{Shadow}
use Rattle.system_parts.specs.declared.asks.Told.{Told}
use Rattle.system_parts.specs.declared.session.State as state
use Rattle.machine.specs.State.{Client}
use Rattle.machine.specs.Effect.{Effect, Faults, done, refused}
use Rattle.machine.specs.StoreSteps.{Met, met}
use Rattle.machine.specs.Clients.{is_reading}

-- only an open transaction without a read under way has an offer
abbrev pub offer_by : state.State → Bool → Option (ℕ × ℕ × ℕ) → Option (ℕ × ℕ × ℕ)
offer_by state.TheVariants.Open false heal = heal
offer_by _ _ heal = None

abbrev pub offer_of : Client → Option (ℕ × ℕ × ℕ)
offer_of c = offer_by c.entry.state (is_reading c) c.heal

abbrev pub no_offer_cause : state.State → Cause
no_offer_cause state.TheVariants.Gone = cause.Gone
no_offer_cause _ = cause.Idle

abbrev pub heal_by : Client → Met → Option Told → Effect (Client × List Row)
heal_by c m None = record { parts = (record c { heal = None }, m.rows); items = m.items; stop = Some (Faults Cells) }
heal_by c m (Some answer) = done (record c { heal = None }, m.rows) m.items

abbrev pub heal_met : Client → Met → Effect (Client × List Row)
heal_met c m = heal_by c m m.told

abbrev pub heal_at : ℕ → Fate → Client → List Row → Pairs → Option (ℕ × ℕ × ℕ) → Effect (Client × List Row)
heal_at session fate c rows pairs None = refused (c, rows) (Session session) (no_offer_cause c.entry.state)
heal_at session fate c rows pairs (Some offer) = heal_met c (met (Session session) (Shadow offer.0 offer.1 offer.2) fate rows pairs)

abbrev pub heal_on : ℕ → Fate → Client → List Row → Pairs → Effect (Client × List Row)
heal_on session fate c rows pairs = heal_at session fate c rows pairs (offer_of c)

abbrev pub offer_asks : Option (ℕ × ℕ × ℕ) → Option Store
offer_asks None = None
offer_asks (Some offer) = Some Cells

abbrev pub heal_asks : Client → Option Store
heal_asks c = offer_asks (offer_of c)
