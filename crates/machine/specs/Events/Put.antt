-- A node places the record of a commit that it drew, unless the commit table has a mark in its place. The commit is
-- settled in all ways.
use Rattle.std.specs.Prelude.{ℕ, [], ◌∷◌, Option, None, Some}
use Rattle.stamp_base.specs.declared.stores.Store.{Store}
use Rattle.stamp_base.specs.declared.stores.Store.TheVariants.{Table}
use Rattle.stamp_base.specs.declared.stores.Mark.{Mark}
use Rattle.stamp_base.specs.declared.stores.Mark.TheVariants.{Committed}
use Rattle.port_io.specs.declared.weather.Fate.{Fate}
use Rattle.port_io.specs.declared.weather.Fate.TheVariants.{Works}
use Rattle.port_io.specs.Fates.{fated}
use Rattle.history_book.specs.declared.cause.Cause.TheVariants as cause
use Rattle.history_book.specs.declared.item.Actor.TheVariants.{Node}
use Rattle.history_book.specs.declared.item.StoreStep.TheVariants.{PutFound}
use Rattle.history_book.specs.declared.item.Item.TheVariants as item
use Rattle.system_parts.specs.Pairs.{Pairs, mark_of, put_pair}
use Rattle.system_parts.specs.declared.instance.Held.{Held}
use Rattle.system_parts.specs.declared.instance.Progress.{Progress}
use Rattle.system_parts.specs.declared.instance.Progress.TheVariants.{Drawn}
use Rattle.system_parts.specs.declared.instance.Request.{Request}
use Rattle.system_parts.specs.declared.instance.Request.TheVariants.{Commit}
use Rattle.system_parts.specs.declared.instance.Settled.TheVariants as how
use Rattle.system_parts.specs.Instance.{InstanceEntry, held_of}
use Rattle.system_parts.specs.InstanceSteps.{instance_settle}
use Rattle.machine.specs.Effect.{Effect, done, refused, faulted, kept_items}

-- the start and the commit of a commit that was drawn and is not settled
abbrev pub to_place_by : Request → Progress → Option (ℕ × ℕ)
to_place_by (Commit session start keys) (Drawn commit) = Some (start, commit)
to_place_by request progress = None

abbrev pub to_place : Option Held → Option (ℕ × ℕ)
to_place None = None
to_place (Some held) = to_place_by held.request held.progress

-- by the fate, and by what the table has for the transaction
abbrev pub put_by : ℕ → ℕ → ℕ → ℕ → Fate → Option Mark → InstanceEntry → Pairs → Effect (Option InstanceEntry × Pairs)
put_by node session start commit Works None i pairs = done (Some (instance_settle i session how.Placed).left, pairs) (item.Placed start commit ∷ [])
put_by node session start commit Works (Some mark) i pairs = done (Some (instance_settle i session how.Invalid).left, pairs) (item.Step (Node node) (PutFound start) ∷ [])
put_by node session start commit fate found i pairs =
    faulted (Some (instance_settle i session how.Faulted).left, pairs) (Node node) Table (kept_items fate found (item.Placed start commit ∷ []))

abbrev pub put_commit : ℕ → ℕ → Fate → InstanceEntry → Pairs → Option (ℕ × ℕ) → Effect (Option InstanceEntry × Pairs)
put_commit node session fate i pairs None = refused (Some i, pairs) (Node node) (cause.NoRequest session)
put_commit node session fate i pairs (Some stamps) =
    put_by node session stamps.0 stamps.1 fate (mark_of pairs stamps.0) i (fated fate pairs (put_pair pairs stamps.0 (Committed stamps.1)))

abbrev pub put_on : ℕ → ℕ → Fate → Option InstanceEntry → Pairs → Effect (Option InstanceEntry × Pairs)
put_on node session fate None pairs = refused (None, pairs) (Node node) (cause.NoOracle node)
put_on node session fate (Some i) pairs = put_commit node session fate i pairs (to_place (held_of i session))

-- the table is asked where there is a commit to place
abbrev pub commit_asks : Option (ℕ × ℕ) → Option Store
commit_asks None = None
commit_asks (Some stamps) = Some Table

abbrev pub put_asks : ℕ → Option InstanceEntry → Option Store
put_asks session None = None
put_asks session (Some i) = commit_asks (to_place (held_of i session))
