-- A session's placing is the machine's step of it, also where it failed: then by what the table has before and after it.
use Rattle.std.proofs.Common.{◌≡◌, ◌≢◌, ℕ, List, [], ◌∷◌, ◌++◌, append_assoc, refl, ap, ◌∙◌, subst, Option, None, Some, Result, Err, arith}
use Rattle.stamp_base.specs.declared.stores.Store.{Store}
use Rattle.stamp_base.specs.declared.stores.Store.TheVariants.{Table}
use Rattle.stamp_base.specs.declared.stores.Mark.{Mark}
use Rattle.stamp_base.specs.declared.stores.Mark.TheVariants.{Committed}
use Rattle.port_io.specs.declared.weather.Fate.{Fate}
use Rattle.port_io.specs.declared.weather.Fate.TheVariants.{Works, FailsUnchanged, FailsApplied}
use Rattle.port_io.specs.Fates.{fated}
use Rattle.history_book.specs.declared.cause.Cause.TheVariants as cause
use Rattle.history_book.specs.declared.item.Actor.TheVariants.{Session}
use Rattle.history_book.specs.declared.item.Item.{Item}
use Rattle.history_book.specs.declared.item.Item.TheVariants as item
use Rattle.system_parts.specs.Rows.{Row}
use Rattle.system_parts.specs.Pairs.{Pairs, mark_of, put_pair}
use Rattle.system_parts.specs.declared.session.State.{State}
use Rattle.system_parts.specs.declared.session.State.TheVariants.{Placing}
use Rattle.system_parts.specs.SessionSteps.{SessionEntry, step_refusal, handed_by, handed_commit}
use Rattle.machine.specs.State.{Client}
use Rattle.machine.specs.Effect.{kept_items}
use Rattle.machine.specs.Clients.{is_reading, client_opened}
use Rattle.machine.specs.Events.Place.{place_by, place_on}
use Rattle.machine.specs.Events.Step.{placed_among, step_on, step_asks}
use Rattle.event_parts.specs.declared.stopped.Stopped.{Stopped}
use Rattle.event_parts.specs.declared.stopped.Stopped.TheVariants.{StoreFault}
use Rattle.event_parts.specs.Made.{Makes, fate_ahead}
use Rattle.event_parts.specs.Kept.{placed_kept}
use Rattle.event_parts.proofs.PlacedKept.{kept_as_placed}

-- a session that is to place is Placing
placing_by : (s : State) (start commit : Option ℕ) (stamps : ℕ × ℕ) → handed_by s start commit ≡ Some stamps → s ≡ Placing
placing_by Placing start commit stamps is = refl
placing_by s start commit stamps is = absurd cc

pub is_placing : (e : SessionEntry) (start commit : ℕ) → handed_commit e ≡ Some (start, commit) → e.state ≡ Placing
is_placing e start commit is = placing_by e.state e.start e.commit (start, commit) is

-- what is told of a placing that failed
abbrev failing : ℕ → ℕ → List Item
failing session start = item.Fault (Session session) Table ∷ item.Refused (Session session) (cause.Open start) ∷ []

shown : (before after made kept rest : List Item) → made ≡ kept → after ≡ before ++ made ++ rest → after ≡ before ++ (kept ++ rest)
shown before after made kept rest same items = subst (λ (effects : List Item). after ≡ before ++ (effects ++ rest)) same (items ∙ append_assoc before made rest)

-- a placing: whose it is, its two stamps, and the client, the rows and the table before it
pub record Put : Type 0 where
  pub session : ℕ
  pub start : ℕ
  pub commit : ℕ
  pub client : Client
  pub rows : List Row
  pub table : Pairs

-- what is left of it: the client and the table, the items of the change, the history before and after, and the answer
pub record Left : Type 0 where
  pub client : Client
  pub table : Pairs
  pub made : List Item
  pub before : List Item
  pub after : List Item
  pub result : Result Unit Stopped

-- the step by its items
failed_with : (fate : Fate) (found : Option Mark) (x : Put) (now : Pairs) (made before after : List Item) → fate ≢ Works → made ≡ kept_items fate found (item.Placed x.start x.commit ∷ []) → after ≡ before ++ made ++ failing x.session x.start → Makes (placed_among x.rows (place_by x.session x.start x.commit fate found x.client now)) (x.client, x.rows, x.table) (client_opened x.client, x.rows, now) before after (Err (StoreFault Table))
failed_with Works found x now made before after fails kept items = grind arith
failed_with FailsUnchanged None x now made before after fails kept items =
    record { parts = refl; items = shown before after made (kept_items {E = Mark} FailsUnchanged None (item.Placed x.start x.commit ∷ [])) (failing x.session x.start) kept items; stop = refl }
failed_with FailsUnchanged (Some there) x now made before after fails kept items =
    record { parts = refl; items = shown before after made (kept_items FailsUnchanged (Some there) (item.Placed x.start x.commit ∷ [])) (failing x.session x.start) kept items; stop = refl }
failed_with FailsApplied None x now made before after fails kept items =
    record { parts = refl; items = shown before after made (kept_items {E = Mark} FailsApplied None (item.Placed x.start x.commit ∷ [])) (failing x.session x.start) kept items; stop = refl }
failed_with FailsApplied (Some there) x now made before after fails kept items =
    record { parts = refl; items = shown before after made (kept_items FailsApplied (Some there) (item.Placed x.start x.commit ∷ [])) (failing x.session x.start) kept items; stop = refl }

-- the table as a call of this fate leaves it
abbrev pub table_after : Fate → Put → Pairs
table_after fate x = fated fate x.table (put_pair x.table x.start (Committed x.commit))

-- the placing failed: the client's transaction is open again, and what changed of the table was told, then the fault
pub record HasFailed (fate : Fate) (x : Put) (y : Left) : Type 0 where
  pub fails : fate ≢ Works
  pub moved : y.table ≡ table_after fate x
  pub kept : y.made ≡ placed_kept (mark_of x.table x.start) (mark_of y.table x.start) x.start x.commit
  pub items : y.after ≡ y.before ++ y.made ++ failing x.session x.start
  pub opened : y.client ≡ client_opened x.client
  pub told : y.result ≡ Err (StoreFault Table)

pub place_failed : (fate : Fate) (x : Put) (y : Left) → HasFailed fate x y → Makes (placed_among x.rows (place_by x.session x.start x.commit fate (mark_of x.table x.start) x.client (table_after fate x))) (x.client, x.rows, x.table) (y.client, x.rows, y.table) y.before y.after y.result
place_failed fate x y has =
    let effects = (rw has.moved at has.kept) ∙ kept_as_placed fate x.table x.start x.commit has.fails in
    rw has.told (rw has.opened (rw has.moved (failed_with fate (mark_of x.table x.start) x (table_after fate x) y.made y.before y.after has.fails effects has.items)))

-- so is the step of a session that is to place
pub placing_step : (session : ℕ) (ahead : Store → ℕ → Fate) (c left : Client) (rows : List Row) (pairs now : Pairs) (start commit : ℕ) (before after : List Item) (result : Result Unit Stopped) → Makes (placed_among rows (place_on session start commit (ahead Table 0) c pairs)) (c, rows, pairs) (left, rows, now) before after result → handed_commit c.entry ≡ Some (start, commit) → Makes (step_on session (fate_ahead (step_asks c) ahead) c rows pairs) (c, rows, pairs) (left, rows, now) before after result
placing_step session ahead c left rows pairs now start commit before after result made is =
    let go : step_refusal c.entry.state (is_reading c) ≡ None = ap (λ (s : State). step_refusal s (is_reading c)) (is_placing c.entry start commit is) in
    rw (go, is) made
