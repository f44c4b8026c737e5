-- A put that failed, by what the table has before and after it.
use Rattle.std.proofs.Common.{◌≡◌, ◌≢◌, ℕ, List, [], ◌∷◌, ◌++◌, append_assoc, refl, ◌∙◌, subst, Option, None, Some, Result, Err, arith}
use Rattle.stamp_base.specs.declared.stores.Store.TheVariants.{Table}
use Rattle.stamp_base.specs.declared.stores.Mark.{Mark}
use Rattle.stamp_base.specs.declared.stores.Mark.TheVariants.{Committed}
use Rattle.port_io.specs.declared.weather.Fate.{Fate}
use Rattle.port_io.specs.declared.weather.Fate.TheVariants.{Works, FailsUnchanged, FailsApplied}
use Rattle.port_io.specs.Fates.{fated}
use Rattle.history_book.specs.declared.item.Actor.TheVariants.{Node}
use Rattle.history_book.specs.declared.item.Item.{Item}
use Rattle.history_book.specs.declared.item.Item.TheVariants as item
use Rattle.system_parts.specs.Pairs.{Pairs, mark_of, put_pair}
use Rattle.system_parts.specs.declared.instance.Settled.TheVariants as how
use Rattle.system_parts.specs.Instance.{InstanceEntry}
use Rattle.system_parts.specs.InstanceSteps.{instance_settle}
use Rattle.machine.specs.Effect.{kept_items}
use Rattle.machine.specs.Events.Put.{put_by}
use Rattle.event_parts.specs.declared.stopped.Stopped.{Stopped}
use Rattle.event_parts.specs.declared.stopped.Stopped.TheVariants.{StoreFault}
use Rattle.event_parts.specs.Made.{Makes}
use Rattle.event_parts.specs.Kept.{placed_kept}
use Rattle.event_parts.proofs.PlacedKept.{kept_as_placed}

shown : (before after made kept : List Item) (fault : Item) → made ≡ kept → after ≡ before ++ made ++ fault ∷ [] → after ≡ before ++ (kept ++ fault ∷ [])
shown before after made kept fault same items = subst (λ (effects : List Item). after ≡ before ++ (effects ++ fault ∷ [])) same (items ∙ append_assoc before made (fault ∷ []))

-- a put: the node, whose request it is, its two stamps, and the instance and the table before it
pub record Put : Type 0 where
  pub node : ℕ
  pub session : ℕ
  pub start : ℕ
  pub commit : ℕ
  pub instance : InstanceEntry
  pub table : Pairs

-- what is left of it: the instance and the table, the items of the change, the history before and after, and the answer
pub record Left : Type 0 where
  pub instance : InstanceEntry
  pub table : Pairs
  pub made : List Item
  pub before : List Item
  pub after : List Item
  pub result : Result Unit Stopped

-- the event by its items
failed_with : (fate : Fate) (found : Option Mark) (x : Put) (now : Pairs) (made before after : List Item) → fate ≢ Works → made ≡ kept_items fate found (item.Placed x.start x.commit ∷ []) → after ≡ before ++ made ++ item.Fault (Node x.node) Table ∷ [] → Makes (put_by x.node x.session x.start x.commit fate found x.instance now) (Some x.instance, x.table) (Some (instance_settle x.instance x.session how.Faulted).left, now) before after (Err (StoreFault Table))
failed_with Works found x now made before after fails kept items = grind arith
failed_with FailsUnchanged None x now made before after fails kept items =
    record { parts = refl; items = shown before after made (kept_items {E = Mark} FailsUnchanged None (item.Placed x.start x.commit ∷ [])) (item.Fault (Node x.node) Table) kept items; stop = refl }
failed_with FailsUnchanged (Some there) x now made before after fails kept items =
    record { parts = refl; items = shown before after made (kept_items FailsUnchanged (Some there) (item.Placed x.start x.commit ∷ [])) (item.Fault (Node x.node) Table) kept items; stop = refl }
failed_with FailsApplied None x now made before after fails kept items =
    record { parts = refl; items = shown before after made (kept_items {E = Mark} FailsApplied None (item.Placed x.start x.commit ∷ [])) (item.Fault (Node x.node) Table) kept items; stop = refl }
failed_with FailsApplied (Some there) x now made before after fails kept items =
    record { parts = refl; items = shown before after made (kept_items FailsApplied (Some there) (item.Placed x.start x.commit ∷ [])) (item.Fault (Node x.node) Table) kept items; stop = refl }

-- the table as a call of this fate leaves it
abbrev pub table_after : Fate → Put → Pairs
table_after fate x = fated fate x.table (put_pair x.table x.start (Committed x.commit))

-- the put failed: the instance settled the request so, and what changed of the table was told, then the fault
pub record HasFailed (fate : Fate) (x : Put) (y : Left) : Type 0 where
  pub fails : fate ≢ Works
  pub moved : y.table ≡ table_after fate x
  pub kept : y.made ≡ placed_kept (mark_of x.table x.start) (mark_of y.table x.start) x.start x.commit
  pub items : y.after ≡ y.before ++ y.made ++ item.Fault (Node x.node) Table ∷ []
  pub settled : y.instance ≡ (instance_settle x.instance x.session how.Faulted).left
  pub told : y.result ≡ Err (StoreFault Table)

pub put_failed : (fate : Fate) (x : Put) (y : Left) → HasFailed fate x y → Makes (put_by x.node x.session x.start x.commit fate (mark_of x.table x.start) x.instance (table_after fate x)) (Some x.instance, x.table) (Some y.instance, y.table) y.before y.after y.result
put_failed fate x y has =
    let effects = (rw has.moved at has.kept) ∙ kept_as_placed fate x.table x.start x.commit has.fails in
    rw has.told (rw has.settled (rw has.moved (failed_with fate (mark_of x.table x.start) x (table_after fate x) y.made y.before y.after has.fails effects has.items)))
