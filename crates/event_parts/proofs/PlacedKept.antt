-- For node_events and session_events too.
-- For the crates of the events: a placing that failed shows its record exactly where the table has it since.
use Rattle.std.proofs.Common.{◌≡◌, ◌≢◌, ℕ, [], ◌∷◌, refl, Option, None, Some, arith}
use Rattle.stamp_base.specs.declared.stores.Mark.{Mark}
use Rattle.stamp_base.specs.declared.stores.Mark.TheVariants.{Committed}
use Rattle.port_io.specs.declared.weather.Fate.{Fate}
use Rattle.port_io.specs.declared.weather.Fate.TheVariants.{Works, FailsUnchanged, FailsApplied}
use Rattle.port_io.specs.Fates.{fated}
use Rattle.history_book.specs.declared.item.Item.TheVariants as item
use Rattle.system_parts.specs.Pairs.{Pairs, mark_of, put_pair}
use Rattle.system_parts.proofs.PairLaws.{entry_or, mark_of-put_pair}
use Rattle.machine.specs.Effect.{kept_items}
use Rattle.event_parts.specs.Kept.{placed_kept}

-- the table stayed
stayed : (found : Option Mark) (start commit : ℕ) → placed_kept found found start commit ≡ []
stayed None start commit = refl
stayed (Some mark) start commit = refl

-- the table has the entry that was there, or the new one
entered : (found : Option Mark) (mark : Mark) (start commit : ℕ) → placed_kept found (Some (entry_or found mark)) start commit ≡ kept_items FailsApplied found (item.Placed start commit ∷ [])
entered None mark start commit = refl
entered (Some there) mark start commit = refl

pub kept_as_placed : (fate : Fate) (pairs : Pairs) (start commit : ℕ) → fate ≢ Works → placed_kept (mark_of pairs start) (mark_of (fated fate pairs (put_pair pairs start (Committed commit))) start) start commit ≡ kept_items fate (mark_of pairs start) (item.Placed start commit ∷ [])
kept_as_placed Works pairs start commit fails = grind arith
kept_as_placed FailsUnchanged pairs start commit fails = stayed (mark_of pairs start) start commit
kept_as_placed FailsApplied pairs start commit fails =
    rw (mark_of-put_pair pairs start (Committed commit)) (entered (mark_of pairs start) (Committed commit) start commit)
