-- The items of the events on the master record: takes and renewals tell the reading that they were made with.
use Rattle.std.proofs.Common.{arith}
use Rattle.command_semantics.proofs.Names.{◌≡◌, ℕ, Option, Some, None}
use Rattle.command_semantics.proofs.Names.{Fate}
use Rattle.command_semantics.proofs.Names.{ExtendRefused}
use Rattle.command_semantics.proofs.Names.{InstanceEntry, State}
use Rattle.command_semantics.proofs.Names.{take_on, take_asks}
use Rattle.command_semantics.proofs.Names.{renew_on, renew_asks, extend_on, extend_asks, Clocks, reading_at}
use Rattle.system_parts.specs.declared.record.TakeRefused.{TakeRefused}
use Rattle.system_parts.specs.declared.record.TakeRefused.TheVariants as take
use Rattle.system_parts.specs.declared.record.RenewRefused.{RenewRefused}
use Rattle.system_parts.specs.declared.record.RenewRefused.TheVariants as renew
use Rattle.system_parts.specs.declared.record.ExtendRefused.TheVariants as extend
use Rattle.command_semantics.proofs.ReadItems.{Made, none_read, one_read, made_one, made_fault, made_refused, unchanged_fails, applied_fails}

-- ---- takes
-- it is refused as early with its own reading, and never as a fault
abbrev TakeTimed : ℕ → Option TakeRefused → Type 0
TakeTimed reading None = Unit {0}
TakeTimed reading (Some take.StoreFault) = ⊥
TakeTimed reading (Some (take.Early at until)) = at ≡ reading
TakeTimed reading (Some (take.Spent ceiling)) = Unit {0}

pub take_on_made : (clocks : Clocks) (w : State) (node reading : ℕ) (fate : Fate) (post : Option InstanceEntry) → reading ≡ reading_at clocks node → Made clocks (take_asks post) fate (take_on w.setup node reading fate post w.master).items
take_on_made clocks w node reading fate post reads =
    grind (arith, made_refused, made_one, made_fault, unchanged_fails, none_read, applied_fails, one_read)

-- ---- renewals
abbrev RenewTimed : Option RenewRefused → Type 0
RenewTimed (Some renew.StoreFault) = ⊥
RenewTimed why = Unit {0}

pub renew_on_made : (clocks : Clocks) (w : State) (node reading : ℕ) (fate : Fate) (post : Option InstanceEntry) → reading ≡ reading_at clocks node → Made clocks (renew_asks post) fate (renew_on w.setup node reading fate post w.master).items
renew_on_made clocks w node reading fate post reads =
    grind (arith, made_refused, made_one, made_fault, unchanged_fails, none_read, applied_fails, one_read)

-- ---- extensions
abbrev ExtendTimed : Option ExtendRefused → Type 0
ExtendTimed (Some extend.StoreFault) = ⊥
ExtendTimed why = Unit {0}

pub extend_on_made : (clocks : Clocks) (w : State) (node : ℕ) (fate : Fate) (post : Option InstanceEntry) → Made clocks (extend_asks post) fate (extend_on w.setup node fate post w.master).items
extend_on_made clocks w node fate post =
    grind (arith, made_refused, made_one, made_fault, unchanged_fails, none_read, applied_fails, one_read)
