-- A sweep's step that lists keys is the machine's, for the ask that it is; so is one that was answered.
use Rattle.std.proofs.Common.{◌≡◌, ℕ, List, ◌++◌, Option, None, Some, IfSome, Result, refl, sym, ap, ◌∙◌, subst, append_assoc}
use Rattle.stamp_base.specs.declared.stores.Store.{Store}
use Rattle.stamp_base.specs.declared.stores.Store.TheVariants.{Cells}
use Rattle.port_io.specs.declared.weather.Fate.{Fate}
use Rattle.history_book.specs.declared.item.Item.{Item}
use Rattle.system_parts.specs.Rows.{Row}
use Rattle.system_parts.specs.Pairs.{Pairs}
use Rattle.system_parts.specs.declared.asks.Ask.{Ask}
use Rattle.system_parts.specs.declared.asks.Ask.TheVariants.{Keys}
use Rattle.system_parts.specs.declared.asks.Told.{Told}
use Rattle.system_parts.specs.Sweep.{Sweeping, sweep_told, is_undecided}
use Rattle.machine.specs.Effect.{Effect, Stop, Refuses, Faults}
use Rattle.machine.specs.StoreSteps.{Met, store_of}
use Rattle.machine.specs.Events.SweepStep.{SweepParts, sweep_at, sweep_lists, sweep_by, sweep_met, sweep_left, undecided_items, undecided_stop}
use Rattle.event_parts.specs.declared.stopped.Stopped.{Stopped}
use Rattle.event_parts.specs.Made.{Makes, Leaves, ended}
use Rattle.session_events.specs.Meeting.{IsMet}

pub keys_listed : (asked : Ask) (txn : ℕ) (ahead : Store → ℕ → Fate) (sweep : Option Sweeping) (rows : List Row) (pairs : Pairs) (now : SweepParts) (before after : List Item) (result : Result Unit Stopped) → asked ≡ Keys txn → IfSome sweep (λ (s : Sweeping). Makes (sweep_lists s txn (ahead Cells 0) rows pairs) (sweep, rows, pairs) now before after result) → IfSome sweep (λ (s : Sweeping). Makes (sweep_at s (ahead (store_of asked) 0) rows pairs (Some asked)) (sweep, rows, pairs) now before after result)
keys_listed asked txn ahead sweep rows pairs now before after result is made =
    subst (λ (a : Ask). IfSome sweep (λ (s : Sweeping). Makes (sweep_at s (ahead (store_of a) 0) rows pairs (Some a)) (sweep, rows, pairs) now before after result)) (sym is) made

-- ---- a sweep's step that was answered
makes_ended : (e : Effect SweepParts) (old now : SweepParts) (before after : List Item) (stop : Option Stop) → Leaves e now before after stop → Makes e old now before after (ended stop)
makes_ended e old now before after None left = left
makes_ended e old now before after (Some (Refuses why)) left = left
makes_ended e old now before after (Some (Faults store)) left = left

left_parts : {a b : Option Sweeping} {r s : List Row} {p q : Pairs} → a ≡ b → r ≡ s → p ≡ q → ◌≡◌ {A = SweepParts} (a, r, p) (b, s, q)
left_parts d e f = cc

heard : (s : Sweeping) (asked : Ask) (m : Met) (answer : Told) (old : SweepParts) (sweep_now : Option Sweeping) (rows_now : List Row) (pairs_now : Pairs) (before between after : List Item) (result : Result Unit Stopped) → IsMet m rows_now pairs_now before between (Some answer) → sweep_now ≡ sweep_left (sweep_told s answer) → after ≡ between ++ undecided_items s (is_undecided (sweep_told s answer)) → result ≡ ended (undecided_stop s (is_undecided (sweep_told s answer))) → Makes (sweep_met s asked m) old (sweep_now, rows_now, pairs_now) before after result
heard s asked m answer old sweep_now rows_now pairs_now before between after result is_met of_sweep of_items of_result =
    let undecided : List Item = undecided_items s (is_undecided (sweep_told s answer)) in
    rw of_result (subst (λ (e : Effect SweepParts). Makes e old (sweep_now, rows_now, pairs_now) before after (ended (undecided_stop s (is_undecided (sweep_told s answer)))))
    (sym (ap (sweep_by s asked m) is_met.told))
    (makes_ended (sweep_by s asked m (Some answer)) old (sweep_now, rows_now, pairs_now) before after (undecided_stop s (is_undecided (sweep_told s answer))) (record {
      parts = left_parts of_sweep is_met.rows is_met.pairs;
      items = of_items ∙ ap (λ (b : List Item). b ++ undecided) is_met.items ∙ append_assoc before m.items undecided;
      stop = refl;
    })))

pub sweep_heard : (sweep : Option Sweeping) (asked : Ask) (m : Met) (answer : Told) (old : SweepParts) (sweep_now : Option Sweeping) (rows_now : List Row) (pairs_now : Pairs) (before between after : List Item) (result : Result Unit Stopped) → IsMet m rows_now pairs_now before between (Some answer) → IfSome sweep (λ (s : Sweeping). sweep_now ≡ sweep_left (sweep_told s answer)) → IfSome sweep (λ (s : Sweeping). after ≡ between ++ undecided_items s (is_undecided (sweep_told s answer))) → IfSome sweep (λ (s : Sweeping). result ≡ ended (undecided_stop s (is_undecided (sweep_told s answer)))) → IfSome sweep (λ (s : Sweeping). Makes (sweep_met s asked m) old (sweep_now, rows_now, pairs_now) before after result)
sweep_heard None asked m answer old sweep_now rows_now pairs_now before between after result is_met of_sweep of_items of_result = tt
sweep_heard (Some s) asked m answer old sweep_now rows_now pairs_now before between after result is_met of_sweep of_items of_result =
    heard s asked m answer old sweep_now rows_now pairs_now before between after result is_met of_sweep of_items of_result
