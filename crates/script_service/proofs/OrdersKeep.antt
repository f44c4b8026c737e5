-- What every event with a steady reading keeps, events in any order keep, where each reads the clocks as they stand when it is made.
use Rattle.std.proofs.Common.{◌≡◌, ℕ, ◌+◌, ◌≤◌, ◌^◌, List, [], ◌∷◌, Option, Some, None, sym, subst, arith}
use Rattle.std.specs.Prelude.{slice_index_or, unwrap_or, sum}
use Rattle.std.proofs.lemmas.List.Sums.{sum_by-cons}
use Rattle.stamp_base.specs.SetupNumbers.{SetupNumbers}
use Rattle.history_book.specs.declared.item.Item.{Item}
use Rattle.machine.specs.declared.event.Event.{Event}
use Rattle.machine.specs.declared.event.Event.TheVariants as event
use Rattle.machine.specs.State.{State}
use Rattle.machine.specs.Machine.{reading_of, IsSteadyAt}
use Rattle.script_data.specs.Data.{ScriptData}
use Rattle.cause_laws.proofs.AlwaysExplained.{tells_at_first}
use Rattle.command_semantics.specs.Next.{Clocks}
use Rattle.command_semantics.specs.Runs.{Played, clocks_of, fate_of, played, opening_played}
use Rattle.command_semantics.specs.Planned.{with_tick}
use Rattle.command_semantics.specs.SoFar.{ReadsClocks}
use Rattle.command_semantics.specs.Orders.{TimedEvent, AllRead, all_played, ticks_made, IsTold, EventsStayTold}
use Rattle.command_semantics.proofs.Ending.{Keeps, opening_reached}
use Rattle.command_semantics.proofs.Timing.{Timed, InTime, in_time}
use Rattle.script_service.specs.Service.{OrdersKeepService}
use Rattle.script_service.proofs.EventsKeep.{ServiceLaws, Served, served_at_first, served_kept, served_now}

reads_timed : (clocks : Clocks) (tick : Option ℕ) (e : Event) → ReadsClocks clocks tick e → Timed clocks (unwrap_or tick 0) e
reads_timed clocks None (event.Tick to) reads = absurd reads
reads_timed clocks (Some by) (event.Tick to) reads = reads
reads_timed clocks tick (event.Take node reading) reads = reads.1
reads_timed clocks tick (event.Renew node reading) reads = reads.1
reads_timed clocks tick (event.Accept node session reading) reads = reads.1
reads_timed clocks tick e reads = tt

ticks_first : (tick : Option ℕ) (ticks : List ℕ) → sum (with_tick tick ticks) ≡ unwrap_or tick 0 + sum ticks
ticks_first None ticks = omega arith
ticks_first (Some by) ticks = sum_by-cons (λ (x : ℕ). x) by ticks

-- no clock is ahead by more than the skew
abbrev LeadsKeep : ScriptData → Type 0
LeadsKeep script = (node : ℕ) → slice_index_or script.leads node 0 ≤ script.setup.skew

-- there is room for all ticks
abbrev HasRoom : ScriptData → List TimedEvent → Played → Type 0
HasRoom script events p = p.clock + sum (ticks_made events) + script.setup.skew ≤ 2 ^ 61

all_kept : EventsStayTold → (P : State → List Item → Type 0) → Keeps P → (script : ScriptData) (events : List TimedEvent) (p : Played) → LeadsKeep script → HasRoom script events p → IsTold script p → P p.state p.items → AllRead script events p → P (all_played script events p).state (all_played script events p).items
unfolding all_played AllRead ticks_made
all_kept stay P keeps script [] p leads room told has reads = has
all_kept stay P keeps script (x ∷ events) p leads room told has reads =
    let clocks : Clocks = clocks_of script p in
    let tick : ℕ = unwrap_or x.tick 0 in
    let total : sum (with_tick x.tick (ticks_made events)) ≡ tick + sum (ticks_made events) = ticks_first x.tick (ticks_made events) in
    let it : InTime clocks tick script.setup.skew p.state.seen x.event = in_time clocks tick script.setup.skew p.state.seen x.event (reads_timed clocks x.tick x.event reads.0) (record { leads = leads; room = omega (arith, room, total); before = told.reached.seen }) in
    let steady : IsSteadyAt p.state.setup.skew p.state.seen (reading_of x.event) = subst (λ (setup : SetupNumbers). IsSteadyAt setup.skew p.state.seen (reading_of x.event)) (sym told.reached.setup) it.steady in
    let next : Played = played script p x.event in
    let next_told : IsTold script next = stay script x.tick p x.event leads (omega (arith, room, total)) told reads.0 in
    all_kept stay P keeps script events next leads (omega (arith, it.at_most, room, total)) next_told (keeps p.state p.items x.event (fate_of script p x.event) has steady) reads.1

pub orders_keep_service : ServiceLaws → EventsStayTold → OrdersKeepService
orders_keep_service laws stay script events in_range playable reads few =
    let told : IsTold script (opening_played script) = record { reached = opening_reached script in_range; tells = tells_at_first script.setup in_range } in
    served_now laws script.setup _ _ (all_kept stay (Served script.setup) (served_kept laws script.setup) script events (opening_played script) playable.leads (omega (arith, few, playable.ticks)) told (served_at_first laws script.setup in_range) reads)
