-- Merged logs are events in an order, each at the reading of its clock.
use Rattle.std.proofs.Common.{◌≡◌, List, [], ◌∷◌, ◌++◌, Option, None, Some, refl, sym, ap, ◌∙◌, subst}
use Rattle.stamp_base.specs.declared.stores.Store.{Store}
use Rattle.port_io.specs.declared.weather.Fate.{Fate}
use Rattle.history_book.proofs.MemberLemmas.{AtEach-weaker}
use Rattle.machine.specs.declared.event.Event as machine
use Rattle.machine.specs.Machine.{stepped, asks}
use Rattle.script_data.specs.Data.{ScriptData}
use Rattle.command_semantics.specs.Planned.{with_tick, Planned}
use Rattle.command_semantics.specs.Runs.{Played, Calls, played, opening_played, step_of, clocks_of, clock_after, calls_after, fate_by}
use Rattle.command_semantics.specs.Orders.{TimedEvent, all_played, AllRead, ticks_made, OrdersArePlanned}
use Rattle.split_stores.specs.declared.seat.Entry.{Entry}
use Rattle.split_stores.specs.Merged.{timed_in, played_with, replayed_items, entries_played, merged_played, IsReplayed, IsSettledAt}
use Rattle.split_stores.specs.Orders.{rise_by, timed_entries, rises_in, without_lines, SettledByPlans, IsOrdered, SettledIsOrdered, SettledIsPlanned}
use Rattle.split_stores.proofs.ReplayLemmas.{reads}

-- ---- lines make no difference
same_fate : (script : ScriptData) (calls : Calls) (asked : Option Store) → fate_by (without_lines script) calls asked ≡ fate_by script calls asked
same_fate script calls None = refl
same_fate script calls (Some store) = refl

-- what is played under a fate
abbrev played_under : Played → machine.Event → Fate → Played
played_under p e fate = record {
  state = (stepped p.state e fate).state;
  items = p.items ++ (stepped p.state e fate).items;
  clock = clock_after p.clock e;
  calls = calls_after p.calls (asks p.state e);
}

same_event : (script : ScriptData) (p : Played) (e : machine.Event) → played (without_lines script) p e ≡ played script p e
same_event script p e = ap (played_under p e) (same_fate script p.calls (asks p.state e))

same_items : (script : ScriptData) (p : Played) (e : machine.Event) → (step_of (without_lines script) p e).items ≡ (step_of script p e).items
same_items script p e = ap (λ (fate : Fate). (stepped p.state e fate).items) (same_fate script p.calls (asks p.state e))

same_entries : (script : ScriptData) (es : List Entry) (p : Played) → entries_played (without_lines script) es p ≡ entries_played script es p
unfolding entries_played
same_entries script [] p = refl
same_entries script (e ∷ es) p = same_entries script es (played_with (without_lines script) p e.event) ∙ ap (entries_played script es) (same_event script p (timed_in script p e.event))

same_replay : (script : ScriptData) (before : List Entry) (e : Entry) → IsReplayed (without_lines script) (merged_played (without_lines script) before) e → IsReplayed script (merged_played script before) e
same_replay script before e here =
    let plan : ScriptData = without_lines script in
    let same : merged_played plan before ≡ merged_played script before = same_entries script before (opening_played script) in
    here ∙ same_items script (merged_played plan before) (timed_in script (merged_played plan before) e.event) ∙ ap (λ (p : Played). replayed_items script p e.event) same

pub settled_by_plans : SettledByPlans
settled_by_plans script logs whole settled =
    let plan : ScriptData = without_lines script in
    let at : IsSettledAt plan settled.merged whole = settled.settled in
    let same : merged_played plan settled.merged ≡ merged_played script settled.merged = same_entries script settled.merged (opening_played script) in
    record {
      replayed = AtEach-weaker (λ (before : List Entry) (e : Entry). IsReplayed plan (merged_played plan before) e) (λ (before : List Entry) (e : Entry). IsReplayed script (merged_played script before) e) settled.merged at.replayed (λ before e there here. same_replay script before e here);
      state = at.state ∙ ap (λ (p : Played). p.state) same;
      items = at.items ∙ ap (λ (p : Played). p.items) same;
      history = at.history;
    }

-- ---- they are events in an order
all_read : (script : ScriptData) (es : List Entry) (p : Played) → AllRead script (timed_entries script es p) p
unfolding AllRead timed_entries
all_read script [] p = tt
all_read script (e ∷ es) p = (reads (clocks_of script p) e.event, all_read script es (played_with script p e.event))

same_played : (script : ScriptData) (es : List Entry) (p : Played) → all_played script (timed_entries script es p) p ≡ entries_played script es p
unfolding all_played timed_entries entries_played
same_played script [] p = refl
same_played script (e ∷ es) p = same_played script es (played_with script p e.event)

same_ticks : (script : ScriptData) (es : List Entry) (p : Played) → ticks_made (timed_entries script es p) ≡ rises_in es
unfolding ticks_made timed_entries rises_in
same_ticks script [] p = refl
same_ticks script (e ∷ es) p = ap (with_tick (rise_by e.event)) (same_ticks script es (played_with script p e.event))

pub settled_is_ordered : SettledIsOrdered
settled_is_ordered script logs whole settled =
    let es : List Entry = settled.merged in
    let p : Played = opening_played script in
    let at : IsSettledAt script es whole = settled_by_plans script logs whole settled in
    record {
      events = timed_entries script es p;
      read = all_read script es p;
      ticks = same_ticks script es p;
      items = at.items ∙ ap (λ (q : Played). q.items) (sym (same_played script es p));
    }

pub settled_is_planned : OrdersArePlanned → SettledIsPlanned
settled_is_planned law script logs whole settled in_range playable ticks =
    let order : IsOrdered script settled.merged whole = settled_is_ordered script logs whole settled in
    subst (Planned script) (sym order.items) (law script order.events in_range playable order.read (order.ticks ∙ ticks))
