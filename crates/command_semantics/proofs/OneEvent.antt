-- One event keeps to the plan, and what kept to the plan is as the script plans it.
use Rattle.command_semantics.proofs.Names.{◌≡◌, ℕ, ◌+◌, cond, List, [], ◌∷◌, ◌++◌, All, Option, Some, None, ◌⊎◌, inl}
use Rattle.command_semantics.proofs.Names.{inr, refl, sym, ◌∙◌, ap, subst, arith, count_by, IsSomeAnd, none-some}
use Rattle.command_semantics.proofs.Names.{All-nil, All-cons, sum_by-cons, sum_by_push, Store, AtEach, Session, Item}
use Rattle.command_semantics.proofs.Names.{Event, asks, ScriptData, its_node, last_told-push, ExplainedInvariant}
use Rattle.command_semantics.proofs.Names.{Clocks, reading_at, is_fault_of, times_told, times_from, time_by}
use Rattle.command_semantics.proofs.Names.{time_or_start, shown, IsTimed, Played, calls_on, fate_by, fate_of, step_of}
use Rattle.command_semantics.proofs.Names.{clocks_of, clock_after, played, ReadsClocks, PlannedSoFar, PlannedAtFirst}
use Rattle.command_semantics.proofs.Names.{EventsStayPlanned, PlannedInTheEnd}
use Rattle.history_book.specs.declared.cause.Cause.TheVariants as cause
use Rattle.history_book.specs.declared.item.Item.TheVariants as item
use Rattle.history_book.proofs.MemberLemmas.{AtEach-push}
use Rattle.machine.specs.declared.event.Event.TheVariants as event
use Rattle.command_semantics.proofs.ReadItems.{Made}
use Rattle.command_semantics.proofs.MadeOfRequests.{Expires}
use Rattle.command_semantics.proofs.AllMade.{all_made}
use Rattle.command_semantics.proofs.ToldTimes.{IsTimely, TellsNoTime, made_timely, all_untold, times_same, time_same, times_ticked, readings_longer}
use Rattle.command_semantics.proofs.FaultCounts.{ToldAreDue, faults_append, none_due, told_due, due_planned}

-- ---- what the items of an event keep to
record Keeps (script : ScriptData) (p : Played) (asked : Option Store) (items : List Item) : Type 0 where
  pub faults : ToldAreDue script p.calls asked items
  pub untold : All TellsNoTime items
  pub readings : AtEach (IsTimed script.leads) (p.items ++ items)

keeps_made : (script : ScriptData) (ticks : List ℕ) (p : Played) (asked : Option Store) (items : List Item) → PlannedSoFar script ticks p → Made (clocks_of script p) asked (fate_by script p.calls asked) items → Keeps script p asked items
keeps_made script ticks p asked items so_far made =
    let clocks : Clocks = clocks_of script p in
    let timely : All (IsTimely clocks) items = made_timely clocks asked (fate_by script p.calls asked) items made in
    record {
      faults = told_due clocks script p.calls asked items made;
      untold = all_untold clocks items timely;
      readings = readings_longer clocks p.items items so_far.last timely so_far.readings;
    }

-- the item of a request that has expired
abbrev expiry : ℕ → ℕ → ℕ → Item
expiry session reading until = item.Refused (Session session) (cause.Expired reading until)

no_fault : (store : Store) (session reading until : ℕ) → count_by (is_fault_of store) (expiry session reading until ∷ []) ≡ 0
no_fault store session reading until = sum_by-cons (λ (y : Item). cond (is_fault_of store y) 1 0) (expiry session reading until) []

keeps_expiry : (script : ScriptData) (ticks : List ℕ) (p : Played) (asked : Option Store) (session node reading until : ℕ) → PlannedSoFar script ticks p → its_node p.items session ≡ Some node → reading ≡ reading_at (clocks_of script p) node → Keeps script p asked (expiry session reading until ∷ [])
keeps_expiry script ticks p asked session node reading until so_far there reads =
    let told : Item = expiry session reading until in
    let now : reading ≡ shown script.leads p.items node = omega (arith, reads, so_far.last) in
    let timed : IsTimed script.leads p.items told = subst (λ (asked_of : Option ℕ). IsSomeAnd asked_of (λ (n : ℕ). reading ≡ shown script.leads p.items n)) (sym there) now in
    record {
      faults = none_due script p.calls asked (told ∷ []) (λ store. no_fault store session reading until);
      untold = All-cons TellsNoTime told [] refl (All-nil TellsNoTime);
      readings = AtEach-push (IsTimed script.leads) p.items told so_far.readings timed;
    }

keeps_by : (script : ScriptData) (ticks : List ℕ) (p : Played) (asked : Option Store) (items : List Item) → PlannedSoFar script ticks p → Made (clocks_of script p) asked (fate_by script p.calls asked) items ⊎ Expires (clocks_of script p) p.items items → Keeps script p asked items
keeps_by script ticks p asked items so_far (inl made) = keeps_made script ticks p asked items so_far made
keeps_by script ticks p asked items so_far (inr k) = subst (λ (xs : List Item). Keeps script p asked xs) (sym k.is) (keeps_expiry script ticks p asked k.session k.node k.reading k.until so_far k.node_is k.reads)

-- ---- an event that does not tick
clock_stays : (clocks : Clocks) (clock : ℕ) (e : Event) → ReadsClocks clocks None e → clock_after clock e ≡ clock
clock_stays clocks clock e reads = grind arith

quiet_stays : (script : ScriptData) (ticks : List ℕ) (p : Played) (e : Event) → ExplainedInvariant p.state p.items → ReadsClocks (clocks_of script p) None e → PlannedSoFar script ticks p → PlannedSoFar script ticks (played script p e)
quiet_stays script ticks p e tells reads so_far =
    let clocks : Clocks = clocks_of script p in
    let asked : Option Store = asks p.state e in
    let items : List Item = (step_of script p e).items in
    let keeps : Keeps script p asked items = keeps_by script ticks p asked items so_far (all_made clocks p.state p.items e (fate_of script p e) tells.stands tells.shows reads) in
    let same : clock_after p.clock e ≡ p.clock = clock_stays clocks p.clock e reads in
    record {
      faults = λ store. omega (arith, faults_append store p.items items, keeps.faults store, so_far.faults store);
      times = times_same p.items items keeps.untold ∙ so_far.times;
      clock = same ∙ so_far.clock;
      last = same ∙ (so_far.last ∙ sym (time_same p.items items keeps.untold));
      readings = keeps.readings;
    }

-- ---- a tick
tick_no_fault : (store : Store) (to : ℕ) → count_by (is_fault_of store) (item.Tick to ∷ []) ≡ 0
tick_no_fault store to = sum_by-cons (λ (y : Item). cond (is_fault_of store y) 1 0) (item.Tick to) []

tick_stays : (script : ScriptData) (ticks : List ℕ) (p : Played) (to by : ℕ) → to ≡ p.clock + by → PlannedSoFar script ticks p → PlannedSoFar script (ticks ++ by ∷ []) (played script p (event.Tick to))
tick_stays script ticks p to by is so_far = record {
  faults = λ store. omega (arith, faults_append store p.items (item.Tick to ∷ []), tick_no_fault store to, so_far.faults store);
  times = times_ticked p.items ticks to by so_far.times (omega (arith, is, so_far.clock));
  clock = omega (arith, is, so_far.clock, sum_by_push (λ (x : ℕ). x) ticks by);
  last = sym (ap time_or_start (last_told-push time_by p.items (item.Tick to)));
  readings = AtEach-push (IsTimed script.leads) p.items (item.Tick to) so_far.readings tt;
}

-- nothing else ticks
ticked : (script : ScriptData) (ticks : List ℕ) (by : ℕ) (p : Played) (e : Event) → ReadsClocks (clocks_of script p) (Some by) e → PlannedSoFar script ticks p → PlannedSoFar script (ticks ++ by ∷ []) (played script p e)
ticked script ticks by p (event.Tick to) reads so_far = tick_stays script ticks p to by reads so_far
ticked script ticks by p (event.Take node reading) reads so_far = absurd (none-some by (sym reads.0))
ticked script ticks by p (event.Renew node reading) reads so_far = absurd (none-some by (sym reads.0))
ticked script ticks by p (event.Accept node session reading) reads so_far = absurd (none-some by (sym reads.0))
ticked script ticks by p e reads so_far = absurd (none-some by (sym reads))

-- ---- any event
pub events_stay_planned : EventsStayPlanned
events_stay_planned script ticks None p e tells reads so_far = quiet_stays script ticks p e tells reads so_far
events_stay_planned script ticks (Some by) p e tells reads so_far = ticked script ticks by p e reads so_far

-- ---- at first and in the end
pub planned_at_first : PlannedAtFirst
unfolding times_told times_from
planned_at_first script = grind arith

pub planned_in_the_end : PlannedInTheEnd
planned_in_the_end script p so_far = record {
  faults = λ store. omega (arith, so_far.faults store, due_planned store (calls_on p.calls store) script.faults);
  times = so_far.times;
  readings = so_far.readings;
}
