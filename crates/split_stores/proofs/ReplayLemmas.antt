-- Items that are compared, and entries that are made again in their order.
use Rattle.std.proofs.Common.{◌≡◌, ℕ, ◌+◌, ◌≤◌, ◌<◌, ◌^◌, List, [], ◌∷◌, ◌++◌, ⊎_elim, refl, sym, ap, ◌∙◌, subst, length, true≢false, take, drop, arith}
use Rattle.std.specs.Prelude.{None, Some, is_none, slice_index_or, unwrap_or}
use Rattle.std.proofs.lemmas.List.{drop_more, take_more, take_all, flat_map_more}
use Rattle.std.proofs.lemmas.List.Sums.{sum_by-cons}
use Rattle.std.proofs.lemmas.Option.{slice_get_read}
use Rattle.stamp_base.specs.declared.stores.Store.{Store}
use Rattle.stamp_base.specs.SetupNumbers.{SetupNumbers}
use Rattle.port_io.specs.declared.weather.Fate.{Fate}
use Rattle.history_book.specs.declared.item.Item.{Item}
use Rattle.history_book.proofs.MemberLemmas.{AtEach-push}
use Rattle.machine.specs.declared.event.Event as machine
use Rattle.machine.specs.State.{State}
use Rattle.machine.specs.Machine.{IsSteadyAt, reading_of}
use Rattle.script_data.specs.Data.{ScriptData, IsSound}
use Rattle.cause_laws.proofs.AlwaysExplained.{tells_at_first}
use Rattle.command_semantics.specs.Master.{last_master}
use Rattle.command_semantics.specs.Next.{Clocks}
use Rattle.command_semantics.specs.Runs.{Played, played, opening_played, step_of, clocks_of, clock_after}
use Rattle.command_semantics.proofs.Ending.{opening_reached}
use Rattle.command_semantics.proofs.Timing.{Timed, InTime, in_time}
use Rattle.command_semantics.specs.SoFar.{ReadsClocks}
use Rattle.command_semantics.specs.Orders.{EventsStayTold, IsTold}
use Rattle.cluster_core.specs.ClusterModel.{ClusterModel}
use Rattle.planned_cluster.specs.Standing.{StandsAt}
use Rattle.split_parts.specs.declared.event.Event.{Event}
use Rattle.split_parts.specs.declared.event.Event.TheVariants as event
use Rattle.split_stores.specs.declared.seat.Entry.{Entry}
use Rattle.split_stores.specs.declared.settling.SettleStop.{SettleStop}
use Rattle.split_stores.specs.declared.settling.SettleStop.TheVariants.{Missing, Torn, NoMemory}
use Rattle.split_stores.specs.Logs.{rise_of, risen_by}
use Rattle.split_stores.specs.Orders.{rise_by}
use Rattle.split_stores.specs.Merged.{timed_at, timed_in, played_with, replayed_items, entries_played, merged_played, IsReplayed, AllReplayed, IsSettledAt, Differ, TurnStops, ReplayStops, kept_items}

-- ---- items that are compared
some_is_none : {X : Type 0} (x : X) → None ≡ Some x → ⊥
some_is_none x e = absurd (true≢false (ap is_none e))

pub same_items : (xs ys : List Item) → Differ xs ys None → xs ≡ ys
unfolding Differ
same_items [] [] h = refl
same_items (x ∷ xs) [] h = absurd (some_is_none _ h)
same_items [] (y ∷ ys) h = absurd (some_is_none _ h)
same_items (x ∷ xs) (y ∷ ys) h = ⊎_elim (λ (p : (x ≡ y) × Differ xs ys None). (λ i. p.0 i ∷ same_items xs ys p.1 i)) (λ p. absurd (some_is_none _ p.1)) h

-- what was added is what stands behind
added : (old items : List Item) → drop (length old) (old ++ items) ≡ items
added [] items = refl
added (x ∷ xs) items = added xs items

-- ---- one event at its time
pub timed_is : (clocks : Clocks) (e : Event) → Timed clocks (rise_of e) (timed_at clocks.base clocks.leads clocks.master e)
timed_is clocks (event.Tick by) = refl
timed_is clocks (event.Take node) = refl
timed_is clocks (event.Renew node) = refl
timed_is clocks (event.Accept node session) = refl
timed_is clocks _ = tt

tick_is : (e : Event) → unwrap_or (rise_by e) 0 ≡ rise_of e
tick_is (event.Tick by) = refl
tick_is _ = refl

pub reads : (clocks : Clocks) (e : Event) → ReadsClocks clocks (rise_by e) (timed_at clocks.base clocks.leads clocks.master e)
reads clocks (event.Tick by) = refl
reads clocks (event.Take node) = (refl, refl)
reads clocks (event.Renew node) = (refl, refl)
reads clocks (event.Accept node session) = (refl, refl)
reads clocks _ = refl

clock_rises : (base : ℕ) (leads : List ℕ) (master : ℕ) (e : Event) → clock_after base (timed_at base leads master e) ≡ base + rise_of e
clock_rises base leads master (event.Tick by) = refl
clock_rises base leads master _ = omega arith

-- ---- entries
played_push : (script : ScriptData) (es : List Entry) (e : Entry) (p : Played) → entries_played script (es ++ e ∷ []) p ≡ played_with script (entries_played script es p) e.event
unfolding entries_played
played_push script [] e p = refl
played_push script (x ∷ es) e p = played_push script es e (played_with script p x.event)

none_played : (script : ScriptData) → merged_played script [] ≡ opening_played script
unfolding entries_played
none_played script = refl

-- the first entries were made again, the cluster stands where they lead to, and the clock has room for the others
pub record StandsAfter (script : ScriptData) (done left : List Entry) (whole : ClusterModel) (clock : ℕ) (ahead : Store → ℕ → Fate) : Type 0 where
  pub stands : StandsAt script (merged_played script done) whole clock ahead
  pub told : IsTold script (merged_played script done)
  pub replayed : AllReplayed script done
  pub kept : (merged_played script done).items ≡ kept_items done
  pub room : (merged_played script done).clock + risen_by left ≤ 28587302322176

-- no clock is ahead by more than the skew, which is small
pub record IsOnTime (script : ScriptData) : Type 0 where
  pub leads : (node : ℕ) → slice_index_or script.leads node 0 ≤ script.setup.skew
  pub skew : script.setup.skew ≤ 2 ^ 60

none_replayed : (script : ScriptData) → AllReplayed script []
none_replayed script = record { at = λ place x found. absurd (some_is_none _ found) }

pub stands_first : (script : ScriptData) (merged : List Entry) (whole : ClusterModel) (clock : ℕ) (ahead : Store → ℕ → Fate) → IsSound script → StandsAt script (opening_played script) whole clock ahead → risen_by merged ≤ 28587302322176 → StandsAfter script [] merged whole clock ahead
stands_first script merged whole clock ahead sound at few =
    let none : merged_played script [] ≡ opening_played script = none_played script in
    record {
      stands = subst (λ (p : Played). StandsAt script p whole clock ahead) (sym none) at;
      told = subst (IsTold script) (sym none) (record { reached = opening_reached script sound.setup; tells = tells_at_first script.setup sound.setup });
      replayed = none_replayed script;
      kept = ap (λ (p : Played). p.items) none;
      room = subst (λ (p : Played). p.clock + risen_by merged ≤ 28587302322176) (sym none) (omega (arith, few));
    }

-- the event that comes next comes at its time
timed_next : (script : ScriptData) (p : Played) (e : Event) → IsOnTime script → IsTold script p → p.clock + rise_of e ≤ 28587302322176 → InTime (clocks_of script p) (rise_of e) script.setup.skew p.state.seen (timed_in script p e)
timed_next script p e on_time told room =
    in_time (clocks_of script p) (rise_of e) script.setup.skew p.state.seen (timed_in script p e) (timed_is (clocks_of script p) e) (record { leads = on_time.leads; room = omega (arith, room, on_time.skew); before = told.reached.seen })

first_fits : (clock : ℕ) (e : Entry) (rest : List Entry) → clock + risen_by (e ∷ rest) ≤ 28587302322176 → clock + rise_of e.event ≤ 28587302322176
first_fits clock e rest room = omega (arith, room, sum_by-cons (λ (x : Entry). rise_of x.event) e rest)

pub next_fits : (script : ScriptData) (done left rest : List Entry) (e : Entry) (whole : ClusterModel) (clock : ℕ) (ahead : Store → ℕ → Fate) → left ≡ e ∷ rest → StandsAfter script done left whole clock ahead → clock + rise_of e.event ≤ 2 ^ 60
next_fits script done left rest e whole clock ahead split h =
    let few : (merged_played script done).clock + rise_of e.event ≤ 28587302322176 = first_fits _ e rest (subst (λ (es : List Entry). (merged_played script done).clock + risen_by es ≤ 28587302322176) split h.room) in
    omega (arith, few, h.stands.time)

steady_there : (script : ScriptData) (p : Played) (e : Event) (whole : ClusterModel) (clock : ℕ) (leads : List ℕ) → whole.state ≡ p.state → whole.history ≡ p.items → clock ≡ p.clock → leads ≡ script.leads → p.state.setup ≡ script.setup → IsSteadyAt script.setup.skew p.state.seen (reading_of (timed_in script p e)) → IsSteadyAt whole.state.setup.skew whole.state.seen (reading_of (timed_at clock leads (last_master whole.history) e))
steady_there script p e whole clock leads state history time same setup steady =
    let of_state : IsSteadyAt p.state.setup.skew p.state.seen (reading_of (timed_in script p e)) = subst (λ (s : SetupNumbers). IsSteadyAt s.skew p.state.seen (reading_of (timed_in script p e))) (sym setup) steady in
    let here : IsSteadyAt whole.state.setup.skew whole.state.seen (reading_of (timed_in script p e)) = subst (λ (w : State). IsSteadyAt w.setup.skew w.seen (reading_of (timed_in script p e))) (sym state) of_state in
    let of_master : IsSteadyAt whole.state.setup.skew whole.state.seen (reading_of (timed_at p.clock script.leads (last_master whole.history) e)) = subst (λ (h : List Item). IsSteadyAt whole.state.setup.skew whole.state.seen (reading_of (timed_at p.clock script.leads (last_master h) e))) (sym history) here in
    let at_clock : IsSteadyAt whole.state.setup.skew whole.state.seen (reading_of (timed_at clock script.leads (last_master whole.history) e)) = subst (λ (n : ℕ). IsSteadyAt whole.state.setup.skew whole.state.seen (reading_of (timed_at n script.leads (last_master whole.history) e))) (sym time) of_master in
    subst (λ (ls : List ℕ). IsSteadyAt whole.state.setup.skew whole.state.seen (reading_of (timed_at clock ls (last_master whole.history) e))) (sym same) at_clock

pub next_steady : (script : ScriptData) (done left rest : List Entry) (e : Entry) (whole : ClusterModel) (clock : ℕ) (leads : List ℕ) (ahead : Store → ℕ → Fate) → left ≡ e ∷ rest → IsOnTime script → leads ≡ script.leads → StandsAfter script done left whole clock ahead → IsSteadyAt whole.state.setup.skew whole.state.seen (reading_of (timed_at clock leads (last_master whole.history) e.event))
next_steady script done left rest e whole clock leads ahead split on_time same h =
    let few : (merged_played script done).clock + rise_of e.event ≤ 28587302322176 = first_fits _ e rest (subst (λ (es : List Entry). (merged_played script done).clock + risen_by es ≤ 28587302322176) split h.room) in
    steady_there script (merged_played script done) e.event whole clock leads h.stands.state h.stands.history h.stands.time same h.told.reached.setup (timed_next script (merged_played script done) e.event on_time h.told few).steady

kept_push : (script : ScriptData) (done : List Entry) (e : Entry) → (merged_played script done).items ≡ kept_items done → IsReplayed script (merged_played script done) e → (played_with script (merged_played script done) e.event).items ≡ kept_items (done ++ e ∷ [])
kept_push script done e kept here =
    ap (λ (xs : List Item). xs ++ replayed_items script (merged_played script done) e.event) kept
    ∙ ap (λ (xs : List Item). kept_items done ++ xs) (sym here)
    ∙ flat_map_more (λ (x : Entry). x.kept.items) [] done e

-- one more entry was made again, and agreed
pub stands_more : EventsStayTold → (script : ScriptData) (done left rest : List Entry) (e : Entry) (old new : ClusterModel) (clock later : ℕ) (ahead now : Store → ℕ → Fate) → left ≡ e ∷ rest → IsOnTime script → StandsAfter script done left old clock ahead → IsReplayed script (merged_played script done) e → StandsAt script (played_with script (merged_played script done) e.event) new later now → StandsAfter script (done ++ e ∷ []) rest new later now
stands_more law script done left rest e old new clock later ahead now split on_time h here at =
    let p : Played = merged_played script done in
    let next : Played = played_with script p e.event in
    let push : merged_played script (done ++ e ∷ []) ≡ next = played_push script done e (opening_played script) in
    let room : p.clock + risen_by (e ∷ rest) ≤ 28587302322176 = subst (λ (es : List Entry). p.clock + risen_by es ≤ 28587302322176) split h.room in
    let few : p.clock + rise_of e.event ≤ 28587302322176 = first_fits p.clock e rest room in
    let up : next.clock ≡ p.clock + rise_of e.event = clock_rises p.clock script.leads (last_master p.items) e.event in
    let told : IsTold script next = law script (rise_by e.event) p (timed_in script p e.event) on_time.leads (omega (arith, few, tick_is e.event, on_time.skew)) h.told (reads (clocks_of script p) e.event) in
    record {
      stands = subst (λ (q : Played). StandsAt script q new later now) (sym push) at;
      told = subst (IsTold script) (sym push) told;
      replayed = AtEach-push (λ (before : List Entry) (x : Entry). IsReplayed script (merged_played script before) x) done e h.replayed here;
      kept = ap (λ (q : Played). q.items) push ∙ kept_push script done e h.kept here;
      room = subst (λ (q : Played). q.clock + risen_by rest ≤ 28587302322176) (sym push) (omega (arith, room, up, sum_by-cons (λ (x : Entry). rise_of x.event) e rest));
    }

-- ---- the loop at a place
pub left_at : (merged : List Entry) (i : ℕ) (e : Entry) → i < length merged → e ≡ slice_index_or merged i e → drop i merged ≡ e ∷ drop (i + 1) merged
left_at merged i e within is = drop_more merged i e within ∙ ap (λ (x : Entry). x ∷ drop (i + 1) merged) (sym is)

pub done_at : (merged : List Entry) (i : ℕ) (e : Entry) → i < length merged → e ≡ slice_index_or merged i e → take i merged ++ e ∷ [] ≡ take (i + 1) merged
done_at merged i e within is = ap (λ (x : Entry). take i merged ++ x ∷ []) is ∙ sym (take_more merged i e within)

pub settled_at : (script : ScriptData) (merged left : List Entry) (i : ℕ) (whole : ClusterModel) (clock : ℕ) (ahead : Store → ℕ → Fate) → length merged ≤ i → StandsAfter script (take i merged) left whole clock ahead → IsSettledAt script merged whole
settled_at script merged left i whole clock ahead past h =
    let all : take i merged ≡ merged = take_all i merged past in
    let at : StandsAfter script merged left whole clock ahead = subst (λ (es : List Entry). StandsAfter script es left whole clock ahead) all h in
    record { replayed = at.replayed; state = at.stands.state; items = at.stands.history; history = at.stands.history ∙ at.kept }

pub stops_at : (script : ScriptData) (merged : List Entry) (i : ℕ) (e : Entry) (stop : SettleStop) → i < length merged → e ≡ slice_index_or merged i e → AllReplayed script (take i merged) → TurnStops script (merged_played script (take i merged)) e stop → ReplayStops script merged stop
stops_at script merged i e (Missing made given) within is before h = h
stops_at script merged i e (Torn tick kept replayed) within is before h = record { place = i; entry = e; there = slice_get_read merged (length merged) i e refl within is; before = before; tears = h }
stops_at script merged i e NoMemory within is before h = tt

-- ---- one turn
pub event_is : (script : ScriptData) (p : Played) (e : Event) (clock : ℕ) (leads : List ℕ) (master : ℕ) (history : List Item) (made : machine.Event) → made ≡ timed_at clock leads master e → clock ≡ p.clock → master ≡ last_master history → history ≡ p.items → script.leads ≡ leads → made ≡ timed_in script p e
event_is script p e clock leads master history made is time leader told same =
    is ∙ ap (λ (n : ℕ). timed_at n leads master e) time ∙ ap (λ (n : ℕ). timed_at p.clock leads n e) (leader ∙ ap last_master told)
    ∙ ap (λ (ls : List ℕ). timed_at p.clock ls (last_master p.items) e) (sym same)

-- the items behind those that stood there before are those that the step appends
pub items_since : (script : ScriptData) (p : Played) (e : Event) (made : machine.Event) (before now behind : List Item) → made ≡ timed_in script p e → before ≡ p.items → now ≡ (played script p made).items → behind ≡ drop (length before) now → behind ≡ replayed_items script p e
items_since script p e made before now behind is was after cut =
    cut ∙ ap (λ (xs : List Item). drop (length xs) now) was ∙ ap (λ (xs : List Item). drop (length p.items) xs) after
    ∙ added p.items (step_of script p made).items ∙ ap (λ (x : machine.Event). (step_of script p x).items) is
