-- What the logs of a script settle into.
use Rattle.std.proofs.Common.{◌≡◌, ℕ, ◌≤◌, true, List, [], ◌∷◌, ◌++◌, length, refl, sym, ap, subst, ◌∙◌}
use Rattle.std.specs.Prelude.{All, Result, Ok, Err, IfOk}
use Rattle.std.proofs.lemmas.List.Elements.{All-nil, All-head, All-tail}
use Rattle.atomic_table.specs.Seated.{TableId}
use Rattle.history_book.specs.declared.item.Actor.{Actor}
use Rattle.script_data.specs.declared.line.Line.{Line}
use Rattle.script_data.specs.Data.{ScriptData, IsSound}
use Rattle.command_semantics.specs.Answers.{Answers}
use Rattle.command_semantics.specs.Planned.{Planned}
use Rattle.service_rules.specs.Service.{KeepsService}
use Rattle.command_semantics.specs.Runs.{Played, opening_played, fate_of}
use Rattle.machine.specs.State.{State}
use Rattle.machine.proofs.PartsKept.{leaves_parts}
use Rattle.planned_cluster.specs.Fitting.{SessionIsThere}
use Rattle.planned_cluster.proofs.Playable.{playable_at_first}
use Rattle.planned_cluster.proofs.Fitting.{lines_fit}
use Rattle.cluster_core.specs.ClusterModel.{ClusterModel}
use Rattle.thread_scripts.specs.Actors.{actors_of}
use Rattle.split_stores.specs.declared.seat.Entry.{Entry}
use Rattle.split_stores.specs.declared.settling.SettleStop.{SettleStop}
use Rattle.split_stores.specs.declared.settling.SettleStop.TheVariants as settle
use Rattle.split_stores.specs.Logs.{Logged, IsNew, ticks_of, rises_above}
use Rattle.split_stores.specs.Merged.{SettleStops, entries_played, played_with, timed_in}
use Rattle.split_stores.specs.Merging.{logs_of}
use Rattle.split_stores.specs.Orders.{without_lines}
use Rattle.log_refinement.specs.Follows.{AllFollow, AllFollowSome}
use Rattle.log_refinement.specs.Served.{Served}
use Rattle.log_refinement.proofs.FirstsAmong.{all_begin}
use Rattle.log_refinement.specs.Laws.{IsCarried, AllRise, SettledLogsAnswer, SettledLogsServe, SettledLogsArePlanned, SettledLogsKeepService}
use Rattle.split_driver.specs.declared.stop.SplitStop.{SplitStop}
use Rattle.split_driver.specs.declared.stop.SplitStop.TheVariants as stop
use Rattle.split_driver.specs.Actors.{IsOfAll, SettlesBy, TearsBy}
use Rattle.split_driver.specs.Splits.{AreLogs, CarriedOut, MaySplit, Splits, SplitStops}

-- ---- what settling answered
-- where all seats are handed in, none is missing
pub all_given : (plan : ScriptData) (seats : ℕ) (logs : List Logged) (stop : SettleStop) → SettleStops plan seats logs stop → length logs ≡ seats → IsOfAll stop
all_given plan seats logs (settle.Missing made given) is all = is.2 (is.1 ∙ all ∙ sym is.0)
all_given plan seats logs (settle.Torn tick kept replayed) is all = tt
all_given plan seats logs settle.NoMemory is all = tt

stops_by : (script plan : ScriptData) (logs : List Logged) (why : SplitStop) → plan ≡ without_lines script → AreLogs script logs → TearsBy plan (logs_of logs) why → SplitStops script why
stops_by script plan logs (stop.Torn tick kept replayed) is are tears = record { logs = logs; are = are; torn = rw (sym is) tears }
stops_by script plan logs (stop.Spent drawn) is are tears = absurd tears
stops_by script plan logs stop.NoMemory is are tears = tt

-- where the logs follow the lines of all actors
pub splits_whole : (script plan : ScriptData) (logs : List Logged) (r : Result ClusterModel SplitStop) → plan ≡ without_lines script → AllFollow script (actors_of script) logs → AreLogs script logs → SettlesBy plan (logs_of logs) r → Splits script r
splits_whole script plan logs (Ok whole) is follow are settled = record { logs = logs; follow = follow; rise = are.rise; settled = rw (sym is) settled }
splits_whole script plan logs (Err why) is follow are tears = stops_by script plan logs why is are tears

-- where it stops, whether they follow the lines to their end or not
pub splits_not : (script plan : ScriptData) (logs : List Logged) (why : SplitStop) (r : Result ClusterModel SplitStop) → plan ≡ without_lines script → AreLogs script logs → SettlesBy plan (logs_of logs) r → r ≡ Err why → SplitStops script why
splits_not script plan logs why r is are settled stopped = stops_by script plan logs why is are (subst (λ (x : Result ClusterModel SplitStop). SettlesBy plan (logs_of logs) x) stopped settled)

-- ---- no lines
-- empty logs are none
no_entries : (word : TableId) (logs : List Logged) → All (IsNew word) logs → logs_of logs ≡ []
no_entries word [] new = refl
no_entries word (log ∷ logs) new =
    let first : IsNew word log = All-head (IsNew word) log logs new in
    ap (λ es. es ++ logs_of logs) first.1 ∙ no_entries word logs (All-tail (IsNew word) log logs new)

pub splits_nothing : (script plan : ScriptData) (word : TableId) (logs : List Logged) (r : Result ClusterModel SplitStop) → plan ≡ without_lines script → actors_of script ≡ [] → All (IsNew word) logs → SettlesBy plan (logs_of logs) r → Splits script r
splits_nothing script plan word logs r is none new settled =
    let rise : AllRise [] = All-nil (λ (log : Logged). rises_above 0 (ticks_of log.entries) ≡ true) in
    let fronts : AllFollowSome script (actors_of script) [] = subst (λ (actors : List Actor). AllFollowSome script actors []) (sym none) tt in
    splits_whole script plan [] r is (subst (λ (actors : List Actor). AllFollow script actors []) (sym none) tt) (record { fronts = fronts; rise = rise })
    (subst (λ (es : List Entry). SettlesBy plan es r) (no_entries word logs new) settled)

-- ---- the setup
setup_after : (script : ScriptData) (entries : List Entry) (p : Played) → (entries_played script entries p).state.setup ≡ p.state.setup
unfolding entries_played
setup_after script [] p = refl
setup_after script (e ∷ es) p =
    let now = timed_in script p e.event in
    setup_after script es (played_with script p e.event) ∙ (leaves_parts p.state now (fate_of script p now)).setup

pub split_setup : (script : ScriptData) (r : Result ClusterModel SplitStop) → Splits script r → IfOk r (λ (whole : ClusterModel). whole.state.setup ≡ script.setup)
split_setup script (Ok whole) s =
    ap (λ (w : State). w.setup) s.settled.settled.state ∙ setup_after (without_lines script) s.settled.merged (opening_played (without_lines script))
split_setup script (Err why) s = tt

-- ---- each line
pub split_carried : (script : ScriptData) (r : Result ClusterModel SplitStop) → Splits script r → IfOk r (CarriedOut script)
split_carried script (Ok whole) s = record { logs = s.logs; all = all_begin script (actors_of script) s.logs s.follow; settled = s.settled }
split_carried script (Err why) s = tt

-- ---- what the laws say
is_carried : (script : ScriptData) → IsSound script → length script.lines ≤ 131072 → MaySplit script → All (λ (line : Line). SessionIsThere line.actor) script.lines → IsCarried script
is_carried script sound few may there = record {
  setup = sound.setup;
  playable = playable_at_first script sound few;
  lines = lines_fit script.setup script.lines sound.lines (λ k d within here. there k d here);
}

module _ (script : ScriptData) (sound : IsSound script) (few : length script.lines ≤ 131072) (may : MaySplit script) (there : All (λ (line : Line). SessionIsThere line.actor) script.lines) where
  pub split_answers : (r : Result ClusterModel SplitStop) → Splits script r → SettledLogsAnswer → IfOk r (λ (whole : ClusterModel). Answers script whole.history)
  split_answers (Ok whole) s law = law script s.logs whole (is_carried script sound few may there) s.follow s.rise s.settled
  split_answers (Err why) s law = tt

  pub split_serves : (r : Result ClusterModel SplitStop) → Splits script r → SettledLogsServe → IfOk r (λ (whole : ClusterModel). Served script whole.history)
  split_serves (Ok whole) s law = law script s.logs whole (is_carried script sound few may there) s.follow s.rise s.settled
  split_serves (Err why) s law = tt

  pub split_is_planned : (r : Result ClusterModel SplitStop) → Splits script r → SettledLogsArePlanned → IfOk r (λ (whole : ClusterModel). Planned script whole.history)
  split_is_planned (Ok whole) s law = law script s.logs whole (is_carried script sound few may there) s.follow s.rise s.settled
  split_is_planned (Err why) s law = tt

  pub split_keeps_service : (r : Result ClusterModel SplitStop) → Splits script r → SettledLogsKeepService → IfOk r (λ (whole : ClusterModel). KeepsService script.setup whole.history)
  split_keeps_service (Ok whole) s law = law script s.logs whole (is_carried script sound few may there) s.follow s.rise s.settled
  split_keeps_service (Err why) s law = tt
