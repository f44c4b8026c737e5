-- The history that logs settle into, which follow the lines of a script, answers the script and is as it plans.
use Rattle.log_refinement.proofs.Names.{◌≡◌, ℕ, ◌≤◌, List, [], None, refl, sym, ◌∙◌, ap, subst, arith, filter, sum}
use Rattle.log_refinement.proofs.Names.{IsTrue, ◌∈◌, Actor, Clock, Session, Item, SessionState, has_transaction}
use Rattle.log_refinement.proofs.Names.{ScriptData, is_of, asks_last, Answered, ticks_in, opening_played, fit_at_first}
use Rattle.log_refinement.proofs.Names.{takes_at_first, EventsStayTold, ticks_made, actors_of, Logged, kept_items}
use Rattle.log_refinement.proofs.Names.{IsSettledAt, Settled, logs_of, rises_in, without_lines, SettledByPlans}
use Rattle.log_refinement.proofs.Names.{IsOrdered, SettledIsOrdered, SettledIsPlanned, AllRise, IsCarried}
use Rattle.log_refinement.proofs.Names.{SettledLogsAnswer, SettledLogsArePlanned, SettledLogsKeepService}
use Rattle.log_refinement.proofs.Names.{SettledLogsServe, first_standing, HasEnded, AnsweredServed}
use Rattle.cause_laws.proofs.AlwaysExplained.{tells_at_first}
use Rattle.command_semantics.proofs.Ending.{opening_reached}
use Rattle.script_data.specs.Ticks.{ticks_of}
use Rattle.script_service.specs.Service.{OrdersKeepService}
use Rattle.service_rules.specs.Service.{KeepsService}
use Rattle.cluster_core.specs.ClusterModel.{ClusterModel}
use Rattle.log_refinement.specs.Served.{Nothing}
use Rattle.log_refinement.proofs.AskFacts.{MachineLaws}
use Rattle.log_refinement.proofs.ActorLogs.{WovenLog, woven_log}
use Rattle.log_refinement.proofs.ClockTicks.{rises_as_lines, ticks_most}
use Rattle.log_refinement.proofs.KeptKeys.{KeysKept}
use Rattle.log_refinement.proofs.MadeEntries.{IsGood, AllMade, all_made}
use Rattle.log_refinement.proofs.OpeningLogs.{AllOpened, all_opened}
use Rattle.log_refinement.proofs.ShownRequests.{woven_others}
use Rattle.log_refinement.proofs.OtherLogs.{own_lines}
use Rattle.log_refinement.proofs.ServedEntries.{entries_serve}
use Rattle.log_refinement.proofs.WalkedEntries.{entries_answer}

-- before the first entry
good_first : (script : ScriptData) → IsCarried script → IsGood script (opening_played script)
good_first script carried = record {
  told = record { reached = opening_reached script carried.setup; tells = tells_at_first script.setup carried.setup };
  fit = fit_at_first script.setup;
  takes = takes_at_first script.setup carried.setup;
}

rises_settled : (script : ScriptData) (logs : List Logged) (whole : ClusterModel) → IsCarried script → AllOpened script (actors_of script) logs → AllRise logs → (settled : Settled (without_lines script) (logs_of logs) whole) → rises_in settled.merged ≡ ticks_in script.lines
rises_settled script logs whole carried follow rise settled =
    let k : WovenLog script Clock settled.merged = woven_log script Clock logs settled.merged carried.lines follow rise settled.in_order in
    rises_as_lines script.setup k.entries settled.merged first_standing script.lines (woven_others script Clock k.entries settled.merged k.woven) (own_lines script.setup Clock script.lines carried.lines) k.follows

all_settled : EventsStayTold → SettledByPlans → (script : ScriptData) (logs : List Logged) (whole : ClusterModel) → IsCarried script → AllOpened script (actors_of script) logs → AllRise logs → (settled : Settled (without_lines script) (logs_of logs) whole) → AllMade script settled.merged (opening_played script)
all_settled law by_plans script logs whole carried follow rise settled =
    let at : IsSettledAt script settled.merged whole = by_plans script (logs_of logs) whole settled in
    let same : sum (rises_in settled.merged) ≡ sum (ticks_in script.lines) = ap sum (rises_settled script logs whole carried follow rise settled) in
    all_made law script settled.merged (opening_played script) carried.playable.leads (omega (arith, same, ticks_most script.lines, carried.playable.ticks)) (good_first script carried) at.replayed

pub settled_logs_answer : EventsStayTold → SettledByPlans → SettledLogsAnswer
settled_logs_answer law by_plans script logs whole carried follow_all rise settled actor =
    let follow : AllOpened script (actors_of script) logs = all_opened script (actors_of script) logs follow_all in
    let k : WovenLog script actor settled.merged = woven_log script actor logs settled.merged carried.lines follow rise settled.in_order in
    let made : AllMade script settled.merged (opening_played script) = all_settled law by_plans script logs whole carried follow rise settled in
    let answers : Answered asks_last actor [] None (filter (is_of actor) script.lines) (kept_items settled.merged) = entries_answer script actor k.entries settled.merged (opening_played script) made (woven_others script actor k.entries settled.merged k.woven) first_standing None (filter (is_of actor) script.lines) (own_lines script.setup actor script.lines carried.lines) k.follows tt in
    subst (λ (h : List Item). Answered asks_last actor [] None (filter (is_of actor) script.lines) h) (sym (by_plans script (logs_of logs) whole settled).history) answers

pub settled_logs_are_planned : SettledIsPlanned → SettledLogsArePlanned
settled_logs_are_planned law script logs whole carried follow rise settled =
    law script (logs_of logs) whole settled carried.setup carried.playable (rises_settled script logs whole carried (all_opened script (actors_of script) logs follow) rise settled)

pub settled_logs_keep_service : SettledIsOrdered → OrdersKeepService → SettledLogsKeepService
settled_logs_keep_service ordered law script logs whole carried follow rise settled =
    let order : IsOrdered script settled.merged whole = ordered script (logs_of logs) whole settled in
    let ticks : ticks_made order.events ≡ ticks_in script.lines = order.ticks ∙ rises_settled script logs whole carried (all_opened script (actors_of script) logs follow) rise settled in
    let few : sum (ticks_made order.events) ≤ ticks_of script.lines = subst (λ (made : List ℕ). sum made ≤ ticks_of script.lines) (sym ticks) (ticks_most script.lines) in
    subst (KeepsService script.setup) (sym order.items) (law script order.events carried.setup carried.playable order.read few)

-- before the first entry no session has a transaction open
keys_first : (script : ScriptData) (actor : Actor) → IsCarried script → KeysKept actor (opening_played script).state []
unfolding ◌∈◌
keys_first script (Session s) carried = λ c at opened key m.
    let begun = (good_first script carried).told.tells.stands.holds.requests.have_begun.begun s c at (subst (λ (state : SessionState). IsTrue (has_transaction state)) (sym opened) refl) in
    absurd begun.2
keys_first script _ carried = tt

pub settled_logs_serve : MachineLaws → EventsStayTold → SettledByPlans → SettledLogsServe
settled_logs_serve laws law by_plans script logs whole carried follow_all rise settled actor =
    let follow : AllOpened script (actors_of script) logs = all_opened script (actors_of script) logs follow_all in
    let k : WovenLog script actor settled.merged = woven_log script actor logs settled.merged carried.lines follow rise settled.in_order in
    let made : AllMade script settled.merged (opening_played script) = all_settled law by_plans script logs whole carried follow rise settled in
    let serves : AnsweredServed (HasEnded script) actor [] Nothing (filter (is_of actor) script.lines) (kept_items settled.merged) =
    entries_serve laws script actor k.entries settled.merged (opening_played script) made k.woven (laws.first script.setup) first_standing Nothing (filter (is_of actor) script.lines) (own_lines script.setup actor script.lines carried.lines) k.follows (keys_first script actor carried) tt in
    subst (λ (h : List Item). AnsweredServed (HasEnded script) actor [] Nothing (filter (is_of actor) script.lines) h) (sym (by_plans script (logs_of logs) whole settled).history) serves
