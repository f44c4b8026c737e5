use Rattle.std.proofs.Common.{◌≤◌, List, All, length, subst, arith}
use Rattle.script_data.specs.declared.line.Line.{Line}
use Rattle.session_script.specs.Script.{data_of}
use Rattle.planned_cluster.specs.Fitting.{SessionIsThere}
use Rattle.split_driver.proofs.SettleLemmas.{split_answers, split_carried, split_serves, split_is_planned, split_keeps_service, split_setup}
use Rattle.split_driver.proofs.driver.answering.Goals as goal

pub returns-clause-answers : goal.returns-clause-answers
returns-clause-answers c =
    let script = c.args.script.now in
    let there = subst (λ (lines : List Line). All (λ (line : Line). SessionIsThere line.actor) lines) c.deref.ensures.value c.see_sessions.ensures in
    let few : length script.lines.items ≤ 131072 = omega (arith, c.requires.few, script.lines.ok.0) in
    split_answers (data_of script) script.sound few c.requires.may_split there c.args.split c.requires.split c.settled_logs_answer.ensures

pub returns-clause-carried : goal.returns-clause-carried
returns-clause-carried c = split_carried (data_of c.args.script.now) c.args.split c.requires.split

pub returns-clause-served : goal.returns-clause-served
returns-clause-served c =
    let script = c.args.script.now in
    let there = subst (λ (lines : List Line). All (λ (line : Line). SessionIsThere line.actor) lines) c.deref.ensures.value c.see_sessions.ensures in
    let few : length script.lines.items ≤ 131072 = omega (arith, c.requires.few, script.lines.ok.0) in
    split_serves (data_of script) script.sound few c.requires.may_split there c.args.split c.requires.split c.settled_logs_serve.ensures

pub returns-clause-planned : goal.returns-clause-planned
returns-clause-planned c =
    let script = c.args.script.now in
    let there = subst (λ (lines : List Line). All (λ (line : Line). SessionIsThere line.actor) lines) c.deref.ensures.value c.see_sessions.ensures in
    let few : length script.lines.items ≤ 131072 = omega (arith, c.requires.few, script.lines.ok.0) in
    split_is_planned (data_of script) script.sound few c.requires.may_split there c.args.split c.requires.split c.settled_logs_are_planned.ensures

pub returns-clause-service : goal.returns-clause-service
returns-clause-service c =
    let script = c.args.script.now in
    let there = subst (λ (lines : List Line). All (λ (line : Line). SessionIsThere line.actor) lines) c.deref.ensures.value c.see_sessions.ensures in
    let few : length script.lines.items ≤ 131072 = omega (arith, c.requires.few, script.lines.ok.0) in
    split_keeps_service (data_of script) script.sound few c.requires.may_split there c.args.split c.requires.split c.settled_logs_keep_service.ensures

pub returns-clause-setup : goal.returns-clause-setup
returns-clause-setup c = split_setup (data_of c.args.script.now) c.args.split c.requires.split
