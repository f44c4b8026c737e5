use Rattle.std.proofs.Common.{ℕ, ◌+◌, List, refl, sym, subst, arith, take, drop}
use Rattle.std.proofs.lemmas.Result.{MatchResult-at_err, MatchResult-at_ok}
use Rattle.script_data.specs.Data.{ScriptData}
use Rattle.planned_cluster.proofs.Playable.{playable_at_first}
use Rattle.port_io.specs.contracts.planned.PlannedWeatherWeather.TheImpl.{ahead-value}
use Rattle.split_stores.specs.declared.seat.Entry.{Entry}
use Rattle.split_parts.specs.declared.plan.Plan.{Plan}
use Rattle.split_parts.specs.Plans.{plan_data}
use Rattle.split_stores.specs.Merged.{merged_played}
use Rattle.split_stores.proofs.ReplayLemmas.{StandsAfter, IsOnTime, stands_first, next_fits, next_steady, stands_more, left_at, done_at, settled_at, stops_at}
use Rattle.split_stores.proofs.settling.replay_all.Goals as goal

on_time : (plan : Plan) → IsOnTime (plan_data plan)
on_time plan = record { leads = (playable_at_first (plan_data plan) plan.sound (omega arith)).leads; skew = (let high = plan.sound.setup.skew in omega (arith, high)) }

pub loop-entry-init : goal.loop-entry-init
loop-entry-init c = stands_first (plan_data c.args.plan.now) c.args.merged.now _ _ _ c.args.plan.now.sound (c.requires.opens (plan_data c.args.plan.now) refl refl) c.requires.risen

pub replay_one-requires-clause-rise : goal.replay_one-requires-clause-rise
replay_one-requires-clause-rise c =
    let e : Entry = c.entry-item.result in
    next_fits (plan_data c.args.plan.now) _ _ _ e _ _ _ (left_at c.args.merged.now c.loop-entry.entry-index e c.loop-entry-test.true c.entry-item.is) c.loop-entry.invariant

pub replay_one-requires-clause-steady : goal.replay_one-requires-clause-steady
replay_one-requires-clause-steady c =
    let e : Entry = c.entry-item.result in
    next_steady (plan_data c.args.plan.now) _ _ _ e _ _ _ _ (left_at c.args.merged.now c.loop-entry.entry-index e c.loop-entry-test.true c.entry-item.is) (on_time c.args.plan.now) c.as_slice.ensures.value c.loop-entry.invariant

pub returns-in-Err : goal.returns-in-Err
returns-in-Err c =
    let e : Entry = c.entry-item.result in
    let script : ScriptData = plan_data c.args.plan.now in
    let turn = c.replay_one.ensures script (merged_played script (take c.loop-entry.entry-index c.args.merged.now)) (sym c.as_slice.ensures.value) c.loop-entry.invariant.stands in
    stops_at script c.args.merged.now c.loop-entry.entry-index e c.in-Err.stop c.loop-entry-test.true c.entry-item.is c.loop-entry.invariant.replayed (MatchResult-at_err _ _ c.in-Err.stop c.in-Err.is turn)

pub loop-entry-preserved : goal.loop-entry-preserved
loop-entry-preserved c =
    let e : Entry = c.entry-item.result in
    let i : ℕ = c.loop-entry.entry-index in
    let script : ScriptData = plan_data c.args.plan.now in
    let merged : List Entry = c.args.merged.now in
    let turn = c.replay_one.ensures script (merged_played script (take i merged)) (sym c.as_slice.ensures.value) c.loop-entry.invariant.stands in
    let both = MatchResult-at_ok _ _ c.in_default.field-0 c.in_default.is turn in
    let more = stands_more c.events_stay_told.ensures script (take i merged) (drop i merged) (drop (i + 1) merged) e _ _ _ _ _ _ (left_at merged i e c.loop-entry-test.true c.entry-item.is) (on_time c.args.plan.now) c.loop-entry.invariant both.0 both.1 in
    subst (λ (es : List Entry). StandsAfter script es (drop (i + 1) merged) c.replay_one.new.play.cluster c.replay_one.new.play.clock (ahead-value.it c.replay_one.new.play.weather)) (done_at merged i e c.loop-entry-test.true c.entry-item.is) more

pub returns : goal.returns
returns c = settled_at (plan_data c.args.plan.now) c.args.merged.now _ c.loop-entry.entry-index _ _ _ c.loop-entry-test.false c.loop-entry.invariant
