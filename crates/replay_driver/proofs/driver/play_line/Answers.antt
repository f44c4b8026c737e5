use Rattle.std.proofs.Common.{◌≡◌, ◌≢◌, arith, rules}
use Rattle.session_script.specs.Script.{data_of}
use Rattle.command_semantics.specs.declared.point.Point.TheVariants.{Over}
use Rattle.replay_driver.specs.Playing.{played_to}
use Rattle.replay_driver.proofs.Running.{begins, can_go_on, goes_on, ends}
use Rattle.planned_cluster.proofs.Rooms.{have_room}
use Rattle.replay_driver.proofs.Counting.{ticks_from, ended_more}
use Rattle.replay_driver.proofs.driver.play_line.Goals as goal

pub loop-line-init : goal.loop-line-init
loop-line-init c =
    let script = data_of c.args.script.now in
    let at = c.requires.played in
    let ticks = ticks_from script.lines c.args.place c.index-line.result.now c.requires.place c.index-line.ensures in
    begins script c.index-line.result.now (played_to script c.args.place) _ at.stands at.reached at.playable.leads (omega (arith, at.playable.ticks, ticks))

pub make_next-requires : goal.make_next-requires
make_next-requires c =
    let script = data_of c.args.script.now in
    let ticks = ticks_from script.lines c.args.place c.index-line.result.now c.requires.place c.index-line.ensures in
    let playable = c.requires.played.playable in
    let k = c.loop-line.invariant in
    let room = have_room script k.run.played.clock c.index-line.result.now.verb playable.leads (omega (arith, playable.ticks, ticks, k.going.ahead)) (omega (arith, playable.ticks, ticks)) in
    can_go_on script c.index-line.result.now (played_to script c.args.place) _ _ _ c.deref.ensures.value k (rw (c.deref.ensures.value, k.at.stands.time) room)

pub loop-line-smaller : goal.loop-line-smaller
loop-line-smaller c =
    let goes : c.loop-line.point ≢ Over = search rules in
    (goes_on c.events_lower_what_is_left.ensures (data_of c.args.script.now) c.index-line.result.now _ _ _ _ _ _ c.deref.ensures.value c.loop-line.invariant goes c.in_ok-point.ensures).fewer

pub loop-line-preserved : goal.loop-line-preserved
loop-line-preserved c =
    let goes : c.loop-line.point ≢ Over = search rules in
    (goes_on c.events_lower_what_is_left.ensures (data_of c.args.script.now) c.index-line.result.now _ _ _ _ _ _ c.deref.ensures.value c.loop-line.invariant goes c.in_ok-point.ensures).under_way

pub returns : goal.returns
returns c =
    let script = data_of c.args.script.now in
    let over : c.loop-line.point ≡ Over = search rules in
    ended_more script c.args.place c.index-line.result.now _ _ _ _ _ _ c.requires.place c.index-line.ensures c.requires.played
    (ends script c.index-line.result.now _ _ _ c.loop-line.invariant over)
