use Rattle.run_board.proofs.Names.{◌≡◌, arith, rules, playable_at_first, data_of}
use Rattle.std.proofs.Common.{slice_index_or}
use Rattle.run_board.proofs.Steady.{clock_room}
use Rattle.run_board.proofs.run.ScriptRun.reading_at.Goals.{in-Some, in-None}
use Rattle.run_board.proofs.run.ScriptRun.reading_at.Goals as goal

pub overflow_add-result : goal.overflow_add-result
overflow_add-result c =
    let s = c.self.inside in
    let out = c.self.invariant.2 in
    let time = c.self.invariant.0.time in
    let ahead = (playable_at_first (data_of s.script) out.sound out.few).leads c.args.node in
    let room = clock_room (data_of s.script) s.turns.items out.sound out.few in
    let is : c.match-get.lead ≡ slice_index_or s.script.leads.items c.args.node 0 = elim c.match-get.branch [ in-Some w ↦ search rules | in-None w ↦ search rules ] in
    omega (arith, time, ahead, room, is)
