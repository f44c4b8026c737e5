use Rattle.std.proofs.Common.{ap, ◌∙◌, arith, List, refl, subst, sym}
use Rattle.history_book.specs.declared.item.Item.{Item}
use Rattle.command_semantics.specs.Answers.{Answers}
use Rattle.command_semantics.specs.Planned.{Planned}
use Rattle.machine.specs.State.{State}
use Rattle.cluster_core.specs.ClusterModel.{ClusterModel}
use Rattle.session_script.specs.Script.{data_of}
use Rattle.planned_cluster.proofs.Playable.{playable_at_first}
use Rattle.replay_driver.proofs.Counting.{none_played, all_played, all_reached}
use Rattle.planned_cluster.proofs.Fitting.{one_more_there, lines_fit}
use Rattle.replay_driver.proofs.driver.replay_told.Goals as goal

pub open-requires : goal.open-requires
open-requires g c = rw c.deref.ensures.value c.args.script.now.sound.one_fault_each

pub loop-place-init : goal.loop-place-init
loop-place-init g c =
    let script = data_of c.args.script.now in
    record {
      played =
          none_played script _ _ _ c.args.script.now.sound (omega (arith, c.requires, c.args.script.now.lines.ok))
          (c.in_ok-play.ensures.opens script refl (sym c.deref.ensures.value));
      there = λ k d none within. absurd (omega (arith, none));
    }

pub play_line-requires : goal.play_line-requires
play_line-requires g c = record { place = omega (arith, c.loop-place-test.true, c.args.script.now.lines.ok); played = c.loop-place.invariant.played }

pub loop-place-preserved : goal.loop-place-preserved
loop-place-preserved g c = record {
  played = c.in_ok-play_line.ensures;
  there = one_more_there c.loop-place.place c.args.script.now.lines.items c.index.result.now (omega (arith, c.loop-place-test.true, c.args.script.now.lines.ok)) c.index.ensures c.loop-place.invariant.there c.see_session.ensures;
}

pub returns : goal.returns
returns g c =
    let script = data_of c.args.script.now in
    let at = c.loop-place.invariant.played in
    let same = c.into_cluster.ensures in
    let history = ap (λ (w : ClusterModel). w.history) same ∙ all_played script c.loop-place.place _ _ _ (omega (arith, c.loop-place-test.false, c.args.script.now.lines.ok)) at in
    let playable = playable_at_first script c.args.script.now.sound (omega (arith, c.requires, c.args.script.now.lines.ok)) in
    record {
      history = history;
      state = ap (λ (w : ClusterModel). w.state) same ∙ all_reached script c.loop-place.place _ _ _ (omega (arith, c.loop-place-test.false, c.args.script.now.lines.ok)) at;
      answered = subst (λ (h : List Item). Answers script h) (sym history) (c.lines_are_answered.ensures script c.args.script.now.sound.setup playable (lines_fit script.setup script.lines c.args.script.now.sound.lines (λ k d below here. c.loop-place.invariant.there k d (omega (arith, below, c.loop-place-test.false, c.args.script.now.lines.ok)) here)));
      planned = subst (λ (h : List Item). Planned script h) (sym history) (c.scripts_are_planned.ensures script c.args.script.now.sound.setup playable);
      setup = ap (λ (w : ClusterModel). w.state.setup) same ∙ ap (λ (w : State). w.setup) at.stands.state ∙ at.reached.setup;
    }
