use Rattle.std.proofs.Common.{List, arith, subst, ◌∙◌}
use Rattle.stamp_base.specs.SetupNumbers.{SetupNumbers}
use Rattle.history_book.specs.declared.item.Item.{Item}
use Rattle.cause_rules.specs.Explained.{Explained}
use Rattle.cause_rules.specs.Strict.{SerialIfStrict}
use Rattle.port_io.specs.Ports.{Gains}
use Rattle.session_script.specs.Script.{data_of}
use Rattle.planned_cluster.proofs.Playable.{playable_at_first}
use Rattle.omid_top.specs.Promise.{GainsFront}
use Rattle.omid_top.specs.Texts.{text_in}
use Rattle.omid_top.proofs.PromiseLemmas.{promise_kept}
use Rattle.omid_top.proofs.replay.replay_script.Goals as goal

pub returns-in-Ok-print_in-clause-replayed : goal.returns-in-Ok-print_in-clause-replayed
returns-in-Ok-print_in-clause-replayed g c = λ _. (
  promise_kept (data_of c.args.script.now) c.in-Ok.cluster.history c.in-Ok.ensures.history c.history.ensures.isolated
      (subst (λ (setup : SetupNumbers). SerialIfStrict setup c.in-Ok.cluster.history) c.in-Ok.ensures.setup c.history.ensures.serial)
      (subst (λ (setup : SetupNumbers). Explained setup c.in-Ok.cluster.history) c.in-Ok.ensures.setup c.history.ensures.explained) c.in-Ok.ensures.answered c.in-Ok.ensures.planned
      (c.scripts_keep_service.ensures (data_of c.args.script.now) c.args.script.now.sound.setup (playable_at_first (data_of c.args.script.now) c.args.script.now.sound (omega (arith, c.requires, c.args.script.now.lines.ok.0)))),
  subst (λ (h : List Item). Gains (g.K.Sink.held c.args.sink.now) (g.K.Sink.held c.print_in.new.sink) (text_in c.args.form h)) (c.history.ensures.value ∙ c.in-Ok.ensures.history) c.in-Ok-print_in.ensures.all,
)
