use Rattle.std.proofs.Common.{subst}
use Rattle.port_io.specs.Ports.{Gains}
use Rattle.history_text.specs.Summary.{summarized}
use Rattle.script_data.specs.Data.{ScriptData}
use Rattle.command_semantics.specs.Runs.{replayed}
use Rattle.omid_top.specs.Promise.{KeepsPromise, GainsFront}
use Rattle.omid_top.proofs.CommandLemmas.{storms_silently}
use Rattle.omid_top.proofs.replay.storm.Goals as goal

pub returns-in-Ok-clause-storm : goal.returns-in-Ok-clause-storm
returns-in-Ok-clause-storm g c = record {
  stormed = λ done. subst (λ (given : ScriptData). KeepsPromise given × Gains (g.K.Sink.held c.args.sink.now) (g.K.Sink.held c.replay_script.new.sink) (summarized (replayed given))) c.in-Ok.ensures.script (c.replay_script.ensures.replayed done);
  cut = λ five. subst (λ (given : ScriptData). GainsFront (g.K.Sink.held c.args.sink.now) (g.K.Sink.held c.replay_script.new.sink) (summarized (replayed given))) c.in-Ok.ensures.script (c.replay_script.ensures.cut five);
  codes = c.replay_script.ensures.codes;
}

pub returns-in-Err-clause-storm : goal.returns-in-Err-clause-storm
returns-in-Err-clause-storm g c = storms_silently _ _ _
