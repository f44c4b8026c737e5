use Rattle.port_io.specs.Ports.{Gains}
use Rattle.session_script.specs.Script.{BadLine, data_of}
use Rattle.omid_top.specs.Texts.{bad_line_text}
use Rattle.omid_top.proofs.PromiseLemmas.{bad_line_told, told_of_same}
use Rattle.omid_top.proofs.split.split_bytes.Goals as goal

pub split_script-requires-clause-may_split : goal.split_script-requires-clause-may_split
split_script-requires-clause-may_split g c κs within = c.split_scripts_may_split.ensures c.args.bytes.now (data_of c.in-Ok.script) c.in-Ok.ensures.script

pub returns-in-Err-At-clause-bad_line : goal.returns-in-Err-At-clause-bad_line
returns-in-Err-At-clause-bad_line g c = λ three.
    bad_line_told c.in-Err-At.field-0 c.in-Err-At.line c.in-Err-At.cause _ (λ (bad : BadLine). Gains (g.K.Sink.held c.args.sink.now) (g.K.Sink.held c.named.new.sink) (bad_line_text bad)) c.in-Err-At.ensures.script c.in-Err-At.field-0-is
    (told_of_same (λ (bad : BadLine). Gains (g.K.Sink.held c.args.sink.now) (g.K.Sink.held c.named.new.sink) (bad_line_text bad)) _ c.in-Err-At.line _ c.in-Err-At.cause c.in-Err-At.line-is c.in-Err-At.cause-is (c.named.ensures.told three))
