use Rattle.std.proofs.Common.{◌≡◌, Some, ap, ◌∙◌}
use Rattle.serde_json.specs.View.{view}
use Rattle.serde_json.specs.Find.{as_str}
use Rattle.trace_reading.proofs.NameLemmas.{named_text, named_number}
use Rattle.trace_reading.proofs.recording.Recording.named.Goals as goal

pub returns-in-Some-as_str : goal.returns-in-Some-as_str
returns-in-Some-as_str c =
    let text : Some c.as_bytes.result.now ≡ as_str (view c.in-Some.value.now) = ap Some c.as_bytes.ensures.value ∙ c.in-Some-as_str.ensures in
    rw (c.in-Some.is, named_text c.args.self.now c.args.want (view c.in-Some.value.now) c.as_bytes.result.now text) c.numbered.ensures

pub returns-in-Some-as_u64 : goal.returns-in-Some-as_u64
returns-in-Some-as_u64 c =
    let digits = c.as_bytes-in-Some-as_u64.ensures.value ∙ c.format.ensures.text in
    rw (c.in-Some.is, named_number c.args.self.now c.args.want (view c.in-Some.value.now) c.in-Some-as_u64.number c.in_default-as_str.ensures c.in-Some-as_u64.ensures) (rw digits at c.numbered-in-Some-as_u64.ensures)
