use Rattle.std.proofs.Common.{refl, sym, ◌∙◌}
use Rattle.std.proofs.lemmas.Str.{is_utf8-from_IsUtf8}
use Rattle.std.proofs.lemmas.Bool.{true≢false}
use Rattle.trace_reading.proofs.JsonLemmas.{nothing_read}
use Rattle.trace_reading.proofs.trace.read_json.Goals as goal

pub returns-in-Ok : goal.returns-in-Ok
returns-in-Ok c = let read = c.in-Ok.ensures.ok in rw (is_utf8-from_IsUtf8 _ read.0) read.1

pub returns-in-Err-2 : goal.returns-in-Err-2
returns-in-Err-2 c = (nothing_read c.args.bytes.now (c.in-Err.ensures.err (λ memory. absurd (true≢false (sym (c.is_memory.ensures.1 memory) ∙ c.if-is_memory.false)))), refl)
