use Rattle.std.specs.Prelude.{◌≡◌, None}
use Rattle.reply_pipeline.proofs.request.serve_ticket.Given as goal

abbrev pub invariant-loop : goal.invariant-loop
invariant-loop g l = (l.loose.entry ≡ None) × (l.taken ≡ l.fn.taken)
