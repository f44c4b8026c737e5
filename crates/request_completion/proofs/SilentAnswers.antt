-- An answer appends something, unless it repeats to a request that it has to wait.
use Rattle.std.proofs.Common.{arith}
use Rattle.request_completion.proofs.Names.{◌≡◌, ℕ, [], Option, Some, sym, ◌∙◌, ap}
use Rattle.request_completion.proofs.Names.{slice_get, InstanceEntry}
use Rattle.request_completion.proofs.Names.{Client, Step, stepped}
use Rattle.request_completion.proofs.Names.{at_both, step_by, with_client, with_post}
use Rattle.request_completion.proofs.Names.{answer_on, WasTold, SilentAnswersRepeat}
use Rattle.machine.specs.declared.event.Event.TheVariants as event

-- what is told once was told
by_post : (node s : ℕ) (post : Option InstanceEntry) (c : Client) → (answer_on node s post c).items ≡ [] → WasTold post s
by_post node s post c none = grind arith

pub silent_answers_repeat : SilentAnswersRepeat
silent_answers_repeat w n s fate post c here client_at none =
    let f : Option InstanceEntry → Client → Step = λ found d. step_by (answer_on n s found d) (λ p. with_client (with_post w n p.0) s p.1) in
    let is : (stepped w (event.Answer n s) fate).items ≡ (answer_on n s post c).items = ap (λ (found : Option (Option InstanceEntry)). (at_both w found (slice_get w.clients s) f).items) here ∙ ap (λ (found : Option Client). (at_both w (Some post) found f).items) client_at in
    by_post n s post c (sym is ∙ none)
