use Rattle.std.proofs.Common.{◌≡◌, [], ◌∷◌, ◌++◌, sym, ◌∙◌, arith}
use Rattle.std.proofs.lemmas.List.FromFn.{map-range_with_len_more}
use Rattle.stage_queues.specs.Passes.{StageAccount}
use Rattle.stage_queues.specs.Opening.{session_pass, session_passes}
use Rattle.stage_queues.proofs.opening.unreached.Goals as goal

pub loop-sender-preserved : goal.loop-sender-preserved
loop-sender-preserved c =
    let i = c.loop-sender._sender in
    let new : StageAccount = record { worker = 0; held = 0; nodes = c.in_ok-nodes.nodes.items } in
    let is : new ≡ session_pass [] i = λ k. record { worker = 0; held = 0; nodes = c.in_ok-nodes.ensures.items k } in
    let grown : c.loop-sender.sessions.items ++ new ∷ [] ≡ session_passes i [] ++ session_pass [] i ∷ [] = λ k. c.loop-sender.invariant k ++ is k ∷ [] in
    c.in_ok-push.ensures.items ∙ grown ∙ sym (map-range_with_len_more (session_pass []) 0 i i (omega arith))
