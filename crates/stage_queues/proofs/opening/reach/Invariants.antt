use Rattle.std.specs.Prelude.{◌≡◌, true, List, [], vec_len}
use Rattle.queue_passes.specs.Holds.{holds}
use Rattle.request_rule.specs.Accounts.{request_account}
use Rattle.stage_queues.specs.Plan.{NodeRings}
use Rattle.stage_queues.specs.Opening.{session_passes}
use Rattle.stage_queues.proofs.OpeningLemmas.{ReachBelow}
use Rattle.stage_queues.proofs.opening.reach.Given as goal

abbrev pub invariant-loop-i : goal.invariant-loop-i
invariant-loop-i l =
    (vec_len l.sessions ≡ vec_len l.fn.sessions) × (l.root ≡ holds l.queues.requests.id (request_account true l.i [] []))
    × ((rings : List NodeRings) → l.fn.sessions.items ≡ session_passes (vec_len l.fn.sessions) rings → ReachBelow l.i (vec_len l.fn.sessions) rings l.queues l.sessions.items)
