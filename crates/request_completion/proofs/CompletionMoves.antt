-- What its own step makes of a client whose completion is under way.
use Rattle.std.proofs.Common.{arith}
use Rattle.request_completion.proofs.Names.{◌≡◌, ℕ, List, inl, inr, refl}
use Rattle.request_completion.proofs.Names.{slice_set, ◌∈◌, in_back}
use Rattle.request_completion.proofs.Names.{Client}
use Rattle.request_completion.proofs.Names.{ClientAt, client_set, StepsMoveCompletions}
use Rattle.request_completion.proofs.IdleSteps.{completing_effect}

-- the one client that is set
set_is : (clients : List Client) (s : ℕ) (new d : Client) → ClientAt (slice_set clients s new) s d → d ≡ new
set_is clients s new d there = elim (client_set clients s s new d there) [ inl here ↦ here.1 | inr other ↦ absurd (other.0 refl) ]

pub steps_move_completions : StepsMoveCompletions
unfolding ◌∈◌
steps_move_completions w s fate c d undo asked asks at completing under_way there =
    grind (arith, completing_effect, set_is, in_back)
