-- For isolation_laws too.
-- The reading at which a request was accepted, and the one that the event handed in.
use Rattle.machine.proofs.Names.{ℕ, Option, None, subst, State, IsSteadyAt, Outcome, OfAccepted, IsTimely, AcceptsAt}

pub steadily : (w : State) (handed : Option ℕ) (o : Outcome w) → AcceptsAt handed o → IsSteadyAt w.setup.skew w.seen handed → IsTimely w o
steadily w handed (OfAccepted k) at steady = (subst (λ (r : Option ℕ). IsSteadyAt w.setup.skew w.seen r) at steady).1
steadily w handed _ at steady = tt

-- what accepts nothing may have been handed any reading
pub whatever_handed : {w : State} (handed : Option ℕ) (o : Outcome w) → AcceptsAt None o → AcceptsAt handed o
whatever_handed handed (OfAccepted k) none = absurd (cc)
whatever_handed handed _ none = tt
