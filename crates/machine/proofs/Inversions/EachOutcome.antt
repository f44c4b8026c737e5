-- For isolation_laws, and through it for cause_laws, request_completion and grant_laws.
-- What each outcome makes so, each event makes so: a table over outcomes names those that matter, and has a catch-all for the others.
use Rattle.machine.proofs.Names.{List, sym, subst, Fate, Item, Event, State, stepped, Fits, Outcome, left_by}
use Rattle.machine.proofs.Names.{told_by_outcome}
use Rattle.machine.proofs.Inversions.Inversion.{comes_to}

pub each_outcome : (P : State → List Item → Type 0) (w : State) (e : Event) (fate : Fate) → Fits w → ((o : Outcome w) → P (left_by w o) (told_by_outcome w o)) → P (stepped w e fate).state (stepped w e fate).items
each_outcome P w e fate fits each =
    let (o, state, told, at, due) = comes_to w e fate fits in
    subst (λ (v : State). P v (stepped w e fate).items) (sym state) (subst (λ (xs : List Item). P (left_by w o) xs) (sym told) (each o))
