-- For turn_rules, log_refinement and grant_laws too.
-- Every event keeps the numbers of nodes and clients, and that an open transaction has an epoch.
use Rattle.command_semantics.proofs.Names.{◌≡◌, ℕ, zero, suc, ◌<◌, List, [], ◌∷◌, Some, None, refl}
use Rattle.command_semantics.proofs.Names.{arith, length, slice_get, replicate, SetupNumbers}
use Rattle.command_semantics.proofs.Names.{Fate, Event}
use Rattle.command_semantics.proofs.Names.{State, client_new, opening}
use Rattle.command_semantics.proofs.Names.{stepped}
use Rattle.command_semantics.proofs.Names.{of_post, of_both}
use Rattle.command_semantics.proofs.Names.{leaves_parts, posts_stay, clients_stay}
use Rattle.command_semantics.proofs.Fitting.{AllFit, fit_at, fit_set, ask_begin_fits, ask_commit_fits, accept_fits, decide_fits, answer_fits, crash_fits}
use Rattle.command_semantics.proofs.FittingSteps.{write_fits, fetch_fits, step_fits, heal_fits, abort_fits, vanish_fits}

-- ---- the whole state
pub record Fit (w : State) : Type 0 where
  pub nodes : length w.nodes ≡ w.setup.nodes
  pub clients : length w.clients ≡ 16
  pub epochs : AllFit w.clients

-- ---- each event that touches clients
-- ---- any event
pub fit_stays : (w : State) (e : Event) (fate : Fate) → Fit w → Fit (stepped w e fate).state
fit_stays w e fate fit =
    grind (arith, posts_stay, leaves_parts, clients_stay, of_post, ask_begin_fits, ask_commit_fits, accept_fits, decide_fits, answer_fits, write_fits, fetch_fits, step_fits, heal_fits, abort_fits, vanish_fits, crash_fits, of_both, fit_set, fit_at)

-- ---- at first
many_long : {X : Type 0} (n : ℕ) (x : X) → length (replicate n x) ≡ n
many_long zero x = refl
many_long (suc n) x = omega (arith, many_long n x)

all_new : (room n : ℕ) → AllFit (replicate n (client_new room))
unfolding AllFit
all_new room zero = tt
all_new room (suc n) = (tt, all_new room n)

pub fit_at_first : (setup : SetupNumbers) → Fit (opening setup)
fit_at_first setup = record { nodes = many_long setup.nodes None; clients = many_long 16 (client_new setup.cache); epochs = all_new setup.cache 16 }

-- ---- what is in range is there
pub found : {X : Type 0} (xs : List X) (p : ℕ) → p < length xs → (x : X) × (slice_get xs p ≡ Some x)
found [] p less = absurd (omega (arith, less))
found (x ∷ xs) zero less = (x, refl)
found (x ∷ xs) (suc p) less = found xs p (omega (arith, less))
