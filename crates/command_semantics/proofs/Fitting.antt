-- For grant_laws too.
-- Every event keeps the numbers of nodes and of clients, and that an open transaction has an epoch.
use Rattle.std.proofs.Common.{arith}
use Rattle.command_semantics.proofs.Names.{◌≡◌, ℕ, zero, suc, List, [], ◌∷◌, Option, Some, None, Result, subst}
use Rattle.command_semantics.proofs.Names.{slice_get, slice_set, same_Some, none-some, Cause, SessionState}
use Rattle.command_semantics.proofs.Names.{Decided}
use Rattle.command_semantics.proofs.Names.{Held, InstanceEntry}
use Rattle.command_semantics.proofs.Names.{Client}
use Rattle.command_semantics.proofs.Names.{client_aborted}
use Rattle.command_semantics.proofs.Names.{ask_begin_on}
use Rattle.command_semantics.proofs.Names.{ask_commit_on, accept_on, decide_by}
use Rattle.command_semantics.proofs.Names.{decide_request, decide_on, answer_on}
use Rattle.command_semantics.proofs.Names.{crashed_client, crashed_clients}
use Rattle.system_parts.specs.declared.session.State.TheVariants as phase

-- an open transaction has an epoch
abbrev pub EpochFits : SessionState → Option ℕ → Type 0
EpochFits phase.Open None = ⊥
EpochFits state epoch = Unit {0}

abbrev pub ClientFits : Client → Type 0
ClientFits c = EpochFits c.entry.state c.entry.epoch

unfoldable pub AllFit : List Client → Type 0
AllFit [] = Unit {0}
AllFit (c ∷ cs) = ClientFits c × AllFit cs

pub fit_at : (cs : List Client) (s : ℕ) (c : Client) → AllFit cs → slice_get cs s ≡ Some c → ClientFits c
unfolding AllFit
fit_at [] s c fit at = absurd (none-some c at)
fit_at (d ∷ ds) zero c fit at = subst (λ (x : Client). ClientFits x) (same_Some d c at) fit.0
fit_at (d ∷ ds) (suc s) c fit at = fit_at ds s c fit.1 at

pub fit_set : (cs : List Client) (s : ℕ) (c : Client) → AllFit cs → ClientFits c → AllFit (slice_set cs s c)
unfolding AllFit
fit_set [] s c fit now = tt
fit_set (d ∷ ds) zero c fit now = (now, fit.1)
fit_set (d ∷ ds) (suc s) c fit now = (fit.0, fit_set ds s c fit.1 now)

-- ---- clients as they change
pub aborted_fits : (c : Client) → ClientFits (client_aborted c)
aborted_fits c = grind arith

-- ---- asks
pub ask_begin_fits : (s node : ℕ) (c : Client) (post : Option InstanceEntry) → ClientFits c → ClientFits (ask_begin_on s node c post).parts.0
ask_begin_fits s node c post fit = grind arith

pub ask_commit_fits : (s node : ℕ) (c : Client) (post : Option InstanceEntry) → ClientFits c → ClientFits (ask_commit_on s node c post).parts.0
ask_commit_fits s node c post fit = grind arith

-- ---- requests that are served
pub accept_fits : (node s reading : ℕ) (post : Option InstanceEntry) (c : Client) → ClientFits c → ClientFits (accept_on node s reading post c).parts.1
accept_fits node s reading post c fit = grind (arith, aborted_fits)

decide_fits_by : (node s : ℕ) (held : Held) (left : InstanceEntry) (c : Client) (answer : Result Decided Cause) → ClientFits c → ClientFits (decide_by node s held left c answer).parts.1
decide_fits_by node s held left c answer fit = grind (arith, aborted_fits)

decide_fits_held : (node s : ℕ) (i : InstanceEntry) (c : Client) (held : Option Held) → ClientFits c → ClientFits (decide_request node s i c held).parts.1
decide_fits_held node s i c held fit = grind (arith, decide_fits_by)

pub decide_fits : (node s : ℕ) (post : Option InstanceEntry) (c : Client) → ClientFits c → ClientFits (decide_on node s post c).parts.1
decide_fits node s post c fit = grind (arith, decide_fits_held)

pub answer_fits : (node s : ℕ) (post : Option InstanceEntry) (c : Client) → ClientFits c → ClientFits (answer_on node s post c).parts.1
answer_fits node s post c fit = grind (arith, aborted_fits)

-- ---- a crash
crashed_fits : (held : Option Held) (c : Client) → ClientFits c → ClientFits (crashed_client held c)
crashed_fits held c fit = grind arith

pub crash_fits : (requests : List (Option Held)) (cs : List Client) → AllFit cs → AllFit (crashed_clients requests cs)
unfolding AllFit crashed_clients
crash_fits [] cs fit = fit
crash_fits (held ∷ others) [] fit = tt
crash_fits (held ∷ others) (c ∷ cs) fit = (crashed_fits held c fit.0, crash_fits others cs fit.1)
