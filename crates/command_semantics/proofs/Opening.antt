-- The first event of a session's line lowers what is left.
use Rattle.std.proofs.lemmas.Grind.{common_steps}
use Rattle.command_semantics.proofs.Names.{◌≡◌, ℕ, ◌+◌, ◌*◌, ◌<◌, ◌≤◌, List, Option, Some}
use Rattle.command_semantics.proofs.Names.{None, refl, arith, slice_get, slice_set, SetupNumbers}
use Rattle.command_semantics.proofs.Names.{Fate, Cause, Row}
use Rattle.command_semantics.proofs.Names.{RecalledReadsEnd, work_refusal, Place}
use Rattle.command_semantics.proofs.Names.{InstanceEntry, Client, State, Effect}
use Rattle.command_semantics.proofs.Names.{is_reading, Step, step_by, with_post, with_client, at_client, at_both}
use Rattle.command_semantics.proofs.Names.{stepped, ask_begin_on}
use Rattle.command_semantics.proofs.Names.{ask_commit_on, write_refused, write_open, write_on, abort_by}
use Rattle.command_semantics.proofs.Names.{abort_on, fetch_refused}
use Rattle.command_semantics.proofs.Names.{fetch_open, fetch_on, Verb, Interruption}
use Rattle.command_semantics.proofs.Names.{Point, Drives, Finishes, Reads, halt_of}
use Rattle.command_semantics.proofs.Names.{unless_halted, after_write, cells_by, of_client, client_completes}
use Rattle.command_semantics.proofs.Names.{client_ends, client_reads, client_fetches}
use Rattle.command_semantics.proofs.Names.{drive_left_by, session_left}
use Rattle.machine.specs.declared.event.Event.TheVariants as event
use Rattle.command_semantics.proofs.Clients.{client_now, settles_within, client_left, no_client_left, aborted_left, added_long}

-- a run that stopped has nothing left
pub halted_less : (w : State) (s : ℕ) (verb : Verb) (at : Point) (halt : Option Interruption) (bound : ℕ) → session_left w s verb at < bound → session_left w s verb (unless_halted at halt) < bound
halted_less w s verb at halt bound less = grind arith

-- ---- asks
-- what is left to drive at most
drive_most_by : (w : State) (c : Option Client) (request : Option (ℕ × Place)) → drive_left_by w c request ≤ 6 + of_client c client_ends
drive_most_by w c request = grind (arith, settles_within)

-- an ask leaves the client's keys, and no completion
begin_most : (s node : ℕ) (c : Client) (post : Option InstanceEntry) → client_ends (ask_begin_on s node c post).parts.0 ≤ client_ends c
begin_most s node c post = grind arith

commit_most : (s node : ℕ) (c : Client) (post : Option InstanceEntry) → client_ends (ask_commit_on s node c post).parts.0 ≤ client_ends c
commit_most s node c post = grind arith

-- the step as an effect on the client and the node
abbrev ask_step : State → ℕ → ℕ → (Client → Option InstanceEntry → Effect (Client × Option InstanceEntry)) → Option InstanceEntry → Client → Step
ask_step w s node f post c = step_by (f c post) (λ (p : Client × Option InstanceEntry). with_client (with_post w node p.1) s p.0)

ask_ends : (w : State) (s node : ℕ) (f : Client → Option InstanceEntry → Effect (Client × Option InstanceEntry)) → ((c : Client) (post : Option InstanceEntry) → client_ends (f c post).parts.0 ≤ client_ends c) → (post : Option (Option InstanceEntry)) (found : Option Client) → slice_get w.clients s ≡ found → of_client (slice_get (at_both w post found (ask_step w s node f)).state.clients s) client_ends ≤ of_client found client_ends
ask_ends w s node f most post found is = grind (arith, client_now)

-- a request that was asked is driven
ask_lowers : (w : State) (s node : ℕ) (verb : Verb) (f : Client → Option InstanceEntry → Effect (Client × Option InstanceEntry)) → ((c : Client) (post : Option InstanceEntry) → client_ends (f c post).parts.0 ≤ client_ends c) → let step : Step = at_both w (slice_get w.nodes node) (slice_get w.clients s) (ask_step w s node f) in session_left step.state s verb (unless_halted Drives (halt_of step.stop)) < 8 + of_client (slice_get w.clients s) client_ends
ask_lowers w s node verb f most = grind (arith, ask_ends, drive_most_by, halted_less)

pub begin_lowers : (w : State) (s node : ℕ) (verb : Verb) (fate : Fate) → let step : Step = stepped w (event.AskBegin s node) fate in session_left step.state s verb (unless_halted Drives (halt_of step.stop)) < 8 + of_client (slice_get w.clients s) client_ends
begin_lowers w s node verb fate = ask_lowers w s node verb (ask_begin_on s node) (begin_most s node)

pub commit_lowers : (w : State) (s node : ℕ) (verb : Verb) (fate : Fate) → let step : Step = stepped w (event.AskCommit s node) fate in session_left step.state s verb (unless_halted Drives (halt_of step.stop)) < 8 + of_client (slice_get w.clients s) client_ends
commit_lowers w s node verb fate = ask_lowers w s node verb (ask_commit_on s node) (commit_most s node)

-- ---- events on a client
-- a number of the client after the event is at most one of the client before it
client_most : (w : State) (s : ℕ) (f : Client → Step) (make : Client → Client) (g m : Client → ℕ) → ((c : Client) → (f c).state.clients ≡ slice_set w.clients s (make c)) → ((c : Client) → g (make c) ≤ m c) → (found : Option Client) → slice_get w.clients s ≡ found → of_client (slice_get (at_client w (slice_get w.clients s) f).state.clients s) g ≤ of_client found m
client_most w s f make g m sets most found is = grind (arith, no_client_left, client_left)

-- ---- a write
wrote_by : (s key start : ℕ) (value : List ℕ) (fate : Fate) (c : Client) (rows : List Row) → client_completes (write_open s key value fate c rows None (Some start)).parts.0 ≤ 1 + client_ends c
wrote_by s key start value fate c rows = grind (arith, common_steps, aborted_left, added_long)

wrote_most : (s key : ℕ) (value : List ℕ) (fate : Fate) (c : Client) (rows : List Row) (why : Option Cause) (start : Option ℕ) → client_completes (write_open s key value fate c rows why start).parts.0 ≤ 1 + client_ends c
wrote_most s key value fate c rows why start = grind (arith, wrote_by)

write_less : (w : State) (s : ℕ) (verb : Verb) (halt : Option Interruption) → session_left w s verb (after_write halt) ≤ of_client (slice_get w.clients s) client_completes
write_less w s verb halt = grind arith

one_more : (found : Option Client) → of_client found (λ (c : Client). 1 + client_ends c) ≤ 1 + of_client found client_ends
one_more None = omega arith
one_more (Some c) = omega arith

pub write_lowers : (w : State) (s key : ℕ) (value : List ℕ) (verb : Verb) (fate : Fate) → let step : Step = stepped w (event.Write s key value) fate in session_left step.state s verb (after_write (halt_of step.stop)) < 2 + of_client (slice_get w.clients s) client_ends
write_lowers w s key value verb fate =
    let step : Step = stepped w (event.Write s key value) fate in
    let most : of_client (slice_get step.state.clients s) client_completes ≤ of_client (slice_get w.clients s) (λ (c : Client). 1 + client_ends c) = client_most w s (λ (c : Client). step_by (write_on s key value fate c w.rows) (λ (p : Client × List Row). record (with_client w s p.0) { rows = p.1 })) (λ (c : Client). (write_on s key value fate c w.rows).parts.0) client_completes (λ (c : Client). 1 + client_ends c) (λ c. refl) (λ c. wrote_most s key value fate c w.rows (write_refused c key) c.entry.start) (slice_get w.clients s) refl in
    omega (arith, most, one_more (slice_get w.clients s), write_less step.state s verb (halt_of step.stop))

-- ---- an abort
aborted_most : (s : ℕ) (c : Client) (why : Option Cause) (start : Option ℕ) → client_completes (abort_by s c why start).parts ≤ client_ends c
aborted_most s c why start = grind (arith, aborted_left)

pub abort_lowers : (w : State) (s : ℕ) (verb : Verb) (fate : Fate) → let step : Step = stepped w (event.Abort s) fate in session_left step.state s verb (unless_halted Finishes (halt_of step.stop)) < 1 + of_client (slice_get w.clients s) client_ends
abort_lowers w s verb fate =
    let step : Step = stepped w (event.Abort s) fate in
    let most : of_client (slice_get step.state.clients s) client_completes ≤ of_client (slice_get w.clients s) client_ends = client_most w s (λ (c : Client). step_by (abort_on s c) (λ (p : Client). with_client w s p)) (λ (c : Client). (abort_on s c).parts) client_completes client_ends (λ c. refl) (λ c. aborted_most s c (work_refusal c.entry.state (is_reading c)) c.entry.start) (slice_get w.clients s) refl in
    halted_less step.state s verb Finishes (halt_of step.stop) (1 + of_client (slice_get w.clients s) client_ends) (omega (arith, most))

-- ---- a fetch
fetched_most : (ends : RecalledReadsEnd) (setup : SetupNumbers) (s key : ℕ) (fate : Fate) (c : Client) (rows : List Row) (why : Option Cause) (start epoch : Option ℕ) → client_reads (fetch_open setup s key fate c rows why start epoch).parts ≤ 3 * cells_by rows key start + client_reads c
fetched_most ends setup s key fate c rows why start epoch = grind arith

pub fetch_lowers : (ends : RecalledReadsEnd) (w : State) (s key : ℕ) (verb : Verb) (fate : Fate) → let step : Step = stepped w (event.Fetch s key) fate in session_left step.state s verb (unless_halted Reads (halt_of step.stop)) < 1 + of_client (slice_get w.clients s) (client_fetches w.rows key)
fetch_lowers ends w s key verb fate =
    let step : Step = stepped w (event.Fetch s key) fate in
    let most : of_client (slice_get step.state.clients s) client_reads ≤ of_client (slice_get w.clients s) (client_fetches w.rows key) = client_most w s (λ (c : Client). step_by (fetch_on w.setup s key fate c w.rows) (λ (p : Client). with_client w s p)) (λ (c : Client). (fetch_on w.setup s key fate c w.rows).parts) client_reads (client_fetches w.rows key) (λ c. refl) (λ c. fetched_most ends w.setup s key fate c w.rows (fetch_refused w.setup c key) c.entry.start c.entry.epoch) (slice_get w.clients s) refl in
    halted_less step.state s verb Reads (halt_of step.stop) (1 + of_client (slice_get w.clients s) (client_fetches w.rows key)) (omega (arith, most))
