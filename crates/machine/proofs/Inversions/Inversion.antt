-- For isolation_laws too.
-- Each event of the machine comes to one outcome.
use Rattle.machine.proofs.Names.{◌≡◌, ℕ, ◌≤◌, max, [], Option, Some, refl, slice_get, Fate, InstanceEntry, Event}
use Rattle.machine.proofs.Names.{Client, State, Step, with_reading, at_post, at_client, at_both, stepped, reading_of}
use Rattle.machine.proofs.Names.{take_on, renew_on, extend_on, crash_on, ask_begin_on, ask_commit_on, accept_on}
use Rattle.machine.proofs.Names.{decide_on, put_on, answer_on, write_on, fetch_on, step_on, heal_on, abort_on}
use Rattle.machine.proofs.Names.{vanish_on, sweep_open_on, ClientAt, Fits, ComesAt}
use Rattle.history_book.specs.declared.item.Item.TheVariants as item
use Rattle.machine.specs.declared.event.Event.TheVariants as event
use Rattle.machine.proofs.LookedUp.{of_post, of_client, of_both}
use Rattle.machine.proofs.Inversions.InversionParts.{nothing_told, one_told, ComesTo, ComesBy, comes_at, rests, still_all}
use Rattle.machine.proofs.Inversions.InversionOfSessions.{for_client, for_cells, abort_at, vanish_at, write_at, heal_at_client}
use Rattle.machine.proofs.Inversions.InversionOfFetches.{fetch_at}
use Rattle.machine.proofs.Inversions.InversionOfRecord.{for_record, take_at, renew_at_post}
use Rattle.machine.proofs.Inversions.InversionOfExtensions.{extend_at_post}
use Rattle.machine.proofs.Inversions.InversionOfAsks.{for_clients, crash_at, for_ask, ask_begin_at, ask_commit_at}
use Rattle.machine.proofs.Inversions.InversionOfRequests.{AcceptsBy, for_request, accept_at, decide_at}
use Rattle.machine.proofs.Inversions.InversionOfAnswers.{for_table, put_at, answer_at}
use Rattle.machine.proofs.Inversions.InversionOfSteps.{for_stores}
use Rattle.machine.proofs.Inversions.InversionOfWork.{step_at_client}
use Rattle.machine.proofs.Inversions.InversionOfSweeps.{for_sweep, sweep_open_at_post, sweep_step_at}
use Rattle.machine.proofs.Orders.{max_left}

-- ---- what names no node or session does nothing
nothing_done : (w : State) (seen : ℕ) → w.seen ≤ seen → ComesTo w (record w { seen = seen }) []
nothing_done w seen up = rests w seen w.nodes (record w { seen = seen }) [] up refl (nothing_told w) refl

nothing_at_all : (w : State) → ComesTo w w []
nothing_at_all w = still_all w w [] (nothing_told w) refl

-- ---- the parts that an event looks up
at_node : (w left : State) (node : ℕ) (f : Option InstanceEntry → Step) → ComesTo w left [] → ((post : Option InstanceEntry) → slice_get w.nodes node ≡ Some post → ComesBy w (f post)) → ComesBy w (at_post left (slice_get w.nodes node) f)
at_node w left node f none each = of_post (ComesBy w) left f (slice_get w.nodes node) none each

at_session : (w : State) (session : ℕ) (f : Client → Step) → ((c : Client) → ClientAt w.clients session c → ComesBy w (f c)) → ComesBy w (at_client w (slice_get w.clients session) f)
at_session w session f each = of_client (ComesBy w) w f (slice_get w.clients session) (nothing_at_all w) each

at_pair : (w left : State) (node session : ℕ) (f : Option InstanceEntry → Client → Step) → ComesTo w left [] → ((post : Option InstanceEntry) (c : Client) → slice_get w.nodes node ≡ Some post → ClientAt w.clients session c → ComesBy w (f post c)) → ComesBy w (at_both left (slice_get w.nodes node) (slice_get w.clients session) f)
at_pair w left node session f none each = of_both (ComesBy w) left f (slice_get w.nodes node) (slice_get w.clients session) none each

-- ---- one event
pub comes_to : (w : State) (e : Event) (fate : Fate) → Fits w → ComesAt w (reading_of e) (stepped w e fate).state (stepped w e fate).items
comes_to w (event.Tick to) fate fits = still_all w w _ (one_told w (item.Tick to) (refl, refl) (λ told. tt)) refl
comes_to w (event.Note actor note) fate fits = still_all w w _ (one_told w (item.Note actor note) (refl, refl) (λ told. tt)) refl
comes_to w (event.Take node reading) fate fits = comes_at w (Some reading) _ _ (at_node w (with_reading w reading) node (λ post. for_record (with_reading w reading) node (take_on w.setup node reading fate post w.master)) (nothing_done w (max w.seen reading) (max_left w.seen reading)) (take_at w node reading fate))
comes_to w (event.Renew node reading) fate fits = comes_at w (Some reading) _ _ (at_node w (with_reading w reading) node (λ post. for_record (with_reading w reading) node (renew_on w.setup node reading fate post w.master)) (nothing_done w (max w.seen reading) (max_left w.seen reading)) (renew_at_post w node reading fate))
comes_to w (event.Extend node) fate fits = at_node w w node (λ post. for_record w node (extend_on w.setup node fate post w.master)) (nothing_at_all w) (extend_at_post w node fate)
comes_to w (event.Crash node) fate fits = at_node w w node (λ post. for_clients w node (crash_on node post w.clients)) (nothing_at_all w) (λ post at. crash_at w node post fits.own at)
comes_to w (event.AskBegin session node) fate fits = at_pair w w node session (λ post c. for_ask w session node (ask_begin_on session node c post)) (nothing_at_all w) (λ post c at client_at. ask_begin_at w session node c post at client_at)
comes_to w (event.AskCommit session node) fate fits = at_pair w w node session (λ post c. for_ask w session node (ask_commit_on session node c post)) (nothing_at_all w) (λ post c at client_at. ask_commit_at w session node c post at client_at)
comes_to w (event.Accept node session reading) fate fits = of_both (AcceptsBy w reading) (with_reading w reading) (λ post c. for_request (with_reading w reading) node session (accept_on node session reading post c)) (slice_get w.nodes node) (slice_get w.clients session) (comes_at w (Some reading) _ _ (nothing_done w (max w.seen reading) (max_left w.seen reading))) (λ post c at client_at. accept_at w node session reading post c at client_at)
comes_to w (event.Decide node session) fate fits = at_pair w w node session (λ post c. for_request w node session (decide_on node session post c)) (nothing_at_all w) (λ post c at client_at. decide_at w node session post c fits.stops at client_at)
comes_to w (event.Put node session) fate fits = at_node w w node (λ post. for_table w node (put_on node session fate post w.pairs)) (nothing_at_all w) (put_at w node session fate)
comes_to w (event.Answer node session) fate fits = at_pair w w node session (λ post c. for_request w node session (answer_on node session post c)) (nothing_at_all w) (λ post c at client_at. answer_at w node session post c at client_at)
comes_to w (event.Write session key value) fate fits = at_session w session (λ c. for_cells w session (write_on session key value fate c w.rows)) (λ c at. write_at w session key value fate c at)
comes_to w (event.Fetch session key) fate fits = at_session w session (λ c. for_client w session (fetch_on w.setup session key fate c w.rows)) (λ c at. fetch_at w session key fate c at)
comes_to w (event.Step session) fate fits = at_session w session (λ c. for_stores w session (step_on session fate c w.rows w.pairs)) (λ c at. step_at_client w session fate c fits.steps at)
comes_to w (event.Heal session) fate fits = at_session w session (λ c. for_cells w session (heal_on session fate c w.rows w.pairs)) (λ c at. heal_at_client w session fate c at)
comes_to w (event.Abort session) fate fits = at_session w session (λ c. for_client w session (abort_on session c)) (λ c at. abort_at w session c at)
comes_to w (event.Vanish session) fate fits = at_session w session (λ c. for_client w session (vanish_on session c)) (λ c at. vanish_at w session c at)
comes_to w (event.SweepOpen node txn) fate fits = at_node w w node (λ post. for_sweep w (sweep_open_on node txn post w.sweep)) (nothing_at_all w) (λ post at. sweep_open_at_post w node txn post at)
comes_to w event.SweepStep fate fits = sweep_step_at w fate fits.sweeps
