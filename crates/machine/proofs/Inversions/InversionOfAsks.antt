-- For isolation_laws and command_semantics too.
-- What a crash and the asks of a session come to.
use Rattle.machine.proofs.Names.{AreOwnRequests, eqb-true, ◌≡◌, ◌≢◌, ℕ, ◌==◌, Bool, true, false, if◌then◌else◌, List}
use Rattle.machine.proofs.Names.{[], ◌∷◌, Option, Some, None, refl, ap, arith, slice_get, slice_set, All-cons}
use Rattle.machine.proofs.Names.{All-append, Cause, Session, ReadOnly, Item, SessionState, begin_refusal, work_refusal}
use Rattle.machine.proofs.Names.{Held, Request, Begin, Commit, InstanceEntry, in_flight, session_of, with_request}
use Rattle.machine.proofs.Names.{InstanceStep, stays, just_asked, Client, State, Effect, is_reading, client_freed, Step}
use Rattle.machine.proofs.Names.{step_by, with_post, with_client, loss_heard, loss_items, crashed_items}
use Rattle.machine.proofs.Names.{all_crashed_items, crash_on, asked_by, ask_begin_by, ask_begin_on, commit_of}
use Rattle.machine.proofs.Names.{ask_commit_by, ask_commit_on, InstanceAt, ClientAt, Quiet, AllQuiet, OfCrashed}
use Rattle.machine.proofs.Names.{OfAskedBegin, OfAskedCommit, OfEndedReadOnly, Mild}
use Rattle.machine.proofs.Dues.DueItems.{plain_due}
use Rattle.machine.proofs.Dues.OwnRefusals.{begin_own, work_own}
use Rattle.machine.proofs.Dues.LostRequests.{crash_due}
use Rattle.std.specs.Prelude.{Ok}
use Rattle.history_book.specs.declared.cause.Cause.TheVariants as cause
use Rattle.history_book.specs.declared.item.Item.TheVariants as item
use Rattle.system_parts.specs.declared.session.State.TheVariants as phase
use Rattle.machine.proofs.Lookups.{set_same}
use Rattle.machine.proofs.Inversions.InversionParts.{PlainDue, nothing_told, node_told, state_told, session_told, ComesTo, ComesBy, still_post, still_both}
use Rattle.machine.proofs.Outcome.PlainItems.{one_silent, mild_is}
use Rattle.machine.proofs.Inversions.InversionOfSessions.{work_open, work_mild, open_by_work}
use Rattle.machine.proofs.Outcome.QuietItems.{one_quiet, none_quiet, refusal_quiet}

-- ---- crash
abbrev pub for_clients : State → ℕ → Effect (Option InstanceEntry × List Client) → Step
for_clients w node effect = step_by effect (λ (p : Option InstanceEntry × List Client). record (with_post w node p.0) { clients = p.1 })

heard_quiet : (state : SessionState) (items : List Item) → AllQuiet items → AllQuiet (loss_heard state items)
heard_quiet phase.Gone items quiet = none_quiet
heard_quiet _ items quiet = quiet

loss_quiet : (node term : ℕ) (request : Request) (c : Client) → AllQuiet (loss_items node term request c)
loss_quiet node term (Begin session) c = heard_quiet c.entry.state _ (refusal_quiet (Session session) (cause.Crashed node term))
loss_quiet node term (Commit session start keys) c = heard_quiet c.entry.state _ (refusal_quiet (Session session) (cause.Open start))

crashed_quiet : (node term : ℕ) (held : Option Held) (c : Client) → AllQuiet (crashed_items node term held c)
crashed_quiet node term None c = none_quiet
crashed_quiet node term (Some held) c = loss_quiet node term held.request c

pub all_crashed_quiet : (node term : ℕ) (requests : List (Option Held)) (clients : List Client) → AllQuiet (all_crashed_items node term requests clients)
unfolding all_crashed_items
all_crashed_quiet node term [] clients = none_quiet
all_crashed_quiet node term (held ∷ others) [] = none_quiet
all_crashed_quiet node term (held ∷ others) (c ∷ clients) = All-append Quiet (crashed_items node term held c) (all_crashed_items node term others clients) (crashed_quiet node term held c) (all_crashed_quiet node term others clients)

pub crash_at : (w : State) (node : ℕ) (post : Option InstanceEntry) → AreOwnRequests w.nodes → slice_get w.nodes node ≡ Some post → ComesBy w (for_clients w node (crash_on node post w.clients))
crash_at w node None requests at = still_post w node w.seen None _ at (omega arith) (node_told w node (cause.NoOracle node) (refl, at))
crash_at w node (Some i) requests at = (
  OfCrashed (record {
    node = node;
    i = i;
    at = at;
    items = item.Crash node i.term ∷ all_crashed_items node i.term i.requests w.clients;
    tells = refl;
    quiet = All-cons Quiet (item.Crash node i.term) (all_crashed_items node i.term i.requests w.clients) refl (all_crashed_quiet node i.term i.requests w.clients);
  }),
  refl,
  refl,
  tt,
  crash_due w node i requests at,
)

-- ---- the asks of a session
abbrev pub for_ask : State → ℕ → ℕ → Effect (Client × Option InstanceEntry) → Step
for_ask w session node effect = step_by effect (λ (p : Client × Option InstanceEntry). with_client (with_post w node p.1) session p.0)

-- the ask of a request, by whether the slots are full
abbrev pub asked_if : InstanceEntry → Request → Bool → InstanceStep (Unit {0})
asked_if i request full = if full then stays i (cause.Full (in_flight i)) else record { left = with_request i (session_of request) (Some (just_asked request)); answer = Ok tt }

-- both were put back
ask_still : (w : State) (session node : ℕ) (post : Option InstanceEntry) (c : Client) (items : List Item) → slice_get w.nodes node ≡ Some post → ClientAt w.clients session c → PlainDue w items → ComesTo w (with_client (with_post w node post) session c) items
ask_still w session node post c items at client_at plain = still_both w node session w.seen post c items at client_at (omega arith) plain

begin_free : (state : SessionState) → begin_refusal state ≡ None → state ≡ phase.Free
begin_free phase.Free go = refl
begin_free _ go = absurd (cc)

begin_mild : (state : SessionState) → Mild (begin_refusal state)
begin_mild phase.Free = tt
begin_mild phase.Gone = refl
begin_mild _ = refl

begin_slots : (w : State) (session node : ℕ) (c : Client) (i : InstanceEntry) → InstanceAt w.nodes node i → ClientAt w.clients session c → c.entry.state ≡ phase.Free → (full : Bool) → (in_flight i == i.slots) ≡ full → ComesBy w (for_ask w session node (asked_by session c (item.AskBegin session node) (asked_if i (Begin session) full) (asked_if i (Begin session) full).answer))
begin_slots w session node c i at client_at free true full = ask_still w session node (Some i) c _ at client_at (session_told w session (cause.Full (in_flight i)) refl (record { node = node; i = i; at = at; held = refl; all = eqb-true (in_flight i) i.slots full }))
begin_slots w session node c i at client_at free false full = (OfAskedBegin (record { session = session; node = node; c = c; i = i; client_at = client_at; at = at; free = free }), refl, refl, tt, plain_due w _ (λ told. tt))

begin_comes : (w : State) (session node : ℕ) (c : Client) (post : Option InstanceEntry) → slice_get w.nodes node ≡ Some post → ClientAt w.clients session c → (why : Option Cause) → begin_refusal c.entry.state ≡ why → ComesBy w (for_ask w session node (ask_begin_by session node c post why))
begin_comes w session node c post at client_at (Some why) go = ask_still w session node post c _ at client_at (state_told w session c why client_at (mild_is (begin_refusal c.entry.state) why go (begin_mild c.entry.state)) (begin_own c.entry.state why go))
begin_comes w session node c None at client_at None go = ask_still w session node None c _ at client_at (session_told w session (cause.NoOracle node) refl at)
begin_comes w session node c (Some i) at client_at None go = begin_slots w session node c i at client_at (begin_free c.entry.state go) (in_flight i == i.slots) refl

pub ask_begin_at : (w : State) (session node : ℕ) (c : Client) (post : Option InstanceEntry) → slice_get w.nodes node ≡ Some post → ClientAt w.clients session c → ComesBy w (for_ask w session node (ask_begin_on session node c post))
ask_begin_at w session node c post at client_at = begin_comes w session node c post at client_at (begin_refusal c.entry.state) refl

commit_slots : (w : State) (session node start : ℕ) (c : Client) (i : InstanceEntry) → InstanceAt w.nodes node i → ClientAt w.clients session c → work_refusal c.entry.state (is_reading c) ≡ None → c.entry.start ≡ Some start → c.entry.keys ≢ [] → (full : Bool) → (in_flight i == i.slots) ≡ full → ComesBy w (for_ask w session node (asked_by session c (item.AskCommit session node start) (asked_if i (Commit session start c.entry.keys) full) (asked_if i (Commit session start c.entry.keys) full).answer))
commit_slots w session node start c i at client_at go begun written true full = ask_still w session node (Some i) c _ at client_at (session_told w session (cause.Full (in_flight i)) refl (record { node = node; i = i; at = at; held = refl; all = eqb-true (in_flight i) i.slots full }))
commit_slots w session node start c i at client_at go begun written false full = (
  OfAskedCommit (record {
    session = session;
    node = node;
    start = start;
    c = c;
    i = i;
    client_at = client_at;
    at = at;
    is_open = (work_open c.entry.state (is_reading c) go).0;
    idle = (work_open c.entry.state (is_reading c) go).1;
    start_is = begun;
    written = written;
    items = item.AskCommit session node start ∷ [];
    tells = refl;
    quiet = one_quiet (item.AskCommit session node start) refl;
  }),
  refl,
  refl,
  tt,
  plain_due w _ (λ told. tt),
)

commit_keys : (w : State) (session node start : ℕ) (c : Client) (post : Option InstanceEntry) → slice_get w.nodes node ≡ Some post → ClientAt w.clients session c → work_refusal c.entry.state (is_reading c) ≡ None → c.entry.start ≡ Some start → (keys : List ℕ) → c.entry.keys ≡ keys → ComesBy w (for_ask w session node (commit_of session node c start keys post))
commit_keys w session node start c post at client_at go begun [] none = (
  OfEndedReadOnly (record {
    it = open_by_work w session c client_at go;
    none = none;
    items = item.End session start ReadOnly ∷ [];
    quiet = one_quiet (item.End session start ReadOnly) refl;
    silent = one_silent (item.End session start ReadOnly) refl;
  }),
  ap (λ (nodes : List (Option InstanceEntry)). record w { nodes = nodes; clients = slice_set w.clients session (client_freed c) }) (set_same w.nodes node post at),
  refl,
  tt,
  plain_due w _ (λ told. tt),
)
commit_keys w session node start c None at client_at go begun (key ∷ keys) some = ask_still w session node None c _ at client_at (session_told w session (cause.NoOracle node) refl at)
commit_keys w session node start c (Some i) at client_at go begun (key ∷ keys) some = commit_slots w session node start c i at client_at go begun (λ none. cc) (in_flight i == i.slots) refl

commit_comes : (w : State) (session node : ℕ) (c : Client) (post : Option InstanceEntry) → slice_get w.nodes node ≡ Some post → ClientAt w.clients session c → (why : Option Cause) → work_refusal c.entry.state (is_reading c) ≡ why → (start : Option ℕ) → c.entry.start ≡ start → ComesBy w (for_ask w session node (ask_commit_by session node c post why start))
commit_comes w session node c post at client_at (Some why) go start begun = ask_still w session node post c _ at client_at (state_told w session c why client_at (mild_is (work_refusal c.entry.state (is_reading c)) why go (work_mild c.entry.state (is_reading c))) (work_own c.entry.state (is_reading c) why go))
commit_comes w session node c post at client_at None go None begun = ask_still w session node post c [] at client_at (nothing_told w)
commit_comes w session node c post at client_at None go (Some start) begun = commit_keys w session node start c post at client_at go begun c.entry.keys refl

pub ask_commit_at : (w : State) (session node : ℕ) (c : Client) (post : Option InstanceEntry) → slice_get w.nodes node ≡ Some post → ClientAt w.clients session c → ComesBy w (for_ask w session node (ask_commit_on session node c post))
ask_commit_at w session node c post at client_at = commit_comes w session node c post at client_at (work_refusal c.entry.state (is_reading c)) refl c.entry.start refl
