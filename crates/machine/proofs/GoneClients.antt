-- A client that has vanished stays so, whatever an event makes of it.
use Rattle.machine.proofs.Names.{[], ◌≡◌, ℕ, zero, suc, List, ◌∷◌, Option, Some, None, Result, Ok, Err, refl, sym, ◌∙◌}
use Rattle.machine.proofs.Names.{ap, subst, slice_get, slice_set, IfSome, option_or, same_Some, SetupNumbers, Fate, Row}
use Rattle.machine.proofs.Names.{Pairs, Cause, Phase, begin_refusal, work_refusal, step_refusal, vanish_refusal}
use Rattle.machine.proofs.Names.{key_refusal, Held, Decided, Reply, Request, Begin, Commit, InstanceEntry, held_of}
use Rattle.machine.proofs.Names.{stamps_at, instance_accept, instance_answer, Client, is_reading, after_refusal}
use Rattle.machine.proofs.Names.{unless_gone_by, unless_gone, crashed_client, crashed_clients, after_loss, crash_on}
use Rattle.machine.proofs.Names.{ask_begin_by, ask_begin_on, ask_commit_by, ask_commit_on, accept_by, accept_request}
use Rattle.machine.proofs.Names.{accept_on, decide_both, decide_by, decide_request, decide_on, answer_by}
use Rattle.machine.proofs.Names.{answer_request, answer_on, write_open, write_on, reads_refusal, fetch_open, fetch_on}
use Rattle.machine.proofs.Names.{step_made, step_on, offer_by, heal_at, heal_on, abort_by, abort_on, vanish_by}
use Rattle.machine.proofs.Names.{vanish_on}
use Rattle.history_book.specs.declared.cause.Cause.TheVariants as cause
use Rattle.system_parts.specs.declared.session.State.TheVariants.{Gone}
use Rattle.system_parts.specs.declared.instance.Reply.TheVariants as reply

abbrev pub IsGone : Client → Type 0
IsGone c = c.entry.state ≡ Gone

-- what becomes of a client keeps it as it is where it has vanished
abbrev pub StaysGone : Client → Client → Type 0
StaysGone old new = IsGone old → IsGone new

-- ---- lists of clients
abbrev pub GoneIn : List Client → ℕ → Type 0
GoneIn cs session = IfSome (slice_get cs session) (λ c. c.entry.state ≡ Gone)

gone_found : (found : Option Client) (c : Client) → found ≡ Some c → IsGone c → IfSome found (λ c. c.entry.state ≡ Gone)
gone_found None c is gone = absurd (cc)
gone_found (Some d) c is gone = ap (λ x. x.entry.state) (same_Some d c is) ∙ gone

pub gone_here : (cs : List Client) (session : ℕ) (c : Client) → slice_get cs session ≡ Some c → IsGone c → GoneIn cs session
gone_here cs session c is gone = gone_found (slice_get cs session) c is gone

pub gone_set : (cs : List Client) (at session : ℕ) (old new c : Client) → slice_get cs at ≡ Some old → StaysGone old new → slice_get cs session ≡ Some c → IsGone c → GoneIn (slice_set cs at new) session
gone_set [] at session old new c was stays is gone = absurd (cc)
gone_set (d ∷ ds) zero zero old new c was stays is gone = stays (ap (λ x. x.entry.state) (same_Some old c (sym was ∙ is)) ∙ gone)
gone_set (d ∷ ds) zero (suc session) old new c was stays is gone = gone_here ds session c is gone
gone_set (d ∷ ds) (suc at) zero old new c was stays is gone = gone_here (d ∷ ds) zero c is gone
gone_set (d ∷ ds) (suc at) (suc session) old new c was stays is gone = gone_set ds at session old new c was stays is gone

-- ---- an answer that nobody hears
unheard_by : (phase : Phase) (old new : Client) → old.entry.state ≡ phase → phase ≡ Gone → IsGone (unless_gone_by phase old new)
unheard_by Gone old new was gone = was
unheard_by _ old new was gone = absurd (cc)

unheard : (old new : Client) → StaysGone old (unless_gone old new)
unheard old new gone = unheard_by old.entry.state old new refl gone

refusal_unheard : (request : Request) (c : Client) → StaysGone c (after_refusal request c)
refusal_unheard (Begin session) c gone = unheard c _ gone
refusal_unheard (Commit session start keys) c gone = unheard c _ gone

loss_unheard : (request : Request) (c : Client) → StaysGone c (after_loss request c)
loss_unheard (Begin session) c gone = unheard c _ gone
loss_unheard (Commit session start keys) c gone = unheard c _ gone

-- ---- a crash
crash_unheard : (held : Option Held) (c : Client) → StaysGone c (crashed_client held c)
crash_unheard None c gone = gone
crash_unheard (Some held) c gone = loss_unheard held.request c gone

gone_crashed : (requests : List (Option Held)) (cs : List Client) (session : ℕ) (c : Client) → slice_get cs session ≡ Some c → IsGone c → GoneIn (crashed_clients requests cs) session
unfolding crashed_clients
gone_crashed [] cs session c is gone = gone_here cs session c is gone
gone_crashed (held ∷ others) [] session c is gone = absurd (cc)
gone_crashed (held ∷ others) (d ∷ ds) zero c is gone = crash_unheard held d (ap (λ x. x.entry.state) (same_Some d c is) ∙ gone)
gone_crashed (held ∷ others) (d ∷ ds) (suc session) c is gone = gone_crashed others ds session c is gone

pub crash_gone : (node : ℕ) (post : Option InstanceEntry) (cs : List Client) (session : ℕ) (c : Client) → slice_get cs session ≡ Some c → IsGone c → GoneIn (crash_on node post cs).parts.1 session
crash_gone node None cs session c is gone = gone_here cs session c is gone
crash_gone node (Some i) cs session c is gone = gone_crashed i.requests cs session c is gone

-- ---- the session's own events are refused
pub begin_gone : (session node : ℕ) (post : Option InstanceEntry) (c : Client) → StaysGone c (ask_begin_on session node c post).parts.0
begin_gone session node post c gone = subst (λ (p : Phase). IsGone (ask_begin_by session node c post (begin_refusal p)).parts.0) (sym gone) gone

pub commit_gone : (session node : ℕ) (post : Option InstanceEntry) (c : Client) → StaysGone c (ask_commit_on session node c post).parts.0
commit_gone session node post c gone =
    subst (λ (p : Phase). IsGone (ask_commit_by session node c post (work_refusal p (is_reading c)) c.entry.start).parts.0) (sym gone) gone

pub write_gone : (session key : ℕ) (value : List ℕ) (fate : Fate) (rows : List Row) (c : Client) → StaysGone c (write_on session key value fate c rows).parts.0
write_gone session key value fate rows c gone =
    subst (λ (p : Phase). IsGone (write_open session key value fate c rows (option_or (work_refusal p (is_reading c)) (key_refusal c.entry.keys key)) c.entry.start).parts.0) (sym gone) gone

pub fetch_gone : (setup : SetupNumbers) (session key : ℕ) (fate : Fate) (rows : List Row) (c : Client) → StaysGone c (fetch_on setup session key fate c rows).parts
fetch_gone setup session key fate rows c gone =
    subst (λ (p : Phase). IsGone (fetch_open setup session key fate c rows (option_or (work_refusal p (is_reading c)) (reads_refusal setup c key)) c.entry.start c.entry.epoch).parts) (sym gone) gone

pub step_gone : (session : ℕ) (fate : Fate) (rows : List Row) (pairs : Pairs) (c : Client) → StaysGone c (step_on session fate c rows pairs).parts.0
step_gone session fate rows pairs c gone =
    subst (λ (p : Phase). IsGone (step_made session fate c rows pairs (step_refusal p (is_reading c))).parts.0) (sym gone) gone

pub heal_gone : (session : ℕ) (fate : Fate) (rows : List Row) (pairs : Pairs) (c : Client) → StaysGone c (heal_on session fate c rows pairs).parts.0
heal_gone session fate rows pairs c gone =
    subst (λ (p : Phase). IsGone (heal_at session fate c rows pairs (offer_by p (is_reading c) c.heal)).parts.0) (sym gone) gone

pub abort_gone : (session : ℕ) (c : Client) → StaysGone c (abort_on session c).parts
abort_gone session c gone = subst (λ (p : Phase). IsGone (abort_by session c (work_refusal p (is_reading c)) c.entry.start).parts) (sym gone) gone

pub vanish_gone : (session : ℕ) (c : Client) → StaysGone c (vanish_on session c).parts
vanish_gone session c gone = subst (λ (p : Phase). IsGone (vanish_by session c (vanish_refusal p)).parts) (sym gone) gone

-- ---- a node's events serve its request
accept_by_gone : (node session reading : ℕ) (request : Request) (left : InstanceEntry) (c : Client) (answer : Result (Unit {0}) Cause) → StaysGone c (accept_by node session reading request left c answer).parts.1
accept_by_gone node session reading request left c (Ok tt) gone = gone
accept_by_gone node session reading request left c (Err (cause.NoRequest s)) gone = gone
accept_by_gone node session reading request left c (Err _) gone = refusal_unheard request c gone

accept_request_gone : (node session reading : ℕ) (i : InstanceEntry) (c : Client) (held : Option Held) → StaysGone c (accept_request node session reading i c held).parts.1
accept_request_gone node session reading i c None gone = gone
accept_request_gone node session reading i c (Some held) gone =
    accept_by_gone node session reading held.request (instance_accept i session reading).left c (instance_accept i session reading).answer gone

pub accept_gone : (node session reading : ℕ) (post : Option InstanceEntry) (c : Client) → StaysGone c (accept_on node session reading post c).parts.1
accept_gone node session reading None c gone = gone
accept_gone node session reading (Some i) c gone = accept_request_gone node session reading i c (held_of i session) gone

decide_by_gone : (node session : ℕ) (held : Held) (left : InstanceEntry) (c : Client) (answer : Result Decided Cause) → StaysGone c (decide_by node session held left c answer).parts.1
decide_by_gone node session held left c (Ok drawn) gone = gone
decide_by_gone node session held left c (Err (cause.NoRequest s)) gone = gone
decide_by_gone node session held left c (Err (cause.NoStamp last)) gone = gone
decide_by_gone node session held left c (Err _) gone = refusal_unheard held.request c gone

decide_request_gone : (node session : ℕ) (i : InstanceEntry) (c : Client) (held : Option Held) → StaysGone c (decide_request node session i c held).parts.1
decide_request_gone node session i c None gone = gone
decide_request_gone node session i c (Some held) gone = decide_by_gone node session held (decide_both i session c.reads).left c (decide_both i session c.reads).answer gone

pub decide_gone : (node session : ℕ) (post : Option InstanceEntry) (c : Client) → StaysGone c (decide_on node session post c).parts.1
decide_gone node session None c gone = gone
decide_gone node session (Some i) c gone = decide_request_gone node session i c (held_of i session) gone

answer_by_gone : (node session start : ℕ) (c : Client) (i left : InstanceEntry) (answer : Result Reply Cause) → StaysGone c (answer_by node session start c i left answer).parts.1
answer_by_gone node session start c i left (Ok (reply.Begun begun epoch)) gone = unheard c _ gone
answer_by_gone node session start c i left (Ok (reply.Committed commit)) gone = unheard c _ gone
answer_by_gone node session start c i left (Ok (reply.Handed commit)) gone = unheard c _ gone
answer_by_gone node session start c i left (Ok reply.Invalid) gone = unheard c _ gone
answer_by_gone node session start c i left (Ok reply.Open) gone = unheard c _ gone
answer_by_gone node session start c i left (Err (cause.NotYet commit)) gone = gone
answer_by_gone node session start c i left (Err _) gone = gone

answer_request_gone : (node session : ℕ) (i : InstanceEntry) (c : Client) (stamps : Option (ℕ × Option ℕ)) → StaysGone c (answer_request node session i c stamps).parts.1
answer_request_gone node session i c None gone = gone
answer_request_gone node session i c (Some stamps) gone =
    answer_by_gone node session stamps.0 c i (instance_answer i session).left (instance_answer i session).answer gone

pub answer_gone : (node session : ℕ) (post : Option InstanceEntry) (c : Client) → StaysGone c (answer_on node session post c).parts.1
answer_gone node session None c gone = gone
answer_gone node session (Some i) c gone = answer_request_gone node session i c (stamps_at i session) gone
