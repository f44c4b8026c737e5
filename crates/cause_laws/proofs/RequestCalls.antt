-- For cluster_core too.
-- What asks, the calls of a node on its requests, and its crash need follows from whom requests wait for.
use Rattle.cause_laws.proofs.Names.{◌≡◌, ℕ, List, Option, Some, None, ◌⊎◌, inl, inr, refl, sym, ap, subst, same_Some}
use Rattle.cause_laws.proofs.Names.{none-some, Item, SessionState, begin_refusal, Held, Progress, Request, Begin}
use Rattle.cause_laws.proofs.Names.{Commit, InstanceEntry, held_of, Client, State, is_reading, Waits, ServesFor}
use Rattle.cause_laws.proofs.Names.{WaitsAt, HoldsNone, InstanceAt, ClientAt, HasRecord, WaitsFor, IsolationInvariant}
use Rattle.cause_laws.proofs.Names.{held_by, one_client, in_flight_of, drawn_pending, pending_unplaced, work_open}
use Rattle.cause_laws.proofs.Names.{ExplainedInvariant, PostAt, BeginMayBeAsked, CommitMayBeAsked, RequestsAreWaitedFor}
use Rattle.cause_laws.proofs.Names.{PutMayBeMade}
use Rattle.system_parts.specs.declared.session.State.TheVariants as phase
use Rattle.system_parts.specs.declared.instance.Progress.TheVariants as progress
use Rattle.machine.specs.Events.Put.{to_place, to_place_by}
use Rattle.machine.specs.Outcome.Outcomes.{AtDrawn}

-- ---- who waits
-- the session of a request that is held
held_waits : (w : State) (h : List Item) (session node : ℕ) (c : Client) (i : InstanceEntry) (held : Held) → IsolationInvariant w h → ClientAt w.clients session c → InstanceAt w.nodes node i → held_of i session ≡ Some held → WaitsFor held.request c
held_waits w h session node c i held holds client_at at has =
    let waiting = holds.requests.requests.waits node session i held.request held.progress at (held_by i session held has) in
    subst (λ (d : Client). WaitsFor held.request d) (one_client w.clients session waiting.0 c waiting.1 client_at) waiting.2

-- it has vanished, or waits for a start or a commit
waits_in : (request : Request) (c : Client) → WaitsFor request c → (c.entry.state ≡ phase.Gone) ⊎ ((c.entry.state ≡ phase.Asking) ⊎ (c.entry.state ≡ phase.Committing))
waits_in (Begin session) c (inl gone) = inl gone
waits_in (Begin session) c (inr asks) = inr (inl asks)
waits_in (Commit session start keys) c (inl gone) = inl gone
waits_in (Commit session start keys) c (inr commits) = inr (inr commits.0)

-- ---- asks
-- a session in this state waits for nothing
record IsIdle (state : SessionState) : Type 0 where
  pub here : state ≡ phase.Gone → ⊥
  pub asks_none : state ≡ phase.Asking → ⊥
  pub commits_none : state ≡ phase.Committing → ⊥

free_idle : (state : SessionState) → begin_refusal state ≡ None → IsIdle state
free_idle phase.Free go = record { here = λ is. cc; asks_none = λ is. cc; commits_none = λ is. cc }
free_idle _ go = absurd (cc)

open_idle : IsIdle phase.Open
open_idle = record { here = λ is. cc; asks_none = λ is. cc; commits_none = λ is. cc }

not_waiting : (state : SessionState) → IsIdle state → (state ≡ phase.Gone) ⊎ ((state ≡ phase.Asking) ⊎ (state ≡ phase.Committing)) → ⊥
not_waiting state idle (inl gone) = idle.here gone
not_waiting state idle (inr (inl asks)) = idle.asks_none asks
not_waiting state idle (inr (inr commits)) = idle.commits_none commits

none_held : (w : State) (h : List Item) (session node : ℕ) (c : Client) (i : InstanceEntry) → IsolationInvariant w h → ClientAt w.clients session c → InstanceAt w.nodes node i → IsIdle c.entry.state → (found : Option Held) → held_of i session ≡ found → found ≡ None
none_held w h session node c i holds client_at at idle None is = refl
none_held w h session node c i holds client_at at idle (Some held) is =
    absurd (not_waiting c.entry.state idle (waits_in held.request c (held_waits w h session node c i held holds client_at at is)))

holds_none : (w : State) (h : List Item) (session node : ℕ) (c : Client) (post : Option InstanceEntry) → IsolationInvariant w h → ClientAt w.clients session c → PostAt w node post → IsIdle c.entry.state → HoldsNone post session
holds_none w h session node c None holds client_at at idle = tt
holds_none w h session node c (Some i) holds client_at at idle = none_held w h session node c i holds client_at at idle (held_of i session) refl

pub begins_ask : (w : State) (h : List Item) → ExplainedInvariant w h → BeginMayBeAsked w
begins_ask w h tells session node c post client_at at go = holds_none w h session node c post tells.stands.holds client_at at (free_idle c.entry.state go)

pub commits_ask : (w : State) (h : List Item) → ExplainedInvariant w h → CommitMayBeAsked w
commits_ask w h tells session node c post client_at at go =
    holds_none w h session node c post tells.stands.holds client_at at (subst IsIdle (sym (work_open c.entry.state (is_reading c) go).0) open_idle)

-- ---- a node's calls
waits_unless : (request : Request) (c : Client) → WaitsFor request c → Waits request c.entry
waits_unless (Begin session) c (inl gone) = λ stays. absurd (stays gone)
waits_unless (Begin session) c (inr asks) = λ stays. asks
waits_unless (Commit session start keys) c (inl gone) = λ stays. absurd (stays gone)
waits_unless (Commit session start keys) c (inr commits) = λ stays. commits.0

serves_found : (w : State) (h : List Item) (session node : ℕ) (c : Client) (i : InstanceEntry) → IsolationInvariant w h → ClientAt w.clients session c → InstanceAt w.nodes node i → (found : Option Held) → held_of i session ≡ found → ServesFor found c.entry
serves_found w h session node c i holds client_at at None is = tt
serves_found w h session node c i holds client_at at (Some held) is = waits_unless held.request c (held_waits w h session node c i held holds client_at at is)

waits_at : (w : State) (h : List Item) (session node : ℕ) (c : Client) (post : Option InstanceEntry) → IsolationInvariant w h → ClientAt w.clients session c → PostAt w node post → WaitsAt post session c.entry
waits_at w h session node c None holds client_at at = tt
waits_at w h session node c (Some i) holds client_at at = serves_found w h session node c i holds client_at at (held_of i session) refl

pub requests_wait : (w : State) (h : List Item) → ExplainedInvariant w h → RequestsAreWaitedFor w
requests_wait w h tells node post at session c client_at = waits_at w h session node c post tells.stands.holds client_at at

-- ---- the put
-- a commit that is to be placed is held as drawn
record IsDrawn (start commit : ℕ) (request : Request) (p : Progress) : Type 0 where
  pub asker : ℕ
  pub keys : List ℕ
  pub request_is : request ≡ Commit asker start keys
  pub drawn : p ≡ progress.Drawn commit

drawn_by : (start commit : ℕ) (request : Request) (p : Progress) → to_place_by request p ≡ Some (start, commit) → IsDrawn start commit request p
drawn_by start commit (Commit asker t keys) (progress.Drawn c) is =
    let same : (t, c) ≡ (start, commit) = same_Some (t, c) (start, commit) is in
    record { asker = asker; keys = keys; request_is = ap (λ u. Commit asker u keys) (ap (λ (p : ℕ × ℕ). p.0) same); drawn = ap progress.Drawn (ap (λ (p : ℕ × ℕ). p.1) same) }
drawn_by start commit (Commit asker t keys) progress.Asked is = absurd (cc)
drawn_by start commit (Commit asker t keys) progress.Accepted is = absurd (cc)
drawn_by start commit (Commit asker t keys) (progress.Settled c by) is = absurd (cc)
drawn_by start commit (Commit asker t keys) (progress.Handed c) is = absurd (cc)
drawn_by start commit (Begin asker) p is = absurd (cc)

drawn_unplaced : (w : State) (h : List Item) (k : AtDrawn w) (other : ℕ) → IsolationInvariant w h → HasRecord w.pairs k.start other → ⊥
drawn_unplaced w h k other holds there =
    pending_unplaced w.clients w.nodes h k.start other holds.numbers.placed holds.requests.pending (record { coming = in_flight_of w k; pending = inl (drawn_pending w k holds.requests.requests); start_is = refl }) (holds.cells.pairs_are.placed k.start other there)

put_finds : (w : State) (h : List Item) (session node start commit other : ℕ) (i : InstanceEntry) → IsolationInvariant w h → InstanceAt w.nodes node i → (found : Option Held) → held_of i session ≡ found → to_place found ≡ Some (start, commit) → HasRecord w.pairs start other → ⊥
put_finds w h session node start commit other i holds at None has is there = none-some (start, commit) is
put_finds w h session node start commit other i holds at (Some held) has is there =
    let it : IsDrawn start commit held.request held.progress = drawn_by start commit held.request held.progress is in
    drawn_unplaced w h (record { node = node; session = session; asker = it.asker; start = start; commit = commit; keys = it.keys; i = i; held = held; at = at; has = has; request_is = it.request_is; drawn = it.drawn }) other holds there

pub puts_place : (w : State) (h : List Item) → ExplainedInvariant w h → PutMayBeMade w
puts_place w h tells session node start commit other i at is there = put_finds w h session node start commit other i tells.stands.holds at (held_of i session) refl is there
