-- The turns by which the stages of a node serve a request, whatever turns came before.
use Rattle.std.proofs.Common.{arith}
use Rattle.grant_laws.proofs.Names.{◌≡◌, ◌≢◌, ℕ, ◌+◌, ◌<◌, List, [], ◌∷◌, length, Option, Some, None, inl}
use Rattle.grant_laws.proofs.Names.{refl, sym, ◌∙◌, ap, subst, ne_eqb, cases_lt, get_or_past, none-some, Mark}
use Rattle.grant_laws.proofs.Names.{CommittedMark, InvalidMark, Fate, Works, Item, Pairs, mark_of}
use Rattle.grant_laws.proofs.Names.{put_pair, Free, Held, Progress, Request, Begin, Commit, InstanceEntry}
use Rattle.grant_laws.proofs.Names.{held_of, with_request, least_unsettled}
use Rattle.grant_laws.proofs.Names.{moved, accept_refusal}
use Rattle.grant_laws.proofs.Names.{decide_drawn}
use Rattle.grant_laws.proofs.Names.{held_of-with_request_same, Client, State}
use Rattle.grant_laws.proofs.Names.{Effect, done, Event, Step, on_request, asks, accept_on}
use Rattle.grant_laws.proofs.Names.{draw_item, decide_on, both_verdict}
use Rattle.grant_laws.proofs.Names.{put_on}
use Rattle.grant_laws.proofs.Names.{answer_on, ScriptData, InstanceAt, ClientAt, Marked}
use Rattle.grant_laws.proofs.Names.{ReachedInvariant, Has, InFlight, HeldPending, WaitsFor, set_found, Played, step_of}
use Rattle.grant_laws.proofs.Names.{played, node_step, on_both, Turn, Carried, turned, Adds, IsServed, Serves}
use Rattle.history_book.specs.declared.item.Item.TheVariants as item
use Rattle.system_parts.specs.declared.instance.Progress.TheVariants as progress
use Rattle.system_parts.specs.declared.instance.Settled.TheVariants as how

-- ---- the parts that a turn looks at
held_within : (i : InstanceEntry) (s : ℕ) (held : Held) → held_of i s ≡ Some held → s < length i.requests
held_within i s held has = grind (arith, cases_lt, none-some, get_or_past)

-- the client of a request, and that the request has its place
pub record Parts (p : Played) (node s : ℕ) (request : Request) (at : Progress) (k : IsServed p node s request at) : Type 0 where
  pub client : Client
  pub session_is : ClientAt p.state.clients s client
  pub within : s < length k.oracle.requests

pub parts_of : (p : Played) (node s : ℕ) (request : Request) (at : Progress) (k : IsServed p node s request at) → ReachedInvariant p.state p.items → Parts p node s request at k
parts_of p node s request at k stands =
    let waits : (c : Client) × ClientAt p.state.clients s c × WaitsFor request c = stands.holds.requests.requests.waits node s k.oracle request at k.node_has k.held in
    record { client = waits.0; session_is = waits.1; within = held_within k.oracle s k.held.held k.held.has }

-- the request as it is held after the turn
pub served_so : (q : Played) (node s : ℕ) (request : Request) (now : Progress) (i : InstanceEntry) (held : Held) → InstanceAt q.state.nodes node i → held_of i s ≡ Some held → held.request ≡ request → held.progress ≡ now → IsServed q node s request now
served_so q node s request now i held node_has has asks stands = record { oracle = i; node_has = node_has; held = record { held = held; has = has; asks = asks; stands = stands } }

-- a turn whose event is of that node and that client, and what it leaves of the instance
pub record OnRequest (script : ScriptData) (c : Carried) (t : Turn) (x : Item) (node s : ℕ) : Type 0 where
  pub event : Event
  pub seen : ℕ
  pub does : Option InstanceEntry → Client → Effect (Option InstanceEntry × Client)
  pub leaves : InstanceEntry
  pub goes : (turned script c t).played ≡ played script c.played event
  pub adds : Adds script c t x
  pub is : step_of script c.played event ≡ on_request (record c.played.state { seen = seen }) node s does

-- by such an event
pub by_request : (script : ScriptData) (c : Carried) (t : Turn) (x : Item) (node s : ℕ) (request : Request) (at now : Progress) (k : IsServed c.played node s request at) (parts : Parts c.played node s request at k) (o : OnRequest script c t x node s) →
    o.does (Some k.oracle) parts.client ≡ done (Some o.leaves, parts.client) (x ∷ []) → o.leaves.requests ≡ (with_request k.oracle s (Some (record k.held.held { progress = now }))).requests →
    Serves script c t x node s request now
by_request script c t x node s request at now k parts o effect requests =
    let i : InstanceEntry = o.leaves in
    let u : State = record c.played.state { seen = o.seen } in
    let held : Held = record k.held.held { progress = now } in
    let made : step_of script c.played o.event ≡ node_step u node s (done (Some i, parts.client) (x ∷ [])) = o.is ∙ on_both u node s k.oracle parts.client o.does k.node_has parts.session_is ∙ ap (λ (it : Effect (Option InstanceEntry × Client)). node_step u node s it) effect in
    let node_has : InstanceAt (played script c.played o.event).state.nodes node i = subst (λ (step : Step). InstanceAt step.state.nodes node i) (sym made) (set_found c.played.state.nodes node (Some i) (Some k.oracle) k.node_has) in
    let has : held_of i s ≡ Some held = ap (λ (rs : List (Option Held)). held_of (record i { requests = rs }) s) requests ∙ held_of-with_request_same k.oracle s (Some held) parts.within in
    record { adds = o.adds; comes = subst (λ (q : Played). IsServed q node s request now) (sym o.goes) (served_so (played script c.played o.event) node s request now i held node_has has k.held.asks refl) }

-- what the event appends
pub tells_by : (script : ScriptData) (c : Carried) (e : Event) (node s seen : ℕ) (request : Request) (at : Progress) (f : Option InstanceEntry → Client → Effect (Option InstanceEntry × Client)) (items : List Item) (k : IsServed c.played node s request at) (parts : Parts c.played node s request at k) → step_of script c.played e ≡ on_request (record c.played.state { seen = seen }) node s f → (f (Some k.oracle) parts.client).items ≡ items → (step_of script c.played e).items ≡ items
tells_by script c e node s seen request at f items k parts is effect = ap (λ (step : Step). step.items) (is ∙ on_both (record c.played.state { seen = seen }) node s k.oracle parts.client f k.node_has parts.session_is) ∙ effect

-- ---- the acceptance
pub accepts_so : (node s reading : ℕ) (i : InstanceEntry) (c : Client) (held : Held) → held_of i s ≡ Some held → held.progress ≡ progress.Asked → accept_refusal i reading held.request ≡ None → accept_on node s reading (Some i) c ≡ done (Some (moved i s held progress.Accepted), c) (item.Accept s node i.term reading ∷ [])
accepts_so node s reading i c held has asked is_free = grind arith

-- ---- the draw
pub draws_so : (node s : ℕ) (i : InstanceEntry) (c : Client) (held : Held) → held_of i s ≡ Some held → held.progress ≡ progress.Accepted → both_verdict i.buckets c.reads held.request ≡ Free → i.last ≢ i.ceiling → decide_on node s (Some i) c ≡ done (Some (decide_drawn i s held (i.last + 1)).left, c) (draw_item node i.term held.request (i.last + 1) ∷ [])
draws_so node s i c held has accepted no_conflict more = grind (arith, ne_eqb)

-- ---- the answers
pub commit_answers : (node s start commit : ℕ) (keys : List ℕ) (i : InstanceEntry) (c : Client) (held : Held) → held_of i s ≡ Some held → held.request ≡ Commit s start keys → held.progress ≡ progress.Settled commit how.Placed → (answer_on node s (Some i) c).items ≡ item.Committed s start commit ∷ []
commit_answers node s start commit keys i c held has asks stands = grind arith

pub begin_answers : (node s start : ℕ) (i : InstanceEntry) (c : Client) (held : Held) → held_of i s ≡ Some held → held.request ≡ Begin s → held.progress ≡ progress.Drawn start → least_unsettled i.requests start ≡ None → (answer_on node s (Some i) c).items ≡ item.Begin s start ∷ []
begin_answers node s start i c held has asks stands settled = grind arith

-- ---- the put
-- nothing stands in the table for a commit in flight that nobody has marked
pub unplaced_by : (p : Played) (node s start commit : ℕ) (keys : List ℕ) (k : IsServed p node s (Commit s start keys) (progress.Drawn commit)) (found : Option Mark) → ReachedInvariant p.state p.items → (Marked p.state.pairs start → ⊥) → mark_of p.state.pairs start ≡ found → found ≡ None
unplaced_by p node s start commit keys k None stands unmarked is = refl
unplaced_by p node s start commit keys k (Some InvalidMark) stands unmarked is = absurd (unmarked is)
unplaced_by p node s start commit keys k (Some (CommittedMark other)) stands unmarked is =
    let q : InFlight = record { session = s; start = start; keys = keys; stage = Has commit } in
    let pending : HeldPending p.state.nodes q = record { node = node; instance_of = k.oracle; progress_of = progress.Drawn commit; at = k.node_has; held = k.held; stage_is = refl } in
    absurd ((stands.holds.requests.pending.so_far q (inl pending)).1 other (stands.holds.cells.pairs_are.placed start other is))

pub places_so : (node s start commit : ℕ) (keys : List ℕ) (fate : Fate) (i : InstanceEntry) (pairs : Pairs) (held : Held) → held_of i s ≡ Some held → held.request ≡ Commit s start keys → held.progress ≡ progress.Drawn commit → mark_of pairs start ≡ None → fate ≡ Works → put_on node s fate (Some i) pairs ≡ done (Some (moved i s held (progress.Settled commit how.Placed)), put_pair pairs start (CommittedMark commit)) (item.Placed start commit ∷ [])
places_so node s start commit keys fate i pairs held has asks stands absent works = grind arith
