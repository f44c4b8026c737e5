-- Outcomes that bring no further begin, draw, write or placed commit keep the facts on sessions and requests.
use Rattle.isolation_laws.proofs.Names.{List, Option, sym, ◌∙◌, ap, SetupNumbers, Item, Begin, InstanceEntry, Client}
use Rattle.isolation_laws.proofs.Names.{State, InFlight, is_placing, HaveBegun, AreRequests, AreStarting, ArePending}
use Rattle.isolation_laws.proofs.Names.{AreSettled, AreOpen, AreKeys, AreForm, RequestFacts, IsolationInvariant}
use Rattle.system_parts.specs.declared.instance.Progress.TheVariants as progress
use Rattle.isolation_laws.proofs.Requests.PendingAfter.{FewerPending}
use Rattle.isolation_laws.proofs.Requests.ClientsOpen.{FewerOpen, FewerPlacing}
use Rattle.isolation_laws.proofs.Requests.CommitsInFlight.{StaysPending, pending_fewer, FewerStanding, IsSettledNow, IsAcceptedNow, IsDrawnNow, settled_fewer, accepted_fewer, starting_fewer, open_fewer}
use Rattle.isolation_laws.proofs.Requests.Silent.{Silent, silent_drawn}

-- what an outcome leaves of requests and sessions
pub record Leaves (w : State) (h : List Item) (nodes : List (Option InstanceEntry)) (clients : List Client) : Type 0 where
  pub have_begun : HaveBegun clients h
  pub requests : AreRequests nodes clients
  pub starting : FewerStanding IsDrawnNow w.nodes nodes
  pub pending : FewerPending w.clients w.nodes clients nodes
  pub settled : FewerStanding IsSettledNow w.nodes nodes
  pub accepted : FewerStanding IsAcceptedNow w.nodes nodes
  pub opened : FewerOpen w.clients clients
  pub keys : AreKeys clients h
  pub form : AreForm w.setup nodes clients

-- no commit is handed over, and no session placing, that was not
pub form_fewer : (setup : SetupNumbers) (old new : List Client) (nodes new_nodes : List (Option InstanceEntry)) → FewerStanding IsDrawnNow nodes new_nodes → FewerPlacing old new → AreForm setup nodes old → AreForm setup new_nodes new
form_fewer setup old new nodes new_nodes standing fewer form = record {
  handed = λ n s c i request at held. let was = standing.each n s i request (progress.Handed c) tt at held in form.handed n s c was.0 request was.1 was.2;
  plain = λ flag s c at placing. let was = fewer s c at placing in form.plain flag s was.0 was.1 (ap (λ e. is_placing e.state) was.2 ∙ placing);
}

pub have_silent : (clients : List Client) (h g : List Item) → Silent h g → HaveBegun clients h → HaveBegun clients g
have_silent clients h g silent have = record {
  begun = λ s c at has. let was = have.begun s c at has in (was.0, was.1, silent.on (Begin s was.0) was.2);
}

pub keys_silent : (clients : List Client) (h g : List Item) → Silent h g → AreKeys clients h → AreKeys clients g
keys_silent clients h g silent keys = record {
  written = λ s t c at is start. keys.written s t c at is start ∙ sym (silent.keys t);
  some = keys.some;
}

pub stays_silent : (h g : List Item) (q : InFlight) → Silent h g → StaysPending h g q
stays_silent h g q silent = record {
  alone = record { undrawn = silent_drawn h g q.start silent; unplaced = silent.placed q.start };
  keys = silent.keys q.start;
}

pub starting_silent : (old new : List (Option InstanceEntry)) (h g : List Item) → Silent h g → FewerStanding IsDrawnNow old new → AreStarting old h → AreStarting new g
starting_silent old new h g silent fewer starting = starting_fewer old new h g fewer silent.on (λ n s t r i at held begun. silent.begun r t begun) starting

pub pending_silent : (clients new_clients : List Client) (old new : List (Option InstanceEntry)) (h g : List Item) → Silent h g → FewerPending clients old new_clients new → FewerStanding IsDrawnNow old new → ArePending clients old h → ArePending new_clients new g
pending_silent clients new_clients old new h g silent fewer standing pending = pending_fewer clients new_clients old new h g fewer standing silent.on (λ q p. stays_silent h g q silent) pending

pub settled_silent : (old new : List (Option InstanceEntry)) (h g : List Item) → Silent h g → FewerStanding IsSettledNow old new → AreSettled old h → AreSettled new g
settled_silent old new h g silent fewer settled = settled_fewer old new h g fewer silent.on (λ n s t c d i at placed. silent.placed t d placed) settled

pub open_silent : (old new : List Client) (h g : List Item) → Silent h g → FewerOpen old new → AreOpen old h → AreOpen new g
open_silent old new h g silent fewer opened = open_fewer old new h g fewer (λ s t e o drew. silent_drawn h g t silent drew) opened

pub requests_silent : (w : State) (h g : List Item) (nodes : List (Option InstanceEntry)) (clients : List Client) → Silent h g → Leaves w h nodes clients → IsolationInvariant w h → RequestFacts w.setup nodes clients g
requests_silent w h g nodes clients silent left holds = record {
  have_begun = have_silent clients h g silent left.have_begun;
  requests = left.requests;
  starting = starting_silent w.nodes nodes h g silent left.starting holds.requests.starting;
  pending = pending_silent w.clients clients w.nodes nodes h g silent left.pending left.starting holds.requests.pending;
  settled = settled_silent w.nodes nodes h g silent left.settled holds.requests.settled;
  accepted = accepted_fewer w.nodes nodes left.accepted holds.requests.accepted;
  opened = open_silent w.clients clients h g silent left.opened holds.requests.opened;
  keys = keys_silent clients h g silent left.keys;
  form = left.form;
}
