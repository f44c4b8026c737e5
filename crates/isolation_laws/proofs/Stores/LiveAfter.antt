-- What may still be placed after each outcome: nothing that could not before, but the transaction of an answered begin.
use Rattle.isolation_laws.proofs.Names.{refl, ◌≡◌, ℕ, List, Option, Some, ◌⊎◌, inl, inr, sym, ◌∙◌, ap, OfAskedCommit}
use Rattle.isolation_laws.proofs.Names.{InstanceEntry, Client, State, epoch_or_none, Waits, Taken, Live, AskedCommit}
use Rattle.isolation_laws.proofs.Names.{asked_commit_state, Accepted, accepted_state, Drew, drew_state, AnsweredBegin}
use Rattle.isolation_laws.proofs.Names.{answered_begin_state}
use Rattle.isolation_laws.proofs.Requests.ClientMoves.{at_work_after}
use Rattle.isolation_laws.proofs.Requests.PendingAfter.{FewerPending, fewer_pending}
use Rattle.isolation_laws.proofs.Requests.PendingFewer.{pending_answered_begin, fewer_is_pending, stays_pending}
use Rattle.isolation_laws.proofs.Requests.PendingMoved.{pending_asked_commit, pending_accepted, pending_drew}
use Rattle.isolation_laws.proofs.Requests.ClientsOpen.{FewerOpen, FewerAtWork}
use Rattle.isolation_laws.proofs.Requests.OpenAfter.{fewer_is_open, open_answered_begin}
use Rattle.isolation_laws.proofs.Requests.RequestsOfMoves.{opens}

abbrev pub FewerLive : List Client → List (Option InstanceEntry) → List Client → List (Option InstanceEntry) → Type 0
FewerLive clients nodes new_clients new_nodes = (t : ℕ) → Live new_clients new_nodes t → Live clients nodes t

pub fewer_live : (clients new_clients : List Client) (nodes new_nodes : List (Option InstanceEntry)) → FewerOpen clients new_clients → FewerPending clients nodes new_clients new_nodes → FewerLive clients nodes new_clients new_nodes
fewer_live clients new_clients nodes new_nodes opened pending t (inl o) = inl (fewer_is_open clients new_clients t opened o)
fewer_live clients new_clients nodes new_nodes opened pending t (inr p) = inr (fewer_is_pending clients new_clients nodes new_nodes t pending p)

-- the same commits in flight
pub live_by_clients : (clients new_clients : List Client) (nodes : List (Option InstanceEntry)) → FewerAtWork clients new_clients → FewerLive clients nodes new_clients nodes
live_by_clients clients new_clients nodes work = fewer_live clients new_clients nodes nodes work.opened (fewer_pending clients new_clients nodes nodes work.placing (λ q p. p))

-- the same sessions
pub live_by_nodes : (clients : List Client) (nodes new_nodes : List (Option InstanceEntry)) → FewerPending clients nodes clients new_nodes → FewerLive clients nodes clients new_nodes
live_by_nodes clients nodes new_nodes fewer = fewer_live clients clients nodes new_nodes (λ s t e o. o) fewer

-- a commit that was asked is that of a transaction that was open
pub live_asked_commit : (w : State) (k : AskedCommit w) → FewerLive w.clients w.nodes (asked_commit_state w k).clients (asked_commit_state w k).nodes
live_asked_commit w k t (inl o) = inl (fewer_is_open w.clients (asked_commit_state w k).clients t (at_work_after w (OfAskedCommit k) refl).opened o)
live_asked_commit w k t (inr p) = elim (pending_asked_commit w k p.coming p.pending) [
  | inl old ↦ inr (record { coming = p.coming; pending = old; start_is = p.start_is })
  | inr now ↦ inl (record {
    session = k.session;
    epoch = epoch_or_none k.c.entry.epoch;
    open_at = opens w k.session t k.c k.client_at k.is_open (k.start_is ∙ ap Some (sym now.start_is ∙ p.start_is));
  })
]

pub live_accepted : (w : State) (k : Accepted w) → FewerLive w.clients w.nodes w.clients (accepted_state w k).nodes
live_accepted w k t (inl o) = inl o
live_accepted w k t (inr p) = elim (pending_accepted w k p.coming p.pending) [
  | inl old ↦ inr (record { coming = p.coming; pending = old; start_is = p.start_is })
  | inr now ↦ inr (record { coming = record p.coming { stage = Waits }; pending = inl now.waited; start_is = p.start_is })
]

pub live_drew : (w : State) (k : Drew w) → FewerLive w.clients w.nodes w.clients (drew_state w k).nodes
live_drew w k t (inl o) = inl o
live_drew w k t (inr p) = elim (pending_drew w k p.coming p.pending) [
  | inl old ↦ inr (record { coming = p.coming; pending = stays_pending w.clients w.nodes k.node k.session p.coming old; start_is = p.start_is })
  | inr (inl older) ↦ inr (record { coming = record p.coming { stage = Taken k.i.last }; pending = inl older.was_taken; start_is = p.start_is })
  | inr (inr drawn) ↦ inr (record { coming = record p.coming { stage = Taken k.i.last }; pending = inl drawn.was_taken; start_is = p.start_is })
]

pub live_answered_begin : (w : State) (k : AnsweredBegin w) (t : ℕ) → Live (answered_begin_state w k).clients (answered_begin_state w k).nodes t → Live w.clients w.nodes t ⊎ (t ≡ k.start)
live_answered_begin w k t (inl o) = elim (open_answered_begin w k o.session t o.epoch o.open_at) [
  | inl old ↦ inl (inl (record { session = o.session; epoch = o.epoch; open_at = old }))
  | inr now ↦ inr now.1
]
live_answered_begin w k t (inr p) = inl (inr (fewer_is_pending w.clients (answered_begin_state w k).clients w.nodes (answered_begin_state w k).nodes t (pending_answered_begin w k) p))
