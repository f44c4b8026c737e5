-- What an event comes to for requests with a stamp: the draw, the put of a commit, the answer.
use Rattle.std.specs.Prelude.{Option, [], ◌≡◌, ◌≢◌, ℕ, ◌+◌, List, ◌∷◌, ◌++◌, None, Some, ◌⊎◌, slice_set}
use Rattle.stamp_base.specs.declared.stores.Mark.TheVariants.{Committed as CommittedMark}
use Rattle.stamp_base.specs.declared.stores.Mark.{Mark}
use Rattle.stamp_base.specs.declared.stores.Store.TheVariants.{Table}
use Rattle.history_book.specs.declared.cause.Cause.TheVariants as cause
use Rattle.history_book.specs.declared.item.Actor.TheVariants.{Node, Session}
use Rattle.history_book.specs.declared.item.StoreStep.TheVariants.{PutFound, Handed}
use Rattle.history_book.specs.declared.item.Item.{Item}
use Rattle.history_book.specs.declared.item.Item.TheVariants as item
use Rattle.system_parts.specs.Pairs.{mark_of, put_pair}
use Rattle.system_parts.specs.declared.buckets.Verdict.TheVariants.{Free}
use Rattle.system_parts.specs.declared.instance.Held.{Held}
use Rattle.system_parts.specs.declared.instance.Progress.TheVariants as progress
use Rattle.system_parts.specs.declared.instance.Request.TheVariants.{Begin, Commit}
use Rattle.system_parts.specs.declared.instance.Settled.{Settled}
use Rattle.system_parts.specs.declared.instance.Settled.TheVariants as how
use Rattle.system_parts.specs.Buckets.{verdict, record_pairs}
use Rattle.system_parts.specs.Instance.{InstanceEntry, held_of, least_unsettled}
use Rattle.system_parts.specs.InstanceSteps.{without_request, moved, drawn_as, pairs_by, request_verdict}
use Rattle.machine.specs.State.{Client, State}
use Rattle.machine.specs.Clients.{client_begun, client_handed, client_aborted, client_committed, client_opened, unless_gone}
use Rattle.machine.specs.Events.Decide.{draw_item}
use Rattle.machine.specs.FoundAt.{InstanceAt, ClientAt}
use Rattle.machine.specs.Quiet.{AllQuiet}

-- ---- requests
-- a stamp was drawn: the keys that the request writes are free, and so are those that its client has read
pub record Drew (w : State) : Type 0 where
  pub node : ℕ
  pub session : ℕ
  pub i : InstanceEntry
  pub held : Held
  pub at : InstanceAt w.nodes node i
  pub has : held_of i session ≡ Some held
  pub accepted : held.progress ≡ progress.Accepted
  pub room : i.last ≢ i.ceiling
  pub free : request_verdict i.buckets held.request ≡ Free
  pub c : Client
  pub client_at : ClientAt w.clients session c
  pub reads_free : (asker start : ℕ) (keys : List ℕ) → held.request ≡ Commit asker start keys → verdict i.buckets start c.reads ≡ Free

abbrev pub drew_instance : (w : State) → Drew w → InstanceEntry
drew_instance w k = record (moved k.i k.session k.held (drawn_as k.i.direct k.held.request (k.i.last + 1))) { last = k.i.last + 1; buckets = record_pairs k.i.buckets (pairs_by k.held.request (k.i.last + 1)) }

abbrev pub drew_state : (w : State) → Drew w → State
drew_state w k = record w { nodes = slice_set w.nodes k.node (Some (drew_instance w k)) }

abbrev pub drew_items : (w : State) → Drew w → List Item
drew_items w k = draw_item k.node k.i.term k.held.request (k.i.last + 1) ∷ []

-- a commit that was drawn is to be placed
pub record AtDrawn (w : State) : Type 0 where
  pub node : ℕ
  pub session : ℕ
  pub asker : ℕ
  pub start : ℕ
  pub commit : ℕ
  pub keys : List ℕ
  pub i : InstanceEntry
  pub held : Held
  pub at : InstanceAt w.nodes node i
  pub has : held_of i session ≡ Some held
  pub request_is : held.request ≡ Commit asker start keys
  pub drawn : held.progress ≡ progress.Drawn commit

-- its put has ended so
abbrev pub settled_nodes : (w : State) → AtDrawn w → Settled → List (Option InstanceEntry)
settled_nodes w it by = slice_set w.nodes it.node (Some (moved it.i it.session it.held (progress.Settled it.commit by)))

-- a put that failed shows its fault behind
abbrev pub fault_of : Settled → ℕ → List Item
fault_of how.Faulted node = item.Fault (Node node) Table ∷ []
fault_of _ node = []

-- it was placed; where the call failed all the same, the instance does not know
pub record PlacedOne (w : State) : Type 0 where
  pub it : AtDrawn w
  pub free : mark_of w.pairs it.start ≡ None
  pub by : Settled
  pub by_is : (by ≡ how.Placed) ⊎ (by ≡ how.Faulted)
  pub items : List Item
  pub tells : items ≡ fault_of by it.node
  pub quiet : AllQuiet items

abbrev pub placed_state : (w : State) → PlacedOne w → State
placed_state w k = record w { nodes = settled_nodes w k.it k.by; pairs = put_pair w.pairs k.it.start (CommittedMark k.it.commit) }

abbrev pub placed_items : (w : State) → PlacedOne w → List Item
placed_items w k = item.Placed k.it.start k.it.commit ∷ k.items

-- what stood in its place is shown
abbrev pub found_items : Settled → ℕ → ℕ → List Item
found_items how.Invalid node start = item.Step (Node node) (PutFound start) ∷ []
found_items _ node start = []

-- it was not placed, and never will be
pub record NotPlaced (w : State) : Type 0 where
  pub it : AtDrawn w
  pub by : Settled
  pub by_is : (by ≡ how.Invalid) ⊎ (by ≡ how.Faulted)
  pub found : by ≡ how.Invalid → (mark : Mark) × (mark_of w.pairs it.start ≡ Some mark)
  pub items : List Item
  pub tells : items ≡ found_items by it.node it.start ++ fault_of by it.node
  pub quiet : AllQuiet items

abbrev pub not_placed_state : (w : State) → NotPlaced w → State
not_placed_state w k = record w { nodes = settled_nodes w k.it k.by }

pub record AnsweredBegin (w : State) : Type 0 where
  pub node : ℕ
  pub session : ℕ
  pub asker : ℕ
  pub start : ℕ
  pub i : InstanceEntry
  pub held : Held
  pub c : Client
  pub at : InstanceAt w.nodes node i
  pub has : held_of i session ≡ Some held
  pub request_is : held.request ≡ Begin asker
  pub drawn : held.progress ≡ progress.Drawn start
  pub settled : least_unsettled i.requests start ≡ None
  pub client_at : ClientAt w.clients session c

abbrev pub answered_begin_state : (w : State) → AnsweredBegin w → State
answered_begin_state w k = record w { nodes = slice_set w.nodes k.node (Some (without_request k.i k.session)); clients = slice_set w.clients k.session (unless_gone k.c (client_begun k.c k.start k.i.epoch)) }

abbrev pub answered_begin_items : (w : State) → AnsweredBegin w → List Item
answered_begin_items w k = item.Begin k.session k.start ∷ []

-- what the answer to a commit makes of its client
abbrev pub answered_client : Settled → Client → ℕ → Client
answered_client how.Placed c commit = client_committed c commit
answered_client how.Invalid c commit = client_aborted c
answered_client how.Faulted c commit = client_opened c

-- what it tells
abbrev pub answered_item : Settled → ℕ → ℕ → ℕ → Item
answered_item how.Placed session start commit = item.Committed session start commit
answered_item how.Invalid session start commit = item.Refused (Session session) (cause.Invalid start)
answered_item how.Faulted session start commit = item.Refused (Session session) (cause.Open start)

pub record AnsweredCommit (w : State) : Type 0 where
  pub node : ℕ
  pub session : ℕ
  pub asker : ℕ
  pub start : ℕ
  pub commit : ℕ
  pub keys : List ℕ
  pub by : Settled
  pub i : InstanceEntry
  pub held : Held
  pub c : Client
  pub at : InstanceAt w.nodes node i
  pub has : held_of i session ≡ Some held
  pub request_is : held.request ≡ Commit asker start keys
  pub settled : held.progress ≡ progress.Settled commit by
  pub client_at : ClientAt w.clients session c
  pub items : List Item
  pub tells : items ≡ answered_item by session start commit ∷ []
  pub quiet : AllQuiet items

abbrev pub answered_commit_state : (w : State) → AnsweredCommit w → State
answered_commit_state w k = record w { nodes = slice_set w.nodes k.node (Some (without_request k.i k.session)); clients = slice_set w.clients k.session (unless_gone k.c (answered_client k.by k.c k.commit)) }

-- a commit that was drawn is handed to its session, which is to place it
pub record HandedOver (w : State) : Type 0 where
  pub node : ℕ
  pub session : ℕ
  pub asker : ℕ
  pub start : ℕ
  pub commit : ℕ
  pub keys : List ℕ
  pub i : InstanceEntry
  pub held : Held
  pub c : Client
  pub at : InstanceAt w.nodes node i
  pub has : held_of i session ≡ Some held
  pub request_is : held.request ≡ Commit asker start keys
  pub drawn : held.progress ≡ progress.Handed commit
  pub client_at : ClientAt w.clients session c
  pub items : List Item
  pub tells : items ≡ item.Step (Session session) (Handed start commit) ∷ []
  pub quiet : AllQuiet items

abbrev pub handed_over_state : (w : State) → HandedOver w → State
handed_over_state w k = record w { nodes = slice_set w.nodes k.node (Some (without_request k.i k.session)); clients = slice_set w.clients k.session (unless_gone k.c (client_handed k.c k.commit)) }
