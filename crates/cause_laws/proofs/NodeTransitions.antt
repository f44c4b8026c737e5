-- What an event does to the nodes and their instances, a short view of its outcome. Each node transition is a record of what was the case, with
-- the nodes that it leaves and the items that tell it.
use Rattle.cause_laws.proofs.Names.{[], ◌≡◌, ◌≢◌, ℕ, ◌+◌, false, List, ◌∷◌, Option, None, Some, ◌⊎◌, ◌++◌, slice_set}
use Rattle.cause_laws.proofs.Names.{All, Node, Session, Handed, Item, granted, is_spent, renewed_until, Held, Request}
use Rattle.cause_laws.proofs.Names.{Begin, Commit, Settled, InstanceEntry, held_of, session_of, with_request, Client}
use Rattle.cause_laws.proofs.Names.{State, rules_of, take_item, ends_request, InstanceAt, ClientAt, Marked}
use Rattle.cause_laws.proofs.Names.{without_request, moved, just_asked, decide_drawn, instance_widened}
use Rattle.cause_laws.proofs.Names.{instance_renewed, instance_stopped, draw_item}
use Rattle.std.specs.Prelude.{IsTrue}
use Rattle.history_book.specs.declared.item.Item.TheVariants as item
use Rattle.system_parts.specs.declared.session.State.TheVariants as phase
use Rattle.system_parts.specs.declared.instance.Progress.TheVariants as progress
use Rattle.system_parts.specs.declared.instance.Settled.TheVariants as how
pub use Rattle.machine.specs.Plain.{is_silent, Silent, AllSilent}
pub use Rattle.machine.specs.Outcome.OutcomesOfRecord.{Stopped, Serving, Told, Granted, granted_nodes, fault_if}
pub use Rattle.machine.specs.Outcome.OutcomesOfStamps.{fault_of}

-- ---- the node transitions
-- the nodes stay as they were
pub record Rested (w : State) : Type 0 where
  pub items : List Item
  pub silent : AllSilent items

-- a take was granted; where the call failed all the same, the fault stands behind
abbrev pub took_items : (w : State) → Granted w → List Item
took_items w k = take_item k.node k.reading (granted (rules_of w.setup) w.master k.reading) ∷ fault_if k.failed k.node

-- the lease of an instance was renewed
pub record Renewed (w : State) : Type 0 where
  pub node : ℕ
  pub reading : ℕ
  pub i : InstanceEntry
  pub at : InstanceAt w.nodes node i
  pub own : w.master.term ≡ i.term

abbrev pub renewed_to : (w : State) → Renewed w → ℕ
renewed_to w k = renewed_until (rules_of w.setup) w.master k.reading

-- an instance got a further range
pub record Widened (w : State) : Type 0 where
  pub node : ℕ
  pub i : InstanceEntry
  pub at : InstanceAt w.nodes node i
  pub own : w.master.term ≡ i.term
  pub room : is_spent (rules_of w.setup) w.master ≡ false

abbrev pub widened_to : State → ℕ
widened_to w = w.master.ceiling + w.setup.range

-- what a session is told whose request the instance held
abbrev pub IsLossOf : InstanceEntry → Item → Type 0
IsLossOf i (item.Refused (Session session) why) = (held : Held) × (held_of i session ≡ Some held)
IsLossOf i _ = ⊥

-- an instance ended with its requests; the sessions that waited for it are told so
pub record Crashed (w : State) : Type 0 where
  pub node : ℕ
  pub i : InstanceEntry
  pub at : InstanceAt w.nodes node i
  pub told : List Item
  pub losses : All (IsLossOf i) told

-- a commit is asked for the transaction that the client has open
abbrev pub AsksFor : Request → Client → Type 0
AsksFor (Begin session) c = Unit {0}
AsksFor (Commit session start keys) c = (c.entry.state ≡ phase.Open) × (c.entry.start ≡ Some start)

-- a session asked, which waited for nothing
pub record Asked (w : State) : Type 0 where
  pub node : ℕ
  pub i : InstanceEntry
  pub at : InstanceAt w.nodes node i
  pub request : Request
  pub none : held_of i (session_of request) ≡ None
  pub c : Client
  pub client_at : ClientAt w.clients (session_of request) c
  pub idle : (c.entry.state ≡ phase.Free) ⊎ (c.entry.state ≡ phase.Open)
  pub for_it : AsksFor request c

abbrev pub ask_item : ℕ → Request → Item
ask_item node (Begin session) = item.AskBegin session node
ask_item node (Commit session start keys) = item.AskCommit session node start

-- a request was accepted, a stamp was drawn
pub record Accepted (w : State) : Type 0 where
  pub it : Serving w
  pub reading : ℕ
  pub asked : it.held.progress ≡ progress.Asked

pub record Drew (w : State) : Type 0 where
  pub it : Serving w
  pub accepted : it.held.progress ≡ progress.Accepted
  pub room : it.i.last ≢ it.i.ceiling

-- the put of a commit has ended
pub record SettledOne (w : State) : Type 0 where
  pub it : Serving w
  pub asker : ℕ
  pub start : ℕ
  pub commit : ℕ
  pub keys : List ℕ
  pub request_is : it.held.request ≡ Commit asker start keys
  pub drawn : it.held.progress ≡ progress.Drawn commit
  pub by : Settled
  pub effects : List Item
  pub silent : AllSilent effects
  pub found : by ≡ how.Invalid → Marked w.pairs start

-- the last that a request is told
abbrev pub EndsFor : ℕ → Item → Type 0
EndsFor s (item.Begin session start) = session ≡ s
EndsFor s (item.Committed session start commit) = session ≡ s
EndsFor s (item.Step (Session session) (Handed start commit)) = session ≡ s
EndsFor s (item.Refused (Session session) why) = (session ≡ s) × IsTrue (ends_request why)
EndsFor s _ = ⊥

-- a request is over: answered, handed over, or refused for good
pub record Ended (w : State) : Type 0 where
  pub it : Serving w
  pub last : Item
  pub ends : EndsFor it.session last

-- a session that holds no request learned by itself how its commit stands
pub record Learned (w : State) : Type 0 where
  pub session : ℕ
  pub c : Client
  pub at : ClientAt w.clients session c
  pub alone : (c.entry.state ≡ phase.OpenOutcome) ⊎ (c.entry.state ≡ phase.Placing)
  pub steps : List Item
  pub silent : AllSilent steps
  pub last : Item
  pub ends : EndsFor session last

-- ---- all node transitions
pub data NodeTransition (w : State) : Type 0 where
  OfRested : Rested w → NodeTransition w
  OfTook : Granted w → NodeTransition w
  OfRenewed : Renewed w → NodeTransition w
  OfWidened : Widened w → NodeTransition w
  OfStopped : Stopped w → NodeTransition w
  OfCrashed : Crashed w → NodeTransition w
  OfAsked : Asked w → NodeTransition w
  OfAccepted : Accepted w → NodeTransition w
  OfDrew : Drew w → NodeTransition w
  OfSettled : SettledOne w → NodeTransition w
  OfTold : Told w → NodeTransition w
  OfEnded : Ended w → NodeTransition w
  OfLearned : Learned w → NodeTransition w

-- ---- what a node transition leaves of the nodes
-- the node has this instance from now on
abbrev pub now_at : State → ℕ → InstanceEntry → List (Option InstanceEntry)
now_at w node i = slice_set w.nodes node (Some i)

abbrev pub nodes_by : (w : State) → NodeTransition w → List (Option InstanceEntry)
nodes_by w (OfRested k) = w.nodes
nodes_by w (OfTook k) = granted_nodes w k k.failed
nodes_by w (OfRenewed k) = now_at w k.node (instance_renewed k.i (renewed_to w k))
nodes_by w (OfWidened k) = now_at w k.node (instance_widened k.i (widened_to w))
nodes_by w (OfStopped k) = now_at w k.node (instance_stopped k.i k.why)
nodes_by w (OfCrashed k) = slice_set w.nodes k.node None
nodes_by w (OfAsked k) = now_at w k.node (with_request k.i (session_of k.request) (Some (just_asked k.request)))
nodes_by w (OfAccepted k) = now_at w k.it.node (moved k.it.i k.it.session k.it.held progress.Accepted)
nodes_by w (OfDrew k) = now_at w k.it.node (decide_drawn k.it.i k.it.session k.it.held (k.it.i.last + 1)).left
nodes_by w (OfSettled k) = now_at w k.it.node (moved k.it.i k.it.session k.it.held (progress.Settled k.commit k.by))
nodes_by w (OfTold k) = now_at w k.it.node (with_request k.it.i k.it.session (Some k.told))
nodes_by w (OfEnded k) = now_at w k.it.node (without_request k.it.i k.it.session)
nodes_by w (OfLearned k) = w.nodes

-- ---- the items that tell it
abbrev pub items_by : (w : State) → NodeTransition w → List Item
items_by w (OfRested k) = k.items
items_by w (OfTook k) = took_items w k
items_by w (OfRenewed k) = item.Renew k.node k.reading k.i.term (renewed_to w k) ∷ []
items_by w (OfWidened k) = item.Extend k.node k.i.term (widened_to w) ∷ []
items_by w (OfStopped k) = item.Refused (Node k.node) k.why ∷ []
items_by w (OfCrashed k) = item.Crash k.node k.i.term ∷ k.told
items_by w (OfAsked k) = ask_item k.node k.request ∷ []
items_by w (OfAccepted k) = item.Accept k.it.session k.it.node k.it.i.term k.reading ∷ []
items_by w (OfDrew k) = draw_item k.it.node k.it.i.term k.it.held.request (k.it.i.last + 1) ∷ []
items_by w (OfSettled k) = k.effects ++ fault_of k.by k.it.node
items_by w (OfTold k) = k.items
items_by w (OfEnded k) = k.last ∷ []
items_by w (OfLearned k) = k.steps ++ k.last ∷ []

-- a step of the machine does to the nodes what a node transition does, and tells it
pub record NodeTransitionOf (w : State) (nodes : List (Option InstanceEntry)) (items : List Item) : Type 0 where
  pub deed : NodeTransition w
  pub leaves : nodes ≡ nodes_by w deed
  pub tells : items ≡ items_by w deed
