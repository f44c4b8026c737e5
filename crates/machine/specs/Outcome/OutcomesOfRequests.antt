-- What an event comes to for requests without a stamp: a crash, an ask, a request that is accepted or refused.
use Rattle.std.specs.Prelude.{[], ◌≡◌, ◌≢◌, ℕ, ◌+◌, ◌<◌, ◌≤◌, max, false, List, ◌∷◌, None, Some, ◌⊎◌, slice_set, IsTrue}
use Rattle.history_book.specs.declared.cause.Cause.{Cause}
use Rattle.history_book.specs.declared.item.Actor.TheVariants.{Session}
use Rattle.history_book.specs.declared.item.Item.{Item}
use Rattle.history_book.specs.declared.item.Item.TheVariants as item
use Rattle.system_parts.specs.declared.session.State.TheVariants as phase
use Rattle.system_parts.specs.declared.instance.Held.{Held}
use Rattle.system_parts.specs.declared.instance.Progress.TheVariants as progress
use Rattle.system_parts.specs.declared.instance.Request.TheVariants.{Begin, Commit}
use Rattle.system_parts.specs.Instance.{InstanceEntry, held_of, with_request}
use Rattle.system_parts.specs.InstanceSteps.{without_request, moved, just_asked, epoch_refusal}
use Rattle.machine.specs.State.{Client, State}
use Rattle.machine.specs.Clients.{is_reading, client_asked, after_refusal}
use Rattle.machine.specs.Events.Crash.{crashed_clients, all_crashed_items}
use Rattle.cause_rules.specs.OpenAsks.{ends_request}
use Rattle.machine.specs.FoundAt.{InstanceAt, ClientAt}
use Rattle.machine.specs.Quiet.{AllQuiet}

-- ---- requests
pub record Crashed (w : State) : Type 0 where
  pub node : ℕ
  pub i : InstanceEntry
  pub at : InstanceAt w.nodes node i
  pub items : List Item
  pub tells : items ≡ item.Crash node i.term ∷ all_crashed_items node i.term i.requests w.clients
  pub quiet : AllQuiet items

abbrev pub crashed_state : (w : State) → Crashed w → State
crashed_state w k = record w { nodes = slice_set w.nodes k.node None; clients = crashed_clients k.i.requests w.clients }

pub record AskedBegin (w : State) : Type 0 where
  pub session : ℕ
  pub node : ℕ
  pub c : Client
  pub i : InstanceEntry
  pub client_at : ClientAt w.clients session c
  pub at : InstanceAt w.nodes node i
  pub free : c.entry.state ≡ phase.Free

abbrev pub asked_begin_state : (w : State) → AskedBegin w → State
asked_begin_state w k = record w { nodes = slice_set w.nodes k.node (Some (with_request k.i k.session (Some (just_asked (Begin k.session))))); clients = slice_set w.clients k.session (client_asked k.c) }

abbrev pub asked_begin_items : (w : State) → AskedBegin w → List Item
asked_begin_items w k = item.AskBegin k.session k.node ∷ []

pub record AskedCommit (w : State) : Type 0 where
  pub session : ℕ
  pub node : ℕ
  pub start : ℕ
  pub c : Client
  pub i : InstanceEntry
  pub client_at : ClientAt w.clients session c
  pub at : InstanceAt w.nodes node i
  pub is_open : c.entry.state ≡ phase.Open
  pub idle : is_reading c ≡ false
  pub start_is : c.entry.start ≡ Some start
  pub written : c.entry.keys ≢ []
  pub items : List Item
  pub tells : items ≡ item.AskCommit session node start ∷ []
  pub quiet : AllQuiet items

abbrev pub asked_commit_state : (w : State) → AskedCommit w → State
asked_commit_state w k = record w { nodes = slice_set w.nodes k.node (Some (with_request k.i k.session (Some (just_asked (Commit k.session k.start k.c.entry.keys))))); clients = slice_set w.clients k.session (client_asked k.c) }

-- a request was accepted
pub record Accepted (w : State) : Type 0 where
  pub node : ℕ
  pub session : ℕ
  pub reading : ℕ
  pub i : InstanceEntry
  pub held : Held
  pub at : InstanceAt w.nodes node i
  pub has : held_of i session ≡ Some held
  pub asked : held.progress ≡ progress.Asked
  pub in_time : reading < i.until
  pub in_epoch : epoch_refusal i held.request ≡ None
  pub items : List Item
  pub tells : items ≡ item.Accept session node i.term reading ∷ []
  pub quiet : AllQuiet items

-- its reading was steady
abbrev pub AcceptedSteadily : (w : State) → Accepted w → Type 0
AcceptedSteadily w k = w.seen ≤ k.reading + w.setup.skew

abbrev pub accepted_state : (w : State) → Accepted w → State
accepted_state w k = record w { seen = max w.seen k.reading; nodes = slice_set w.nodes k.node (Some (moved k.i k.session k.held progress.Accepted)) }

-- a request that had drawn nothing was refused, and is over
pub record Ended (w : State) : Type 0 where
  pub node : ℕ
  pub session : ℕ
  pub i : InstanceEntry
  pub held : Held
  pub c : Client
  pub at : InstanceAt w.nodes node i
  pub has : held_of i session ≡ Some held
  pub undrawn : (held.progress ≡ progress.Asked) ⊎ (held.progress ≡ progress.Accepted)
  pub client_at : ClientAt w.clients session c
  pub seen : ℕ
  pub up : w.seen ≤ seen
  pub why : Cause
  pub ends : IsTrue (ends_request why)
  pub items : List Item
  pub tells : items ≡ item.Refused (Session session) why ∷ []
  pub quiet : AllQuiet items

abbrev pub ended_state : (w : State) → Ended w → State
ended_state w k = record w { seen = k.seen; nodes = slice_set w.nodes k.node (Some (without_request k.i k.session)); clients = slice_set w.clients k.session (after_refusal k.held.request k.c) }
