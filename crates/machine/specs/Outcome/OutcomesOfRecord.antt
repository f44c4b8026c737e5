-- What an event of the machine comes to at the master record, or where nothing changes that a fact reads. Each outcome is a
-- record of what was the case, with the state that it leaves and the items that it appends, so that no proof about the facts
-- has to look into the machine's definitions. The node transitions of cause_laws are a view of the same outcomes.
use Rattle.std.specs.Prelude.{◌≡◌, ◌≢◌, ℕ, ◌+◌, ◌≤◌, max, Bool, true, false, List, [], ◌∷◌, Option, None, Some, ◌⊎◌, slice_get, slice_set}
use Rattle.stamp_base.specs.declared.stores.Store.TheVariants.{Master}
use Rattle.history_book.specs.declared.cause.Cause.{Cause}
use Rattle.history_book.specs.declared.cause.Cause.TheVariants.{Replaced, Spent}
use Rattle.history_book.specs.declared.item.Actor.TheVariants.{Node}
use Rattle.history_book.specs.declared.item.Item.{Item}
use Rattle.history_book.specs.declared.item.Item.TheVariants as item
use Rattle.system_parts.specs.Record.{take_refused, granted, held_by, is_spent, renewed_until}
use Rattle.system_parts.specs.declared.instance.Held.{Held}
use Rattle.system_parts.specs.Instance.{InstanceEntry, held_of, with_request}
use Rattle.system_parts.specs.InstanceSteps.{instance_widened, instance_renewed, instance_stopped}
use Rattle.machine.specs.State.{State}
use Rattle.machine.specs.Events.Take.{rules_of, instance_of, take_item}
use Rattle.machine.specs.FoundAt.{InstanceAt}
use Rattle.machine.specs.Quiet.{AllQuiet}
use Rattle.machine.specs.Plain.{AllSilent, AllPlain}

-- ---- what changes nothing that a fact reads
-- the same but for the refusal that is kept and for what requests were told
pub record Alike (i j : InstanceEntry) : Type 0 where
  pub term : j.term ≡ i.term
  pub epoch : j.epoch ≡ i.epoch
  pub last : j.last ≡ i.last
  pub ceiling : j.ceiling ≡ i.ceiling
  pub until : j.until ≡ i.until
  pub buckets : j.buckets ≡ i.buckets
  pub direct : j.direct ≡ i.direct
  pub requests : (s : ℕ) (new : Held) → held_of j s ≡ Some new → (old : Held) × (held_of i s ≡ Some old) × (new.request ≡ old.request) × (new.progress ≡ old.progress)

-- each instance was there, alike
pub record AlikeNodes (old new : List (Option InstanceEntry)) : Type 0 where
  pub each : (n : ℕ) (j : InstanceEntry) → InstanceAt new n j → (i : InstanceEntry) × InstanceAt old n i × Alike i j

-- a refusal of the master record, which the instance keeps
pub record Stopped (w : State) : Type 0 where
  pub node : ℕ
  pub i : InstanceEntry
  pub at : InstanceAt w.nodes node i
  pub why : Cause
  pub by : ((why ≡ Replaced w.master.term) × (w.master.term ≢ i.term)) ⊎ ((why ≡ Spent w.master.ceiling) × (w.master.term ≡ i.term) × (is_spent (rules_of w.setup) w.master ≡ true))

-- the request of a session at a node
pub record Serving (w : State) : Type 0 where
  pub node : ℕ
  pub session : ℕ
  pub i : InstanceEntry
  pub held : Held
  pub at : InstanceAt w.nodes node i
  pub has : held_of i session ≡ Some held

-- a request was told that it has to wait
pub record Told (w : State) : Type 0 where
  pub it : Serving w
  pub told : Held
  pub same_request : told.request ≡ it.held.request
  pub same_progress : told.progress ≡ it.held.progress
  pub items : List Item
  pub silent : AllSilent items

-- why the nodes are alike: they stay as they were, an instance keeps a refusal, a request was told something
pub data StillBy (w : State) (nodes : List (Option InstanceEntry)) (items : List Item) : Type 0 where
  Rests : nodes ≡ w.nodes → AllPlain items → StillBy w nodes items
  Stops : (k : Stopped w) → nodes ≡ slice_set w.nodes k.node (Some (instance_stopped k.i k.why)) → items ≡ item.Refused (Node k.node) k.why ∷ [] → StillBy w nodes items
  Tells : (k : Told w) → nodes ≡ slice_set w.nodes k.it.node (Some (with_request k.it.i k.it.session (Some k.told))) → items ≡ k.items → StillBy w nodes items

pub record Still (w : State) : Type 0 where
  pub seen : ℕ
  pub up : w.seen ≤ seen
  pub nodes : List (Option InstanceEntry)
  pub alike : AlikeNodes w.nodes nodes
  pub items : List Item
  pub quiet : AllQuiet items
  pub how : StillBy w nodes items

abbrev pub still_state : (w : State) → Still w → State
still_state w k = record w { seen = k.seen; nodes = k.nodes }

-- ---- the master record
-- a call that failed all the same shows its fault behind
abbrev pub fault_if : Bool → ℕ → List Item
fault_if true node = item.Fault (Node node) Master ∷ []
fault_if false node = []

-- a take was granted; where the call failed all the same, the node has no instance, and the fault stands behind
pub record Granted (w : State) : Type 0 where
  pub node : ℕ
  pub reading : ℕ
  pub vacant : slice_get w.nodes node ≡ Some None
  pub free : take_refused (rules_of w.setup) w.master reading ≡ None
  pub failed : Bool
  pub items : List Item
  pub tells : items ≡ take_item node reading (granted (rules_of w.setup) w.master reading) ∷ fault_if failed node
  pub quiet : AllQuiet items

abbrev pub granted_nodes : (w : State) → Granted w → Bool → List (Option InstanceEntry)
granted_nodes w k true = w.nodes
granted_nodes w k false = slice_set w.nodes k.node (Some (instance_of w.setup k.node (granted (rules_of w.setup) w.master k.reading)))

abbrev pub granted_state : (w : State) → Granted w → State
granted_state w k = record w { seen = max w.seen k.reading; nodes = granted_nodes w k k.failed; master = held_by k.node (granted (rules_of w.setup) w.master k.reading) }

-- a renewal was made; where the call failed all the same, the instance keeps its lease
pub record Renewed (w : State) : Type 0 where
  pub node : ℕ
  pub reading : ℕ
  pub i : InstanceEntry
  pub at : InstanceAt w.nodes node i
  pub own : w.master.term ≡ i.term
  pub failed : Bool
  pub items : List Item
  pub tells : items ≡ item.Renew node reading i.term (renewed_until (rules_of w.setup) w.master reading) ∷ fault_if failed node
  pub quiet : AllQuiet items

abbrev pub renewed_nodes : (w : State) → Renewed w → Bool → List (Option InstanceEntry)
renewed_nodes w k true = w.nodes
renewed_nodes w k false = slice_set w.nodes k.node (Some (instance_renewed k.i (renewed_until (rules_of w.setup) w.master k.reading)))

abbrev pub renewed_state : (w : State) → Renewed w → State
renewed_state w k = record w { seen = max w.seen k.reading; nodes = renewed_nodes w k k.failed; master = record w.master { until = renewed_until (rules_of w.setup) w.master k.reading } }

-- a range was added; where the call failed all the same, the instance keeps its range
pub record Extended (w : State) : Type 0 where
  pub node : ℕ
  pub i : InstanceEntry
  pub at : InstanceAt w.nodes node i
  pub own : w.master.term ≡ i.term
  pub room : is_spent (rules_of w.setup) w.master ≡ false
  pub failed : Bool
  pub items : List Item
  pub tells : items ≡ item.Extend node i.term (w.master.ceiling + w.setup.range) ∷ fault_if failed node
  pub quiet : AllQuiet items

abbrev pub extended_nodes : (w : State) → Extended w → Bool → List (Option InstanceEntry)
extended_nodes w k true = w.nodes
extended_nodes w k false = slice_set w.nodes k.node (Some (instance_widened k.i (w.master.ceiling + w.setup.range)))

abbrev pub extended_state : (w : State) → Extended w → State
extended_state w k = record w { nodes = extended_nodes w k k.failed; master = record w.master { ceiling = w.master.ceiling + w.setup.range } }
