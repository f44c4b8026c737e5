-- What an event comes to for the work of sessions: reads, outcomes that are open, completions.
use Rattle.std.specs.Prelude.{[], ◌≡◌, ℕ, ◌≤◌, Bool, true, false, if◌then◌else◌, List, ◌∷◌, Option, None, Some, ◌⊎◌, slice_set}
use Rattle.stamp_base.specs.declared.stores.Mark.TheVariants.{Invalid as InvalidMark}
use Rattle.history_book.specs.declared.item.Actor.TheVariants.{Session}
use Rattle.history_book.specs.declared.item.StoreStep.TheVariants as step
use Rattle.history_book.specs.declared.item.Item.{Item}
use Rattle.history_book.specs.declared.item.Item.TheVariants as item
use Rattle.system_parts.specs.Rows.{fetched}
use Rattle.system_parts.specs.Pairs.{Pairs, put_pair}
use Rattle.system_parts.specs.declared.asks.Ask.{Ask}
use Rattle.system_parts.specs.declared.session.State.TheVariants as phase
use Rattle.system_parts.specs.Resolve.{Settling, settle_ask, settle_turn}
use Rattle.system_parts.specs.KeyRead.{Reading, ReadTurn, read_ask}
use Rattle.system_parts.specs.Cache.{put_fresh}
use Rattle.system_parts.specs.Recalled.{Remembering}
use Rattle.machine.specs.State.{UnderWay, Nothing, Reads, Settles, Completes, Client, State}
use Rattle.machine.specs.Clients.{is_reading, client_freed}
use Rattle.machine.specs.StoreSteps.{rows_after, pairs_after, told_by}
use Rattle.machine.specs.Events.Fetch.{client_put_fresh, fetch_recall, client_read, read_items, client_fetched, fetch_refused}
use Rattle.machine.specs.Events.Step.{step_recall, client_settled, settle_items, own_resolve, after_asks}
use Rattle.machine.specs.Faults.{faults_in}
use Rattle.machine.specs.FoundAt.{ClientAt}
use Rattle.machine.specs.Quiet.{Quiet, AllQuiet}
use Rattle.machine.specs.Plain.{Silent, AllSilent}
use Rattle.machine.specs.Outcome.OutcomesOfSessions.{AtOpen}
use Rattle.machine.specs.MarksTold.{MarksTold}

-- ---- reads
pub record Fetched (w : State) : Type 0 where
  pub it : AtOpen w
  pub key : ℕ
  pub start : ℕ
  pub epoch : ℕ
  pub start_is : it.c.entry.start ≡ Some start
  pub epoch_is : it.c.entry.epoch ≡ Some epoch
  pub may : fetch_refused w.setup it.c key ≡ None
  pub cells : ℕ
  pub first : Item
  pub tells : first ≡ item.Step (Session it.session) (step.Fetch key cells)
  pub quiet : Quiet first
  pub silent : Silent first

-- the read over the cells that were fetched, and what the session remembers then
abbrev pub fetched_recall : (w : State) → Fetched w → Remembering
fetched_recall w k = fetch_recall w.setup k.key k.start k.epoch k.it.c (fetched w.rows k.key k.start)

abbrev pub fetched_turn : (w : State) → Fetched w → ReadTurn
fetched_turn w k = (fetched_recall w k).0

-- the client, whose transaction may now have read the key
abbrev pub fetched_client : (w : State) → Fetched w → Client
fetched_client w k = record (client_fetched w.setup k.it.c k.key) { cache = (fetched_recall w k).1 }

abbrev pub fetched_state : (w : State) → Fetched w → State
fetched_state w k = record w { clients = slice_set w.clients k.it.session (client_read (fetched_client w k) (fetched_turn w k)) }

abbrev pub fetched_items : (w : State) → Fetched w → List Item
fetched_items w k = k.first ∷ read_items k.it.session k.start k.key (fetched_turn w k)

-- the table may have got a mark, by a call that failed all the same
abbrev pub MayHaveMarked : Pairs → Pairs → Type 0
MayHaveMarked old new = (new ≡ old) ⊎ ((t : ℕ) × (new ≡ put_pair old t InvalidMark))

-- a read failed, and is over; so is an offer. What was just decided is kept all the same
pub record ReadDropped (w : State) : Type 0 where
  pub session : ℕ
  pub c : Client
  pub under_way : UnderWay
  pub client_at : ClientAt w.clients session c
  pub under_way_is : ((under_way ≡ c.under_way) × (is_reading c ≡ false)) ⊎ (((r : Reading) × (c.under_way ≡ Reads r)) × (under_way ≡ Nothing))
  pub heal : Option (ℕ × ℕ × ℕ)
  pub heal_is : (heal ≡ c.heal) ⊎ (heal ≡ None)
  pub pairs : Pairs
  pub pairs_are : MayHaveMarked w.pairs pairs
  pub items : List Item
  pub marks : MarksTold w.pairs pairs items
  pub quiet : AllQuiet items
  pub silent : AllSilent items

abbrev pub read_dropped_state : (w : State) → ReadDropped w → State
read_dropped_state w k = record w { clients = slice_set w.clients k.session (record k.c { under_way = k.under_way; heal = k.heal; cache = put_fresh k.c.cache }); pairs = k.pairs }

pub record ReadStepped (w : State) : Type 0 where
  pub session : ℕ
  pub c : Client
  pub r : Reading
  pub client_at : ClientAt w.clients session c
  pub under_way : c.under_way ≡ Reads r
  pub first : Item
  pub marks : MarksTold w.pairs (pairs_after (read_ask r) w.pairs) (first ∷ [])
  pub quiet : Quiet first
  pub silent : Silent first

-- what the read comes to by its next answer, and what the session remembers then
abbrev pub read_recall : (w : State) → ReadStepped w → Remembering
read_recall w k = step_recall (client_put_fresh k.c) k.r (told_by (read_ask k.r) w.rows w.pairs)

abbrev pub read_turn : (w : State) → ReadStepped w → ReadTurn
read_turn w k = (read_recall w k).0

abbrev pub read_client : (w : State) → ReadStepped w → Client
read_client w k = record k.c { cache = (read_recall w k).1 }

abbrev pub read_stepped_state : (w : State) → ReadStepped w → State
read_stepped_state w k = record w { clients = slice_set w.clients k.session (client_read (read_client w k) (read_turn w k)); pairs = pairs_after (read_ask k.r) w.pairs }

abbrev pub read_stepped_items : (w : State) → ReadStepped w → List Item
read_stepped_items w k = k.first ∷ read_items k.session k.r.start k.r.key (read_turn w k)

-- ---- an outcome that is open
pub record AtOpenOutcome (w : State) : Type 0 where
  pub session : ℕ
  pub c : Client
  pub client_at : ClientAt w.clients session c
  pub is_open : c.entry.state ≡ phase.OpenOutcome

pub record OutcomeStepped (w : State) : Type 0 where
  pub it : AtOpenOutcome w
  pub x : Settling
  pub work : (it.c.under_way ≡ Settles x) ⊎ ((it.c.under_way ≡ Nothing) × (own_resolve it.c.entry.start it.c.entry.keys ≡ Settles x))
  pub first : Item
  pub silent : Silent first
  pub items : List Item
  pub tells : items ≡ first ∷ settle_items it.session it.c.entry.start (settle_turn x (told_by (settle_ask x) w.rows w.pairs))
  pub marks : MarksTold w.pairs (pairs_after (settle_ask x) w.pairs) items
  pub quiet : AllQuiet items

abbrev pub outcome_state : (w : State) → OutcomeStepped w → State
outcome_state w k = record w { clients = slice_set w.clients k.it.session (client_settled k.it.c k.x (settle_turn k.x (told_by (settle_ask k.x) w.rows w.pairs))); pairs = pairs_after (settle_ask k.x) w.pairs }

pub record OutcomeFailed (w : State) : Type 0 where
  pub it : AtOpenOutcome w
  pub pairs : Pairs
  pub pairs_are : MayHaveMarked w.pairs pairs
  pub items : List Item
  pub marks : MarksTold w.pairs pairs items
  pub quiet : AllQuiet items
  pub silent : AllSilent items

abbrev pub outcome_failed_state : (w : State) → OutcomeFailed w → State
outcome_failed_state w k = record w { clients = slice_set w.clients k.it.session (record k.it.c { under_way = Nothing }); pairs = k.pairs }

-- ---- completions: a step, which may have failed, with effect or without; then the fault is told
pub record CompletedOne (w : State) : Type 0 where
  pub session : ℕ
  pub undo : Bool
  pub c : Client
  pub asked : Ask
  pub asks : List Ask
  pub client_at : ClientAt w.clients session c
  pub completing : c.entry.state ≡ phase.Completing undo
  pub under_way : c.under_way ≡ Completes (asked ∷ asks)
  pub applied : Bool
  pub left : Client
  pub items : List Item
  pub left_is : ((left ≡ after_asks c asks) × (applied ≡ true)) ⊎ ((left ≡ client_freed c) × (1 ≤ faults_in items))
  pub marks : MarksTold w.pairs (if applied then pairs_after asked w.pairs else w.pairs) items
  pub quiet : AllQuiet items
  pub silent : AllSilent items

abbrev pub completed_state : (w : State) → CompletedOne w → State
completed_state w k = record w {
  clients = slice_set w.clients k.session k.left;
  rows = if k.applied then rows_after k.asked w.rows else w.rows;
  pairs = if k.applied then pairs_after k.asked w.pairs else w.pairs;
}
