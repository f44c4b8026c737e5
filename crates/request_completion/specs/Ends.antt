-- What the history shows of sessions whose asks and transactions come to their end.
use Rattle.std.specs.Prelude.{◌≡◌, ℕ, Bool, true, false, List, ◌∷◌, ◌++◌, Option, Some}
use Rattle.stamp_base.specs.declared.stores.Store.{Store}
use Rattle.history_book.specs.Members.{◌∈◌}
use Rattle.history_book.specs.declared.cause.Cause.{Cause}
use Rattle.history_book.specs.declared.cause.Cause.TheVariants as cause
use Rattle.history_book.specs.declared.item.Actor.TheVariants.{Session}
use Rattle.history_book.specs.declared.item.StoreStep.TheVariants as step
use Rattle.history_book.specs.declared.item.Item.{Item}
use Rattle.history_book.specs.declared.item.Item.TheVariants as item
use Rattle.system_parts.specs.declared.asks.Ask.{Ask}
use Rattle.system_parts.specs.declared.asks.Ask.TheVariants as ask
use Rattle.system_parts.specs.declared.session.State.TheVariants as phase
use Rattle.system_parts.specs.declared.instance.Held.{Held}
use Rattle.system_parts.specs.Instance.{InstanceEntry, held_of, was_told_not_yet}
use Rattle.machine.specs.State.{Completes, Client, State}
use Rattle.cause_rules.specs.Asks.{its_ask, since_ask}
use Rattle.cause_rules.specs.Written.{written_keys}
use Rattle.isolation_laws.specs.Words.{InstanceAt, ClientAt, Begun}
use Rattle.isolation_laws.specs.Pending.{IsOpen}
use Rattle.request_completion.specs.Closings.{leaves_cells}

-- ---- since a session's last ask
-- it was told that it has to wait
abbrev pub WasToldToWait : List Item → ℕ → Type 0
WasToldToWait h s = (commit : ℕ) × (item.Refused (Session s) (cause.NotYet commit) ∈ since_ask h s)

-- so it was where an instance says so of its request
pub record AreToldWaits (nodes : List (Option InstanceEntry)) (h : List Item) : Type 0 where
  pub told : (n s : ℕ) (i : InstanceEntry) → InstanceAt nodes n i → was_told_not_yet i s ≡ true → WasToldToWait h s

-- it has vanished, where it is gone
pub record AreGoneSince (clients : List Client) (h : List Item) : Type 0 where
  pub vanished : (s : ℕ) (c : Client) → ClientAt clients s c → c.entry.state ≡ phase.Gone → item.Vanish s ∈ since_ask h s

-- it asked for the commit of its transaction, and was told since that the outcome is open
pub record WasToldOpen (h : List Item) (s : ℕ) (c : Client) : Type 0 where
  pub start : ℕ
  pub start_is : c.entry.start ≡ Some start
  pub node : ℕ
  pub asked : its_ask h s ≡ Some (record { node = node; start = Some start })
  pub told : item.Refused (Session s) (cause.Open start) ∈ since_ask h s

-- so it was where its outcome is open
pub record AreToldOpen (clients : List Client) (h : List Item) : Type 0 where
  pub told : (s : ℕ) (c : Client) → ClientAt clients s c → c.entry.state ≡ phase.OpenOutcome → WasToldOpen h s c

-- ---- transactions whose commit was asked for
-- a node holds a request of the session
pub record IsHeld (nodes : List (Option InstanceEntry)) (s : ℕ) : Type 0 where
  pub node : ℕ
  pub i : InstanceEntry
  pub held : Held
  pub at : InstanceAt nodes node i
  pub has : held_of i s ≡ Some held

-- so it is while the session waits for the end of its commit, and does not place it itself
pub record AreAwaited (nodes : List (Option InstanceEntry)) (clients : List Client) : Type 0 where
  pub each : (s : ℕ) (c : Client) → ClientAt clients s c → c.entry.state ≡ phase.Committing → IsHeld nodes s

-- such a transaction was begun by its session, is open nowhere, and writes no further key
pub record AreClosed (clients : List Client) (h : List Item) : Type 0 where
  pub begun : (s n start : ℕ) → item.AskCommit s n start ∈ h → Begun h s start
  pub closed : (s n start : ℕ) → item.AskCommit s n start ∈ h → IsOpen clients start → ⊥
  pub keys : (before behind : List Item) (s n start : ℕ) → h ≡ before ++ item.AskCommit s n start ∷ behind → written_keys h start ≡ written_keys before start

-- ---- completions
-- the session completes the transaction, and this is still to be asked
pub record IsToAsk (clients : List Client) (s start : ℕ) (undo : Bool) (asked : Ask) : Type 0 where
  pub client : Client
  pub at : ClientAt clients s client
  pub completes : client.entry.state ≡ phase.Completing undo
  pub start_is : client.entry.start ≡ Some start
  pub asks : List Ask
  pub under_way : client.under_way ≡ Completes asks
  pub left : asked ∈ asks

-- the session is gone, and vanished since its last ask
pub record HasVanished (clients : List Client) (h : List Item) (s : ℕ) : Type 0 where
  pub client : Client
  pub at : ClientAt clients s client
  pub gone : client.entry.state ≡ phase.Gone
  pub told : item.Vanish s ∈ since_ask h s

-- what has come so far of a step of a completion: it was made, a call of the session failed, the session has vanished, or the
-- step is still to be made
pub data Comes (clients : List Client) (h : List Item) (s start : ℕ) (undo : Bool) (asked : Ask) (made : Item) (behind : List Item) : Type 0 where
  Made : made ∈ behind → Comes clients h s start undo asked made behind
  Failed : (store : Store) → item.Fault (Session s) store ∈ behind → Comes clients h s start undo asked made behind
  Vanished : HasVanished clients h s → Comes clients h s start undo asked made behind
  Left : IsToAsk clients s start undo asked → Comes clients h s start undo asked made behind

-- behind each commit that a session is told its record is removed
pub record AreRemoved (clients : List Client) (h : List Item) : Type 0 where
  pub each : (before behind : List Item) (s start commit : ℕ) → h ≡ before ++ item.Committed s start commit ∷ behind → Comes clients h s start false (ask.Remove start) (item.Step (Session s) (step.Remove start)) behind

-- behind each refusal that ended a commit and leaves cells, each key that the transaction wrote is erased
pub record AreErased (clients : List Client) (h : List Item) : Type 0 where
  pub each : (before behind : List Item) (s node start key : ℕ) (why : Cause) → h ≡ before ++ item.Refused (Session s) why ∷ behind → leaves_cells why ≡ true → its_ask before s ≡ Some (record { node = node; start = Some start }) → key ∈ written_keys h start →
      Comes clients h s start true (ask.Erase key start) (item.Step (Session s) (step.Erase key start)) behind

-- ---- all of them
pub record Ends (w : State) (h : List Item) : Type 0 where
  pub waits : AreToldWaits w.nodes h
  pub gone : AreGoneSince w.clients h
  pub outcomes : AreToldOpen w.clients h
  pub awaited : AreAwaited w.nodes w.clients
  pub closed : AreClosed w.clients h
  pub removed : AreRemoved w.clients h
  pub erased : AreErased w.clients h
