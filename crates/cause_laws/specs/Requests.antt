-- What the history shows of the requests that instances hold.
use Rattle.std.specs.Prelude.{◌≡◌, ◌≢◌, ℕ, Bool, false, if◌then◌else◌, List, length, slice_get, Option, None, Some, is_some}
use Rattle.stamp_base.specs.SetupNumbers.{SetupNumbers}
use Rattle.stamp_base.specs.declared.stores.Store.TheVariants.{Table}
use Rattle.history_book.specs.Members.{◌∈◌}
use Rattle.history_book.specs.declared.item.Actor.{Actor}
use Rattle.history_book.specs.declared.item.Actor.TheVariants.{Node}
use Rattle.history_book.specs.declared.item.Item.{Item}
use Rattle.history_book.specs.declared.item.Item.TheVariants.{Mark, Fault}
use Rattle.system_parts.specs.declared.session.State.TheVariants.{Placing}
use Rattle.system_parts.specs.declared.instance.Progress.{Progress}
use Rattle.system_parts.specs.declared.instance.Progress.TheVariants.{Asked, Drawn, Settled}
use Rattle.system_parts.specs.declared.instance.Request.{Request}
use Rattle.system_parts.specs.declared.instance.Request.TheVariants.{Begin, Commit}
use Rattle.system_parts.specs.declared.instance.Settled.TheVariants as how
use Rattle.system_parts.specs.Instance.{InstanceEntry, held_of, stamps_by}
use Rattle.machine.specs.State.{Client}
use Rattle.cause_rules.specs.Asks.{Ask, its_ask, its_term, its_draw, since_draw}
use Rattle.cause_rules.specs.OpenAsks.{open_asks_of}
use Rattle.isolation_laws.specs.Words.{InstanceAt, HeldBy, ClientAt}

-- the ask that a request at a node comes from
abbrev pub ask_for : ℕ → Request → Ask
ask_for n (Begin session) = record { node = n; start = None }
ask_for n (Commit session start keys) = record { node = n; start = Some start }

-- the last ask of a session is that of its request; so are the term in which it was accepted, and its draw
pub record AreAsked (nodes : List (Option InstanceEntry)) (h : List Item) : Type 0 where
  pub asked : (n s : ℕ) (i : InstanceEntry) (request : Request) (p : Progress) → InstanceAt nodes n i → HeldBy i s request p → its_ask h s ≡ Some (ask_for n request)
  pub accepted : (n s : ℕ) (i : InstanceEntry) (request : Request) (p : Progress) → InstanceAt nodes n i → HeldBy i s request p → p ≢ Asked → its_term h s ≡ Some i.term
  pub drawn : (n s : ℕ) (i : InstanceEntry) (request : Request) (p : Progress) (stamps : ℕ × Option ℕ) → InstanceAt nodes n i → HeldBy i s request p → stamps_by request p ≡ Some stamps → its_draw h s ≡ Some stamps

-- where the put of a commit failed, the fault stands after its draw; where it found a mark, that was placed
pub record AreFaulted (nodes : List (Option InstanceEntry)) (h : List Item) : Type 0 where
  pub faulted : (n s r t c : ℕ) (i : InstanceEntry) (keys : List ℕ) → InstanceAt nodes n i → HeldBy i s (Commit r t keys) (Settled c how.Faulted) → Fault (Node n) Table ∈ since_draw h s
  pub marked : (n s r t c : ℕ) (i : InstanceEntry) (keys : List ℕ) → InstanceAt nodes n i → HeldBy i s (Commit r t keys) (Settled c how.Invalid) → (actor : Actor) × (Mark actor t ∈ h)

-- a commit that its node puts, or has put, is of the form in which no session places its own
abbrev pub WhereNodesPut : Bool → Request → Progress → Type 0
WhereNodesPut direct (Commit session start keys) (Drawn commit) = direct ≡ false
WhereNodesPut direct (Commit session start keys) (Settled commit by) = direct ≡ false
WhereNodesPut direct request progress = Unit {0}

pub record ArePutByNodes (setup : SetupNumbers) (nodes : List (Option InstanceEntry)) : Type 0 where
  pub each : (n s : ℕ) (i : InstanceEntry) (request : Request) (p : Progress) → InstanceAt nodes n i → HeldBy i s request p → WhereNodesPut setup.direct request p

-- a session that places its commit asked for it last, and its draw is that of the commit
pub record AskedToPlace (h : List Item) (s start commit : ℕ) : Type 0 where
  pub node : ℕ
  pub asked : its_ask h s ≡ Some (record { node = node; start = Some start })
  pub drawn : its_draw h s ≡ Some (start, Some commit)

pub record ArePlacingAsked (clients : List Client) (h : List Item) : Type 0 where
  pub each : (s start commit : ℕ) (c : Client) → ClientAt clients s c → c.entry.state ≡ Placing → c.entry.start ≡ Some start → c.entry.commit ≡ Some commit → AskedToPlace h s start commit

-- how many requests of the session are held there
abbrev pub held_count : Option InstanceEntry → ℕ → ℕ
held_count None s = 0
held_count (Some i) s = if is_some (held_of i s) then 1 else 0

-- a session's asks at a node are open exactly where the node holds its request
pub record AreOpenAsks (setup : SetupNumbers) (nodes : List (Option InstanceEntry)) (h : List Item) : Type 0 where
  pub each : (n s : ℕ) (post : Option InstanceEntry) → slice_get nodes n ≡ Some post → open_asks_of h n s ≡ held_count post s
  pub slots : (n : ℕ) (i : InstanceEntry) → InstanceAt nodes n i → i.slots ≡ setup.slots
  pub sixteen : (n : ℕ) (i : InstanceEntry) → InstanceAt nodes n i → length i.requests ≡ 16
