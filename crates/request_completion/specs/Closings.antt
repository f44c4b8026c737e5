-- What a session is told that leaves something to be done, and what must be the case before.
use Rattle.std.specs.Prelude.{◌≡◌, ◌⊎◌, ℕ, Bool, true, false, List, Some}
use Rattle.port_io.specs.declared.weather.Fate.{Fate}
use Rattle.history_book.specs.Members.{◌∈◌}
use Rattle.history_book.specs.declared.cause.Cause.{Cause}
use Rattle.history_book.specs.declared.cause.Cause.TheVariants as cause
use Rattle.history_book.specs.declared.item.Actor.TheVariants.{Session}
use Rattle.history_book.specs.declared.item.Item.{Item}
use Rattle.history_book.specs.declared.item.Item.TheVariants as item
use Rattle.system_parts.specs.declared.session.State.TheVariants as phase
use Rattle.machine.specs.declared.event.Event.{Event}
use Rattle.machine.specs.State.{Client, State}
use Rattle.machine.specs.Machine.{stepped}
use Rattle.cause_rules.specs.Asks.{its_ask}
use Rattle.cause_rules.specs.OpenAsks.{open_asks_of}
use Rattle.isolation_laws.specs.Words.{ClientAt}
use Rattle.cause_laws.specs.ShownInvariant.{ExplainedInvariant}

-- the refusal ends a commit, and leaves cells to erase
abbrev pub leaves_cells : Cause → Bool
leaves_cells (cause.Expired reading until) = true
leaves_cells (cause.OldEpoch start epoch) = true
leaves_cells (cause.Conflict key by) = true
leaves_cells (cause.Hidden key water) = true
leaves_cells (cause.Replaced found) = true
leaves_cells (cause.Spent ceiling) = true
leaves_cells (cause.Invalid start) = true
leaves_cells _ = false

-- the session is told of its commit, or of a refusal that leaves cells
abbrev pub Owes : ℕ → Item → Type 0
Owes s (item.Committed session start commit) = session ≡ s
Owes s (item.Refused (Session session) why) = (session ≡ s) × (leaves_cells why ≡ true)
Owes s _ = ⊥

-- nothing of this is told
abbrev pub NoneOwes : ℕ → List Item → Type 0
NoneOwes s items = (x : Item) → x ∈ items → Owes s x → ⊥

-- an ask of the session is open at a node
pub record HasOpenAsk (h : List Item) (s : ℕ) : Type 0 where
  pub node : ℕ
  pub one : open_asks_of h node s ≡ 1

-- the session finds out by itself how its commit stands: it places it, or its outcome is open
pub record IsAlone (w : State) (s : ℕ) : Type 0 where
  pub client : Client
  pub at : ClientAt w.clients s client
  pub alone : (client.entry.state ≡ phase.OpenOutcome) ⊎ (client.entry.state ≡ phase.Placing)

abbrev pub OwingNeedsAnAsk : Type 0
OwingNeedsAnAsk = (w : State) (h : List Item) (e : Event) (fate : Fate) (s : ℕ) (x : Item) → ExplainedInvariant w h → x ∈ (stepped w e fate).items → Owes s x → HasOpenAsk h s ⊎ IsAlone w s

-- the session's last ask was for the commit of the transaction with this start
pub record IsAskedFor (h : List Item) (s start : ℕ) : Type 0 where
  pub node : ℕ
  pub ask_is : its_ask h s ≡ Some (record { node = node; start = Some start })

abbrev pub CommitsAreAsked : Type 0
CommitsAreAsked =
    (w : State) (h : List Item) (e : Event) (fate : Fate) (s start commit : ℕ) → ExplainedInvariant w h → item.Committed s start commit ∈ (stepped w e fate).items → IsAskedFor h s start ⊎ IsAlone w s
