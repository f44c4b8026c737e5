-- What an event makes of a session, and what it tells of it.
use Rattle.std.specs.Prelude.{◌≡◌, ◌⊎◌, ℕ, Bool, true, List, [], ◌∷◌, ◌++◌, Option, None, Some}
use Rattle.port_io.specs.declared.weather.Fate.{Fate}
use Rattle.history_book.specs.Members.{◌∈◌}
use Rattle.history_book.specs.declared.cause.Cause.{Cause}
use Rattle.history_book.specs.declared.cause.Cause.TheVariants as cause
use Rattle.history_book.specs.declared.item.Actor.TheVariants.{Session}
use Rattle.history_book.specs.declared.item.Item.{Item}
use Rattle.history_book.specs.declared.item.Item.TheVariants as item
use Rattle.system_parts.specs.declared.session.State.{State as SessionState}
use Rattle.system_parts.specs.declared.session.State.TheVariants as phase
use Rattle.system_parts.specs.SessionSteps.{SessionEntry, session_wrote}
use Rattle.machine.specs.declared.event.Event.{Event}
use Rattle.machine.specs.State.{Client, State}
use Rattle.machine.specs.Clients.{client_aborted, client_committed, client_opened}
use Rattle.machine.specs.Machine.{stepped}
use Rattle.cause_rules.specs.Asks.{its_ask}
use Rattle.isolation_laws.specs.Words.{ClientAt}
use Rattle.cause_laws.specs.ShownInvariant.{ExplainedInvariant}
use Rattle.request_completion.specs.Closings.{leaves_cells, NoneOwes}

-- ---- what is told
-- the refusal ends a commit, or leaves open how it ends
abbrev pub ends_commit : Cause → Bool
ends_commit (cause.Open start) = true
ends_commit why = leaves_cells why

-- the session is told how its commit ends
abbrev pub EndsCommit : ℕ → Item → Type 0
EndsCommit s (item.Committed session start commit) = session ≡ s
EndsCommit s (item.Refused (Session session) why) = (session ≡ s) × (ends_commit why ≡ true)
EndsCommit s _ = ⊥

-- it is not told so
abbrev pub NoneEnds : ℕ → List Item → Type 0
NoneEnds s items = (x : Item) → x ∈ items → EndsCommit s x → ⊥

-- it is told so by the last of the items alone
pub record EndsWith (s : ℕ) (x : Item) (items : List Item) : Type 0 where
  pub front : List Item
  pub is : items ≡ front ++ x ∷ []
  pub none : NoneEnds s front

-- it is told neither of a commit, nor that an outcome is open
pub record NoCommit (s : ℕ) (items : List Item) : Type 0 where
  pub none : (start commit : ℕ) → item.Committed s start commit ∈ items → ⊥
  pub open_none : (start : ℕ) → item.Refused (Session s) (cause.Open start) ∈ items → ⊥

-- ---- where a session stands
-- its last ask was for a begin, or for the commit of the transaction with this start
abbrev pub IsAsked : List Item → ℕ → Option ℕ → Type 0
IsAsked h s start = (node : ℕ) × (its_ask h s ≡ Some (record { node = node; start = start }))

-- it waits for the end of the commit that it asked for
pub record IsCommitting (h : List Item) (s start : ℕ) (c : Client) : Type 0 where
  pub state : (c.entry.state ≡ phase.Committing) ⊎ (c.entry.state ≡ phase.Placing)
  pub start_is : c.entry.start ≡ Some start
  pub asked : IsAsked h s (Some start)

-- it has a transaction to which it may still find the commit
abbrev pub MayCommit : List Item → ℕ → ℕ → Client → Type 0
MayCommit h s start c = IsCommitting h s start c ⊎ ((c.entry.state ≡ phase.OpenOutcome) × (c.entry.start ≡ Some start))

-- its transaction may end without a word
abbrev pub MayFree : SessionState → Type 0
MayFree state = (state ≡ phase.Open) ⊎ ((undo : Bool) × (state ≡ phase.Completing undo))

-- its transaction has ended without a commit: what it wrote is erased, or it wrote nothing
abbrev pub IsUndone : SessionEntry → SessionEntry → Type 0
IsUndone old new = ((new.state ≡ phase.Completing true) × (new.start ≡ old.start)) ⊎ (new.state ≡ phase.Free)

-- ---- the transition of a session: the history before, its client before and after, and what is told
pub data SessionTransition (h : List Item) (s : ℕ) (c : Client) (items : List Item) (d : Client) : Type 0 where
  -- its transaction stays as it was
  Rests : d.entry ≡ c.entry → NoneEnds s items → SessionTransition h s c items d
  -- it asks for a begin, or for its commit
  AsksBegin : (node : ℕ) → c.entry.state ≡ phase.Free → d.entry.state ≡ phase.Asking → items ≡ item.AskBegin s node ∷ [] → SessionTransition h s c items d
  AsksCommit : (node start : ℕ) → c.entry.state ≡ phase.Open → d.entry.state ≡ phase.Committing → c.entry.start ≡ Some start → d.entry.start ≡ Some start → items ≡ item.AskCommit s node start ∷ [] → SessionTransition h s c items d
  -- its begin is answered, or refused
  Begins : c.entry.state ≡ phase.Asking → d.entry.state ≡ phase.Open → d.entry.keys ≡ [] → IsAsked h s None → NoneEnds s items → SessionTransition h s c items d
  LosesBegin : c.entry.state ≡ phase.Asking → d.entry.state ≡ phase.Free → IsAsked h s None → NoCommit s items → SessionTransition h s c items d
  -- it writes
  Writes : (start key : ℕ) (value : List ℕ) → c.entry.state ≡ phase.Open → d.entry ≡ session_wrote c.entry key → c.entry.start ≡ Some start → items ≡ item.Write s start key value ∷ [] → SessionTransition h s c items d
  -- its transaction ends, or its completion
  Frees : MayFree c.entry.state → d.entry.state ≡ phase.Free → NoneEnds s items → SessionTransition h s c items d
  Undoes : (c.entry.state ≡ phase.Open) ⊎ (c.entry.state ≡ phase.OpenOutcome) → IsUndone c.entry d.entry → NoneEnds s items → SessionTransition h s c items d
  -- its commit is handed to it
  Hands : c.entry.state ≡ phase.Committing → d.entry.state ≡ phase.Placing → d.entry.start ≡ c.entry.start → NoneEnds s items → SessionTransition h s c items d
  -- it is told of its commit, of its refusal, or that its outcome is open
  Commits : (start commit : ℕ) → MayCommit h s start c → EndsWith s (item.Committed s start commit) items → d ≡ client_committed c commit → SessionTransition h s c items d
  Refuses : (start : ℕ) (why : Cause) → IsCommitting h s start c → leaves_cells why ≡ true → EndsWith s (item.Refused (Session s) why) items → d ≡ client_aborted c → SessionTransition h s c items d
  LeavesOpen : (start : ℕ) → IsCommitting h s start c → item.Refused (Session s) (cause.Open start) ∈ items → NoneOwes s items → d ≡ client_opened c → SessionTransition h s c items d
  -- it vanishes, or is gone
  Vanishes : d.entry.state ≡ phase.Gone → items ≡ item.Vanish s ∷ [] → SessionTransition h s c items d
  IsGone : c.entry.state ≡ phase.Gone → d ≡ c → SessionTransition h s c items d

abbrev pub SessionsTakeTurns : Type 0
SessionsTakeTurns =
    (w : State) (h : List Item) (e : Event) (fate : Fate) (s : ℕ) (c d : Client) → ExplainedInvariant w h → ClientAt w.clients s c → ClientAt (stepped w e fate).state.clients s d → SessionTransition h s c (stepped w e fate).items d

-- whoever is told of a begin, or to wait with it, or that a crash has lost it, asked for a begin last
abbrev pub OfBegin : ℕ → Item → Type 0
OfBegin s (item.Begin session start) = session ≡ s
OfBegin s (item.Refused (Session session) (cause.NotYet commit)) = session ≡ s
OfBegin s (item.Refused (Session session) (cause.Crashed node term)) = session ≡ s
OfBegin s _ = ⊥

abbrev pub BeginsAreAsked : Type 0
BeginsAreAsked = (w : State) (h : List Item) (e : Event) (fate : Fate) (s : ℕ) (x : Item) → ExplainedInvariant w h → x ∈ (stepped w e fate).items → OfBegin s x → IsAsked h s None

-- ---- asks
-- who asks was free, or had its transaction open, and the ask is told alone
pub record TakesAsks (s : ℕ) (c : Client) (items : List Item) (d : Client) : Type 0 where
  pub begins : (node : ℕ) → item.AskBegin s node ∈ items → (c.entry.state ≡ phase.Free) × (d.entry.state ≡ phase.Asking) × (items ≡ item.AskBegin s node ∷ [])
  pub commits : (node start : ℕ) → item.AskCommit s node start ∈ items → (c.entry.state ≡ phase.Open) × (d.entry.state ≡ phase.Committing) × (c.entry.start ≡ Some start) × (d.entry.start ≡ Some start) × (items ≡ item.AskCommit s node start ∷ [])

abbrev pub AsksAreTurns : Type 0
AsksAreTurns =
    (w : State) (h : List Item) (e : Event) (fate : Fate) (s : ℕ) (c d : Client) → ExplainedInvariant w h → ClientAt w.clients s c → ClientAt (stepped w e fate).state.clients s d → TakesAsks s c (stepped w e fate).items d
