-- The parts that an event locks.
use Rattle.std.specs.Prelude.{◌≡◌, ℕ, ◌<◌, length, true, IfSome}
use Rattle.atomic_table.specs.Seated.{TableId}
use Rattle.tick_word.specs.Rule.{seat_limit}
use Rattle.split_parts.specs.declared.event.Event.{Event}
use Rattle.split_parts.specs.declared.event.Event.TheVariants as event
use Rattle.split_parts.specs.Agrees.{HasParts}
use Rattle.split_parts.specs.Lookups.{session_at}
use Rattle.split_stores.specs.Logs.{Logged, CanRise}
use Rattle.split_parts.specs.Parts.{Parts, node_asked}

-- a session that is lent as this one is it
abbrev pub IsSession : Parts → ℕ → Type 0
IsSession l session = IfSome (session_at l session) (λ own. own.number ≡ session)

-- a node that is lent is this one
abbrev pub IsNode : Parts → ℕ → Type 0
IsNode l node = IfSome l.node (λ n. n.node ≡ node)

-- a session and a node that are lent are the event's
abbrev pub IsInPlace : Parts → Event → Type 0
IsInPlace l (event.Take node) = IsNode l node
IsInPlace l (event.Renew node) = IsNode l node
IsInPlace l (event.Extend node) = IsNode l node
IsInPlace l (event.Crash node) = ((session : ℕ) → session < 16 → IsSession l session) × IsNode l node
IsInPlace l (event.AskBegin session to) = IsSession l session × IsNode l (node_asked l to)
IsInPlace l (event.AskCommit session to) = IsSession l session × IsNode l (node_asked l to)
IsInPlace l (event.Accept node session) = IsSession l session × IsNode l node
IsInPlace l (event.Decide node session) = IsSession l session × IsNode l node
IsInPlace l (event.Put node session) = IsNode l node
IsInPlace l (event.Answer node session) = IsSession l session × IsNode l node
IsInPlace l (event.Write session key value) = IsSession l session
IsInPlace l (event.Fetch session key) = IsSession l session
IsInPlace l (event.Step session) = IsSession l session
IsInPlace l (event.Heal session) = IsSession l session
IsInPlace l (event.Abort session) = IsSession l session
IsInPlace l (event.Vanish session) = IsSession l session
IsInPlace l (event.SweepOpen node txn) = IsNode l node
IsInPlace l _ = Unit {0}

-- whatever parts of this kind are lent, they are those that the event has to do with, if they are in their places
abbrev pub Suffices : (Parts → Type 0) → Event → Type 0
Suffices lent e = (l : Parts) → lent l → IsInPlace l e → HasParts l e

-- the seat is of the word, and there is room for an entry of the event
pub record IsReady (id : TableId) (e : Event) (log : Logged) : Type 0 where
  pub word : log.word ≡ id
  pub few : length log.entries < seat_limit
  pub rises : CanRise e log.entries
  pub room : log.ready ≡ true
