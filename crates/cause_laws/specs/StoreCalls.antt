-- What the calls of sessions and of the janitor on the stores ask of the cells, and what is under way with them.
use Rattle.std.specs.Prelude.{◌≡◌, ℕ, IsTrue, List, ◌∷◌, None, Some, IfSome}
use Rattle.system_parts.specs.Rows.{Row, IsBare, HasOnly}
use Rattle.system_parts.specs.declared.resolve.SettlePoint.TheVariants.{Marking}
use Rattle.system_parts.specs.KeyRead.{Reading, may_mark, AreFetched}
use Rattle.system_parts.specs.SessionSteps.{handed_commit}
use Rattle.system_parts.specs.Sweep.{sweep_ask}
use Rattle.machine.specs.State.{Reads, Client, State}
use Rattle.machine.specs.Events.Step.{work_of, next_of, asked_next}
use Rattle.machine.specs.Calls.{MayStep, CanWork, KeepsShadowNext}
use Rattle.machine.specs.Events.Write.{write_refused}
use Rattle.machine.specs.Events.Heal.{offer_of}
use Rattle.isolation_laws.specs.Words.{ClientAt, HasRecord}

-- where a session may write at a key, the cell of its transaction is bare
abbrev pub WriteMayBeMade : State → Type 0
WriteMayBeMade w = (session key : ℕ) (c : Client) → ClientAt w.clients session c → write_refused c key ≡ None → IfSome c.entry.start (λ start. IsBare w.rows key start)

-- the shadow that is offered is the only one that its cell may have
abbrev pub HealMayBeMade : State → Type 0
HealMayBeMade w = (session : ℕ) (c : Client) → ClientAt w.clients session c → IfSome (offer_of c) (λ offer. HasOnly w.rows offer.0 offer.1 offer.2)

-- a read goes on over cells as a fetch gives them, and marks where it may
pub record ReadsFetched (r : Reading) : Type 0 where
  pub fetched : AreFetched r.start (r.cell ∷ r.older)
  pub marks : r.point ≡ Marking → IsTrue (may_mark r.every r.cell.version r.epoch)

abbrev pub ReadMayGoOn : State → Type 0
ReadMayGoOn w = (session : ℕ) (c : Client) (r : Reading) → ClientAt w.clients session c → c.under_way ≡ Reads r → ReadsFetched r

-- a step that is not refused asks something; where no commit is to be placed, the session can hear what the step comes to, and a
-- shadow that it sets is the only one that the cell may have
pub record CanStep (rows : List Row) (c : Client) : Type 0 where
  pub asks : MayStep c → asked_next c (handed_commit c.entry) ≡ None → ⊥
  pub work : MayStep c → handed_commit c.entry ≡ None → CanWork (work_of c) c.entry
  pub shadow : MayStep c → handed_commit c.entry ≡ None → KeepsShadowNext (next_of (work_of c)) rows

abbrev pub StepMayBeMade : State → Type 0
StepMayBeMade w = (session : ℕ) (c : Client) → ClientAt w.clients session c → CanStep w.rows c

-- so does a step of an open sweep
pub record SweepMayStep (w : State) : Type 0 where
  pub asks : IfSome w.sweep (λ s. sweep_ask s ≡ None → ⊥)
  pub shadow : IfSome w.sweep (λ s. KeepsShadowNext (sweep_ask s) w.rows)

-- the commit table has no commit of a transaction whose session is to place it
abbrev pub PlacingMayBeMade : State → Type 0
PlacingMayBeMade w = (session start commit other : ℕ) (c : Client) → ClientAt w.clients session c → handed_commit c.entry ≡ Some (start, commit) → HasRecord w.pairs start other → ⊥
