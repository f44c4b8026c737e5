-- What a session is doing tells of its state and of its next event.
use Rattle.std.proofs.Common.{arith}
use Rattle.command_semantics.proofs.Names.{◌≡◌, ◌⊎◌, ℕ, Bool, Option, Some, None}
use Rattle.command_semantics.proofs.Names.{same_Some, none-some, Fate, Cause, Session, SessionState}
use Rattle.command_semantics.proofs.Names.{step_refusal, handed_by, Doing, Event, Client, State, is_reading}
use Rattle.command_semantics.proofs.Names.{stepped}
use Rattle.command_semantics.proofs.Names.{doing_by, client_doing, ClientAt, finish_next, placing_next, idle_next}
use Rattle.command_semantics.proofs.Names.{read_next, steps_next, refused, refused_by, Refused}
use Rattle.system_parts.specs.declared.session.State.TheVariants as phase
use Rattle.machine.specs.declared.event.Event.TheVariants as event
use Rattle.command_semantics.proofs.Working.{HasWork}
use Rattle.command_semantics.proofs.Stepping.{stores_step}

-- ---- what a session is doing tells of its state
-- it completes
pub record Finishing (s : ℕ) (state : SessionState) (e : Event) : Type 0 where
  pub event_is : event.Step s ≡ e
  pub undo : Bool
  pub state_is : state ≡ phase.Completing undo

pub finishing_by : (s : ℕ) (state : SessionState) (reading : Bool) (e : Event) → finish_next s (doing_by state reading) ≡ Some e → Finishing s state e
finishing_by s state reading e is = grind (arith, same_Some, none-some)

-- it has a commit to place
pub record Placing (s : ℕ) (state : SessionState) (e : Event) : Type 0 where
  pub event_is : event.Step s ≡ e
  pub state_is : state ≡ phase.Placing

-- it places its commit, or completes
pub placing_by : (s : ℕ) (state : SessionState) (reading placed : Bool) (e : Event) → placing_next s (doing_by state reading) placed ≡ Some e → Placing s state e ⊎ Finishing s state e
placing_by s state reading placed e is = grind (arith, same_Some, none-some, finishing_by)

-- it has something under way
pub record Stepping (s : ℕ) (state : SessionState) (reading : Bool) (e : Event) : Type 0 where
  pub event_is : event.Step s ≡ e
  pub goes : step_refusal state reading ≡ None

pub stepping_by : (s : ℕ) (state : SessionState) (reading : Bool) (e : Event) → steps_next s (doing_by state reading) ≡ Some e → Stepping s state reading e
stepping_by s state reading e is = grind (arith, same_Some, none-some)

-- it reads
pub record ReadingOn (s : ℕ) (state : SessionState) (reading : Bool) (e : Event) : Type 0 where
  pub event_is : event.Step s ≡ e
  pub goes : step_refusal state reading ≡ None
  pub state_is : state ≡ phase.Open

pub reading_by : (s : ℕ) (state : SessionState) (reading : Bool) (e : Event) → read_next s (doing_by state reading) ≡ Some e → ReadingOn s state reading e
reading_by s state reading e is = grind (arith, same_Some, none-some)

-- ---- it is idle
pub idling_by : (s : ℕ) (now : Doing) (e : Event) → idle_next s now ≡ Some e → event.Step s ≡ e
idling_by s now e is = grind (arith, same_Some, none-some)

-- which it is not where it has something under way
pub not_idle : (s : ℕ) (c : Client) (e : Event) → HasWork c → idle_next s (client_doing c) ≡ Some e → ⊥
not_idle s c e h is = grind (arith, none-some)

-- ---- a step that is refused
-- a refused step ends the run
pub step_refused : (w : State) (s : ℕ) (fate : Fate) (c : Client) (why : Cause) → ClientAt w.clients s c → step_refusal c.entry.state (is_reading c) ≡ Some why → stepped w (event.Step s) fate ≡ stores_step w s (refused (c, w.rows, w.pairs) (Session s) why)
step_refused w s fate c why at is = grind arith

pub plainly_refused : (state : SessionState) (reading : Bool) (why : Cause) → step_refusal state reading ≡ Some why → refused_by why ≡ Refused
plainly_refused state reading why is = grind (arith, same_Some, none-some)

-- and it was of no placing
pub refused_unhanded : (state : SessionState) (reading : Bool) (start commit : Option ℕ) (why : Cause) → step_refusal state reading ≡ Some why → handed_by state start commit ≡ None
refused_unhanded state reading start commit why is = grind (arith, none-some)
