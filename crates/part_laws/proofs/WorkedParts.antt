-- Parts of a state, of none and of two.
use Rattle.std.proofs.Common.{◌≡◌, List, [], ◌∷◌, Option, Some, None, refl, arith}
use Rattle.std.proofs.lemmas.Option.{same_Some}
use Rattle.port_io.specs.declared.weather.Fate.TheVariants.{Works}
use Rattle.history_book.specs.declared.item.Item.TheVariants as item
use Rattle.system_parts.specs.declared.session.State.{State as Phase}
use Rattle.system_parts.specs.declared.session.State.TheVariants as phase
use Rattle.machine.specs.declared.event.Event.TheVariants as timed
use Rattle.machine.specs.State.{client_new}
use Rattle.machine.specs.Machine.{stepped, state_after}
use Rattle.split_parts.specs.declared.event.Event.TheVariants.{Accept}
use Rattle.split_parts.specs.Agrees.{Agrees}
use Rattle.split_parts.specs.Parts.{Session, filled, given_sessions, lent_clients, with_lent}
use Rattle.part_laws.specs.Local.{AreOf, IsLocal}
use Rattle.part_laws.specs.Worked.{opened, free_session, vanished_session, asked, of_one_state, of_two_states}

-- ---- a session that vanishes
pub free_is_of : AreOf free_session opened
unfolding given_sessions
free_is_of = record { setup = refl; parts = refl; sessions = refl; clients = refl; nodes = refl; node = tt }

pub vanishes : (stepped (filled free_session) (timed.Vanish 0) Works).items ≡ item.Vanish 0 ∷ []
unfolding lent_clients
vanishes = refl

pub has_vanished : (stepped opened (timed.Vanish 0) Works).state ≡ with_lent opened vanished_session
unfolding lent_clients
has_vanished = refl

-- what the first session's part says of it
first_phase : List (Option Session) → Phase
first_phase [] = phase.Free
first_phase (None ∷ sessions) = phase.Free
first_phase (Some own ∷ sessions) = own.client.entry.state

free_not_gone : phase.Free ≡ phase.Gone → ⊥
free_not_gone is = cc

pub vanished_is_not : AreOf vanished_session opened → ⊥
unfolding first_phase given_sessions
vanished_is_not of = grind (arith, first_phase)

pub vanished_is_refused : IsLocal opened vanished_session (timed.Vanish 0) Works → ⊥
unfolding lent_clients
vanished_is_refused local = grind arith

-- ---- a session and the node that it has asked
pub of_one : AreOf of_one_state asked
unfolding given_sessions state_after
of_one = record { setup = refl; parts = refl; sessions = refl; clients = refl; nodes = refl; node = omega arith }

free_not_asking : phase.Free ≡ phase.Asking → ⊥
free_not_asking is = cc

pub two_are_not : AreOf of_two_states asked → ⊥
unfolding first_phase given_sessions state_after
two_are_not of = grind (arith, first_phase)

pub two_disagree : Agrees of_two_states (Accept 0 0) → ⊥
unfolding lent_clients state_after
two_disagree agrees = free_not_asking (agrees.parts _ (client_new 0) refl refl (λ gone. free_not_gone gone))

pub one_agrees : Agrees of_one_state (Accept 0 0)
unfolding lent_clients state_after
one_agrees = grind (arith, same_Some)
