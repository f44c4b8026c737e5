-- A script whose only line awaits a name that nobody posts: no turn can be made.
use Rattle.std.proofs.Common.{arith}
use Rattle.grant_laws.proofs.Names.{◌≡◌, ℕ, Bool, cond, List, [], ◌∷◌, Option, Some, None, refl}
use Rattle.grant_laws.proofs.Names.{IsSomeAnd, none-some, Actor, Session, Item, holder_from, Event}
use Rattle.grant_laws.proofs.Names.{ScriptData, same_actor, Seat, seats_of, passed, Carried, seat_of, seat_ahead}
use Rattle.grant_laws.proofs.Names.{ahead_in, made_by, carried, IsLawful, IsTold}
use Rattle.grant_laws.proofs.Names.{IsStuck, AwaitsName}
use Rattle.turn_rules.specs.declared.turn.Turn.TheVariants as turn
use Rattle.grant_laws.specs.WorkedRuns as runs

-- ---- own turns
-- none of these seats makes an event at a turn with this aim
unfoldable pub Quiet : ScriptData → Carried → ℕ → List Seat → Type 0
Quiet script c aim [] = Unit {0}
Quiet script c aim (seat ∷ seats) = (made_by (seat_ahead script c seat aim) ≡ None) × Quiet script c aim seats

first_quiet : (script : ScriptData) (c : Carried) (aim : ℕ) (seat : Seat) (rest : Option Seat) (here : Bool) → made_by (seat_ahead script c seat aim) ≡ None → made_by (ahead_in script c rest aim) ≡ None → made_by (ahead_in script c (cond here (Some seat) rest) aim) ≡ None
first_quiet script c aim seat rest here first later = grind arith

pub found_quiet : (script : ScriptData) (c : Carried) (aim : ℕ) (actor : Actor) (seats : List Seat) → Quiet script c aim seats → made_by (ahead_in script c (seat_of seats actor) aim) ≡ None
unfolding Quiet
found_quiet script c aim actor [] quiet = refl
found_quiet script c aim actor (seat ∷ seats) quiet = first_quiet script c aim seat (seat_of seats actor) (same_actor seat.actor actor) quiet.0 (found_quiet script c aim actor seats quiet.1)

abbrev start : Carried
start = carried runs.awaiting []

pub none_told : (script : ScriptData) (c : Carried) (found : Option Event) → found ≡ None → IsSomeAnd found (λ e. IsTold script c.played e) → ⊥
none_told script c found is told = grind (arith, none-some)

-- ---- turns of stages
-- no session has a request
pub none_lawful : IsStuck runs.awaiting []
unfolding Quiet seats_of passed holder_from
none_lawful h k = grind (arith, none_told, found_quiet, none-some)

-- ---- what it waits for, and that it goes on where another line posts the name
pub name_awaited : AwaitsName runs.awaiting start runs.first_seat
name_awaited = record { line = runs.await_line; name = runs.p; present = refl; awaits = refl; unposted = refl }

pub some_item : (x : Item) → x ∷ [] ≡ [] → ⊥
some_item x none = cc

pub posts : IsLawful runs.posting (carried runs.posting []) (turn.Own (Session 1) 0)
unfolding seats_of passed holder_from
posts = record { free = tt; in_place = tt; told = λ none. some_item _ none }
