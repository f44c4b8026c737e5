-- Where an actor sits, found among the seats with their lines.
use Rattle.run_board.proofs.Names.{◌≡◌, ℕ, Bool, true, false, cond, List, [], ◌∷◌, Option, Some, None, All, refl, sym}
use Rattle.run_board.proofs.Names.{◌∙◌, ap, subst, map, slice_get, All-head, All-tail, Actor, Line, ScriptData}
use Rattle.run_board.proofs.Names.{same_actor, NextAction, Passes, Holds, Seat, present_line, Carried, seat_of}
use Rattle.run_board.proofs.Names.{ahead_at, ahead_in, own_ahead, Seated, IsSeated, SitsAt, line_of, seated_of}
use Rattle.run_board.proofs.Names.{place_in}

-- the one is found exactly where the other is
abbrev pub IsFound : ScriptData → Option Seated → Option Seat → Type 0
IsFound script None seat = seat ≡ None
IsFound script (Some s) seat = (seat ≡ Some s.seat) × IsSeated script s

found_by : (script : ScriptData) (s : Seated) (rest : Option Seated) (seat : Option Seat) (here : Bool) → IsSeated script s → IsFound script rest seat → IsFound script (cond here (Some s) rest) (cond here (Some s.seat) seat)
found_by script s rest seat true sits found = (refl, sits)
found_by script s rest seat false sits found = found

found : (script : ScriptData) (actor : Actor) (seated : List Seated) → All (IsSeated script) seated → IsFound script (seated_of seated actor) (seat_of (map (λ (s : Seated). s.seat) seated) actor)
found script actor [] each = refl
found script actor (s ∷ seated) each = found_by script s (seated_of seated actor) (seat_of (map (λ (x : Seated). x.seat) seated) actor) (same_actor s.seat.actor actor) (All-head (IsSeated script) s seated each) (found script actor seated (All-tail (IsSeated script) s seated each))

pub sits_found : (script : ScriptData) (c : Carried) (names : List (List ℕ)) (held : List Holds) (seated : List Seated) (actor : Actor) → SitsAt script c names held seated → IsFound script (seated_of seated actor) (seat_of c.seats actor)
sits_found script c names held seated actor k = subst (λ (seats : List Seat). IsFound script (seated_of seated actor) (seat_of seats actor)) k.seats (found script actor seated k.each)

pub is_found : (script : ScriptData) (c : Carried) (names : List (List ℕ)) (held : List Holds) (seated : List Seated) (actor : Actor) (one : Option Seated) → SitsAt script c names held seated → seated_of seated actor ≡ one → IsFound script one (seat_of c.seats actor)
is_found script c names held seated actor one k is = subst (λ (o : Option Seated). IsFound script o (seat_of c.seats actor)) is (sits_found script c names held seated actor k)

-- ---- its place
pub place_found : (script : ScriptData) (c : Carried) (names : List (List ℕ)) (held : List Holds) (seated : List Seated) (actor : Actor) (s : Seated) → SitsAt script c names held seated → seated_of seated actor ≡ Some s → s.seat.place ≡ place_in (seat_of c.seats actor)
place_found script c names held seated actor s k is = ap place_in (sym (is_found script c names held seated actor (Some s) k is).0)

pub place_missing : (script : ScriptData) (c : Carried) (names : List (List ℕ)) (held : List Holds) (seated : List Seated) (actor : Actor) → SitsAt script c names held seated → seated_of seated actor ≡ None → 0 ≡ place_in (seat_of c.seats actor)
place_missing script c names held seated actor k is = ap place_in (sym (is_found script c names held seated actor None k is))

-- ---- what is ahead of it
pub line_present : (script : ScriptData) (s : Seated) → IsSeated script s → line_of s ≡ present_line script s.seat
line_present script s k = ap (λ (ls : List Line). slice_get ls s.seat.place) k.lines

pub ahead_found : (script : ScriptData) (c : Carried) (names : List (List ℕ)) (held : List Holds) (seated : List Seated) (actor : Actor) (aim : ℕ) (s : Seated) (ahead : NextAction) → SitsAt script c names held seated → seated_of seated actor ≡ Some s → ahead ≡ ahead_at script c s.seat (line_of s) aim → ahead ≡ own_ahead script c actor aim
ahead_found script c names held seated actor aim s ahead k is has =
    let f : IsFound script (Some s) (seat_of c.seats actor) = is_found script c names held seated actor (Some s) k is in
    has ∙ ap (λ (line : Option Line). ahead_at script c s.seat line aim) (line_present script s f.1) ∙ ap (λ (o : Option Seat). ahead_in script c o aim) (sym f.0)

pub ahead_missing : (script : ScriptData) (c : Carried) (names : List (List ℕ)) (held : List Holds) (seated : List Seated) (actor : Actor) (aim : ℕ) → SitsAt script c names held seated → seated_of seated actor ≡ None → Passes ≡ own_ahead script c actor aim
ahead_missing script c names held seated actor aim k is = ap (λ (o : Option Seat). ahead_in script c o aim) (sym (is_found script c names held seated actor None k is))
