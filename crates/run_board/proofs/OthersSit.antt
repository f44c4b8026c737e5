-- For this crate's own proofs.
-- A turn of a session moves no other actor's seat.
use Rattle.run_board.proofs.Names.{◌≡◌, ◌≢◌, ℕ, Bool, true, false, List, Option, Some, None, refl, sym, ◌∙◌, ap, subst}
use Rattle.run_board.proofs.Names.{option_map, same_Some, none-some, fold_push, Actor, Session, Event, ScriptData, View}
use Rattle.run_board.proofs.Names.{same_actor, fate_of, step_of, clocks_of, view_of, actor_same, Seat, Turn, lines_left}
use Rattle.run_board.proofs.Names.{passed, Carried, seat_of, event_of, moved, with_event, seat_passed, all_passed}
use Rattle.run_board.proofs.Names.{turned_by, turned, at_first, carried, find_true, find_place, seat_after, turned_seat}
use Rattle.run_board.proofs.Names.{other_stays, OthersStaySeated, touched}
use Rattle.turn_rules.specs.declared.turn.Turn.TheVariants as turn
use Rattle.turn_rules.proofs.SeatLists.{Place}
use Rattle.run_board.proofs.SessionEvents.{touches_one}
use Rattle.run_board.proofs.OtherViews.{others_see}
use Rattle.run_board.proofs.PassedOnce.{HasPassed, AllHavePassed, all_have_passed}

not_same : (a b : Actor) → a ≢ b → (same : Bool) → same_actor a b ≡ same → same_actor a b ≡ false
not_same a b other true is = absurd (other (actor_same a b is))
not_same a b other false is = is

stays : (script : ScriptData) (c : Carried) (t : Turn) (e : Event) (s : ℕ) (seat : Seat) → touched t ≡ Some s → seat.actor ≢ Session s → moved script t (step_of script c.played e) seat ≡ seat
stays script c (turn.Own (Session r) aim) e s seat own other =
    other_stays script (step_of script c.played e) (Session r) aim seat (not_same seat.actor (Session r) (λ same. other (same ∙ ap (λ (q : ℕ). Session q) (same_Some r s own))) (same_actor seat.actor (Session r)) refl)
stays script c (turn.Own _ aim) e s seat own other = absurd (none-some s own)
stays script c (turn.Accept node r) e s seat own other = refl
stays script c (turn.Decide node r) e s seat own other = refl
stays script c (turn.Put node r) e s seat own other = refl
stays script c (turn.Answer node r) e s seat own other = refl
stays script c (turn.Extend node) e s seat own other = refl

sits : (script : ScriptData) (c : Carried) (t : Turn) (e : Event) (s : ℕ) (seat : Seat) → touched t ≡ Some s → event_of script c t ≡ Some e → seat.actor ≢ Session s → HasPassed script (view_of c.played.state seat.actor) seat → seat_after script c t e seat ≡ seat
sits script c t e s seat own is other has =
    let after : Carried = with_event script c t e in
    ap (seat_passed script after) (stays script c t e s seat own other)
    ∙ ap (λ (view : View). passed (clocks_of script after.played) view (lines_left script seat) seat) (others_see c.played.state s e (fate_of script c.played e) seat.actor (touches_one script c t e s own is) other)
    ∙ has (clocks_of script after.played)

found_sits : (script : ScriptData) (c : Carried) (t : Turn) (e : Event) (s : ℕ) (actor : Actor) (found : Option Seat) → AllHavePassed script c → touched t ≡ Some s → event_of script c t ≡ Some e → actor ≢ Session s → seat_of c.seats actor ≡ found → option_map (seat_after script c t e) found ≡ found
found_sits script c t e s actor None all own is other at = refl
found_sits script c t e s actor (Some seat) all own is other at =
    let same : seat.actor ≡ actor = actor_same seat.actor actor (find_true (λ (x : Seat). same_actor x.actor actor) c.seats seat at) in
    let k : Place c.seats seat = find_place (λ (x : Seat). same_actor x.actor actor) c.seats seat at in
    let has : HasPassed script (view_of c.played.state seat.actor) seat = subst (λ (x : Seat). HasPassed script (view_of c.played.state x.actor) x) (k.is seat) (all k.place seat k.inside) in
    ap (λ (x : Seat). Some x) (sits script c t e s seat own is (λ mine. other (sym same ∙ mine)) has)

by_event : (script : ScriptData) (turns : List Turn) (t : Turn) (s : ℕ) (actor : Actor) (e : Option Event) → touched t ≡ Some s → actor ≢ Session s → event_of script (carried script turns) t ≡ e → seat_of (turned_by script (carried script turns) t e).seats actor ≡ seat_of (carried script turns).seats actor
by_event script turns t s actor None own other is = refl
by_event script turns t s actor (Some e) own other is =
    turned_seat script (carried script turns) t e actor ∙ found_sits script (carried script turns) t e s actor (seat_of (carried script turns).seats actor) (all_have_passed script turns) own is other refl

pub others_stay_seated : OthersStaySeated
others_stay_seated script turns t s actor own other =
    ap (λ (c : Carried). seat_of c.seats actor) (fold_push (turned script) (all_passed script (at_first script)) turns t)
    ∙ by_event script turns t s actor (event_of script (carried script turns) t) own other refl
