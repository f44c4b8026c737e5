-- For this crate's own proofs.
-- After a turn of one session only that session has lines to pass.
use Rattle.run_board.proofs.Names.{◌≡◌, ℕ, Bool, true, false, cond, List, [], ◌∷◌, Option, Some, None, All, drop, refl}
use Rattle.run_board.proofs.Names.{sym, ◌∙◌, ap, subst, map, true≢false, same_Some, none-some, All-head, All-tail}
use Rattle.run_board.proofs.Names.{All-nil, All-cons, Actor, Session, State, Line, ScriptData, Interruption, View}
use Rattle.run_board.proofs.Names.{same_actor, Clocks, fate_of, view_of, same_itself, clocks_at, Seat, Turn, passed}
use Rattle.run_board.proofs.Names.{was_asked, Seated, line_of, gone_on_at, after_turn, after_passing, after_passes}
use Rattle.run_board.proofs.Names.{passing_of, touched, Ran, reached_by, IsSeated}
use Rattle.turn_rules.specs.declared.turn.Turn.TheVariants as turn
use Rattle.run_board.proofs.Kept.{Kept, Call, IsMade, CanTurn, HasGone, since, moved_by}
use Rattle.run_board.proofs.SessionEvents.{touches_one}
use Rattle.run_board.proofs.OtherViews.{others_see}
use Rattle.run_board.proofs.PassedOnce.{HasPassed, all_have_passed}

-- ---- the turn leaves the seats of others
stays_put : (t : Turn) (halt : Option Interruption) (asked : Bool) (s : Seated) (session : ℕ) → touched t ≡ Some session → same_actor s.seat.actor (Session session) ≡ false → after_turn t halt asked s ≡ s
stays_put (turn.Own (Session r) aim) halt asked s session own other =
    ap (λ (q : ℕ). cond (same_actor s.seat.actor (Session q)) (record s { seat = gone_on_at (line_of s) halt asked s.seat }) s) (same_Some r session own)
    ∙ ap (λ (mine : Bool). cond mine (record s { seat = gone_on_at (line_of s) halt asked s.seat }) s) other
stays_put (turn.Own _ aim) halt asked s session own other = absurd (none-some session own)
stays_put (turn.Accept node r) halt asked s session own other = refl
stays_put (turn.Decide node r) halt asked s session own other = refl
stays_put (turn.Put node r) halt asked s session own other = refl
stays_put (turn.Answer node r) halt asked s session own other = refl
stays_put (turn.Extend node) halt asked s session own other = refl

at_line : (line : Option Line) (halt : Option Interruption) (asked : Bool) (s : Seated) → (gone_on_at line halt asked s.seat).actor ≡ s.seat.actor
at_line None halt asked s = refl
at_line (Some line) halt asked s = refl

at_seat : (b : Bool) (line : Option Line) (halt : Option Interruption) (asked : Bool) (s : Seated) → (cond b (record s { seat = gone_on_at line halt asked s.seat }) s).seat.actor ≡ s.seat.actor
at_seat true line halt asked s = at_line line halt asked s
at_seat false line halt asked s = refl

pub same_seat : (t : Turn) (halt : Option Interruption) (asked : Bool) (s : Seated) → (after_turn t halt asked s).seat.actor ≡ s.seat.actor
same_seat (turn.Own actor aim) halt asked s = at_seat (same_actor s.seat.actor actor) (line_of s) halt asked s
same_seat (turn.Accept node r) halt asked s = refl
same_seat (turn.Decide node r) halt asked s = refl
same_seat (turn.Put node r) halt asked s = refl
same_seat (turn.Answer node r) halt asked s = refl
same_seat (turn.Extend node) halt asked s = refl

-- ---- one that has passed its lines
abbrev SeatHasPassed : ScriptData → State → Seat → Type 0
SeatHasPassed script w seat = HasPassed script (view_of w seat.actor) seat

passes_none : (script : ScriptData) (clocks : Clocks) (w left : State) (s : Seated) → IsSeated script s → SeatHasPassed script w s.seat → view_of left s.seat.actor ≡ view_of w s.seat.actor → after_passing clocks left s ≡ s
passes_none script clocks w left s k has same =
    let seat_is : passed clocks (view_of left s.seat.actor) (drop s.seat.place s.lines.items) s.seat ≡ s.seat =
    ap (λ (view : View). passed clocks view (drop s.seat.place s.lines.items) s.seat) same
    ∙ ap (λ (lines : List Line). passed clocks (view_of w s.seat.actor) (drop s.seat.place lines) s.seat) k.lines
    ∙ has clocks in
    λ i. record s { seat = seat_is i }

no_session : (actor : Actor) (session : ℕ) → same_actor actor (Session session) ≡ false → actor ≡ Session session → ⊥
no_session actor session other is = true≢false (sym (ap (λ (a : Actor). same_actor a (Session session)) is ∙ same_itself (Session session)) ∙ other)

-- what the call left is what its event left
record Frame (script : ScriptData) (w left : State) (session : ℕ) : Type 0 where
  views : (actor : Actor) → (actor ≡ Session session → ⊥) → view_of left actor ≡ view_of w actor

one_by : (script : ScriptData) (clocks : Clocks) (w left : State) (t : Turn) (halt : Option Interruption) (asked : Bool) (session : ℕ) (s : Seated) → touched t ≡ Some session → Frame script w left session → IsSeated script s → SeatHasPassed script w s.seat
    → (mine : Bool) → same_actor s.seat.actor (Session session) ≡ mine → passing_of session clocks left (after_turn t halt asked s) ≡ after_passing clocks left (after_turn t halt asked s)
one_by script clocks w left t halt asked session s own frame k has true mine =
    let now : Seated = after_turn t halt asked s in
    ap (λ (b : Bool). cond b (after_passing clocks left now) now) (ap (λ (a : Actor). same_actor a (Session session)) (same_seat t halt asked s) ∙ mine)
one_by script clocks w left t halt asked session s own frame k has false other =
    let now : Seated = after_turn t halt asked s in
    let still : now ≡ s = stays_put t halt asked s session own other in
    let none : after_passing clocks left s ≡ s = passes_none script clocks w left s k has (frame.views s.seat.actor (no_session s.seat.actor session other)) in
    ap (λ (b : Bool). cond b (after_passing clocks left now) now) (ap (λ (a : Actor). same_actor a (Session session)) (same_seat t halt asked s) ∙ other)
    ∙ still ∙ sym none ∙ ap (λ (x : Seated). after_passing clocks left x) (sym still)

-- ---- all seats
both_maps : (f g h : Seated → Seated) (P Q : Seated → Type 0) → ((s : Seated) → P s → Q s → f (h s) ≡ g (h s)) → (all : List Seated) → All P all → All Q all → map f (map h all) ≡ map g (map h all)
both_maps f g h P Q same [] p q = refl
both_maps f g h P Q same (s ∷ all) p q = λ i. same s (All-head P s all p) (All-head Q s all q) i ∷ both_maps f g h P Q same all (All-tail P s all p) (All-tail Q s all q) i

unmapped : (P : Seat → Type 0) (all : List Seated) → All P (map (λ (s : Seated). s.seat) all) → All (λ (s : Seated). P s.seat) all
unmapped P [] k = All-nil (λ (s : Seated). P s.seat)
unmapped P (s ∷ all) k = All-cons (λ (x : Seated). P x.seat) s all (All-head P s.seat (map (λ (x : Seated). x.seat) all) k) (unmapped P all (All-tail P s.seat (map (λ (x : Seated). x.seat) all) k))

framed : (r : Ran) (kept : Kept) (call : Call) (session : ℕ) → CanTurn r call.turn call.event → HasGone r call → touched call.turn ≡ Some session → Frame r.script (reached_by r).played.state call.now.state session
framed r kept call session can gone own = record {
  views = λ actor not. ap (λ (w : State). view_of w actor) gone.stands.state ∙ others_see (reached_by r).played.state session call.event (fate_of r.script (reached_by r).played call.event) actor (touches_one r.script (reached_by r) call.turn call.event session own can.event) not;
}

by_touched : (r : Ran) (kept : Kept) (call : Call) (session : Option ℕ) → IsMade r kept → CanTurn r call.turn call.event → HasGone r call → touched call.turn ≡ session → let clocks : Clocks = clocks_at call.now call.after r.script.leads in after_passes session clocks call.now.state (moved_by kept call) ≡ map (after_passing clocks call.now.state) (moved_by kept call)
by_touched r kept call None k can gone own = refl
by_touched r kept call (Some session) k can gone own =
    let clocks : Clocks = clocks_at call.now call.after r.script.leads in
    let w : State = (reached_by r).played.state in
    let asked : Bool = was_asked (since call) in
    let all : All (SeatHasPassed r.script w) (map (λ (s : Seated). s.seat) kept.seated) = subst (λ (seats : List Seat). All (SeatHasPassed r.script w) seats) (sym k.sits.seats) (all_have_passed r.script r.turns) in
    let frame : Frame r.script w call.now.state session = framed r kept call session can gone own in
    both_maps (passing_of session clocks call.now.state) (after_passing clocks call.now.state) (after_turn call.turn call.stop asked) (IsSeated r.script) (λ (s : Seated). SeatHasPassed r.script w s.seat)
    (λ s sits has. one_by r.script clocks w call.now.state call.turn call.stop asked session s own frame sits has (same_actor s.seat.actor (Session session)) refl) kept.seated k.sits.each (unmapped (SeatHasPassed r.script w) kept.seated all)

-- so it is enough that the session passes its lines
pub one_passes : (r : Ran) (kept : Kept) (call : Call) → IsMade r kept → CanTurn r call.turn call.event → HasGone r call → let clocks : Clocks = clocks_at call.now call.after r.script.leads in after_passes (touched call.turn) clocks call.now.state (moved_by kept call) ≡ map (after_passing clocks call.now.state) (moved_by kept call)
one_passes r kept call k can gone = by_touched r kept call (touched call.turn) k can gone refl
