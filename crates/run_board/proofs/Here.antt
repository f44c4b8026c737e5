-- What the parts of a script run tell of where it stands.
use Rattle.run_board.proofs.Names.{◌≡◌, Bool, ℕ, zero, suc, List, [], ◌∷◌, Some, All, sym, subst, slice_get, IfSome}
use Rattle.run_board.proofs.Names.{All-head, All-tail, Actor, Line, HaveRoom, Holds, Seated, Ran, reached_by, IsSeated}
use Rattle.run_board.proofs.Names.{SitsAt, IsCarriedOut, line_of, seated_of}
use Rattle.run_board.proofs.Found.{IsFound, is_found}
use Rattle.run_board.proofs.Steady.{clock_room, lines_have_room}

-- ---- the clocks have room for a present line
all_at : {X : Type 0} (P : X → Type 0) (xs : List X) (n : ℕ) → All P xs → IfSome (slice_get xs n) P
all_at P [] n all = tt
all_at P (x ∷ xs) zero all = All-head P x xs all
all_at P (x ∷ xs) (suc n) all = all_at P xs n (All-tail P x xs all)

room_at : (r : Ran) (lacking : List Bool) (s : Seated) → IsCarriedOut r.script r.turns lacking → IsSeated r.script s → IfSome (line_of s) (λ line. HaveRoom (reached_by r).played.clock r.script.leads line.verb)
room_at r lacking s out sits =
    let clock : ℕ = (reached_by r).played.clock in
    let all : All (λ (line : Line). HaveRoom clock r.script.leads line.verb) s.lines.items = subst (λ (lines : List Line). All (λ (line : Line). HaveRoom clock r.script.leads line.verb) lines) (sym sits.lines) (lines_have_room r.script clock s.seat.actor out.sound out.few (clock_room r.script r.turns out.sound out.few)) in
    all_at (λ (line : Line). HaveRoom clock r.script.leads line.verb) s.lines.items s.seat.place all

pub room_found : (r old : Ran) (names : List (List ℕ)) (held : List Holds) (seated : List Seated) (lacking : List Bool) (actor : Actor) (s : Seated) → r ≡ old → SitsAt r.script (reached_by r) names held seated → IsCarriedOut r.script r.turns lacking → seated_of seated actor ≡ Some s → IfSome (line_of s) (λ line. HaveRoom (reached_by old).played.clock old.script.leads line.verb)
room_found r old names held seated lacking actor s same sits out is =
    let found : IsFound r.script (Some s) _ = is_found r.script (reached_by r) names held seated actor (Some s) sits is in
    subst (λ (x : Ran). IfSome (line_of s) (λ line. HaveRoom (reached_by x).played.clock x.script.leads line.verb)) same (room_at r lacking s out found.1)
