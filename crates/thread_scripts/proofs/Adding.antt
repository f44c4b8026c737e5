-- One more seat brings its actor, where that has lines.
use Rattle.std.proofs.Common.{◌≡◌, ℕ, suc, ◌+◌, Bool, true, false, cond, List, [], ◌∷◌, ◌++◌, append_assoc, refl, sym, ap, ◌∙◌, arith}
use Rattle.std.specs.Prelude.{map, filter}
use Rattle.std.proofs.lemmas.List.{append-nil, map-append}
use Rattle.std.proofs.lemmas.List.Elements.{filter-append}
use Rattle.history_book.specs.declared.item.Actor.{Actor}
use Rattle.history_book.specs.declared.item.Actor.TheVariants.{Clock, Janitor}
use Rattle.script_data.specs.Data.{ScriptData}
use Rattle.turn_rules.specs.declared.seat.Seat.{Seat}
use Rattle.turn_rules.specs.Seats.{first_seat, seats_of}
use Rattle.thread_scripts.specs.Actors.{has_lines, with_actor, with_lines}

behind : (has : Bool) (actor : Actor) (actors : List Actor) → actors ++ cond has (actor ∷ []) [] ≡ cond has (actors ++ actor ∷ []) actors
behind true actor actors = refl
behind false actor actors = append-nil actors

one_more : (script : ScriptData) (seats : List Seat) (actor : Actor) → with_lines script (seats ++ first_seat actor ∷ []) ≡ with_actor script actor (with_lines script seats)
one_more script seats actor =
    ap (λ (actors : List Actor). filter (has_lines script) actors) (map-append (λ (seat : Seat). seat.actor) seats (first_seat actor ∷ []))
    ∙ filter-append (has_lines script) (map (λ (seat : Seat). seat.actor) seats) (actor ∷ [])
    ∙ behind (has_lines script actor) actor (with_lines script seats)

next_of : (kind : ℕ → Actor) (n : ℕ) → seats_of kind (n + 1) ≡ seats_of kind n ++ first_seat (kind n) ∷ []
unfolding seats_of
next_of kind n =
    let next : n + 1 ≡ suc n = omega arith in
    ap (λ (m : ℕ). seats_of kind m) next

none_of : (kind : ℕ → Actor) → seats_of kind 0 ≡ []
unfolding seats_of
none_of kind = refl

-- one more of its kind
pub next_added : (script : ScriptData) (before : List Seat) (kind : ℕ → Actor) (n : ℕ) (actors : List Actor) → actors ≡ with_lines script (before ++ seats_of kind n) → with_actor script (kind n) actors ≡ with_lines script (before ++ seats_of kind (n + 1))
next_added script before kind n actors are =
    ap (λ (some : List Actor). with_actor script (kind n) some) are
    ∙ sym (one_more script (before ++ seats_of kind n) (kind n))
    ∙ ap (λ (seats : List Seat). with_lines script seats) (append_assoc before (seats_of kind n) (first_seat (kind n) ∷ []) ∙ ap (λ (seats : List Seat). before ++ seats) (sym (next_of kind n)))

-- none of its kind yet
pub none_added : (script : ScriptData) (before : List Seat) (kind : ℕ → Actor) (actors : List Actor) → actors ≡ with_lines script before → actors ≡ with_lines script (before ++ seats_of kind 0)
none_added script before kind actors are = are ∙ ap (λ (seats : List Seat). with_lines script seats) (sym (append-nil before) ∙ ap (λ (seats : List Seat). before ++ seats) (sym (none_of kind)))

pub first_two : (script : ScriptData) → with_actor script Janitor (with_actor script Clock []) ≡ with_lines script (first_seat Clock ∷ first_seat Janitor ∷ [])
first_two script = sym (one_more script (first_seat Clock ∷ []) Janitor ∙ ap (λ (first : List Actor). with_actor script Janitor first) (one_more script [] Clock))
