-- For this crate's own proofs.
-- A line that is given to the seat of its actor.
use Rattle.run_board.proofs.Names.{◌≡◌, ℕ, zero, suc, Bool, true, false, cond, List, [], ◌∷◌, ◌++◌, append-nil, Some}
use Rattle.run_board.proofs.Names.{None, All, refl, sym, ◌∙◌, ap, subst, arith, map, slice_get, slice_set, All-nil}
use Rattle.run_board.proofs.Names.{All-cons, All-head, All-tail, filter-append, same_Some, none-some, Actor, Line}
use Rattle.run_board.proofs.Names.{same_actor, actor_same, same_itself, Seat, Seated, own_lines, seated_of, sits_at}
use Rattle.run_board.proofs.Names.{AreSeated, SitOnce}
use Rattle.run_board.proofs.AllEnded.{other_way}
use Rattle.run_board.proofs.ByIndex.{IsAlone, alone_left, fails, is_its, missed_by, not_first, only}

-- ---- the lines of an actor, with one more line of whomever
own_more : (actor : Actor) (lines : List Line) (line : Line) → own_lines actor (lines ++ line ∷ []) ≡ own_lines actor lines ++ cond (same_actor line.actor actor) (line ∷ []) []
own_more actor lines line = filter-append (λ (x : Line). same_actor x.actor actor) lines (line ∷ [])

mine_more : (actor : Actor) (lines : List Line) (line : Line) → same_actor actor line.actor ≡ true → own_lines actor (lines ++ line ∷ []) ≡ own_lines actor lines ++ line ∷ []
mine_more actor lines line mine =
    let same : same_actor line.actor actor ≡ true = ap (λ (a : Actor). same_actor line.actor a) (actor_same actor line.actor mine) ∙ same_itself line.actor in
    own_more actor lines line ∙ ap (λ (b : Bool). own_lines actor lines ++ cond b (line ∷ []) []) same

others_more : (actor : Actor) (lines : List Line) (line : Line) → same_actor actor line.actor ≡ false → own_lines actor (lines ++ line ∷ []) ≡ own_lines actor lines
others_more actor lines line other =
    let not : same_actor line.actor actor ≡ false = other_way line.actor actor (same_actor line.actor actor) refl other in
    own_more actor lines line ∙ ap (λ (b : Bool). own_lines actor lines ++ cond b (line ∷ []) []) not ∙ append-nil (own_lines actor lines)

-- ---- the seats, each with its own lines
abbrev HasOwn : List Line → Seated → Type 0
HasOwn lines s = s.lines.items ≡ own_lines s.seat.actor lines

module _ (lines : List Line) (line : Line) where
  abbrev test : Seated → Bool
  test s = same_actor s.seat.actor line.actor

  stays : (s : Seated) → test s ≡ false → HasOwn lines s → HasOwn (lines ++ line ∷ []) s
  stays s other own = own ∙ sym (others_more s.seat.actor lines line other)

  takes : (s now : Seated) → test s ≡ true → now.seat ≡ s.seat → now.lines.items ≡ s.lines.items ++ line ∷ [] → HasOwn lines s → HasOwn (lines ++ line ∷ []) now
  takes s now mine same is own =
      is ∙ ap (λ (ls : List Line). ls ++ line ∷ []) own ∙ sym (mine_more s.seat.actor lines line mine) ∙ ap (λ (x : Seat). own_lines x.actor (lines ++ line ∷ [])) (sym same)

  all_stay : (all : List Seated) → ((j : ℕ) (x : Seated) → slice_get all j ≡ Some x → test x ≡ false) → All (HasOwn lines) all → All (HasOwn (lines ++ line ∷ [])) all
  all_stay [] none own = All-nil (HasOwn (lines ++ line ∷ []))
  all_stay (s ∷ all) none own =
      All-cons (HasOwn (lines ++ line ∷ [])) s all (stays s (none 0 s refl) (All-head (HasOwn lines) s all own)) (all_stay all (λ j x is. none (suc j) x is) (All-tail (HasOwn lines) s all own))

  all_take : (all : List Seated) (i : ℕ) (s now : Seated) → slice_get all i ≡ Some s → test s ≡ true → IsAlone test all i → now.seat ≡ s.seat → now.lines.items ≡ s.lines.items ++ line ∷ [] → All (HasOwn lines) all → All (HasOwn (lines ++ line ∷ [])) (slice_set all i now)
  all_take [] i s now is mine alone same more own = absurd (none-some s is)
  all_take (y ∷ ys) zero s now is mine alone same more own =
      let rest : (j : ℕ) (x : Seated) → slice_get ys j ≡ Some x → test x ≡ false = λ j x there. fails (test x) (suc j) 0 (alone (suc j) x there) (λ (next : suc j ≡ 0). omega (arith, next)) in
      let here : HasOwn lines s = subst (λ (x : Seated). HasOwn lines x) (same_Some y s is) (All-head (HasOwn lines) y ys own) in
      All-cons (HasOwn (lines ++ line ∷ [])) now ys (takes s now mine same more here) (all_stay ys rest (All-tail (HasOwn lines) y ys own))
  all_take (y ∷ ys) (suc i) s now is mine alone same more own =
      All-cons (HasOwn (lines ++ line ∷ [])) y (slice_set ys i now) (stays y (not_first test y ys i alone) (All-head (HasOwn lines) y ys own)) (all_take ys i s now is mine (alone_left test y ys i alone) same more (All-tail (HasOwn lines) y ys own))

-- ---- where all sit stays
seats_stay : (all : List Seated) (i : ℕ) (s now : Seated) → slice_get all i ≡ Some s → now.seat ≡ s.seat → map (λ (x : Seated). x.seat) (slice_set all i now) ≡ map (λ (x : Seated). x.seat) all
seats_stay [] i s now is same = absurd (none-some s is)
seats_stay (y ∷ ys) zero s now is same = ap (λ (x : Seat). x ∷ map (λ (z : Seated). z.seat) ys) (same ∙ ap (λ (x : Seated). x.seat) (sym (same_Some y s is)))
seats_stay (y ∷ ys) (suc i) s now is same = ap (λ (xs : List Seat). y.seat ∷ xs) (seats_stay ys i s now is same)

abbrev IsFirst : Seated → Type 0
IsFirst s = s.seat.place ≡ 0

first_stay : (all : List Seated) (i : ℕ) (s now : Seated) → slice_get all i ≡ Some s → now.seat ≡ s.seat → All IsFirst all → All IsFirst (slice_set all i now)
first_stay [] i s now is same first = first
first_stay (y ∷ ys) zero s now is same first = All-cons IsFirst now ys (ap (λ (x : Seat). x.place) same ∙ ap (λ (x : Seated). x.seat.place) (sym (same_Some y s is)) ∙ All-head IsFirst y ys first) (All-tail IsFirst y ys first)
first_stay (y ∷ ys) (suc i) s now is same first = All-cons IsFirst y (slice_set ys i now) (All-head IsFirst y ys first) (first_stay ys i s now is same (All-tail IsFirst y ys first))

-- the line is given to the seat at an index, which is its actor's
pub is_given : (line : Line) (old : List Seated) (i : ℕ) (s now : Seated) → sits_at old i line.actor ≡ true → slice_get old i ≡ Some s → now.seat ≡ s.seat → now.lines.items ≡ s.lines.items ++ line ∷ []
    → (lines : List Line) (sitting : List Seat) → SitOnce old → AreSeated lines sitting old → AreSeated (lines ++ line ∷ []) sitting (slice_set old i now)
is_given line old i s now sits is same more lines sitting once k = record {
  seats = seats_stay old i s now is same ∙ k.seats;
  own = all_take lines line old i s now is (is_its old i line.actor s sits is) (only old i line.actor s once sits is) same more k.own;
  place = first_stay old i s now is same k.place;
}

-- nobody who sits is found by an actor that has no seat
none_found : (actor : Actor) (all : List Seated) → seated_of all actor ≡ None → (j : ℕ) (x : Seated) → slice_get all j ≡ Some x → same_actor x.seat.actor actor ≡ false
none_found actor [] none j x is = absurd (none-some x is)
none_found actor (s ∷ all) none zero x is = ap (λ (y : Seated). same_actor y.seat.actor actor) (sym (same_Some s x is)) ∙ (missed_by s (seated_of all actor) (same_actor s.seat.actor actor) none).0
none_found actor (s ∷ all) none (suc j) x is = none_found actor all (missed_by s (seated_of all actor) (same_actor s.seat.actor actor) none).1 j x is

-- it is given to nobody, since its actor has no seat
pub is_left : (line : Line) (old : List Seated) → seated_of old line.actor ≡ None → (lines : List Line) (sitting : List Seat) → SitOnce old → AreSeated lines sitting old → AreSeated (lines ++ line ∷ []) sitting old
is_left line old none lines sitting once k = record {
  seats = k.seats;
  own = all_stay lines line old (none_found line.actor old none) k.own;
  place = k.place;
}
