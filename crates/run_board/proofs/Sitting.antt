-- For this crate's own proofs.
-- Actors that sit down one after the other.
use Rattle.run_board.proofs.Names.{◌≡◌, ℕ, suc, ◌+◌, List, [], ◌∷◌, ◌++◌, append_assoc, append-nil, All, refl, sym, ◌∙◌}
use Rattle.run_board.proofs.Names.{ap, subst, arith, map, All-nil, All-push, Actor, Clock, Node, Session, Janitor, Line}
use Rattle.run_board.proofs.Names.{Seat, first_seat, seats_of, Seated, own_lines, AreSeated}

map_push : (all : List Seated) (s : Seated) → map (λ (x : Seated). x.seat) (all ++ s ∷ []) ≡ map (λ (x : Seated). x.seat) all ++ s.seat ∷ []
map_push [] s = refl
map_push (x ∷ all) s = ap (λ seats. x.seat ∷ seats) (map_push all s)

pub one_more_sits : (sitting : List Seat) (old new : List Seated) (actor : Actor) (added : Seated) → AreSeated [] sitting old → new ≡ old ++ added ∷ [] → added.seat ≡ first_seat actor → added.lines.items ≡ [] → AreSeated [] (sitting ++ first_seat actor ∷ []) new
one_more_sits sitting old new actor added k is seat none = record {
  seats = ap (λ all. map (λ (x : Seated). x.seat) all) is ∙ map_push old added ∙ (λ i. k.seats i ++ seat i ∷ []);
  own = subst (λ all. All (λ (s : Seated). s.lines.items ≡ own_lines s.seat.actor []) all) (sym is) (All-push (λ (s : Seated). s.lines.items ≡ own_lines s.seat.actor []) old added k.own none);
  place = subst (λ all. All (λ (s : Seated). s.seat.place ≡ 0) all) (sym is) (All-push (λ (s : Seated). s.seat.place ≡ 0) old added k.place (ap (λ (s : Seat). s.place) seat));
}

pub none_sits : (lines : List Line) (all : List Seated) → all ≡ [] → AreSeated lines [] all
none_sits lines all none = subst (λ xs. AreSeated lines [] xs) (sym none) (record {
  seats = refl;
  own = All-nil (λ (s : Seated). s.lines.items ≡ own_lines s.seat.actor lines);
  place = All-nil (λ (s : Seated). s.seat.place ≡ 0);
})

-- ---- kind by kind
one_more_kind : (kind : ℕ → Actor) (n : ℕ) → seats_of kind (n + 1) ≡ seats_of kind n ++ first_seat (kind n) ∷ []
unfolding seats_of
one_more_kind kind n = let next : n + 1 ≡ suc n = omega arith in ap (λ m. seats_of kind m) next

abbrev pub with_nodes : ℕ → List Seat
with_nodes n = first_seat Clock ∷ first_seat Janitor ∷ seats_of (λ n. Node n) n

abbrev pub with_sessions : ℕ → ℕ → List Seat
with_sessions nodes n = with_nodes nodes ++ seats_of (λ s. Session s) n

pub no_node : (lines : List Line) (all : List Seated) → AreSeated lines (first_seat Clock ∷ first_seat Janitor ∷ []) all → AreSeated lines (with_nodes 0) all
unfolding seats_of
no_node lines all k = k

pub one_more_node : (lines : List Line) (n : ℕ) (all : List Seated) → AreSeated lines (with_nodes n ++ first_seat (Node n) ∷ []) all → AreSeated lines (with_nodes (n + 1)) all
one_more_node lines n all k = subst (λ seats. AreSeated lines (first_seat Clock ∷ first_seat Janitor ∷ seats) all) (sym (one_more_kind (λ n. Node n) n)) k

pub no_session : (lines : List Line) (nodes n : ℕ) (all : List Seated) → n ≡ nodes → AreSeated lines (with_nodes n) all → AreSeated lines (with_sessions nodes 0) all
unfolding seats_of
no_session lines nodes n all is k = subst (λ seats. AreSeated lines seats all) (ap with_nodes is ∙ sym (append-nil (with_nodes nodes))) k

pub one_more_session : (lines : List Line) (nodes n : ℕ) (all : List Seated) → AreSeated lines (with_sessions nodes n ++ first_seat (Session n) ∷ []) all → AreSeated lines (with_sessions nodes (n + 1)) all
one_more_session lines nodes n all k = subst (λ seats. AreSeated lines seats all) (append_assoc (with_nodes nodes) (seats_of (λ s. Session s) n) (first_seat (Session n) ∷ []) ∙ ap (λ seats. with_nodes nodes ++ seats) (sym (one_more_kind (λ s. Session s) n))) k
