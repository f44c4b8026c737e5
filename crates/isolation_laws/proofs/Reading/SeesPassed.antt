-- A read that passes a cell over sees the rest, and what it answers is visible and lasts.
use Rattle.isolation_laws.proofs.Names.{◌≡◌, ℕ, suc, ◌<◌, ◌≤◌, ◌==◌, ◌||◌, is_some, Bool, true, false, if◌then◌else◌}
use Rattle.isolation_laws.proofs.Names.{List, [], ◌∷◌, Option, Some, None, ◌⊎◌, inl, inr, refl, sym, ◌∙◌, ap, subst}
use Rattle.isolation_laws.proofs.Names.{arith, cases_Bool, ltb-true, leb-true, leb-false, ne_eqb, none-some, Mark}
use Rattle.isolation_laws.proofs.Names.{CommittedMark, InvalidMark, Committed, Wrote, WasListed, Candidate, Visible}
use Rattle.isolation_laws.proofs.Names.{Found, Item, Cell, is_below, Pairs, mark_of, Table, Reading, ReadTurn, Asks}
use Rattle.isolation_laws.proofs.Names.{Answers, found_cell, is_late, is_passed, after_passed, turn_at, read_over}
use Rattle.isolation_laws.proofs.Names.{InstanceEntry, Client, State, marks_every, found_of, Marked, ComesBelow}
use Rattle.isolation_laws.proofs.Names.{floor_at, IsCovered, SeesAll, IsReading, Outlasts, IsolationInvariant}
use Rattle.isolation_laws.proofs.OnceEach.{one_commit}
use Rattle.isolation_laws.proofs.Owners.{pending_unplaced}
use Rattle.isolation_laws.proofs.ComingBelow.{later_version}
use Rattle.isolation_laws.proofs.Stores.StoresStay.{committed_not_invalid}
use Rattle.isolation_laws.proofs.Reading.CoveredVersions.{falls_tail, covered_none, covered_cases, covered_upto}
use Rattle.isolation_laws.proofs.Reading.SeesFetched.{pending_coming}

-- ---- a cell that is passed over
-- no commit of the version is below the start, and none that comes will be
pub record LetsGo (clients : List Client) (nodes : List (Option InstanceEntry)) (pairs : Pairs) (h : List Item) (b v : ℕ) : Type 0 where
  pub late : (d : ℕ) → Committed h v d → b ≤ d
  pub marked : ComesBelow clients nodes b v → Marked pairs v

below_commit : (b : ℕ) (shadow : Option ℕ) → is_below b shadow ≡ true → (commit : ℕ) × (shadow ≡ Some commit) × (commit < b)
below_commit b None is = absurd (cc)
below_commit b (Some commit) is = (commit, refl, ltb-true commit b is)

floor_gone : (clients : List Client) (nodes : List (Option InstanceEntry)) (pairs : Pairs) (h : List Item) (b k u : ℕ) (c : Cell) (cs : List Cell) → LetsGo clients nodes pairs h b c.version → SeesAll clients nodes pairs h b k (c ∷ cs) → u < floor_at b c → ⊥
floor_gone clients nodes pairs h b k u c cs goes sees below = elim (cases_Bool (is_below b c.shadow)) [
  | inl some ↦
      let commit = below_commit b c.shadow some in
      omega (arith, goes.late commit.0 (sees.shadows 0 c (omega arith) commit.0 commit.1), commit.2)
  | inr none ↦ omega (arith, below, ap (λ (chosen : Bool). if chosen then c.version else 0) none)
]

covers_rest : (clients : List Client) (nodes : List (Option InstanceEntry)) (pairs : Pairs) (h : List Item) (b k u : ℕ) (c : Cell) (cs : List Cell) → LetsGo clients nodes pairs h b c.version → SeesAll clients nodes pairs h b k (c ∷ cs) → (c.version ≡ u → ⊥) → IsCovered b u (c ∷ cs) → IsCovered b u cs
covers_rest clients nodes pairs h b k u c cs goes sees other covered = elim (covered_cases b u c cs covered) [
  | inl here ↦ absurd (other here)
  | inr (inl later) ↦ later
  | inr (inr below) ↦ absurd (floor_gone clients nodes pairs h b k u c cs goes sees below)
]

pub sees_rest : (clients : List Client) (nodes : List (Option InstanceEntry)) (pairs : Pairs) (h : List Item) (b k : ℕ) (c : Cell) (cs : List Cell) → LetsGo clients nodes pairs h b c.version → SeesAll clients nodes pairs h b k (c ∷ cs) → SeesAll clients nodes pairs h b k cs
sees_rest clients nodes pairs h b k c cs goes sees = record {
  falling = falls_tail c cs sees.falling;
  below = λ i x lt. sees.below (suc i) x (omega (arith, lt));
  shadows = λ i x lt. sees.shadows (suc i) x (omega (arith, lt));
  found = λ u d value placed less wrote. covers_rest clients nodes pairs h b k u c cs goes sees (λ here. omega (arith, goes.late d (subst (λ v. Committed h v d) (sym here) placed), less)) (sees.found u d value placed less wrote);
  values = λ i x lt. sees.values (suc i) x (omega (arith, lt));
  coming = λ u value comes unmarked wrote. covers_rest clients nodes pairs h b k u c cs goes sees (λ here. unmarked (subst (Marked pairs) here (goes.marked (subst (ComesBelow clients nodes b) (sym here) comes)))) (sees.coming u value comes unmarked wrote);
  coming_values = λ i x lt. sees.coming_values (suc i) x (omega (arith, lt));
}

-- its commit is not below the start
pub goes_late : (w : State) (h : List Item) (pairs : Pairs) (b v c : ℕ) → IsolationInvariant w h → Committed h v c → b ≤ c → LetsGo w.clients w.nodes pairs h b v
goes_late w h pairs b v c holds placed late = record {
  late = λ d other. omega (arith, one_commit h v c d holds.isolated.stamped placed other, late);
  marked = λ comes. absurd (pending_unplaced w.clients w.nodes h v c holds.numbers.placed holds.requests.pending (pending_coming w.clients w.nodes b v comes) placed);
}

late_commit : (b : ℕ) (shadow : Option ℕ) → is_late b shadow ≡ true → (commit : ℕ) × (shadow ≡ Some commit) × (b ≤ commit)
late_commit b None is = absurd (cc)
late_commit b (Some commit) is = (commit, refl, leb-true b commit is)

passed_late : (own : Bool) (late : Bool) → (if own then false else late) ≡ true → late ≡ true
passed_late true late is = absurd (cc)
passed_late false late is = is

passed_goes : (w : State) (h : List Item) (pairs : Pairs) (b k : ℕ) (c : Cell) (cs : List Cell) → IsolationInvariant w h → is_passed b c ≡ true → SeesAll w.clients w.nodes pairs h b k (c ∷ cs) → LetsGo w.clients w.nodes pairs h b c.version
passed_goes w h pairs b k c cs holds passed sees =
    let commit = late_commit b c.shadow (passed_late (c.version == b) (is_late b c.shadow) passed) in
    goes_late w h pairs b c.version commit.0 holds (sees.shadows 0 c (omega arith) commit.0 commit.1) commit.2

-- ---- answers
pub record IsAnswer (clients : List Client) (nodes : List (Option InstanceEntry)) (pairs : Pairs) (h : List Item) (b k : ℕ) (answer : Option Found) : Type 0 where
  pub visible : Visible h b k answer
  pub lasts : (u : ℕ) (value : List ℕ) → ComesBelow clients nodes b u → Wrote h u k value → Outlasts pairs b u answer

marked_by : (pairs : Pairs) (u : ℕ) (mark : Option Mark) → mark_of pairs u ≡ mark → Marked pairs u ⊎ (Marked pairs u → ⊥)
marked_by pairs u None is = inr (λ marked. none-some InvalidMark (sym is ∙ marked))
marked_by pairs u (Some InvalidMark) is = inl is
marked_by pairs u (Some (CommittedMark c)) is = inr (λ marked. committed_not_invalid c (sym is ∙ marked))

marked_or_not : (pairs : Pairs) (u : ℕ) → Marked pairs u ⊎ (Marked pairs u → ⊥)
marked_or_not pairs u = marked_by pairs u (mark_of pairs u) refl

-- of no cells nothing
pub answer_none : (clients : List Client) (nodes : List (Option InstanceEntry)) (pairs : Pairs) (h : List Item) (b k : ℕ) → SeesAll clients nodes pairs h b k [] → IsAnswer clients nodes pairs h b k None
answer_none clients nodes pairs h b k sees = record {
  visible = λ t c candidate. covered_none b t (sees.found t c candidate.wrote.0 candidate.committed candidate.below candidate.wrote.1);
  lasts = λ u value comes wrote. elim (marked_or_not pairs u) [
    | inl marked ↦ marked
    | inr unmarked ↦ absurd (covered_none b u (sees.coming u value comes unmarked wrote))
  ];
}

abbrev pub found_at : Cell → Found
found_at c = record { from = c.version; value = c.value }

newest_first : (w : State) (h : List Item) (pairs : Pairs) (b k d t c : ℕ) (cell : Cell) (cs : List Cell) → IsolationInvariant w h → SeesAll w.clients w.nodes pairs h b k (cell ∷ cs) → Committed h cell.version d → Wrote h cell.version k cell.value → Candidate h b k t c → c ≤ d
newest_first w h pairs b k d t c cell cs holds sees placed wrote candidate = elim (covered_upto b t cell cs sees.falling (sees.found t c candidate.wrote.0 candidate.committed candidate.below candidate.wrote.1)) [
  | inl here ↦ omega (arith, one_commit h cell.version c d holds.isolated.stamped (subst (λ v. Committed h v c) (sym here) candidate.committed) placed)
  | inr below ↦ omega (arith, later_version h cell.version t d c k cell.value candidate.wrote.0 holds.isolated.apart holds.isolated.stamped placed candidate.committed wrote candidate.wrote.1 below)
]

lasting_first : (w : State) (h : List Item) (pairs : Pairs) (b k d u : ℕ) (value : List ℕ) (cell : Cell) (cs : List Cell) → IsolationInvariant w h → SeesAll w.clients w.nodes pairs h b k (cell ∷ cs) → Committed h cell.version d → ComesBelow w.clients w.nodes b u → Wrote h u k value → Outlasts pairs b u (Some (found_at cell))
lasting_first w h pairs b k d u value cell cs holds sees placed comes wrote = elim (marked_or_not pairs u) [
  | inl marked ↦ inr (inl marked)
  | inr unmarked ↦ elim (covered_upto b u cell cs sees.falling (sees.coming u value comes unmarked wrote)) [
    | inl here ↦ absurd (pending_unplaced w.clients w.nodes h u d holds.numbers.placed holds.requests.pending (pending_coming w.clients w.nodes b u comes) (subst (λ v. Committed h v d) here placed))
    | inr below ↦ inr (inr below)
  ]
]

-- a first cell that is placed below the start
pub answer_first : (w : State) (h : List Item) (pairs : Pairs) (b k d : ℕ) (cell : Cell) (cs : List Cell) → IsolationInvariant w h → SeesAll w.clients w.nodes pairs h b k (cell ∷ cs) → Committed h cell.version d → d < b → IsAnswer w.clients w.nodes pairs h b k (Some (found_at cell))
answer_first w h pairs b k d cell cs holds sees placed below =
    let wrote : Wrote h cell.version k cell.value = sees.values 0 cell (omega arith) d placed below in
    record {
      visible = record {
        commit = d;
        candidate = record { committed = placed; below = below; wrote = (cell.value, wrote) };
        value = wrote;
        greatest = λ t c candidate. newest_first w h pairs b k d t c cell cs holds sees placed wrote candidate;
      };
      lasts = λ u value comes also. lasting_first w h pairs b k d u value cell cs holds sees placed comes also;
    }

-- ---- the read over cells
-- a read that goes on sees all, and an answer is right
abbrev pub TurnRight : State → List Item → Pairs → ℕ → ℕ → ℕ → ReadTurn → Type 0
TurnRight w h pairs b e k (Asks r) = IsReading w.setup w.clients w.nodes w.rows pairs h b e r × (r.key ≡ k)
TurnRight w h pairs b e k (Answers a) = IsAnswer w.clients w.nodes pairs h b k (found_of a.found)

-- what a transaction wrote before it reads was listed
abbrev pub OwnListed : List Item → ℕ → ℕ → Type 0
OwnListed h b k = (value : List ℕ) → Wrote h b k value → WasListed h b

abbrev pub read_first : Bool → ℕ → ℕ → ℕ → Cell → List Cell → Reading
read_first every key b e c cs = record { key = key; start = b; epoch = e; every = every; cell = c; older = cs; point = Table }

abbrev turn_first : Bool → ℕ → ℕ → ℕ → Cell → List Cell → Bool → ReadTurn
turn_first every key b e c cs at_once = if at_once then Answers (found_cell c) else Asks (read_first every key b e c cs)

-- a first cell that is not passed over: a shadow is below the start, and a bare cell is resolved
first_right : (w : State) (h : List Item) (pairs : Pairs) (every : Bool) (b e k : ℕ) (c : Cell) (cs : List Cell) (shadow : Option ℕ) → every ≡ marks_every w.setup → IsolationInvariant w h → OwnListed h b k → SeesAll w.clients w.nodes pairs h b k (c ∷ cs) → c.shadow ≡ shadow → is_late b shadow ≡ false → TurnRight w h pairs b e k (turn_first every k b e c cs (is_some shadow))
first_right w h pairs every b e k c cs None every_is holds own sees is stays = (record { start_is = refl; epoch_is = refl; every_is = every_is; own = own; sees = sees; resolved = tt }, refl)
first_right w h pairs every b e k c cs (Some commit) every_is holds own sees is stays = answer_first w h pairs b k commit c cs holds sees (sees.shadows 0 c (omega arith) commit is) (leb-false b commit stays)

other_version : (b v : ℕ) → v < b → (v == b) ≡ false
other_version b v below = ne_eqb v b (λ same. omega (arith, same, below))

not_late : (own late : Bool) → own ≡ false → (if own then false else late) ≡ false → late ≡ false
not_late true late is stays = absurd (cc)
not_late false late is stays = stays

stops_right : (w : State) (h : List Item) (pairs : Pairs) (every : Bool) (b e k : ℕ) (c : Cell) (cs : List Cell) → every ≡ marks_every w.setup → IsolationInvariant w h → OwnListed h b k → SeesAll w.clients w.nodes pairs h b k (c ∷ cs) → is_passed b c ≡ false → TurnRight w h pairs b e k (turn_at every k b e (c ∷ cs))
stops_right w h pairs every b e k c cs every_is holds own sees stays =
    let other : (c.version == b) ≡ false = other_version b c.version (sees.below 0 c (omega arith)) in
    subst (λ (mine : Bool). TurnRight w h pairs b e k (turn_first every k b e c cs (mine || is_some c.shadow))) (sym other)
    (first_right w h pairs every b e k c cs c.shadow every_is holds own sees refl (not_late (c.version == b) (is_late b c.shadow) other stays))

pub over_right : (w : State) (h : List Item) (pairs : Pairs) (every : Bool) (b e k : ℕ) (cells : List Cell) → every ≡ marks_every w.setup → IsolationInvariant w h → OwnListed h b k → SeesAll w.clients w.nodes pairs h b k cells → TurnRight w h pairs b e k (read_over every k b e cells)
unfolding after_passed
over_right w h pairs every b e k [] every_is holds own sees = answer_none w.clients w.nodes pairs h b k sees
over_right w h pairs every b e k (c ∷ cs) every_is holds own sees = elim (cases_Bool (is_passed b c)) [
  | inl passed ↦ rw passed (over_right w h pairs every b e k cs every_is holds own (sees_rest w.clients w.nodes pairs h b k c cs (passed_goes w h pairs b k c cs holds passed sees) sees))
  | inr stays ↦ rw stays (stops_right w h pairs every b e k c cs every_is holds own sees stays)
]
