-- The cells that a read comes to: their versions wrote the key, or are over.
use Rattle.isolation_laws.proofs.Names.{◌≡◌, ℕ, ◌==◌, ◌||◌, nat_lt, is_some, Bool, All, List, [], ◌∷◌, Option, Some}
use Rattle.isolation_laws.proofs.Names.{None, inl, inr, refl, sym, ◌∙◌, ap, subst, cases_Bool, none-some, All-tail}
use Rattle.isolation_laws.proofs.Names.{last_write, Item, Cell, looked, fetched, front_of, front-all, Told, Answer}
use Rattle.isolation_laws.proofs.Names.{CommittedAt, Dead, SettleTurn, Goes, Decides, settle_turn, Reading, ReadTurn}
use Rattle.isolation_laws.proofs.Names.{Asks, Answers, found_none, found_cell, found_by, is_passed, after_passed}
use Rattle.isolation_laws.proofs.Names.{turn_at, settling_of, read_over, read_by, Cache, outcome_known, recalled_over}
use Rattle.isolation_laws.proofs.Names.{recalled_told, AnyCache, Recalls, come_to, over_holds, told_holds, State}
use Rattle.isolation_laws.proofs.Names.{cell_with, IsWrittenCell, IsolationInvariant}
use Rattle.isolation_laws.proofs.Reading.SeesFetched.{are_fetched}

-- ---- a turn that goes on is over cells such as these
module _ (Q : Cell → Type 0) where
  abbrev pub AsksAmong : ReadTurn → Type 0
  AsksAmong turn = (r : Reading) → turn ≡ Asks r → All Q (r.cell ∷ r.older)

  answers_among : (a : Answer) → AsksAmong (Answers a)
  answers_among a r is = absurd (cc)

  asks_among : (x : Reading) → All Q (x.cell ∷ x.older) → AsksAmong (Asks x)
  asks_among x all r is = let same : x ≡ r = cc in subst (λ (y : Reading). All Q (y.cell ∷ y.older)) same all

  passed_among : (b : ℕ) (cells : List Cell) → All Q cells → All Q (after_passed b cells)
  unfolding after_passed
  passed_among b [] all = all
  passed_among b (c ∷ cs) all = elim (cases_Bool (is_passed b c)) [
    | inl passed ↦ rw passed (passed_among b cs (All-tail Q c cs all))
    | inr stays ↦ rw stays all
  ]

  turn_among : (every : Bool) (j b e : ℕ) (cells : List Cell) → All Q cells → AsksAmong (turn_at every j b e cells)
  turn_among every j b e [] all = answers_among found_none
  turn_among every j b e (c ∷ cs) all = elim (cases_Bool ((c.version == b) || is_some c.shadow)) [
    | inl answers ↦ rw answers (answers_among (found_cell c))
    | inr asks ↦ rw asks (asks_among (come_to every j b e c cs) all)
  ]

  over_among : (every : Bool) (j b e : ℕ) (cells : List Cell) → All Q cells → AsksAmong (read_over every j b e cells)
  over_among every j b e cells all = turn_among every j b e (after_passed b cells) (passed_among b cells all)

  by_among : (r : Reading) (turn : SettleTurn) → All Q (r.cell ∷ r.older) → AsksAmong (read_by r turn)
  by_among r (Goes p) all = asks_among (record r { point = p }) all
  by_among r (Decides Dead) all = over_among r.every r.key r.start r.epoch r.older (All-tail Q r.cell r.older all)
  by_among r (Decides (CommittedAt c by_table)) all = elim (cases_Bool (nat_lt c r.start)) [
    | inl below ↦ rw below (answers_among (found_by r.key r.cell c by_table))
    | inr late ↦ rw late (over_among r.every r.key r.start r.epoch r.older (All-tail Q r.cell r.older all))
  ]

  recalls_among : Recalls AsksAmong AnyCache
  recalls_among = record {
    stays = λ cache txn any. tt;
    goes = λ cache r it any is among. by_among r (Decides (outcome_known it)) (among r refl);
  }

  pub fetched_among : (every : Bool) (j b e : ℕ) (cells : List Cell) (cache : Cache) → All Q cells → AsksAmong (recalled_over every j b e cells cache).0
  fetched_among every j b e cells cache all = (over_holds AsksAmong AnyCache recalls_among every j b e cells cache tt (over_among every j b e cells all)).0

  pub told_among : (cache : Cache) (r : Reading) (told : Told) → All Q (r.cell ∷ r.older) → AsksAmong (recalled_told cache r told).0
  told_among cache r told all = (told_holds AsksAmong AnyCache recalls_among cache r told tt (by_among r (settle_turn (settling_of r) told) all)).0

-- ---- a cell that is there was written by its version: one that may still be placed, or is placed, has cells where it wrote alone
none_there : (w : State) (k t : ℕ) (shadow : Option ℕ) (written : Option (List ℕ)) (c : Cell) → written ≡ None → looked w.rows k t ≡ cell_with t shadow written → looked w.rows k t ≡ Some c → ⊥
none_there w k t shadow written c none is there = none-some c (sym (is ∙ ap (cell_with t shadow) none) ∙ there)

written_by_last : (w : State) (h : List Item) (k : ℕ) (c : Cell) (last : Option (List ℕ)) → IsolationInvariant w h → looked w.rows k c.version ≡ Some c → last_write h c.version k ≡ last → IsWrittenCell w.clients w.nodes h k c
written_by_last w h k c (Some value) holds there is = inl (value, is)
written_by_last w h k c None holds there is =
    let who = holds.cells.rows_are.begun k c.version c there in
    inr (record {
      session = who.0;
      begun = who.1;
      dead = λ live. elim (holds.cells.live.bare c.version k live) [
        | inl bare ↦ none_there w k c.version None (last_write h c.version k) c is bare there
        | inr swept ↦ none-some c (sym swept.0 ∙ there)
      ];
      unplaced = λ d placed. elim (holds.cells.placed.cells c.version d k placed) [
        | inl bare ↦ none_there w k c.version None (last_write h c.version k) c is bare there
        | inr shadowed ↦ none_there w k c.version (Some d) (last_write h c.version k) c is shadowed there
      ];
    })

pub front_written : (w : State) (h : List Item) (k b : ℕ) → IsolationInvariant w h → All (IsWrittenCell w.clients w.nodes h k) (front_of b (fetched w.rows k b))
front_written w h k b holds =
    front-all (IsWrittenCell w.clients w.nodes h k) b (fetched w.rows k b)
    (λ i c less. written_by_last w h k _ _ holds ((are_fetched w h k b holds).found i c less) refl)
