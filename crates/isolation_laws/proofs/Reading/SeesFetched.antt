-- A fetch gives all that a read may answer with, and so do its cells down to the first that decides.
use Rattle.isolation_laws.proofs.Names.{◌≡◌, ◌≢◌, ℕ, zero, suc, ◌<◌, ◌≤◌, List, [], ◌∷◌, Option, Some, None, inl, inr}
use Rattle.isolation_laws.proofs.Names.{refl, sym, ◌∙◌, ap, arith, All, length, slice_index_or, same_Some, none-some}
use Rattle.isolation_laws.proofs.Names.{All-contains, Committed, Wrote, last_write, WasListed, Item, Cell, Row, looked}
use Rattle.isolation_laws.proofs.Names.{fetched, front_of, AreFalling, AreUpto, Pairs, looked-version, fetched-upto}
use Rattle.isolation_laws.proofs.Names.{fetched-falls, Contains-fetched, front-all, front-falls, InstanceEntry, Client}
use Rattle.isolation_laws.proofs.Names.{State, OpenAt, Marked, cell_with, ComesBelow, IsPending, IsCovered}
use Rattle.isolation_laws.proofs.Names.{HasLastWrite, SeesAll, IsolationInvariant}
use Rattle.std.specs.List.{Contains}
use Rattle.isolation_laws.proofs.ComingBelow.{coming_is_below}
use Rattle.isolation_laws.proofs.Reading.CoveredVersions.{falls_head, among_contained, covered_front}

-- what a fetch gives: cells of the rows, falling, up to the start, and all of them
pub record AreCellsOf (rows : List Row) (k b : ℕ) (cells : List Cell) : Type 0 where
  pub falling : AreFalling cells
  pub upto : AreUpto b cells
  pub found : All (λ (c : Cell). looked rows k c.version ≡ Some c) cells
  pub complete : (t : ℕ) (c : Cell) → looked rows k t ≡ Some c → t ≤ b → Contains cells c

index_any : (xs : List Cell) (i : ℕ) (d e : Cell) → i < length xs → slice_index_or xs i d ≡ slice_index_or xs i e
index_any [] i d e less = absurd (omega (arith, less))
index_any (x ∷ xs) zero d e less = refl
index_any (x ∷ xs) (suc i) d e less = index_any xs i d e (omega (arith, less))

all_of : (P : Cell → Type 0) (xs : List Cell) → ((c : Cell) → Contains xs c → P c) → All P xs
all_of P xs each i d less = each (slice_index_or xs i d) (i, less, index_any xs i (slice_index_or xs i d) d less)

pub are_fetched : (w : State) (h : List Item) (k b : ℕ) → IsolationInvariant w h → AreCellsOf w.rows k b (fetched w.rows k b)
are_fetched w h k b holds = record {
  falling = fetched-falls w.rows k b holds.cells.rows_are.ordered;
  upto = fetched-upto w.rows k b;
  found = all_of (λ (c : Cell). looked w.rows k c.version ≡ Some c) (fetched w.rows k b) (λ c there. ((Contains-fetched w.rows k b c holds.cells.rows_are.ordered).0 there).0);
  complete = λ t c there upto.
      let version : c.version ≡ t = looked-version w.rows k t c there in
      (Contains-fetched w.rows k b c holds.cells.rows_are.ordered).1 (ap (looked w.rows k) version ∙ there, omega (arith, version, upto));
}

-- a cell has the value that it was made with
pub cell_value : (t : ℕ) (shadow : Option ℕ) (value : Option (List ℕ)) (c : Cell) → cell_with t shadow value ≡ Some c → value ≡ Some c.value
cell_value t shadow None c is = absurd (none-some c is)
cell_value t shadow (Some value) c is = ap Some (ap (λ (x : Cell). x.value) (same_Some (record { version = t; value = value; shadow = shadow }) c is))

pub pending_coming : (clients : List Client) (nodes : List (Option InstanceEntry)) (b u : ℕ) → ComesBelow clients nodes b u → IsPending clients nodes u
pending_coming clients nodes b u c = record { coming = c.coming; pending = c.pending; start_is = c.start_is }

comes_lower : (w : State) (h : List Item) (b u : ℕ) → IsolationInvariant w h → ComesBelow w.clients w.nodes b u → u < b
comes_lower w h b u holds c = coming_is_below w.clients w.nodes h b u holds.numbers.new holds.requests.accepted holds.requests.pending c

-- a cell that was written stands among them
among_with : (w : State) (k b u : ℕ) (shadow : Option ℕ) (value : List ℕ) (written : Option (List ℕ)) (cells : List Cell) → AreCellsOf w.rows k b cells → u ≤ b → written ≡ Some value → looked w.rows k u ≡ cell_with u shadow written → IsCovered b u cells
among_with w k b u shadow value written cells are upto wrote is =
    let c : Cell = record { version = u; value = value; shadow = shadow } in
    let there : looked w.rows k u ≡ Some c = is ∙ ap (cell_with u shadow) wrote in
    inl (among_contained u cells c (are.complete u c there upto) refl)

placed_found : (w : State) (h : List Item) (k b u d : ℕ) (value : List ℕ) (cells : List Cell) → IsolationInvariant w h → AreCellsOf w.rows k b cells → Committed h u d → d < b → Wrote h u k value → IsCovered b u cells
placed_found w h k b u d value cells holds are placed less wrote =
    let upto : u ≤ b = omega (arith, holds.isolated.stamped.start_below_commit u d placed, less) in
    elim (holds.cells.placed.cells u d k placed) [
      | inl bare ↦ among_with w k b u None value (last_write h u k) cells are upto wrote bare
      | inr shadowed ↦ among_with w k b u (Some d) value (last_write h u k) cells are upto wrote shadowed
    ]

placed_value : (w : State) (h : List Item) (k d : ℕ) (c : Cell) → IsolationInvariant w h → looked w.rows k c.version ≡ Some c → Committed h c.version d → HasLastWrite h k c
placed_value w h k d c holds there placed = elim (holds.cells.placed.cells c.version d k placed) [
  | inl bare ↦ cell_value c.version None (last_write h c.version k) c (sym bare ∙ there)
  | inr shadowed ↦ cell_value c.version (Some d) (last_write h c.version k) c (sym shadowed ∙ there)
]

coming_found : (w : State) (h : List Item) (k b u : ℕ) (value : List ℕ) (cells : List Cell) → IsolationInvariant w h → AreCellsOf w.rows k b cells → ComesBelow w.clients w.nodes b u → (Marked w.pairs u → ⊥) → Wrote h u k value → IsCovered b u cells
coming_found w h k b u value cells holds are comes unmarked wrote = elim (holds.cells.live.bare u k (inr (pending_coming w.clients w.nodes b u comes))) [
  | inl bare ↦ among_with w k b u None value (last_write h u k) cells are (omega (arith, comes_lower w h b u holds comes)) wrote bare
  | inr swept ↦ absurd (unmarked swept.1.marked)
]

coming_value : (w : State) (h : List Item) (k b : ℕ) (c : Cell) → IsolationInvariant w h → looked w.rows k c.version ≡ Some c → ComesBelow w.clients w.nodes b c.version → (Marked w.pairs c.version → ⊥) → HasLastWrite h k c
coming_value w h k b c holds there comes unmarked = elim (holds.cells.live.bare c.version k (inr (pending_coming w.clients w.nodes b c.version comes))) [
  | inl bare ↦ cell_value c.version None (last_write h c.version k) c (sym bare ∙ there)
  | inr swept ↦ absurd (unmarked swept.1.marked)
]

-- where none is the reader's own
pub sees_fetched : (w : State) (h : List Item) (k b : ℕ) (cells : List Cell) → IsolationInvariant w h → AreCellsOf w.rows k b cells → All (λ (c : Cell). c.version < b) cells → SeesAll w.clients w.nodes w.pairs h b k cells
sees_fetched w h k b cells holds are below = record {
  falling = are.falling;
  below = below;
  shadows = λ i x lt commit is. holds.cells.rows_are.placed k _ commit _ (are.found i x lt) is;
  found = λ u d value placed less wrote. placed_found w h k b u d value cells holds are placed less wrote;
  values = λ i x lt d placed less. placed_value w h k d _ holds (are.found i x lt) placed;
  coming = λ u value comes unmarked wrote. coming_found w h k b u value cells holds are comes unmarked wrote;
  coming_values = λ i x lt comes unmarked. coming_value w h k b _ holds (are.found i x lt) comes unmarked;
}

-- ---- the front of them
pub sees_front : (clients : List Client) (nodes : List (Option InstanceEntry)) (pairs : Pairs) (h : List Item) (b k : ℕ) (cells : List Cell) → SeesAll clients nodes pairs h b k cells → SeesAll clients nodes pairs h b k (front_of b cells)
sees_front clients nodes pairs h b k cells sees = record {
  falling = front-falls b cells sees.falling;
  below = front-all (λ (c : Cell). c.version < b) b cells sees.below;
  shadows = front-all (λ (c : Cell). (commit : ℕ) → c.shadow ≡ Some commit → Committed h c.version commit) b cells sees.shadows;
  found = λ u d value placed less wrote. covered_front b u cells sees.falling (sees.found u d value placed less wrote);
  values = front-all (λ (c : Cell). (d : ℕ) → Committed h c.version d → d < b → HasLastWrite h k c) b cells sees.values;
  coming = λ u value comes unmarked wrote. covered_front b u cells sees.falling (sees.coming u value comes unmarked wrote);
  coming_values = front-all (λ (c : Cell). ComesBelow clients nodes b c.version → (Marked pairs c.version → ⊥) → HasLastWrite h k c) b cells sees.coming_values;
}

-- ---- the reader's own cell
lower : (a b : ℕ) → a ≤ b → a ≢ b → a < b
lower a b upto other = grind (arith, upto, other)

-- where the first is not the reader's own, none is
pub none_own : (b : ℕ) (c : Cell) (cs : List Cell) → AreFalling (c ∷ cs) → AreUpto b (c ∷ cs) → c.version ≢ b → All (λ (x : Cell). x.version < b) (c ∷ cs)
none_own b c cs falling upto other zero d less = lower c.version b (upto 0 c (omega arith)) other
none_own b c cs falling upto other (suc i) d less =
    let first : c.version ≤ b = upto 0 c (omega arith) in
    omega (arith, falls_head c cs falling i d (omega (arith, less)), first)

-- what the reader wrote stands in its own cell, or was listed
pub own_or_listed : (w : State) (h : List Item) (s k b e : ℕ) (cells : List Cell) (value : List ℕ) → IsolationInvariant w h → OpenAt w.clients s b e → AreCellsOf w.rows k b cells → All (λ (c : Cell). c.version < b) cells → Wrote h b k value → WasListed h b
own_or_listed w h s k b e cells value holds o are below wrote = elim (holds.cells.live.bare b k (inl (record { session = s; epoch = e; open_at = o }))) [
  | inl bare ↦
      let c : Cell = record { version = b; value = value; shadow = None } in
      let there : looked w.rows k b ≡ Some c = bare ∙ ap (cell_with b None) wrote in
      absurd (omega (arith, All-contains (λ (x : Cell). x.version < b) cells c below (are.complete b c there (omega arith))))
  | inr swept ↦ swept.1.listed
]

pub own_value : (w : State) (h : List Item) (s k b e : ℕ) (c : Cell) → IsolationInvariant w h → OpenAt w.clients s b e → looked w.rows k c.version ≡ Some c → c.version ≡ b → last_write h b k ≡ Some c.value
own_value w h s k b e c holds o there mine = elim (holds.cells.live.bare b k (inl (record { session = s; epoch = e; open_at = o }))) [
  | inl bare ↦ cell_value b None (last_write h b k) c (sym bare ∙ (ap (looked w.rows k) (sym mine) ∙ there))
  | inr swept ↦ absurd (none-some c (sym swept.0 ∙ (ap (looked w.rows k) (sym mine) ∙ there)))
]
