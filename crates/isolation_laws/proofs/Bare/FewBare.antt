-- For grant_laws too.
-- Of the cells of one key as many as there are sessions and faults have no shadow, at most: their versions differ, and each is the
-- start of a session or a transaction that was let go.
use Rattle.isolation_laws.proofs.Names.{[], ◌≡◌, ℕ, zero, suc, ◌+◌, ◌≤◌, ◌<◌, ◌==◌, true, false, All, List, ◌∷◌, ◌++◌}
use Rattle.isolation_laws.proofs.Names.{map, length, length-append, not, is_some, Option, Some, None, inl, inr, refl}
use Rattle.isolation_laws.proofs.Names.{sym, ◌∙◌, ap, subst, arith, IsEquivalence, IsDistinct, AllByRecursion, filter}
use Rattle.isolation_laws.proofs.Names.{cases_Bool, cases_eq, eq-eqb, ne_eqb, All-head, All-tail, length-map, ◌∈◌, Item}
use Rattle.isolation_laws.proofs.Names.{in_front, in_back, Cell, looked, fetched, AreFalling, Client, State, ClientAt}
use Rattle.isolation_laws.proofs.Names.{is_bare, BareCellsAreFew, IsolationInvariant}
use Rattle.std.specs.Set.{is_member}
use Rattle.std.proofs.lemmas.Map.Made.{length-le_from_is_member}
use Rattle.isolation_laws.proofs.Reading.SeesFetched.{are_fetched}

-- ---- members, by the test
member_of : (q : ℕ) (xs : List ℕ) → q ∈ xs → is_member (λ (a : ℕ) (b : ℕ). a == b) xs q ≡ true
unfolding ◌∈◌
member_of q [] m = absurd m
member_of q (x ∷ xs) m = elim (cases_eq q x) [
  | inl same ↦ rw (eq-eqb q x same) refl
  | inr other ↦ rw (ne_eqb q x other) (elim m [
    | inl here ↦ absurd (other here)
    | inr rest ↦ member_of q xs rest
  ])
]

same_laws : IsEquivalence (λ (a : ℕ) (b : ℕ). a == b)
same_laws = record {
  refl = λ a. eq-eqb a a refl;
  symm = λ a b. elim (cases_eq a b) [
    | inl same ↦ rw (eq-eqb a b same, eq-eqb b a (sym same)) refl
    | inr other ↦ rw (ne_eqb a b other, ne_eqb b a (λ same. other (sym same))) refl
  ];
  congr = λ a b c is. elim (cases_eq a b) [
    | inl same ↦ ap (λ (x : ℕ). x == c) same
    | inr other ↦ let clash : false ≡ true = sym (ne_eqb a b other) ∙ is in absurd (cc)
  ];
}

-- ---- the starts of sessions
with_start : Option ℕ → List ℕ → List ℕ
with_start None starts = starts
with_start (Some start) starts = start ∷ starts

starts_of : List Client → List ℕ
starts_of [] = []
starts_of (c ∷ cs) = with_start c.entry.start (starts_of cs)

few_with : (from : Option ℕ) (starts : List ℕ) → length (with_start from starts) ≤ 1 + length starts
unfolding with_start
few_with None starts = omega arith
few_with (Some start) starts = omega arith

few_starts : (clients : List Client) → length (starts_of clients) ≤ length clients
unfolding starts_of
few_starts [] = omega arith
few_starts (c ∷ cs) = omega (arith, few_with c.entry.start (starts_of cs), few_starts cs)

in_with : (from : Option ℕ) (t : ℕ) (starts : List ℕ) → t ∈ starts → t ∈ with_start from starts
unfolding with_start ◌∈◌
in_with None t starts m = m
in_with (Some start) t starts m = inr m

start_in : (clients : List Client) (s : ℕ) (c : Client) (t : ℕ) → ClientAt clients s c → c.entry.start ≡ Some t → t ∈ starts_of clients
unfolding starts_of with_start ◌∈◌
start_in [] s c t at start = absurd (cc)
start_in (d ∷ cs) zero c t at start =
    let same : d.entry.start ≡ Some t = ap (λ (x : Option Client). start_or x) at ∙ start in
    subst (λ (from : Option ℕ). t ∈ with_start from (starts_of cs)) (sym same) (inl refl)
  where
    start_or : Option Client → Option ℕ
    start_or None = None
    start_or (Some x) = x.entry.start
start_in (d ∷ cs) (suc s) c t at start = in_with d.entry.start t (starts_of cs) (start_in cs s c t at start)

-- ---- the versions of bare cells
versions_of : List Cell → List ℕ
versions_of cells = map (λ (c : Cell). c.version) (filter is_bare cells)

apart : (t : ℕ) (cells : List Cell) → All (λ (c : Cell). c.version < t) cells → AllByRecursion (λ (u : ℕ). (t == u) ≡ false) (versions_of cells)
unfolding versions_of
apart t [] below = tt
apart t (c ∷ cs) below = elim (cases_Bool (is_bare c)) [
  | inl bare ↦ rw bare (ne_eqb t c.version (λ same. omega (arith, same, All-head (λ (x : Cell). x.version < t) c cs below)), apart t cs (All-tail (λ (x : Cell). x.version < t) c cs below))
  | inr other ↦ rw other (apart t cs (All-tail (λ (x : Cell). x.version < t) c cs below))
]

falls_head : (c : Cell) (cs : List Cell) → AreFalling (c ∷ cs) → All (λ (x : Cell). x.version < c.version) cs
falls_head c cs falling = λ i d less. falling 0 (suc i) d (omega arith) (omega (arith, less))

falls_tail : (c : Cell) (cs : List Cell) → AreFalling (c ∷ cs) → AreFalling cs
falls_tail c cs falling = λ i j d less there. falling (suc i) (suc j) d (omega (arith, less)) (omega (arith, there))

distinct : (cells : List Cell) → AreFalling cells → IsDistinct (λ (a : ℕ) (b : ℕ). a == b) (versions_of cells)
unfolding versions_of IsDistinct
distinct [] falling = tt
distinct (c ∷ cs) falling = elim (cases_Bool (is_bare c)) [
  | inl bare ↦ rw bare (apart c.version cs (falls_head c cs falling), distinct cs (falls_tail c cs falling))
  | inr other ↦ rw other (distinct cs (falls_tail c cs falling))
]

bare_version : (P : Cell → Type 0) (q : ℕ) (cells : List Cell) → All P cells → is_member (λ (a : ℕ) (b : ℕ). a == b) (versions_of cells) q ≡ true → (c : Cell) × P c × (is_bare c ≡ true) × (c.version ≡ q)
unfolding versions_of
bare_version P q [] all is = absurd (cc)
bare_version P q (c ∷ cs) all is = elim (cases_Bool (is_bare c)) [
  | inl bare ↦ elim (cases_eq q c.version) [
    | inl same ↦ (c, All-head P c cs all, bare, sym same)
    | inr other ↦ bare_version P q cs (All-tail P c cs all) (rw (ne_eqb q c.version other) at (rw bare at is))
  ]
  | inr other ↦ bare_version P q cs (All-tail P c cs all) (rw other at is)
]

bare_is : (shadow : Option ℕ) → not (is_some shadow) ≡ true → shadow ≡ None
bare_is None is = refl
bare_is (Some commit) is = absurd (cc)

-- ---- each is of a session, or was let go
owned_version : (w : State) (h : List Item) (key upto q : ℕ) → (holds : IsolationInvariant w h) → is_member (λ (a : ℕ) (b : ℕ). a == b) (versions_of (fetched w.rows key upto)) q ≡ true → q ∈ (starts_of w.clients ++ holds.owned.lost)
owned_version w h key upto q holds is =
    let cell = bare_version (λ (c : Cell). looked w.rows key c.version ≡ Some c) q (fetched w.rows key upto) (are_fetched w h key upto holds).found is in
    elim (holds.owned.each key q (record { cell = cell.0; there = subst (λ (t : ℕ). looked w.rows key t ≡ Some cell.0) cell.3 cell.1; bare = bare_is cell.0.shadow cell.2 })) [
      | inl o ↦ in_front q (starts_of w.clients) holds.owned.lost (start_in w.clients o.session o.client q o.at o.its.0)
      | inr m ↦ in_back q (starts_of w.clients) holds.owned.lost m
    ]

as_many : (cells : List Cell) → length (versions_of cells) ≡ length (filter is_bare cells)
unfolding versions_of
as_many cells = length-map (filter is_bare cells) (λ (c : Cell). c.version)

pub few_bare : (w : State) (h : List Item) → IsolationInvariant w h → BareCellsAreFew w h
few_bare w h holds key upto =
    let cells : List Cell = fetched w.rows key upto in
    let all : List ℕ = starts_of w.clients ++ holds.owned.lost in
    let fits : length (versions_of cells) ≤ length all = length-le_from_is_member same_laws (versions_of cells) all (distinct cells (are_fetched w h key upto holds).falling) (λ q is. member_of q all (owned_version w h key upto q holds is)) in
    let counted : length (versions_of cells) ≡ length (filter is_bare cells) = as_many cells in
    omega (arith, fits, counted, length-append (starts_of w.clients) holds.owned.lost, few_starts w.clients, holds.owned.few)
