-- What is under way where a sweep is opened, makes a step, lists the keys or fails.
use Rattle.isolation_laws.proofs.Names.{◌≡◌, ℕ, ◌==◌, nat_lt, List, [], ◌∷◌, ◌++◌, Option, Some, None, inl, inr, refl}
use Rattle.isolation_laws.proofs.Names.{sym, ◌∙◌, ap, subst, append-nil, cases_Bool, eq-eqb, same_Some, none-some, Mark}
use Rattle.isolation_laws.proofs.Names.{CommittedMark, InvalidMark, ◌∈◌, Janitor, KeysStep, Item, Placed, Step, in_last}
use Rattle.isolation_laws.proofs.Names.{Cell, Row, looked, keys_of_version, Pairs, mark_of, put_pair, is_row-cases}
use Rattle.isolation_laws.proofs.Names.{entry_or, mark_of-put_pair, Ask, first_ask, SweepPoint, Marking, Listing, Left}
use Rattle.isolation_laws.proofs.Names.{Undecided, Sweeping, sweep_open, sweep_ask, sweep_ask_at, sweep_after_table}
use Rattle.isolation_laws.proofs.Names.{sweep_after_marking, sweep_point_after, sweep_told, sweep_point_listed}
use Rattle.isolation_laws.proofs.Names.{sweep_listed, State, rows_after, pairs_after, told_entry, told_mark, told_by}
use Rattle.isolation_laws.proofs.Names.{still_open, sweep_left, IsSweptAt, IsSweeping, UnderWayFacts}
use Rattle.isolation_laws.proofs.Names.{IsolationInvariant}
use Rattle.system_parts.specs.declared.asks.Ask.TheVariants as ask
use Rattle.system_parts.specs.Sweep.{Table}
use Rattle.machine.specs.Outcome.OutcomesOfSweeps.{SweepOpened, sweep_opened_state, SweptOne, swept_state, SweepListed, sweep_listed_state, sweep_listed_items, SweepFailed, sweep_failed_state}
use Rattle.isolation_laws.proofs.Stores.Calm.{Calm, calm_same, calm_quiet, calm_push}
use Rattle.isolation_laws.proofs.UnderWay.Works.{AllWork, all_work, under_way, KeepsPlaced, swept_at_on, sweeping_none, work_on}
use Rattle.isolation_laws.proofs.Stores.StoreMoves.{AskFits, keeps_same, keeps_stepped, marks_stepped}
use Rattle.isolation_laws.proofs.Stores.CompletionSteps.{finish_next, undo_first, sweep_fits, placed_row}
use Rattle.isolation_laws.proofs.UnderWay.SessionMoves.{work_kept}
use Rattle.isolation_laws.proofs.UnderWay.UnderWayOfCompletions.{keeps_if}

-- ---- a sweep is opened
opened_knows : (rows : List Row) (pairs : Pairs) (h : List Item) (txn epoch : ℕ) → IsSweeping (Some (sweep_open txn epoch)) rows pairs h
opened_knows rows pairs h txn epoch = record {
  knows = λ s is. subst (λ (x : Sweeping). IsSweptAt rows pairs h x.txn x.point) (same_Some (sweep_open txn epoch) s is) tt;
}

pub under_way_sweep_opened : (w : State) (h : List Item) (k : SweepOpened w) → IsolationInvariant w h → UnderWayFacts w.clients (sweep_opened_state w k).sweep w.rows w.pairs (h ++ [])
under_way_sweep_opened w h k holds = subst (λ (g : List Item). UnderWayFacts w.clients (sweep_opened_state w k).sweep w.rows w.pairs g) (sym (append-nil h))
    (under_way w.clients (sweep_opened_state w k).sweep w.rows w.pairs h (all_work w.clients w.sweep w.rows w.pairs h holds.under_way) (opened_knows w.rows w.pairs h k.txn k.epoch))

-- ---- what stays open
still_open_is : (s t : Sweeping) (asked : Option Ask) → still_open s asked ≡ Some t → (s ≡ t) × ((a : Ask) × (asked ≡ Some a))
still_open_is s t None is = absurd (none-some t is)
still_open_is s t (Some a) is = (same_Some s t is, (a, refl))

left_is : (s t : Sweeping) → sweep_left s ≡ Some t → (s ≡ t) × ((a : Ask) × (sweep_ask s ≡ Some a))
left_is s t is = still_open_is s t (sweep_ask s) is

-- ---- a step
after_table_knows : (w : State) (h : List Item) (txn epoch : ℕ) (found : Option Mark) → IsolationInvariant w h → mark_of w.pairs txn ≡ found → IsSweptAt w.rows w.pairs h txn (sweep_after_table txn epoch (told_entry found))
after_table_knows w h txn epoch None holds e = elim (cases_Bool (nat_lt epoch txn)) [
  | inl above ↦ rw above tt
  | inr below ↦ rw below tt
]
after_table_knows w h txn epoch (Some InvalidMark) holds e = e
after_table_knows w h txn epoch (Some (CommittedMark c)) holds e = holds.cells.pairs_are.placed txn c e

after_marking_knows : (w : State) (h : List Item) (txn : ℕ) (found : Option Mark) → IsolationInvariant w h → mark_of w.pairs txn ≡ found → IsSweptAt w.rows (put_pair w.pairs txn InvalidMark) h txn (sweep_after_marking (told_mark found))
after_marking_knows w h txn None holds e = mark_of-put_pair w.pairs txn InvalidMark ∙ ap (λ o. Some (entry_or o InvalidMark)) e
after_marking_knows w h txn (Some InvalidMark) holds e = mark_of-put_pair w.pairs txn InvalidMark ∙ ap (λ o. Some (entry_or o InvalidMark)) e
after_marking_knows w h txn (Some (CommittedMark c)) holds e = holds.cells.pairs_are.placed txn c e

-- the step that is made at the point, as it leaves the stores
abbrev Knows : State → List Item → ℕ → SweepPoint → Ask → Type 0
Knows w h txn at asked = IsSweptAt (rows_after asked w.rows) (pairs_after asked w.pairs) h txn at

no_first : (asks : List Ask) (a : Ask) → asks ≡ [] → first_ask asks ≡ Some a → ⊥
no_first [] a none is = none-some a is
no_first (x ∷ asks) a none is = cc

left_knows : (w : State) (h : List Item) (txn : ℕ) (asked : Ask) (rest : List Ask) (a : Ask) → IsolationInvariant w h → first_ask rest ≡ Some a → IsSweptAt w.rows w.pairs h txn (Left (asked ∷ rest)) → Knows w h txn (Left rest) asked
left_knows w h txn asked rest a holds more (inl finish) = elim (finish_next w h txn finish.0 asked rest holds finish.1) [
  | inl none ↦ absurd (no_first rest a none more)
  | inr next ↦ inl (finish.0, next)
]
left_knows w h txn asked rest a holds more (inr undo) =
    let one = undo_first txn undo.0 asked rest undo.1 in
    inr (one.1, one.4, marks_stepped asked w.pairs txn undo.2, undo.3)

ask_is : (a b : Ask) → Some a ≡ Some b → a ≡ b
ask_is a b same = same_Some a b same

step_knows : (w : State) (h : List Item) (txn epoch : ℕ) (at : SweepPoint) (asked next : Ask) → IsolationInvariant w h → sweep_ask_at txn at ≡ Some asked → ((u : ℕ) → asked ≡ ask.Keys u → ⊥) → IsSweptAt w.rows w.pairs h txn at → sweep_ask_at txn (sweep_point_after txn epoch at (told_by asked w.rows w.pairs)) ≡ Some next → Knows w h txn (sweep_point_after txn epoch at (told_by asked w.rows w.pairs)) asked
step_knows w h txn epoch Table asked next holds is no_list knows more = subst (λ (a : Ask). Knows w h txn (sweep_after_table txn epoch (told_by a w.rows w.pairs)) a) (ask_is (ask.Get txn) asked is) (after_table_knows w h txn epoch (mark_of w.pairs txn) holds refl)
step_knows w h txn epoch Marking asked next holds is no_list knows more = subst (λ (a : Ask). Knows w h txn (sweep_after_marking (told_by a w.rows w.pairs)) a) (ask_is (ask.Mark txn) asked is) (after_marking_knows w h txn (mark_of w.pairs txn) holds refl)
step_knows w h txn epoch (Listing found) asked next holds is no_list knows more = absurd (no_list txn (sym (ask_is (ask.Keys txn) asked is)))
step_knows w h txn epoch (Left []) asked next holds is no_list knows more = absurd (none-some asked is)
step_knows w h txn epoch (Left (a ∷ rest)) asked next holds is no_list knows more =
    let same : a ≡ asked = ask_is a asked is in
    subst (λ (x : Ask). Knows w h txn (Left rest) x) same (left_knows w h txn a rest next holds more knows)
step_knows w h txn epoch Undecided asked next holds is no_list knows more = absurd (none-some asked is)

swept_sweeping : (w : State) (h : List Item) (k : SweptOne w) → IsolationInvariant w h → IsSweeping (swept_state w k).sweep (swept_state w k).rows (swept_state w k).pairs h
swept_sweeping w h k holds = record {
  knows = λ t is.
      let left = left_is (sweep_told k.s (told_by k.asked w.rows w.pairs)) t is in
      subst (λ (x : Sweeping). IsSweptAt (swept_state w k).rows (swept_state w k).pairs h x.txn x.point) left.0
      (step_knows w h k.s.txn k.s.epoch k.s.point k.asked left.1.0 holds k.asks k.no_list (holds.under_way.sweeping.knows k.s k.is_open) left.1.1);
}

quiet_sweeping : (sweep : Option Sweeping) (rows : List Row) (pairs : Pairs) (h g : List Item) → Calm h g → IsSweeping sweep rows pairs h → IsSweeping sweep rows pairs g
quiet_sweeping sweep rows pairs h g calm sweeping = record {
  knows = λ s is. swept_at_on rows rows pairs pairs h g s.txn s.point (keeps_same rows h g calm) (λ marked. marked) (sweeping.knows s is);
}

-- all clients work on beside a sweep
beside : (w : State) (h g : List Item) (rows : List Row) → IsolationInvariant w h → KeepsPlaced w.rows rows h h → Calm h g → AllWork w.clients rows g
beside w h g rows holds keeps calm = work_on w.clients rows rows h g (keeps_same rows h g calm) calm.placed (work_kept w h rows holds keeps)

pub under_way_swept : (w : State) (h : List Item) (k : SweptOne w) → IsolationInvariant w h → UnderWayFacts w.clients (swept_state w k).sweep (swept_state w k).rows (swept_state w k).pairs (h ++ k.items)
under_way_swept w h k holds =
    let fits : AskFits w h k.asked = sweep_fits w h k.s k.asked holds k.is_open k.asks in
    under_way w.clients (swept_state w k).sweep (swept_state w k).rows (swept_state w k).pairs (h ++ k.items)
    (beside w h (h ++ k.items) (swept_state w k).rows holds (keeps_stepped w h k.asked holds fits) (calm_quiet h k.items k.quiet))
    (quiet_sweeping (swept_state w k).sweep (swept_state w k).rows (swept_state w k).pairs h (h ++ k.items) (calm_quiet h k.items k.quiet) (swept_sweeping w h k holds))

pub under_way_sweep_failed : (w : State) (h : List Item) (k : SweepFailed w) → IsolationInvariant w h → UnderWayFacts w.clients None (sweep_failed_state w k).rows (sweep_failed_state w k).pairs (h ++ k.items)
under_way_sweep_failed w h k holds =
    let fits : AskFits w h k.asked = sweep_fits w h k.s k.asked holds k.is_open k.asks in
    under_way w.clients None (sweep_failed_state w k).rows (sweep_failed_state w k).pairs (h ++ k.items)
    (beside w h (h ++ k.items) (sweep_failed_state w k).rows holds (keeps_if w h k.asked k.applied holds fits) (calm_quiet h k.items k.quiet))
    (sweeping_none (sweep_failed_state w k).rows (sweep_failed_state w k).pairs (h ++ k.items))

-- ---- the keys are listed
-- a row's key is among the keys of its version
key_listed : (rows : List Row) (k t : ℕ) (cell : Cell) → looked rows k t ≡ Some cell → k ∈ keys_of_version rows t
unfolding keys_of_version looked ◌∈◌
key_listed [] k t cell found = absurd (none-some cell found)
key_listed (r ∷ rs) k t cell found = elim (is_row-cases k t r) [
  | inl a ↦ rw (eq-eqb r.version t a.2) (inl (sym a.1))
  | inr a ↦ let later : k ∈ keys_of_version rs t = key_listed rs k t cell (rw a.0 at found) in
      elim (cases_Bool (r.version == t)) [
        | inl mine ↦ rw mine (inr later)
        | inr other ↦ rw other later
      ]
]

pub calm_listing : (h : List Item) (txn count : ℕ) → Calm h (h ++ Step Janitor (KeysStep txn count) ∷ [])
calm_listing h txn count = calm_push h (Step Janitor (KeysStep txn count)) (record { writes = λ u k. refl; placed = λ u c is. cc })

keys_same : (t u : ℕ) → Some (ask.Keys t) ≡ Some (ask.Keys u) → t ≡ u
keys_same t u same = let asks = ask_is (ask.Keys t) (ask.Keys u) same in cc

listed_knows : (w : State) (h : List Item) (txn listed count : ℕ) (at : SweepPoint) → IsolationInvariant w h → sweep_ask_at txn at ≡ Some (ask.Keys listed) → IsSweptAt w.rows w.pairs h txn at → IsSweptAt w.rows w.pairs (h ++ Step Janitor (KeysStep listed count) ∷ []) txn (sweep_point_listed txn at (keys_of_version w.rows listed))
listed_knows w h txn listed count Table holds is knows = tt
listed_knows w h txn listed count Marking holds is knows = tt
listed_knows w h txn listed count (Listing (CommittedMark c)) holds is knows =
    let calm : Calm h (h ++ Step Janitor (KeysStep listed count) ∷ []) = calm_listing h listed count in
    inl (
      c,
      record {
        left = keys_of_version w.rows listed;
        shape = refl;
        placed = calm.on (Placed txn c) knows;
        covered = λ k value wrote.
            let row = placed_row w h txn c k value holds knows (sym (calm.writes txn k) ∙ wrote) in
            inl (subst (λ q. k ∈ keys_of_version w.rows q) (keys_same txn listed is) (key_listed w.rows k txn row.0 row.1));
      },
    )
listed_knows w h txn listed count (Listing InvalidMark) holds is knows = inr (keys_of_version w.rows listed, refl, knows, (Janitor, count, subst (λ q. Step Janitor (KeysStep q count) ∈ (h ++ Step Janitor (KeysStep listed count) ∷ [])) (sym (keys_same txn listed is)) (in_last (Step Janitor (KeysStep listed count)) h)))
listed_knows w h txn listed count (Left asks) holds is knows = swept_at_on w.rows w.rows w.pairs w.pairs h (h ++ Step Janitor (KeysStep listed count) ∷ []) txn (Left asks) (keeps_same w.rows h (h ++ Step Janitor (KeysStep listed count) ∷ []) (calm_listing h listed count)) (λ marked. marked) knows
listed_knows w h txn listed count Undecided holds is knows = tt

pub under_way_sweep_listed : (w : State) (h : List Item) (k : SweepListed w) → IsolationInvariant w h → UnderWayFacts w.clients (sweep_listed_state w k).sweep w.rows w.pairs (h ++ sweep_listed_items w k)
under_way_sweep_listed w h k holds =
    let g : List Item = h ++ sweep_listed_items w k in
    under_way w.clients (sweep_listed_state w k).sweep w.rows w.pairs g
    (beside w h g w.rows holds (keeps_same w.rows h h (calm_same h)) (calm_listing h k.txn k.count))
    (record {
      knows = λ t is.
          let left = left_is (sweep_listed k.s (keys_of_version w.rows k.txn)) t is in
          subst (λ (x : Sweeping). IsSweptAt w.rows w.pairs g x.txn x.point) left.0
          (listed_knows w h k.s.txn k.txn k.count k.s.point holds k.asks (holds.under_way.sweeping.knows k.s k.is_open));
    })
