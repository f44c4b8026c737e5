-- What is under way where a session resolves its own commit, whose outcome is open.
use Rattle.isolation_laws.proofs.Names.{◌≡◌, ℕ, Bool, true, false, List, [], ◌∷◌, ◌++◌, Option, Some, None, inl, inr}
use Rattle.isolation_laws.proofs.Names.{refl, sym, ◌∙◌, subst, same_Some, none-some, ◌∈◌, Committed, Wrote, Item, Row}
use Rattle.isolation_laws.proofs.Names.{Ask, Settling, SettleTurn, Goes, Decides, own_settling, settle_ask, settle_turn}
use Rattle.isolation_laws.proofs.Names.{Nothing, Settles, Completes, Client, State, told_by, client_settled}
use Rattle.isolation_laws.proofs.Names.{own_resolve, written_keys, IsShownAt, IsOwnResolve, UnderWayFacts}
use Rattle.isolation_laws.proofs.Names.{IsolationInvariant, OutcomeStepped, outcome_state, OutcomeFailed}
use Rattle.isolation_laws.proofs.Names.{outcome_failed_state}
use Rattle.system_parts.specs.declared.resolve.Outcome.TheVariants as outcome
use Rattle.system_parts.specs.declared.session.State.TheVariants as phase
use Rattle.isolation_laws.proofs.Stores.Calm.{calm_quiet}
use Rattle.isolation_laws.proofs.Requests.WrittenKeys.{key_was_written, first_key_in}
use Rattle.isolation_laws.proofs.UnderWay.Works.{Works, no_settling}
use Rattle.isolation_laws.proofs.UnderWay.ClientWorks.{works_aborted, works_committed}
use Rattle.isolation_laws.proofs.UnderWay.Settled.{decided_placed, goes_shown, dead_unplaced}
use Rattle.isolation_laws.proofs.Stores.StoreMoves.{marks_stepped}
use Rattle.isolation_laws.proofs.UnderWay.SessionMoves.{work_of, start_of, marks_may_mark, under_way_moved}
use Rattle.isolation_laws.proofs.UnderWay.UnderWayOfSessions.{calm_keeps}

settles_same : (x y : Settling) → Settles x ≡ Settles y → x ≡ y
settles_same x y same = cc

-- a resolve that begins is at the first look
resolve_opens : (rows : List Row) (h : List Item) (o : Option ℕ) (keys : List ℕ) (t : ℕ) (x : Settling) → o ≡ Some t → own_resolve o keys ≡ Settles x → IsOwnResolve rows h t keys x
resolve_opens rows h None keys t x start is = absurd (none-some t start)
resolve_opens rows h (Some u) [] t x start is = absurd (no_settling x is)
resolve_opens rows h (Some u) (key ∷ keys) t x start is = subst (λ (y : Settling). IsOwnResolve rows h t (key ∷ keys) y) (settles_same (own_settling key u) x is) (record {
  key = (keys, refl);
  txn = same_Some u t start;
  marks = refl;
  shown = tt;
})

-- the resolve that makes the step
record OwnStep (w : State) (h : List Item) (k : OutcomeStepped w) : Type 0 where
  start : ℕ
  start_is : k.it.c.entry.start ≡ Some start
  own : IsOwnResolve w.rows h start k.it.c.entry.keys k.x

own_step : (w : State) (h : List Item) (k : OutcomeStepped w) → IsolationInvariant w h → OwnStep w h k
own_step w h k holds = elim k.work [
  | inl busy ↦ elim ((work_of w h k.it.session k.it.c holds k.it.client_at).resolve k.it.is_open) [
    | inl none ↦ absurd (no_settling k.x (sym none ∙ busy))
    | inr r ↦ record { start = r.1; start_is = r.3; own = subst (λ (y : Settling). IsOwnResolve w.rows h r.1 k.it.c.entry.keys y) (settles_same r.0 k.x (sym r.2 ∙ busy)) r.4 }
  ]
  | inr opens ↦
      let start = start_of w h k.it.session k.it.c phase.OpenOutcome holds k.it.client_at k.it.is_open refl in
      record { start = start.0; start_is = start.1; own = resolve_opens w.rows h k.it.c.entry.start k.it.c.entry.keys start.0 k.x start.1 opens.1 }
]

outcome_not_completing : (undo : Bool) → phase.OpenOutcome ≡ phase.Completing undo → ⊥
outcome_not_completing undo same = cc

settles_completes : (x : Settling) (asks : List Ask) → Settles x ≡ Completes asks → ⊥
settles_completes x asks same = cc

works_resolving : (rows : List Row) (h : List Item) (c : Client) (t : ℕ) (x : Settling) → Works rows h c → c.entry.state ≡ phase.OpenOutcome → c.entry.start ≡ Some t → IsOwnResolve rows h t c.entry.keys x → Works rows h (record c { under_way = Settles x })
works_resolving rows h c t x work is start own = record {
  finish = λ asks other busy. absurd (settles_completes x asks busy);
  finish_busy = λ other. absurd (outcome_not_completing false (sym is ∙ other));
  undo = λ u asks other begun busy. absurd (settles_completes x asks busy);
  undo_busy = λ other. absurd (outcome_not_completing true (sym is ∙ other));
  unplaced = work.unplaced;
  resolve = λ other. inr (x, t, refl, start, own);
  only = λ y busy. is;
  handed = work.handed;
  heal = work.heal;
}

-- its first key was written
first_written : (w : State) (h : List Item) (k : OutcomeStepped w) (step : OwnStep w h k) → IsolationInvariant w h → (value : List ℕ) × Wrote h k.x.txn k.x.key value
first_written w h k step holds =
    let keys : k.it.c.entry.keys ≡ written_keys h step.start = holds.requests.keys.written k.it.session step.start k.it.c k.it.client_at (inr (inr (inl k.it.is_open))) step.start_is in
    key_was_written h k.x.txn k.x.key (subst (λ q. k.x.key ∈ written_keys h q) (sym step.own.txn) (subst (λ (ks : List ℕ). k.x.key ∈ ks) keys (first_key_in k.x.key step.own.key.0 k.it.c.entry.keys step.own.key.1)))

outcome_works : (w : State) (h : List Item) (k : OutcomeStepped w) (turn : SettleTurn) → IsolationInvariant w h → OwnStep w h k → settle_turn k.x (told_by (settle_ask k.x) w.rows w.pairs) ≡ turn → Works w.rows h (client_settled k.it.c k.x turn)
outcome_works w h k (Goes p) holds step is =
    let wrote = first_written w h k step holds in
    works_resolving w.rows h k.it.c step.start (record k.x { point = p }) (work_of w h k.it.session k.it.c holds k.it.client_at) k.it.is_open step.start_is (record {
      key = step.own.key;
      txn = step.own.txn;
      marks = step.own.marks;
      shown = subst (λ q. IsShownAt w.rows h k.x.key q p) step.own.txn (goes_shown w h k.x p wrote.0 holds wrote.1 is);
    })
outcome_works w h k (Decides (outcome.Committed c by_table)) holds step is = works_committed w.rows h k.it.c step.start c step.start_is
    (holds.requests.keys.written k.it.session step.start k.it.c k.it.client_at (inr (inr (inl k.it.is_open))) step.start_is)
    (subst (λ q. Committed h q c) step.own.txn (decided_placed w h k.x c by_table holds is))
outcome_works w h k (Decides outcome.Dead) holds step is = works_aborted w.rows h k.it.c step.start step.start_is
    (λ d placed. dead_unplaced w h k.x (subst (λ q. IsShownAt w.rows h k.x.key q k.x.point) (sym step.own.txn) step.own.shown) is d (subst (λ q. Committed h q d) (sym step.own.txn) placed))

pub under_way_outcome : (w : State) (h : List Item) (k : OutcomeStepped w) → IsolationInvariant w h → UnderWayFacts (outcome_state w k).clients w.sweep w.rows (outcome_state w k).pairs (h ++ k.items)
under_way_outcome w h k holds =
    let turn : SettleTurn = settle_turn k.x (told_by (settle_ask k.x) w.rows w.pairs) in
    under_way_moved w h (h ++ k.items) k.it.session (client_settled k.it.c k.x turn) w.rows (outcome_state w k).pairs holds (calm_keeps w h) (λ t marked. marks_stepped (settle_ask k.x) w.pairs t marked) (calm_quiet h k.items k.quiet)
    (outcome_works w h k turn holds (own_step w h k holds) refl)

-- a resolve that failed starts over
starts_over : (rows : List Row) (h : List Item) (c : Client) → c.entry.state ≡ phase.OpenOutcome → Works rows h c → Works rows h (record c { under_way = Nothing })
starts_over rows h c is work = record {
  finish = λ asks other busy. absurd (outcome_not_completing false (sym is ∙ other));
  finish_busy = λ other. absurd (outcome_not_completing false (sym is ∙ other));
  undo = λ u asks other begun busy. absurd (outcome_not_completing true (sym is ∙ other));
  undo_busy = λ other. absurd (outcome_not_completing true (sym is ∙ other));
  unplaced = work.unplaced;
  resolve = λ other. inl refl;
  only = λ y busy. is;
  handed = work.handed;
  heal = work.heal;
}

pub under_way_outcome_failed : (w : State) (h : List Item) (k : OutcomeFailed w) → IsolationInvariant w h → UnderWayFacts (outcome_failed_state w k).clients w.sweep w.rows k.pairs (h ++ k.items)
under_way_outcome_failed w h k holds = under_way_moved w h (h ++ k.items) k.it.session (record k.it.c { under_way = Nothing }) w.rows k.pairs holds (calm_keeps w h) (marks_may_mark w.pairs k.pairs k.pairs_are) (calm_quiet h k.items k.quiet) (starts_over w.rows h k.it.c k.it.is_open (work_of w h k.it.session k.it.c holds k.it.client_at))
