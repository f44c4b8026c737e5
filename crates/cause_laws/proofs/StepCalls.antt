-- For cluster_core too.
-- What a session's step needs: something is asked next, and it fits the session's state.
use Rattle.cause_laws.proofs.Names.{◌≡◌, ◌≢◌, ℕ, Bool, true, false, IsTrue, if◌then◌else◌, List, [], ◌∷◌, Option, Some}
use Rattle.cause_laws.proofs.Names.{None, inl, inr, refl, sym, ◌∙◌, ap, subst, arith, same_Some, Cells, Committed, Idle}
use Rattle.cause_laws.proofs.Names.{Session, Item, Fault, SettlePoint, SessionState, ask_at, EndsFrom, step_refusal}
use Rattle.cause_laws.proofs.Names.{has_transaction, handed_by, handed_commit, UnderWay, Nothing, Reads, Settles}
use Rattle.cause_laws.proofs.Names.{Completes, Client, State, is_reading, is_reading_by, client_freed, MayStep, CanWork}
use Rattle.cause_laws.proofs.Names.{own_resolve, work_by, work_of, next_of, store_asked, asked_next, ClientAt, Has}
use Rattle.cause_laws.proofs.Names.{is_placing, IsPending, IsolationInvariant, pending_unplaced, one_silent}
use Rattle.cause_laws.proofs.Names.{completed_fills, marks_same, ExplainedInvariant, StepMayBeMade, PlacingMayBeMade}
use Rattle.system_parts.specs.declared.asks.Ask.{Ask}
use Rattle.system_parts.specs.declared.asks.Ask.TheVariants.{Shadow}
use Rattle.system_parts.specs.declared.resolve.SettlePoint.TheVariants as point
use Rattle.system_parts.specs.declared.session.State.TheVariants as phase
use Rattle.system_parts.specs.Completion.{finish_asks, undo_asks, first_ask}
use Rattle.machine.proofs.Outcome.QuietItems.{one_quiet}
use Rattle.machine.specs.Fits.{IsWork}
use Rattle.isolation_laws.proofs.Inversions.StepsFitting.{work_fits}
use Rattle.cause_laws.proofs.StoreCalls.{only_shadow, keeps_next}

-- ---- something is asked
finish_some : (t commit : ℕ) (left : List ℕ) → finish_asks t commit left ≡ [] → ⊥
finish_some t commit [] none = cc
finish_some t commit (key ∷ left) none = cc

undo_some : (t : ℕ) (left : List ℕ) → left ≢ [] → undo_asks t left ≡ [] → ⊥
undo_some t [] some none = some refl
undo_some t (key ∷ left) some none = cc

first_some : (asks : List Ask) → (asks ≡ [] → ⊥) → first_ask asks ≡ None → ⊥
first_some [] some none = some refl
first_some (asked ∷ asks) some none = cc

-- a completion has an ask left
completing_asks : (w : State) (h : List Item) (session : ℕ) (c : Client) (undo : Bool) → IsolationInvariant w h → ClientAt w.clients session c → c.entry.state ≡ phase.Completing undo → next_of c.under_way ≡ None → ⊥
completing_asks w h session c false holds at is none =
    let busy = holds.under_way.finishing.busy session c at is in
    let finish = holds.under_way.finishing.finish session c busy.0 at is busy.1 in
    first_some busy.0 (λ ended. finish_some finish.0 finish.1 finish.4.left (sym finish.4.shape ∙ ended)) (sym (ap next_of busy.1) ∙ none)
completing_asks w h session c true holds at is none =
    let busy = holds.under_way.undoing.busy session c at is in
    let begun = holds.requests.have_begun.begun session c at (subst (λ (s : SessionState). IsTrue (has_transaction s)) (sym is) refl) in
    let undo = holds.under_way.undoing.undo session begun.0 c busy.0 at is begun.1 busy.1 in
    first_some busy.0 (λ ended. undo_some begun.0 undo.left undo.some (sym undo.shape ∙ ended)) (sym (ap next_of busy.1) ∙ none)

-- an open outcome has a first key
resolve_asks : (t : ℕ) (start : Option ℕ) (keys : List ℕ) → start ≡ Some t → keys ≢ [] → next_of (own_resolve start keys) ≡ None → ⊥
resolve_asks t None keys is some none = cc
resolve_asks t (Some start) [] is some none = some refl
resolve_asks t (Some start) (key ∷ keys) is some none = cc

own_asks : (w : State) (h : List Item) (session : ℕ) (c : Client) → IsolationInvariant w h → ClientAt w.clients session c → c.entry.state ≡ phase.OpenOutcome → next_of (own_resolve c.entry.start c.entry.keys) ≡ None → ⊥
own_asks w h session c holds at is none =
    let begun = holds.requests.have_begun.begun session c at (subst (λ (s : SessionState). IsTrue (has_transaction s)) (sym is) refl) in
    resolve_asks begun.0 c.entry.start c.entry.keys begun.1 (holds.requests.keys.some session c at (inr (inl is))) none

open_asks : (w : State) (h : List Item) (session : ℕ) (c : Client) → IsolationInvariant w h → ClientAt w.clients session c → c.entry.state ≡ phase.OpenOutcome → (work : UnderWay) → c.under_way ≡ work → next_of (work_by phase.OpenOutcome c.entry work) ≡ None → ⊥
open_asks w h session c holds at is Nothing under_way none = own_asks w h session c holds at is none
open_asks w h session c holds at is (Reads r) under_way none = cc
open_asks w h session c holds at is (Settles x) under_way none = cc
open_asks w h session c holds at is (Completes asks) under_way none = elim (holds.under_way.settling.resolve session c at is) [
  | inl idle ↦ let clash : Nothing ≡ Completes asks = sym idle ∙ under_way in cc
  | inr (x, t, settles, start, own) ↦ let clash : Settles x ≡ Completes asks = sym settles ∙ under_way in cc
]

-- a read that is under way does
reading_asks : (work : UnderWay) → (if is_reading_by work then None else Some Idle) ≡ None → next_of work ≡ None → ⊥
reading_asks (Reads r) go none = cc
reading_asks Nothing go none = cc
reading_asks (Settles x) go none = cc
reading_asks (Completes asks) go none = cc

-- a commit that is to be placed has its stamps
placing_some : (t k : ℕ) (start commit : Option ℕ) → start ≡ Some t → commit ≡ Some k → handed_by phase.Placing start commit ≡ None → ⊥
placing_some t k start commit begins has none = let asks : Some (t, k) ≡ None = sym (ap (handed_by phase.Placing (Some t)) has ∙ refl) ∙ (ap (λ b. handed_by phase.Placing b commit) (sym begins) ∙ none) in cc

placing_asks : (w : State) (h : List Item) (session : ℕ) (c : Client) → IsolationInvariant w h → ClientAt w.clients session c → c.entry.state ≡ phase.Placing → handed_by phase.Placing c.entry.start c.entry.commit ≡ None → ⊥
placing_asks w h session c holds at is none =
    let begun = holds.requests.have_begun.begun session c at (subst (λ (s : SessionState). IsTrue (has_transaction s)) (sym is) refl) in
    let has = holds.under_way.handed.commit session c at is in
    placing_some begun.0 has.0 c.entry.start c.entry.commit begun.1 has.1 none

state_asks : (w : State) (h : List Item) (session : ℕ) (c : Client) → IsolationInvariant w h → ClientAt w.clients session c → (state : SessionState) → c.entry.state ≡ state → step_refusal state (is_reading c) ≡ None → handed_by state c.entry.start c.entry.commit ≡ None → next_of (work_by state c.entry c.under_way) ≡ None → ⊥
state_asks w h session c holds at phase.Placing is go unhanded none = placing_asks w h session c holds at is unhanded
state_asks w h session c holds at phase.OpenOutcome is go unhanded none = open_asks w h session c holds at is c.under_way refl none
state_asks w h session c holds at (phase.Completing undo) is go unhanded none = completing_asks w h session c undo holds at is none
state_asks w h session c holds at phase.Gone is go unhanded none = cc
state_asks w h session c holds at _ is go unhanded none = reading_asks c.under_way go none

stores_none : (next : Option Ask) → store_asked next ≡ None → next ≡ None
stores_none None none = refl
stores_none (Some asked) none = absurd cc

-- nothing is asked where no commit is to be placed and nothing is asked for what is under way
asks_none : (c : Client) (stamps : Option (ℕ × ℕ)) → asked_next c stamps ≡ None → (stamps ≡ None) × (next_of (work_of c) ≡ None)
asks_none c None none = (refl, stores_none (next_of (work_of c)) none)
asks_none c (Some stamps) none = absurd cc

-- ---- what is asked
no_shadow_at : (key txn : ℕ) (at : SettlePoint) (k t commit : ℕ) → Some (ask_at key txn at) ≡ Some (Shadow k t commit) → ⊥
no_shadow_at key txn point.FirstLook k t commit is = cc
no_shadow_at key txn point.Table k t commit is = cc
no_shadow_at key txn point.Marking k t commit is = cc
no_shadow_at key txn (point.LastLook met) k t commit is = cc

work_shadow : (w : State) (h : List Item) (session : ℕ) (c : Client) → IsolationInvariant w h → ClientAt w.clients session c → (work : UnderWay) → IsWork c work → (k t commit : ℕ) → next_of work ≡ Some (Shadow k t commit) → Committed h t commit
work_shadow w h session c holds at Nothing fits k t commit is = absurd (cc)
work_shadow w h session c holds at (Reads r) fits k t commit is = absurd (no_shadow_at r.key r.cell.version r.point k t commit is)
work_shadow w h session c holds at (Settles x) fits k t commit is = absurd (no_shadow_at x.key x.txn x.point k t commit is)
work_shadow w h session c holds at (Completes []) fits k t commit is = absurd (cc)
work_shadow w h session c holds at (Completes (asked ∷ asks)) fits k t commit is = completed_fills w h (record {
  session = session;
  undo = fits.undo;
  c = c;
  asked = asked;
  asks = asks;
  client_at = at;
  completing = fits.completing;
  under_way = fits.under_way;
  applied = false;
  left = client_freed c;
  left_is = inr (refl, omega arith);
  items = Fault (Session session) Cells ∷ [];
  marks = marks_same w.pairs (Fault (Session session) Cells ∷ []);
  quiet = one_quiet (Fault (Session session) Cells) refl;
  silent = one_silent (Fault (Session session) Cells) refl;
}) holds k t commit (same_Some asked (Shadow k t commit) is)

-- ---- how it fits the state
work_can : (c : Client) (work : UnderWay) → (next_of work ≡ None → ⊥) → IsWork c work → CanWork work c.entry
work_can c Nothing asks fits = tt
work_can c (Reads r) asks fits = tt
work_can c (Settles x) asks fits = inr (inr fits.0)
work_can c (Completes []) asks fits = absurd (asks refl)
work_can c (Completes (asked ∷ left)) asks fits = subst (λ (s : SessionState). EndsFrom s c.entry.keys) (sym fits.completing) tt

-- ---- a placing
-- the commit of a session that is to place it is in flight
placing_flies : (w : State) (session start commit : ℕ) (c : Client) (state : SessionState) (begun drawn : Option ℕ) → ClientAt w.clients session c → c.entry.state ≡ state → c.entry.start ≡ begun → c.entry.commit ≡ drawn → handed_by state begun drawn ≡ Some (start, commit) → IsPending w.clients w.nodes start
placing_flies w session start commit c phase.Placing (Some t) (Some k) at is begins has stamps =
    let same : (t, k) ≡ (start, commit) = same_Some (t, k) (start, commit) stamps in
    record {
      coming = record { session = session; start = t; keys = c.entry.keys; stage = Has k };
      pending = inr (record { client = c; at = at; state_is = ap is_placing is; start_is = begins; keys_are = refl; commit_of = k; commit_is = has; stage_is = refl });
      start_is = ap (λ (p : ℕ × ℕ). p.0) same;
    }
placing_flies w session start commit c phase.Placing None drawn at is begins has stamps = absurd cc
placing_flies w session start commit c phase.Placing (Some t) None at is begins has stamps = absurd cc
placing_flies w session start commit c state begun drawn at is begins has stamps = absurd cc

pub placings_place : (w : State) (h : List Item) → ExplainedInvariant w h → PlacingMayBeMade w
placings_place w h tells session start commit other c at stamps there =
    let holds : IsolationInvariant w h = tells.stands.holds in
    pending_unplaced w.clients w.nodes h start other holds.numbers.placed holds.requests.pending (placing_flies w session start commit c c.entry.state c.entry.start c.entry.commit at refl refl refl stamps) (holds.cells.pairs_are.placed start other there)

pub steps_ask : (w : State) (h : List Item) → ExplainedInvariant w h → StepMayBeMade w
steps_ask w h tells session c at =
    let holds : IsolationInvariant w h = tells.stands.holds in
    let asks : MayStep c → handed_commit c.entry ≡ None → next_of (work_of c) ≡ None → ⊥ = λ may. state_asks w h session c holds at c.entry.state refl may in
    record {
      asks = λ may none. let both = asks_none c (handed_commit c.entry) none in asks may both.0 both.1;
      work = λ may unhanded. work_can c (work_of c) (asks may unhanded) (work_fits w h session c holds at unhanded may);
      shadow = λ may unhanded. keeps_next w.rows (next_of (work_of c)) (λ k t commit next. only_shadow w h k t commit holds (work_shadow w h session c holds at (work_of c) (work_fits w h session c holds at unhanded may) k t commit next));
    }
