-- What one client has under way, and that it stays right where the history goes on and rows with shadows stay.
use Rattle.isolation_laws.proofs.Names.{◌≡◌, ℕ, Bool, true, false, List, Option, Some, None, ◌⊎◌, inl, inr, sym, ◌∙◌}
use Rattle.isolation_laws.proofs.Names.{subst, slice_set, none-some, CommittedMark, InvalidMark, Committed, last_write}
use Rattle.isolation_laws.proofs.Names.{Item, Placed, Row, Pairs, Ask, SettlePoint, Settling, SweepPoint, Marking}
use Rattle.isolation_laws.proofs.Names.{Listing, Left, Undecided, Sweeping, Nothing, Settles, Completes, Client}
use Rattle.isolation_laws.proofs.Names.{ClientAt, Marked, HasShadow, IsFinish, IsUndo, IsShownAt, IsOwnResolve}
use Rattle.isolation_laws.proofs.Names.{IsSweptAt, IsSweeping, UnderWayFacts, client_set}
use Rattle.system_parts.specs.declared.resolve.SettlePoint.TheVariants as point
use Rattle.system_parts.specs.declared.session.State.TheVariants as phase
use Rattle.system_parts.specs.Sweep.{Table}
use Rattle.isolation_laws.proofs.Requests.CommitsInFlight.{GoesOn}
use Rattle.isolation_laws.proofs.Stores.Calm.{listed_goes_on}

-- ---- one client
-- its completion that fills shadows
abbrev pub Finishes : List Row → List Item → Client → List Ask → Type 0
Finishes rows h c asks = (t : ℕ) × (commit : ℕ) × (c.entry.start ≡ Some t) × (c.entry.commit ≡ Some commit) × IsFinish rows h t commit asks

-- the resolve of its own commit
abbrev pub Resolves : List Row → List Item → Client → Type 0
Resolves rows h c = (x : Settling) × (t : ℕ) × (c.under_way ≡ Settles x) × (c.entry.start ≡ Some t) × IsOwnResolve rows h t c.entry.keys x

-- it knows the commit that it is to place
abbrev pub KnowsCommit : Client → Type 0
KnowsCommit c = c.entry.state ≡ phase.Placing → (commit : ℕ) × (c.entry.commit ≡ Some commit)

pub record Works (rows : List Row) (h : List Item) (c : Client) : Type 0 where
  pub finish : (asks : List Ask) → c.entry.state ≡ phase.Completing false → c.under_way ≡ Completes asks → Finishes rows h c asks
  pub finish_busy : c.entry.state ≡ phase.Completing false → (asks : List Ask) × (c.under_way ≡ Completes asks)
  pub undo : (t : ℕ) (asks : List Ask) → c.entry.state ≡ phase.Completing true → c.entry.start ≡ Some t → c.under_way ≡ Completes asks → IsUndo t asks
  pub undo_busy : c.entry.state ≡ phase.Completing true → (asks : List Ask) × (c.under_way ≡ Completes asks)
  pub unplaced : (t d : ℕ) → c.entry.state ≡ phase.Completing true → c.entry.start ≡ Some t → Committed h t d → ⊥
  pub resolve : c.entry.state ≡ phase.OpenOutcome → (c.under_way ≡ Nothing) ⊎ Resolves rows h c
  pub only : (x : Settling) → c.under_way ≡ Settles x → c.entry.state ≡ phase.OpenOutcome
  pub handed : KnowsCommit c
  pub heal : (k t d : ℕ) → c.heal ≡ Some (k, t, d) → Committed h t d

abbrev pub AllWork : List Client → List Row → List Item → Type 0
AllWork clients rows h = (s : ℕ) (c : Client) → ClientAt clients s c → Works rows h c

pub all_work : (clients : List Client) (sweep : Option Sweeping) (rows : List Row) (pairs : Pairs) (h : List Item) → UnderWayFacts clients sweep rows pairs h → AllWork clients rows h
all_work clients sweep rows pairs h facts s c at = record {
  finish = λ asks is work. facts.finishing.finish s c asks at is work;
  finish_busy = λ is. facts.finishing.busy s c at is;
  undo = λ t asks is start work. facts.undoing.undo s t c asks at is start work;
  undo_busy = λ is. facts.undoing.busy s c at is;
  unplaced = λ t d is start placed. facts.undoing.unplaced s t d (record { client = c; at = at; state_is = is; start_is = start }) placed;
  resolve = λ is. facts.settling.resolve s c at is;
  only = λ x work. facts.settling.only s c x at work;
  handed = λ is. facts.handed.commit s c at is;
  heal = λ k t d offer. facts.heals.placed s k t d c at offer;
}

pub under_way : (clients : List Client) (sweep : Option Sweeping) (rows : List Row) (pairs : Pairs) (h : List Item) → AllWork clients rows h → IsSweeping sweep rows pairs h → UnderWayFacts clients sweep rows pairs h
under_way clients sweep rows pairs h work sweeping = record {
  finishing = record {
    finish = λ s c asks at is busy. (work s c at).finish asks is busy;
    busy = λ s c at is. (work s c at).finish_busy is;
  };
  undoing = record {
    undo = λ s t c asks at is start busy. (work s c at).undo t asks is start busy;
    busy = λ s c at is. (work s c at).undo_busy is;
    unplaced = λ s t d txn placed. (work s txn.client txn.at).unplaced t d txn.state_is txn.start_is placed;
  };
  settling = record {
    resolve = λ s c at is. (work s c at).resolve is;
    only = λ s c x at busy. (work s c at).only x busy;
  };
  handed = record { commit = λ s c at is. (work s c at).handed is };
  heals = record { placed = λ s k t d c at offer. (work s c at).heal k t d offer };
  sweeping = sweeping;
}

-- one client changed
pub work_set : (clients : List Client) (rows : List Row) (h : List Item) (s : ℕ) (c : Client) → Works rows h c → AllWork clients rows h → AllWork (slice_set clients s c) rows h
work_set clients rows h s c new work r d at = elim (client_set clients s r c d at) [
  | inl here ↦ subst (λ (x : Client). Works rows h x) (sym here.1) new
  | inr there ↦ work r d there.1
]

-- ---- the history goes on, and of what is placed the writes and the rows with shadows stay
pub record KeepsPlaced (rows new : List Row) (h g : List Item) : Type 0 where
  pub on : GoesOn h g
  pub writes : (t c k : ℕ) → Committed h t c → last_write g t k ≡ last_write h t k
  pub shadows : (t c k : ℕ) → Committed h t c → HasShadow rows k t c → HasShadow new k t c

-- no further commit of a transaction that is undone or resolved by its session
abbrev pub StaysUnplaced : List Item → List Item → Client → Type 0
StaysUnplaced h g c = (t d : ℕ) → c.entry.start ≡ Some t → (c.entry.state ≡ phase.Completing true) ⊎ (c.entry.state ≡ phase.OpenOutcome) → Committed g t d → Committed h t d

pub finish_on : (rows new : List Row) (h g : List Item) (t c : ℕ) (asks : List Ask) → KeepsPlaced rows new h g → IsFinish rows h t c asks → IsFinish new g t c asks
finish_on rows new h g t c asks keeps finish = record {
  left = finish.left;
  shape = finish.shape;
  placed = keeps.on (Placed t c) finish.placed;
  covered = λ k value wrote. elim (finish.covered k value (sym (keeps.writes t c k finish.placed) ∙ wrote)) [
    | inl in_left ↦ inl in_left
    | inr shadow ↦ inr (keeps.shadows t c k finish.placed shadow)
  ];
}

shown_on : (rows new : List Row) (h g : List Item) (k t : ℕ) (at : SettlePoint) → KeepsPlaced rows new h g → ((d : ℕ) → Committed g t d → Committed h t d) → IsShownAt rows h k t at → IsShownAt new g k t at
shown_on rows new h g k t point.FirstLook keeps placed shown = tt
shown_on rows new h g k t point.Table keeps placed shown = tt
shown_on rows new h g k t point.Marking keeps placed shown = tt
shown_on rows new h g k t (point.LastLook met) keeps placed shown = λ c is. keeps.shadows t c k (placed c is) (shown c (placed c is))

pub own_resolve_on : (rows new : List Row) (h g : List Item) (t : ℕ) (keys : List ℕ) (x : Settling) → KeepsPlaced rows new h g → ((d : ℕ) → Committed g t d → Committed h t d) → IsOwnResolve rows h t keys x → IsOwnResolve new g t keys x
own_resolve_on rows new h g t keys x keeps placed own = record {
  key = own.key;
  txn = own.txn;
  marks = own.marks;
  shown = shown_on rows new h g x.key t x.point keeps placed own.shown;
}

pub works_on : (rows new : List Row) (h g : List Item) (c : Client) → KeepsPlaced rows new h g → StaysUnplaced h g c → Works rows h c → Works new g c
works_on rows new h g c keeps unplaced work = record {
  finish = λ asks is busy. let f = work.finish asks is busy in (f.0, f.1, f.2, f.3, finish_on rows new h g f.0 f.1 asks keeps f.4);
  finish_busy = work.finish_busy;
  undo = work.undo;
  undo_busy = work.undo_busy;
  unplaced = λ t d is start placed. work.unplaced t d is start (unplaced t d start (inl is) placed);
  resolve = λ is. elim (work.resolve is) [
    | inl none ↦ inl none
    | inr r ↦ inr (r.0, r.1, r.2, r.3, own_resolve_on rows new h g r.1 c.entry.keys r.0 keeps (λ d placed. unplaced r.1 d r.3 (inr is) placed) r.4)
  ];
  only = work.only;
  handed = work.handed;
  heal = λ k t d offer. keeps.on (Placed t d) (work.heal k t d offer);
}

-- all clients, where no commit is placed
pub work_on : (clients : List Client) (rows new : List Row) (h g : List Item) → KeepsPlaced rows new h g → ((t d : ℕ) → Committed g t d → Committed h t d) → AllWork clients rows h → AllWork clients new g
work_on clients rows new h g keeps placed work s c at = works_on rows new h g c keeps (λ t d start is. placed t d) (work s c at)

-- ---- the sweep
pub swept_at_on : (rows new : List Row) (pairs table : Pairs) (h g : List Item) (t : ℕ) (at : SweepPoint) → KeepsPlaced rows new h g → (Marked pairs t → Marked table t) → IsSweptAt rows pairs h t at → IsSweptAt new table g t at
swept_at_on rows new pairs table h g t Table keeps marks knows = tt
swept_at_on rows new pairs table h g t Marking keeps marks knows = tt
swept_at_on rows new pairs table h g t (Listing (CommittedMark c)) keeps marks knows = keeps.on (Placed t c) knows
swept_at_on rows new pairs table h g t (Listing InvalidMark) keeps marks knows = marks knows
swept_at_on rows new pairs table h g t (Left asks) keeps marks (inl finish) = inl (finish.0, finish_on rows new h g t finish.0 asks keeps finish.1)
swept_at_on rows new pairs table h g t (Left asks) keeps marks (inr undo) = inr (undo.0, undo.1, marks undo.2, listed_goes_on h g t keeps.on undo.3)
swept_at_on rows new pairs table h g t Undecided keeps marks knows = tt

pub sweeping_on : (sweep : Option Sweeping) (rows new : List Row) (pairs table : Pairs) (h g : List Item) → KeepsPlaced rows new h g → ((t : ℕ) → Marked pairs t → Marked table t) → IsSweeping sweep rows pairs h → IsSweeping sweep new table g
sweeping_on sweep rows new pairs table h g keeps marks sweeping = record {
  knows = λ s is. swept_at_on rows new pairs table h g s.txn s.point keeps (marks s.txn) (sweeping.knows s is);
}

pub sweeping_none : (rows : List Row) (pairs : Pairs) (h : List Item) → IsSweeping None rows pairs h
sweeping_none rows pairs h = record { knows = λ s is. absurd (none-some s is) }

-- ---- clients with nothing under way
pub record IsIdle (c : Client) : Type 0 where
  pub no_work : c.under_way ≡ Nothing
  pub no_heal : c.heal ≡ None
  pub not_completing : (undo : Bool) → c.entry.state ≡ phase.Completing undo → ⊥
  pub handed : KnowsCommit c

pub no_settling : (x : Settling) → Nothing ≡ Settles x → ⊥
no_settling x same = cc

pub works_idle : (rows : List Row) (h : List Item) (c : Client) → IsIdle c → Works rows h c
works_idle rows h c idle = record {
  finish = λ asks is busy. absurd (idle.not_completing false is);
  finish_busy = λ is. absurd (idle.not_completing false is);
  undo = λ t asks is start busy. absurd (idle.not_completing true is);
  undo_busy = λ is. absurd (idle.not_completing true is);
  unplaced = λ t d is start placed. idle.not_completing true is;
  resolve = λ is. inl idle.no_work;
  only = λ x busy. absurd (no_settling x (sym idle.no_work ∙ busy));
  handed = idle.handed;
  heal = λ k t d offer. absurd (none-some (k, t, d) (sym idle.no_heal ∙ offer));
}
