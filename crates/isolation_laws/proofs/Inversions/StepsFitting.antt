-- For cause_laws too.
-- What a session has under way fits its state, and what stands in the table in the place of a commit that it places is a mark.
use Rattle.isolation_laws.proofs.Names.{◌≡◌, ℕ, Bool, true, false, IsTrue, if◌then◌else◌, List, [], ◌∷◌, Option, Some}
use Rattle.isolation_laws.proofs.Names.{None, ◌⊎◌, inl, inr, refl, sym, ◌∙◌, ap, subst, same_Some, none-some, Mark}
use Rattle.isolation_laws.proofs.Names.{Idle, Item, mark_of, Ask, SessionState, finish_asks, undo_asks, first_ask}
use Rattle.isolation_laws.proofs.Names.{Settling, own_settling, SessionEntry, step_refusal, has_transaction, handed_by}
use Rattle.isolation_laws.proofs.Names.{handed_commit, UnderWay, Nothing, Reads, Settles, Completes, Client, State}
use Rattle.isolation_laws.proofs.Names.{is_reading, is_reading_by, own_resolve, work_by, work_of, Places, NoList}
use Rattle.isolation_laws.proofs.Names.{IsCompletion, IsWork, StepsFit, InFlight, is_placing, PlacingAt, Has}
use Rattle.isolation_laws.proofs.Names.{IsolationInvariant}
use Rattle.system_parts.specs.declared.asks.Ask.TheVariants as ask
use Rattle.system_parts.specs.declared.session.State.TheVariants as phase
use Rattle.machine.specs.FoundAt.{ClientAt, Marked}
use Rattle.isolation_laws.proofs.FoundMarks.{found_marked}

-- ---- no completion lists keys
finish_no_list : (t commit : ℕ) (left : List ℕ) (asked : Ask) (asks : List Ask) → asked ∷ asks ≡ finish_asks t commit left → NoList asked
finish_no_list t commit [] asked asks shape txn is =
    let first : Some asked ≡ Some (ask.Remove t) = ap first_ask shape in
    let same : ask.Keys txn ≡ ask.Remove t = sym is ∙ same_Some asked (ask.Remove t) first in
    cc
finish_no_list t commit (k ∷ ks) asked asks shape txn is =
    let first : Some asked ≡ Some (ask.Shadow k t commit) = ap first_ask shape in
    let same : ask.Keys txn ≡ ask.Shadow k t commit = sym is ∙ same_Some asked (ask.Shadow k t commit) first in
    cc

undo_no_list : (t : ℕ) (left : List ℕ) (asked : Ask) (asks : List Ask) → asked ∷ asks ≡ undo_asks t left → NoList asked
undo_no_list t [] asked asks shape txn is = absurd (cc)
undo_no_list t (k ∷ ks) asked asks shape txn is =
    let first : Some asked ≡ Some (ask.Erase k t) = ap first_ask shape in
    let same : ask.Keys txn ≡ ask.Erase k t = sym is ∙ same_Some asked (ask.Erase k t) first in
    cc

completes_no_list : (w : State) (h : List Item) (session : ℕ) (c : Client) (undo : Bool) (asked : Ask) (asks : List Ask) → IsolationInvariant w h → ClientAt w.clients session c → c.entry.state ≡ phase.Completing undo → c.under_way ≡ Completes (asked ∷ asks) → NoList asked
completes_no_list w h session c false asked asks holds at completing under_way =
    let finish = holds.under_way.finishing.finish session c (asked ∷ asks) at completing under_way in
    finish_no_list finish.0 finish.1 finish.4.left asked asks finish.4.shape
completes_no_list w h session c true asked asks holds at completing under_way =
    let begun = holds.requests.have_begun.begun session c at (subst (λ (state : SessionState). IsTrue (has_transaction state)) (sym completing) refl) in
    let undo = holds.under_way.undoing.undo session begun.0 c (asked ∷ asks) at completing begun.1 under_way in
    undo_no_list begun.0 undo.left asked asks undo.shape

-- ---- what is under way
-- the resolve that is due, where there is one
own_reads_none : (start : Option ℕ) (keys : List ℕ) (work : UnderWay) → own_resolve start keys ≡ work → (work ≡ Nothing) ⊎ ((x : Settling) × (work ≡ Settles x))
own_reads_none None keys work is = inl (sym is)
own_reads_none (Some start) [] work is = inl (sym is)
own_reads_none (Some start) (key ∷ keys) work is = inr (own_settling key start, sym is)

own_work : (c : Client) → c.entry.state ≡ phase.OpenOutcome → c.under_way ≡ Nothing → IsWork c (own_resolve c.entry.start c.entry.keys)
own_work c is_open none = elim (own_reads_none c.entry.start c.entry.keys (own_resolve c.entry.start c.entry.keys) refl) [
  | inl idle ↦ subst (λ (work : UnderWay). IsWork c work) (sym idle) tt
  | inr due ↦ subst (λ (work : UnderWay). IsWork c work) (sym due.1) (is_open, inr (none, due.1))
]

settles_only : (w : State) (h : List Item) (session : ℕ) (c : Client) (x : Settling) → IsolationInvariant w h → ClientAt w.clients session c → c.under_way ≡ Settles x → IsWork c (Settles x)
settles_only w h session c x holds at under_way = (holds.under_way.settling.only session c x at under_way, inl under_way)

-- no step is made of a session that neither completes, resolves nor reads
no_step : (reading : Bool) → (if reading then None else Some Idle) ≡ None → reading ≡ false → ⊥
no_step true go none = cc
no_step false go none = cc

-- a session that is to place its commit knows its start and the commit
has_handed : (state : SessionState) (t commit : ℕ) (start due : Option ℕ) → state ≡ phase.Placing → start ≡ Some t → due ≡ Some commit → handed_by state start due ≡ Some (t, commit)
has_handed state t commit start due placing begun known = cc

placing_handed : (w : State) (h : List Item) (session : ℕ) (c : Client) → IsolationInvariant w h → ClientAt w.clients session c → c.entry.state ≡ phase.Placing → (stamps : ℕ × ℕ) × (handed_commit c.entry ≡ Some stamps)
placing_handed w h session c holds at placing =
    let begun = holds.requests.have_begun.begun session c at (subst (λ (state : SessionState). IsTrue (has_transaction state)) (sym placing) refl) in
    let known = holds.under_way.handed.commit session c at placing in
    ((begun.0, known.0), has_handed c.entry.state begun.0 known.0 c.entry.start c.entry.commit placing begun.1 known.1)

not_placing : (w : State) (h : List Item) (session : ℕ) (c : Client) → IsolationInvariant w h → ClientAt w.clients session c → handed_commit c.entry ≡ None → c.entry.state ≡ phase.Placing → ⊥
not_placing w h session c holds at none placing =
    let handed = placing_handed w h session c holds at placing in
    none-some handed.0 (sym none ∙ handed.1)

completes_only : (w : State) (h : List Item) (session : ℕ) (c : Client) (asked : Ask) (asks : List Ask) → IsolationInvariant w h → ClientAt w.clients session c → handed_commit c.entry ≡ None → c.under_way ≡ Completes (asked ∷ asks) → (state : SessionState) → c.entry.state ≡ state → step_refusal state (is_reading c) ≡ None → IsCompletion c asked asks
completes_only w h session c asked asks holds at none under_way (phase.Completing undo) is go = record {
  undo = undo;
  completing = is;
  under_way = under_way;
  no_list = completes_no_list w h session c undo asked asks holds at is under_way;
}
completes_only w h session c asked asks holds at none under_way phase.Placing is go = absurd (not_placing w h session c holds at none is)
completes_only w h session c asked asks holds at none under_way phase.OpenOutcome is go = elim (holds.under_way.settling.resolve session c at is) [
  | inl idle ↦ let clash : Nothing ≡ Completes (asked ∷ asks) = sym idle ∙ under_way in absurd (cc)
  | inr (x, t, settles, start, own) ↦ let clash : Settles x ≡ Completes (asked ∷ asks) = sym settles ∙ under_way in absurd (cc)
]
completes_only w h session c asked asks holds at none under_way phase.Free is go = absurd (no_step (is_reading c) go (ap is_reading_by under_way))
completes_only w h session c asked asks holds at none under_way phase.Asking is go = absurd (no_step (is_reading c) go (ap is_reading_by under_way))
completes_only w h session c asked asks holds at none under_way phase.Open is go = absurd (no_step (is_reading c) go (ap is_reading_by under_way))
completes_only w h session c asked asks holds at none under_way phase.Committing is go = absurd (no_step (is_reading c) go (ap is_reading_by under_way))
completes_only w h session c asked asks holds at none under_way phase.Gone is go = absurd (cc)

under_way_fits : (w : State) (h : List Item) (session : ℕ) (c : Client) → IsolationInvariant w h → ClientAt w.clients session c → handed_commit c.entry ≡ None → step_refusal c.entry.state (is_reading c) ≡ None → (work : UnderWay) → c.under_way ≡ work → IsWork c work
under_way_fits w h session c holds at none go Nothing is = tt
under_way_fits w h session c holds at none go (Reads r) is = is
under_way_fits w h session c holds at none go (Settles x) is = settles_only w h session c x holds at is
under_way_fits w h session c holds at none go (Completes []) is = tt
under_way_fits w h session c holds at none go (Completes (asked ∷ asks)) is = completes_only w h session c asked asks holds at none is c.entry.state refl go

work_cases : (state : SessionState) (e : SessionEntry) (work : UnderWay) → ((state ≡ phase.OpenOutcome) × (work ≡ Nothing)) ⊎ (work_by state e work ≡ work)
work_cases phase.OpenOutcome e Nothing = inl (refl, refl)
work_cases phase.OpenOutcome e (Reads r) = inr refl
work_cases phase.OpenOutcome e (Settles x) = inr refl
work_cases phase.OpenOutcome e (Completes asks) = inr refl
work_cases _ e work = inr refl

pub work_fits : (w : State) (h : List Item) (session : ℕ) (c : Client) → IsolationInvariant w h → ClientAt w.clients session c → handed_commit c.entry ≡ None → step_refusal c.entry.state (is_reading c) ≡ None → IsWork c (work_of c)
work_fits w h session c holds at none go = elim (work_cases c.entry.state c.entry c.under_way) [
  | inl due ↦ subst (λ (state : SessionState). IsWork c (work_by state c.entry c.under_way)) (sym due.0) (subst (λ (work : UnderWay). IsWork c (work_by phase.OpenOutcome c.entry work)) (sym due.1) (own_work c due.0 due.1))
  | inr same ↦ subst (λ (work : UnderWay). IsWork c work) (sym same) (under_way_fits w h session c holds at none go c.under_way refl)
]

-- ---- what a placing meets is a mark
met_marked : (w : State) (h : List Item) (s start commit : ℕ) (mark : Mark) → IsolationInvariant w h → Places w s start commit → mark_of w.pairs start ≡ Some mark → Marked w.pairs start
met_marked w h s start commit mark holds places is =
    let q : InFlight = record { session = s; start = start; keys = places.client.entry.keys; stage = Has commit } in
    let placing : PlacingAt w.clients q = record {
      client = places.client;
      at = places.at;
      state_is = ap is_placing places.placing;
      start_is = places.start_is;
      keys_are = refl;
      commit_of = commit;
      commit_is = places.commit_is;
      stage_is = refl;
    } in
    found_marked w h q commit mark holds (inr placing) refl is

-- ---- both
pub steps_fit : (w : State) (h : List Item) → IsolationInvariant w h → StepsFit w
steps_fit w h holds = record {
  work = λ s c at none go. work_fits w h s c holds at none go;
  marked = λ s start commit mark places is. met_marked w h s start commit mark holds places is;
}
