-- For cause_laws too.
-- What follows from several facts at once: whose a transaction is, what still may be placed, and what an instance with the
-- record's term has seen.
use Rattle.isolation_laws.proofs.Names.{◌≡◌, ℕ, ◌+◌, ◌<◌, ◌≤◌, true, false, ◌⊎◌, List, Option, Some, None, inl, inr}
use Rattle.isolation_laws.proofs.Names.{refl, sym, ◌∙◌, ap, subst, arith, ◌∈◌, Committed, Stamped, Item, Draw}
use Rattle.isolation_laws.proofs.Names.{SetupNumbers, MasterRecord, SessionState, Progress, Commit, InstanceEntry}
use Rattle.isolation_laws.proofs.Names.{Client, InstanceAt, HeldBy, ClientAt, OpenAt, Begun, DrewCommit, drawn_stamp}
use Rattle.isolation_laws.proofs.Names.{Stage, Waits, Taken, Has, InFlight, stage_of, HeldPending, is_placing, Pending}
use Rattle.isolation_laws.proofs.Names.{IsPending, IsOpen, Live, AreRanges, AreLeases, AreDrawn, AreBegun, ArePlaced}
use Rattle.isolation_laws.proofs.Names.{AreRequests, WaitsFor, IsDrawnSoFar, ArePending, AreAccepted, AreOpen, AreForm}
use Rattle.isolation_laws.proofs.Names.{one_client, three_ways}
use Rattle.system_parts.specs.declared.session.State.TheVariants as phase
use Rattle.system_parts.specs.declared.instance.Progress.TheVariants as progress
use Rattle.isolation_laws.proofs.OnceEach.{begun_once}
pub use Rattle.isolation_laws.proofs.OnceEach.{drawn_once}

-- ---- whose a transaction is
waits_no : (state : SessionState) (s t : ℕ) (keys : List ℕ) (c : Client) → c.entry.state ≡ state → (state ≡ phase.Gone → ⊥) → (state ≡ phase.Committing → ⊥) → WaitsFor (Commit s t keys) c → ⊥
waits_no state s t keys c is gone asked (inl left) = gone (sym is ∙ left)
waits_no state s t keys c is gone asked (inr (asks, start)) = asked (sym is ∙ asks)

-- a state that no session has whose commit is in flight
pub record NoneInFlight (state : SessionState) : Type 0 where
  pub gone : state ≡ phase.Gone → ⊥
  pub committing : state ≡ phase.Committing → ⊥
  pub placing : is_placing state ≡ true → ⊥

-- the session of a commit in flight is committing, placing it or gone
held_not_in : (nodes : List (Option InstanceEntry)) (clients : List Client) (state : SessionState) (q : InFlight) (c : Client) → AreRequests nodes clients → ClientAt clients q.session c → c.entry.state ≡ state → NoneInFlight state → Pending clients nodes q → ⊥
held_not_in nodes clients state q c requests at is none (inl p) =
    let waiting = requests.waits p.node q.session p.instance_of (Commit q.session q.start q.keys) p.progress_of p.at p.held in
    let same : waiting.0 ≡ c = one_client clients q.session waiting.0 c waiting.1 at in
    waits_no state q.session q.start q.keys waiting.0 (ap (λ d. d.entry.state) same ∙ is) none.gone none.committing waiting.2
held_not_in nodes clients state q c requests at is none (inr p) =
    let same : p.client ≡ c = one_client clients q.session p.client c p.at at in
    none.placing (ap is_placing (sym is) ∙ (ap (λ d. is_placing d.entry.state) (sym same) ∙ p.state_is))

-- so no other state has its transaction
pub not_in_flight : (nodes : List (Option InstanceEntry)) (clients : List Client) (h : List Item) (state : SessionState) (s t : ℕ) (c : Client) → Stamped h → AreRequests nodes clients → ArePending clients nodes h → ClientAt clients s c → c.entry.state ≡ state → NoneInFlight state → Begun h s t → IsPending clients nodes t → ⊥
not_in_flight nodes clients h state s t c stamped requests pending at is none begun p =
    let q = p.coming in
    let mine : q.session ≡ s = begun_once h q.session s t stamped (subst (Begun h q.session) p.start_is (pending.begun q p.pending)) begun in
    held_not_in nodes clients state q c requests (subst (λ r. ClientAt clients r c) (sym mine) at) is none p.pending

pub open_in_none : NoneInFlight phase.Open
open_in_none = record { gone = λ is. cc; committing = λ is. cc; placing = λ is. cc }

pub open_not_pending : (nodes : List (Option InstanceEntry)) (clients : List Client) (h : List Item) (s t e : ℕ) → Stamped h → AreRequests nodes clients → ArePending clients nodes h → Begun h s t → OpenAt clients s t e → IsPending clients nodes t → ⊥
open_not_pending nodes clients h s t e stamped requests pending begun o p =
    not_in_flight nodes clients h phase.Open s t o.client stamped requests pending o.at o.state_is open_in_none begun p

-- ---- what may still be placed is not placed
pub so_far_unplaced : (h : List Item) (q : InFlight) (stage : Stage) (c : ℕ) → ArePlaced h → IsDrawnSoFar h q stage → Committed h q.start c → ⊥
so_far_unplaced h q Waits c placed so_far is = let drew = placed.drawn q.start c is in so_far (drew.0, drew.1, drew.2, c, drew.3)
so_far_unplaced h q (Taken last) c placed so_far is = let drew = placed.drawn q.start c is in so_far (drew.0, drew.1, drew.2, c, drew.3)
so_far_unplaced h q (Has commit) c placed so_far is = so_far.1 c is

pub pending_unplaced : (clients : List Client) (nodes : List (Option InstanceEntry)) (h : List Item) (t c : ℕ) → ArePlaced h → ArePending clients nodes h → IsPending clients nodes t → Committed h t c → ⊥
pending_unplaced clients nodes h t c placed pending p is = so_far_unplaced h p.coming p.coming.stage c placed (pending.so_far p.coming p.pending) (subst (λ u. Committed h u c) (sym p.start_is) is)

pub open_unplaced : (clients : List Client) (h : List Item) (t c : ℕ) → ArePlaced h → AreOpen clients h → IsOpen clients t → Committed h t c → ⊥
open_unplaced clients h t c placed opened o is = let drew = placed.drawn t c is in opened.undrawn o.session t o.epoch o.open_at (drew.0, drew.1, drew.2, c, drew.3)

pub live_unplaced : (clients : List Client) (nodes : List (Option InstanceEntry)) (h : List Item) (t c : ℕ) → ArePlaced h → ArePending clients nodes h → AreOpen clients h → Live clients nodes t → Committed h t c → ⊥
live_unplaced clients nodes h t c placed pending opened (inl o) is = open_unplaced clients h t c placed opened o is
live_unplaced clients nodes h t c placed pending opened (inr p) is = pending_unplaced clients nodes h t c placed pending p is

-- ---- an instance that accepts has the record's term
pub accepts_now : (setup : SetupNumbers) (seen reading n : ℕ) (nodes : List (Option InstanceEntry)) (master : MasterRecord) (i : InstanceEntry) → AreRanges nodes master → AreLeases setup seen nodes master → InstanceAt nodes n i → seen ≤ reading + setup.skew → reading < i.until → i.term ≡ master.term
accepts_now setup seen reading n nodes master i ranges leases at steady in_time =
    elim (three_ways i.term master.term) [
      | inl less ↦ absurd (omega (arith, leases.replaced n i at less, steady, in_time))
      | inr (inl same) ↦ same
      | inr (inr more) ↦ absurd (omega (arith, (ranges.counted n i at).1, more))
    ]

-- and all that was drawn is at most its last stamp
pub drawn_below_last : (nodes : List (Option InstanceEntry)) (master : MasterRecord) (h : List Item) (n : ℕ) (i : InstanceEntry) (s m term t : ℕ) (commit : Option ℕ) → AreRanges nodes master → AreDrawn nodes master h → InstanceAt nodes n i → i.term ≡ master.term → Draw s m term t commit ∈ h → drawn_stamp t commit ≤ i.last
drawn_below_last nodes master h n i s m term t commit ranges drawn at now drew =
    elim (three_ways term i.term) [
      | inl less ↦ omega (arith, drawn.earlier s m term t n commit i drew at less, ranges.above n i at)
      | inr (inl same) ↦ (drawn.same s m term t n commit i drew at same).1
      | inr (inr more) ↦ absurd (omega (arith, (drawn.counted s m term t commit drew).1, now, more))
    ]

pub begun_below_last : (nodes : List (Option InstanceEntry)) (master : MasterRecord) (h : List Item) (n : ℕ) (i : InstanceEntry) (s t : ℕ) → AreRanges nodes master → AreDrawn nodes master h → AreBegun h → InstanceAt nodes n i → i.term ≡ master.term → Begun h s t → t ≤ i.last
begun_below_last nodes master h n i s t ranges drawn begun at now is =
    let drew = begun.drawn s t is in drawn_below_last nodes master h n i s drew.0 drew.1 t None ranges drawn at now drew.2

pub placed_below_last : (nodes : List (Option InstanceEntry)) (master : MasterRecord) (h : List Item) (n : ℕ) (i : InstanceEntry) (t c : ℕ) → AreRanges nodes master → AreDrawn nodes master h → ArePlaced h → InstanceAt nodes n i → i.term ≡ master.term → Committed h t c → c ≤ i.last
placed_below_last nodes master h n i t c ranges drawn placed at now is =
    let drew = placed.drawn t c is in drawn_below_last nodes master h n i drew.0 drew.1 drew.2 t (Some c) ranges drawn at now drew.3

-- ---- what can come below a start
-- a commit in flight with its instance, by its stage
taken_progress : (last : ℕ) (p : Progress) (x : ℕ) → stage_of last p ≡ Some (Taken x) → (p ≡ progress.Accepted) × (last ≡ x)
taken_progress last progress.Accepted x is = (refl, cc)
taken_progress last _ x is = absurd (cc)

pub has_progress : (last : ℕ) (p : Progress) (x : ℕ) → stage_of last p ≡ Some (Has x) → (p ≡ progress.Drawn x) ⊎ (p ≡ progress.Handed x)
has_progress last progress.Asked x is = absurd (cc)
has_progress last progress.Accepted x is = absurd (cc)
has_progress last (progress.Drawn c) x is = inl cc
has_progress last (progress.Handed c) x is = inr cc
has_progress last (progress.Settled c by) x is = absurd (cc)

-- what an instance has accepted began within its range
pub taken_within : (nodes : List (Option InstanceEntry)) (q : InFlight) (x : ℕ) (p : HeldPending nodes q) → AreAccepted nodes → q.stage ≡ Taken x → (q.start ≤ x) × (p.instance_of.last ≡ x)
taken_within nodes q x p accepted is =
    let now = taken_progress p.instance_of.last p.progress_of x (p.stage_is ∙ ap Some is) in
    let held : HeldBy p.instance_of q.session (Commit q.session q.start q.keys) progress.Accepted = subst (HeldBy p.instance_of q.session (Commit q.session q.start q.keys)) now.0 p.held in
    let within = accepted.within p.node q.session q.start q.keys p.instance_of p.at held in
    (omega (arith, within.1, now.1), now.1)

-- where commits are not direct, what has its commit is drawn
pub has_held : (setup : SetupNumbers) (nodes : List (Option InstanceEntry)) (clients : List Client) (q : InFlight) (x : ℕ) (p : HeldPending nodes q) → AreForm setup nodes clients → setup.direct ≡ false → q.stage ≡ Has x → HeldBy p.instance_of q.session (Commit q.session q.start q.keys) (progress.Drawn x)
has_held setup nodes clients q x p form plain is = elim (has_progress p.instance_of.last p.progress_of x (p.stage_is ∙ ap Some is)) [
  | inl drawn ↦ subst (HeldBy p.instance_of q.session (Commit q.session q.start q.keys)) drawn p.held
  | inr handed ↦
      let clash : true ≡ false = sym (form.handed p.node q.session x p.instance_of (Commit q.session q.start q.keys) p.at (subst (HeldBy p.instance_of q.session (Commit q.session q.start q.keys)) handed p.held)) ∙ plain in
      absurd (cc)
]

-- what an instance has drawn for it was drawn there
pub held_drew : (clients : List Client) (nodes : List (Option InstanceEntry)) (h : List Item) (q : InFlight) (x : ℕ) (p : HeldPending nodes q) → ArePending clients nodes h → q.stage ≡ Has x → DrewCommit h q.session p.node p.instance_of.term q.start x
held_drew clients nodes h q x p pending is = pending.here p.node q.session q.start x q.keys p.progress_of p.instance_of p.at p.held (p.stage_is ∙ ap Some is)

-- what a session is placing has its commit, so what waits or is taken is held
taken_not_has : (x c : ℕ) → Taken x ≡ Has c → ⊥
taken_not_has x c same = cc

pub taken_held : (clients : List Client) (nodes : List (Option InstanceEntry)) (q : InFlight) (x : ℕ) → Pending clients nodes q → q.stage ≡ Taken x → HeldPending nodes q
taken_held clients nodes q x (inl p) is = p
taken_held clients nodes q x (inr p) is = absurd (taken_not_has x p.commit_of (sym is ∙ p.stage_is))

pub has_drew : (clients : List Client) (nodes : List (Option InstanceEntry)) (h : List Item) (q : InFlight) (x : ℕ) → ArePending clients nodes h → Pending clients nodes q → q.stage ≡ Has x → ((n : ℕ) × (term : ℕ) × DrewCommit h q.session n term q.start x) × ((c : ℕ) → Committed h q.start c → ⊥)
has_drew clients nodes h q x pending p is = subst (IsDrawnSoFar h q) is (pending.so_far q p)
