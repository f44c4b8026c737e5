-- What can come below a start: where a commit in flight began, and that a reader that is open may mark it.
use Rattle.isolation_laws.proofs.Names.{◌≡◌, ℕ, ◌<◌, ◌≤◌, Bool, true, false, List, Option, Some, ◌⊎◌, inl, inr, refl}
use Rattle.isolation_laws.proofs.Names.{sym, subst, arith, le-leb, Committed, Wrote, Apart, Stamped, Item, may_mark}
use Rattle.isolation_laws.proofs.Names.{InstanceEntry, Client, State, marks_every, OpenAt, IsolationInvariant, Stage}
use Rattle.isolation_laws.proofs.Names.{Waits, Taken, Has, InFlight, HeldPending, Pending, IsStageBelow, ComesBelow}
use Rattle.isolation_laws.proofs.Names.{AreNewDraws, ArePending, AreAccepted}
use Rattle.std.specs.Bool.{IsTrue}
use Rattle.isolation_laws.proofs.OnceEach.{commit_above_start}
use Rattle.isolation_laws.proofs.Owners.{taken_within, has_held, held_drew, taken_held, has_drew}

-- ---- what can come below a start
below_stage : (b : ℕ) (stage : Stage) → IsStageBelow b stage → ((x : ℕ) × (stage ≡ Taken x) × (x < b)) ⊎ ((x : ℕ) × (stage ≡ Has x) × (x < b))
below_stage b Waits below = absurd below
below_stage b (Taken last) below = inl (last, refl, below)
below_stage b (Has commit) below = inr (commit, refl, below)

-- it began below that start
pub coming_is_below : (clients : List Client) (nodes : List (Option InstanceEntry)) (h : List Item) (b t : ℕ) → AreNewDraws h → AreAccepted nodes → ArePending clients nodes h → ComesBelow clients nodes b t → t < b
coming_is_below clients nodes h b t news accepted pending c = elim (below_stage b c.coming.stage c.below) [
  | inl (x, is, below) ↦ let within = taken_within nodes c.coming x (taken_held clients nodes c.coming x c.pending is) accepted is in omega (arith, within.0, below, c.start_is)
  | inr (x, is, below) ↦
      let drew = (has_drew clients nodes h c.coming x pending c.pending is).0 in
      omega (arith, commit_above_start h c.coming.session drew.0 drew.1 c.coming.start x news drew.2, below, c.start_is)
]

-- and where an instance holds it, a reader that is open has an epoch that is not below it
held_is_within : (w : State) (h : List Item) (s b e : ℕ) (q : InFlight) → IsolationInvariant w h → w.setup.direct ≡ false → OpenAt w.clients s b e → HeldPending w.nodes q → IsStageBelow b q.stage → q.start ≤ e
held_is_within w h s b e q holds plain o p below =
    let i = p.instance_of in
    elim (below_stage b q.stage below) [
      | inl (x, is, low) ↦
          let within = taken_within w.nodes q x p holds.requests.accepted is in
          elim ((holds.begins.below plain).below s b e p.node i o p.at) [
            | inl all ↦ omega (arith, within.0, within.1, holds.numbers.ranges.within p.node i p.at, all)
            | inr past ↦ absurd (omega (arith, past.last, within.1, low))
          ]
      | inr (x, is, low) ↦
          let drew = held_drew w.clients w.nodes h q x p holds.requests.pending is in
          let last : x ≤ i.last = (holds.numbers.drawn.same q.session p.node i.term q.start p.node (Some x) i drew p.at refl).1 in
          elim ((holds.begins.below plain).below s b e p.node i o p.at) [
            | inl all ↦ omega (arith, commit_above_start h q.session p.node i.term q.start x holds.numbers.new drew, last, holds.numbers.ranges.within p.node i p.at, all)
            | inr past ↦ absurd (omega (arith, past.settled q.session q.start x q.keys (has_held w.setup w.nodes w.clients q x p holds.requests.form plain is), low))
          ]
    ]

-- so it may mark it: by its epoch where no session places its own commit, and in any case where one may
coming_is_within : (w : State) (h : List Item) (s b e : ℕ) (q : InFlight) → IsolationInvariant w h → w.setup.direct ≡ false → OpenAt w.clients s b e → Pending w.clients w.nodes q → IsStageBelow b q.stage → q.start ≤ e
coming_is_within w h s b e q holds plain o (inl p) below = held_is_within w h s b e q holds plain o p below
coming_is_within w h s b e q holds plain o (inr p) below = absurd (holds.requests.form.plain plain q.session p.client p.at p.state_is)

pub coming_is_markable : (w : State) (h : List Item) (every : Bool) (s b e t : ℕ) → every ≡ marks_every w.setup → IsolationInvariant w h → OpenAt w.clients s b e → ComesBelow w.clients w.nodes b t → IsTrue (may_mark every t e)
coming_is_markable w h true s b e t every holds o c = refl
coming_is_markable w h false s b e t every holds o c = le-leb t e (subst (λ x. x ≤ e) c.start_is (coming_is_within w h s b e c.coming holds (sym every) o c.pending c.below))

-- of two committed versions of a key the later one has the later commit
pub later_version : (h : List Item) (v u c d k : ℕ) (x y : List ℕ) → Apart h → Stamped h → Committed h v c → Committed h u d → Wrote h v k x → Wrote h u k y → u < v → d < c
later_version h v u c d k x y apart stamped one other wrote also less = elim (apart.apart v c u d k x y one other (λ same. omega (arith, same, less)) wrote also) [
  | inl above ↦ absurd (omega (arith, above, stamped.start_below_commit v c one, less))
  | inr below ↦ omega (arith, below, stamped.start_below_commit v c one)
]
