-- Sessions and requests where a stamp is drawn, and where a commit is settled.
use Rattle.isolation_laws.proofs.Names.{◌≡◌, ◌≢◌, ℕ, ◌+◌, List, ◌++◌, Option, Some, None, ◌⊎◌, inl, inr, refl, sym, ◌∙◌}
use Rattle.isolation_laws.proofs.Names.{ap, subst, arith, none-some, ◌∈◌, Item, Begin, Draw, Write, in_front, in_last}
use Rattle.isolation_laws.proofs.Names.{in_push, Held, Progress, Request, BeginRequest, Commit, InstanceEntry, drawn_as}
use Rattle.isolation_laws.proofs.Names.{State, draw_item, InstanceAt, HeldBy, OpenAt, Begun, DrewStart, DrewCommit}
use Rattle.isolation_laws.proofs.Names.{HasDrawn, written_keys, Stage, Taken, Has, InFlight, stage_of, AreStarting}
use Rattle.isolation_laws.proofs.Names.{IsDrawnSoFar, ArePending, RequestFacts, IsolationInvariant, heldby_changed}
use Rattle.isolation_laws.proofs.Names.{instance_changed, Drew, drew_instance, drew_state, drew_items}
use Rattle.system_parts.specs.declared.instance.Progress.TheVariants as progress
use Rattle.isolation_laws.proofs.Owners.{open_not_pending, so_far_unplaced}
use Rattle.isolation_laws.proofs.Requests.OtherCommits.{other_commit}
use Rattle.isolation_laws.proofs.Requests.PendingFewer.{StaysPut, stays_pending}
use Rattle.isolation_laws.proofs.Requests.PendingMoved.{IsOlder, IsDrawnNow as IsDrawnQ, pending_drew, drawn_stage}
use Rattle.isolation_laws.proofs.Numbers.NumbersKept.{open_begun}
use Rattle.isolation_laws.proofs.Requests.ClientsAfter.{have_on, written_keys-no_write}
use Rattle.isolation_laws.proofs.Requests.RequestsAfter.{requests_fewer}
use Rattle.isolation_laws.proofs.Requests.Standing.{standing_drew, drawn_not_accepted, drawn_not_settled, held_drew}
use Rattle.isolation_laws.proofs.Requests.CommitsInFlight.{goes_on, StaysPending, PendingOne, pending_one, pending_on, are_pending, IsSettledNow, IsAcceptedNow, settled_fewer, accepted_fewer, open_fewer, has_any_last}
use Rattle.isolation_laws.proofs.Requests.PendingAfter.{drawn_as_stamp, handed_is_direct}
use Rattle.isolation_laws.proofs.Numbers.NumbersOfDraws.{start_drawn, commit_drawn, asker_of, draw_item_is, drew_room}
use Rattle.isolation_laws.proofs.Numbers.NewStamps.{older_stamp, new_draw, drew_taken}
use Rattle.isolation_laws.proofs.Numbers.NewDraws.{drew_begun_old, drew_placed_old}

-- ---- what the draw brings
write_is_draw : (s u k : ℕ) (v : List ℕ) (r n term t : ℕ) (c : Option ℕ) → Draw r n term t c ≡ Write s u k v → ⊥
write_is_draw s u k v r n term t c same = cc

pub drew_keys : (w : State) (k : Drew w) (h : List Item) (t : ℕ) → written_keys (h ++ drew_items w k) t ≡ written_keys h t
drew_keys w k h t = written_keys-no_write h (new_draw w k) t (λ s u key v is. write_is_draw s u key v (asker_of k.held.request) k.node k.i.term (start_drawn k.held.request (k.i.last + 1)) (commit_drawn k.held.request (k.i.last + 1)) (sym (draw_item_is k.node k.i.term k.held.request (k.i.last + 1)) ∙ is))

parts_same : (s n term t c r m other u : ℕ) (d : Option ℕ) → Draw s n term t (Some c) ≡ Draw r m other u d → (t ≡ u) × (Some c ≡ d)
parts_same s n term t c r m other u d same = (cc, cc)

-- the transaction for which a commit is drawn now
abbrev pub DrawsFor : (w : State) → Drew w → ℕ → Type 0
DrawsFor w k t = (r : ℕ) × (keys : List ℕ) × (k.held.request ≡ Commit r t keys)

pub draws_commit : (w : State) (k : Drew w) (request : Request) (t c : ℕ) → k.held.request ≡ request → t ≡ start_drawn request (k.i.last + 1) → Some c ≡ commit_drawn request (k.i.last + 1) → DrawsFor w k t
draws_commit w k (BeginRequest r) t c is start commit = absurd (none-some c (sym commit))
draws_commit w k (Commit r u keys) t c is start commit = (r, keys, is ∙ ap (λ q. Commit r q keys) (sym start))

drew_or_drawn : (w : State) (k : Drew w) (h : List Item) (t : ℕ) → HasDrawn (h ++ drew_items w k) t → HasDrawn h t ⊎ DrawsFor w k t
drew_or_drawn w k h t (s, n, term, c, drew) = elim (in_push (Draw s n term t (Some c)) (new_draw w k) h drew) [
  | inl old ↦ inl (s, n, term, c, old)
  | inr now ↦
      let same = parts_same s n term t c (asker_of k.held.request) k.node k.i.term (start_drawn k.held.request (k.i.last + 1)) (commit_drawn k.held.request (k.i.last + 1)) (now ∙ draw_item_is k.node k.i.term k.held.request (k.i.last + 1)) in
      inr (draws_commit w k k.held.request t c refl same.0 same.1)
]

-- the one that draws, as it was taken
abbrev pub drawing : (w : State) → Drew w → ℕ → List ℕ → InFlight
drawing w k t keys = record { session = k.session; start = t; keys = keys; stage = Taken k.i.last }

-- another commit in flight is of another transaction
other_start : (w : State) (h : List Item) (k : Drew w) (q : InFlight) (t : ℕ) → IsolationInvariant w h → StaysPut w.clients w.nodes k.node k.session q → DrawsFor w k t → q.start ≢ t
other_start w h k q t holds stays draws = other_commit w.clients w.nodes h q (drawing w k t draws.1) holds.isolated.stamped holds.requests.requests holds.requests.pending (drew_taken w k draws.0 t draws.1 holds.requests.requests draws.2) stays

-- ---- commits in flight
-- a commit that was taken stays in flight, with what is drawn for it so far
taken_one : (w : State) (h : List Item) (k : Drew w) (q : InFlight) → PendingOne h (record q { stage = Taken k.i.last }) → IsDrawnSoFar (h ++ drew_items w k) q q.stage → PendingOne (h ++ drew_items w k) q
taken_one w h k q before so_far = record {
  begun = in_front (Begin q.session q.start) h (drew_items w k) before.begun;
  keys = before.keys ∙ sym (drew_keys w k h q.start);
  some = before.some;
  so_far = so_far;
}

older_one : (w : State) (h : List Item) (k : Drew w) (q : InFlight) → IsolationInvariant w h → IsOlder w k q → PendingOne (h ++ drew_items w k) q
older_one w h k q holds is =
    let g : List Item = h ++ drew_items w k in
    let before : PendingOne h (record q { stage = Taken k.i.last }) = pending_one w.clients w.nodes h (record q { stage = Taken k.i.last }) holds.requests.pending (inl is.was_taken) in
    taken_one w h k q before (subst (λ (stage : Stage). IsDrawnSoFar g q stage) (sym is.taken) (λ drew. elim (drew_or_drawn w k h q.start drew) [
      | inl old ↦ before.so_far old
      | inr now ↦ other_start w h k (record q { stage = Taken k.i.last }) q.start holds (inl (is.was_taken, λ same. is.other same.1)) now refl
    ]))

-- the draw of its commit
draws_its : (w : State) (h : List Item) (k : Drew w) (s t c : ℕ) (keys : List ℕ) → k.held.request ≡ Commit s t keys → c ≡ k.i.last + 1 → DrewCommit (h ++ drew_items w k) s k.node k.i.term t c
draws_its w h k s t c keys is stamp = subst (λ x. x ∈ (h ++ drew_items w k)) (ap (λ r. draw_item k.node k.i.term r (k.i.last + 1)) is ∙ ap (λ u. Draw s k.node k.i.term t (Some u)) (sym stamp)) (in_last (new_draw w k) h)

drawn_one : (w : State) (h : List Item) (k : Drew w) (q : InFlight) → IsolationInvariant w h → IsDrawnQ w k q → PendingOne (h ++ drew_items w k) q
drawn_one w h k q holds is =
    let g : List Item = h ++ drew_items w k in
    let before : PendingOne h (record q { stage = Taken k.i.last }) = pending_one w.clients w.nodes h (record q { stage = Taken k.i.last }) holds.requests.pending (inl is.was_taken) in
    taken_one w h k q before (subst (λ (stage : Stage). IsDrawnSoFar g q stage) (sym is.has)
    ((k.node, k.i.term, draws_its w h k q.session q.start (k.i.last + 1) q.keys is.request_is refl), λ c placed. so_far_unplaced h (record q { stage = Taken k.i.last }) (Taken k.i.last) c holds.numbers.placed before.so_far (drew_placed_old w k h q.start c placed)))

-- one that stays as it stood is not the one that draws
stays_one : (w : State) (h : List Item) (k : Drew w) (q : InFlight) → IsolationInvariant w h → StaysPut w.clients w.nodes k.node k.session q → StaysPending h (h ++ drew_items w k) q
stays_one w h k q holds stays = record {
  alone = record {
    undrawn = λ drew. elim (drew_or_drawn w k h q.start drew) [
      | inl old ↦ old
      | inr now ↦ absurd (other_start w h k q q.start holds stays now refl)
    ];
    unplaced = λ c placed. drew_placed_old w k h q.start c placed;
  };
  keys = drew_keys w k h q.start;
}

-- ---- a begin that drew its start: nobody has begun it
stamp_unbegun : (w : State) (h : List Item) (k : Drew w) (r : ℕ) → IsolationInvariant w h → Begun h r (k.i.last + 1) → ⊥
stamp_unbegun w h k r holds begun =
    let drew = holds.numbers.begun.drawn r (k.i.last + 1) begun in
    elim (older_stamp w k h r drew.0 drew.1 (k.i.last + 1) None holds.numbers.ranges holds.numbers.drawn drew.2) [
      | inl low ↦ omega (arith, low)
      | inr high ↦ omega (arith, high.0, drew_room w k holds.numbers.ranges)
    ]

begun_now : (w : State) (h : List Item) (k : Drew w) (s t : ℕ) → k.held.request ≡ BeginRequest s → t ≡ k.i.last + 1 → DrewStart (h ++ drew_items w k) s k.node k.i.term t
begun_now w h k s t is stamp = subst (λ x. x ∈ (h ++ drew_items w k)) (ap (λ r. draw_item k.node k.i.term r (k.i.last + 1)) is ∙ ap (λ u. Draw s k.node k.i.term u None) (sym stamp)) (in_last (new_draw w k) h)

-- what stands at the node that drew: the one that drew, or one that stood there
record DrewHere (w : State) (k : Drew w) (s : ℕ) (request : Request) (p : Progress) : Type 0 where
  session_is : s ≡ k.session
  request_is : k.held.request ≡ request
  stands : drawn_as k.i.direct k.held.request (k.i.last + 1) ≡ p

drew_standing : (w : State) (k : Drew w) (n s : ℕ) (request : Request) (p : Progress) (j : InstanceEntry) → InstanceAt (drew_state w k).nodes n j → HeldBy j s request p → ((n ≡ k.node) × (j.term ≡ k.i.term) × DrewHere w k s request p) ⊎ ((i : InstanceEntry) × InstanceAt w.nodes n i × HeldBy i s request p × (j.term ≡ i.term))
drew_standing w k n s request p j at held = elim (instance_changed w.nodes k.node n (drew_instance w k) j at) [
  | inl here ↦
      let now : Held = record k.held { progress = drawn_as k.i.direct k.held.request (k.i.last + 1) } in
      let mine : HeldBy (drew_instance w k) s request p = subst (λ (x : InstanceEntry). HeldBy x s request p) here.1 held in
      elim (heldby_changed k.i k.session s now request p (record { held = mine.held; has = mine.has; asks = mine.asks; stands = mine.stands })) [
        | inl draws ↦ inl (here.0, ap (λ x. x.term) here.1, record { session_is = draws.0; request_is = draws.1; stands = draws.2 })
        | inr old ↦ inr (k.i, subst (λ q. InstanceAt w.nodes q k.i) (sym here.0) k.at, old.1, ap (λ x. x.term) here.1)
      ]
  | inr there ↦ inr (j, there.1, held, refl)
]

-- its stamp, where it stands as drawn, and where it has its commit
drew_drawn : (w : State) (k : Drew w) (s t : ℕ) (request : Request) → DrewHere w k s request (progress.Drawn t) → t ≡ k.i.last + 1
drew_drawn w k s t request here = sym (drawn_as_stamp k.i.direct k.held.request (k.i.last + 1) t here.stands)

same_has : (a b : ℕ) → Some (Has a) ≡ Some (Has b) → b ≡ a
same_has a b same = cc

drew_has : (w : State) (k : Drew w) (s last c : ℕ) (request : Request) (p : Progress) → DrewHere w k s request p → stage_of last p ≡ Some (Has c) → c ≡ k.i.last + 1
drew_has w k s last c request p here is = same_has (k.i.last + 1) c (sym (drawn_stage k.i.direct k.held.request (k.i.last + 1) last) ∙ (ap (stage_of last) here.stands ∙ is))

drew_starting : (w : State) (h : List Item) (k : Drew w) → IsolationInvariant w h → AreStarting (drew_state w k).nodes (h ++ drew_items w k)
drew_starting w h k holds = record {
  drawn = λ n s t j at held. elim (drew_standing w k n s (BeginRequest s) (progress.Drawn t) j at held) [
    | inl here ↦ subst (λ m. DrewStart (h ++ drew_items w k) s m j.term t) (sym here.0) (subst (λ term. DrewStart (h ++ drew_items w k) s k.node term t) (sym here.1) (begun_now w h k s t here.2.request_is (drew_drawn w k s t (BeginRequest s) here.2)))
    | inr was ↦ subst (λ term. DrewStart (h ++ drew_items w k) s n term t) (sym was.3) (in_front (Draw s n was.0.term t None) h (drew_items w k) (holds.requests.starting.drawn n s t was.0 was.1 was.2))
  ];
  unbegun = λ n s t r j at held begun. elim (drew_standing w k n s (BeginRequest s) (progress.Drawn t) j at held) [
    | inl here ↦ stamp_unbegun w h k r holds (subst (Begun h r) (drew_drawn w k s t (BeginRequest s) here.2) (drew_begun_old w k h r t begun))
    | inr was ↦ holds.requests.starting.unbegun n s t r was.0 was.1 was.2 (drew_begun_old w k h r t begun)
  ];
}

drew_pending : (w : State) (h : List Item) (k : Drew w) → IsolationInvariant w h → ArePending w.clients (drew_state w k).nodes (h ++ drew_items w k)
drew_pending w h k holds = are_pending w.clients (drew_state w k).nodes (h ++ drew_items w k) (λ q p. elim (pending_drew w k q p) [
  | inl old ↦ pending_on h (h ++ drew_items w k) q (goes_on h (drew_items w k)) (stays_one w h k q holds old) (pending_one w.clients w.nodes h q holds.requests.pending (stays_pending w.clients w.nodes k.node k.session q old))
  | inr (inl older) ↦ older_one w h k q holds older
  | inr (inr drawn) ↦ drawn_one w h k q holds drawn
]) (λ n s t c keys p j at held is. elim (drew_standing w k n s (Commit s t keys) p j at held) [
  | inl here ↦ rw (here.0, here.1) (draws_its w h k s t c keys here.2.request_is (drew_has w k s j.last c (Commit s t keys) p here.2 is))
  | inr was ↦ subst (λ term. DrewCommit (h ++ drew_items w k) s n term t c) (sym was.3) (in_front (Draw s n was.0.term t (Some c)) h (drew_items w k) (holds.requests.pending.here n s t c keys p was.0 was.1 was.2 (has_any_last j.last was.0.last p c is)))
])

drew_not_open : (w : State) (h : List Item) (k : Drew w) (s t e : ℕ) → IsolationInvariant w h → OpenAt w.clients s t e → DrawsFor w k t → ⊥
drew_not_open w h k s t e holds o draws =
    open_not_pending w.nodes w.clients h s t e holds.isolated.stamped holds.requests.requests holds.requests.pending (open_begun w.clients h s t o.client holds.requests.have_begun o.at o.state_is o.start_is) o
    (record { coming = drawing w k t draws.1; pending = inl (drew_taken w k draws.0 t draws.1 holds.requests.requests draws.2); start_is = refl })

pub requests_drew : (w : State) (h : List Item) (k : Drew w) → IsolationInvariant w h → RequestFacts w.setup (drew_state w k).nodes w.clients (h ++ drew_items w k)
requests_drew w h k holds = record {
  have_begun = have_on w.clients h (drew_items w k) holds.requests.have_begun;
  requests = requests_fewer w.nodes (drew_state w k).nodes w.clients (held_drew w k) holds.requests.requests;
  starting = drew_starting w h k holds;
  pending = drew_pending w h k holds;
  settled = settled_fewer w.nodes (drew_state w k).nodes h (h ++ drew_items w k) (standing_drew IsSettledNow w k (drawn_not_settled k.i.direct k.held.request (k.i.last + 1))) (goes_on h (drew_items w k)) (λ n s t c d i at placed. drew_placed_old w k h t d placed) holds.requests.settled;
  accepted = accepted_fewer w.nodes (drew_state w k).nodes (standing_drew IsAcceptedNow w k (drawn_not_accepted k.i.direct k.held.request (k.i.last + 1))) holds.requests.accepted;
  opened = open_fewer w.clients w.clients h (h ++ drew_items w k) (λ s t e o. o) (λ s t e o drew. elim (drew_or_drawn w k h t drew) [
    | inl old ↦ old
    | inr now ↦ absurd (drew_not_open w h k s t e holds o now)
  ]) holds.requests.opened;
  keys = record { written = λ s t c at is start. holds.requests.keys.written s t c at is start ∙ sym (drew_keys w k h t); some = holds.requests.keys.some };
  form = record {
    handed = λ n s c i request at held. elim (drew_standing w k n s request (progress.Handed c) i at held) [
      | inl here ↦ sym (holds.memory.form.direct k.node k.i k.at) ∙ handed_is_direct k.i.direct k.held.request (k.i.last + 1) c here.2.stands
      | inr was ↦ holds.requests.form.handed n s c was.0 request was.1 was.2
    ];
    plain = holds.requests.form.plain;
  };
}
