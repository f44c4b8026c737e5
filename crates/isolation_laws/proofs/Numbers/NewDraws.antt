-- Over a longer history with a new draw, stamps lie where the instances of their term, of later and of earlier ones say.
use Rattle.isolation_laws.proofs.Names.{[], ◌≡◌, ℕ, ◌+◌, ◌<◌, ◌≤◌, List, ◌∷◌, ◌++◌, Option, Some, ◌⊎◌, inl, inr, refl}
use Rattle.isolation_laws.proofs.Names.{sym, ◌∙◌, ap, subst, arith, none-some, ◌∈◌, Committed, Found, Item, Begin, Draw}
use Rattle.isolation_laws.proofs.Names.{Write, Read, Placed, in_push, in_old, AtEach-push, Request, BeginRequest}
use Rattle.isolation_laws.proofs.Names.{Commit, State, Begun, drawn_stamp, Taken, AreDrawn, IsNewDraw, AreNewDraws}
use Rattle.isolation_laws.proofs.Names.{AreBegun, NumberFacts, IsolationInvariant, Drew, drew_state, drew_items}
use Rattle.isolation_laws.proofs.Numbers.NumbersStay.{begun_on, start_on, placed_on}
use Rattle.isolation_laws.proofs.Numbers.NumbersOfDraws.{start_drawn, commit_drawn, asker_of, draw_item_is, drew_cases, drew_room, drew_ranges, drew_leases, stamp_drawn}
use Rattle.isolation_laws.proofs.Numbers.NewStamps.{new_draw, drew_taken, start_above, new_now, parts_of, stamp_up_to, stamp_low, stamp_over, stamp_between}

-- ---- a longer history has the draw, and what it had
pub drew_or : (w : State) (k : Drew w) (h : List Item) (s m term u : ℕ) (d : Option ℕ) → Draw s m term u d ∈ (h ++ new_draw w k ∷ []) → (Draw s m term u d ∈ h) ⊎ ((term ≡ k.i.term) × (u ≡ start_drawn k.held.request (k.i.last + 1)) × (d ≡ commit_drawn k.held.request (k.i.last + 1)))
drew_or w k h s m term u d drew = elim (in_push (Draw s m term u d) (new_draw w k) h drew) [
  | inl old ↦ inl old
  | inr now ↦ inr (parts_of s m term u d (asker_of k.held.request) k.node k.i.term (start_drawn k.held.request (k.i.last + 1)) (commit_drawn k.held.request (k.i.last + 1)) (now ∙ draw_item_is k.node k.i.term k.held.request (k.i.last + 1)))
]

no_draw : (x : Item) (w : State) (k : Drew w) → ((s m term u : ℕ) (d : Option ℕ) → x ≡ Draw s m term u d → ⊥) → x ≡ new_draw w k → ⊥
no_draw x w k other is = other (asker_of k.held.request) k.node k.i.term (start_drawn k.held.request (k.i.last + 1)) (commit_drawn k.held.request (k.i.last + 1)) (is ∙ draw_item_is k.node k.i.term k.held.request (k.i.last + 1))

pub old_by_drew : (x : Item) (w : State) (k : Drew w) (h : List Item) → ((s m term u : ℕ) (d : Option ℕ) → x ≡ Draw s m term u d → ⊥) → x ∈ (h ++ drew_items w k) → x ∈ h
old_by_drew x w k h other m = in_old x (new_draw w k) h (no_draw x w k other) m

begin_no_draw : (s t r m term u : ℕ) (d : Option ℕ) → Begin s t ≡ Draw r m term u d → ⊥
begin_no_draw s t r m term u d same = cc

write_no_draw : (s t k : ℕ) (v : List ℕ) (r m term u : ℕ) (d : Option ℕ) → Write s t k v ≡ Draw r m term u d → ⊥
write_no_draw s t k v r m term u d same = cc

read_no_draw : (s t k : ℕ) (a : Option Found) (r m term u : ℕ) (d : Option ℕ) → Read s t k a ≡ Draw r m term u d → ⊥
read_no_draw s t k a r m term u d same = cc

placed_no_draw : (t c r m term u : ℕ) (d : Option ℕ) → Placed t c ≡ Draw r m term u d → ⊥
placed_no_draw t c r m term u d same = cc

pub drew_begun_old : (w : State) (k : Drew w) (h : List Item) (s t : ℕ) → Begun (h ++ drew_items w k) s t → Begun h s t
drew_begun_old w k h s t m = old_by_drew (Begin s t) w k h (begin_no_draw s t) m

pub drew_placed_old : (w : State) (k : Drew w) (h : List Item) (t c : ℕ) → Committed (h ++ drew_items w k) t c → Committed h t c
drew_placed_old w k h t c m = old_by_drew (Placed t c) w k h (placed_no_draw t c) m

-- ---- the facts
drew_drawn : (w : State) (k : Drew w) (h : List Item) → IsolationInvariant w h → AreDrawn (drew_state w k).nodes w.master (h ++ drew_items w k)
drew_drawn w k h holds =
    let ranges = holds.numbers.ranges in
    let drawn = holds.numbers.drawn in
    let room : k.i.last + 1 ≤ k.i.ceiling = drew_room w k ranges in
    let above : k.i.epoch < start_drawn k.held.request (k.i.last + 1) = start_above w k k.held.request refl ranges holds.requests.requests holds.requests.accepted in
    let is : drawn_stamp (start_drawn k.held.request (k.i.last + 1)) (commit_drawn k.held.request (k.i.last + 1)) ≡ k.i.last + 1 = stamp_drawn k.held.request (k.i.last + 1) in
    record {
      counted = λ s m term t commit drew. elim (drew_or w k h s m term t commit drew) [
        | inl old ↦ drawn.counted s m term t commit old
        | inr new ↦ (omega (arith, (ranges.counted k.node k.i k.at).0, new.0), omega (arith, (ranges.counted k.node k.i k.at).1, new.0), stamp_low w.master k.i.ceiling (k.i.last + 1) t commit (start_drawn k.held.request (k.i.last + 1)) (commit_drawn k.held.request (k.i.last + 1)) new.1 new.2 is room (ranges.covered k.node k.i k.at))
      ];
      earlier = λ s m term t n commit i drew at less. elim (drew_or w k h s m term t commit drew) [
        | inl old ↦ elim (drew_cases w k n i at) [
          | inl here ↦ omega (arith, drawn.earlier s m term t k.node commit k.i old k.at (omega (arith, less, ap (λ x. x.term) here.1)), ap (λ x. x.epoch) here.1)
          | inr there ↦ drawn.earlier s m term t n commit i old there.1 less
        ]
        | inr new ↦ elim (drew_cases w k n i at) [
          | inl here ↦ absurd (omega (arith, less, new.0, ap (λ x. x.term) here.1))
          | inr there ↦ stamp_up_to i.epoch (k.i.last + 1) t commit (start_drawn k.held.request (k.i.last + 1)) (commit_drawn k.held.request (k.i.last + 1)) new.1 new.2 is (omega (arith, room, ranges.apart k.node n k.i i k.at there.1 (omega (arith, less, new.0))))
        ]
      ];
      same = λ s m term t n commit i drew at same. elim (drew_or w k h s m term t commit drew) [
        | inl old ↦ elim (drew_cases w k n i at) [
          | inl here ↦
              let was = drawn.same s m term t k.node commit k.i old k.at (same ∙ ap (λ x. x.term) here.1) in
              (omega (arith, was.0, ap (λ x. x.epoch) here.1), omega (arith, was.1, ap (λ x. x.last) here.1))
          | inr there ↦ drawn.same s m term t n commit i old there.1 same
        ]
        | inr new ↦ elim (drew_cases w k n i at) [
          | inl here ↦ stamp_between i.epoch i.last (k.i.last + 1) t commit (start_drawn k.held.request (k.i.last + 1)) (commit_drawn k.held.request (k.i.last + 1)) new.1 new.2 is (omega (arith, ranges.above k.node k.i k.at, ap (λ x. x.epoch) here.1)) (omega (arith, ap (λ x. x.last) here.1))
          | inr there ↦ absurd (ranges.differ n k.node i k.i there.0 there.1 k.at (sym same ∙ new.0))
        ]
      ];
      later = λ s m term t n commit i drew at less. elim (drew_or w k h s m term t commit drew) [
        | inl old ↦ elim (drew_cases w k n i at) [
          | inl here ↦
              let was = drawn.later s m term t k.node commit k.i old k.at (omega (arith, less, ap (λ x. x.term) here.1)) in
              (omega (arith, was.0, ap (λ x. x.ceiling) here.1), omega (arith, was.1, ap (λ x. x.ceiling) here.1))
          | inr there ↦ drawn.later s m term t n commit i old there.1 less
        ]
        | inr new ↦ elim (drew_cases w k n i at) [
          | inl here ↦ absurd (omega (arith, less, new.0, ap (λ x. x.term) here.1))
          | inr there ↦
              let low : i.ceiling ≤ k.i.epoch = ranges.apart n k.node i k.i there.1 k.at (omega (arith, less, new.0)) in
              (stamp_over i.ceiling (k.i.last + 1) t commit (start_drawn k.held.request (k.i.last + 1)) (commit_drawn k.held.request (k.i.last + 1)) new.1 new.2 is (omega (arith, low, ranges.above k.node k.i k.at)), omega (arith, low, above, new.1))
        ]
      ];
    }

drew_new : (w : State) (k : Drew w) (h : List Item) → IsolationInvariant w h → AreNewDraws (h ++ drew_items w k)
drew_new w k h holds = record {
  each = AtEach-push IsNewDraw h (new_draw w k) holds.numbers.new.each (subst (λ (x : Item). IsNewDraw h x) (sym (draw_item_is k.node k.i.term k.held.request (k.i.last + 1))) (new_now w k h k.held.request refl holds));
}

drew_begins : (w : State) (k : Drew w) (h : List Item) (request : Request) (t c : ℕ) → k.held.request ≡ request → IsolationInvariant w h → t ≡ start_drawn request (k.i.last + 1) → Some c ≡ commit_drawn request (k.i.last + 1) → (r : ℕ) × Begun h r t
drew_begins w k h (BeginRequest r) t c is holds start commit = absurd (none-some c (sym commit))
drew_begins w k h (Commit r u keys) t c is holds start commit =
    (k.session, subst (Begun h k.session) (sym start) (holds.requests.pending.begun (record { session = k.session; start = u; keys = keys; stage = Taken k.i.last }) (inl (drew_taken w k r u keys holds.requests.requests is))))

drew_begun : (w : State) (k : Drew w) (h : List Item) → IsolationInvariant w h → AreBegun (h ++ drew_items w k)
drew_begun w k h holds = record {
  drawn = λ s t is. start_on h (drew_items w k) s t (holds.numbers.begun.drawn s t (drew_begun_old w k h s t is));
  writes = λ s t key value is. begun_on h (drew_items w k) t (holds.numbers.begun.writes s t key value (old_by_drew (Write s t key value) w k h (write_no_draw s t key value) is));
  reads = λ s t key answer is. begun_on h (drew_items w k) t (holds.numbers.begun.reads s t key answer (old_by_drew (Read s t key answer) w k h (read_no_draw s t key answer) is));
  commits = λ s m term t c drew. begun_on h (drew_items w k) t (elim (drew_or w k h s m term t (Some c) drew) [
    | inl old ↦ holds.numbers.begun.commits s m term t c old
    | inr new ↦ drew_begins w k h k.held.request t c refl holds new.1 new.2
  ]);
}

pub numbers_drew : (w : State) (h : List Item) (k : Drew w) → IsolationInvariant w h → NumberFacts w.setup (drew_state w k).seen (drew_state w k).nodes (drew_state w k).master (h ++ drew_items w k)
numbers_drew w h k holds = record {
  ranges = drew_ranges w k holds.numbers.ranges;
  leases = drew_leases w k holds.numbers.leases;
  drawn = drew_drawn w k h holds;
  new = drew_new w k h holds;
  begun = drew_begun w k h holds;
  placed = record { drawn = λ t c is. placed_on h (drew_items w k) t c (holds.numbers.placed.drawn t c (drew_placed_old w k h t c is)) };
}
