-- The conflict memory where a stamp is drawn: its instance records the keys, and a free verdict keeps commits of one key
-- apart.
use Rattle.isolation_laws.proofs.Names.{◌≡◌, ◌≢◌, ℕ, ◌+◌, ◌<◌, ◌≤◌, List, [], ◌++◌, Option, Some, None, ◌⊎◌, inl, inr}
use Rattle.isolation_laws.proofs.Names.{refl, sym, ◌∙◌, ap, subst, arith, Contains, IsSomeAnd, option_or, cases_eq}
use Rattle.isolation_laws.proofs.Names.{append-nil, same_Some, none-some, Wrote, last_write, Item, Draw, Write}
use Rattle.isolation_laws.proofs.Names.{last_write-push, Request, BeginRequest, Commit, contents, last_commit, verdict}
use Rattle.isolation_laws.proofs.Names.{record_pairs, IsShown, pairs_by, request_verdict, last_commit_greatest, State}
use Rattle.isolation_laws.proofs.Names.{DrewCommit, written_keys, recorded, recorded_by, AreRecorded, DrawnApart}
use Rattle.isolation_laws.proofs.Names.{IsolationInvariant, Drew, drew_state, drew_items, three_ways}
use Rattle.system_parts.specs.declared.buckets.Verdict.{Verdict}
use Rattle.system_parts.specs.declared.buckets.Verdict.TheVariants.{Free}
use Rattle.system_parts.proofs.BucketVerdicts.{verdict_shown, record_pairs-append}
use Rattle.isolation_laws.proofs.OnceEach.{drawn_once}
use Rattle.isolation_laws.proofs.Pushed.{recorded-push}
use Rattle.isolation_laws.proofs.Memory.RecordedCommits.{recorded_contains, recorded_rise, recorded_by_own, recorded_by_other, wrote_key}
use Rattle.isolation_laws.proofs.Memory.MemoryStays.{unwritten}
use Rattle.isolation_laws.proofs.Numbers.NumbersOfDraws.{start_drawn, commit_drawn, asker_of, draw_item_is, drew_cases, drew_room}
use Rattle.isolation_laws.proofs.Numbers.NewStamps.{new_draw, drew_taken, drew_within}
use Rattle.isolation_laws.proofs.Numbers.NewDraws.{drew_or}
use Rattle.isolation_laws.proofs.Requests.RequestsOfDraws.{drew_keys, DrawsFor, draws_commit, drawing}

-- ---- what the draw records
own_keys : (w : State) (h : List Item) (k : Drew w) (r t : ℕ) (keys : List ℕ) → IsolationInvariant w h → k.held.request ≡ Commit r t keys → keys ≡ written_keys h t
own_keys w h k r t keys holds is = (holds.requests.pending.keys (drawing w k t keys) (inl (drew_taken w k r t keys holds.requests.requests is))).0

now_recorded : (w : State) (h : List Item) (k : Drew w) (request : Request) → IsolationInvariant w h → k.held.request ≡ request → recorded_by (h ++ drew_items w k) k.i.term (Draw (asker_of request) k.node k.i.term (start_drawn request (k.i.last + 1)) (commit_drawn request (k.i.last + 1))) ≡ pairs_by request (k.i.last + 1)
now_recorded w h k (BeginRequest r) holds is = refl
now_recorded w h k (Commit r t keys) holds is =
    recorded_by_own (h ++ drew_items w k) r k.node k.i.term t (k.i.last + 1)
    ∙ ap (λ ks. pairs_by (Commit r t ks) (k.i.last + 1)) (drew_keys w k h t ∙ sym (own_keys w h k r t keys holds is))

none_recorded : (w : State) (h : List Item) (k : Drew w) (request : Request) (term : ℕ) → k.i.term ≢ term → recorded_by (h ++ drew_items w k) term (Draw (asker_of request) k.node k.i.term (start_drawn request (k.i.last + 1)) (commit_drawn request (k.i.last + 1))) ≡ []
none_recorded w h k (BeginRequest r) term other = refl
none_recorded w h k (Commit r t keys) term other = recorded_by_other (h ++ drew_items w k) r k.node k.i.term term t (k.i.last + 1) other

drew_recorded : (w : State) (h : List Item) (k : Drew w) (term : ℕ) → recorded (h ++ drew_items w k) term ≡ recorded h term ++ recorded_by (h ++ drew_items w k) term (Draw (asker_of k.held.request) k.node k.i.term (start_drawn k.held.request (k.i.last + 1)) (commit_drawn k.held.request (k.i.last + 1)))
drew_recorded w h k term =
    recorded-push h (new_draw w k) term (λ t drew. drew_keys w k h t)
    ∙ ap (λ x. recorded h term ++ recorded_by (h ++ drew_items w k) term x) (draw_item_is k.node k.i.term k.held.request (k.i.last + 1))

own_buckets : (w : State) (h : List Item) (k : Drew w) → IsolationInvariant w h → record_pairs k.i.buckets (pairs_by k.held.request (k.i.last + 1)) ≡ contents w.setup.buckets w.setup.width (recorded (h ++ drew_items w k) k.i.term)
own_buckets w h k holds =
    let before : k.i.buckets ≡ contents w.setup.buckets w.setup.width (recorded h k.i.term) = holds.memory.recorded.hold k.node k.i k.at in
    let all : recorded (h ++ drew_items w k) k.i.term ≡ recorded h k.i.term ++ pairs_by k.held.request (k.i.last + 1) =
    drew_recorded w h k k.i.term ∙ ap (λ ps. recorded h k.i.term ++ ps) (now_recorded w h k k.held.request holds refl) in
    ap (λ bs. record_pairs bs (pairs_by k.held.request (k.i.last + 1))) before
    ∙ (sym (record_pairs-append _ (recorded h k.i.term) (pairs_by k.held.request (k.i.last + 1)))
    ∙ ap (contents w.setup.buckets w.setup.width) (sym all))

pub drew_records : (w : State) (h : List Item) (k : Drew w) → IsolationInvariant w h → AreRecorded w.setup (drew_state w k).nodes (h ++ drew_items w k)
drew_records w h k holds = record {
  hold = λ n j at. elim (drew_cases w k n j at) [
    | inl here ↦ ap (λ x. x.buckets) here.1 ∙ (own_buckets w h k holds ∙ ap (λ term. contents w.setup.buckets w.setup.width (recorded (h ++ drew_items w k) term)) (ap (λ x. x.term) (sym here.1)))
    | inr there ↦
        let other : k.i.term ≢ j.term = λ same. holds.numbers.ranges.differ n k.node j k.i there.0 there.1 k.at (sym same) in
        holds.memory.recorded.hold n j there.1 ∙ ap (contents w.setup.buckets w.setup.width)
        (sym (drew_recorded w h k j.term ∙ (ap (λ ps. recorded h j.term ++ ps) (none_recorded w h k k.held.request j.term other) ∙ append-nil (recorded h j.term))))
  ];
}

-- ---- a free verdict: what was recorded of the keys is not above the start
below_last : (last : Option ℕ) (d t : ℕ) → IsSomeAnd last (λ l. d ≤ l) → ((c : ℕ) → last ≡ Some c → c ≤ t) → d ≤ t
below_last None d t some shown = absurd some
below_last (Some l) d t some shown = omega (arith, some, shown l refl)

free_shown : (w : State) (h : List Item) (k : Drew w) (t : ℕ) (keys : List ℕ) → IsolationInvariant w h → verdict k.i.buckets t keys ≡ Free → IsShown w.setup.buckets w.setup.width (recorded h k.i.term) t keys Free
free_shown w h k t keys holds free =
    let buckets : contents w.setup.buckets w.setup.width (recorded h k.i.term) ≡ k.i.buckets = sym (holds.memory.recorded.hold k.node k.i k.at) in
    subst (λ (v : Verdict). IsShown w.setup.buckets w.setup.width (recorded h k.i.term) t keys v) (ap (λ bs. verdict bs t keys) buckets ∙ free)
    (verdict_shown w.setup.buckets w.setup.width (recorded h k.i.term) t keys (holds.in_range.buckets).0 (holds.in_range.width).0 (recorded_rise h k.i.term holds.numbers.new))

free_below : (w : State) (h : List Item) (k : Drew w) (t : ℕ) (keys : List ℕ) (s m u d key : ℕ) (value : List ℕ) → IsolationInvariant w h → verdict k.i.buckets t keys ≡ Free → Contains keys key → DrewCommit h s m k.i.term u d → Wrote h u key value → d ≤ t
free_below w h k t keys s m u d key value holds free has drew wrote =
    below_last (last_commit (recorded h k.i.term) key) d t
    (last_commit_greatest (recorded h k.i.term) key d (recorded_rise h k.i.term holds.numbers.new) (recorded_contains h s m k.i.term u d key value drew wrote))
    (λ c last. free_shown w h k t keys holds free key c has last)

-- what the transaction wrote is free
own_free : (w : State) (k : Drew w) (r t : ℕ) (keys : List ℕ) → k.held.request ≡ Commit r t keys → verdict k.i.buckets t keys ≡ Free
own_free w k r t keys is = ap (request_verdict k.i.buckets) (sym is) ∙ k.free

own_has : (w : State) (h : List Item) (k : Drew w) (r t : ℕ) (keys : List ℕ) (key : ℕ) (own : List ℕ) → IsolationInvariant w h → k.held.request ≡ Commit r t keys → Wrote h t key own → Contains keys key
own_has w h k r t keys key own holds is mine = subst (λ ks. Contains ks key) (sym (own_keys w h k r t keys holds is)) (wrote_key h t key own mine)

-- a start and a commit are never the same stamp
start_is_no_commit : (s n term t r m other u d : ℕ) → Draw s n term t None ≡ Draw r m other u (Some d) → ⊥
start_is_no_commit s n term t r m other u d same = cc

apart_stamps : (w : State) (h : List Item) (k : Drew w) (r t : ℕ) (keys : List ℕ) (s m other u d : ℕ) → IsolationInvariant w h → k.held.request ≡ Commit r t keys → DrewCommit h s m other u d → d ≡ t → ⊥
apart_stamps w h k r t keys s m other u d holds is drew same =
    let begun = holds.requests.pending.begun (drawing w k t keys) (inl (drew_taken w k r t keys holds.requests.requests is)) in
    let start = holds.numbers.begun.drawn k.session t begun in
    start_is_no_commit k.session start.0 start.1 t s m other u d (drawn_once h k.session s start.0 m start.1 other t u None (Some d) holds.numbers.new start.2 drew (sym same))

not_above : (d t : ℕ) → d ≤ t → (d ≡ t → ⊥) → d < t
not_above d t low other = elim (cases_eq d t) [
  | inl same ↦ absurd (other same)
  | inr differ ↦ omega (arith, low, differ)
]

-- a commit that was drawn before, of a transaction that wrote the key
pub record DrewBefore (h : List Item) (key : ℕ) : Type 0 where
  pub session : ℕ
  pub node : ℕ
  pub term : ℕ
  pub start : ℕ
  pub commit : ℕ
  pub value : List ℕ
  pub drew : DrewCommit h session node term start commit
  pub wrote : Wrote h start key value

-- the commit that is drawn now, of a transaction with a free key, and one before it that wrote the key
pub apart_now : (w : State) (h : List Item) (k : Drew w) (r t : ℕ) (asked keys : List ℕ) (key : ℕ) (o : DrewBefore h key) → IsolationInvariant w h → k.held.request ≡ Commit r t asked → verdict k.i.buckets t keys ≡ Free → Contains keys key → (k.i.last + 1 < o.start) ⊎ (o.commit < t)
apart_now w h k r t asked keys key o holds is free has = elim (three_ways o.term k.i.term) [
  | inl less ↦ inr (omega (arith, holds.numbers.drawn.earlier o.session o.node o.term o.start k.node (Some o.commit) k.i o.drew k.at less, (drew_within w k r t asked holds.requests.requests holds.requests.accepted is).0))
  | inr (inl same) ↦ inr (not_above o.commit t (free_below w h k t keys o.session o.node o.start o.commit key o.value holds free has (subst (λ term. DrewCommit h o.session o.node term o.start o.commit) same o.drew) o.wrote) (apart_stamps w h k r t asked o.session o.node o.term o.start o.commit holds is o.drew))
  | inr (inr more) ↦ inl (omega (arith, (holds.numbers.drawn.later o.session o.node o.term o.start k.node (Some o.commit) k.i o.drew k.at more).1, drew_room w k holds.numbers.ranges))
]

-- where it wrote the key itself
wrote_now : (w : State) (h : List Item) (k : Drew w) (r t : ℕ) (keys : List ℕ) (key : ℕ) (own : List ℕ) (o : DrewBefore h key) → IsolationInvariant w h → k.held.request ≡ Commit r t keys → Wrote h t key own → (k.i.last + 1 < o.start) ⊎ (o.commit < t)
wrote_now w h k r t keys key own o holds is mine = apart_now w h k r t keys keys key o holds is (own_free w k r t keys is) (own_has w h k r t keys key own holds is mine)

-- ---- the facts
pub commit_is : (request : Request) (stamp c : ℕ) → Some c ≡ commit_drawn request stamp → c ≡ stamp
commit_is (BeginRequest r) stamp c is = absurd (none-some c (sym is))
commit_is (Commit r t keys) stamp c is = same_Some c stamp is

no_write : (w : State) (k : Drew w) (s t key : ℕ) (value : List ℕ) → Draw (asker_of k.held.request) k.node k.i.term (start_drawn k.held.request (k.i.last + 1)) (commit_drawn k.held.request (k.i.last + 1)) ≡ Write s t key value → ⊥
no_write w k s t key value same = cc

pub draw_writes_nothing : (w : State) (h : List Item) (k : Drew w) (t key : ℕ) (value : List ℕ) → Wrote (h ++ drew_items w k) t key value → Wrote h t key value
draw_writes_nothing w h k t key value wrote =
    ap (λ o. option_or o (last_write h t key)) (sym (unwritten t key (new_draw w k) (λ s q v is. no_write w k s t q v (sym (draw_item_is k.node k.i.term k.held.request (k.i.last + 1)) ∙ is))))
    ∙ (sym (last_write-push h (new_draw w k) t key) ∙ wrote)

swapped : (c u d t : ℕ) → (c < u) ⊎ (d < t) → (d < t) ⊎ (c < u)
swapped c u d t (inl a) = inr a
swapped c u d t (inr b) = inl b

pub same_transaction : (w : State) (k : Drew w) (t u : ℕ) → t ≡ start_drawn k.held.request (k.i.last + 1) → u ≡ start_drawn k.held.request (k.i.last + 1) → t ≡ u
same_transaction w k t u a b = a ∙ sym b

pub drew_apart : (w : State) (h : List Item) (k : Drew w) → IsolationInvariant w h → DrawnApart (h ++ drew_items w k)
drew_apart w h k holds = record {
  apart = λ r s n m term other t c u d key v x first second differ wrote also.
      let a : Wrote h t key v = draw_writes_nothing w h k t key v wrote in
      let b : Wrote h u key x = draw_writes_nothing w h k u key x also in
      elim (drew_or w k h r n term t (Some c) first) [
        | inl old ↦ elim (drew_or w k h s m other u (Some d) second) [
          | inl older ↦ holds.memory.apart.apart r s n m term other t c u d key v x old older differ a b
          | inr now ↦
              let draws : DrawsFor w k u = draws_commit w k k.held.request u d refl now.1 now.2 in
              let stamp : d ≡ k.i.last + 1 = commit_is k.held.request (k.i.last + 1) d now.2 in
              subst (λ q. (c < u) ⊎ (q < t)) (sym stamp) (swapped (k.i.last + 1) t c u (wrote_now w h k draws.0 u draws.1 key x (record { session = r; node = n; term = term; start = t; commit = c; value = v; drew = old; wrote = a }) holds draws.2 b))
        ]
        | inr now ↦
            let draws : DrawsFor w k t = draws_commit w k k.held.request t c refl now.1 now.2 in
            let stamp : c ≡ k.i.last + 1 = commit_is k.held.request (k.i.last + 1) c now.2 in
            elim (drew_or w k h s m other u (Some d) second) [
              | inl older ↦ subst (λ q. (q < u) ⊎ (d < t)) (sym stamp) (wrote_now w h k draws.0 t draws.1 key v (record { session = s; node = m; term = other; start = u; commit = d; value = x; drew = older; wrote = b }) holds draws.2 a)
              | inr both ↦ absurd (differ (same_transaction w k t u now.1 both.1))
            ]
      ];
}
