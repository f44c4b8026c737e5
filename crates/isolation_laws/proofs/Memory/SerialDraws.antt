-- The conflict memory where a stamp is drawn, with strict reads: what the transaction read is free too, and what it writes is drawn
-- above all that was drawn in its term.
use Rattle.isolation_laws.proofs.Names.{ap, ◌∙◌, ◌≡◌, ℕ, ◌+◌, ◌<◌, true, List, ◌++◌, Some, ◌⊎◌, inl, inr, refl, sym}
use Rattle.isolation_laws.proofs.Names.{subst, arith, Wrote, Item, Commit, State, HeldBy, DrewCommit, ReadFirst}
use Rattle.isolation_laws.proofs.Names.{KeepsReads, AreOfForm, DrawnSerial, MemoryFacts, IsolationInvariant, held_by}
use Rattle.isolation_laws.proofs.Names.{commit_own, three_ways, Drew, drew_state, drew_items}
use Rattle.isolation_laws.proofs.OnceEach.{commit_above_start}
use Rattle.isolation_laws.proofs.Numbers.NumbersOfDraws.{drew_room, drew_cases}
use Rattle.isolation_laws.proofs.Numbers.NewDraws.{drew_or}
use Rattle.isolation_laws.proofs.Requests.RequestsOfDraws.{DrawsFor, draws_commit}
use Rattle.isolation_laws.proofs.Reading.ReadsStay.{draw_no_reads}
use Rattle.isolation_laws.proofs.Reading.FirstReads.{first_no_reads}
use Rattle.isolation_laws.proofs.Memory.MemoryOfDraws.{DrewBefore, drew_records, drew_apart, apart_now, commit_is, draw_writes_nothing, same_transaction}

-- ---- the reader draws now
-- its client has kept what it read
reader_keeps : (w : State) (h : List Item) (k : Drew w) (r t : ℕ) (keys : List ℕ) → IsolationInvariant w h → w.setup.strict ≡ true → k.held.request ≡ Commit r t keys → KeepsReads h t k.c
reader_keeps w h k r t keys holds strict is =
    let own = holds.requests.requests.own k.node k.session k.i k.held.request k.held.progress k.at (held_by k.i k.session k.held k.has) in
    let held : HeldBy k.i k.session (Commit k.session t keys) k.held.progress = record { held = k.held; has = k.has; asks = commit_own k.held.request k.session r t keys is own; stands = refl } in
    holds.reads.read_sets.asked strict k.node k.session t keys k.held.progress k.i k.c k.at held k.client_at

reader_now : (w : State) (h : List Item) (k : Drew w) (r t : ℕ) (keys : List ℕ) (key : ℕ) (o : DrewBefore h key) → IsolationInvariant w h → w.setup.strict ≡ true → k.held.request ≡ Commit r t keys → ReadFirst h t key → (o.commit < t) ⊎ (k.i.last + 1 < o.commit)
reader_now w h k r t keys key o holds strict is read =
    elim (apart_now w h k r t keys k.c.reads key o holds is (k.reads_free r t keys is) (reader_keeps w h k r t keys holds strict is key read)) [
      | inl above ↦ inr (omega (arith, above, commit_above_start h o.session o.node o.term o.start o.commit holds.numbers.new o.drew))
      | inr below ↦ inl below
    ]

-- ---- the writer draws now
-- above each commit of its term and of earlier ones, and below the starts of later ones
writer_now : (w : State) (h : List Item) (k : Drew w) (s m other t d : ℕ) → IsolationInvariant w h → DrewCommit h s m other t d → (k.i.last + 1 < t) ⊎ (d < k.i.last + 1)
writer_now w h k s m other t d holds drew = elim (three_ways other k.i.term) [
  | inl less ↦ inr (omega (arith, holds.numbers.drawn.earlier s m other t k.node (Some d) k.i drew k.at less, holds.numbers.ranges.above k.node k.i k.at))
  | inr (inl same) ↦ inr (omega (arith, (holds.numbers.drawn.same s m other t k.node (Some d) k.i drew k.at same).1))
  | inr (inr more) ↦ inl (omega (arith, (holds.numbers.drawn.later s m other t k.node (Some d) k.i drew k.at more).1, drew_room w k holds.numbers.ranges))
]

-- ---- the facts
drew_serial : (w : State) (h : List Item) (k : Drew w) → IsolationInvariant w h → w.setup.strict ≡ true → DrawnSerial (h ++ drew_items w k)
drew_serial w h k holds strict = record {
  stood = λ r s n m term other t d u c key value first second differ read wrote.
      let a : ReadFirst h t key = first_no_reads h (drew_items w k) t key (draw_no_reads k.node k.i.term k.held.request (k.i.last + 1)) read in
      let b : Wrote h u key value = draw_writes_nothing w h k u key value wrote in
      elim (drew_or w k h r n term t (Some d) first) [
        | inl old ↦ elim (drew_or w k h s m other u (Some c) second) [
          | inl older ↦ (holds.memory.serial strict).stood r s n m term other t d u c key value old older differ a b
          | inr now ↦
              let stamp : c ≡ k.i.last + 1 = commit_is k.held.request (k.i.last + 1) c now.2 in
              subst (λ q. (q < t) ⊎ (d < q)) (sym stamp) (writer_now w h k r n term t d holds old)
        ]
        | inr now ↦
            let draws : DrawsFor w k t = draws_commit w k k.held.request t d refl now.1 now.2 in
            let stamp : d ≡ k.i.last + 1 = commit_is k.held.request (k.i.last + 1) d now.2 in
            elim (drew_or w k h s m other u (Some c) second) [
              | inl older ↦ subst (λ q. (c < t) ⊎ (q < c)) (sym stamp) (reader_now w h k draws.0 t draws.1 key (record { session = s; node = m; term = other; start = u; commit = c; value = value; drew = older; wrote = b }) holds strict draws.2 a)
              | inr both ↦ absurd (differ (same_transaction w k t u now.1 both.1))
            ]
      ];
}

drew_form : (w : State) (k : Drew w) → AreOfForm w.setup w.nodes → AreOfForm w.setup (drew_state w k).nodes
drew_form w k form = record {
  direct = λ n j at. elim (drew_cases w k n j at) [
    | inl here ↦ ap (λ x. x.direct) here.1 ∙ form.direct k.node k.i k.at
    | inr there ↦ form.direct n j there.1
  ];
}

pub memory_drew : (w : State) (h : List Item) (k : Drew w) → IsolationInvariant w h → MemoryFacts w.setup (drew_state w k).nodes (h ++ drew_items w k)
memory_drew w h k holds = record {
  recorded = drew_records w h k holds;
  form = drew_form w k holds.memory.form;
  apart = drew_apart w h k holds;
  serial = λ strict. drew_serial w h k holds strict;
}
