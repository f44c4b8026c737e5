-- Writers that take turns, after one more item, and what they say of commits.
use Rattle.si_judge.proofs.Names.{vec_len, ◌≡◌, ◌<◌, ◌+◌, ◌==◌, ◌⊎◌, ℕ, true, List, Option, Some, None, MatchOption}
use Rattle.si_judge.proofs.Names.{is_some, length, get_or, slice_get, inl, inr, refl, sym, ap, subst, ◌∙◌, arith}
use Rattle.si_judge.proofs.Names.{cases_eq, cases_lt, eqb-true, get_or-set_same, get_or-set_other, same_Some}
use Rattle.si_judge.proofs.Names.{slice_get_within, set, Wrote, Item, Placed, Write, OverlapsPlaced, Overlapping}
use Rattle.si_judge.proofs.Names.{writes, Passes, any_writes, and_parts, both_at, Commit, Commits, commit_of, commit_at}
use Rattle.si_judge.proofs.Names.{HasCommits, IsWriter, AreApart, TakeTurns, IsTold, IsNext, IsTurn, writer_at}
use Rattle.isolation_rules.specs.declared.verdict.Rule.TheVariants as rule
use Rattle.si_judge.specs.declared.turns.Writer.{Writer}
use Rattle.si_judge.specs.declared.turns.Turns.{Turns}
use Rattle.si_judge.specs.Follows.{MayFollow, IsUpTo}
use Rattle.si_judge.proofs.OverlapIndexLemmas.{any_at}

pub turns_none : (h : List Item) (commits : Commits) (last : List (Option Writer)) → TakeTurns h 0 commits last
turns_none h commits last = record {
  upto = λ k t commit w. let less = w.within in absurd (omega (arith, less));
  apart = record { at = λ k t u c d one two. let less = one.within in absurd (omega (arith, less)) };
}

-- a writer up to the next place is one below, or the item there
split : (h : List Item) (n : ℕ) (x : Item) (commits : Commits) (k t : ℕ) (commit : Commit) → slice_get h n ≡ Some x → IsWriter h (n + 1) commits k t commit → IsWriter h n commits k t commit ⊎ (writes t k x ≡ true)
split h n x commits k t commit here w = elim (cases_lt w.place n) [
  | inl before ↦ inl (record { place = w.place; item = w.item; within = before; there = w.there; wrote = w.wrote; committed = w.committed })
  | inr more ↦
      let less = w.within in
      let same : w.place ≡ n = omega (arith, less, more) in
      let item : w.item ≡ x = same_Some _ _ (sym w.there ∙ ap (λ i. slice_get h i) same ∙ here) in
      inr (subst (λ (y : Item). writes t k y ≡ true) item w.wrote)
]

-- an item that writes for no committed transaction
turns_stay : (h : List Item) (n : ℕ) (x : Item) (commits : Commits) (last : List (Option Writer)) → slice_get h n ≡ Some x → ((k t : ℕ) (commit : Commit) → writes t k x ≡ true → commit_of commits t ≡ Some commit → ⊥) → TakeTurns h n commits last → TakeTurns h (n + 1) commits last
turns_stay h n x commits last here none old = record {
  upto = λ k t commit w. old.upto k t commit (below k t commit w);
  apart = record { at = λ k t u c d one two. old.apart.at k t u c d (below k t c one) (below k u d two) };
}
  where
    below : (k t : ℕ) (commit : Commit) → IsWriter h (n + 1) commits k t commit → IsWriter h n commits k t commit
    below k t commit w = elim (split h n x commits k t commit here w) [ inl before ↦ before | inr now ↦ absurd (none k t commit now w.committed) ]

-- what is up to the last writer is up to the next
upto_next : (o : Option Writer) (w : Writer) (t c : ℕ) → MayFollow o w → IsUpTo t c o → IsUpTo t c (Some w)
upto_next None w t c follows upto = absurd upto
upto_next (Some v) w t c follows upto = elim follows.1 [
  | inl later ↦ elim upto.1 [
    | inl same ↦ let at = same.1 in (follows.0, inr (omega (arith, at, later)))
    | inr less ↦ let low = upto.0 in (follows.0, inr (omega (arith, less, low, later)))
  ]
  | inr one ↦ elim upto.1 [
    | inl same ↦ (follows.0, inl (same.0 ∙ one.0, same.1 ∙ one.1))
    | inr less ↦ let at = one.0 in (follows.0, inr (omega (arith, less, at)))
  ]
]

starts_after : (o : Option Writer) (w : Writer) (t c : ℕ) → MayFollow o w → IsUpTo t c o → (t ≡ w.start) ⊎ (c < w.start)
starts_after o w t c follows upto = let next = upto_next o w t c follows upto in elim next.1 [ inl same ↦ inl same.0 | inr less ↦ inr less ]

follows_low : (o : Option Writer) (w : Writer) → MayFollow o w → w.start < w.commit
follows_low None w follows = follows
follows_low (Some v) w follows = follows.0

written_here : (session t k : ℕ) (value : List ℕ) (u l : ℕ) → writes u l (Write session t k value) ≡ true → (u ≡ t) × (l ≡ k)
written_here session t k value u l e = let parts = and_parts (t == u) (k == l) e in (sym (eqb-true t u parts.0), sym (eqb-true k l parts.1))

-- a write of a committed transaction
turns_entered : (h : List Item) (n session t k : ℕ) (value : List ℕ) (commits : Commits) (commit : Commit) (old new : List (Option Writer)) → slice_get h n ≡ Some (Write session t k value) → commit_of commits t ≡ Some commit → k < length old → new ≡ set old k (Some (writer_at t commit.stamp)) → MayFollow (get_or old k None) (writer_at t commit.stamp) → TakeTurns h n commits old → TakeTurns h (n + 1) commits new
turns_entered h n session t k value commits commit old new here there inside is follows was = record {
  upto = λ l u d w. subst (λ (last : List (Option Writer)). IsUpTo u d.stamp (get_or last l None)) (sym is) (upto l u d w);
  apart = record {
    at = λ l u v c d one two. elim (split h n x commits l u c here one) [
      | inl first ↦ elim (split h n x commits l v d here two) [
        | inl second ↦ was.apart.at l u v c d first second
        | inr now ↦
            let at = written_here session t k value v l now in
            elim (after l u c first at.1) [ inl same ↦ inl (same ∙ sym at.0) | inr less ↦ inr (inl (subst (λ (m : ℕ). c.stamp < m) (sym at.0) less)) ]
      ]
      | inr now ↦
          let at = written_here session t k value u l now in
          elim (split h n x commits l v d here two) [
            | inl second ↦ elim (after l v d second at.1) [ inl same ↦ inl (at.0 ∙ sym same) | inr less ↦ inr (inr (subst (λ (m : ℕ). d.stamp < m) (sym at.0) less)) ]
            | inr also ↦ inl (at.0 ∙ sym (written_here session t k value v l also).0)
          ]
    ];
  };
}
  where
    x : Item
    x = Write session t k value

    w : Writer
    w = writer_at t commit.stamp

    after : (l u : ℕ) (d : Commit) → IsWriter h n commits l u d → l ≡ k → (u ≡ t) ⊎ (d.stamp < t)
    after l u d writer same = starts_after (get_or old k None) w u d.stamp follows (subst (λ (m : ℕ). IsUpTo u d.stamp (get_or old m None)) same (was.upto l u d writer))

    at_key : (u c : ℕ) → IsUpTo u c (Some w) → (l : ℕ) → l ≡ k → IsUpTo u c (get_or (set old k (Some w)) l None)
    at_key u c up l same = subst (λ (m : ℕ). IsUpTo u c (get_or (set old k (Some w)) m None)) (sym same) (subst (λ (o : Option Writer). IsUpTo u c o) (sym (get_or-set_same old k (Some w) None inside)) up)

    upto : (l u : ℕ) (d : Commit) → IsWriter h (n + 1) commits l u d → IsUpTo u d.stamp (get_or (set old k (Some w)) l None)
    upto l u d writer = elim (split h n x commits l u d here writer) [
      | inl before ↦ elim (cases_eq l k) [
        | inl same ↦ at_key u d.stamp (upto_next (get_or old k None) w u d.stamp follows (subst (λ (m : ℕ). IsUpTo u d.stamp (get_or old m None)) same (was.upto l u d before))) l same
        | inr other ↦ subst (λ (o : Option Writer). IsUpTo u d.stamp o) (sym (get_or-set_other old k l (Some w) None other)) (was.upto l u d before)
      ]
      | inr now ↦
          let at = written_here session t k value u l now in
          let one : commit ≡ d = same_Some _ _ (sym there ∙ ap (λ m. commit_of commits m) (sym at.0) ∙ writer.committed) in
          at_key u d.stamp (follows_low (get_or old k None) w follows, inl (at.0, ap (λ (c : Commit). c.stamp) (sym one))) l at.1
    ]

turn_by : (h : List Item) (n session t k : ℕ) (value : List ℕ) (commits : Commits) (old new : Turns) (o : Option Commit) → commit_of commits t ≡ o → slice_get h n ≡ Some (Write session t k value) → MatchOption o (new ≡ old) (λ commit. IsNext old new k (writer_at t commit.stamp)) → (old.apart ≡ true → TakeTurns h n commits old.last.items) → new.apart ≡ true → TakeTurns h (n + 1) commits new.last.items
turn_by h n session t k value commits old new None none here turn was on =
    let before = was (sym (ap (λ (s : Turns). s.apart) turn) ∙ on) in
    let stay = turns_stay h n (Write session t k value) commits old.last.items here (λ l u commit e found. let at = written_here session t k value u l e in let clash : None ≡ Some commit = sym none ∙ ap (λ m. commit_of commits m) (sym at.0) ∙ found in absurd (cc)) before in
    subst (λ (s : Turns). TakeTurns h (n + 1) commits s.last.items) (sym turn) stay
turn_by h n session t k value commits old new (Some commit) there here turn was on =
    let follows = turn.follows on in
    turns_entered h n session t k value commits commit old.last.items new.last.items here there turn.within turn.last follows.1 (was follows.0)

turn_on : (h : List Item) (n : ℕ) (x : Item) (commits : Commits) (old new : Turns) → slice_get h n ≡ Some x → IsTurn commits old new x → (old.apart ≡ true → TakeTurns h n commits old.last.items) → new.apart ≡ true → TakeTurns h (n + 1) commits new.last.items
turn_on h n (Write session t k value) commits old new here turn was on = turn_by h n session t k value commits old new (commit_of commits t) refl here turn was on
turn_on h n x commits old new here turn was on =
    let stay = turns_stay h n x commits old.last.items here (λ l u commit e found. absurd (cc)) (was (sym (ap (λ (s : Turns). s.apart) turn) ∙ on)) in
    subst (λ (s : Turns). TakeTurns h (n + 1) commits s.last.items) (sym turn) stay

pub turn_more : (h : List Item) (n : ℕ) (x : Item) (commits : Commits) (old new : Turns) → slice_get h n ≡ Some x → vec_len new.last ≡ 4096 → IsTurn commits old new x → IsTold h n commits old → IsTold h (n + 1) commits new
turn_more h n x commits old new here each turn was = record { each = each; kept = turn_on h n x commits old new here turn was.kept }

-- ---- commits whose writers are apart
writer_of : (h : List Item) (commits : Commits) → HasCommits h (length h) commits → (i t c k : ℕ) (v : List ℕ) → slice_get h i ≡ Some (Placed t c) → Wrote h t k v → IsWriter h (length h) commits k t (commit_at c i)
writer_of h commits has i t c k v placed wrote =
    let found = any_at h t k (any_writes h t k ∙ ap is_some wrote) in
    record { place = found.place; item = found.item; within = slice_get_within h found.place found.item found.there; there = found.there; wrote = found.writes; committed = has.at i t c (slice_get_within h i (Placed t c) placed) placed }

placed_apart : (h : List Item) (commits : Commits) → HasCommits h (length h) commits → AreApart h (length h) commits → (i j t c : ℕ) (y : Item) → slice_get h i ≡ Some (Placed t c) → slice_get h j ≡ Some y → OverlapsPlaced h t c y → ⊥
placed_apart h commits has apart i j t c (Placed u d) ex ey o =
    let k = o.3.key in
    let one = writer_of h commits has i t c k o.3.first.0 ex o.3.first.1 in
    let two = writer_of h commits has j u d k o.3.second.0 ey o.3.second.1 in
    let high = o.1 in
    let low = o.2 in
    elim (apart.at k t u (commit_at c i) (commit_at d j) one two) [
      | inl same ↦ o.0 same
      | inr far ↦ elim far [
        | inl less ↦ let below : c < u = less in absurd (omega (arith, below, high))
        | inr less ↦ let below : d < t = less in absurd (omega (arith, below, low))
      ]
    ]
placed_apart h commits has apart i j t c _ ex ey o = o

items_apart : (h : List Item) (commits : Commits) → HasCommits h (length h) commits → AreApart h (length h) commits → (i j : ℕ) (x y : Item) → slice_get h i ≡ Some x → slice_get h j ≡ Some y → Overlapping h x y → ⊥
items_apart h commits has apart i j (Placed t c) y ex ey o = placed_apart h commits has apart i j t c y ex ey o
items_apart h commits has apart i j _ y ex ey o = o

pub told_apart : (h : List Item) (commits : Commits) (turns : Turns) → HasCommits h (length h) commits → IsTold h (length h) commits turns → turns.apart ≡ true → (i : ℕ) → Passes rule.Apart h i
told_apart h commits turns has told on i = λ j broken.
    let found = both_at h i j (λ x y. Overlapping h x y) broken.1 in
    items_apart h commits has (told.kept on).apart i j found.0 found.1 found.2 found.3 found.4
