-- For cause_laws too.
-- Marks stay in the commit table, and rows that have a shadow of a placed commit keep it.
use Rattle.isolation_laws.proofs.Names.{◌≡◌, ◌≢◌, ℕ, Bool, true, false, cond, if◌then◌else◌, IsTrue, List, [], ◌∷◌}
use Rattle.isolation_laws.proofs.Names.{Option, Some, None, ◌⊎◌, inl, inr, refl, sym, ◌∙◌, ap, subst, arith, nat_cmp}
use Rattle.isolation_laws.proofs.Names.{eq_by_cmp, get-insert, get-remove, nat_cmp_total, cases_eq, nat_tests}
use Rattle.isolation_laws.proofs.Names.{same_Some, none-some, Mark, CommittedMark, InvalidMark, Committed, Stamped}
use Rattle.isolation_laws.proofs.Names.{Item, Row, looked, put_row, with_shadow, without_bare, shadowed, Pairs, mark_of}
use Rattle.isolation_laws.proofs.Names.{put_pair, put_over, removed_from, looked-put_other, looked-shadow_other}
use Rattle.isolation_laws.proofs.Names.{looked-shadow_same, looked-without_other, without_bare_shadowed, Ask}
use Rattle.isolation_laws.proofs.Names.{SessionState, has_transaction, finish_asks, undo_asks, first_ask, Sweeping}
use Rattle.isolation_laws.proofs.Names.{SweepPoint, Marking, Listing, Left, Undecided, sweep_ask, sweep_ask_at, State}
use Rattle.isolation_laws.proofs.Names.{rows_after, pairs_after, Marked, HasShadow, IsSweptAt, IsolationInvariant}
use Rattle.isolation_laws.proofs.Names.{MayHaveMarked, CompletedOne}
use Rattle.system_parts.specs.declared.asks.Ask.TheVariants as ask
use Rattle.system_parts.specs.declared.session.State.TheVariants as phase
use Rattle.system_parts.specs.Sweep.{Table}
use Rattle.isolation_laws.proofs.OnceEach.{one_commit}

-- ---- the table
abbrev pub MarksStay : Pairs → Pairs → Type 0
MarksStay old new = (u : ℕ) → Marked old u → Marked new u

pub marks_same : (pairs : Pairs) → MarksStay pairs pairs
marks_same pairs u marked = marked

-- what a look finds of another transaction
eq_apart : (u t : ℕ) → u ≢ t → eq_by_cmp nat_cmp u t ≡ false
eq_apart u t other = grind (arith, nat_tests, other)

mark_inserted : (pairs : Pairs) (t u : ℕ) (mark : Mark) → u ≢ t → mark_of (put_over pairs t mark None) u ≡ mark_of pairs u
mark_inserted pairs t u mark other = get-insert nat_cmp_total pairs t mark u ∙ ap (λ b. cond b (Some mark) (mark_of pairs u)) (eq_apart u t other)

mark_removed : (pairs : Pairs) (t u c : ℕ) → u ≢ t → mark_of (removed_from pairs t (Some (CommittedMark c))) u ≡ mark_of pairs u
mark_removed pairs t u c other = get-remove nat_cmp_total pairs t u ∙ ap (λ b. cond b None (mark_of pairs u)) (eq_apart u t other)

marks_over : (pairs : Pairs) (t u : ℕ) (mark : Mark) (there : Option Mark) → mark_of pairs t ≡ there → Marked pairs u → Marked (put_over pairs t mark there) u
marks_over pairs t u mark (Some found) is marked = marked
marks_over pairs t u mark None is marked = elim (cases_eq u t) [
  | inl same ↦ absurd (none-some InvalidMark (sym is ∙ (ap (mark_of pairs) (sym same) ∙ marked)))
  | inr other ↦ mark_inserted pairs t u mark other ∙ marked
]

pub marks_put : (pairs : Pairs) (t : ℕ) (mark : Mark) → MarksStay pairs (put_pair pairs t mark)
marks_put pairs t mark u marked = marks_over pairs t u mark (mark_of pairs t) refl marked

pub committed_not_invalid : (c : ℕ) → Some (CommittedMark c) ≡ Some InvalidMark → ⊥
committed_not_invalid c same = cc

marks_removed : (pairs : Pairs) (t u : ℕ) (there : Option Mark) → mark_of pairs t ≡ there → Marked pairs u → Marked (removed_from pairs t there) u
marks_removed pairs t u None is marked = marked
marks_removed pairs t u (Some InvalidMark) is marked = marked
marks_removed pairs t u (Some (CommittedMark c)) is marked = elim (cases_eq u t) [
  | inl same ↦ absurd (committed_not_invalid c (sym is ∙ (ap (mark_of pairs) (sym same) ∙ marked)))
  | inr other ↦ mark_removed pairs t u c other ∙ marked
]

pub marks_after : (asked : Ask) (pairs : Pairs) → MarksStay pairs (pairs_after asked pairs)
marks_after (ask.Mark txn) pairs u marked = marks_put pairs txn InvalidMark u marked
marks_after (ask.Remove txn) pairs u marked = marks_removed pairs txn u (mark_of pairs txn) refl marked
marks_after _ pairs u marked = marked

pub marks_may : (old new : Pairs) → MayHaveMarked old new → MarksStay old new
marks_may old new (inl same) u marked = subst (λ (p : Pairs). Marked p u) (sym same) marked
marks_may old new (inr (t, is)) u marked = subst (λ (p : Pairs). Marked p u) (sym is) (marks_put old t InvalidMark u marked)

pub marks_if : (old new : Pairs) (applied : Bool) → MarksStay old new → MarksStay old (if applied then new else old)
marks_if old new true stay = stay
marks_if old new false stay = λ u marked. marked

-- ---- the rows
abbrev pub ShadowsStay : List Item → List Row → List Row → Type 0
ShadowsStay h rows new = (k t c : ℕ) → Committed h t c → HasShadow rows k t c → HasShadow new k t c

pub shadows_same : (h : List Item) (rows : List Row) → ShadowsStay h rows rows
shadows_same h rows k t c placed has = has

pub shadows_if : (h : List Item) (rows new : List Row) (applied : Bool) → ShadowsStay h rows new → ShadowsStay h rows (if applied then new else rows)
shadows_if h rows new true stay = stay
shadows_if h rows new false stay = shadows_same h rows

looked_so : (rows new : List Row) (k t c : ℕ) → looked new k t ≡ looked rows k t → HasShadow rows k t c → HasShadow new k t c
looked_so rows new k t c same (cell, there, shadow) = (cell, same ∙ there, shadow)

-- a write of a transaction that is not placed
pub shadows_put : (h : List Item) (rows : List Row) (key start : ℕ) (value : List ℕ) → ((c : ℕ) → Committed h start c → ⊥) → ShadowsStay h rows (put_row rows key start value)
shadows_put h rows key start value unplaced k t c placed has =
    looked_so rows (put_row rows key start value) k t c (looked-put_other rows key start value k t (λ keys same. unplaced c (subst (λ u. Committed h u c) (sym same) placed))) has

-- the row of the key and the version, or another
pub same_or_other : (key version k t : ℕ) → ((key ≡ k) × (version ≡ t)) ⊎ (key ≡ k → version ≡ t → ⊥)
same_or_other key version k t = elim (cases_eq key k) [
  | inl keys ↦ elim (cases_eq version t) [ inl versions ↦ inl (keys, versions) | inr other ↦ inr (λ _ same. other same) ]
  | inr other ↦ inr (λ same _. other same)
]

set_here : (h : List Item) (rows : List Row) (k t c d : ℕ) → Stamped h → Committed h t d → Committed h t c → HasShadow rows k t c → HasShadow (with_shadow rows k t d) k t c
set_here h rows k t c d stamped now placed (cell, there, shadow) = (record cell { shadow = Some d }, looked-shadow_same rows k t d ∙ ap (shadowed d) there, ap Some (one_commit h t d c stamped now placed))

pub shadows_set : (h : List Item) (rows : List Row) (key version commit : ℕ) → Stamped h → Committed h version commit → ShadowsStay h rows (with_shadow rows key version commit)
shadows_set h rows key version commit stamped now k t c placed has = elim (same_or_other key version k t) [
  | inl (keys, versions) ↦
      subst (λ x. HasShadow (with_shadow rows x version commit) k t c) (sym keys)
      (subst (λ x. HasShadow (with_shadow rows k x commit) k t c) (sym versions)
      (set_here h rows k t c commit stamped (subst (λ x. Committed h x commit) versions now) placed has))
  | inr other ↦ looked_so rows (with_shadow rows key version commit) k t c (looked-shadow_other rows key version commit k t other) has
]

pub shadows_erased : (h : List Item) (rows : List Row) (key version : ℕ) → ShadowsStay h rows (without_bare rows key version)
shadows_erased h rows key version k t c placed (cell, there, shadow) = elim (same_or_other key version k t) [
  | inl (keys, versions) ↦
      let same : without_bare rows key version ≡ rows = without_bare_shadowed rows key version c cell (ap (λ x. looked rows x version) keys ∙ (ap (λ x. looked rows k x) versions ∙ there)) shadow in
      (cell, ap (λ (rs : List Row). looked rs k t) same ∙ there, shadow)
  | inr other ↦ looked_so rows (without_bare rows key version) k t c (looked-without_other rows key version k t other) (cell, there, shadow)
]

-- a shadow that is asked for is that of a placed commit
abbrev pub FillsPlaced : List Item → Ask → Type 0
FillsPlaced h asked = (k t c : ℕ) → asked ≡ ask.Shadow k t c → Committed h t c

pub shadows_after : (h : List Item) (rows : List Row) (asked : Ask) → Stamped h → FillsPlaced h asked → ShadowsStay h rows (rows_after asked rows)
shadows_after h rows (ask.Shadow key txn commit) stamped fills = shadows_set h rows key txn commit stamped (fills key txn commit refl)
shadows_after h rows (ask.Erase key txn) stamped fills = shadows_erased h rows key txn
shadows_after h rows _ stamped fills = shadows_same h rows

-- ---- what completions and sweeps ask
shadow_is : (k t c j u d : ℕ) → ask.Shadow k t c ≡ ask.Shadow j u d → (t ≡ u) × (c ≡ d)
shadow_is k t c j u d same = (cc, cc)

remove_no_shadow : (t k u d : ℕ) → ask.Remove t ≡ ask.Shadow k u d → ⊥
remove_no_shadow t k u d same = cc

erase_no_shadow : (j t k u d : ℕ) → ask.Erase j t ≡ ask.Shadow k u d → ⊥
erase_no_shadow j t k u d same = cc

finish_fills : (h : List Item) (t c : ℕ) (left : List ℕ) (asked : Ask) → Committed h t c → first_ask (finish_asks t c left) ≡ Some asked → FillsPlaced h asked
finish_fills h t c [] asked placed first k u d is = absurd (remove_no_shadow t k u d (same_Some (ask.Remove t) asked first ∙ is))
finish_fills h t c (key ∷ left) asked placed first k u d is =
    let same = shadow_is key t c k u d (same_Some (ask.Shadow key t c) asked first ∙ is) in
    subst (λ x. Committed h x d) same.0 (subst (λ y. Committed h t y) same.1 placed)

undo_fills : (h : List Item) (t : ℕ) (left : List ℕ) (asked : Ask) → first_ask (undo_asks t left) ≡ Some asked → FillsPlaced h asked
undo_fills h t [] asked first k u d is = absurd (none-some asked first)
undo_fills h t (key ∷ left) asked first k u d is = absurd (erase_no_shadow key t k u d (same_Some (ask.Erase key t) asked first ∙ is))

completed_fills_by : (w : State) (h : List Item) (k : CompletedOne w) (undo : Bool) → IsolationInvariant w h → k.c.entry.state ≡ phase.Completing undo → FillsPlaced h k.asked
completed_fills_by w h k false holds is =
    let finish = holds.under_way.finishing.finish k.session k.c (k.asked ∷ k.asks) k.client_at is k.under_way in
    finish_fills h finish.0 finish.1 finish.4.left k.asked finish.4.placed (ap first_ask (sym finish.4.shape))
completed_fills_by w h k true holds is =
    let begun = holds.requests.have_begun.begun k.session k.c k.client_at (subst (λ (s : SessionState). IsTrue (has_transaction s)) (sym is) refl) in
    let undo = holds.under_way.undoing.undo k.session begun.0 k.c (k.asked ∷ k.asks) k.client_at is begun.1 k.under_way in
    undo_fills h begun.0 undo.left k.asked (ap first_ask (sym undo.shape))

pub completed_fills : (w : State) (h : List Item) (k : CompletedOne w) → IsolationInvariant w h → FillsPlaced h k.asked
completed_fills w h k holds = completed_fills_by w h k k.undo holds k.completing

get_no_shadow : (t k u d : ℕ) (asked : Ask) → Some (ask.Get t) ≡ Some asked → asked ≡ ask.Shadow k u d → ⊥
get_no_shadow t k u d asked first is = cc

mark_no_shadow : (t k u d : ℕ) (asked : Ask) → Some (ask.Mark t) ≡ Some asked → asked ≡ ask.Shadow k u d → ⊥
mark_no_shadow t k u d asked first is = cc

keys_no_shadow : (t k u d : ℕ) (asked : Ask) → Some (ask.Keys t) ≡ Some asked → asked ≡ ask.Shadow k u d → ⊥
keys_no_shadow t k u d asked first is = cc

swept_fills_at : (w : State) (h : List Item) (t : ℕ) (at : SweepPoint) (asked : Ask) → IsSweptAt w.rows w.pairs h t at → sweep_ask_at t at ≡ Some asked → FillsPlaced h asked
swept_fills_at w h t Table asked knows first = λ k u d is. absurd (get_no_shadow t k u d asked first is)
swept_fills_at w h t Marking asked knows first = λ k u d is. absurd (mark_no_shadow t k u d asked first is)
swept_fills_at w h t (Listing found) asked knows first = λ k u d is. absurd (keys_no_shadow t k u d asked first is)
swept_fills_at w h t (Left asks) asked (inl (c, finish)) first = finish_fills h t c finish.left asked finish.placed (ap first_ask (sym finish.shape) ∙ first)
swept_fills_at w h t (Left asks) asked (inr (left, shape, marked, listed)) first = undo_fills h t left asked (ap first_ask (sym shape) ∙ first)
swept_fills_at w h t Undecided asked knows first = λ k u d is. absurd (none-some asked first)

pub swept_fills : (w : State) (h : List Item) (s : Sweeping) (asked : Ask) → IsolationInvariant w h → w.sweep ≡ Some s → sweep_ask s ≡ Some asked → FillsPlaced h asked
swept_fills w h s asked holds is first = swept_fills_at w h s.txn s.point asked (holds.under_way.sweeping.knows s is) first
