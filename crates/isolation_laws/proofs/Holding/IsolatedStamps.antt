-- Every outcome keeps stamps distinct and begins fresh. Of commits that are placed each is apart, since those that are drawn are.
use Rattle.isolation_laws.proofs.Names.{◌≡◌, ◌≢◌, ℕ, ◌<◌, List, [], ◌∷◌, ◌++◌, append_assoc, Some, None, ◌⊎◌, inl, inr}
use Rattle.isolation_laws.proofs.Names.{refl, sym, subst, Committed, Apart, NewStamps, Stamped, StartsAbove, Fresh}
use Rattle.isolation_laws.proofs.Names.{Item, in_push, in_old, AtEach-push, State, Begun, DrewCommit, AreNewDraws}
use Rattle.isolation_laws.proofs.Names.{AreBegun, ArePlaced, DrawnApart, IsolationInvariant, AnsweredBegin}
use Rattle.isolation_laws.proofs.Names.{answered_begin_items, Outcome, told_by_outcome}
use Rattle.history_book.specs.declared.item.Item.TheVariants as item
use Rattle.isolation_laws.proofs.OnceEach.{drawn_once, commit_above_start}
use Rattle.isolation_laws.proofs.Numbers.NumbersKept.{drew_start}
use Rattle.isolation_laws.proofs.Numbers.NumbersOfAll.{numbers_kept}
use Rattle.isolation_laws.proofs.Memory.MemoryKept.{memory_kept}
use Rattle.isolation_laws.proofs.Requests.RequestsOfBegins.{begin_held}
use Rattle.isolation_laws.proofs.Holding.NoStamps.{NoStamp, NoStamps, quiet_no_stamps}
use Rattle.isolation_laws.proofs.Holding.IsolatedItems.{Stamping, StampsNone, StampsPlaced, StampsBegin, stamping, each_on, begin_old, placed_old}
use Rattle.isolation_laws.proofs.Numbers.Placings.{PlacedPending, placed_drew}

-- ---- items without a stamp
no_new_stamp : (before : List Item) (x : Item) → NoStamp x → NewStamps before x
no_new_stamp before (item.Begin session start) none = absurd (cc)
no_new_stamp before (item.Placed start commit) none = absurd (cc)
no_new_stamp before _ none = tt

no_start : (before : List Item) (x : Item) → NoStamp x → StartsAbove before x
no_start before (item.Begin session start) none = absurd (cc)
no_start before _ none = tt

stamped_on : (h items : List Item) → NoStamps items → Stamped h → Stamped (h ++ items)
stamped_on h items none stamped = record {
  distinct = each_on NewStamps h items no_new_stamp none stamped.distinct;
  no_start_commits = λ s t u begun placed. stamped.no_start_commits s t u (begin_old h items s t none begun) (placed_old h items u t none placed);
  start_below_commit = λ t c placed. stamped.start_below_commit t c (placed_old h items t c none placed);
}

-- ---- a placed commit
-- no stamp of a transaction that is drawn twice
draws_differ : (r s n m term other t u c d : ℕ) → item.Draw r n term t (Some c) ≡ item.Draw s m other u (Some d) → t ≡ u
draws_differ r s n m term other t u c d same = cc

start_or_commit : (r s n m term other t u c : ℕ) → item.Draw r n term t None ≡ item.Draw s m other u (Some c) → ⊥
start_or_commit r s n m term other t u c same = cc

-- a stamp that was drawn as a commit is no start that was begun
commit_no_start : (h : List Item) (r s n term t c : ℕ) → AreNewDraws h → AreBegun h → DrewCommit h s n term t c → Begun h r c → ⊥
commit_no_start h r s n term t c news begun drew is =
    let start = begun.drawn r c is in
    start_or_commit r s start.0 n start.1 term c t c (drawn_once h r s start.0 n start.1 term c t None (Some c) news start.2 drew refl)

placed_is : (t u c d : ℕ) → item.Placed t c ≡ item.Placed u d → (t ≡ u) × (c ≡ d)
placed_is t u c d same = (cc, cc)

-- the transaction of a commit that was placed earlier is another, and so is its commit
placed_new : (w : State) (h : List Item) (p : PlacedPending w) → IsolationInvariant w h → (u d : ℕ) → Committed h u d → (u ≢ p.coming.start) × (d ≢ p.commit)
placed_new w h p holds u d placed =
    let drew = placed_drew w h p holds in
    let other : u ≢ p.coming.start = λ same. drew.1 d (subst (λ t. Committed h t d) same placed) in
    let was = holds.numbers.placed.drawn u d placed in
    (other, λ same. other (draws_differ was.0 p.coming.session was.1 drew.0.0 was.2 drew.0.1 u p.coming.start d p.commit (drawn_once h was.0 p.coming.session was.1 drew.0.0 was.2 drew.0.1 u p.coming.start (Some d) (Some p.commit) holds.numbers.new was.3 drew.0.2 same)))

stamped_placed_one : (w : State) (h : List Item) (p : PlacedPending w) → IsolationInvariant w h → Stamped (h ++ item.Placed p.coming.start p.commit ∷ [])
stamped_placed_one w h p holds =
    let stamped : Stamped h = holds.isolated.stamped in
    let drew = (placed_drew w h p holds).0 in
    let x : Item = item.Placed p.coming.start p.commit in
    let commits : (t c : ℕ) → Committed (h ++ x ∷ []) t c → Committed h t c ⊎ ((t ≡ p.coming.start) × (c ≡ p.commit)) = λ t c m. elim (in_push (item.Placed t c) x h m) [
      | inl old ↦ inl old
      | inr now ↦ inr (placed_is t p.coming.start c p.commit now)
    ] in
    record {
      distinct = AtEach-push NewStamps h x stamped.distinct (placed_new w h p holds);
      no_start_commits = λ s t u begun placed. let was : Begun h s t = in_old (item.Begin s t) x h (λ is. cc) begun in elim (commits u t placed) [
        | inl old ↦ stamped.no_start_commits s t u was old
        | inr now ↦ commit_no_start h s p.coming.session drew.0 drew.1 p.coming.start p.commit holds.numbers.new holds.numbers.begun drew.2 (subst (λ c. Begun h s c) now.1 was)
      ];
      start_below_commit = λ t c placed. elim (commits t c placed) [
        | inl old ↦ stamped.start_below_commit t c old
        | inr now ↦ subst (λ u. u < c) (sym now.0) (subst (λ d. p.coming.start < d) (sym now.1) (commit_above_start h p.coming.session drew.0 drew.1 p.coming.start p.commit holds.numbers.new drew.2))
      ];
    }

-- ---- a begin
begin_is : (r s t u : ℕ) → item.Begin r t ≡ item.Begin s u → t ≡ u
begin_is r s t u same = cc

-- no commit has a start that was drawn
start_uncommitted : (w : State) (h : List Item) (k : AnsweredBegin w) → IsolationInvariant w h → (u : ℕ) → Committed h u k.start → ⊥
start_uncommitted w h k holds u placed =
    let was = holds.numbers.placed.drawn u k.start placed in
    start_or_commit k.session was.0 k.node was.1 k.i.term was.2 k.start u k.start (drawn_once h k.session was.0 k.node was.1 k.i.term was.2 k.start u None (Some k.start) holds.numbers.new (drew_start w h k holds) was.3 refl)

stamped_begin : (w : State) (h : List Item) (k : AnsweredBegin w) → IsolationInvariant w h → Stamped (h ++ answered_begin_items w k)
stamped_begin w h k holds =
    let stamped : Stamped h = holds.isolated.stamped in
    let x : Item = item.Begin k.session k.start in
    let commits : (t c : ℕ) → Committed (h ++ x ∷ []) t c → Committed h t c = λ t c m. in_old (item.Placed t c) x h (λ is. cc) m in
    record {
      distinct = AtEach-push NewStamps h x stamped.distinct (λ r begun. holds.requests.starting.unbegun k.node k.session k.start r k.i k.at (begin_held w h k holds) begun);
      no_start_commits = λ s t u begun placed. elim (in_push (item.Begin s t) x h begun) [
        | inl old ↦ stamped.no_start_commits s t u old (commits u t placed)
        | inr now ↦ start_uncommitted w h k holds u (subst (λ c. Committed h u c) (begin_is s k.session t k.start now) (commits u t placed))
      ];
      start_below_commit = λ t c placed. stamped.start_below_commit t c (commits t c placed);
    }

fresh_begin : (w : State) (h : List Item) (k : AnsweredBegin w) → IsolationInvariant w h → Fresh (h ++ answered_begin_items w k)
fresh_begin w h k holds = AtEach-push StartsAbove h (item.Begin k.session k.start) holds.isolated.fresh (λ t c placed. holds.begins.fresh.drawn k.node k.session k.start t c k.i k.at (begin_held w h k holds) placed)

-- ---- every outcome
stamped_by : (w : State) (h items : List Item) → IsolationInvariant w h → Stamping w items → Stamped (h ++ items)
stamped_by w h items holds (StampsNone none) = stamped_on h items none holds.isolated.stamped
stamped_by w h items holds (StampsPlaced p rest quiet is) = subst (λ xs. Stamped (h ++ xs)) (sym is) (subst (λ xs. Stamped xs) (append_assoc h (item.Placed p.coming.start p.commit ∷ []) rest) (stamped_on (h ++ item.Placed p.coming.start p.commit ∷ []) rest (quiet_no_stamps rest quiet) (stamped_placed_one w h p holds)))
stamped_by w h items holds (StampsBegin k is) = subst (λ xs. Stamped (h ++ xs)) (sym is) (stamped_begin w h k holds)

pub stamped_kept : (w : State) (h : List Item) (o : Outcome w) → IsolationInvariant w h → Stamped (h ++ told_by_outcome w o)
stamped_kept w h o holds = stamped_by w h (told_by_outcome w o) holds (stamping w h o holds)

fresh_on : (h items : List Item) → NoStamps items → Fresh h → Fresh (h ++ items)
fresh_on h items none fresh = each_on StartsAbove h items no_start none fresh

fresh_by : (w : State) (h items : List Item) → IsolationInvariant w h → Stamping w items → Fresh (h ++ items)
fresh_by w h items holds (StampsNone none) = fresh_on h items none holds.isolated.fresh
fresh_by w h items holds (StampsPlaced p rest quiet is) = subst (λ xs. Fresh (h ++ xs)) (sym is) (subst (λ xs. Fresh xs) (append_assoc h (item.Placed p.coming.start p.commit ∷ []) rest) (fresh_on (h ++ item.Placed p.coming.start p.commit ∷ []) rest (quiet_no_stamps rest quiet) (AtEach-push StartsAbove h (item.Placed p.coming.start p.commit) holds.isolated.fresh tt)))
fresh_by w h items holds (StampsBegin k is) = subst (λ xs. Fresh (h ++ xs)) (sym is) (fresh_begin w h k holds)

pub fresh_kept : (w : State) (h : List Item) (o : Outcome w) → IsolationInvariant w h → Fresh (h ++ told_by_outcome w o)
fresh_kept w h o holds = fresh_by w h (told_by_outcome w o) holds (stamping w h o holds)

-- ---- apart
-- what is placed was drawn, and what is drawn is apart
pub apart_of_drawn : (h : List Item) → ArePlaced h → DrawnApart h → Apart h
apart_of_drawn h placed drawn = record {
  apart = λ t c u d k v x one two differ wrote other.
      let a = placed.drawn t c one in
      let b = placed.drawn u d two in
      drawn.apart a.0 b.0 a.1 b.1 a.2 b.2 t c u d k v x a.3 b.3 differ wrote other;
}

pub apart_kept : (w : State) (h : List Item) (o : Outcome w) → IsolationInvariant w h → Apart (h ++ told_by_outcome w o)
apart_kept w h o holds = apart_of_drawn (h ++ told_by_outcome w o) (numbers_kept w h o holds).placed (memory_kept w h o holds).apart
