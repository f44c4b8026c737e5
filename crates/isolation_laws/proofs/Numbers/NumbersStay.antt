-- Stamps, terms and leases where nothing that they read changes: instances with the same numbers or fewer of them, a later
-- greatest reading, and quiet items.
use Rattle.isolation_laws.proofs.Names.{◌≡◌, ℕ, ◌≤◌, List, [], ◌∷◌, ◌++◌, append_assoc, Option, Some, None, inl, inr}
use Rattle.isolation_laws.proofs.Names.{refl, sym, ◌∙◌, subst, arith, slice_set, append-nil, All-head, All-tail, AtEach}
use Rattle.isolation_laws.proofs.Names.{Item, Begin, Draw, in_front, AtEach-push, SetupNumbers, MasterRecord}
use Rattle.isolation_laws.proofs.Names.{InstanceEntry, InstanceAt, Begun, DrewStart, DrewCommit, Quiet, AllQuiet}
use Rattle.isolation_laws.proofs.Names.{AreRanges, AreLeases, AreDrawn, IsNewDraw, AreNewDraws, AreBegun, ArePlaced}
use Rattle.isolation_laws.proofs.Names.{NumberFacts, instance_changed, instance_ended, AlikeNodes}
use Rattle.isolation_laws.proofs.Pushed.{not_true, old_begin, old_draw, old_write, old_read, old_placed}

-- ---- instances with the same numbers
pub record IsNumberedAs (i j : InstanceEntry) : Type 0 where
  pub term : j.term ≡ i.term
  pub epoch : j.epoch ≡ i.epoch
  pub last : j.last ≡ i.last
  pub ceiling : j.ceiling ≡ i.ceiling
  pub until : j.until ≡ i.until

pub record SameNumbers (old new : List (Option InstanceEntry)) : Type 0 where
  pub each : (n : ℕ) (j : InstanceEntry) → InstanceAt new n j → (i : InstanceEntry) × InstanceAt old n i × IsNumberedAs i j

pub numbered_same : (nodes : List (Option InstanceEntry)) → SameNumbers nodes nodes
numbered_same nodes = record { each = λ n j at. (j, at, record { term = refl; epoch = refl; last = refl; ceiling = refl; until = refl }) }

pub numbered_set : (nodes : List (Option InstanceEntry)) (n : ℕ) (i j : InstanceEntry) → InstanceAt nodes n i → IsNumberedAs i j → SameNumbers nodes (slice_set nodes n (Some j))
numbered_set nodes n i j at same = record {
  each = λ m x there. elim (instance_changed nodes n m j x there) [
    | inl here ↦ (i, subst (λ q. InstanceAt nodes q i) (sym here.0) at, subst (λ (y : InstanceEntry). IsNumberedAs i y) (sym here.1) same)
    | inr other ↦ (x, other.1, record { term = refl; epoch = refl; last = refl; ceiling = refl; until = refl })
  ];
}

pub numbered_ended : (nodes : List (Option InstanceEntry)) (n : ℕ) → SameNumbers nodes (slice_set nodes n None)
numbered_ended nodes n = record {
  each = λ m x there. (x, (instance_ended nodes n m x there).1, record { term = refl; epoch = refl; last = refl; ceiling = refl; until = refl });
}

pub numbered_alike : (old new : List (Option InstanceEntry)) → AlikeNodes old new → SameNumbers old new
numbered_alike old new alike = record {
  each = λ n j at. let was = alike.each n j at in (was.0, was.1, record { term = was.2.term; epoch = was.2.epoch; last = was.2.last; ceiling = was.2.ceiling; until = was.2.until });
}

-- ---- the facts over such instances
pub ranges_same : (old new : List (Option InstanceEntry)) (master : MasterRecord) → SameNumbers old new → AreRanges old master → AreRanges new master
ranges_same old new master same ranges = record {
  above = λ n j at. let was = same.each n j at in omega (arith, ranges.above n was.0 was.1, was.2.epoch, was.2.last);
  within = λ n j at. let was = same.each n j at in omega (arith, ranges.within n was.0 was.1, was.2.last, was.2.ceiling);
  covered = λ n j at. let was = same.each n j at in omega (arith, ranges.covered n was.0 was.1, was.2.ceiling);
  counted = λ n j at. let was = same.each n j at in (omega (arith, (ranges.counted n was.0 was.1).0, was.2.term), omega (arith, (ranges.counted n was.0 was.1).1, was.2.term));
  differ = λ n m j g other at there. let a = same.each n j at in let b = same.each m g there in λ is. ranges.differ n m a.0 b.0 other a.1 b.1 (sym a.2.term ∙ (is ∙ b.2.term));
  apart = λ n m j g at there less. let a = same.each n j at in let b = same.each m g there in
      omega (arith, ranges.apart n m a.0 b.0 a.1 b.1 (omega (arith, less, a.2.term, b.2.term)), a.2.ceiling, b.2.epoch);
}

pub leases_same : (setup : SetupNumbers) (seen later : ℕ) (old new : List (Option InstanceEntry)) (master : MasterRecord) → SameNumbers old new → seen ≤ later → AreLeases setup seen old master → AreLeases setup later new master
leases_same setup seen later old new master same up leases = record {
  holder = λ n j at. let was = same.each n j at in leases.holder n was.0 was.1;
  present = λ n j at is. let was = same.each n j at in omega (arith, leases.present n was.0 was.1 (sym was.2.term ∙ is), was.2.until);
  replaced = λ n j at less. let was = same.each n j at in omega (arith, leases.replaced n was.0 was.1 (omega (arith, less, was.2.term)), was.2.until, up);
}

pub drawn_same : (old new : List (Option InstanceEntry)) (master : MasterRecord) (h : List Item) → SameNumbers old new → AreDrawn old master h → AreDrawn new master h
drawn_same old new master h same drawn = record {
  counted = drawn.counted;
  earlier = λ s m term t n commit j drew at less. let was = same.each n j at in
      omega (arith, drawn.earlier s m term t n commit was.0 drew was.1 (omega (arith, less, was.2.term)), was.2.epoch);
  same = λ s m term t n commit j drew at is. let was = same.each n j at in
      let old_one = drawn.same s m term t n commit was.0 drew was.1 (is ∙ was.2.term) in
      (omega (arith, old_one.0, was.2.epoch), omega (arith, old_one.1, was.2.last));
  later = λ s m term t n commit j drew at less. let was = same.each n j at in
      let old_one = drawn.later s m term t n commit was.0 drew was.1 (omega (arith, less, was.2.term)) in
      (omega (arith, old_one.0, was.2.ceiling), omega (arith, old_one.1, was.2.ceiling));
}

-- ---- quiet items
pub AtEach-quiet : (P : List Item → Item → Type 0) (h items : List Item) → ((before : List Item) (x : Item) → Quiet x → P before x) → AllQuiet items → AtEach P h → AtEach P (h ++ items)
AtEach-quiet P h [] all quiet each = subst (λ xs. AtEach P xs) (sym (append-nil h)) each
AtEach-quiet P h (x ∷ items) all quiet each =
    let one : AtEach P (h ++ x ∷ []) = AtEach-push P h x each (all h x (All-head Quiet x items quiet)) in
    subst (λ xs. AtEach P xs) (append_assoc h (x ∷ []) items) (AtEach-quiet P (h ++ x ∷ []) items all (All-tail Quiet x items quiet) one)

pub drawn_quiet : (nodes : List (Option InstanceEntry)) (master : MasterRecord) (h items : List Item) → AllQuiet items → AreDrawn nodes master h → AreDrawn nodes master (h ++ items)
drawn_quiet nodes master h items quiet drawn = record {
  counted = λ s n term t commit drew. drawn.counted s n term t commit (old_draw h items s n term t commit quiet drew);
  earlier = λ s m term t n commit i drew. drawn.earlier s m term t n commit i (old_draw h items s m term t commit quiet drew);
  same = λ s m term t n commit i drew. drawn.same s m term t n commit i (old_draw h items s m term t commit quiet drew);
  later = λ s m term t n commit i drew. drawn.later s m term t n commit i (old_draw h items s m term t commit quiet drew);
}

no_new_draw : (before : List Item) (x : Item) → Quiet x → IsNewDraw before x
no_new_draw before (Draw s n term t commit) quiet = absurd (not_true quiet)
no_new_draw before _ quiet = tt

pub new_quiet : (h items : List Item) → AllQuiet items → AreNewDraws h → AreNewDraws (h ++ items)
new_quiet h items quiet news = record { each = AtEach-quiet IsNewDraw h items no_new_draw quiet news.each }

-- what a longer history has of begins and draws
pub begun_on : (h items : List Item) (t : ℕ) → (r : ℕ) × Begun h r t → (r : ℕ) × Begun (h ++ items) r t
begun_on h items t (r, m) = (r, in_front (Begin r t) h items m)

pub start_on : (h items : List Item) (s t : ℕ) → (n : ℕ) × (term : ℕ) × DrewStart h s n term t → (n : ℕ) × (term : ℕ) × DrewStart (h ++ items) s n term t
start_on h items s t (n, term, m) = (n, term, in_front (Draw s n term t None) h items m)

pub begun_quiet : (h items : List Item) → AllQuiet items → AreBegun h → AreBegun (h ++ items)
begun_quiet h items quiet begun = record {
  drawn = λ s t is. start_on h items s t (begun.drawn s t (old_begin h items s t quiet is));
  writes = λ s t k value is. begun_on h items t (begun.writes s t k value (old_write h items s t k value quiet is));
  reads = λ s t k answer is. begun_on h items t (begun.reads s t k answer (old_read h items s t k answer quiet is));
  commits = λ s n term t c is. begun_on h items t (begun.commits s n term t c (old_draw h items s n term t (Some c) quiet is));
}

pub placed_on : (h items : List Item) (t c : ℕ) → (s : ℕ) × (n : ℕ) × (term : ℕ) × DrewCommit h s n term t c → (s : ℕ) × (n : ℕ) × (term : ℕ) × DrewCommit (h ++ items) s n term t c
placed_on h items t c (s, n, term, m) = (s, n, term, in_front (Draw s n term t (Some c)) h items m)

pub placed_quiet : (h items : List Item) → AllQuiet items → ArePlaced h → ArePlaced (h ++ items)
placed_quiet h items quiet placed = record { drawn = λ t c is. placed_on h items t c (placed.drawn t c (old_placed h items t c quiet is)) }

-- all of them: instances with the same numbers, a later reading, quiet items
pub numbers_quiet : (setup : SetupNumbers) (seen later : ℕ) (old new : List (Option InstanceEntry)) (master : MasterRecord) (h items : List Item) → SameNumbers old new → seen ≤ later → AllQuiet items → NumberFacts setup seen old master h → NumberFacts setup later new master (h ++ items)
numbers_quiet setup seen later old new master h items same up quiet facts = record {
  ranges = ranges_same old new master same facts.ranges;
  leases = leases_same setup seen later old new master same up facts.leases;
  drawn = drawn_quiet new master h items quiet (drawn_same old new master h same facts.drawn);
  new = new_quiet h items quiet facts.new;
  begun = begun_quiet h items quiet facts.begun;
  placed = placed_quiet h items quiet facts.placed;
}

-- an instance whose requests alone have changed
pub numbered : (i j : InstanceEntry) → j.term ≡ i.term → j.epoch ≡ i.epoch → j.last ≡ i.last → j.ceiling ≡ i.ceiling → j.until ≡ i.until → IsNumberedAs i j
numbered i j term epoch last ceiling until = record { term = term; epoch = epoch; last = last; ceiling = ceiling; until = until }
