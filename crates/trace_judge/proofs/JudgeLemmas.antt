-- Why verdicts are right.
use Rattle.std.proofs.Common.{◌≡◌, ℕ, zero, suc, ◌≤◌, ◌⊎◌, ◌||◌, Bool, true, false, List, [], ◌∷◌, ◌++◌, Option, None, Some, length, slice_get, inl, inr, refl, sym, subst, ap, ◌∙◌}
use Rattle.std.specs.Option.{IfSome}
use Rattle.std.specs.List.{Contains}
use Rattle.std.specs.List.Sorted.{IsPermutation}
use Rattle.std.proofs.lemmas.List.Sorted.{Contains-permutation, IsPermutation-sym}
use Rattle.std.proofs.lemmas.Option.{slice_get_within, slice_get-get_or, get_or_from_slice_get}
use Rattle.trace_rules.specs.declared.trace.Operation.{Operation}
use Rattle.trace_rules.specs.declared.wanted.Level.{Level}
use Rattle.trace_rules.specs.declared.wanted.Times.{Times}
use Rattle.trace_rules.specs.declared.wanted.Wanted.{Wanted}
use Rattle.trace_rules.specs.Trace.{Trace, Writer}
use Rattle.trace_rules.specs.Stamping.{Asked, IsolatedBy, Keeps, Point, Start, Commit, Stamping}
use Rattle.trace_rules.specs.Wants.{asked_of}
use Rattle.trace_rules.proofs.Forced.{wrong_outer, wrong_own}
use Rattle.rising_numbers.specs.declared.Edge.{Edge}
use Rattle.rising_numbers.specs.Rises.{AreWithin, IsCycle}
use Rattle.outer_reads.specs.declared.writings.Writing.{Writing}
use Rattle.outer_reads.specs.declared.readings.Reading.{Reading}
use Rattle.outer_reads.specs.Sources.{AreKnown, IsWrong, NotOwn, NoVersion, trace_of}
use Rattle.trace_edges.specs.Edges.{starts_of}
use Rattle.asked_orders.specs.declared.edges.Nodes.{Nodes}
use Rattle.asked_orders.specs.Keeps.{stamping_of}
use Rattle.asked_orders.specs.Joins.{AreJoined, moments_for}
use Rattle.asked_orders.specs.Laid.{StillJoined}
use Rattle.version_ranks.specs.declared.rank.Rank.{Rank}
use Rattle.version_ranks.specs.Ranks.{asked_with, by_rank}
use Rattle.version_orders.specs.Orders.{AreSure, Task, asked_by}
use Rattle.version_orders.proofs.OrderLemmas.{covers_with, joined_still, round_refuses}
use Rattle.trace_judge.specs.declared.Verdict.{Verdict}
use Rattle.trace_judge.specs.declared.Verdict.TheVariants.{Holds, WrongRead, Refused, Undecided}
use Rattle.trace_judge.specs.Verdicts.{AreStamps, IsShared, IsTried, IsVerdict, NoStamps, Refuses}

pub wrong_refuses : (level : Level) (asked : Asked) (trace : Trace) (place : ℕ) → IsWrong trace place → NoStamps level asked trace
wrong_refuses level asked trace place (NotOwn t k own answer read other) = wrong_own level asked trace place t k own answer read other
wrong_refuses level asked trace place (NoVersion t k found read none) = wrong_outer level asked trace t k found (record { place = place; read = read }) none

-- the numbers make stamps at the level that the trace is judged by
pub stamps_at : (level other : Level) (asked : Asked) (trace : Trace) (numbers : List ℕ) → level ≡ other → IsolatedBy other (stamping_of other (length trace.transactions) numbers) trace → Keeps asked (stamping_of level (length trace.transactions) numbers) → AreStamps level asked trace numbers
stamps_at level other asked trace numbers same isolated keeps = record {
  isolated = subst (λ (l : Level). IsolatedBy l (stamping_of l (length trace.transactions) numbers) trace) (sym same) isolated;
  keeps = keeps;
}

pub cycle_refuses : (task : Task) (readings : List Reading) (order : List Writing) (nodes : Nodes) (edges : List Edge) (places : List ℕ) →
    AreSure task readings order nodes edges → IsCycle edges places → Refuses task readings order nodes
cycle_refuses task readings order nodes edges places sure cycle operations count known =
    round_refuses task.level task.wanted task.times task.ranks (trace_of task.transactions operations) nodes.starts nodes.points task.chain edges (sure.joined operations count known) places cycle

-- ---- an order of the versions is as good as another
there : (xs : List Writing) (i : ℕ) (w : Writing) → slice_get xs i ≡ Some w → Contains xs w
there xs i w at = (i, slice_get_within xs i w at, get_or_from_slice_get xs i w w at)

found : (xs : List Writing) (w : Writing) → Contains xs w → (i : ℕ) × (slice_get xs i ≡ Some w)
found xs w has = (has.0, slice_get-get_or xs has.0 w has.1 ∙ ap Some has.2)

pub known_still : (trace : Trace) (readings : List Reading) (xs ys : List Writing) → IsPermutation xs ys → AreKnown trace readings xs → AreKnown trace readings ys
known_still trace readings xs ys same known = record {
  sourced = known.sourced;
  read = known.read;
  wrote = record {
    wrote = λ i w at. let back = found xs w (Contains-permutation ys xs w (IsPermutation-sym xs ys same) (there ys i w at)) in known.wrote.wrote back.0 w back.1;
    all = λ t k value w. let at = known.wrote.all t k value w in found ys (record { txn = t; key = k; value = value }) (Contains-permutation xs ys (record { txn = t; key = k; value = value }) same (there xs at.0 (record { txn = t; key = k; value = value }) at.1));
  };
}

pub if_some_at : {X : Type 0} (o : Option X) (P : Type 0) (x : X) → o ≡ Some x → IfSome o (λ y. P) → P
if_some_at None P x is has = absurd (cc)
if_some_at (Some y) P x is has = has

pub sure_still : (task : Task) (readings : List Reading) (xs ys : List Writing) (nodes : Nodes) (edges : List Edge) → IsPermutation xs ys → AreSure task readings xs nodes edges → AreSure task readings ys nodes edges
sure_still task readings xs ys nodes edges same sure = record {
  room = sure.room;
  within = sure.within;
  joined = λ operations count known. sure.joined operations count (known_still (trace_of task.transactions operations) readings ys xs (IsPermutation-sym xs ys same) known);
}

-- two versions of a key in the order are two that were tried
pub shared_tried : (trace : Trace) (readings : List Reading) (order : List Writing) (key : ℕ) → AreKnown trace readings order → IsShared order key → IsTried trace key
shared_tried trace readings order key known shared = record {
  first = shared.a.txn;
  second = shared.b.txn;
  value = shared.a.value;
  other = shared.b.value;
  apart = shared.apart;
  one = subst (λ (k : ℕ). Writer trace shared.a.txn k shared.a.value) shared.key_a (known.wrote.wrote shared.i shared.a shared.at_a);
  two = subst (λ (k : ℕ). Writer trace shared.b.txn k shared.b.value) shared.key_b (known.wrote.wrote shared.j shared.b shared.at_b);
}

-- ---- the edges before any order of versions is known
edge_cases : (xs ys : List Edge) (i : ℕ) (e : Edge) → slice_get (xs ++ ys) i ≡ Some e → (slice_get xs i ≡ Some e) ⊎ ((j : ℕ) × (slice_get ys j ≡ Some e))
edge_cases [] ys i e at = inr (i, at)
edge_cases (x ∷ xs) ys zero e at = inl at
edge_cases (x ∷ xs) ys (suc i) e at = edge_cases xs ys i e at

-- with edges that join behind those that are sure
pub sure_with : (task : Task) (readings : List Reading) (order : List Writing) (nodes : Nodes) (edges more : List Edge) → AreSure task readings order nodes edges → AreWithin nodes.all more →
    ((operations : List Operation) → nodes.starts ≡ starts_of task.level (length task.transactions) → AreJoined task.level (asked_of task.wanted task.level task.times (trace_of task.transactions operations)) (moments_for task.wanted task.level task.times) (trace_of task.transactions operations) nodes.starts nodes.points task.chain more) →
    AreSure task readings order nodes (edges ++ more)
sure_with task readings order nodes edges more sure within joined = record {
  room = sure.room;
  within = record {
    from = λ place e at. elim (edge_cases edges more place e at) [ inl first ↦ sure.within.from place e first | inr last ↦ within.from last.0 e last.1 ];
    to = λ place e at. elim (edge_cases edges more place e at) [ inl first ↦ sure.within.to place e first | inr last ↦ within.to last.0 e last.1 ];
  };
  joined = λ operations count known place e at. elim (edge_cases edges more place e at) [
    | inl first ↦ sure.joined operations count known place e first
    | inr last ↦ joined_still task.level (asked_of task.wanted task.level task.times (trace_of task.transactions operations)) (asked_by task operations) (moments_for task.wanted task.level task.times) (trace_of task.transactions operations)
        (covers_with task.wanted task.level task.times task.ranks (trace_of task.transactions operations)) nodes.starts nodes.points task.chain more (joined operations count) last.0 e last.1
  ];
}

-- and with those that are laid behind them
pub sure_laid : (task : Task) (readings : List Reading) (order : List Writing) (nodes : Nodes) (old new : List Edge) → AreSure task readings order nodes old → (nodes.points ≤ nodes.all → AreWithin nodes.all old → AreWithin nodes.all new) →
    StillJoined task.level (asked_with task.wanted task.level task.times task.ranks) (moments_for task.wanted task.level task.times) task.transactions nodes.starts nodes.points task.chain old new → AreSure task readings order nodes new
sure_laid task readings order nodes old new sure within joined = record {
  room = sure.room;
  within = within sure.room sure.within;
  joined = λ operations count known. joined operations count (sure.joined operations count known);
}

-- ---- what is kept
either_parts : (a b : Bool) → a || b ≡ true → (a ≡ true) ⊎ (b ≡ true)
either_parts true b e = inl refl
either_parts false b e = inr e

pub keeps_with : (wanted : Wanted) (level : Level) (times : List Times) (ranks : List Rank) (trace : Trace) (st : Stamping) → Keeps (by_rank ranks) st → Keeps (asked_of wanted level times trace) st → Keeps (asked_with wanted level times ranks trace) st
keeps_with wanted level times ranks trace st one other x y e = elim (either_parts (by_rank ranks x y) (asked_of wanted level times trace x y) e) [ inl first ↦ one x y first | inr last ↦ other x y last ]

-- where no order of versions is told, nothing more is asked for
none_told : (x y : Point) → by_rank [] x y ≡ false
none_told (Commit t) (Start u) = refl
none_told (Commit t) (Commit u) = refl
none_told (Start t) y = refl

plain_of : (wanted : Wanted) (level : Level) (times : List Times) (trace : Trace) (st : Stamping) → Keeps (asked_with wanted level times [] trace) st → Keeps (asked_of wanted level times trace) st
plain_of wanted level times trace st keeps x y e = keeps x y (covers_with wanted level times [] trace x y e)

with_none : (wanted : Wanted) (level : Level) (times : List Times) (trace : Trace) (st : Stamping) → Keeps (asked_of wanted level times trace) st → Keeps (asked_with wanted level times [] trace) st
with_none wanted level times trace st keeps x y e = keeps x y (subst (λ (b : Bool). b || asked_of wanted level times trace x y ≡ true) (none_told x y) e)

no_stamps_plain : (wanted : Wanted) (level : Level) (times : List Times) (trace : Trace) → NoStamps level (asked_with wanted level times [] trace) trace → NoStamps level (asked_of wanted level times trace) trace
no_stamps_plain wanted level times trace none stampable = none (record { stamps = stampable.stamps; isolated = stampable.isolated; keeps = with_none wanted level times trace stampable.stamps stampable.keeps })

pub verdict_plain : (wanted : Wanted) (level : Level) (times : List Times) (trace : Trace) (verdict : Verdict) → IsVerdict level (asked_with wanted level times [] trace) trace verdict → IsVerdict level (asked_of wanted level times trace) trace verdict
verdict_plain wanted level times trace (Holds numbers) v = record { isolated = v.isolated; keeps = plain_of wanted level times trace (stamping_of level (length trace.transactions) numbers.items) v.keeps }
verdict_plain wanted level times trace (WrongRead place) v = (v.0, no_stamps_plain wanted level times trace v.1)
verdict_plain wanted level times trace (Refused cycle) v = no_stamps_plain wanted level times trace v
verdict_plain wanted level times trace (Undecided key) v = v
