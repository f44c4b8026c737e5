-- Each node transition keeps what the history shows of ranges: their ends were given, and last stamps were drawn.
use Rattle.cause_laws.proofs.Names.{◌≡◌, ℕ, ◌+◌, ◌<◌, ◌≤◌, List, [], ◌∷◌, ◌++◌, Some, None, ◌⊎◌, inl, inr, refl, arith}
use Rattle.cause_laws.proofs.Names.{granted, Item, in_front, in_last, Request, Begin, Commit, InstanceEntry, State}
use Rattle.cause_laws.proofs.Names.{rules_of, instance_of, take_item, draw_item, InstanceAt, ReachedInvariant}
use Rattle.cause_laws.proofs.Names.{CeilingGiven, CommitDrawn, StampDrawn, AreLasts, ShownInvariant}
use Rattle.history_book.specs.declared.item.Item.TheVariants as item
use Rattle.cause_laws.proofs.NodeTransitions.{NodeTransition, Granted, took_items, fault_if, widened_to, nodes_by, items_by}
use Rattle.cause_laws.proofs.PostWords.{ceiling_given_on}
use Rattle.cause_laws.proofs.PostMoves.{KeptBy, each_by}
use Rattle.cause_laws.proofs.LongerHistories.{in_second}

-- ---- stamps that were drawn
pub commit_drawn_on : (h items : List Item) (term writer commit : ℕ) → CommitDrawn h term writer commit → CommitDrawn (h ++ items) term writer commit
commit_drawn_on h items term writer commit (s, n, m) = (s, n, in_front (item.Draw s n term writer (Some commit)) h items m)

pub stamp_drawn_on : (h items : List Item) (term stamp : ℕ) → StampDrawn h term stamp → StampDrawn (h ++ items) term stamp
stamp_drawn_on h items term stamp (inl (s, n, m)) = inl (s, n, in_front (item.Draw s n term stamp None) h items m)
stamp_drawn_on h items term stamp (inr (writer, drawn)) = inr (writer, commit_drawn_on h items term writer stamp drawn)

-- a draw draws its stamp
stamp_by : (h : List Item) (node term : ℕ) (request : Request) (stamp : ℕ) → StampDrawn (h ++ draw_item node term request stamp ∷ []) term stamp
stamp_by h node term (Begin session) stamp = inl (session, node, in_last (item.Draw session node term stamp None) h)
stamp_by h node term (Commit session start keys) stamp = inr (start, (session, node, in_last (item.Draw session node term start (Some stamp)) h))

-- ---- one instance
record HasLast (g : List Item) (i : InstanceEntry) : Type 0 where
  wide : i.epoch < i.ceiling
  given : CeilingGiven g i.term i.ceiling
  drawn : (i.last ≡ i.epoch) ⊎ StampDrawn g i.term i.last

drawn_on : (h items : List Item) (i : InstanceEntry) → (i.last ≡ i.epoch) ⊎ StampDrawn h i.term i.last → (i.last ≡ i.epoch) ⊎ StampDrawn (h ++ items) i.term i.last
drawn_on h items i (inl none) = inl none
drawn_on h items i (inr drawn) = inr (stamp_drawn_on h items i.term i.last drawn)

last_told : (w : State) (h items : List Item) (m : ℕ) (i : InstanceEntry) → AreLasts w.nodes h → InstanceAt w.nodes m i → HasLast (h ++ items) i
last_told w h items m i lasts at = record {
  wide = lasts.wide m i at;
  given = ceiling_given_on h items i.term i.ceiling (lasts.given m i at);
  drawn = drawn_on h items i (lasts.drawn m i at);
}

-- the instance of a take: a range is not empty
last_anew : (w : State) (h : List Item) (k : Granted w) → 1 ≤ w.setup.range → HasLast (h ++ took_items w k) (instance_of w.setup k.node (granted (rules_of w.setup) w.master k.reading))
last_anew w h k some = record {
  wide = omega (arith, some);
  given = inl (k.node, k.reading, w.master.ceiling, k.reading + w.setup.lease, in_second (take_item k.node k.reading (granted (rules_of w.setup) w.master k.reading)) h (fault_if k.failed k.node));
  drawn = inl refl;
}

-- ---- all
lasts_kept_by : (w : State) (h : List Item) → ReachedInvariant w h → ShownInvariant w h → KeptBy w (λ items n i. HasLast (h ++ items) i)
lasts_kept_by w h stands shows = record {
  told = λ items m i at takes crashes. last_told w h items m i shows.lasts at;
  requests = λ items m i now kept. record { wide = kept.wide; given = kept.given; drawn = kept.drawn };
  took = λ k whole. last_anew w h k stands.holds.in_range.range.0;
  renewed = λ k kept. record { wide = kept.wide; given = kept.given; drawn = kept.drawn };
  widened = λ k kept. record {
    wide = omega (arith, kept.wide, stands.holds.numbers.ranges.covered k.node k.i k.at);
    given = inr (k.node, in_last (item.Extend k.node k.i.term (widened_to w)) h);
    drawn = kept.drawn;
  };
  stopped = λ k kept. record { wide = kept.wide; given = kept.given; drawn = kept.drawn };
  drew = λ k kept. record {
    wide = kept.wide;
    given = kept.given;
    drawn = inr (stamp_by h k.it.node k.it.i.term k.it.held.request (k.it.i.last + 1));
  };
}

pub lasts_kept : (w : State) (h : List Item) (d : NodeTransition w) → ReachedInvariant w h → ShownInvariant w h → AreLasts (nodes_by w d) (h ++ items_by w d)
lasts_kept w h d stands shows =
    let all = each_by w (λ items n i. HasLast (h ++ items) i) (lasts_kept_by w h stands shows) d in
    record {
      wide = λ n i at. (all n i at).wide;
      given = λ n i at. (all n i at).given;
      drawn = λ n i at. (all n i at).drawn;
    }
