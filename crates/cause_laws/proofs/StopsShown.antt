-- Each node transition keeps that the refusals which instances keep are shown: a later term was taken, or the ceiling is spent.
use Rattle.cause_laws.proofs.Names.{◌≡◌, ℕ, ◌+◌, List, ◌++◌, Option, Some, None, inl, inr, refl, sym, subst, option_or}
use Rattle.cause_laws.proofs.Names.{ltb-true, same_Some, none-some, SetupNumbers, Cause, Replaced, Spent, Item}
use Rattle.cause_laws.proofs.Names.{InstanceEntry, State, ReachedInvariant, ShownSpent, ShownStop, AreShownStops}
use Rattle.cause_laws.proofs.Names.{ShownInvariant}
use Rattle.std.proofs.Common.{◌^◌}
use Rattle.cause_laws.proofs.NodeTransitions.{NodeTransition, OfStopped, Stopped, nodes_by, items_by}
use Rattle.cause_laws.proofs.PostWords.{term_taken_on, ceiling_given_on}
use Rattle.cause_laws.proofs.PostMoves.{KeptBy, each_by}
use Rattle.cause_laws.proofs.HeldRecord.{holder_by, replaced_shown, spent_shown}

-- ---- what is shown stays so, and what the record refuses is shown
pub spent_on : (setup : SetupNumbers) (h items : List Item) (ceiling : ℕ) → ShownSpent setup h ceiling → ShownSpent setup (h ++ items) ceiling
spent_on setup h items ceiling k = record { term = k.term; given = ceiling_given_on h items k.term ceiling k.given; past = k.past }

pub stop_on : (setup : SetupNumbers) (h items : List Item) (term : ℕ) (why : Cause) → ShownStop setup h term why → ShownStop setup (h ++ items) term why
stop_on setup h items term (Replaced found) shown = (shown.0, term_taken_on h items found shown.1)
stop_on setup h items term (Spent ceiling) shown = spent_on setup h items ceiling shown
stop_on setup h items term _ shown = absurd shown

stopped_shown : (w : State) (h : List Item) (k : Stopped w) → ReachedInvariant w h → ShownInvariant w h → ShownStop w.setup h k.i.term k.why
stopped_shown w h k stands shows = elim k.by [
  | inl (is, other) ↦ subst (λ why. ShownStop w.setup h k.i.term why) (sym is) (replaced_shown w h k.node k.i stands shows k.at other)
  | inr (is, own, spent) ↦ subst (λ why. ShownStop w.setup h k.i.term why) (sym is) (spent_shown w h w.master.ceiling (holder_by w h k.node k.i stands k.at).0 shows (holder_by w h k.node k.i stands k.at).1 refl (ltb-true (2 ^ 62) (w.master.ceiling + w.setup.range) spent))
]

-- ---- all
abbrev IsShownStop : State → List Item → InstanceEntry → Type 0
IsShownStop w g i = (why : Cause) → i.stop ≡ Some why → ShownStop w.setup g i.term why

-- the first refusal is kept
first_kept : (setup : SetupNumbers) (g : List Item) (term : ℕ) (stop : Option Cause) (new : Cause) → ((why : Cause) → stop ≡ Some why → ShownStop setup g term why) → ShownStop setup g term new → (why : Cause) → option_or stop (Some new) ≡ Some why → ShownStop setup g term why
first_kept setup g term None new old shown why is = subst (λ x. ShownStop setup g term x) (same_Some new why is) shown
first_kept setup g term (Some first) new old shown why is = old why is

stops_kept_by : (w : State) (h : List Item) → ReachedInvariant w h → ShownInvariant w h → KeptBy w (λ items n i. IsShownStop w (h ++ items) i)
stops_kept_by w h stands shows = record {
  told = λ items m i at takes crashes why is. stop_on w.setup h items i.term why (shows.stops.shown m i why at is);
  requests = λ items m i now kept. kept;
  took = λ k whole why is. absurd (none-some why is);
  renewed = λ k kept. kept;
  widened = λ k kept. kept;
  stopped = λ k kept. first_kept w.setup (h ++ items_by w (OfStopped k)) k.i.term k.i.stop k.why kept (stop_on w.setup h (items_by w (OfStopped k)) k.i.term k.why (stopped_shown w h k stands shows));
  drew = λ k kept. kept;
}

pub stops_kept : (w : State) (h : List Item) (d : NodeTransition w) → ReachedInvariant w h → ShownInvariant w h → AreShownStops w.setup (nodes_by w d) (h ++ items_by w d)
stops_kept w h d stands shows = record {
  shown = λ n i why at is. each_by w (λ items m j. IsShownStop w (h ++ items) j) (stops_kept_by w h stands shows) d n i at why is;
}
