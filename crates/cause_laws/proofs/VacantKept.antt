-- Each node transition keeps that a node without an instance has taken no term since its last crash, or that its last take failed.
use Rattle.cause_laws.proofs.Names.{◌≡◌, ◌≢◌, ℕ, Bool, true, false, List, [], ◌∷◌, ◌++◌, Some, None, inl, inr, refl}
use Rattle.cause_laws.proofs.Names.{sym, subst, slice_get, slice_set, cases_eq, none-some, Master, granted, Node, Item}
use Rattle.cause_laws.proofs.Names.{InstanceEntry, State, rules_of, take_item, ReachedInvariant, set_cases, HasNone}
use Rattle.cause_laws.proofs.Names.{AreVacant, ShownInvariant}
use Rattle.history_book.specs.declared.item.Item.TheVariants as item
use Rattle.cause_laws.proofs.NodeTransitions.{NodeTransition, OfRested, OfTook, OfRenewed, OfWidened, OfStopped, OfCrashed, OfAsked, OfAccepted, OfDrew, OfSettled, OfTold, OfEnded, OfLearned, Granted, Crashed, granted_nodes, took_items, fault_if, now_at, nodes_by, items_by}
use Rattle.cause_laws.proofs.PostWords.{since_take_new, none_on, none_crashed}
use Rattle.cause_laws.proofs.PostItems.{AllCalm, calm_one, calm_no_takes, crash_no_takes}
use Rattle.cause_laws.proofs.PostMoves.{losses_calm, calm_by, take_no_takes}

module _ (w : State) (h : List Item) (vacant : AreVacant w.nodes h) where
  calmly : (items : List Item) (n : ℕ) → AllCalm items → slice_get w.nodes n ≡ Some None → HasNone (h ++ items) n
  calmly items n calm empty = none_on h items n (calm_no_takes n items calm) (vacant.none n empty)

  -- where an instance was set, the other nodes are as they were
  elsewhere : (node n : ℕ) (i : InstanceEntry) → slice_get (now_at w node i) n ≡ Some None → (n ≢ node) × (slice_get w.nodes n ≡ Some None)
  elsewhere node n i empty = elim (set_cases w.nodes node n (Some i) None empty) [
    | inl here ↦ absurd (none-some i here.1)
    | inr there ↦ there
  ]

  set : (items : List Item) (node : ℕ) (i : InstanceEntry) (n : ℕ) → AllCalm items → slice_get (now_at w node i) n ≡ Some None → HasNone (h ++ items) n
  set items node i n calm empty = calmly items n calm (elsewhere node n i empty).1

  -- ---- a take: where the call failed, the fault stands behind it
  past_take : (k : Granted w) (n : ℕ) → n ≢ k.node → slice_get w.nodes n ≡ Some None → HasNone (h ++ took_items w k) n
  past_take k n other empty = none_on h (took_items w k) n (take_no_takes w k n other) (vacant.none n empty)

  fault_behind : (k : Granted w) (failed : Bool) → failed ≡ true → HasNone (h ++ (take_item k.node k.reading (granted (rules_of w.setup) w.master k.reading) ∷ fault_if failed k.node)) k.node
  fault_behind k true is =
      let grant = granted (rules_of w.setup) w.master k.reading in
      let fault : Item = item.Fault (Node k.node) Master in
      inr (Master, [], since_take_new h (fault ∷ []) k.node k.reading grant.term grant.epoch grant.until grant.ceiling (calm_no_takes k.node (fault ∷ []) (calm_one fault refl)))
  fault_behind k false is = absurd (cc)

  taking : (k : Granted w) (failed : Bool) → k.failed ≡ failed → (n : ℕ) → slice_get (granted_nodes w k failed) n ≡ Some None → HasNone (h ++ took_items w k) n
  taking k true is n empty = elim (cases_eq n k.node) [
    | inl here ↦ subst (λ m. HasNone (h ++ took_items w k) m) (sym here) (fault_behind k k.failed is)
    | inr other ↦ past_take k n other empty
  ]
  taking k false is n empty = let old = elsewhere k.node n _ empty in past_take k n old.0 old.1

  -- ---- a crash
  crashing : (k : Crashed w) (n : ℕ) → slice_get (slice_set w.nodes k.node None) n ≡ Some None → HasNone (h ++ (item.Crash k.node k.i.term ∷ k.told)) n
  crashing k n empty =
      let items : List Item = item.Crash k.node k.i.term ∷ k.told in
      let calm : AllCalm k.told = losses_calm k.i k.told k.losses in
      elim (set_cases w.nodes k.node n None None empty) [
        | inl here ↦ subst (λ m. HasNone (h ++ items) m) (sym here.0) (none_crashed h k.told k.node k.i.term (calm_no_takes k.node k.told calm))
        | inr old ↦ none_on h items n (crash_no_takes n k.node k.i.term k.told calm) (vacant.none n old.1)
      ]

  none_by : (d : NodeTransition w) (n : ℕ) → slice_get (nodes_by w d) n ≡ Some None → HasNone (h ++ items_by w d) n
  none_by (OfRested k) n empty = calmly k.items n (calm_by w (OfRested k) refl) empty
  none_by (OfTook k) n empty = taking k k.failed refl n empty
  none_by (OfRenewed k) n empty = set _ k.node _ n (calm_by w (OfRenewed k) refl) empty
  none_by (OfWidened k) n empty = set _ k.node _ n (calm_by w (OfWidened k) refl) empty
  none_by (OfStopped k) n empty = set _ k.node _ n (calm_by w (OfStopped k) refl) empty
  none_by (OfCrashed k) n empty = crashing k n empty
  none_by (OfAsked k) n empty = set _ k.node _ n (calm_by w (OfAsked k) refl) empty
  none_by (OfAccepted k) n empty = set _ k.it.node _ n (calm_by w (OfAccepted k) refl) empty
  none_by (OfDrew k) n empty = set _ k.it.node _ n (calm_by w (OfDrew k) refl) empty
  none_by (OfSettled k) n empty = set _ k.it.node _ n (calm_by w (OfSettled k) refl) empty
  none_by (OfTold k) n empty = set _ k.it.node _ n (calm_by w (OfTold k) refl) empty
  none_by (OfEnded k) n empty = set _ k.it.node _ n (calm_by w (OfEnded k) refl) empty
  none_by (OfLearned k) n empty = calmly _ n (calm_by w (OfLearned k) refl) empty

pub vacant_kept : (w : State) (h : List Item) (d : NodeTransition w) → ReachedInvariant w h → ShownInvariant w h → AreVacant (nodes_by w d) (h ++ items_by w d)
vacant_kept w h d stands shows = record { none = none_by w h shows.vacant d }
