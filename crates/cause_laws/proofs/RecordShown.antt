-- The history goes on to show the master record: what changed it is told before any fault.
use Rattle.cause_laws.proofs.Names.{◌≡◌, ℕ, ◌+◌, List, ◌∷◌, ◌++◌, Option, Some, None, inl, inr, sym, subst, IsSome}
use Rattle.cause_laws.proofs.Names.{Fate, ◌∈◌, Item, MasterRecord, granted, renewed_until, Event, State, stepped}
use Rattle.cause_laws.proofs.Names.{rules_of, take_item, IsolationInvariant, ReachedInvariant, fault_if, Outcome}
use Rattle.cause_laws.proofs.Names.{OfGranted, OfRenewed, OfExtended, left_by, told_by_outcome, each_outcome}
use Rattle.cause_laws.proofs.Names.{IsRecordShown}
use Rattle.history_book.specs.declared.item.Item.TheVariants as item
use Rattle.system_parts.specs.declared.record.Grant.{Grant}
use Rattle.system_parts.specs.Record.{held_by}
use Rattle.cause_laws.proofs.PostWords.{term_taken_on, lease_given_on, ceiling_given_on}
use Rattle.cause_laws.proofs.LongerHistories.{in_second}

-- ---- a longer history
-- the record stayed as it was
record_on : (master : MasterRecord) (h items : List Item) → IsRecordShown master h → IsRecordShown master (h ++ items)
record_on master h items shown = record {
  vacant = shown.vacant;
  term = λ n holds. term_taken_on h items master.term (shown.term n holds);
  lease = λ n holds. lease_given_on h items master.until (shown.lease n holds);
  ceiling = λ n holds. let given = shown.ceiling n holds in (given.0, ceiling_given_on h items given.0 master.ceiling given.1);
}

-- ---- what a call left, shown by what it told
none_held : (node : ℕ) → Some node ≡ None → ⊥
none_held node same = cc

record_taken : (node reading : ℕ) (grant : Grant) (h items : List Item) → IsRecordShown (held_by node grant) (h ++ take_item node reading grant ∷ items)
record_taken node reading grant h items =
    let m : take_item node reading grant ∈ (h ++ take_item node reading grant ∷ items) = in_second (take_item node reading grant) h items in
    record {
      vacant = λ none. absurd (none_held node none);
      term = λ n holds. (node, reading, grant.epoch, grant.until, grant.ceiling, m);
      lease = λ n holds. inl (node, reading, grant.term, grant.epoch, grant.ceiling, m);
      ceiling = λ n holds. (grant.term, inl (node, reading, grant.epoch, grant.until, m));
    }

record_renewed : (master : MasterRecord) (node reading term until : ℕ) (h items : List Item) → IsRecordShown master h → IsRecordShown (record master { until = until }) (h ++ item.Renew node reading term until ∷ items)
record_renewed master node reading term until h items shown =
    let old : IsRecordShown master (h ++ item.Renew node reading term until ∷ items) = record_on master h (item.Renew node reading term until ∷ items) shown in
    record {
      vacant = old.vacant;
      term = old.term;
      lease = λ n holds. inr (node, reading, term, in_second (item.Renew node reading term until) h items);
      ceiling = old.ceiling;
    }

is_held : (holder : Option ℕ) → IsSome holder → holder ≡ None → ⊥
is_held None holds none = cc
is_held (Some n) holds none = cc

record_extended : (master : MasterRecord) (node term ceiling : ℕ) (h items : List Item) → IsSome master.holder → IsRecordShown master h → IsRecordShown (record master { ceiling = ceiling }) (h ++ item.Extend node term ceiling ∷ items)
record_extended master node term ceiling h items holds shown =
    let old : IsRecordShown master (h ++ item.Extend node term ceiling ∷ items) = record_on master h (item.Extend node term ceiling ∷ items) shown in
    record {
      vacant = λ none. absurd (is_held master.holder holds none);
      term = old.term;
      lease = old.lease;
      ceiling = λ n held. (term, inr (node, in_second (item.Extend node term ceiling) h items));
    }

-- ---- one event
told_so : (w : State) (h : List Item) (master : MasterRecord) (items these : List Item) → items ≡ these → IsRecordShown master (h ++ these) → IsRecordShown master (h ++ items)
told_so w h master items these same shown = subst (λ (xs : List Item). IsRecordShown master (h ++ xs)) (sym same) shown

-- a take, a renewal and an extension change the record, and nothing else does
outcome_shown : (w : State) (h : List Item) (o : Outcome w) → IsolationInvariant w h → IsRecordShown w.master h → IsRecordShown (left_by w o).master (h ++ told_by_outcome w o)
outcome_shown w h (OfGranted k) holds shown = told_so w h _ k.items _ k.tells (record_taken k.node k.reading (granted (rules_of w.setup) w.master k.reading) h (fault_if k.failed k.node))
outcome_shown w h (OfRenewed k) holds shown = told_so w h _ k.items _ k.tells (record_renewed w.master k.node k.reading k.i.term (renewed_until (rules_of w.setup) w.master k.reading) h (fault_if k.failed k.node) shown)
outcome_shown w h (OfExtended k) holds shown = told_so w h _ k.items _ k.tells (record_extended w.master k.node k.i.term (w.master.ceiling + w.setup.range) h (fault_if k.failed k.node) (holds.numbers.leases.holder k.node k.i k.at) shown)
outcome_shown w h o holds shown = record_on w.master h (told_by_outcome w o) shown

pub record_kept : (w : State) (h : List Item) (e : Event) (fate : Fate) → ReachedInvariant w h → IsRecordShown w.master h → IsRecordShown (stepped w e fate).state.master (h ++ (stepped w e fate).items)
record_kept w h e fate stands shown = each_outcome (λ v items. IsRecordShown v.master (h ++ items)) w h e fate stands (λ o. outcome_shown w h o stands.holds shown)
