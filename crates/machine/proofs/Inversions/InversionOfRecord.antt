-- What a take and a renewal come to.
use Rattle.machine.proofs.Dues.DueItems.{plain_due, all_due, two_free}
use Rattle.machine.proofs.Dues.RecordRefusals.{early_due, spent_due}
use Rattle.machine.proofs.Names.{[], ◌≡◌, ℕ, ◌==◌, max, Bool, true, false, if◌then◌else◌, List, ◌∷◌, Option, Some, None}
use Rattle.machine.proofs.Names.{inl, refl, ap, slice_get, eqb-true, eqb-false, Master, Fate, Works, FailsUnchanged}
use Rattle.machine.proofs.Names.{FailsApplied, fated, Cause, Node, Item, Grant, TakeRefused, RenewRefused, MasterRecord}
use Rattle.machine.proofs.Names.{take_refused, granted, held_by, unless_refused, renewed_until, answered, InstanceEntry}
use Rattle.machine.proofs.Names.{instance_stopped, State, Effect, kept_items, Step, step_by, with_post, with_reading}
use Rattle.machine.proofs.Names.{rules_of, take_item, take_by, take_on, renew_by, renew_on, InstanceAt, AllQuiet}
use Rattle.machine.proofs.Names.{Renewed, Granted, Alike, Stopped, fault_if, OfGranted, OfRenewed}
use Rattle.history_book.specs.declared.cause.Cause.TheVariants as cause
use Rattle.history_book.specs.declared.item.Item.TheVariants as item
use Rattle.system_parts.specs.declared.record.TakeRefused.TheVariants as take
use Rattle.system_parts.specs.declared.record.RenewRefused.TheVariants as renew
use Rattle.machine.proofs.Lookups.{set_same}
use Rattle.machine.proofs.Inversions.InversionParts.{PlainDue, one_told, node_told, ComesTo, ComesBy, stops, still_post}
use Rattle.machine.proofs.Orders.{max_left}
use Rattle.machine.proofs.Outcome.QuietItems.{one_quiet, two_quiet}

-- the effect on a node and the master record
abbrev pub for_record : State → ℕ → Effect (Option InstanceEntry × MasterRecord) → Step
for_record w node effect = step_by effect (λ (p : Option InstanceEntry × MasterRecord). record (with_post w node p.0) { master = p.1 })

-- the instance keeps a refusal of the master record
pub alike_stopped : (i : InstanceEntry) (why : Cause) → Alike i (instance_stopped i why)
alike_stopped i why = record {
  term = refl;
  epoch = refl;
  last = refl;
  ceiling = refl;
  until = refl;
  buckets = refl;
  direct = refl;
  requests = λ s new has. (new, has, refl, refl);
}

-- what stands at the node was put back, beside another master record
pub put_back : (w : State) (node seen : ℕ) (post : Option InstanceEntry) (master : MasterRecord) → slice_get w.nodes node ≡ Some post → record (with_post w node post) { seen = seen; master = master } ≡ record w { seen = seen; master = master }
put_back w node seen post master at = ap (λ (nodes : List (Option InstanceEntry)). record w { seen = seen; nodes = nodes; master = master }) (set_same w.nodes node post at)

-- ---- take
-- nothing was granted
take_still : (w : State) (node reading : ℕ) (items : List Item) → slice_get w.nodes node ≡ Some None → PlainDue w items → ComesTo w (record (with_post (with_reading w reading) node None) { master = w.master }) items
take_still w node reading items vacant plain = still_post w node (max w.seen reading) None items vacant (max_left w.seen reading) plain

-- the outcome of a take that is free
abbrev taken : (w : State) (node reading : ℕ) (failed : Bool) (items : List Item) → slice_get w.nodes node ≡ Some None → take_refused (rules_of w.setup) w.master reading ≡ None → items ≡ take_item node reading (granted (rules_of w.setup) w.master reading) ∷ fault_if failed node → AllQuiet items → Granted w
taken w node reading failed items vacant free tells quiet = record {
  node = node;
  reading = reading;
  vacant = vacant;
  free = free;
  failed = failed;
  items = items;
  tells = tells;
  quiet = quiet;
}

take_why : (w : State) (node reading : ℕ) (fate : Fate) → slice_get w.nodes node ≡ Some None → (why : Option TakeRefused) → take_refused (rules_of w.setup) w.master reading ≡ why → let grant : Grant = granted (rules_of w.setup) w.master reading in ComesBy w (for_record (with_reading w reading) node (take_by w.setup node reading (fated fate w.master (unless_refused why w.master (held_by node grant))) (kept_items fate why (take_item node reading grant ∷ [])) (answered fate take.StoreFault why grant)))
take_why w node reading Works vacant None free = (
  OfGranted (taken w node reading false (take_item node reading (granted (rules_of w.setup) w.master reading) ∷ []) vacant free refl (one_quiet (take_item node reading (granted (rules_of w.setup) w.master reading)) refl)),
  refl,
  refl,
  tt,
  plain_due w _ (λ told. tt),
)
take_why w node reading Works vacant (Some take.StoreFault) free = take_still w node reading _ vacant (one_told w (item.Fault (Node node) Master) (refl, refl) (λ told. tt))
take_why w node reading Works vacant (Some (take.Early at until)) free = take_still w node reading _ vacant (node_told w node (cause.Early at until) (early_due w reading at until free))
take_why w node reading Works vacant (Some (take.Spent ceiling)) free = take_still w node reading _ vacant (node_told w node (cause.Spent ceiling) (spent_due w reading ceiling free))
take_why w node reading FailsUnchanged vacant why free = take_still w node reading _ vacant (one_told w (item.Fault (Node node) Master) (refl, refl) (λ told. tt))
take_why w node reading FailsApplied vacant None free = (
  OfGranted (taken w node reading true (take_item node reading (granted (rules_of w.setup) w.master reading) ∷ item.Fault (Node node) Master ∷ []) vacant free refl (two_quiet (take_item node reading (granted (rules_of w.setup) w.master reading)) (item.Fault (Node node) Master) refl refl)),
  put_back w node (max w.seen reading) None (held_by node (granted (rules_of w.setup) w.master reading)) vacant,
  refl,
  tt,
  all_due w _ (two_free w _ _ (λ told. tt) (λ told. tt)),
)
take_why w node reading FailsApplied vacant (Some why) free = take_still w node reading _ vacant (one_told w (item.Fault (Node node) Master) (refl, refl) (λ told. tt))

pub take_at : (w : State) (node reading : ℕ) (fate : Fate) (post : Option InstanceEntry) → slice_get w.nodes node ≡ Some post → ComesBy w (for_record (with_reading w reading) node (take_on w.setup node reading fate post w.master))
take_at w node reading fate None at = take_why w node reading fate at (take_refused (rules_of w.setup) w.master reading) refl
take_at w node reading fate (Some i) at = still_post w node (max w.seen reading) (Some i) _ at (max_left w.seen reading) (node_told w node (cause.Holding i.term) (record { i = i; at = at; term_is = refl }))

-- ---- renew: by whether the record has the instance's term
-- the record has another term than the instance
abbrev pub replaced : (w : State) (node : ℕ) (i : InstanceEntry) → InstanceAt w.nodes node i → (w.master.term == i.term) ≡ false → Stopped w
replaced w node i at is = record {
  node = node;
  i = i;
  at = at;
  why = cause.Replaced w.master.term;
  by = inl (refl, λ same. eqb-false w.master.term i.term is same);
}

-- nothing was renewed
renew_still : (w : State) (node reading : ℕ) (i : InstanceEntry) (items : List Item) → InstanceAt w.nodes node i → PlainDue w items → ComesTo w (record (with_post (with_reading w reading) node (Some i)) { master = w.master }) items
renew_still w node reading i items at plain = still_post w node (max w.seen reading) (Some i) items at (max_left w.seen reading) plain

-- the outcome of a renewal of the record's own instance
abbrev renewed : (w : State) (node reading : ℕ) (i : InstanceEntry) (failed : Bool) → InstanceAt w.nodes node i → (w.master.term == i.term) ≡ true → let x : Item = item.Renew node reading i.term (renewed_until (rules_of w.setup) w.master reading) in AllQuiet (x ∷ fault_if failed node) → Renewed w
renewed w node reading i failed at own quiet = record {
  node = node;
  reading = reading;
  i = i;
  at = at;
  own = eqb-true w.master.term i.term own;
  failed = failed;
  items = item.Renew node reading i.term (renewed_until (rules_of w.setup) w.master reading) ∷ fault_if failed node;
  tells = refl;
  quiet = quiet;
}

renew_why : (w : State) (node reading : ℕ) (fate : Fate) (i : InstanceEntry) → InstanceAt w.nodes node i → (own : Bool) → (w.master.term == i.term) ≡ own → let why : Option RenewRefused = if own then None else Some (renew.Replaced w.master.term) in let until : ℕ = renewed_until (rules_of w.setup) w.master reading in ComesBy w (for_record (with_reading w reading) node (renew_by node reading i (fated fate w.master (unless_refused why w.master (record w.master { until = until }))) (kept_items fate why (item.Renew node reading i.term until ∷ [])) (answered fate renew.StoreFault why until)))
renew_why w node reading Works i at true own = (
  OfRenewed (renewed w node reading i false at own (one_quiet (item.Renew node reading i.term (renewed_until (rules_of w.setup) w.master reading)) refl)),
  refl,
  refl,
  tt,
  plain_due w _ (λ told. tt),
)
renew_why w node reading Works i at false other = stops w (max w.seen reading) _ (replaced w node i at other) (max_left w.seen reading) (alike_stopped i (cause.Replaced w.master.term)) refl
renew_why w node reading FailsUnchanged i at own is = renew_still w node reading i _ at (one_told w (item.Fault (Node node) Master) (refl, refl) (λ told. tt))
renew_why w node reading FailsApplied i at true own = (
  OfRenewed (renewed w node reading i true at own (two_quiet (item.Renew node reading i.term (renewed_until (rules_of w.setup) w.master reading)) (item.Fault (Node node) Master) refl refl)),
  put_back w node (max w.seen reading) (Some i) (record w.master { until = renewed_until (rules_of w.setup) w.master reading }) at,
  refl,
  tt,
  all_due w _ (two_free w _ _ (λ told. tt) (λ told. tt)),
)
renew_why w node reading FailsApplied i at false other = renew_still w node reading i _ at (one_told w (item.Fault (Node node) Master) (refl, refl) (λ told. tt))

pub renew_at_post : (w : State) (node reading : ℕ) (fate : Fate) (post : Option InstanceEntry) → slice_get w.nodes node ≡ Some post → ComesBy w (for_record (with_reading w reading) node (renew_on w.setup node reading fate post w.master))
renew_at_post w node reading fate None at = still_post w node (max w.seen reading) None _ at (max_left w.seen reading) (node_told w node (cause.NoOracle node) (refl, at))
renew_at_post w node reading fate (Some i) at = renew_why w node reading fate i at (w.master.term == i.term) refl
