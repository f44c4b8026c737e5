-- For cause_laws too.
-- What an extension comes to.
use Rattle.machine.proofs.Dues.DueItems.{plain_due, all_due, two_free}
use Rattle.machine.proofs.Names.{[], ◌≡◌, ℕ, ◌+◌, ◌==◌, Bool, true, false, if◌then◌else◌, List, ◌∷◌, Option, Some, None}
use Rattle.machine.proofs.Names.{inr, refl, arith, slice_get, eqb-true, Master, Fate, Works, FailsUnchanged}
use Rattle.machine.proofs.Names.{FailsApplied, fated, Node, Item, ExtendRefused, unless_refused, extend_refused}
use Rattle.machine.proofs.Names.{is_spent, answered, InstanceEntry, State, kept_items, with_post, rules_of, extend_by}
use Rattle.machine.proofs.Names.{extend_on, InstanceAt, AllQuiet, OfExtended, Extended, Stopped, fault_if}
use Rattle.history_book.specs.declared.cause.Cause.TheVariants as cause
use Rattle.history_book.specs.declared.item.Item.TheVariants as item
use Rattle.system_parts.specs.declared.record.ExtendRefused.TheVariants as extend
use Rattle.machine.proofs.Inversions.InversionParts.{PlainDue, one_told, node_told, ComesTo, ComesBy, stops, still_post}
use Rattle.machine.proofs.Inversions.InversionOfRecord.{for_record, alike_stopped, replaced, put_back}
use Rattle.machine.proofs.Outcome.QuietItems.{one_quiet, two_quiet}

-- ---- extend
if_room : {E : Type 0} (own spent : Bool) (full other : E) → (if own then (if spent then Some full else None) else Some other) ≡ None → (own ≡ true) × (spent ≡ false)
if_room true false full other go = (refl, refl)
if_room true true full other go = absurd (cc)
if_room false spent full other go = absurd (cc)

pub extend_room : (w : State) (term : ℕ) → extend_refused (rules_of w.setup) w.master term ≡ None → (w.master.term ≡ term) × (is_spent (rules_of w.setup) w.master ≡ false)
extend_room w term go =
    let room = if_room (w.master.term == term) (is_spent (rules_of w.setup) w.master) (extend.Spent w.master.ceiling) (extend.Replaced w.master.term) go in
    (eqb-true w.master.term term room.0, room.1)

-- by whether the record has the instance's term, and then by whether it is spent
abbrev refusal_of_extend : State → Bool → Bool → Option ExtendRefused
refusal_of_extend w own spent = if own then (if spent then Some (extend.Spent w.master.ceiling) else None) else Some (extend.Replaced w.master.term)

extend_still : (w : State) (node : ℕ) (i : InstanceEntry) (items : List Item) → InstanceAt w.nodes node i → PlainDue w items → ComesTo w (record (with_post w node (Some i)) { master = w.master }) items
extend_still w node i items at plain = still_post w node w.seen (Some i) items at (omega arith) plain

extend_fails : (w : State) (node : ℕ) (i : InstanceEntry) → InstanceAt w.nodes node i → ComesTo w (record (with_post w node (Some i)) { master = w.master }) (item.Fault (Node node) Master ∷ [])
extend_fails w node i at = extend_still w node i _ at (one_told w (item.Fault (Node node) Master) (refl, refl) (λ told. tt))

-- the outcome of an extension for which there is room
abbrev extended : (w : State) (node : ℕ) (i : InstanceEntry) (failed : Bool) → InstanceAt w.nodes node i → (w.master.term == i.term) ≡ true → is_spent (rules_of w.setup) w.master ≡ false → AllQuiet (item.Extend node i.term (w.master.ceiling + w.setup.range) ∷ fault_if failed node) → Extended w
extended w node i failed at own room quiet = record {
  node = node;
  i = i;
  at = at;
  own = eqb-true w.master.term i.term own;
  room = room;
  failed = failed;
  items = item.Extend node i.term (w.master.ceiling + w.setup.range) ∷ fault_if failed node;
  tells = refl;
  quiet = quiet;
}

extend_why : (w : State) (node : ℕ) (fate : Fate) (i : InstanceEntry) → InstanceAt w.nodes node i → (own spent : Bool) → (w.master.term == i.term) ≡ own → is_spent (rules_of w.setup) w.master ≡ spent → let why : Option ExtendRefused = refusal_of_extend w own spent in let ceiling : ℕ = w.master.ceiling + w.setup.range in ComesBy w (for_record w node (extend_by node i (fated fate w.master (unless_refused why w.master (record w.master { ceiling = ceiling }))) (kept_items fate why (item.Extend node i.term ceiling ∷ [])) (answered fate extend.StoreFault why ceiling)))
extend_why w node Works i at true false own room = (
  OfExtended (extended w node i false at own room (one_quiet (item.Extend node i.term (w.master.ceiling + w.setup.range)) refl)),
  refl,
  refl,
  tt,
  plain_due w _ (λ told. tt),
)
extend_why w node Works i at true true own full =
    let k : Stopped w = record {
      node = node;
      i = i;
      at = at;
      why = cause.Spent w.master.ceiling;
      by = inr (refl, eqb-true w.master.term i.term own, full);
    } in
    stops w w.seen _ k (omega arith) (alike_stopped i (cause.Spent w.master.ceiling)) refl
extend_why w node Works i at false spent other _ = stops w w.seen _ (replaced w node i at other) (omega arith) (alike_stopped i (cause.Replaced w.master.term)) refl
extend_why w node FailsUnchanged i at own spent is _ = extend_fails w node i at
extend_why w node FailsApplied i at true false own room = (
  OfExtended (extended w node i true at own room (two_quiet (item.Extend node i.term (w.master.ceiling + w.setup.range)) (item.Fault (Node node) Master) refl refl)),
  put_back w node w.seen (Some i) (record w.master { ceiling = w.master.ceiling + w.setup.range }) at,
  refl,
  tt,
  all_due w _ (two_free w _ _ (λ told. tt) (λ told. tt)),
)
extend_why w node FailsApplied i at true true own full = extend_fails w node i at
extend_why w node FailsApplied i at false spent other _ = extend_fails w node i at

pub extend_at_post : (w : State) (node : ℕ) (fate : Fate) (post : Option InstanceEntry) → slice_get w.nodes node ≡ Some post → ComesBy w (for_record w node (extend_on w.setup node fate post w.master))
extend_at_post w node fate None at = still_post w node w.seen None _ at (omega arith) (node_told w node (cause.NoOracle node) (refl, at))
extend_at_post w node fate (Some i) at = extend_why w node fate i at (w.master.term == i.term) (is_spent (rules_of w.setup) w.master) refl refl
