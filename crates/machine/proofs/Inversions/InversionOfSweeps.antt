-- What the events of the janitor come to. An open sweep always asks something.
use Rattle.machine.proofs.Dues.DueItems.{DueAnyway, all_due, none_due, plain_due, refusal_due, no_row_due}
use Rattle.machine.proofs.Dues.StepsDue.{worked_free, failed_due, undecided_free}
use Rattle.machine.proofs.Names.{slice_get, ◌≡◌, ℕ, Bool, true, false, List, [], ◌∷◌, ◌++◌, Option, Some, None, refl}
use Rattle.machine.proofs.Names.{sym, ap, All-append, All-cons, Cells, Fate, Works, FailsUnchanged, FailsApplied}
use Rattle.machine.proofs.Names.{Janitor, Item, keys_of_version, Ask, Told, Sweeping, sweep_ask, sweep_told}
use Rattle.machine.proofs.Names.{is_undecided, InstanceEntry, State, Effect, met, store_of, told_by, pairs_after}
use Rattle.machine.proofs.Names.{step_item, Step, step_by, on_swept, sweep_open_on, undecided_items, sweep_met}
use Rattle.machine.proofs.Names.{sweep_at, sweep_lists, sweep_step_on, Plain, AllPlain, SweepAsks, NoList}
use Rattle.machine.proofs.Names.{OfSweepOpened, OfSwept, OfSweepListed, OfSweepFailed}
use Rattle.std.proofs.Common.{length}
use Rattle.history_book.specs.declared.cause.Cause.TheVariants as cause
use Rattle.history_book.specs.declared.item.Item.TheVariants as item
use Rattle.system_parts.specs.declared.asks.Ask.TheVariants as ask
use Rattle.machine.proofs.Outcome.PlainItems.{all_quiet, all_silent, none_plain, one_plain, one_silent}
use Rattle.machine.proofs.Inversions.InversionParts.{PlainDue, ComesTo, ComesBy, still_all}
use Rattle.machine.proofs.Inversions.InversionOfCalls.{step_plain, failed_plain}
use Rattle.machine.proofs.Outcome.QuietItems.{one_quiet}
use Rattle.machine.proofs.MarksTold.{marks_same, marks_behind, met_marks}

-- the sweep was put back
still_sweep : (w : State) (sweep : Option Sweeping) (items : List Item) → w.sweep ≡ sweep → PlainDue w items → ComesTo w (record w { sweep = sweep }) items
still_sweep w sweep items same plain = still_all w (record w { sweep = sweep }) items plain (ap (λ (s : Option Sweeping). record w { sweep = s }) (sym same))

-- ---- the opening
abbrev pub for_sweep : State → Effect (Option Sweeping) → Step
for_sweep w effect = step_by effect (λ (p : Option Sweeping). record w { sweep = p })

sweep_open_comes : (w : State) (node txn : ℕ) (post : Option InstanceEntry) (sweep : Option Sweeping) → slice_get w.nodes node ≡ Some post → w.sweep ≡ sweep → ComesBy w (for_sweep w (sweep_open_on node txn post sweep))
sweep_open_comes w node txn post (Some s) at same = still_sweep w (Some s) _ same (one_plain (item.Refused Janitor cause.Busy) refl refl, no_row_due w Janitor cause.Busy (λ setup h. tt))
sweep_open_comes w node txn None None at same = still_sweep w None _ same (one_plain (item.Refused Janitor (cause.NoOracle node)) refl refl, refusal_due w Janitor (cause.NoOracle node) at)
sweep_open_comes w node txn (Some i) None at same = (OfSweepOpened (record { txn = txn; epoch = i.epoch }), refl, refl, tt, none_due w)

pub sweep_open_at_post : (w : State) (node txn : ℕ) (post : Option InstanceEntry) → slice_get w.nodes node ≡ Some post → ComesBy w (for_sweep w (sweep_open_on node txn post w.sweep))
sweep_open_at_post w node txn post at = sweep_open_comes w node txn post w.sweep at refl

-- ---- the steps
undecided_plain : (s : Sweeping) (undecided : Bool) → AllPlain (undecided_items s undecided)
undecided_plain s true = one_plain (item.Refused Janitor (cause.Undecided s.txn s.epoch)) refl refl
undecided_plain s false = none_plain

-- what a step shows, with the end of the sweep where it is undecided
abbrev swept_items : (w : State) (s : Sweeping) (asked : Ask) → List Item
swept_items w s asked = (step_item Janitor asked (told_by asked w.rows w.pairs) ∷ []) ++ undecided_items s (is_undecided (sweep_told s (told_by asked w.rows w.pairs)))

swept_plain : (w : State) (s : Sweeping) (asked : Ask) → NoList asked → AllPlain (swept_items w s asked)
swept_plain w s asked no_list =
    let answer : Told = told_by asked w.rows w.pairs in
    let first : Item = step_item Janitor asked answer in
    All-append Plain (first ∷ []) (undecided_items s (is_undecided (sweep_told s answer))) (All-cons Plain first [] (step_plain Janitor asked answer no_list) none_plain) (undecided_plain s (is_undecided (sweep_told s answer)))

swept : (w : State) (s : Sweeping) (asked : Ask) → w.sweep ≡ Some s → sweep_ask s ≡ Some asked → NoList asked → (fate : Fate) → ComesBy w (on_swept w (sweep_met s asked (met Janitor asked fate w.rows w.pairs)))
swept w s asked is_open asks no_list Works =
    let items : List Item = swept_items w s asked in (
      OfSwept (record {
        s = s;
        asked = asked;
        is_open = is_open;
        asks = asks;
        no_list = no_list;
        items = items;
        marks = marks_behind w.pairs (pairs_after asked w.pairs) (step_item Janitor asked (told_by asked w.rows w.pairs) ∷ []) (undecided_items s (is_undecided (sweep_told s (told_by asked w.rows w.pairs)))) (met_marks Janitor asked Works w.rows w.pairs);
        quiet = all_quiet items (swept_plain w s asked no_list);
        silent = all_silent items (swept_plain w s asked no_list);
      }),
      refl,
      refl,
      tt,
      all_due w _ (All-append (DueAnyway w) (step_item Janitor asked (told_by asked w.rows w.pairs) ∷ []) _ (worked_free w Janitor asked (told_by asked w.rows w.pairs)) (undecided_free w s (is_undecided (sweep_told s (told_by asked w.rows w.pairs))))),
    )
swept w s asked is_open asks no_list FailsUnchanged = (
  OfSweepFailed (record {
    s = s;
    asked = asked;
    is_open = is_open;
    asks = asks;
    applied = false;
    items = item.Fault Janitor (store_of asked) ∷ [];
    marks = marks_same w.pairs (item.Fault Janitor (store_of asked) ∷ []);
    quiet = one_quiet (item.Fault Janitor (store_of asked)) refl;
    silent = one_silent (item.Fault Janitor (store_of asked)) refl;
  }),
  refl,
  refl,
  tt,
  plain_due w _ (λ told. tt),
)
swept w s asked is_open asks no_list FailsApplied = (
  OfSweepFailed (record {
    s = s;
    asked = asked;
    is_open = is_open;
    asks = asks;
    applied = true;
    items = _;
    marks = met_marks Janitor asked FailsApplied w.rows w.pairs;
    quiet = all_quiet _ (failed_plain Janitor asked (told_by asked w.rows w.pairs) FailsApplied (store_of asked));
    silent = all_silent _ (failed_plain Janitor asked (told_by asked w.rows w.pairs) FailsApplied (store_of asked));
  }),
  refl,
  refl,
  tt,
  failed_due w Janitor asked (told_by asked w.rows w.pairs) FailsApplied (store_of asked),
)

listing_failed : (w : State) (s : Sweeping) (txn : ℕ) → w.sweep ≡ Some s → sweep_ask s ≡ Some (ask.Keys txn) → ComesTo w (record w { sweep = None }) (item.Fault Janitor Cells ∷ [])
listing_failed w s txn is_open asks = (
  OfSweepFailed (record {
    s = s;
    asked = ask.Keys txn;
    is_open = is_open;
    asks = asks;
    applied = false;
    items = item.Fault Janitor Cells ∷ [];
    marks = marks_same w.pairs (item.Fault Janitor Cells ∷ []);
    quiet = one_quiet (item.Fault Janitor Cells) refl;
    silent = one_silent (item.Fault Janitor Cells) refl;
  }),
  refl,
  refl,
  tt,
  plain_due w _ (λ told. tt),
)

sweep_lists_keys : (w : State) (s : Sweeping) (txn : ℕ) → w.sweep ≡ Some s → sweep_ask s ≡ Some (ask.Keys txn) → (fate : Fate) → ComesBy w (on_swept w (sweep_lists s txn fate w.rows w.pairs))
sweep_lists_keys w s txn is_open asks Works = (OfSweepListed (record { s = s; txn = txn; count = length (keys_of_version w.rows txn); is_open = is_open; asks = asks }), refl, refl, tt, plain_due w _ (λ told. tt))
sweep_lists_keys w s txn is_open asks FailsUnchanged = listing_failed w s txn is_open asks
sweep_lists_keys w s txn is_open asks FailsApplied = listing_failed w s txn is_open asks

sweep_asked : (w : State) (s : Sweeping) (fate : Fate) → SweepAsks w.sweep → w.sweep ≡ Some s → (asked : Option Ask) → sweep_ask s ≡ asked → ComesBy w (on_swept w (sweep_at s fate w.rows w.pairs asked))
sweep_asked w s fate sound is_open None asks = absurd (sound.asks s is_open asks)
sweep_asked w s fate sound is_open (Some (ask.Keys txn)) asks = sweep_lists_keys w s txn is_open asks fate
sweep_asked w s fate sound is_open (Some (ask.Get txn)) asks = swept w s (ask.Get txn) is_open asks (λ t is. cc) fate
sweep_asked w s fate sound is_open (Some (ask.Mark txn)) asks = swept w s (ask.Mark txn) is_open asks (λ t is. cc) fate
sweep_asked w s fate sound is_open (Some (ask.Look key txn)) asks = swept w s (ask.Look key txn) is_open asks (λ t is. cc) fate
sweep_asked w s fate sound is_open (Some (ask.Shadow key txn commit)) asks = swept w s (ask.Shadow key txn commit) is_open asks (λ t is. cc) fate
sweep_asked w s fate sound is_open (Some (ask.Remove txn)) asks = swept w s (ask.Remove txn) is_open asks (λ t is. cc) fate
sweep_asked w s fate sound is_open (Some (ask.Erase key txn)) asks = swept w s (ask.Erase key txn) is_open asks (λ t is. cc) fate

sweep_comes : (w : State) (fate : Fate) → SweepAsks w.sweep → (sweep : Option Sweeping) → w.sweep ≡ sweep → ComesBy w (on_swept w (sweep_step_on fate sweep w.rows w.pairs))
sweep_comes w fate sound None same = still_sweep w None _ same (one_plain (item.Refused Janitor cause.Idle) refl refl, no_row_due w Janitor cause.Idle (λ setup h. tt))
sweep_comes w fate sound (Some s) same = sweep_asked w s fate sound same (sweep_ask s) refl

pub sweep_step_at : (w : State) (fate : Fate) → SweepAsks w.sweep → ComesBy w (on_swept w (sweep_step_on fate w.sweep w.rows w.pairs))
sweep_step_at w fate sound = sweep_comes w fate sound w.sweep refl
