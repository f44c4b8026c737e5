-- A mark stands after a failed step that did not stand before it, exactly where the step placed it.
use Rattle.std.proofs.Common.{◌≡◌, ℕ, Bool, List, [], ◌∷◌, ◌++◌, Option, None, Some, false, is_none, refl, sym, ◌∙◌, ap, append_assoc}
use Rattle.std.proofs.lemmas.Option.{none-some}
use Rattle.stamp_base.specs.declared.stores.Store.{Store}
use Rattle.stamp_base.specs.declared.stores.Mark as mark
use Rattle.stamp_base.specs.declared.stores.Mark.TheVariants.{Committed as CommittedMark, Invalid as InvalidMark}
use Rattle.port_io.specs.declared.weather.Fate.{Fate}
use Rattle.port_io.specs.declared.weather.Fate.TheVariants.{Works, FailsUnchanged, FailsApplied}
use Rattle.port_io.specs.Fates.{fated}
use Rattle.history_book.specs.declared.item.Actor.{Actor}
use Rattle.history_book.specs.declared.item.Item.{Item}
use Rattle.history_book.specs.declared.item.Item.TheVariants.{Fault}
use Rattle.system_parts.specs.Rows.{Row}
use Rattle.system_parts.specs.Pairs.{Pairs, mark_of}
use Rattle.system_parts.proofs.PairLaws.{mark_of-put_pair}
use Rattle.system_parts.specs.declared.asks.Ask.{Ask}
use Rattle.system_parts.specs.declared.asks.Ask.TheVariants as ask
use Rattle.system_parts.specs.declared.asks.Told.{Told}
use Rattle.machine.specs.StoreSteps.{store_of, rows_after, pairs_after, told_by, told_under, told_mark, mark_kept, effect_items, items_met, met}
use Rattle.session_events.specs.Meeting.{places_mark, placed_items, IsMet}

none_placed : (actor : Actor) (txn : ℕ) (found : Option mark.Mark) → placed_items (is_none found) (is_none found) actor (ask.Mark txn) ≡ []
none_placed actor txn None = refl
none_placed actor txn (Some found) = refl

mark_placed : (actor : Actor) (txn : ℕ) (found : Option mark.Mark) → placed_items (is_none found) false actor (ask.Mark txn) ≡ mark_kept actor (ask.Mark txn) (told_mark found)
mark_placed actor txn None = refl
mark_placed actor txn (Some InvalidMark) = refl
mark_placed actor txn (Some (CommittedMark commit)) = refl

placed_is_kept : (actor : Actor) (asked : Ask) (fate : Fate) (answer : Told) (pairs : Pairs) → None ≡ told_under fate answer → (rows : List Row) → answer ≡ told_by asked rows pairs → placed_items (places_mark asked pairs) (places_mark asked (fated fate pairs (pairs_after asked pairs))) actor asked ≡ effect_items actor asked answer fate
placed_is_kept actor (ask.Mark txn) Works answer pairs fails rows is = elim (none-some answer fails) [ ]
placed_is_kept actor (ask.Mark txn) FailsUnchanged answer pairs fails rows is = none_placed actor txn (mark_of pairs txn)
placed_is_kept actor (ask.Mark txn) FailsApplied answer pairs fails rows is =
    ap (λ found. placed_items (is_none (mark_of pairs txn)) (is_none found) actor (ask.Mark txn)) (mark_of-put_pair pairs txn InvalidMark)
    ∙ mark_placed actor txn (mark_of pairs txn)
    ∙ ap (mark_kept actor (ask.Mark txn)) (sym is)
placed_is_kept actor asked FailsApplied answer pairs fails rows is = refl
placed_is_kept actor asked fate answer pairs fails rows is = refl

items_failed : (actor : Actor) (asked : Ask) (fate : Fate) (answer : Told) → None ≡ told_under fate answer → items_met actor asked answer fate ≡ effect_items actor asked answer fate ++ Fault actor (store_of asked) ∷ []
items_failed actor asked Works answer fails = elim (none-some answer fails) [ ]
items_failed actor asked FailsUnchanged answer fails = refl
items_failed actor asked FailsApplied answer fails = refl

-- the items that the code appends after a failed call
pub items_of_failure : (actor : Actor) (asked : Ask) (pairs pairs_now : Pairs) (before after made : List Item) (unmarked still_unmarked : Bool) (store : Store) → after ≡ before ++ made ++ Fault actor store ∷ [] → made ≡ placed_items unmarked still_unmarked actor asked → unmarked ≡ places_mark asked pairs → still_unmarked ≡ places_mark asked pairs_now → store ≡ store_of asked → after ≡ before ++ placed_items (places_mark asked pairs) (places_mark asked pairs_now) actor asked ++ Fault actor (store_of asked) ∷ []
items_of_failure actor asked pairs pairs_now before after made unmarked still_unmarked store items of_made of_unmarked of_still of_store = cc

-- so a failed call is met by its items
pub failed_is_met : (actor : Actor) (asked : Ask) (fate : Fate) (rows rows_now : List Row) (pairs pairs_now : Pairs) (before after : List Item) → rows_now ≡ fated fate rows (rows_after asked rows) → pairs_now ≡ fated fate pairs (pairs_after asked pairs) → None ≡ told_under fate (told_by asked rows pairs) → after ≡ before ++ placed_items (places_mark asked pairs) (places_mark asked pairs_now) actor asked ++ Fault actor (store_of asked) ∷ [] → IsMet (met actor asked fate rows pairs) rows_now pairs_now before after None
failed_is_met actor asked fate rows rows_now pairs pairs_now before after of_rows of_pairs fails items = record {
  rows = of_rows;
  pairs = of_pairs;
  items =
      items
      ∙ ap (λ p. before ++ placed_items (places_mark asked pairs) (places_mark asked p) actor asked ++ Fault actor (store_of asked) ∷ []) of_pairs
      ∙ ap (λ kept. before ++ kept ++ Fault actor (store_of asked) ∷ []) (placed_is_kept actor asked fate _ pairs fails rows refl)
      ∙ append_assoc before (effect_items actor asked (told_by asked rows pairs) fate) (Fault actor (store_of asked) ∷ [])
      ∙ ap (λ met. before ++ met) (sym (items_failed actor asked fate _ fails));
  told = sym fails;
}
