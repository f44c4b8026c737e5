-- The times that a history tells, and the readings in it, after the items of one more event.
use Rattle.std.proofs.lemmas.Grind.{common_steps}
use Rattle.command_semantics.proofs.Names.{◌≡◌, ℕ, zero, suc, ◌+◌, List, [], ◌∷◌, ◌++◌, All, Option, Some, None}
use Rattle.command_semantics.proofs.Names.{inl, inr, refl, sym, ◌∙◌, ap, subst, arith, slice_get, sum, append-nil}
use Rattle.command_semantics.proofs.Names.{All-cons, All-head, All-tail, All-append, sum_by-cons}
use Rattle.command_semantics.proofs.Names.{same_Some, Store, Fate, AtEach, Item, last_told}
use Rattle.command_semantics.proofs.Names.{last_told-same, Clocks, times_told, times_from, time_by}
use Rattle.command_semantics.proofs.Names.{time_or_start, IsTimed}
use Rattle.history_book.specs.declared.item.Item.TheVariants as item
use Rattle.cause_laws.proofs.LongerHistories.{each_longer}
use Rattle.command_semantics.proofs.ReadItems.{IsRead, Made}

-- ---- items that tell no time
-- a fault tells no time either
abbrev pub IsTimely : Clocks → Item → Type 0
IsTimely clocks (item.Fault actor store) = Unit {0}
IsTimely clocks x = IsRead clocks x

all_timely : (clocks : Clocks) (items : List Item) → All (IsRead clocks) items → All (IsTimely clocks) items
all_timely clocks items read = grind arith

pub made_timely : (clocks : Clocks) (asked : Option Store) (fate : Fate) (items : List Item) → Made clocks asked fate items → All (IsTimely clocks) items
made_timely clocks asked fate items (inl read) = all_timely clocks items read
made_timely clocks asked fate items (inr k) =
    subst (λ (xs : List Item). All (IsTimely clocks) xs) (sym k.is)
    (All-append (IsTimely clocks) k.before (item.Fault k.actor k.store ∷ k.after) (all_timely clocks k.before k.before_read) (All-cons (IsTimely clocks) (item.Fault k.actor k.store) k.after tt (all_timely clocks k.after k.after_read)))

abbrev pub TellsNoTime : Item → Type 0
TellsNoTime x = time_by x ≡ None

pub all_untold : (clocks : Clocks) (items : List Item) → All (IsTimely clocks) items → All TellsNoTime items
all_untold clocks items timely = grind arith

-- ---- the times
times_append : (h items : List Item) → times_told (h ++ items) ≡ times_told h ++ times_told items
unfolding times_told
times_append [] items = refl
times_append (item.Tick to ∷ h) items = ap (λ (times : List ℕ). to ∷ times) (times_append h items)
times_append (x ∷ h) items = times_append h items

untold_first : (x : Item) (items : List Item) → TellsNoTime x → times_told (x ∷ items) ≡ times_told items
unfolding times_told
untold_first x items untold = grind arith

untold_times : (items : List Item) → All TellsNoTime items → times_told items ≡ []
unfolding times_told
untold_times [] untold = refl
untold_times (x ∷ items) untold = untold_first x items (All-head TellsNoTime x items untold) ∙ untold_times items (All-tail TellsNoTime x items untold)

pub times_same : (h items : List Item) → All TellsNoTime items → times_told (h ++ items) ≡ times_told h
times_same h items untold = times_append h items ∙ ap (λ (times : List ℕ). times_told h ++ times) (untold_times items untold) ∙ append-nil (times_told h)

pub time_same : (h items : List Item) → All TellsNoTime items → time_or_start (last_told time_by (h ++ items)) ≡ time_or_start (last_told time_by h)
time_same h items untold = ap time_or_start (last_told-same time_by h items untold)

-- one more tick
times_more : (now : ℕ) (ticks : List ℕ) (by : ℕ) → times_from now (ticks ++ by ∷ []) ≡ times_from now ticks ++ (now + sum ticks + by) ∷ []
unfolding times_from
times_more now [] by = ap (λ (to : ℕ). to ∷ []) (omega arith)
times_more now (tick ∷ ticks) by =
    ap (λ (times : List ℕ). (now + tick) ∷ times) (times_more (now + tick) ticks by ∙ ap (λ (to : ℕ). times_from (now + tick) ticks ++ to ∷ []) (omega (arith, sum_by-cons (λ (x : ℕ). x) tick ticks)))

pub times_ticked : (h : List Item) (ticks : List ℕ) (to by : ℕ) → times_told h ≡ times_from 0 ticks → to ≡ sum ticks + by → times_told (h ++ item.Tick to ∷ []) ≡ times_from 0 (ticks ++ by ∷ [])
unfolding times_told
times_ticked h ticks to by so_far is = grind (arith, times_more, times_append)

-- ---- the readings
-- the clocks show what the history told last
abbrev pub AreShown : Clocks → List Item → Type 0
AreShown clocks h = clocks.base ≡ time_or_start (last_told time_by h)

item_timed : (clocks : Clocks) (h : List Item) (x : Item) → AreShown clocks h → IsTimely clocks x → IsTimed clocks.leads h x
item_timed clocks h x now timely = grind arith

found_timely : (clocks : Clocks) (items : List Item) (place : ℕ) (x : Item) → All (IsTimely clocks) items → slice_get items place ≡ Some x → IsTimely clocks x
found_timely clocks [] place x all found = absurd (cc)
found_timely clocks (y ∷ items) zero x all found = subst (λ (z : Item). IsTimely clocks z) (same_Some y x found) (All-head (IsTimely clocks) y items all)
found_timely clocks (y ∷ items) (suc place) x all found = found_timely clocks items place x (All-tail (IsTimely clocks) y items all) found

pub readings_longer : (clocks : Clocks) (h items : List Item) → AreShown clocks h → All (IsTimely clocks) items → AtEach (IsTimed clocks.leads) h → AtEach (IsTimed clocks.leads) (h ++ items)
readings_longer clocks h items now timely so_far =
    grind (arith, common_steps, each_longer, time_same, all_untold, item_timed, found_timely)
