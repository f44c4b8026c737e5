-- Items whose refusals are due: none, one, and any that are due whatever stands before them.
use Rattle.machine.proofs.Names.{◌≡◌, ℕ, zero, suc, Bool, true, false, if◌then◌else◌, List, [], ◌∷◌, Some, inl, inr}
use Rattle.machine.proofs.Names.{refl, subst, slice_get, take, All, same_Some, All-nil, All-cons, All-head, All-tail}
use Rattle.machine.proofs.Names.{AtEach-push, Cause, Actor, Item, State, DueNow, NeedsNoRow, Due, AreDue}
use Rattle.history_book.specs.declared.item.Item.TheVariants as item

-- ---- due whatever stands before
abbrev pub DueAnyway : State → Item → Type 0
DueAnyway w x = (told : List Item) → Due w told x

abbrev pub AllDue : State → List Item → Type 0
AllDue w items = All (DueAnyway w) items

pub none_free : (w : State) → AllDue w []
none_free w = All-nil (DueAnyway w)

pub one_free : (w : State) (x : Item) → DueAnyway w x → AllDue w (x ∷ [])
one_free w x free = All-cons (DueAnyway w) x [] free (none_free w)

pub two_free : (w : State) (x y : Item) → DueAnyway w x → DueAnyway w y → AllDue w (x ∷ y ∷ [])
two_free w x y one two = All-cons (DueAnyway w) x (y ∷ []) one (one_free w y two)

pub no_row_free : (w : State) (actor : Actor) (why : Cause) → NeedsNoRow actor why → AllDue w (item.Refused actor why ∷ [])
no_row_free w actor why row = one_free w (item.Refused actor why) (λ told. inl row)

free_found : (w : State) (items : List Item) (place : ℕ) (x : Item) → AllDue w items → slice_get items place ≡ Some x → DueAnyway w x
free_found w [] place x all found = absurd (cc)
free_found w (y ∷ items) zero x all found = subst (λ (z : Item). DueAnyway w z) (same_Some y x found) (All-head (DueAnyway w) y items all)
free_found w (y ∷ items) (suc place) x all found = free_found w items place x (All-tail (DueAnyway w) y items all) found

pub all_due : (w : State) (items : List Item) → AllDue w items → AreDue w items
all_due w items all = record { at = λ place x found. free_found w items place x all found (take place items) }

-- ---- short lists
pub none_due : (w : State) → AreDue w []
none_due w = all_due w [] (none_free w)

pub one_due : (w : State) (x : Item) → Due w [] x → AreDue w (x ∷ [])
one_due w x due = AtEach-push (Due w) [] x (none_due w) due

-- an item that is no refusal
pub plain_due : (w : State) (x : Item) → DueAnyway w x → AreDue w (x ∷ [])
plain_due w x free = one_due w x (free [])

-- a refusal alone
pub refusal_due : (w : State) (actor : Actor) (why : Cause) → DueNow w actor why → AreDue w (item.Refused actor why ∷ [])
refusal_due w actor why due = one_due w (item.Refused actor why) (inr (inl (refl, due)))

pub no_row_due : (w : State) (actor : Actor) (why : Cause) → NeedsNoRow actor why → AreDue w (item.Refused actor why ∷ [])
no_row_due w actor why row = one_due w (item.Refused actor why) (inl row)

-- a refusal that is told once
pub once_due : (w : State) (told : Bool) (actor : Actor) (why : Cause) → DueNow w actor why → AreDue w (if told then [] else item.Refused actor why ∷ [])
once_due w true actor why due = none_due w
once_due w false actor why due = refusal_due w actor why due
