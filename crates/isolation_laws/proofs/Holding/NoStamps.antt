-- Items that are neither a begin nor a placed commit.
use Rattle.isolation_laws.proofs.Names.{◌≡◌, ℕ, Bool, true, false, List, [], ◌∷◌, refl, All, All-nil, All-cons}
use Rattle.isolation_laws.proofs.Names.{All-head, All-tail, Item, ReadTurn, Asks, Answers, Request, Commit, draw_item}
use Rattle.isolation_laws.proofs.Names.{read_items, found_of, Quiet, AllQuiet}
use Rattle.history_book.specs.declared.item.Item.TheVariants as item
use Rattle.system_parts.specs.declared.instance.Request.TheVariants.{Begin}

-- the item is a begin or a placed commit
abbrev pub is_stamp : Item → Bool
is_stamp (item.Begin session start) = true
is_stamp (item.Placed start commit) = true
is_stamp _ = false

abbrev pub NoStamp : Item → Type 0
NoStamp x = is_stamp x ≡ false

abbrev pub NoStamps : List Item → Type 0
NoStamps items = All NoStamp items

-- ---- which items are none
quiet_no_stamp : (x : Item) → Quiet x → NoStamp x
quiet_no_stamp (item.Begin session start) quiet = absurd (cc)
quiet_no_stamp (item.Placed start commit) quiet = absurd (cc)
quiet_no_stamp _ quiet = refl

pub quiet_no_stamps : (items : List Item) → AllQuiet items → NoStamps items
quiet_no_stamps [] quiet = All-nil NoStamp
quiet_no_stamps (x ∷ items) quiet = All-cons NoStamp x items (quiet_no_stamp x (All-head Quiet x items quiet)) (quiet_no_stamps items (All-tail Quiet x items quiet))

pub one_no_stamp : (x : Item) → NoStamp x → NoStamps (x ∷ [])
one_no_stamp x none = All-cons NoStamp x [] none (All-nil NoStamp)

pub draw_no_stamp : (node term stamp : ℕ) (request : Request) → NoStamp (draw_item node term request stamp)
draw_no_stamp node term stamp (Begin session) = refl
draw_no_stamp node term stamp (Commit session start keys) = refl

pub turn_no_stamps : (session start key : ℕ) (turn : ReadTurn) → NoStamps (read_items session start key turn)
turn_no_stamps session start key (Asks r) = All-nil NoStamp
turn_no_stamps session start key (Answers a) = one_no_stamp (item.Read session start key (found_of a.found)) refl

pub then_no_stamps : (x : Item) (items : List Item) → NoStamp x → NoStamps items → NoStamps (x ∷ items)
then_no_stamps x items one none = All-cons NoStamp x items one none

pub first_no_stamps : (x : Item) (items : List Item) → Quiet x → NoStamps items → NoStamps (x ∷ items)
first_no_stamps x items quiet none = then_no_stamps x items (quiet_no_stamp x quiet) none
