-- The bars of a picture: a transaction's from its begin to its end, and a lease's from its grant to its end by the base clock.
use Rattle.std.specs.Prelude.{ℕ, zero, suc, ◌+◌, ◌==◌, Bool, true, false, ◌&&◌, if◌then◌else◌, leb, List, [], ◌∷◌, Option, None, Some, drop}
use Rattle.history_book.specs.declared.cause.Cause.{Cause}
use Rattle.history_book.specs.declared.cause.Cause.TheVariants as cause
use Rattle.history_book.specs.declared.item.Actor.{Actor}
use Rattle.history_book.specs.declared.item.Actor.TheVariants.{Session}
use Rattle.history_book.specs.declared.item.Ending.{Ending}
use Rattle.history_book.specs.declared.item.Ending.TheVariants as ending
use Rattle.history_book.specs.declared.item.Item.{Item}
use Rattle.history_book.specs.declared.item.Item.TheVariants as item
use Rattle.history_signs.specs.declared.bar.Bar.{Bar}
use Rattle.history_signs.specs.declared.bar.BarKind.{BarKind}
use Rattle.history_signs.specs.declared.bar.BarKind.TheVariants as kind

-- a commit that is refused by this cause will not be placed, or is of no use to the session any more; after an open outcome
-- the transaction goes on
abbrev pub ends_transaction : Cause → Bool
ends_transaction (cause.Conflict key by) = true
ends_transaction (cause.Hidden key water) = true
ends_transaction (cause.OldEpoch start epoch) = true
ends_transaction (cause.Expired reading until) = true
ends_transaction (cause.Replaced found) = true
ends_transaction (cause.Spent ceiling) = true
ends_transaction (cause.Invalid start) = true
ends_transaction _ = false

abbrev pub is_of_session : ℕ → Actor → Bool
is_of_session s (Session session) = session == s
is_of_session s _ = false

abbrev pub kind_of : Ending → BarKind
kind_of ending.ReadOnly = kind.Committed
kind_of ending.Aborted = kind.Aborted
kind_of ending.Dead = kind.Dead

abbrev pub if_so : Bool → BarKind → Option BarKind
if_so holds found = if holds then Some found else None

-- how the item ends the transaction that the session has: told, refused, or left for another, which tells nothing of its end
abbrev pub ends_for : ℕ → Item → Option BarKind
ends_for s (item.Committed session start commit) = if_so (session == s) kind.Committed
ends_for s (item.End session start how) = if_so (session == s) (kind_of how)
ends_for s (item.Refused actor why) = if_so (is_of_session s actor && ends_transaction why) kind.Refused
ends_for s (item.Begin session start) = if_so (session == s) kind.Open
ends_for s _ = None

-- the item ends the lease that the node has until then: another grant, a crash, or the base clock
abbrev pub ends_lease : ℕ → ℕ → Item → Option BarKind
ends_lease n until (item.Take node reading term epoch end ceiling) = if_so (node == n) kind.Lease
ends_lease n until (item.Renew node reading term end) = if_so (node == n) kind.Lease
ends_lease n until (item.Crash node term) = if_so (node == n) kind.Lease
ends_lease n until (item.Tick to) = if_so (leb until to) kind.Lease
ends_lease n until _ = None

-- how the item ends the bar that the first one opens
abbrev pub closing : Item → Item → Option BarKind
closing (item.Begin session start) x = ends_for session x
closing (item.Take node reading term epoch until ceiling) x = ends_lease node until x
closing (item.Renew node reading term until) x = ends_lease node until x
closing _ x = None

-- ---- where a bar ends that no item ends
-- one of the transaction's own items, behind its begin
abbrev pub is_own : ℕ → ℕ → Item → Bool
is_own s t (item.Write session start key value) = (session == s) && (start == t)
is_own s t (item.Read session start key answer) = (session == s) && (start == t)
is_own s t (item.AskCommit session node start) = (session == s) && (start == t)
is_own s t _ = false

abbrev pub places : ℕ → Item → Bool
places t (item.Placed start commit) = start == t
places t _ = false

-- a transaction whose end is not told is committed where its commit was placed, and else open up to its own last item
abbrev pub goes_as : BarKind → ℕ → ℕ → Item → ℕ → Bar → Bar
goes_as kind.Open s t x place bar = if places t x then record { to = place; kind = kind.Committed } else if is_own s t x then record { to = place; kind = kind.Open } else bar
goes_as _ s t x place bar = bar

abbrev pub goes_to : ℕ → ℕ → Item → ℕ → Bar → Bar
goes_to s t x place bar = goes_as bar.kind s t x place bar

-- the bar so far, behind one more item that does not end it; a lease goes on past it
abbrev pub onward : Item → Item → ℕ → Bar → Bar
onward (item.Begin session start) x place bar = goes_to session start x place bar
onward _ x place bar = record bar { to = place + 1 }

-- Where another begin of its session stands before the end of the transaction t, as in histories of others, only the transaction's own
-- items and its commit tell of it from there on: of so many items
unfoldable pub own_to : ℕ → ℕ → ℕ → Bar → ℕ → List Item → Bar
own_to zero s t bar place xs = bar
own_to (suc left) s t bar place [] = bar
own_to (suc left) s t bar place (x ∷ xs) = own_to left s t (goes_to s t x place bar) (place + 1) xs

abbrev pub left_to : Item → Bar → ℕ → List Item → Bar
left_to (item.Begin session start) bar place xs = own_to 2000 session start bar place xs
left_to _ bar place xs = bar

-- an item ends the bar, or tells that another transaction has the session; behind it stand these
abbrev pub ended : Item → BarKind → ℕ → Bar → List Item → Bar
ended opener kind.Open place bar xs = left_to opener bar (place + 1) xs
ended opener found place bar xs = record { to = place; kind = found }

abbrev pub bar_or : Item → Option BarKind → ℕ → Bar → List Item → Bar → Bar
bar_or opener None place bar xs rest = rest
bar_or opener (Some found) place bar xs rest = ended opener found place bar xs

-- the bar so far, and on over these items, the first of which stands at the place
unfoldable pub bar_to : Item → Bar → ℕ → List Item → Bar
bar_to opener bar place [] = bar
bar_to opener bar place (x ∷ xs) = bar_or opener (closing opener x) place bar xs (bar_to opener (onward opener x place bar) (place + 1) xs)

-- the bar that the item at the place opens, where it opens one
abbrev pub bar_of : List Item → ℕ → Item → Option Bar
bar_of items place (item.Begin session start) = Some (bar_to (item.Begin session start) (record { to = place; kind = kind.Open }) (place + 1) (drop (place + 1) items))
bar_of items place (item.Take node reading term epoch until ceiling) = Some (bar_to (item.Take node reading term epoch until ceiling) (record { to = place; kind = kind.Lease }) (place + 1) (drop (place + 1) items))
bar_of items place (item.Renew node reading term until) = Some (bar_to (item.Renew node reading term until) (record { to = place; kind = kind.Lease }) (place + 1) (drop (place + 1) items))
bar_of items place _ = None
