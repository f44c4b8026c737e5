-- The earlier item that shows a read or a refusal: where what it tells came from.
use Rattle.std.specs.Prelude.{ℕ, ◌==◌, Bool, true, false, ◌&&◌, if◌then◌else◌, Option, None, Some}
use Rattle.stamp_base.specs.declared.stores.Store.TheVariants.{Table}
use Rattle.history_book.specs.declared.cause.Cause.{Cause}
use Rattle.history_book.specs.declared.cause.Cause.TheVariants as cause
use Rattle.history_book.specs.declared.item.Actor.{Actor}
use Rattle.history_book.specs.declared.item.Actor.TheVariants.{Node, Session}
use Rattle.history_book.specs.declared.item.Found.{Found}
use Rattle.history_book.specs.declared.item.Item.{Item}
use Rattle.history_book.specs.declared.item.Item.TheVariants as item
use Rattle.history_signs.specs.Bars.{is_of_session}

abbrev pub draws_commit : ℕ → Item → Bool
draws_commit stamp (item.Draw session node term start (Some commit)) = commit == stamp
draws_commit stamp _ = false

abbrev pub takes_epoch : ℕ → Item → Bool
takes_epoch e (item.Take node reading term epoch until ceiling) = epoch == e
takes_epoch e _ = false

abbrev pub takes_term : ℕ → Item → Bool
takes_term t (item.Take node reading term epoch until ceiling) = term == t
takes_term t _ = false

abbrev pub gives_lease : ℕ → Item → Bool
gives_lease end (item.Take node reading term epoch until ceiling) = until == end
gives_lease end (item.Renew node reading term until) = until == end
gives_lease end _ = false

abbrev pub gives_ceiling : ℕ → Item → Bool
gives_ceiling end (item.Take node reading term epoch until ceiling) = ceiling == end
gives_ceiling end (item.Extend node term ceiling) = ceiling == end
gives_ceiling end _ = false

abbrev pub marks : ℕ → Item → Bool
marks t (item.Mark actor start) = start == t
marks t _ = false

-- a node crashed, or its call on the commit table failed, or that of the session which is told: it may place its own commit
abbrev pub loses_outcomes : Actor → Item → Bool
loses_outcomes actor (item.Crash node term) = true
loses_outcomes actor (item.Fault (Node node) Table) = true
loses_outcomes actor (item.Fault (Session session) Table) = is_of_session session actor
loses_outcomes actor _ = false

abbrev pub crashes : ℕ → Item → Bool
crashes n (item.Crash node term) = node == n
crashes n _ = false

abbrev pub crashes_in : ℕ → ℕ → Item → Bool
crashes_in n t (item.Crash node term) = (node == n) && (term == t)
crashes_in n t _ = false

abbrev pub session_vanishes : ℕ → Item → Bool
session_vanishes s (item.Vanish session) = session == s
session_vanishes s _ = false

-- the session vanished; nobody else does
abbrev pub vanishes : Actor → Item → Bool
vanishes (Session s) x = session_vanishes s x
vanishes _ x = false

-- the earlier item shows the cause of what the actor was refused
abbrev pub shows_cause : Actor → Cause → Item → Bool
shows_cause actor (cause.Conflict key by) x = draws_commit by x
shows_cause actor (cause.Hidden key water) x = draws_commit water x
shows_cause actor (cause.OldEpoch start epoch) x = takes_epoch epoch x
shows_cause actor (cause.Expired reading until) x = gives_lease until x
shows_cause actor (cause.Replaced found) x = takes_term found x
shows_cause actor (cause.Spent ceiling) x = gives_ceiling ceiling x
shows_cause actor (cause.NoStamp last) x = gives_ceiling last x
shows_cause actor (cause.Invalid start) x = marks start x
shows_cause actor (cause.Open start) x = loses_outcomes actor x
shows_cause actor (cause.Crashed node term) x = crashes_in node term x
shows_cause actor (cause.NotYet commit) x = draws_commit commit x
shows_cause actor (cause.NoOracle node) x = crashes node x
shows_cause actor (cause.Early reading until) x = gives_lease until x
shows_cause actor (cause.Holding term) x = takes_term term x
shows_cause actor cause.Gone x = vanishes actor x
shows_cause actor _ x = false

abbrev pub writes_key : ℕ → ℕ → Item → Bool
writes_key t k (item.Write session start key value) = (start == t) && (key == k)
writes_key t k _ = false

abbrev pub places : ℕ → Item → Bool
places t (item.Placed start commit) = start == t
places t _ = false

-- the earlier item gave the read its answer: a write of its own, or another's commit
abbrev pub gives_answer : ℕ → ℕ → Option Found → Item → Bool
gives_answer start key None x = false
gives_answer start key (Some found) x = if found.from == start then writes_key start key x else places found.from x

-- the earlier item shows the later one
abbrev pub is_shown_by : Item → Item → Bool
is_shown_by (item.Read session start key answer) x = gives_answer start key answer x
is_shown_by (item.Refused actor why) x = shows_cause actor why x
is_shown_by _ x = false
