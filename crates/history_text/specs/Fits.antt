-- Which items their types have: each number, value and name is in its range.
use Rattle.std.specs.Prelude.{ℕ, Option, None, Some}
use Rattle.stamp_base.specs.Ranges.{IsNumber, IsStamp, IsTerm, IsNode, IsSession, IsKey}
use Rattle.stamp_base.specs.Words.{IsValue, IsName}
use Rattle.stamp_base.specs.declared.stores.Mark.{Mark}
use Rattle.stamp_base.specs.declared.stores.Mark.TheVariants as mark
use Rattle.history_book.specs.declared.item.Actor.{Actor}
use Rattle.history_book.specs.declared.item.Actor.TheVariants.{Clock, Node, Session, Janitor}
use Rattle.history_book.specs.declared.item.Note.{Note}
use Rattle.history_book.specs.declared.item.Note.TheVariants.{Post, Await, Hold, Free}
use Rattle.history_book.specs.declared.item.Found.{Found}
use Rattle.history_book.specs.declared.item.Seen.{Seen}
use Rattle.history_book.specs.declared.item.Seen.TheVariants as seen
use Rattle.history_book.specs.declared.item.StoreStep.{StoreStep}
use Rattle.history_book.specs.declared.item.StoreStep.TheVariants as step
use Rattle.history_book.specs.declared.cause.Cause.{Cause}
use Rattle.history_book.specs.declared.cause.Cause.TheVariants as cause
use Rattle.history_book.specs.declared.item.Item.{Item}
use Rattle.history_book.specs.declared.item.Item.TheVariants as item

abbrev pub FitsActor : Actor → Type 0
FitsActor Clock = Unit {0}
FitsActor (Node node) = IsNode node
FitsActor (Session session) = IsSession session
FitsActor Janitor = Unit {0}

abbrev pub FitsNote : Note → Type 0
FitsNote (Post name) = IsName name
FitsNote (Await name) = IsName name
FitsNote (Hold stage) = Unit {0}
FitsNote (Free stage) = Unit {0}

abbrev pub FitsAnswer : Option Found → Type 0
FitsAnswer None = Unit {0}
FitsAnswer (Some found) = IsStamp found.from × IsValue found.value

abbrev pub FitsCommit : Option ℕ → Type 0
FitsCommit None = Unit {0}
FitsCommit (Some commit) = IsStamp commit

abbrev pub FitsMark : Mark → Type 0
FitsMark (mark.Committed commit) = IsStamp commit
FitsMark mark.Invalid = Unit {0}

abbrev pub FitsEntry : Option Mark → Type 0
FitsEntry None = Unit {0}
FitsEntry (Some mark) = FitsMark mark

abbrev pub FitsSeen : Seen → Type 0
FitsSeen seen.Bare = Unit {0}
FitsSeen seen.Gone = Unit {0}
FitsSeen (seen.Commit commit) = IsStamp commit

abbrev pub FitsStep : StoreStep → Type 0
FitsStep (step.Fetch key cells) = IsKey key × IsNumber cells
FitsStep (step.Get txn answer) = IsStamp txn × FitsEntry answer
FitsStep (step.MarkFound txn mark) = IsStamp txn × FitsMark mark
FitsStep (step.Look key txn answer) = IsKey key × IsStamp txn × FitsSeen answer
FitsStep (step.Shadow key txn commit) = IsKey key × IsStamp txn × IsStamp commit
FitsStep (step.Remove txn) = IsStamp txn
FitsStep (step.Erase key txn) = IsKey key × IsStamp txn
FitsStep (step.Keys txn count) = IsStamp txn × IsNumber count
FitsStep (step.PutFound txn) = IsStamp txn
FitsStep (step.Handed txn commit) = IsStamp txn × IsStamp commit

abbrev pub FitsCause : Cause → Type 0
FitsCause (cause.Conflict key by) = IsKey key × IsStamp by
FitsCause (cause.Hidden key water) = IsKey key × IsNumber water
FitsCause (cause.OldEpoch start epoch) = IsStamp start × IsNumber epoch
FitsCause (cause.Expired reading until) = IsNumber reading × IsNumber until
FitsCause (cause.Replaced found) = IsNumber found
FitsCause (cause.Spent ceiling) = IsNumber ceiling
FitsCause (cause.NoStamp last) = IsNumber last
FitsCause (cause.Invalid start) = IsStamp start
FitsCause (cause.Open start) = IsStamp start
FitsCause (cause.Crashed node term) = IsNode node × IsTerm term
FitsCause (cause.NotYet commit) = IsStamp commit
FitsCause (cause.NoRequest session) = IsSession session
FitsCause (cause.NoOracle node) = IsNode node
FitsCause (cause.Full in_flight) = IsNumber in_flight
FitsCause (cause.Early reading until) = IsNumber reading × IsNumber until
FitsCause (cause.Holding term) = IsTerm term
FitsCause cause.NoTransaction = Unit {0}
FitsCause cause.Busy = Unit {0}
FitsCause cause.TooManyKeys = Unit {0}
FitsCause cause.Gone = Unit {0}
FitsCause cause.Idle = Unit {0}
FitsCause (cause.Undecided start epoch) = IsStamp start × IsNumber epoch

abbrev pub FitsItem : Item → Type 0
FitsItem (item.Tick to) = IsNumber to
FitsItem (item.Note actor note) = FitsActor actor × FitsNote note
FitsItem (item.Take node reading term epoch until ceiling) = IsNode node × IsNumber reading × IsTerm term × IsNumber epoch × IsNumber until × IsNumber ceiling
FitsItem (item.Renew node reading term until) = IsNode node × IsNumber reading × IsTerm term × IsNumber until
FitsItem (item.Extend node term ceiling) = IsNode node × IsTerm term × IsNumber ceiling
FitsItem (item.AskBegin session node) = IsSession session × IsNode node
FitsItem (item.AskCommit session node start) = IsSession session × IsNode node × IsStamp start
FitsItem (item.Accept session node term reading) = IsSession session × IsNode node × IsTerm term × IsNumber reading
FitsItem (item.Draw session node term start commit) = IsSession session × IsNode node × IsTerm term × IsStamp start × FitsCommit commit
FitsItem (item.Begin session start) = IsSession session × IsStamp start
FitsItem (item.Write session start key value) = IsSession session × IsStamp start × IsKey key × IsValue value
FitsItem (item.Read session start key answer) = IsSession session × IsStamp start × IsKey key × FitsAnswer answer
FitsItem (item.Placed start commit) = IsStamp start × IsStamp commit
FitsItem (item.Committed session start commit) = IsSession session × IsStamp start × IsStamp commit
FitsItem (item.Mark actor start) = FitsActor actor × IsStamp start
FitsItem (item.Step actor what) = FitsActor actor × FitsStep what
FitsItem (item.End session start how) = IsSession session × IsStamp start
FitsItem (item.Refused actor cause) = FitsActor actor × FitsCause cause
FitsItem (item.Fault actor store) = FitsActor actor
FitsItem (item.Crash node term) = IsNode node × IsTerm term
FitsItem (item.Vanish session) = IsSession session
