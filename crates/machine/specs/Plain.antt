-- Items that say nothing of requests and instances, and those that no fact reads either.
use Rattle.std.specs.Prelude.{Bool, true, false, IsTrue, if◌then◌else◌, List, All, Option, None, Some}
use Rattle.history_book.specs.declared.cause.Cause.{Cause}
use Rattle.history_book.specs.declared.item.Actor.TheVariants.{Node}
use Rattle.history_book.specs.declared.item.StoreStep.TheVariants.{Handed}
use Rattle.history_book.specs.declared.item.Item.{Item}
use Rattle.history_book.specs.declared.item.Item.TheVariants as item
use Rattle.cause_rules.specs.OpenAsks.{ends_request}
use Rattle.machine.specs.Quiet.{Quiet}

-- ---- items that say nothing of requests and instances
abbrev pub is_silent : Item → Bool
is_silent (item.AskBegin session node) = false
is_silent (item.AskCommit session node start) = false
is_silent (item.Accept session node term reading) = false
is_silent (item.Draw session node term start commit) = false
is_silent (item.Begin session start) = false
is_silent (item.Committed session start commit) = false
is_silent (item.Take node reading term epoch until ceiling) = false
is_silent (item.Crash node term) = false
is_silent (item.Step actor (Handed start commit)) = false
is_silent (item.Refused (Node node) why) = true
is_silent (item.Refused actor why) = if ends_request why then false else true
is_silent _ = true

abbrev pub Silent : Item → Type 0
Silent x = IsTrue (is_silent x)

abbrev pub AllSilent : List Item → Type 0
AllSilent items = All Silent items

-- ---- both quiet and silent
abbrev pub Plain : Item → Type 0
Plain x = Quiet x × Silent x

abbrev pub AllPlain : List Item → Type 0
AllPlain items = All Plain items

-- ---- refusals that end no request
abbrev pub Mild : Option Cause → Type 0
Mild None = Unit {0}
Mild (Some why) = IsTrue (if ends_request why then false else true)
