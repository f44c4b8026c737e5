-- How many asks at a node are open: asked, and neither answered, handed over, refused for good, nor lost by a crash.
use Rattle.std.specs.Prelude.{ℕ, zero, suc, ◌+◌, ◌==◌, Bool, true, false, ◌&&◌, if◌then◌else◌, List}
use Rattle.std.specs.List.{fold}
use Rattle.history_book.specs.declared.cause.Cause.{Cause}
use Rattle.history_book.specs.declared.cause.Cause.TheVariants as cause
use Rattle.history_book.specs.declared.item.Actor.{Actor}
use Rattle.history_book.specs.declared.item.Actor.TheVariants.{Session}
use Rattle.history_book.specs.declared.item.StoreStep.TheVariants.{Handed}
use Rattle.history_book.specs.declared.item.Item.{Item}
use Rattle.history_book.specs.declared.item.Item.TheVariants as item

-- the refusal ends the request that it is told to
abbrev pub ends_request : Cause → Bool
ends_request (cause.Conflict key by) = true
ends_request (cause.Hidden key water) = true
ends_request (cause.OldEpoch start epoch) = true
ends_request (cause.Expired reading until) = true
ends_request (cause.Replaced found) = true
ends_request (cause.Spent ceiling) = true
ends_request (cause.Invalid start) = true
ends_request (cause.Open start) = true
ends_request (cause.Crashed node term) = true
ends_request _ = false

abbrev pub is_session : ℕ → Actor → Bool
is_session s (Session session) = session == s
is_session s _ = false

-- the item closes what the session has asked of the node
abbrev pub closes : ℕ → ℕ → Item → Bool
closes n s (item.Begin session start) = session == s
closes n s (item.Committed session start commit) = session == s
closes n s (item.Step actor (Handed start commit)) = is_session s actor
closes n s (item.Refused actor why) = is_session s actor && ends_request why
closes n s (item.Crash node term) = node == n
closes n s _ = false

-- the item is an ask of the session at the node
abbrev pub asks_at : ℕ → ℕ → Item → Bool
asks_at n s (item.AskBegin session node) = (session == s) && (node == n)
asks_at n s (item.AskCommit session node start) = (session == s) && (node == n)
asks_at n s _ = false

abbrev pub open_then : ℕ → ℕ → ℕ → Item → ℕ
open_then n s count x = if asks_at n s x then suc count else if closes n s x then 0 else count

-- how many asks of the session at the node are open
abbrev pub open_asks_of : List Item → ℕ → ℕ → ℕ
open_asks_of h n s = fold (open_then n s) 0 h

-- of so many sessions, from this one on
unfoldable pub open_asks_from : List Item → ℕ → ℕ → ℕ → ℕ
open_asks_from h n s zero = 0
open_asks_from h n s (suc more) = open_asks_of h n s + open_asks_from h n (suc s) more

-- how many asks at the node are open, of all 16 sessions
abbrev pub open_asks : List Item → ℕ → ℕ
open_asks h n = open_asks_from h n 0 16
