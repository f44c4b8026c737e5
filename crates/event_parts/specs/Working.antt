-- What the answer to the next step makes of a client, whatever it has under way, and what a failure makes of it.
use Rattle.std.specs.Prelude.{◌≡◌, ℕ, Bool, true, false, List, [], ◌∷◌, Option, None, Some}
use Rattle.history_book.specs.declared.item.Item.{Item}
use Rattle.system_parts.specs.declared.asks.Told.{Told}
use Rattle.system_parts.specs.Resolve.{Settling, settle_turn}
use Rattle.system_parts.specs.KeyRead.{Reading, ReadTurn, Asks, Answers}
use Rattle.system_parts.specs.Cache.{Cache, cache_learnt, learnt_by}
use Rattle.system_parts.specs.Recalled.{Remembering, recalled_told}
use Rattle.machine.specs.State.{UnderWay, Nothing, Reads, Settles, Completes, Client}
use Rattle.machine.specs.Clients.{client_freed}
pub use Rattle.machine.specs.Calls.{MayStep}
use Rattle.machine.specs.Events.Fetch.{client_recalled, client_put_fresh, read_items}
use Rattle.machine.specs.Events.Step.{client_settled, settle_items, after_asks}

-- what a step of a read comes to: it learns what the answer decides for good, and goes on over what is kept
abbrev pub told_over : Cache → Reading → Told → Remembering
told_over cache r answer = recalled_told (cache_learnt cache (learnt_by r answer)) r answer

-- before its step, a read puts a fresh decision with those that are kept
abbrev pub client_ready : Client → UnderWay → Client
client_ready c (Reads r) = client_put_fresh c
client_ready c _ = c

-- no decision of a read is fresh, so that its step may learn one
abbrev pub IsReady : Client → UnderWay → Type 0
IsReady c (Reads r) = c.cache.fresh ≡ None
IsReady c _ = Unit {0}

-- the answer leads what is under way on, or ends it; where there is no next step, nothing changes
abbrev pub client_told : Client → UnderWay → Told → Client
client_told c Nothing answer = record c { under_way = Nothing }
client_told c (Reads r) answer = client_recalled c (told_over c.cache r answer)
client_told c (Settles x) answer = client_settled c x (settle_turn x answer)
client_told c (Completes []) answer = record c { under_way = Completes [] }
client_told c (Completes (asked ∷ asks)) answer = after_asks c asks

-- the item of what the answer decides, if it decides anything
abbrev pub told_items : ℕ → Client → UnderWay → Told → List Item
told_items session c (Reads r) answer = read_items session r.start r.key (told_over c.cache r answer).0
told_items session c (Settles x) answer = settle_items session c.entry.start (settle_turn x answer)
told_items session c _ answer = []

-- a failed step ends what is under way, and a completion frees its session
abbrev pub client_failed : Client → UnderWay → Client
client_failed c (Completes asks) = client_freed c
client_failed c _ = record c { under_way = Nothing }

-- the shadow that a read offers
abbrev pub offered_by : ReadTurn → Option (ℕ × ℕ × ℕ)
offered_by (Asks r) = None
offered_by (Answers a) = a.heal

-- a resolve of the own commit is under way, or nothing
abbrev pub settles : Option Settling → UnderWay
settles None = Nothing
settles (Some x) = Settles x

abbrev pub is_nothing : UnderWay → Bool
is_nothing Nothing = true
is_nothing _ = false
