-- What the run of an actor's line looks at.
use Rattle.std.specs.Prelude.{◌≡◌, ℕ, Bool, true, false, Option, None, Some, unwrap_or}
use Rattle.history_book.specs.declared.item.Actor.{Actor}
use Rattle.history_book.specs.declared.item.Actor.TheVariants.{Clock, Janitor, Node, Session}
use Rattle.system_parts.specs.declared.instance.Place.{Place}
use Rattle.machine.specs.declared.event.Doing.{Doing}
use Rattle.machine.specs.declared.event.Doing.TheVariants.{Completing, Free, Gone, Open, Placing, Reading}
use Rattle.machine.specs.Readers.{is_commit}
use Rattle.command_semantics.specs.declared.point.View.{View}
use Rattle.split_stores.specs.declared.searching.HeldRequest.{HeldRequest}
use Rattle.split_stores.specs.Seen.{IsSearched}
use Rattle.split_driver.specs.declared.looking.Sight.{Sight}
use Rattle.split_driver.specs.declared.looking.Sight.TheVariants as sight

-- a session that waits for nothing has no request
abbrev pub may_wait : Option Doing → Bool
may_wait (Some Free) = false
may_wait (Some Open) = false
may_wait (Some Reading) = false
may_wait (Some Completing) = false
may_wait (Some Placing) = false
may_wait _ = true

-- it was seen of this actor: a request was looked for, unless the session waits for nothing
abbrev pub IsSightOf : Actor → Sight → Type 0
IsSightOf (Session session) (sight.Session doing request) = (doing.session ≡ session) × (request.session ≡ session) × (may_wait doing.doing ≡ true → IsSearched request)
IsSightOf Janitor (sight.Janitor sweep) = Unit {0}
IsSightOf Clock sight.Nothing = Unit {0}
IsSightOf (Node node) sight.Nothing = Unit {0}
IsSightOf actor seen = ⊥

abbrev pub place_found : Option HeldRequest → Option (ℕ × Place)
place_found None = None
place_found (Some held) = Some (held.node, held.place)

abbrev pub commit_found : Option HeldRequest → Bool
commit_found None = false
commit_found (Some held) = is_commit held.request

-- what the run of a line in file order sees
abbrev pub view_of : Sight → View
view_of (sight.Session doing request) = record { doing = unwrap_or doing.doing Gone; request = place_found request.found; commit = commit_found request.found; sweeping = false }
view_of (sight.Janitor sweep) = record { doing = Gone; request = None; commit = false; sweeping = sweep.is_open }
view_of sight.Nothing = record { doing = Gone; request = None; commit = false; sweeping = false }
