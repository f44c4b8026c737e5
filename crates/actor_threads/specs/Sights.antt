-- Who is told on a beacon, what a session sees of it, and where it aims its share.
use Rattle.std.specs.Prelude.{◌≡◌, ℕ, Option, None, Some}
use Rattle.history_book.specs.declared.item.Actor.{Actor}
use Rattle.history_book.specs.declared.item.Actor.TheVariants.{Node}
use Rattle.script_data.specs.declared.line.Verb.{Verb}
use Rattle.script_data.specs.declared.line.Verb.TheVariants.{Take}
use Rattle.thread_steps.specs.Done.{Done, aimed_at}
use Rattle.master_beacon.specs.declared.rule.Announced.{Announced}
use Rattle.master_beacon.specs.Holds.{TableId, Sight}

-- the pass is one of the beacon
abbrev pub IsSightOf : TableId → Sight → Type 0
IsSightOf beacon sight = sight.beacon ≡ beacon

-- the share is aimed at the node of the pair, if there is one
abbrev pub aimed_by : Option Announced → Done → Done
aimed_by None share = share
aimed_by (Some pair) share = aimed_at pair.node share

-- the node that the actor's line takes the master record for
abbrev pub taken_by : Actor → Verb → Option ℕ
taken_by (Node node) Take = Some node
taken_by actor verb = None
