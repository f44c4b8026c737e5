-- Which lines are sound: they name nodes that are there, and bound a tick.
use Rattle.std.specs.Prelude.{ℕ, ◌+◌, ◌≤◌}
use Rattle.history_book.specs.declared.item.Actor.{Actor}
use Rattle.history_book.specs.declared.item.Actor.TheVariants as actors
use Rattle.script_data.specs.declared.line.Target.{Target}
use Rattle.script_data.specs.declared.line.Target.TheVariants as targets
use Rattle.script_data.specs.declared.line.Verb.{Verb}
use Rattle.script_data.specs.declared.line.Verb.TheVariants as verbs
use Rattle.script_data.specs.declared.line.Line.{Line}
use Rattle.script_data.specs.Ticks.{tick_of}

-- how many nodes there must be for the actor to be there
abbrev pub actor_needs : Actor → ℕ
actor_needs (actors.Node node) = node + 1
actor_needs actors.Clock = 0
actor_needs (actors.Session session) = 0
actor_needs actors.Janitor = 0

abbrev pub target_needs : Target → ℕ
target_needs (targets.Node node) = node + 1
target_needs targets.Master = 0

-- how many nodes there must be for the node that the verb names to be one of them
abbrev pub verb_needs : Verb → ℕ
verb_needs (verbs.Begin target) = target_needs target
verb_needs (verbs.Commit target) = target_needs target
verb_needs (verbs.Submit target) = target_needs target
verb_needs (verbs.AskBegin node) = node + 1
verb_needs (verbs.AskCommit node) = node + 1
verb_needs (verbs.Sweep node txn) = node + 1
verb_needs (verbs.OpenSweep node txn) = node + 1
verb_needs _ = 0

-- the nodes that are named are there, and a tick is in its bounds
pub record VerbIsSound (nodes : ℕ) (verb : Verb) : Type 0 where
  pub needs : verb_needs verb ≤ nodes
  pub rise : tick_of verb ≤ 1000000

pub record LineIsSound (nodes : ℕ) (line : Line) : Type 0 where
  pub actor : actor_needs line.actor ≤ nodes
  pub verb : VerbIsSound nodes line.verb
