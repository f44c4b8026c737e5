-- What a step does to the share of its actor.
use Rattle.std.specs.Prelude.{◌≡◌, ◌≤◌}
use Rattle.thread_steps.specs.Done.{Done}

-- the share's count never falls, and its actor and its aim stay
pub record GoesOn (mine now : Done) : Type 0 where
  pub actor : now.actor ≡ mine.actor
  pub amount : mine.amount ≤ now.amount
  pub aim : now.aim ≡ mine.aim
