-- What a share was before its actor's thread began, and what comes back.
use Rattle.std.specs.Prelude.{◌≡◌, ◌≤◌}
use Rattle.thread_steps.specs.Done.{Done}
use Rattle.actor_threads.specs.declared.before.Before.{Before}

abbrev pub done_of : Before → Done
done_of before = record { actor = before.actor; amount = before.done; aim = before.aim }

-- the share's count never falls, and its actor stays; it may be aimed at another node
pub record ComesBack (mine back : Done) : Type 0 where
  pub actor : back.actor ≡ mine.actor
  pub amount : mine.amount ≤ back.amount
