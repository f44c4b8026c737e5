use Rattle.std.proofs.Common.{◌≡◌, ◌≤◌}
use Rattle.std.specs.Prelude.{All, vec_len}
use Rattle.std.specs.Vec.{vec_capacity}
use Rattle.actor_threads.specs.Sights.{IsSightOf}
use Rattle.actor_threads.proofs.masters.open_sights.Given as goal

abbrev pub invariant-loop-one : goal.invariant-loop-one
invariant-loop-one g l =
    (l.publisher ≡ l.fn.publisher) × All (IsSightOf l.beacon) l.sights.items × (vec_len l.sights ≡ l._one) × (l.count ≤ vec_capacity l.sights)
