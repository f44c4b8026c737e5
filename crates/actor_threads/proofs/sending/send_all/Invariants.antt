use Rattle.std.proofs.Common.{◌≡◌, ◌≤◌, ◌+◌, length}
use Rattle.std.specs.Prelude.{vec_len, All}
use Rattle.std.specs.Vec.{vec_capacity}
use Rattle.reply_pipeline.specs.Seats.{IsSenderPass}
use Rattle.actor_threads.specs.Sights.{IsSightOf}
use Rattle.actor_threads.proofs.sending.send_all.Given as goal

abbrev pub invariant-loop-mine : goal.invariant-loop-mine
invariant-loop-mine g l =
    All (IsSenderPass l.shared.queues.now) l.senders.items
    × (vec_len l.senders + length l.yielded ≡ vec_len l.fn.shares)
    × All (IsSightOf l.shared.beacon.now) l.sights.items
    × (vec_len l.sights + length l.yielded ≡ vec_len l.fn.shares)
    × (vec_len l.fn.shares ≤ vec_capacity l.sent)
    × (l.sent.items ≡ l.yielded)
