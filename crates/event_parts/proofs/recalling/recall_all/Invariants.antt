use Rattle.std.proofs.Common.{◌≡◌}
use Rattle.system_parts.specs.KeyRead.{is_recall}
use Rattle.event_parts.specs.Recalling.{ShowsNext, remembers, recalls_left}
use Rattle.event_parts.proofs.recalling.recall_all.Given as goal

abbrev pub invariant-loop-next : goal.invariant-loop-next
invariant-loop-next l =
    (l.session.entry ≡ l.fn.session.entry)
    × (remembers l.session.cache l.run.reading l.next ≡ remembers l.fn.session.cache l.fn.run.reading l.fn.next)
    × (l.run.recalls ≡ is_recall l.next)
    × ShowsNext l.run.reading l.next
    × (l.run.learnt ≡ l.fn.run.learnt)

abbrev pub decreases-loop-next : goal.decreases-loop-next
decreases-loop-next l = recalls_left l.run.reading l.next
