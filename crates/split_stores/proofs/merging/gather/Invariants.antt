use Rattle.std.specs.Prelude.{◌≡◌, ◌+◌, ◌*◌, ◌≤◌, ◌++◌, All, vec_len}
use Rattle.std.specs.List.Sorted.{IsPermutation}
use Rattle.split_stores.specs.Logs.{ticks_of, risen_by}
use Rattle.split_stores.specs.Merging.{logs_of, drawn_by, parts_by, IsOf}
use Rattle.split_stores.proofs.merging.gather.Given as goal

abbrev pub invariant-loop-next : goal.invariant-loop-next
invariant-loop-next l = record {
  all : IsPermutation (logs_of l.fn.seats.items) (logs_of l.seats.items ++ l.entries.items);
  left : All (λ s. s.word ≡ l.word.id) l.seats.items;
  whole : IsOf l.word.id l.whole;
  parts : parts_by l.whole + vec_len l.seats ≡ vec_len l.fn.seats;
  drawn : drawn_by l.whole ≡ ticks_of l.entries.items;
  risen : risen_by l.entries.items + vec_len l.seats * 1099511627776 ≤ vec_len l.fn.seats * 1099511627776;
}

abbrev pub decreases-loop-next : goal.decreases-loop-next
decreases-loop-next l = vec_len l.seats
