use Rattle.std.proofs.Common.{◌≡◌, ◌+◌, ◌≤◌, ◌++◌, ◌∷◌, take}
use Rattle.history_book.specs.declared.item.Item.TheVariants.{Crash}
use Rattle.machine.specs.Events.Crash.{crashed_clients, all_crashed_items}
use Rattle.node_events.proofs.crashing.lose_all.Given as goal

abbrev pub invariant-loop-i : goal.invariant-loop-i
invariant-loop-i l = record {
  room : 16 ≤ l.book.room + l.i;
  spare : l.book.spare ≡ l.fn.book.spare;
  clients : l.clients ≡ crashed_clients (take l.i l.instance.requests) l.fn.clients;
  items : l.book.items ≡ l.fn.book.items ++ (Crash l.node l.instance.term ∷ all_crashed_items l.node l.instance.term (take l.i l.instance.requests) l.fn.clients);
}
