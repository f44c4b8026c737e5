use Rattle.std.proofs.Common.{length, ◌-◌, ◌≤◌, ◌≡◌, take}
use Rattle.port_io.specs.Ports.{Gains}
use Rattle.port_io.proofs.sink.write_all_of.Given as goal

abbrev pub invariant-loop-sent : goal.invariant-loop-sent
invariant-loop-sent g l = record {
  within : l.sent ≤ length l.bytes;
  gone : Gains (g.K.Sink.held l.fn.sink) (g.K.Sink.held l.sink) (take l.sent l.bytes);
  counted : g.K.Sink.faults l.sink ≡ g.K.Sink.faults l.fn.sink;
}

abbrev pub decreases-loop-sent : goal.decreases-loop-sent
decreases-loop-sent g l = length l.bytes - l.sent
