use Rattle.std.proofs.Common.{◌≡◌, take}
use Rattle.port_io.specs.Ports.{Gains}
use Rattle.history_json.specs.Json.{json_printed}
use Rattle.omid_top.proofs.print.print_json.Given as goal

abbrev pub invariant-loop-item : goal.invariant-loop-item
invariant-loop-item g l = record {
  gone : Gains (g.K.Sink.held l.fn.sink) (g.K.Sink.held l.sink) (json_printed (take l.item-index l.items));
  worked : g.K.Sink.faults l.sink ≡ g.K.Sink.faults l.fn.sink;
}
