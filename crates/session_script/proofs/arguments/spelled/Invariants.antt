use Rattle.std.proofs.Common.{◌≡◌, ◌<◌, ◌^◌, drop}
use Rattle.session_script.specs.Arguments.{spelled_from}
use Rattle.session_script.proofs.arguments.spelled.Given as goal

abbrev pub invariant-loop-b : goal.invariant-loop-b
invariant-loop-b l = record {
  spelled : spelled_from l.number (drop l.b-index l.word) ≡ spelled_from 0 l.word;
  small : l.number < 10 ^ l.b-index;
}
