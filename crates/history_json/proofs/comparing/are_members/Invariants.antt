use Rattle.std.proofs.Common.{◌≡◌, ◌↔◌, ◌≤◌, length, drop}
use Rattle.serde_json.specs.View.{members_view}
use Rattle.history_json.specs.Expected.{expected_members}
use Rattle.history_json.proofs.comparing.are_members.Given as goal

abbrev pub invariant-loop-name : goal.invariant-loop-name
invariant-loop-name l = record {
  alike : (members_view l.name-iterator ≡ expected_members (drop l.place l.expected)) ↔ (members_view l.found.entries ≡ expected_members l.expected);
  within : l.place ≤ length l.expected;
}
