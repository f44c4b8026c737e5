use Rattle.std.specs.Prelude.{◌≡◌, ◌+◌, ◌≤◌, ◌++◌, ◌∷◌, vec_len}
use Rattle.history_book.specs.declared.item.Actor.TheVariants.{Clock, Node, Session, Janitor}
use Rattle.session_script.specs.Script.{data_of}
use Rattle.turn_rules.specs.Seats.{first_seat, seats_of}
use Rattle.thread_scripts.specs.Actors.{with_lines}
use Rattle.thread_scripts.proofs.actors.actors_with_lines.Given as goal

abbrev pub invariant-loop-node : goal.invariant-loop-node
invariant-loop-node l = record {
  actors : l.actors.items ≡ with_lines (data_of l.script) (first_seat Clock ∷ first_seat Janitor ∷ seats_of (λ n. Node n) l.node);
  few : vec_len l.actors ≤ 2 + l.node;
}

abbrev pub invariant-loop-session : goal.invariant-loop-session
invariant-loop-session l = record {
  actors : l.actors.items ≡ with_lines (data_of l.script) (first_seat Clock ∷ first_seat Janitor ∷ seats_of (λ n. Node n) l.script.setup.nodes ++ seats_of (λ s. Session s) l.session);
  few : vec_len l.actors ≤ 10 + l.session;
}
