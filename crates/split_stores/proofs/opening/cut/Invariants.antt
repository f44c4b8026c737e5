use Rattle.std.specs.Prelude.{◌≡◌, ◌+◌, [], All, vec_len}
use Rattle.split_stores.specs.Logs.{IsNew}
use Rattle.split_stores.proofs.opening.cut.Given as goal

abbrev pub invariant-loop-number : goal.invariant-loop-number
invariant-loop-number l = record {
  word : l.rest.word ≡ l.word.id;
  fresh : l.rest.drawn ≡ [];
  parts : l.rest.parts + l._number ≡ l.actors + 1;
  made : vec_len l.seats + 1 ≡ l._number;
  new : All (IsNew l.word.id) l.seats.items;
}
