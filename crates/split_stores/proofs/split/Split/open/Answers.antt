use Rattle.std.proofs.Common.{sym, subst}
use Rattle.std.specs.Prelude.{All}
use Rattle.split_stores.specs.Logs.{IsNew}
use Rattle.split_stores.proofs.split.Split.open.Goals as goal

pub returns-clause-seats : goal.returns-clause-seats
returns-clause-seats c = subst (λ id. All (IsNew id) c.in_ok-seats.seats.items) (sym c.in_ok-split.ensures.word.0) c.in_ok-seats.ensures.new
