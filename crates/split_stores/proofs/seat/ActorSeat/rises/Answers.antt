use Rattle.std.proofs.Common.{◌≡◌, true, subst}
use Rattle.split_stores.specs.Logs.{Logged, ticks_of, rises_above}
use Rattle.split_stores.proofs.seat.ActorSeat.rises.Goals as goal

pub returns : goal.returns
returns c = subst (λ (l : Logged). rises_above 0 (ticks_of l.entries) ≡ true) c.self.view_is c.self.invariant.0.rise
