use Rattle.std.proofs.Common.{inl}
use Rattle.split_driver.proofs.Following.{later_rises, some_entry, newest_is, goes_on_entry, on_stop, stops_on}
use Rattle.split_driver.proofs.player.Player.go_on.Goals as goal

pub make-requires-clause-rises : goal.make-requires-clause-rises
make-requires-clause-rises g c = λ lifetimes within. later_rises c.args.self.now.actor c.args.event c.args.seat.now.entries c.requires.later

pub newest-entry-requires : goal.newest-entry-requires
newest-entry-requires g c = some_entry c.args.event c.args.seat.now c.make.new.seat c.in_ok-halt.ensures.enters

pub returns-clause-on : goal.returns-clause-on
returns-clause-on g c = goes_on_entry c.args.self.now.actor c.args.seat.now c.make.new.seat c.args.account.now c.go_on.new.self c.args.event c.newest-entry.result.now (newest_is c.args.event c.args.seat.now c.make.new.seat c.newest-entry.result.now c.in_ok-halt.ensures.enters c.newest-entry.ensures) c.requires.later c.in_ok-go_on.ensures

pub returns-in_err-halt-clause-stops : goal.returns-in_err-halt-clause-stops
returns-in_err-halt-clause-stops g c = on_stop c.from_residual.result _ (stops_on c.args.self.now.actor c.args.seat.now c.make.new.seat c.args.account.now c.args.event c.requires.later c.in_err-halt.ensures.enters.adds)

pub returns-in_err-go_on-clause-stops : goal.returns-in_err-go_on-clause-stops
returns-in_err-go_on-clause-stops g c = on_stop c.from_residual-in_err-go_on.result _ (stops_on c.args.self.now.actor c.args.seat.now c.make.new.seat c.args.account.now c.args.event c.requires.later (inl c.in_ok-halt.ensures.enters))

pub returns-then-is_lost-clause-stops : goal.returns-then-is_lost-clause-stops
returns-then-is_lost-clause-stops g c = stops_on c.args.self.now.actor c.args.seat.now c.make.new.seat c.args.account.now c.args.event c.requires.later (inl c.in_ok-halt.ensures.enters)
