use Rattle.std.proofs.Common.{inl}
use Rattle.split_driver.proofs.Following.{some_entry, newest_is, plain_entry, on_stop, stops_plain}
use Rattle.split_driver.proofs.player.Player.open_plain.Goals as goal

pub newest-entry-requires : goal.newest-entry-requires
newest-entry-requires g c = some_entry c.args.event c.args.seat.now c.make.new.seat c.in_ok-halt.ensures.enters

pub returns-clause-opens : goal.returns-clause-opens
returns-clause-opens g c = λ verb first. plain_entry c.args.self.now.actor verb c.args.seat.now c.make.new.seat c.args.account.now c.go_on.new.self c.args.event c.newest-entry.result.now (newest_is c.args.event c.args.seat.now c.make.new.seat c.newest-entry.result.now c.in_ok-halt.ensures.enters c.newest-entry.ensures) c.requires.paid first c.in_ok-go_on.ensures c.requires.tick

pub returns-in_err-halt-clause-stops : goal.returns-in_err-halt-clause-stops
returns-in_err-halt-clause-stops g c = on_stop c.from_residual.result _ (λ verb first. stops_plain c.args.self.now.actor verb c.args.seat.now c.make.new.seat c.args.account.now c.args.event c.requires.paid first c.in_err-halt.ensures.enters.adds)

pub returns-in_err-go_on-clause-stops : goal.returns-in_err-go_on-clause-stops
returns-in_err-go_on-clause-stops g c = on_stop c.from_residual-in_err-go_on.result _ (λ verb first. stops_plain c.args.self.now.actor verb c.args.seat.now c.make.new.seat c.args.account.now c.args.event c.requires.paid first (inl c.in_ok-halt.ensures.enters))

pub returns-then-is_lost-clause-stops : goal.returns-then-is_lost-clause-stops
returns-then-is_lost-clause-stops g c = λ verb first. stops_plain c.args.self.now.actor verb c.args.seat.now c.make.new.seat c.args.account.now c.args.event c.requires.paid first (inl c.in_ok-halt.ensures.enters)
