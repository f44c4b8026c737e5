use Rattle.std.proofs.Common.{inl}
use Rattle.split_driver.proofs.Following.{some_entry, newest_is, opens_entry, on_stop, stops_opening}
use Rattle.split_driver.proofs.player.Player.open.Goals as goal

pub newest-entry-requires : goal.newest-entry-requires
newest-entry-requires g c = some_entry c.args.event c.args.seat.now c.make.new.seat c.in_ok-halt.ensures.enters

pub returns-clause-opens : goal.returns-clause-opens
returns-clause-opens g c = opens_entry c.args.self.now.actor c.args.verb.now c.args.seat.now c.make.new.seat c.args.account.now c.«open».new.self c.args.event c.newest-entry.result.now (newest_is c.args.event c.args.seat.now c.make.new.seat c.newest-entry.result.now c.in_ok-halt.ensures.enters c.newest-entry.ensures) c.requires.paid c.requires.first c.in_ok-open.ensures c.requires.tick

pub returns-in_err-halt-clause-stops : goal.returns-in_err-halt-clause-stops
returns-in_err-halt-clause-stops g c = on_stop c.from_residual.result _ (stops_opening c.args.self.now.actor c.args.verb.now c.args.seat.now c.make.new.seat c.args.account.now c.args.event c.requires.paid c.requires.first c.in_err-halt.ensures.enters.adds)

pub returns-in_err-open-clause-stops : goal.returns-in_err-open-clause-stops
returns-in_err-open-clause-stops g c = on_stop c.from_residual-in_err-open.result _ (stops_opening c.args.self.now.actor c.args.verb.now c.args.seat.now c.make.new.seat c.args.account.now c.args.event c.requires.paid c.requires.first (inl c.in_ok-halt.ensures.enters))

pub returns-then-is_lost-clause-stops : goal.returns-then-is_lost-clause-stops
returns-then-is_lost-clause-stops g c = stops_opening c.args.self.now.actor c.args.verb.now c.args.seat.now c.make.new.seat c.args.account.now c.args.event c.requires.paid c.requires.first (inl c.in_ok-halt.ensures.enters)
