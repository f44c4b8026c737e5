use Rattle.turn_rules.proofs.WholePlan.{turns_are_planned_so_far}
use Rattle.turn_rules.proofs.laws.turns_are_planned_so_far.Goals as goal

pub returns : goal.returns
returns c =
    turns_are_planned_so_far (record { stay = c.events_stay_planned.ensures; told = c.events_stay_told.ensures; read = c.lines_read_clocks.ensures }) c.planned_at_first.ensures
    (λ script in_range. c.told_at_first.ensures script.setup in_range)
