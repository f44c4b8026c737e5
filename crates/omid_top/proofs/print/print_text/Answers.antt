use Rattle.std.proofs.Common.{ℕ, ◌+◌, List, take, subst}
use Rattle.port_io.specs.Ports.{Gains}
use Rattle.port_io.proofs.Pieces.{gains_both, take_rest}
use Rattle.omid_top.proofs.print.print_text.Goals as goal

pub returns-in-Err-clause-front : goal.returns-in-Err-clause-front
returns-in-Err-clause-front g c =
    let taken = c.in_ok-taken.taken in
    let sent = c.in-Err.field-0.sent in
    let further = subst (λ (bytes : List ℕ). Gains (g.K.Sink.held c.write.new.self) (g.K.Sink.held c.write_all_of.new.sink) (take sent bytes)) (take_rest taken c.args.text.now) c.in-Err.ensures.sent in
    (taken + sent, gains_both _ _ _ c.args.text.now taken sent c.in_ok-taken.ensures.taken further)
