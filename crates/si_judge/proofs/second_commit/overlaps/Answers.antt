use Rattle.si_judge.proofs.second_commit.overlaps.Goals as goal

pub returns-then-meet : goal.returns-then-meet
returns-then-meet c = λ h held.
    let apart = c.meet.ensures.0 c.if-meet.true in
    let shares = c.has.ensures h c.args.start held in
    rw c.in-Placed.is (λ e. (apart.0, apart.1, apart.2, shares.0 e), λ over. shares.1 over.3)
