use Rattle.split_parts.proofs.Names.{rules, refl, ap, ◌∙◌, opening, seen}
use Rattle.split_parts.proofs.Filled.{Swap, Swapped, Round, IsMade, IsBack, calls_fit_then, can_make_then, leases_still, back_as_before, acts_by, on_err}
use Rattle.split_parts.proofs.acting.act_timed.Goals as goal

pub make-made-requires-clause-calls : goal.make-made-requires-clause-calls
make-made-requires-clause-calls c =
    let swap : Swap = record { lent = seen c.args.lent.now; set_in = seen c.new_name.new.self; left = seen c.swap.new.self; opened = c.in_ok-engine.engine.state; full = c.swap.new.engine.state } in
    let swapped : Swapped swap = record { setup = c.in_ok-engine.ensures.state ∙ ap opening c.requires.setup; same = c.new_name.ensures.parts; state = c.swap.ensures.state; parts = c.swap.ensures.parts } in
    calls_fit_then swap c.args.event.now swapped c.requires.calls

pub make-made-requires-clause-can : goal.make-made-requires-clause-can
make-made-requires-clause-can c =
    let swap : Swap = record { lent = seen c.args.lent.now; set_in = seen c.new_name.new.self; left = seen c.swap.new.self; opened = c.in_ok-engine.engine.state; full = c.swap.new.engine.state } in
    let swapped : Swapped swap = record { setup = c.in_ok-engine.ensures.state ∙ ap opening c.requires.setup; same = c.new_name.ensures.parts; state = c.swap.ensures.state; parts = c.swap.ensures.parts } in
    can_make_then swap c.args.event.now swapped c.requires.can

pub swap-requires-2 : goal.swap-requires-2
swap-requires-2 c =
    let swap : Swap = record { lent = seen c.args.lent.now; set_in = seen c.new_name.new.self; left = seen c.swap.new.self; opened = c.in_ok-engine.engine.state; full = c.swap.new.engine.state } in
    let swapped : Swapped swap = record { setup = c.in_ok-engine.ensures.state ∙ ap opening c.requires.setup; same = c.new_name.ensures.parts; state = c.swap.ensures.state; parts = c.swap.ensures.parts } in
    let round : Round = record { swap = swap; event = c.args.event.now; old = c.swap.new.engine; now = c.make-made.new.engine; after = seen c.make-made.new.self } in
    let made : IsMade round c.make-made.result = record { swapped = swapped; full = refl; made = c.make-made.ensures.made; counted = c.make-made.ensures.parts } in
    leases_still round c.make-made.result made c.requires.leases

pub returns-in_err-stopped-clause-refused : goal.returns-in_err-stopped-clause-refused
returns-in_err-stopped-clause-refused c =
    let swap : Swap = record { lent = seen c.args.lent.now; set_in = seen c.new_name.new.self; left = seen c.swap.new.self; opened = c.in_ok-engine.engine.state; full = c.swap.new.engine.state } in
    let swapped : Swapped swap = record { setup = c.in_ok-engine.ensures.state ∙ ap opening c.requires.setup; same = c.new_name.ensures.parts; state = c.swap.ensures.state; parts = c.swap.ensures.parts } in
    let round : Round = record { swap = swap; event = c.args.event.now; old = c.swap.new.engine; now = c.make-made.new.engine; after = seen c.make-made.new.self } in
    let made : IsMade round c.make-made.result = record { swapped = swapped; full = refl; made = c.make-made.ensures.made; counted = c.make-made.ensures.parts } in
    let back : IsBack round (seen c.swap-2.new.self) = record { counts = record { clients = c.swap.ensures.sessions; others = c.swap-2.ensures.sessions; nodes = c.swap.ensures.nodes; posts = c.swap-2.ensures.nodes }; parts = c.swap-2.ensures.parts } in
    on_err _ _ (back_as_before round (seen c.swap-2.new.self) c.make-made.result c.ended.result made back c.ended.ensures (search rules))

pub returns-clause-acted : goal.returns-clause-acted
returns-clause-acted c =
    let swap : Swap = record { lent = seen c.args.lent.now; set_in = seen c.new_name.new.self; left = seen c.swap.new.self; opened = c.in_ok-engine.engine.state; full = c.swap.new.engine.state } in
    let swapped : Swapped swap = record { setup = c.in_ok-engine.ensures.state ∙ ap opening c.requires.setup; same = c.new_name.ensures.parts; state = c.swap.ensures.state; parts = c.swap.ensures.parts } in
    let round : Round = record { swap = swap; event = c.args.event.now; old = c.swap.new.engine; now = c.make-made.new.engine; after = seen c.make-made.new.self } in
    let made : IsMade round c.make-made.result = record { swapped = swapped; full = refl; made = c.make-made.ensures.made; counted = c.make-made.ensures.parts } in
    let back : IsBack round (seen c.swap-2.new.self) = record { counts = record { clients = c.swap.ensures.sessions; others = c.swap-2.ensures.sessions; nodes = c.swap.ensures.nodes; posts = c.swap-2.ensures.nodes }; parts = c.swap-2.ensures.parts } in
    acts_by round (seen c.swap-2.new.self) (seen c.note.new.self) c.make-made.result _ c.ended.result made back c.ended.ensures (search rules) c.note.ensures (record { none = c.swap.ensures.history ∙ c.in_ok-engine.ensures.history; items = search rules })
