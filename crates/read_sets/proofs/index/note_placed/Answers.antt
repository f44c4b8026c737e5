use Rattle.read_sets.proofs.IndexLemmas.{placed_noted, placed_skip, updates_at}
use Rattle.read_sets.proofs.index.note_placed.Goals as goal

pub returns-in_ok-insert-in-Placed : goal.returns-in_ok-insert-in-Placed
returns-in_ok-insert-in-Placed c = λ part was.
    let old = c.args.placed.now in
    let new = c.insert.new.self in
    placed_noted part c.args.item.now c.in-Placed.start c.in-Placed.commit old new c.in-Placed.is (updates_at old new c.in-Placed.start c.in-Placed.commit c.value.result c.value-in-Placed.result c.value.ensures.value c.value-in-Placed.ensures.value c.in_ok-insert-in-Placed.ensures.updates) was

pub returns-in_default : goal.returns-in_default
returns-in_default c = λ part was. placed_skip part c.args.item.now c.args.placed.now (λ t d e. c.in_default.not-Placed t d e) was
