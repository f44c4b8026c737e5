use Rattle.split_parts.proofs.Names.{None, ap, ◌∙◌, arith, slice_index_or, fate_ahead, step_asks, step_on, Parts}
use Rattle.split_parts.proofs.Names.{behind, cells_of, seen, session_of, table_of}
use Rattle.machine.specs.declared.event.Event.TheVariants as event
use Rattle.split_parts.proofs.Directly.{among_stores, stores_moved, stores_made, step_is, may_step}
use Rattle.split_parts.proofs.stepping.step_among.Goals as goal

pub step_to-made-requires : goal.step_to-made-requires
step_to-made-requires c = may_step (seen c.args.lent.now) c.args.session _ _ (grind arith) (c.take_session-own.ensures.part ∙ ap (λ n. slice_index_or (seen c.args.lent.now).sessions n None) c.index.ensures.value) (ap (λ (p : Parts). p.cells) c.take_session-own.ensures.parts) c.requires.can

pub returns : goal.returns
returns c =
    let l : Parts = seen c.args.lent.now in
    let at = among_stores l (seen c.take_session-own.new.self) (seen c.put_session.new.self) (behind session_of c.step_to-made.new.own) (behind cells_of c.step_to-made.new.cells) (behind table_of c.step_to-made.new.table) c.args.session c.index.result c.index-2.result c.take_session-own.ensures.parts c.put_session.ensures c.index.ensures.value c.index-2.ensures.value (grind arith) in
    stores_made l (seen c.put_session.new.self) (event.Step c.args.session) c.args.weather.now.fate c.args.session (λ x rows pairs. step_on c.args.session (fate_ahead (step_asks x) (λ store n. c.args.weather.now.fate)) x rows pairs) c.args.book.now.items c.step_to-made.new.book.items c.step_to-made.result (grind arith) c.requires.all
    (λ x there. step_is l c.args.session c.args.weather.now.fate x (grind arith) there c.requires.fate) at.others
    (stores_moved (λ x rows pairs. step_on c.args.session (fate_ahead (step_asks x) (λ store n. c.args.weather.now.fate)) x rows pairs) _ _ _ _ _ _ _ _ _ _ _ _ c.args.book.now.items c.step_to-made.new.book.items c.step_to-made.result (c.take_session-own.ensures.part ∙ ap (λ n. slice_index_or l.sessions n None) c.index.ensures.value) (ap (λ (p : Parts). p.cells) c.take_session-own.ensures.parts) (ap (λ (p : Parts). p.table) c.take_session-own.ensures.parts) at.session at.rows at.marks c.step_to-made.ensures)
