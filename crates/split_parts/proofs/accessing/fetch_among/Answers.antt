use Rattle.split_parts.proofs.Names.{None, ap, ◌∙◌, arith, slice_index_or, fetch_on, numbers_of, on_rows, Parts, behind}
use Rattle.split_parts.proofs.Names.{cells_of, seen, session_of}
use Rattle.machine.specs.declared.event.Event.TheVariants as event
use Rattle.split_parts.proofs.Directly.{among, made_moved, cells_made, fetch_is}
use Rattle.split_parts.proofs.accessing.fetch_among.Goals as goal

pub returns : goal.returns
returns c =
    let l : Parts = seen c.args.lent.now in
    let at = among l (seen c.take_session-own.new.self) (seen c.put_session.new.self) (behind session_of c.fetch_to-made.new.own) (behind cells_of c.fetch_to-made.new.cells) c.args.session c.index.result c.index-2.result c.take_session-own.ensures.parts c.put_session.ensures c.index.ensures.value c.index-2.ensures.value (grind arith) in
    cells_made l (seen c.put_session.new.self) (event.Fetch c.args.session c.args.key) c.args.weather.now.fate c.args.session (λ x rows. on_rows rows (fetch_on (numbers_of c.setup-setup.result) c.args.session c.args.key c.args.weather.now.fate x rows)) c.args.book.now.items c.fetch_to-made.new.book.items c.fetch_to-made.result (grind arith) c.requires.0 c.requires.1 (fetch_is l c.args.session c.args.key (numbers_of c.setup-setup.result) c.args.weather.now.fate c.setup-setup.ensures) at.others
    (made_moved _ _ _ _ _ _ _ _ _ _ _ _ (c.take_session-own.ensures.part ∙ ap (λ n. slice_index_or l.sessions n None) c.index.ensures.value) (ap (λ (p : Parts). p.cells) c.take_session-own.ensures.parts) at.session at.rows c.fetch_to-made.ensures)
