use Rattle.split_parts.proofs.Names.{None, refl, ap, ◌∙◌, arith, slice_index_or, write_on, Parts, behind, cells_of}
use Rattle.split_parts.proofs.Names.{seen, session_of}
use Rattle.machine.specs.declared.event.Event.TheVariants as event
use Rattle.split_parts.proofs.Directly.{among, made_moved, cells_made, may_write_of}
use Rattle.split_parts.proofs.accessing.write_among.Goals as goal

pub write_to-made-requires : goal.write_to-made-requires
write_to-made-requires c = may_write_of (seen c.args.lent.now) c.args.session c.args.key _ _ (grind arith) (c.take_session-own.ensures.part ∙ ap (λ n. slice_index_or (seen c.args.lent.now).sessions n None) c.index.ensures.value) (ap (λ (p : Parts). p.cells) c.take_session-own.ensures.parts) c.requires.can

pub returns : goal.returns
returns c =
    let l : Parts = seen c.args.lent.now in
    let at = among l (seen c.take_session-own.new.self) (seen c.put_session.new.self) (behind session_of c.write_to-made.new.own) (behind cells_of c.write_to-made.new.cells) c.args.session c.index.result c.index-2.result c.take_session-own.ensures.parts c.put_session.ensures c.index.ensures.value c.index-2.ensures.value (grind arith) in
    cells_made l (seen c.put_session.new.self) (event.Write c.args.session c.args.key c.args.value) c.args.weather.now.fate c.args.session (λ x rows. write_on c.args.session c.args.key c.args.value c.args.weather.now.fate x rows) c.args.book.now.items c.write_to-made.new.book.items c.write_to-made.result (grind arith) c.requires.all.0 c.requires.all.1 refl at.others
    (made_moved _ _ _ _ _ _ _ _ _ _ _ _ (c.take_session-own.ensures.part ∙ ap (λ n. slice_index_or l.sessions n None) c.index.ensures.value) (ap (λ (p : Parts). p.cells) c.take_session-own.ensures.parts) at.session at.rows c.write_to-made.ensures)
