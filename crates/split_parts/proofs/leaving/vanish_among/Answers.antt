use Rattle.split_parts.proofs.Names.{None, refl, ap, ◌∙◌, arith, slice_index_or, behind, seen, session_of}
use Rattle.machine.specs.Events.Vanish.{vanish_on}
use Rattle.machine.specs.declared.event.Event.TheVariants as event
use Rattle.split_parts.proofs.Directly.{among_sessions, session_moved, session_made}
use Rattle.split_parts.proofs.leaving.vanish_among.Goals as goal

pub returns : goal.returns
returns c = λ fate.
    let l = seen c.args.lent.now in
    let at = among_sessions l (seen c.take_session-own.new.self) (seen c.put_session.new.self) (behind session_of c.vanish_of-made.new.own) c.args.session c.index.result c.index-2.result c.take_session-own.ensures.parts c.put_session.ensures c.index.ensures.value c.index-2.ensures.value (grind arith) in
    session_made l (seen c.put_session.new.self) (event.Vanish c.args.session) fate c.args.session (λ x. vanish_on c.args.session x) c.args.book.now.items c.vanish_of-made.new.book.items c.vanish_of-made.result (grind arith) c.requires.all refl at.others
    (session_moved _ _ _ _ _ _ _ _ (c.take_session-own.ensures.part ∙ ap (λ n. slice_index_or l.sessions n None) c.index.ensures.value) at.session c.vanish_of-made.ensures)
