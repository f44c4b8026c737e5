use Rattle.split_parts.proofs.Names.{None, refl, ap, ◌∙◌, arith, slice_index_or, Parts, behind, node_of, seen}
use Rattle.split_parts.proofs.Names.{session_of}
use Rattle.machine.specs.Events.AskBegin.{ask_begin_on}
use Rattle.machine.specs.declared.event.Event.TheVariants as event
use Rattle.split_parts.proofs.Directly.{among_nodes, node_moved, node_made, may_begin}
use Rattle.split_parts.proofs.requesting.ask_begin_among.Goals as goal

pub ask_begin_to-made-requires : goal.ask_begin_to-made-requires
ask_begin_to-made-requires c = may_begin (seen c.args.lent.now) c.args.session c.args.node _ _ (grind arith) (c.take_session-own.ensures.part ∙ ap (λ n. slice_index_or (seen c.args.lent.now).sessions n None) c.index.ensures.value) (ap (λ (p : Parts). p.node) c.take_session-own.ensures.parts) c.requires.all.1 c.requires.can

pub returns : goal.returns
returns c = λ fate.
    let l : Parts = seen c.args.lent.now in
    let at = among_nodes l (seen c.take_session-own.new.self) (seen c.put_session.new.self) (behind session_of c.ask_begin_to-made.new.own) (behind node_of c.ask_begin_to-made.new.post) c.args.session c.index.result c.index-2.result c.take_session-own.ensures.parts c.put_session.ensures c.index.ensures.value c.index-2.ensures.value (grind arith) in
    node_made l (seen c.put_session.new.self) (event.AskBegin c.args.session c.args.node) fate c.args.session c.args.node 0 (λ x i. ask_begin_on c.args.session c.args.node x i) c.args.book.now.items c.ask_begin_to-made.new.book.items c.ask_begin_to-made.result (grind arith) c.requires.all.0 c.requires.all.1 (λ p. refl) at.others
    (node_moved _ _ _ _ _ _ _ _ _ _ _ _ (c.take_session-own.ensures.part ∙ ap (λ n. slice_index_or l.sessions n None) c.index.ensures.value) (ap (λ (p : Parts). p.node) c.take_session-own.ensures.parts) at.session at.post c.ask_begin_to-made.ensures)
