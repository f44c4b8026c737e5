use Rattle.std.specs.FinMap as map
use Rattle.split_parts.proofs.Names.{None, ap, ◌∙◌, arith, slice_index_or, heal_on, Parts, behind, cells_of, seen}
use Rattle.split_parts.proofs.Names.{session_of}
use Rattle.machine.specs.declared.event.Event.TheVariants as event
use Rattle.split_parts.proofs.Directly.{among, made_moved, cells_made, heal_is, may_heal}
use Rattle.split_parts.proofs.accessing.heal_among.Goals as goal

pub heal_to-made-requires : goal.heal_to-made-requires
heal_to-made-requires c = may_heal (seen c.args.lent.now) c.args.session _ _ (grind arith) (c.take_session-own.ensures.part ∙ ap (λ n. slice_index_or (seen c.args.lent.now).sessions n None) c.index.ensures.value) (ap (λ (p : Parts). p.cells) c.take_session-own.ensures.parts) c.requires.can

pub returns : goal.returns
returns c =
    let l : Parts = seen c.args.lent.now in
    let at = among l (seen c.take_session-own.new.self) (seen c.put_session.new.self) (behind session_of c.heal_to-made.new.own) (behind cells_of c.heal_to-made.new.cells) c.args.session c.index.result c.index-2.result c.take_session-own.ensures.parts c.put_session.ensures c.index.ensures.value c.index-2.ensures.value (grind arith) in
    cells_made l (seen c.put_session.new.self) (event.Heal c.args.session) c.args.weather.now.fate c.args.session (λ x rows. heal_on c.args.session c.args.weather.now.fate x rows map.empty) c.args.book.now.items c.heal_to-made.new.book.items c.heal_to-made.result (grind arith) c.requires.all.0 c.requires.all.1 (heal_is l c.args.session c.args.weather.now.fate) at.others
    (made_moved _ _ _ _ _ _ _ _ _ _ _ _ (c.take_session-own.ensures.part ∙ ap (λ n. slice_index_or l.sessions n None) c.index.ensures.value) (ap (λ (p : Parts). p.cells) c.take_session-own.ensures.parts) at.session at.rows c.heal_to-made.ensures)
