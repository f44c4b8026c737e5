use Rattle.read_sets.proofs.ClearedLemmas.{read_noted, write_noted, other_noted}
use Rattle.read_sets.proofs.cleared.Cleared.note.Goals as goal

pub returns-in-Read : goal.returns-in-Read
returns-in-Read c = λ h part stood was. read_noted h part c.args.item.now c.in-Read.session c.in-Read.start c.in-Read.key c.in-Read.answer c.args.self.now c.add.new.self c.in-Read.is c.add.ensures stood was

pub returns-in-Write : goal.returns-in-Write
returns-in-Write c = λ h part stood was. write_noted h part c.args.item.now c.in-Write.session c.in-Write.start c.in-Write.key c.in-Write.value c.args.self.now c.add-in-Write.new.self c.in-Write.is c.add-in-Write.ensures was

pub returns-in_default : goal.returns-in_default
returns-in_default c = λ h part stood was. other_noted h part c.args.item.now c.args.self.now was
