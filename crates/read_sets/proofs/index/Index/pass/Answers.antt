use Rattle.read_sets.proofs.IndexLemmas.{on_ok, write_passed, other_passed}
use Rattle.read_sets.proofs.index.Index.pass.Goals as goal

pub returns-in-Write : goal.returns-in-Write
returns-in-Write c = on_ok c.enter.result (λ enters h part was. write_passed h part c.args.item.now c.in-Write.session c.in-Write.start c.in-Write.key c.in-Write.value c.args.self.now c.enter.new.self c.in-Write.is enters was) c.enter.ensures

pub returns-in_default : goal.returns-in_default
returns-in_default c = λ h part was. other_passed h part c.args.item.now c.args.self.now (λ s t k v e. c.in_default.not-Write s t k v e) was
