use Rattle.std.proofs.lemmas.Result.{on_ok_weaker}
use Rattle.omid_check_top.proofs.LevelLemmas.{holding_more, others_more}
use Rattle.omid_check_top.proofs.levels.add_line.Goals as goal

pub returns-then-code-eq-DONE : goal.returns-then-code-eq-DONE
returns-then-code-eq-DONE c = on_ok_weaker c.push_line.result
    (λ is s grades status said. holding_more s grades c.args.grade c.args.code c.args.holding.now.items c.push_line.new.text.items c.args.others.now.items c.if-code-eq-DONE.true is status said) c.push_line.ensures

pub returns-else-code-eq-DONE : goal.returns-else-code-eq-DONE
returns-else-code-eq-DONE c = on_ok_weaker c.push_line-else-code-eq-DONE.result
    (λ is s grades status said. others_more s grades c.args.grade c.args.code c.args.holding.now.items c.args.others.now.items c.push_line-else-code-eq-DONE.new.text.items c.if-code-eq-DONE.false is status said) c.push_line-else-code-eq-DONE.ensures
