use Rattle.std.proofs.Common.{rules, ◌≡◌, ◌++◌}
use Rattle.omid_check_top.specs.Subject.{subject_of}
use Rattle.omid_check_top.proofs.LevelLemmas.{all_said, none_said}
use Rattle.omid_check_top.proofs.levels.levels.Goals as goal

pub returns-clause-found : goal.returns-clause-found
returns-clause-found c =
    let s = subject_of c.args.recording.now c.args.indexed.now.attempts.items c.args.indexed.now.trace c.args.indexed.now.times.items c.args.indexed.now.ranks.items c.args.indexed.now.lists.items in
    let none = none_said s c.new-holding.result.items c.new-others.result.items c.new-holding.ensures.items c.new-others.ensures.items in
    let levels = c.in_ok-add_orders-2.ensures _ (c.in_ok-add_orders.ensures _ none) in
    let said = c.in_ok-add_line.ensures s _ c.in_ok-code.ensures levels in
    let told : c.extend_from_slice.new.self.items ≡ c.add_line.new.holding.items ++ c.add_line.new.others.items = search rules in
    all_said s c.add_line.new.holding.items c.add_line.new.others.items c.extend_from_slice.new.self.items c.in_ok-code.code said told c.in_ok-code.ensures
