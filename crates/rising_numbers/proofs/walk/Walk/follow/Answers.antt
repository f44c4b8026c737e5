use Rattle.std.proofs.Common.{◌≡◌, ◌<◌, get_or, length, rules, arith}
use Rattle.std.proofs.lemmas.Grind.{common_steps, get_or_default_zero}
use Rattle.rising_numbers.proofs.TurnLemmas.{from_within, passes_on, comes_on, last_next}
use Rattle.rising_numbers.proofs.RoundLemmas.{not_new}
use Rattle.rising_numbers.proofs.walk.Walk.follow.Goals as goal

pub index-there-requires : goal.index-there-requires
index-there-requires c =
    let low : c.start_of-from.result < length c.args.self.now.ahead.items = from_within c.args.edges.now c.args.chains.now c.args.self.now c.args.node c.args.place c.requires.chained c.requires.walked c.requires.last c.requires.place c.start_of-from.result c.requires.many c.start_of-from.ensures in
    first_of (search rules, grind (arith, common_steps))

pub is_new-requires-clause-ahead : goal.is_new-requires-clause-ahead
is_new-requires-clause-ahead c = from_within c.args.edges.now c.args.chains.now c.args.self.now c.args.node c.args.place c.requires.chained c.requires.walked c.requires.last c.requires.place c.start_of-from.result c.requires.many c.start_of-from.ensures

pub returns-then-there-eq0-clause-walked : goal.returns-then-there-eq0-clause-walked
returns-then-there-eq0-clause-walked c =
    let done : get_or c.args.self.now.ahead.items c.start_of-from.result 0 ≡ 0 = grind (arith, common_steps) in
    passes_on c.args.edges.now c.args.chains.now c.args.self.now c.args.node c.args.place c.requires.chained c.requires.walked c.requires.last c.requires.place c.start_of-from.result c.pass.new.self c.start_of-from.ensures done c.pass.ensures

pub returns-in_ok-come_to-clause-walked : goal.returns-in_ok-come_to-clause-walked
returns-in_ok-come_to-clause-walked c =
    comes_on c.args.edges.now c.args.chains.now c.args.self.now c.come_to.new.self c.start_of-from.result c.requires.chained c.requires.walked
    (from_within c.args.edges.now c.args.chains.now c.args.self.now c.args.node c.args.place c.requires.chained c.requires.walked c.requires.last c.requires.place c.start_of-from.result c.requires.many c.start_of-from.ensures)
    (c.is_new.ensures.0 c.if-is_new.true) c.in_ok-come_to.ensures
    (last_next c.args.edges.now c.args.chains.now.heads.items c.args.self.now c.args.node c.requires.walked c.requires.last c.args.place c.start_of-from.result c.requires.place c.start_of-from.ensures)

pub returns-else-is_new-clause-walked : goal.returns-else-is_new-clause-walked
returns-else-is_new-clause-walked c =
    let low : c.start_of-from.result < length c.args.self.now.ahead.items = from_within c.args.edges.now c.args.chains.now c.args.self.now c.args.node c.args.place c.requires.chained c.requires.walked c.requires.last c.requires.place c.start_of-from.result c.requires.many c.start_of-from.ensures in
    let there : get_or c.args.self.now.ahead.items c.start_of-from.result c.index-there.result.now ≡ get_or c.args.self.now.ahead.items c.start_of-from.result 0 = get_or_default_zero c.args.self.now.ahead.items c.start_of-from.result c.index-there.result.now low in
    record {
      walked = c.requires.walked;
      next = last_next c.args.edges.now c.args.chains.now.heads.items c.args.self.now c.args.node c.requires.walked c.requires.last c.args.place c.start_of-from.result c.requires.place c.start_of-from.ensures;
      begun = first_of (omega arith, grind arith);
      open_to = not_new c.is_new.result (get_or c.args.chains.now.heads.items c.start_of-from.result 0) (get_or c.args.self.now.ahead.items c.start_of-from.result 0) c.is_new.ensures c.if-is_new.false;
    }
