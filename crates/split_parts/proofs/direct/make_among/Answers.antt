use Rattle.split_parts.proofs.Names.{◌≡◌, subst, asked_of, Event, CanMake, fate_of, filled, seen}
use Rattle.split_parts.proofs.direct.make_among.Goals as goal

pub write_among-requires-clause-can : goal.write_among-requires-clause-can
write_among-requires-clause-can c = subst (λ (e : Event). CanMake (filled (seen c.args.lent.now)) e) c.in-Write.is c.requires.can

pub returns-in-Write : goal.returns-in-Write
returns-in-Write c = rw c.in-Write.is c.write_among.ensures

pub returns-in-Abort : goal.returns-in-Abort
returns-in-Abort c = rw c.in-Abort.is (c.abort_among.ensures c.args.weather.now.fate)

pub returns-in-Vanish : goal.returns-in-Vanish
returns-in-Vanish c = rw c.in-Vanish.is (c.vanish_among.ensures c.args.weather.now.fate)

pub ask_begin_among-requires-clause-can : goal.ask_begin_among-requires-clause-can
ask_begin_among-requires-clause-can c = subst (λ (e : Event). CanMake (filled (seen c.args.lent.now)) e) c.in-AskBegin.is c.requires.can

pub returns-in-AskBegin : goal.returns-in-AskBegin
returns-in-AskBegin c = rw c.in-AskBegin.is (c.ask_begin_among.ensures c.args.weather.now.fate)

pub ask_commit_among-requires-clause-can : goal.ask_commit_among-requires-clause-can
ask_commit_among-requires-clause-can c = subst (λ (e : Event). CanMake (filled (seen c.args.lent.now)) e) c.in-AskCommit.is c.requires.can

pub returns-in-AskCommit : goal.returns-in-AskCommit
returns-in-AskCommit c = rw c.in-AskCommit.is (c.ask_commit_among.ensures c.args.weather.now.fate)

pub decide_among-requires-clause-can : goal.decide_among-requires-clause-can
decide_among-requires-clause-can c = subst (λ (e : Event). CanMake (filled (seen c.args.lent.now)) e) c.in-Decide.is c.requires.can

pub returns-in-Decide : goal.returns-in-Decide
returns-in-Decide c = rw c.in-Decide.is (c.decide_among.ensures c.args.weather.now.fate)

pub answer_among-requires-clause-can : goal.answer_among-requires-clause-can
answer_among-requires-clause-can c = subst (λ (e : Event). CanMake (filled (seen c.args.lent.now)) e) c.in-Answer.is c.requires.can

pub returns-in-Answer : goal.returns-in-Answer
returns-in-Answer c = rw c.in-Answer.is (c.answer_among.ensures c.args.weather.now.fate)

pub accept_among-requires-clause-can : goal.accept_among-requires-clause-can
accept_among-requires-clause-can c = subst (λ (e : Event). CanMake (filled (seen c.args.lent.now)) e) c.in-Accept.is c.requires.can

pub returns-in-Accept : goal.returns-in-Accept
returns-in-Accept c = rw c.in-Accept.is (c.accept_among.ensures c.args.weather.now.fate)

pub returns-in-Put : goal.returns-in-Put
returns-in-Put c = rw c.in-Put.is c.put_among.ensures

pub step_among-requires-clause-can : goal.step_among-requires-clause-can
step_among-requires-clause-can c = subst (λ (e : Event). CanMake (filled (seen c.args.lent.now)) e) c.in-Step.is c.requires.can

pub step_among-requires-clause-fate : goal.step_among-requires-clause-fate
step_among-requires-clause-fate c = subst (λ (e : Event). c.args.weather.now.fate ≡ fate_of (seen c.args.lent.now) (asked_of (seen c.args.lent.now) e)) c.in-Step.is c.requires.fate

pub returns-in-Step : goal.returns-in-Step
returns-in-Step c = rw c.in-Step.is c.step_among.ensures

pub returns-in-Fetch : goal.returns-in-Fetch
returns-in-Fetch c = rw c.in-Fetch.is c.fetch_among.ensures

pub heal_among-requires-clause-can : goal.heal_among-requires-clause-can
heal_among-requires-clause-can c = subst (λ (e : Event). CanMake (filled (seen c.args.lent.now)) e) c.in-Heal.is c.requires.can

pub returns-in-Heal : goal.returns-in-Heal
returns-in-Heal c = rw c.in-Heal.is c.heal_among.ensures

pub take_among-requires-clause-can : goal.take_among-requires-clause-can
take_among-requires-clause-can c = subst (λ (e : Event). CanMake (filled (seen c.args.lent.now)) e) c.in-Take.is c.requires.can

pub returns-in-Take : goal.returns-in-Take
returns-in-Take c = rw c.in-Take.is c.take_among.ensures

pub renew_among-requires-clause-can : goal.renew_among-requires-clause-can
renew_among-requires-clause-can c = subst (λ (e : Event). CanMake (filled (seen c.args.lent.now)) e) c.in-Renew.is c.requires.can

pub returns-in-Renew : goal.returns-in-Renew
returns-in-Renew c = rw c.in-Renew.is c.renew_among.ensures

pub extend_among-requires-clause-can : goal.extend_among-requires-clause-can
extend_among-requires-clause-can c = subst (λ (e : Event). CanMake (filled (seen c.args.lent.now)) e) c.in-Extend.is c.requires.can

pub returns-in-Extend : goal.returns-in-Extend
returns-in-Extend c = rw c.in-Extend.is c.extend_among.ensures

pub returns-in-SweepOpen : goal.returns-in-SweepOpen
returns-in-SweepOpen c = rw c.in-SweepOpen.is (c.sweep_open_among.ensures c.args.weather.now.fate)

pub sweep_step_among-requires-clause-can : goal.sweep_step_among-requires-clause-can
sweep_step_among-requires-clause-can c = subst (λ (e : Event). CanMake (filled (seen c.args.lent.now)) e) c.in-SweepStep.is c.requires.can

pub sweep_step_among-requires-clause-fate : goal.sweep_step_among-requires-clause-fate
sweep_step_among-requires-clause-fate c = subst (λ (e : Event). c.args.weather.now.fate ≡ fate_of (seen c.args.lent.now) (asked_of (seen c.args.lent.now) e)) c.in-SweepStep.is c.requires.fate

pub returns-in-SweepStep : goal.returns-in-SweepStep
returns-in-SweepStep c = rw c.in-SweepStep.is c.sweep_step_among.ensures
