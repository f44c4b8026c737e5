use Rattle.split_parts.proofs.lent.Lent.asked.Goals as goal

pub returns-in-Write : goal.returns-in-Write
returns-in-Write c = rw c.in-Write.is (c.write_store.ensures c.in-Write.value)

pub returns-in-Put : goal.returns-in-Put
returns-in-Put c = rw c.in-Put.is c.put_store.ensures

pub returns-in-Step : goal.returns-in-Step
returns-in-Step c = rw c.in-Step.is c.next_store.ensures

pub returns-in-Fetch : goal.returns-in-Fetch
returns-in-Fetch c = rw c.in-Fetch.is c.fetch_store.ensures

pub returns-in-Heal : goal.returns-in-Heal
returns-in-Heal c = rw c.in-Heal.is c.heal_store.ensures

pub returns-in-Take : goal.returns-in-Take
returns-in-Take c = rw c.in-Take.is (c.take_store.ensures c.in-Take.reading)

pub returns-in-Renew : goal.returns-in-Renew
returns-in-Renew c = rw c.in-Renew.is (c.renew_store.ensures.renew c.in-Renew.reading)

pub returns-in-Extend : goal.returns-in-Extend
returns-in-Extend c = rw c.in-Extend.is c.renew_store-in-Extend.ensures.extend

pub returns-in-SweepStep : goal.returns-in-SweepStep
returns-in-SweepStep c = rw c.in-SweepStep.is c.sweep_store.ensures
