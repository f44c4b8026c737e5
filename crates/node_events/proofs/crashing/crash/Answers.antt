use Rattle.node_events.proofs.crashing.crash.Goals as goal

pub lose_all-requires-clause-waits : goal.lose_all-requires-clause-waits
lose_all-requires-clause-waits c = λ n client at. rw (← c.post.view_is, c.in-Some.is) at (c.requires n client at)
