use Rattle.node_events.proofs.extending.extend.Goals as goal

pub returns-clause-made : goal.returns-clause-made
returns-clause-made g c = λ setup rules. rw (← c.post.view_is, c.in-Some.is) (c.extend_held.ensures.made setup rules)
