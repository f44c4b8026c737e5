use Rattle.node_events.proofs.renewing.renew.Goals as goal

pub returns-clause-made : goal.returns-clause-made
returns-clause-made g c = λ setup rules. rw (← c.post.view_is, c.in-Some.is) (c.renew_held.ensures.made setup rules)
