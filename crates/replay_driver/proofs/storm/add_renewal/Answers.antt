use Rattle.std.proofs.Common.{subst}
use Rattle.std.specs.Prelude.{ℕ, ◌∷◌, []}
use Rattle.history_book.specs.declared.item.Actor.TheVariants.{Clock, Node}
use Rattle.script_data.specs.declared.line.Verb.TheVariants.{Tick, Renew}
use Rattle.replay_driver.specs.Drafts.{Adds}
use Rattle.replay_driver.proofs.Storming.{adds_both}
use Rattle.replay_driver.proofs.storm.add_renewal.Goals as goal

pub returns-clause-lines : goal.returns-clause-lines
returns-clause-lines c =
    subst (λ (node : ℕ). Adds c.args.draft.now.lines.items c.add-2.new.self.lines.items ((Clock, Tick 1) ∷ (Node node, Renew) ∷ [])) c.serving.ensures.value
    (adds_both _ _ _ ((Clock, Tick 1) ∷ []) ((Node c.serving.result, Renew) ∷ []) c.in_ok-add.ensures.lines c.in_ok-add-2.ensures.lines)
