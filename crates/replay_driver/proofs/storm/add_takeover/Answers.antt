use Rattle.std.proofs.Common.{subst}
use Rattle.std.specs.Prelude.{ℕ, ◌∷◌, []}
use Rattle.history_book.specs.declared.item.Actor.TheVariants.{Clock, Node}
use Rattle.script_data.specs.declared.line.Verb.TheVariants.{Tick, Take, Crash}
use Rattle.replay_driver.specs.Drafts.{Adds}
use Rattle.replay_driver.specs.Storm.{standing_by}
use Rattle.replay_driver.proofs.Storming.{adds_both}
use Rattle.replay_driver.proofs.storm.add_takeover.Goals as goal

pub returns-clause-lines : goal.returns-clause-lines
returns-clause-lines c =
    subst (λ (node : ℕ). Adds c.args.draft.now.lines.items c.add-3.new.self.lines.items ((Clock, Tick 12) ∷ (Node (standing_by c.args.group), Take) ∷ (Node node, Crash) ∷ [])) c.serving.ensures.value
    (subst (λ (node : ℕ). Adds c.args.draft.now.lines.items c.add-3.new.self.lines.items ((Clock, Tick 12) ∷ (Node node, Take) ∷ (Node c.serving.result, Crash) ∷ [])) c.standing_by.ensures.value
    (adds_both _ _ _ ((Clock, Tick 12) ∷ (Node c.standing_by.result, Take) ∷ []) ((Node c.serving.result, Crash) ∷ [])
    (adds_both _ _ _ ((Clock, Tick 12) ∷ []) ((Node c.standing_by.result, Take) ∷ []) c.in_ok-add.ensures.lines c.in_ok-add-2.ensures.lines)
    c.in_ok-add-3.ensures.lines))
