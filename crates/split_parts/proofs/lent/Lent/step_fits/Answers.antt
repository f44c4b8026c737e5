use Rattle.split_parts.proofs.Names.{◌≡◌, refl, sym, arith, None, IsTrue, handed_commit, Client, KeepsShadowNext}
use Rattle.split_parts.proofs.Names.{MayStep, next_of, work_of, filled, seen}
use Rattle.split_parts.proofs.FoundParts.{of_client, keeps_none}
use Rattle.split_parts.proofs.lent.Lent.step_fits.Goals as goal

pub returns-in-Some-cells : goal.returns-in-Some-cells
returns-in-Some-cells c = of_client (seen c.args.self.now) c.args.session c.in-Some.client.now (IsTrue c.steps_keep.result) (λ (d : Client). MayStep d → handed_commit d.entry ≡ None → KeepsShadowNext (next_of (work_of d)) (filled (seen c.args.self.now)).rows) (grind arith) (sym c.in-Some.ensures) (rw c.in-Some-cells.is c.steps_keep.ensures)

pub returns-in-None : goal.returns-in-None
returns-in-None c = (λ _ d there may none. rw c.in-None.is (keeps_none (next_of (work_of d))), λ all. refl)
