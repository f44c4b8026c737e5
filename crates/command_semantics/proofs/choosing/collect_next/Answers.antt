use Rattle.command_semantics.proofs.Names.{◌≡◌, ℕ, Option, None, Some, ◌∙◌, ap, none-some, Place, Verb, View, Clocks}
use Rattle.command_semantics.proofs.Names.{drive_next, collect_next}
use Rattle.script_data.specs.declared.line.Verb.TheVariants as verb
use Rattle.command_semantics.specs.Clocks.{clocks}
use Rattle.command_semantics.proofs.choosing.collect_next.Goals as goal

driven : (times : Clocks) (s : ℕ) (line : Verb) (view : View) (request : Option (ℕ × Place)) (r : ℕ × Place) → line ≡ verb.Collect → request ≡ Some r → drive_next times s line view request ≡ collect_next times s view request
driven times s line view None r collects is = absurd (none-some r is)
driven times s line view (Some found) r collects is = ap (λ (v : Verb). drive_next times s v view (Some found)) collects

pub returns-in-Some : goal.returns-in-Some
returns-in-Some c = λ master. c.drive_next.ensures master ∙ driven (clocks c.args.base c.args.leads.now master) c.args.session c.args.verb.now c.args.view.now c.args.view.now.request c.in-Some.field-0 c.requires.verb c.in-Some.is
