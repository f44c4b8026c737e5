use Rattle.stamp_base.specs.Setups.{numbers_of}
use Rattle.split_parts.proofs.recording.renew_kept.Goals as goal

pub returns-clause-made : goal.returns-clause-made
returns-clause-made c = c.renew.ensures.made (numbers_of c.args.setup.now) c.requires.rules
