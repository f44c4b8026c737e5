use Rattle.split_driver.proofs.SplitScripts.{split_scripts_may_split}
use Rattle.split_driver.proofs.laws.split_scripts_may_split.Goals as goal

pub returns : goal.returns
returns c = split_scripts_may_split
