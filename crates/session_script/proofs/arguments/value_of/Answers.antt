use Rattle.session_script.proofs.ArgumentLemmas.{value_of-is}
use Rattle.session_script.proofs.arguments.value_of.Goals as goal

pub returns : goal.returns
returns c = value_of-is c.args.word.now c.new.result c.new.ensures.valid c.new.ensures.value
