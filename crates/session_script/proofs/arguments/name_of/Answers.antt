use Rattle.session_script.proofs.ArgumentLemmas.{name_of-is}
use Rattle.session_script.proofs.arguments.name_of.Goals as goal

pub returns : goal.returns
returns c = name_of-is c.args.word.now c.new.result c.new.ensures.valid c.new.ensures.value
