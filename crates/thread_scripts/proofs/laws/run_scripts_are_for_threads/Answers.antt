use Rattle.thread_scripts.proofs.Reading.{run_scripts_are_for_threads}
use Rattle.thread_scripts.proofs.laws.run_scripts_are_for_threads.Goals as goal

pub returns : goal.returns
returns c = run_scripts_are_for_threads
