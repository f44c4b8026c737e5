use Rattle.std.proofs.Common.{rules, tests}
use Rattle.std.proofs.lemmas.Iterator.{YieldsList-from_slice}
use Rattle.std.proofs.lemmas.Iterator.Consumers.{YieldsList-from_filter, count_from_yields_List}
use Rattle.script_data.specs.declared.line.Line.{Line}
use Rattle.session_script.specs.Script.{data_of}
use Rattle.command_semantics.specs.Answers.{same_actor}
use Rattle.turn_rules.specs.Seats.{lines_of}
use Rattle.thread_scripts.proofs.ListEnd.{ends_at}
use Rattle.thread_scripts.proofs.ends.has_ended.Goals as goal

pub returns : goal.returns
returns c =
    ends_at (lines_of (data_of c.args.script.now) c.args.cursor.now.actor) c.count.result c.args.cursor.now.done
    (count_from_yields_List _ _ c.count.ensures.ran (YieldsList-from_filter _ (λ (line : Line). same_actor line.actor c.args.cursor.now.actor) (YieldsList-from_slice c.args.script.now.lines.items cc) c.filter-own.ensures.closure (λ x b q k. search (rules, tests))))
