-- What a node's post tells of the instance there.
use Rattle.std.specs.Prelude.{ℕ, Option, None, Some}
use Rattle.history_book.specs.declared.cause.Cause.{Cause}
use Rattle.system_parts.specs.Instance.{InstanceEntry}
use Rattle.system_parts.specs.PostSteps as step

-- the term of the instance
abbrev pub term_held : Option InstanceEntry → Option ℕ
term_held None = None
term_held (Some i) = Some i.term

-- why the node may not take: it has an instance
abbrev pub holding : Option InstanceEntry → Option Cause
holding post = step.holding (term_held post)
