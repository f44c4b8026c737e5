-- The start of a request that has its answer.
use Rattle.std.specs.Prelude.{ℕ, Option, None, Some}
use Rattle.system_parts.specs.declared.instance.Held.{Held}
use Rattle.system_parts.specs.declared.instance.Progress.{Progress}
use Rattle.system_parts.specs.declared.instance.Progress.TheVariants.{Drawn, Settled, Handed}
use Rattle.system_parts.specs.declared.instance.Request.{Request}
use Rattle.system_parts.specs.declared.instance.Request.TheVariants.{Begin, Commit}

-- of a begin that was drawn, or a commit that was settled or is to be handed over
abbrev pub ready_by : Request → Progress → Option ℕ
ready_by (Begin session) (Drawn start) = Some start
ready_by (Commit session start keys) (Settled commit how) = Some start
ready_by (Commit session start keys) (Handed commit) = Some start
ready_by request progress = None

abbrev pub ready_start : Option Held → Option ℕ
ready_start None = None
ready_start (Some held) = ready_by held.request held.progress
