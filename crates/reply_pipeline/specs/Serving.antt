-- After which steps a request stage is through with a request that it has not drawn.
use Rattle.std.specs.Prelude.{Bool, true, false, if◌then◌else◌}
use Rattle.history_book.specs.declared.cause.Cause.{Cause}
use Rattle.history_book.specs.declared.cause.Cause.TheVariants.{NoStamp, Replaced, Spent}
use Rattle.thread_steps.specs.declared.stages.StageStep.{StageStep}
use Rattle.thread_steps.specs.declared.stages.StageStep.TheVariants.{Held, Went, Did, Fault, Refused, NoMemory}

-- the causes by which a range of stamps is not extended
abbrev pub leaves_request : Cause → Bool
leaves_request (NoStamp last) = true
leaves_request (Replaced found) = true
leaves_request (Spent ceiling) = true
leaves_request _ = false

-- the request has ended, or is not there any more
abbrev pub ends : StageStep → Bool
ends Held = false
ends (Did start commit) = false
ends NoMemory = false
ends Went = false
ends Fault = false
ends (Refused cause) = if leaves_request cause then false else true
ends step = true
