-- How the run of a line takes what an event answered, and where it stands after it.
use Rattle.std.specs.Prelude.{Option, None, Some}
use Rattle.history_book.specs.declared.cause.Cause.{Cause}
use Rattle.history_book.specs.declared.cause.Cause.TheVariants as cause
use Rattle.script_data.specs.declared.line.Verb.{Verb}
use Rattle.script_data.specs.declared.line.Verb.TheVariants as verb
use Rattle.machine.specs.Effect.{Stop, Refuses, Faults}
use Rattle.command_semantics.specs.declared.point.Interruption.{Interruption}
use Rattle.command_semantics.specs.declared.point.Interruption.TheVariants.{NoStamp, NotYet, Refused, Faulted}
use Rattle.command_semantics.specs.declared.point.Point.{Point}
use Rattle.command_semantics.specs.declared.point.Point.TheVariants.{Opens, Drives, Extends, Finishes, Reads, Steps, Over}

-- a request stays after two refusals
abbrev pub refused_by : Cause → Interruption
refused_by (cause.NoStamp last) = NoStamp
refused_by (cause.NotYet commit) = NotYet
refused_by _ = Refused

abbrev pub halt_of : Option Stop → Option Interruption
halt_of None = None
halt_of (Some (Refuses why)) = Some (refused_by why)
halt_of (Some (Faults store)) = Some Faulted

-- ---- where a run stands after an event
-- an event that stopped ends the run, and any other leads on
abbrev pub unless_halted : Point → Option Interruption → Point
unless_halted point None = point
unless_halted point (Some halt) = Over

-- a failed write leaves cells to erase
abbrev pub after_write : Option Interruption → Point
after_write (Some Faulted) = Finishes
after_write _ = Over

-- what a request has come to: without a stamp its node asks for more, and a begin that waits ends the run. A commit whose
-- put failed goes on to its answer
abbrev pub after_serving : Option Interruption → Point
after_serving None = Drives
after_serving (Some NoStamp) = Extends
after_serving (Some NotYet) = Over
after_serving (Some Refused) = Finishes
after_serving (Some Faulted) = Drives

-- where the range was refused, the request meets the refusal when it is decided again
abbrev pub after_extending : Option Interruption → Point
after_extending (Some Faulted) = Over
after_extending _ = Drives

-- a placing that met a mark leaves cells to erase
abbrev pub after_stepping : Option Interruption → Point
after_stepping None = Steps
after_stepping (Some Refused) = Finishes
after_stepping (Some _) = Over

-- after the first event of a line
abbrev pub after_opening : Verb → Option Interruption → Point
after_opening (verb.Begin target) halt = unless_halted Drives halt
after_opening (verb.Commit target) halt = unless_halted Drives halt
after_opening (verb.Submit target) halt = unless_halted Drives halt
after_opening verb.Collect halt = after_serving halt
after_opening (verb.Write key value) halt = after_write halt
after_opening (verb.Read key) halt = unless_halted Reads halt
after_opening verb.Abort halt = unless_halted Finishes halt
after_opening verb.Finish halt = after_stepping halt
after_opening (verb.Sweep node txn) halt = unless_halted Steps halt
after_opening _ halt = Over

-- after an event at this point of a line
abbrev pub follows : Verb → Point → Option Interruption → Point
follows verb Opens halt = after_opening verb halt
follows verb Drives halt = after_serving halt
follows verb Extends halt = after_extending halt
follows verb Finishes halt = unless_halted Finishes halt
follows verb Reads halt = unless_halted Reads halt
follows verb Steps halt = after_stepping halt
follows verb Over halt = Over
