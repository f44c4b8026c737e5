-- The words of a trace.
use Rattle.std.specs.Prelude.{ℕ, if◌then◌else◌, List, Option, None, Some, codes}
use Rattle.std.specs.Str.{bytes_eq}
use Rattle.trace_reading.specs.declared.event.Kind.{Kind}
use Rattle.trace_reading.specs.declared.event.Kind.TheVariants as kinds
use Rattle.trace_reading.specs.declared.operation.Form.{Form}
use Rattle.trace_reading.specs.declared.operation.Form.TheVariants as forms

-- the type of an event
unfoldable pub kind_of : List ℕ → Option Kind
kind_of word =
    if bytes_eq word (codes "invoke") then Some kinds.Invoke
    else (if bytes_eq word (codes "ok") then Some kinds.Ok
    else (if bytes_eq word (codes "fail") then Some kinds.Fail
    else (if bytes_eq word (codes "info") then Some kinds.Info
    else None)))

-- the function of an operation
unfoldable pub form_of : List ℕ → Option Form
form_of word =
    if bytes_eq word (codes "r") then Some forms.Read
    else (if bytes_eq word (codes "w") then Some forms.Write
    else (if bytes_eq word (codes "append") then Some forms.Append
    else None))
