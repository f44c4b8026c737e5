-- Answers that are a value or the cause why there is none.
use Rattle.std.specs.Prelude.{Option, None, Some, Result, Ok, Err}
use Rattle.session_script.specs.declared.cause.ScriptCause.{ScriptCause}

-- what follows from a value, and nothing after a cause
infixl 10 ◌>>=◌
abbrev pub ◌>>=◌ : {A B : Type 0} → Result A ScriptCause → (A → Result B ScriptCause) → Result B ScriptCause
(Ok x) >>= f = f x
(Err cause) >>= f = Err cause

abbrev pub or_cause : {A : Type 0} → ScriptCause → Option A → Result A ScriptCause
or_cause cause (Some x) = Ok x
or_cause cause None = Err cause

-- the value, unless there is an objection
abbrev pub unless : {A : Type 0} → Option ScriptCause → A → Result A ScriptCause
unless None x = Ok x
unless (Some cause) x = Err cause
