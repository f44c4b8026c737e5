-- Which transactions a recording has: an invocation and the event that answers it make one.
use Rattle.std.specs.Prelude.{ℕ, nat_eq, List, [], ◌∷◌, ◌++◌, Option, None, Some}
use Rattle.std.specs.Map.{lookup}
use Rattle.indexmap.specs.IndexMap.{insert_entry}
use Rattle.trace_reading.specs.declared.event.Event.{Event}
use Rattle.trace_reading.specs.declared.event.Kind.{Kind}
use Rattle.trace_reading.specs.declared.event.Kind.TheVariants as kind
use Rattle.trace_index.specs.declared.attempts.Attempt.{Attempt}
use Rattle.trace_index.specs.declared.attempts.Fate.{Fate}
use Rattle.trace_index.specs.declared.attempts.Fate.TheVariants as fate

-- the latest event of the process, of these
abbrev pub latest_of : ℕ → List (ℕ × Event) → Option Event
latest_of process latest = lookup (nat_eq process) latest

abbrev pub with_latest : Event → List (ℕ × Event) → List (ℕ × Event)
with_latest event latest = insert_entry nat_eq latest event.process event

abbrev pub fate_of : Kind → Fate
fate_of kind.Invoke = fate.Open
fate_of kind.Ok = fate.Committed
fate_of kind.Fail = fate.Aborted
fate_of kind.Info = fate.Open

-- the time of an event that tells that a transaction is completed
abbrev pub completed_at : Kind → Option ℕ → Option ℕ
completed_at kind.Invoke time = None
completed_at kind.Ok time = time
completed_at kind.Fail time = None
completed_at kind.Info time = None

-- when it was asked for, where that was noted and not answered yet
abbrev pub asked_by : Kind → Option ℕ → Option ℕ
asked_by kind.Invoke time = time
asked_by kind.Ok time = None
asked_by kind.Fail time = None
asked_by kind.Info time = None

abbrev pub asked_before : Option Event → Option ℕ
asked_before None = None
asked_before (Some event) = asked_by event.kind event.moments.time

-- the transaction of this event, which was asked for at this time
abbrev pub attempt_of : Option ℕ → Event → Attempt
attempt_of asked event = record {
  process = event.process;
  fate = fate_of event.kind;
  line = event.line;
  times = record {
    asked = asked;
    began = event.moments.began;
    committing = event.moments.committing;
    completed = completed_at event.kind event.moments.time;
  };
  first = event.first;
  end = event.end;
}

-- an invocation that is left unanswered is a transaction too, of which nobody knows what became of it
abbrev pub unanswered_of_kind : Kind → Event → List Attempt
unanswered_of_kind kind.Invoke event = attempt_of event.moments.time event ∷ []
unanswered_of_kind kind.Ok event = []
unanswered_of_kind kind.Fail event = []
unanswered_of_kind kind.Info event = []

abbrev pub unanswered : Option Event → List Attempt
unanswered None = []
unanswered (Some event) = unanswered_of_kind event.kind event

-- what an event adds, behind this latest event of its process
abbrev pub added_of_kind : Kind → Option Event → Event → List Attempt
added_of_kind kind.Invoke before event = unanswered before
added_of_kind kind.Ok before event = attempt_of (asked_before before) event ∷ []
added_of_kind kind.Fail before event = attempt_of (asked_before before) event ∷ []
added_of_kind kind.Info before event = attempt_of (asked_before before) event ∷ []

-- those whose process did nothing more
abbrev pub left_unanswered : List (ℕ × Event) → List Attempt
left_unanswered [] = []
left_unanswered (e ∷ es) = unanswered (Some e.1) ++ left_unanswered es

-- the transactions of these events, where these are the latest before them
abbrev pub attempts_from : List (ℕ × Event) → List Event → List Attempt
attempts_from latest [] = left_unanswered latest
attempts_from latest (event ∷ events) =
    added_of_kind event.kind (latest_of event.process latest) event ++ attempts_from (with_latest event latest) events

abbrev pub attempts_of : List Event → List Attempt
attempts_of events = attempts_from [] events
