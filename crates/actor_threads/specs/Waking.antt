-- Whom a line wakes once it is done, and what a line waits for.
use Rattle.std.specs.Prelude.{ℕ, Bool, true, false, List, Option, None, Some}
use Rattle.std.specs.Str.{bytes_eq}
use Rattle.history_book.specs.declared.item.Actor.{Actor}
use Rattle.history_book.specs.declared.item.Actor.TheVariants.{Node}
use Rattle.script_data.specs.declared.line.Line.{Line}
use Rattle.script_data.specs.declared.line.Verb.{Verb}
use Rattle.script_data.specs.declared.line.Verb.TheVariants.{Post, Await, Crash, Free, Submit}
use Rattle.actor_threads.specs.declared.waking.Woken.{Woken}
use Rattle.actor_threads.specs.declared.waking.Woken.TheVariants.{Nobody, AwaitersOf, UsersOf, ThreadsOf}

abbrev pub woken_by : Actor → Verb → Woken
woken_by actor (Post name) = AwaitersOf name
woken_by (Node node) Crash = UsersOf node
woken_by (Node node) (Free stage) = ThreadsOf node stage
woken_by actor verb = Nobody

-- a line that waits for the stamp of its request is woken by the draw; every other one waits for the end of its request
abbrev pub is_submit : Verb → Bool
is_submit (Submit target) = true
is_submit verb = false

abbrev pub awaits_stamp : Option Line → Bool
awaits_stamp None = false
awaits_stamp (Some line) = is_submit line.verb

-- a line that awaits a name is woken by the posts of that name
abbrev pub awaits : List ℕ → Verb → Bool
awaits name (Await awaited) = bytes_eq awaited name
awaits name verb = false

abbrev pub is_await : Verb → Bool
is_await (Await name) = true
is_await verb = false

abbrev pub awaits_any : Option Line → Bool
awaits_any None = false
awaits_any (Some line) = is_await line.verb
