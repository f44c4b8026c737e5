-- What was made of a log with room was made of the log before.
use Rattle.std.proofs.Common.{◌≡◌, List, ◌∷◌, ◌++◌, [], length, Option, Some, None, sym, subst, ap, ◌∙◌}
use Rattle.history_book.specs.declared.item.Item.{Item}
use Rattle.event_parts.specs.declared.stopped.Stopped.{Stopped}
use Rattle.script_data.specs.Data.{ScriptData}
use Rattle.split_parts.specs.declared.acting.Acted.{Acted}
use Rattle.split_parts.specs.declared.event.Event.{Event}
use Rattle.split_stores.specs.declared.made.Made.{Made}
use Rattle.split_stores.specs.declared.made.Made.TheVariants as made
use Rattle.split_stores.specs.Logs.{Adds, Logged, SameLog}
use Rattle.split_stores.specs.Makes.{AddsOne, Inside, LogsWhatIsDone, MadeOf, MadeOfParts, Makes, Performs, made_of}
use Rattle.split_parts.specs.Parts.{Parts}

added_from : (e : Event) (old mid new : Logged) → SameLog old mid → AddsOne e mid new → AddsOne e old new
added_from e old mid new same h = record { added = h.added; of = h.of; word = h.word ∙ same.word; entries = h.entries ∙ ap (λ l. l ++ h.added ∷ []) same.entries }

pub makes_from : (e : Event) (m : Made) (old mid new : Logged) → SameLog old mid → Makes e m mid new → Makes e m old new
makes_from e made.Did old mid new same h = added_from e old mid new same h
makes_from e (made.Stopped why) old mid new same h = added_from e old mid new same h
makes_from e (made.Spent drawn) old mid new same h = (record { word = h.0.word ∙ same.word; entries = h.0.entries ∙ same.entries }, h.1 ∙ ap length same.entries, h.2)
makes_from e made.NoMemory old mid new same h = record { word = h.word ∙ same.word; entries = h.entries ∙ same.entries }

-- ---- what was logged and answered is what was done
inside_by : (e : Event) (old now : Parts) (before after : Logged) (stopped : Option Stopped) (answer : Made) → answer ≡ made_of stopped → LogsWhatIsDone e old now before after answer → Inside e old now before after answer
inside_by e old now before after None answer is done = subst (Inside e old now before after) (sym is) (subst (LogsWhatIsDone e old now before after) is done)
inside_by e old now before after (Some why) answer is done = subst (Inside e old now before after) (sym is) (subst (LogsWhatIsDone e old now before after) is done)

pub inside_of : (e : Event) (old now : Parts) (before after : Logged) (acted : Acted) (answer : Made) → Performs e old now acted → Adds e acted.items.items before after → answer ≡ made_of acted.stopped → Inside e old now before after answer
inside_of e old now before after acted answer performs adds is = inside_by e old now before after acted.stopped answer is (record { acted = acted; performs = performs; adds = adds; answers = is })

adds_one : (e : Event) (items : List Item) (old new : Logged) → Adds e items old new → AddsOne e old new
adds_one e items old new h = record { added = h.added; of = h.of; word = h.word; entries = h.entries }

done_one : (e : Event) (old now : Parts) (before after : Logged) (answer : Made) → LogsWhatIsDone e old now before after answer → AddsOne e before after
done_one e old now before after answer done = adds_one e done.acted.items.items before after done.adds

-- what was made of parts was made
pub makes_of : (plan : ScriptData) (e : Event) (answer : Made) (old new : Logged) → MadeOfParts plan e answer old new → Makes e answer old new
makes_of plan e made.Did old new of = done_one e of.old of.new old new made.Did of.inside
makes_of plan e (made.Stopped why) old new of = done_one e of.old of.new old new (made.Stopped why) of.inside
makes_of plan e (made.Spent drawn) old new of = absurd (of.inside)
makes_of plan e made.NoMemory old new of = of.inside.0

-- ---- and of the log before there was room
adds_from : (e : Event) (items : List Item) (old mid new : Logged) → SameLog old mid → Adds e items mid new → Adds e items old new
adds_from e items old mid new same h = record { added = h.added; of = h.of; kept = h.kept; word = h.word ∙ same.word; entries = h.entries ∙ ap (λ l. l ++ h.added ∷ []) same.entries }

done_from : (e : Event) (was now : Parts) (answer : Made) (old mid new : Logged) → SameLog old mid → LogsWhatIsDone e was now mid new answer → LogsWhatIsDone e was now old new answer
done_from e was now answer old mid new same h = record { acted = h.acted; performs = h.performs; adds = adds_from e h.acted.items.items old mid new same h.adds; answers = h.answers }

pub made_from : (plan : ScriptData) (e : Event) (answer : Made) (old mid new : Logged) → SameLog old mid → MadeOfParts plan e answer mid new → MadeOf plan e answer old new
made_from plan e made.Did old mid new same of = record { old = of.old; new = of.new; planned = of.planned; has = of.has; inside = done_from e of.old of.new made.Did old mid new same of.inside }
made_from plan e (made.Stopped why) old mid new same of = record { old = of.old; new = of.new; planned = of.planned; has = of.has; inside = done_from e of.old of.new (made.Stopped why) old mid new same of.inside }
made_from plan e _ old mid new same of = tt
