-- For this crate's own proofs.
-- The events of a session's turns are of that session.
use Rattle.run_board.proofs.Names.{◌≡◌, ℕ, Bool, true, false, cond, Option, Some, None, refl, subst, same_Some}
use Rattle.run_board.proofs.Names.{none-some, Actor, Session, Place, Event, Verb, ScriptData, Point, Opens, Drives}
use Rattle.run_board.proofs.Names.{Extends, Finishes, Reads, Steps, Over, View, Clocks, is_served, finish_next, places}
use Rattle.run_board.proofs.Names.{placing_next, idle_next, read_next, steps_next, view_of, NextAction, Waits, Passes}
use Rattle.run_board.proofs.Names.{Turn, made_next, drive_ahead, collect_ahead, own_opens, own_next, Carried}
use Rattle.run_board.proofs.Names.{aimed_clocks, name_posted, made_by, event_of, OwnTurn, own_turn, touched}
use Rattle.machine.specs.declared.event.Doing.{Doing}
use Rattle.machine.specs.declared.event.Doing.TheVariants as doing
use Rattle.machine.specs.declared.event.Event.TheVariants as event
use Rattle.script_data.specs.declared.line.Verb.TheVariants as verb
use Rattle.turn_rules.specs.declared.ahead.Why.TheVariants.{Reply}
use Rattle.turn_rules.specs.declared.turn.Turn.TheVariants as turn

-- the event is of the session: made by itself, or by a stage that serves its request
abbrev pub IsEventOf : ℕ → Event → Type 0
IsEventOf s (event.Note actor said) = Unit {0}
IsEventOf s (event.AskBegin session node) = session ≡ s
IsEventOf s (event.AskCommit session node) = session ≡ s
IsEventOf s (event.Accept node session reading) = session ≡ s
IsEventOf s (event.Decide node session) = session ≡ s
IsEventOf s (event.Put node session) = session ≡ s
IsEventOf s (event.Answer node session) = session ≡ s
IsEventOf s (event.Write session key value) = session ≡ s
IsEventOf s (event.Fetch session key) = session ≡ s
IsEventOf s (event.Step session) = session ≡ s
IsEventOf s (event.Heal session) = session ≡ s
IsEventOf s (event.Abort session) = session ≡ s
IsEventOf s (event.Vanish session) = session ≡ s
IsEventOf s e = ⊥

abbrev IfOf : ℕ → Option Event → Type 0
IfOf s None = Unit {0}
IfOf s (Some e) = IsEventOf s e

abbrev NextActionOf : ℕ → NextAction → Type 0
NextActionOf s ahead = IfOf s (made_by ahead)

made_of : (s : ℕ) (found : Option Event) → IfOf s found → NextActionOf s (made_next found)
made_of s None is = tt
made_of s (Some e) is = is

-- ---- a session's own lines
finish_of : (s : ℕ) (now : Doing) → IfOf s (finish_next s now)
finish_of s doing.Completing = refl
finish_of s _ = tt

placing_of : (s : ℕ) (now : Doing) (placed : Bool) → IfOf s (placing_next s now placed)
placing_of s doing.Placing true = refl
placing_of s doing.Placing false = tt
placing_of s doing.Completing placed = refl
placing_of s _ placed = tt

idle_of : (s : ℕ) (now : Doing) → IfOf s (idle_next s now)
idle_of s doing.Free = refl
idle_of s doing.Gone = refl
idle_of s doing.Open = refl
idle_of s _ = tt

read_of : (s : ℕ) (now : Doing) → IfOf s (read_next s now)
read_of s doing.Reading = refl
read_of s _ = tt

steps_of : (s : ℕ) (now : Doing) → IfOf s (steps_next s now)
steps_of s doing.Reading = refl
steps_of s doing.Placing = refl
steps_of s doing.OpenOutcome = refl
steps_of s doing.Completing = refl
steps_of s _ = tt

waits_of : (s : ℕ) (served : Bool) → NextActionOf s (cond served (Waits Reply) Passes)
waits_of s true = tt
waits_of s false = tt

drive_of : (s : ℕ) (line : Verb) (view : View) (request : Option (ℕ × Place)) → NextActionOf s (drive_ahead s line view request)
drive_of s line view None = made_of s (placing_next s view.doing (places line)) (placing_of s view.doing (places line))
drive_of s line view (Some request) = waits_of s (is_served line request.1)

collect_of : (s : ℕ) (view : View) (unawaited : Bool) (request : Option (ℕ × Place)) → NextActionOf s (collect_ahead s view unawaited request)
collect_of s view unawaited (Some request) = tt
collect_of s view true None = made_of s (placing_next s view.doing true) (placing_of s view.doing true)
collect_of s view false None = made_of s (idle_next s view.doing) (idle_of s view.doing)

opens_of : (s : ℕ) (clocks : Clocks) (posted : Bool) (line : Verb) (view : View) (unawaited : Bool) → NextActionOf s (own_opens clocks posted (Session s) line view unawaited)
opens_of s clocks true (verb.Await name) view unawaited = tt
opens_of s clocks false (verb.Await name) view unawaited = tt
opens_of s clocks posted verb.Collect view unawaited = collect_of s view unawaited view.request
opens_of s clocks posted (verb.Post name) view unawaited = tt
opens_of s clocks posted (verb.Begin to) view unawaited = refl
opens_of s clocks posted (verb.Commit to) view unawaited = refl
opens_of s clocks posted (verb.Submit to) view unawaited = refl
opens_of s clocks posted (verb.AskBegin node) view unawaited = refl
opens_of s clocks posted (verb.AskCommit node) view unawaited = refl
opens_of s clocks posted (verb.Write key value) view unawaited = refl
opens_of s clocks posted (verb.Read key) view unawaited = refl
opens_of s clocks posted (verb.Fetch key) view unawaited = refl
opens_of s clocks posted verb.Abort view unawaited = refl
opens_of s clocks posted verb.Heal view unawaited = refl
opens_of s clocks posted verb.Vanish view unawaited = refl
opens_of s clocks posted verb.Step view unawaited = refl
opens_of s clocks posted verb.Finish view unawaited = refl
opens_of s clocks posted _ view unawaited = tt

own_of : (s : ℕ) (clocks : Clocks) (posted : Bool) (line : Verb) (at : Point) (view : View) (unawaited : Bool) → NextActionOf s (own_next clocks posted (Session s) line at view unawaited)
own_of s clocks posted line Opens view unawaited = opens_of s clocks posted line view unawaited
own_of s clocks posted line Drives view unawaited = drive_of s line view view.request
own_of s clocks posted line Extends view unawaited = tt
own_of s clocks posted line Finishes view unawaited = made_of s (finish_next s view.doing) (finish_of s view.doing)
own_of s clocks posted line Reads view unawaited = made_of s (read_next s view.doing) (read_of s view.doing)
own_of s clocks posted line Steps view unawaited = made_of s (steps_next s view.doing) (steps_of s view.doing)
own_of s clocks posted line Over view unawaited = tt

own_event : (script : ScriptData) (c : Carried) (s aim : ℕ) (e : Event) → event_of script c (turn.Own (Session s) aim) ≡ Some e → IsEventOf s e
own_event script c s aim e is =
    let k : OwnTurn script c (Session s) aim e = own_turn script c (Session s) aim e is in
    let clocks : Clocks = aimed_clocks script c aim in
    let posted : Bool = name_posted c.names k.line.verb in
    let view : View = view_of c.played.state k.line.actor in
    let made : made_by (own_next clocks posted (Session s) k.line.verb k.seat.point view k.seat.unawaited) ≡ Some e = subst (λ (a : Actor). made_by (own_next clocks posted a k.line.verb k.seat.point view k.seat.unawaited) ≡ Some e) k.own k.makes in
    subst (λ (found : Option Event). IfOf s found) made (own_of s clocks posted k.line.verb k.seat.point view k.seat.unawaited)

-- ---- each turn
same_session : (t s : ℕ) → Some t ≡ Some s → t ≡ s
same_session t s is = same_Some t s is

made_is_of : (s : ℕ) (made e : Event) → Some made ≡ Some e → IsEventOf s made → IsEventOf s e
made_is_of s made e is of = subst (λ (x : Event). IsEventOf s x) (same_Some made e is) of

pub touches_one : (script : ScriptData) (c : Carried) (t : Turn) (e : Event) (s : ℕ) → touched t ≡ Some s → event_of script c t ≡ Some e → IsEventOf s e
touches_one script c (turn.Own (Session r) aim) e s own is = subst (λ (q : ℕ). IsEventOf q e) (same_session r s own) (own_event script c r aim e is)
touches_one script c (turn.Own _ aim) e s own is = absurd (none-some s own)
touches_one script c (turn.Accept node r) e s own is = made_is_of s _ e is (same_session r s own)
touches_one script c (turn.Decide node r) e s own is = made_is_of s _ e is (same_session r s own)
touches_one script c (turn.Put node r) e s own is = made_is_of s _ e is (same_session r s own)
touches_one script c (turn.Answer node r) e s own is = made_is_of s _ e is (same_session r s own)
touches_one script c (turn.Extend node) e s own is = absurd (none-some s own)
