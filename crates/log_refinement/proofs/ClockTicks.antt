-- The base clock goes up in the entries of all logs as the lines of the clock say, in their order.
use Rattle.log_refinement.proofs.Names.{◌≡◌, ℕ, ◌≤◌, Bool, true, false, ◌&&◌, cond, List, [], ◌∷◌, Option, Some, None}
use Rattle.log_refinement.proofs.Names.{inl, inr, refl, sym, ◌∙◌, ap, subst, arith, filter, sum, unwrap_or, Actor}
use Rattle.log_refinement.proofs.Names.{Clock, Node, Session, Janitor, SetupNumbers, Line, Verb, tick_of, same_actor}
use Rattle.log_refinement.proofs.Names.{has_opening, is_of, tick_by, with_tick, ticks_in, Entry, rise_by, rises_in}
use Rattle.log_refinement.proofs.Names.{first_event, Standing, gone_on, opened}
use Rattle.script_data.specs.declared.line.Verb.TheVariants as verb
use Rattle.script_data.specs.Ticks.{ticks_of}
use Rattle.log_refinement.proofs.FirstEvents.{first_rises}
use Rattle.log_refinement.proofs.OpeningLogs.{FollowsOpened}
use Rattle.log_refinement.proofs.OtherLogs.{OwnLine, AreOwn, IsOther, other_rise}
use Rattle.log_refinement.proofs.MadeEntries.{first_rise}
use Rattle.log_refinement.proofs.Weaving.{Woven}

-- ---- the lines of the clock
tick_opens : (actor : Actor) (line : Verb) → (same_actor actor Clock && has_opening actor line) ≡ false → tick_by actor line ≡ None
tick_opens Clock (verb.Tick by) is = absurd (cc)
tick_opens Clock _ is = refl
tick_opens (Node n) line is = refl
tick_opens (Session s) line is = refl
tick_opens Janitor line is = refl

ticks_by : (line : Line) (lines : List Line) → (own : Bool) → is_of Clock line ≡ own → ticks_in (cond own (line ∷ filter (is_of Clock) lines) (filter (is_of Clock) lines)) ≡ with_tick (tick_by line.actor line.verb) (ticks_in (filter (is_of Clock) lines))
unfolding ticks_in
ticks_by line lines true is = refl
ticks_by line lines false is = ap (λ (tick : Option ℕ). with_tick tick (ticks_in (filter (is_of Clock) lines))) (sym (tick_opens line.actor line.verb is))

clock_lines : (lines : List Line) → ticks_in (filter (is_of Clock) lines) ≡ ticks_in lines
unfolding ticks_in
clock_lines [] = refl
clock_lines (line ∷ lines) = ticks_by line lines (is_of Clock line) refl ∙ ap (with_tick (tick_by line.actor line.verb)) (clock_lines lines)

-- ---- the entries
none_rises : (e : Entry) (es : List Entry) (ticks : List ℕ) → rise_by e.event ≡ None → rises_in es ≡ ticks → with_tick (rise_by e.event) (rises_in es) ≡ ticks
none_rises e es ticks none same = ap (λ (tick : Option ℕ). with_tick tick (rises_in es)) none ∙ same

line_rises : (setup : SetupNumbers) (line : Line) (e : Entry) (es : List Entry) (ticks : List ℕ) → OwnLine setup Clock line → first_event Clock line.verb ≡ Some e.event → rises_in es ≡ ticks → with_tick (rise_by e.event) (rises_in es) ≡ with_tick (tick_by line.actor line.verb) ticks
line_rises setup line e es ticks own first same =
    ap (λ (tick : Option ℕ). with_tick tick (rises_in es)) (first_rises Clock line.verb e.event first)
    ∙ ap (with_tick (tick_by Clock line.verb)) same
    ∙ ap (λ (a : Actor). with_tick (tick_by a line.verb) ticks) (sym own.same)

-- the entries raise the clock as the lines that its log follows
abbrev RisesBy : SetupNumbers → List Entry → List Entry → Type 0
RisesBy setup own es = (st : Standing) (lines : List Line) → AreOwn setup Clock lines → FollowsOpened Clock st lines own → rises_in es ≡ ticks_in lines

other_step : (setup : SetupNumbers) (own : List Entry) (e : Entry) (es : List Entry) → IsOther setup Clock e.event → RisesBy setup own es → RisesBy setup own (e ∷ es)
unfolding rises_in
other_step setup own e es other later st lines are_own follows = none_rises e es (ticks_in lines) (other_rise setup e.event other) (later st lines are_own follows)

own_step : (setup : SetupNumbers) (own : List Entry) (e : Entry) (es : List Entry) → RisesBy setup own es → RisesBy setup (e ∷ own) (e ∷ es)
unfolding FollowsOpened AreOwn rises_in ticks_in
own_step setup own e es later st [] are_own follows = none_rises e es [] (other_rise setup e.event (inl follows.0)) (later (gone_on Clock st e) [] are_own follows.1)
own_step setup own e es later st (line ∷ lines) are_own (inl on) = none_rises e es (ticks_in (line ∷ lines)) (other_rise setup e.event (inl on.0)) (later (gone_on Clock st e) (line ∷ lines) are_own on.1)
own_step setup own e es later st (line ∷ lines) are_own (inr k) = line_rises setup line e es (ticks_in lines) are_own.0 k.1 (later (opened Clock line.verb st e.kept.items) lines are_own.1 k.2)

at_end : (st : Standing) (lines : List Line) → FollowsOpened Clock st lines [] → rises_in [] ≡ ticks_in lines
unfolding FollowsOpened rises_in ticks_in
at_end st lines follows = sym (ap ticks_in follows.0)

entries_rise : (setup : SetupNumbers) (own es : List Entry) → Woven (λ e. IsOther setup Clock e.event) own es → RisesBy setup own es
unfolding Woven
entries_rise setup own [] woven = λ st lines are_own follows. at_end st lines (subst (λ (xs : List Entry). FollowsOpened Clock st lines xs) woven follows)
entries_rise setup [] (e ∷ es) woven = other_step setup [] e es woven.0 (entries_rise setup [] es woven.1)
entries_rise setup (o ∷ own) (e ∷ es) (inl mine) = subst (λ (x : Entry). RisesBy setup (x ∷ own) (e ∷ es)) mine.0 (own_step setup own e es (entries_rise setup own es mine.1))
entries_rise setup (o ∷ own) (e ∷ es) (inr other) = other_step setup (o ∷ own) e es other.0 (entries_rise setup (o ∷ own) es other.1)

pub rises_as_lines : (setup : SetupNumbers) (own es : List Entry) (st : Standing) (lines : List Line) → Woven (λ e. IsOther setup Clock e.event) own es → AreOwn setup Clock (filter (is_of Clock) lines) → FollowsOpened Clock st (filter (is_of Clock) lines) own → rises_in es ≡ ticks_in lines
rises_as_lines setup own es st lines woven are_own follows = entries_rise setup own es woven st (filter (is_of Clock) lines) are_own follows ∙ clock_lines lines

-- ---- they are no more than all lines that name a tick
clock_most : (actor : Actor) (line : Verb) → unwrap_or (tick_by actor line) 0 ≤ tick_of line
clock_most Clock (verb.Tick by) = omega arith
clock_most actor line = omega arith

pub ticks_most : (lines : List Line) → sum (ticks_in lines) ≤ ticks_of lines
unfolding ticks_in ticks_of
ticks_most [] = omega arith
ticks_most (line ∷ lines) = omega (arith, first_rise (tick_by line.actor line.verb) (ticks_in lines), clock_most line.actor line.verb, ticks_most lines)
