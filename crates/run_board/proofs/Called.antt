-- A turn's call, from what a script run keeps before it to what it keeps after it.
use Rattle.run_board.proofs.Names.{◌≡◌, ℕ, true, false, List, [], ◌∷◌, ◌++◌, All, inl, inr, length, sym, ◌∙◌, ap, subst}
use Rattle.run_board.proofs.Names.{Item, Event, IsSteadyAt, reading_of, State, Reaches, Turn, names_after, held_after}
use Rattle.run_board.proofs.Names.{with_event, carried, Seated, step_in, is_told, IsLeftOut, TurnsBy, Makes, Ran}
use Rattle.run_board.proofs.Names.{reached_by, with_turn, IsSeated, SitsAt, CanPass}
use Rattle.command_semantics.specs.Runs.{Played}
use Rattle.run_board.proofs.Kept.{Kept, Call, IsMade, CanTurn, Calls, HasGone, StillStands, HasPlayed, since, moved_by}
use Rattle.run_board.proofs.Opening.{all_can_pass}
use Rattle.run_board.proofs.Quiet.{untold, appended_none}
use Rattle.run_board.proofs.Since.{HasGrown, by_append}
use Rattle.run_board.proofs.Steady.{steady}
use Rattle.run_board.proofs.Stopping.{Went, went, makes}
use Rattle.run_board.proofs.TurnMade.{lawful, played_on}
use Rattle.run_board.proofs.Turned.{event_seated}

-- ---- the turns and what is kept may be written otherwise
pub same_made : (r on : Ran) (kept now : Kept) → IsMade r kept → on ≡ r → now ≡ kept → IsMade on now
same_made r on kept now k turns parts = subst (λ (x : Ran). IsMade x now) (sym turns) (subst (λ (x : Kept). IsMade r x) (sym parts) k)

-- ---- before the call
pub can_turn : (r old : Ran) (t : Turn) (e : Event) → r ≡ old → CanTurn old t e → CanTurn r t e
can_turn r old t e same k = subst (λ (x : Ran). CanTurn x t e) (sym same) k

pub is_steady : (r : Ran) (t : Turn) (e : Event) (kept : Kept) → IsMade r kept → CanTurn r t e → IsSteadyAt kept.whole.state.setup.skew kept.whole.state.seen (reading_of e)
is_steady r t e kept k can = subst (λ (w : State). IsSteadyAt w.setup.skew w.seen (reading_of e)) (sym k.stands.state) (steady r.script r.turns t e k.out.sound k.out.few can.event)

-- ---- after it
pub has_gone : (r : Ran) (kept : Kept) (call : Call) → IsMade r kept → Calls kept call → HasGone r call
has_gone r kept call k calls =
    let reaches : Reaches (step_in r call.event).stop call.answer (StillStands r call) (HasPlayed r call) = calls.plays r.script (reached_by r).played k.stands in
    let gone : Went (step_in r call.event).stop call.stop (HasPlayed r call) = went (step_in r call.event).stop call.answer call.stop (StillStands r call) (HasPlayed r call) reaches calls.halts in
    let grown : HasGrown call.before (step_in r call.event).items call.now.history = by_append call.before (reached_by r).played.items (step_in r call.event).items call.now.history (calls.length_is ∙ ap (λ (h : List Item). length h) k.stands.history) gone.stands.history in
    record {
      reaches = reaches;
      halts = calls.halts;
      stands = gone.stands;
      stopped = gone.stopped;
      least = grown.least;
      appended = grown.since;
    }

-- lines can be passed then
pub may_pass : (r : Ran) (kept : Kept) (call : Call) (leads : List ℕ) (moved : List Seated) → IsMade r kept → CanTurn r call.turn call.event → HasGone r call → leads ≡ r.script.leads → moved ≡ moved_by kept call → All (CanPass call.after leads) moved
may_pass r kept call leads moved k can gone same is =
    let sits : SitsAt r.script (with_event r.script (reached_by r) call.turn call.event) (names_after kept.names call.event) (held_after kept.held call.event) (moved_by kept call) = event_seated r kept call k.sits gone in
    let time : call.after ≡ (carried r.script (r.turns ++ call.turn ∷ [])).played.clock = gone.stands.time ∙ ap (λ (p : Played). p.clock) (sym (played_on r.script r.turns call.turn call.event can.event)) in
    all_can_pass r.script (r.turns ++ call.turn ∷ []) call.after leads moved k.out.sound k.out.few time same (subst (λ (ss : List Seated). All (IsSeated r.script) ss) (sym is) sits.each)

-- how the call answered tells where its event stopped
makes_by : (r old new : Ran) (call : Call) → r ≡ old → HasGone r call → TurnsBy old call.turn call.event new → Makes old call.turn call.event call.answer new
makes_by r old new call same gone made = makes old call.turn call.event call.answer call.stop (StillStands r call) (HasPlayed r call) new (subst (λ (x : Ran). Reaches (step_in x call.event).stop call.answer (StillStands r call) (HasPlayed r call)) same gone.reaches) gone.halts made

-- ---- the turn was made
turns_on : (r old new : Ran) (call : Call) → r ≡ old → CanTurn r call.turn call.event → HasGone r call → is_told call.event (since call) ≡ true → new ≡ with_turn r call.turn → TurnsBy old call.turn call.event new
turns_on r old new call same can gone tells made = subst (λ (x : Ran). TurnsBy x call.turn call.event new) same (inl (lawful r.script (reached_by r) call.turn call.event (since call) can.event can.free can.in_place gone.appended tells, made))

pub makes_turn : (r old new : Ran) (call : Call) → r ≡ old → CanTurn r call.turn call.event → HasGone r call → is_told call.event (since call) ≡ true → new ≡ with_turn r call.turn → Makes old call.turn call.event call.answer new
makes_turn r old new call same can gone tells made = makes_by r old new call same gone (turns_on r old new call same can gone tells made)

-- ---- it was left out
left_out : (r old new : Ran) (e : Event) (items : List Item) → r ≡ old → items ≡ (step_in r e).items → is_told e items ≡ false → new ≡ r → IsLeftOut old e new
left_out r old new e items same appended quiet stays =
    let silent : is_told e (step_in r e).items ≡ false = sym (ap (λ (xs : List Item). is_told e xs) appended) ∙ quiet in
    subst (λ (x : Ran). IsLeftOut x e new) same (record {
      untold = untold r.script (reached_by r).played e silent;
      none = appended_none r.script (reached_by r).played e silent;
      same = stays;
    })

pub leaves_out : (r old new : Ran) (call : Call) → r ≡ old → HasGone r call → is_told call.event (since call) ≡ false → new ≡ r → Makes old call.turn call.event call.answer new
leaves_out r old new call same gone quiet stays = makes_by r old new call same gone (inr (left_out r old new call.event (since call) same gone.appended quiet stays))
