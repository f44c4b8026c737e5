-- For this crate's own proofs.
-- What a script run keeps once the event of a turn was made.
use Rattle.run_board.proofs.Names.{◌≡◌, ℕ, Bool, true, false, List, [], ◌∷◌, ◌++◌, Option, Some, None, inl, inr, refl}
use Rattle.run_board.proofs.Names.{sym, ◌∙◌, ap, subst, slice_get, slice_set, IsSomeAnd, same_Some, Item, AtEach-push}
use Rattle.run_board.proofs.Names.{Event, State, ScriptData, Interruption, halt_of, fate_of, step_of, played, Serving}
use Rattle.run_board.proofs.Names.{StandsAt, Turn, Carried, event_of, carried, IsFree, IsInPlace, IsTold, IsLawful}
use Rattle.run_board.proofs.Names.{stage_of, step_in, is_told, lacking_after, cleared, Ran, reached_by, with_turn}
use Rattle.run_board.proofs.Names.{IsToldUsedUp, AreToldUsedUp, IsCarriedOut}
use Rattle.system_parts.specs.declared.instance.Place.TheVariants as place
use Rattle.machine.specs.declared.event.Event.TheVariants as event
use Rattle.command_semantics.specs.declared.point.Interruption.TheVariants as halt
use Rattle.command_semantics.specs.Runs.{Played}
use Rattle.turn_rules.specs.declared.turn.Turn.TheVariants as turn
use Rattle.run_board.proofs.Kept.{Kept, Call, IsMade, CanTurn, HasGone, since, kept_after, kept_still}
use Rattle.run_board.proofs.Lacking.{noted_at, none_cleared}
use Rattle.run_board.proofs.Quiet.{ToldLaws, told, stays}
use Rattle.run_board.proofs.Silent.{decide_lacks, serving, is_accepted}
use Rattle.run_board.proofs.Steady.{facts}
use Rattle.run_board.proofs.Turned.{carried_on, sits_on}

-- ---- the nodes that lack stamps
one_more_node : (w : State) (node : ℕ) (lacking : List Bool) → IsToldUsedUp (slice_get w.nodes node) → AreToldUsedUp w lacking → AreToldUsedUp w (slice_set lacking node true)
one_more_node w node lacking now all = λ m is. elim (noted_at lacking node m is) [
  | inl here ↦ subst (λ (n : ℕ). IsToldUsedUp (slice_get w.nodes n)) (sym here) now
  | inr there ↦ all m there
]

lacks_by_halt : (w : State) (node s : ℕ) (lacking : List Bool) (stop : Option Interruption) → (stop ≡ Some halt.NoStamp → IsToldUsedUp (slice_get w.nodes node)) → AreToldUsedUp w lacking → AreToldUsedUp w (lacking_after lacking (turn.Decide node s) stop)
lacks_by_halt w node s lacking (Some halt.NoStamp) now all = one_more_node w node lacking (now refl) all
lacks_by_halt w node s lacking (Some halt.NotYet) now all = all
lacks_by_halt w node s lacking (Some halt.Refused) now all = all
lacks_by_halt w node s lacking (Some halt.Faulted) now all = all
lacks_by_halt w node s lacking None now all = all

decide_used : (script : ScriptData) (turns : List Turn) (lacking : List Bool) (node s : ℕ) (e : Event) (stop : Option Interruption) → IsCarriedOut script turns lacking → IsInPlace (carried script turns).played.state (turn.Decide node s) → Some (event.Decide node s) ≡ Some e → stop ≡ halt_of (step_of script (carried script turns).played e).stop → stop ≡ Some halt.NoStamp → IsToldUsedUp (slice_get (step_of script (carried script turns).played e).state.nodes node)
decide_used script turns lacking node s e stop k in_place is stopped none =
    let c : Carried = carried script turns in
    let found : Serving c.played.state c.played.items s (node, place.Accepted) = serving c.played.state c.played.items node s place.Accepted (facts script turns k.sound k.few).reached.stands in_place in
    subst (λ (x : Event). halt_of (step_of script c.played x).stop ≡ Some halt.NoStamp → IsToldUsedUp (slice_get (step_of script c.played x).state.nodes node)) (same_Some (event.Decide node s) e is)
    (decide_lacks c.played.state c.played.items node s (fate_of script c.played (event.Decide node s)) found (is_accepted c.played.state c.played.items node s found)) (sym stopped ∙ none)

pub lacks_on : (script : ScriptData) (turns : List Turn) (lacking nodes : List Bool) (t : Turn) (e : Event) (stop : Option Interruption) → IsCarriedOut script turns lacking → IsInPlace (carried script turns).played.state t → event_of script (carried script turns) t ≡ Some e → stop ≡ halt_of (step_of script (carried script turns).played e).stop → AreToldUsedUp (step_of script (carried script turns).played e).state nodes → AreToldUsedUp (step_of script (carried script turns).played e).state (lacking_after nodes t stop)
lacks_on script turns lacking nodes (turn.Decide node s) e stop k in_place is stopped all = lacks_by_halt (step_of script (carried script turns).played e).state node s nodes stop (decide_used script turns lacking node s e stop k in_place is stopped) all
lacks_on script turns lacking nodes (turn.Own actor aim) e stop k in_place is stopped all = all
lacks_on script turns lacking nodes (turn.Accept node s) e stop k in_place is stopped all = all
lacks_on script turns lacking nodes (turn.Put node s) e stop k in_place is stopped all = all
lacks_on script turns lacking nodes (turn.Answer node s) e stop k in_place is stopped all = all
lacks_on script turns lacking nodes (turn.Extend node) e stop k in_place is stopped all = all

-- ---- the turn is told
pub lawful : (script : ScriptData) (c : Carried) (t : Turn) (e : Event) (items : List Item) → event_of script c t ≡ Some e → IsFree c.held (stage_of t) → IsInPlace c.played.state t → items ≡ (step_of script c.played e).items → is_told e items ≡ true → IsLawful script c t
lawful script c t e items is free in_place appended tells = record {
  free = free;
  in_place = in_place;
  told = subst (λ (found : Option Event). IsSomeAnd found (λ x. IsTold script c.played x)) (sym is) (told script c.played e (sym (ap (λ (xs : List Item). is_told e xs) appended) ∙ tells));
}

pub played_on : (script : ScriptData) (turns : List Turn) (t : Turn) (e : Event) → event_of script (carried script turns) t ≡ Some e → (carried script (turns ++ t ∷ [])).played ≡ played script (carried script turns).played e
played_on script turns t e is = ap (λ (d : Carried). d.played) (carried_on script turns t e is)

-- what is kept after it
pub turn_made : (r : Ran) (kept : Kept) (call : Call) → IsMade r kept → CanTurn r call.turn call.event → HasGone r call → is_told call.event (since call) ≡ true → IsMade (with_turn r call.turn) (kept_after r.script.leads kept call)
turn_made r kept call k can gone tells =
    let on : (reached_by (with_turn r call.turn)).played ≡ played r.script (reached_by r).played call.event = played_on r.script r.turns call.turn call.event can.event in
    let none : AreToldUsedUp (step_in r call.event).state (cleared kept.lacking) = λ node is. absurd (none_cleared kept.lacking node is) in
    record {
      stands = subst (λ (p : Played). StandsAt r.script p call.now call.after call.later) (sym on) gone.stands;
      sits = sits_on r kept call k.sits can.event gone;
      out = record {
        sound = k.out.sound;
        few = k.out.few;
        sessions = k.out.sessions;
        for_threads = k.out.for_threads;
        lawful = AtEach-push (λ before x. IsLawful r.script (carried r.script before) x) r.turns call.turn k.out.lawful (lawful r.script (reached_by r) call.turn call.event (since call) can.event can.free can.in_place gone.appended tells);
        used_up = subst (λ (p : Played). AreToldUsedUp p.state (lacking_after (cleared kept.lacking) call.turn call.stop)) (sym on) (lacks_on r.script r.turns kept.lacking (cleared kept.lacking) call.turn call.event call.stop k.out can.in_place can.event gone.stopped none);
      };
    }

-- ---- it is not told
pub turn_silent : (laws : ToldLaws) (r : Ran) (kept : Kept) (call : Call) → IsMade r kept → CanTurn r call.turn call.event → HasGone r call → is_told call.event (since call) ≡ false → IsMade r (kept_still kept call)
turn_silent laws r kept call k can gone quiet =
    let p : Played = (reached_by r).played in
    let same : played r.script p call.event ≡ p = stays laws r kept.lacking call.turn call.event k.out can.in_place can.event (sym (ap (λ (xs : List Item). is_told call.event xs) gone.appended) ∙ quiet) in
    let all : AreToldUsedUp (step_in r call.event).state kept.lacking = subst (λ (q : Played). AreToldUsedUp q.state kept.lacking) (sym same) k.out.used_up in
    record {
      stands = subst (λ (q : Played). StandsAt r.script q call.now call.after call.later) same gone.stands;
      sits = k.sits;
      out = record {
        sound = k.out.sound;
        few = k.out.few;
        sessions = k.out.sessions;
        for_threads = k.out.for_threads;
        lawful = k.out.lawful;
        used_up = subst (λ (q : Played). AreToldUsedUp q.state (lacking_after kept.lacking call.turn call.stop)) same (lacks_on r.script r.turns kept.lacking kept.lacking call.turn call.event call.stop k.out can.in_place can.event gone.stopped all);
      };
    }
