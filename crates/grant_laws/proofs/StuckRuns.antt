-- What a run waits for where no turn can be made.
use Rattle.grant_laws.proofs.Names.{◌≡◌, ℕ, Bool, true, false, List, [], Option, Some, ◌⊎◌, inl, inr, refl, sym, ◌∙◌}
use Rattle.grant_laws.proofs.Names.{ap, subst, IsSomeAnd, AreInRange, Actor, Session, Event, Line, Verb, ScriptData}
use Rattle.grant_laws.proofs.Names.{View, IsPlayable, AreLinesOf, same_actor, clocks_of, view_of, actor_same}
use Rattle.grant_laws.proofs.Names.{NextAction, Makes, Waits, Passes, Reply, Name, Seat, Turn, lines_of, lines_left}
use Rattle.grant_laws.proofs.Names.{present_line, ahead_of, is_passed, Carried, aimed_clocks, name_posted, ahead_at}
use Rattle.grant_laws.proofs.Names.{seat_ahead, ahead_in, own_ahead, made_by, event_of, carried, IsTold, AreForThreads}
use Rattle.grant_laws.proofs.Names.{OwnTurnsAreTold, StageTurnsAreTold, TurnsKeepFacts, drop_get, filtered, IsStuck}
use Rattle.grant_laws.proofs.Names.{AwaitsName, AwaitsReply, StuckRunsWait}
use Rattle.script_data.specs.declared.line.Verb.TheVariants as verb
use Rattle.turn_rules.specs.declared.turn.Turn.TheVariants as turn
use Rattle.session_script.specs.PostedNames.{is_posted}
use Rattle.turn_rules.proofs.AimsAlike.{Alike, ahead_alike, passed_alike, waits_alike}
use Rattle.grant_laws.proofs.StoppedSeats.{HasStopped, always_stopped, passes_anyway, LacksName, next_name, HasRequest, next_reply}
use Rattle.grant_laws.proofs.SettledCommits.{commits_alone_settle}
use Rattle.grant_laws.proofs.StoodBefore.{Stuck}
use Rattle.grant_laws.proofs.StandsBefore.{stands_before}

-- an own turn that could be made
makes_none : (script : ScriptData) (turns : List Turn) (aim : ℕ) (actor : Actor) (e : Event) → OwnTurnsAreTold → AreInRange script.setup → IsPlayable script 0 script.lines → AreLinesOf script.setup script.lines → AreForThreads script.lines → IsStuck script turns → own_ahead script (carried script turns) actor aim ≡ Makes e → ⊥
makes_none script turns aim actor e told in_range playable of_script on stuck ahead =
    let c : Carried = carried script turns in
    let made : event_of script c (turn.Own actor aim) ≡ Some e = ap made_by ahead in
    let tells : IsTold script c.played e = told script turns actor aim e in_range playable of_script on made in
    stuck (turn.Own actor aim) (record { free = tt; in_place = tt; told = subst (λ (found : Option Event). IsSomeAnd found (λ now. IsTold script c.played now)) (sym made) tells })

-- a name that is not posted is one that the line awaits
unposted : (names : List (List ℕ)) (v : Verb) (name : List ℕ) → v ≡ verb.Await name → name_posted names v ≡ false → is_posted names name ≡ false
unposted names v name is lacks = ap (λ (w : Verb). name_posted names w) (sym is) ∙ lacks

-- by what is ahead of the present line, at whichever node its actor's share is aimed
waits_by : (script : ScriptData) (c : Carried) (k : Stuck script c) (seat : Seat) (line : Line) → present_line script seat ≡ Some line → line.actor ≡ seat.actor → is_passed (ahead_of (clocks_of script c.played) true (view_of c.played.state seat.actor) line seat) ≡ false → ((aim : ℕ) (e : Event) → seat_ahead script c seat aim ≡ Makes e → ⊥) → (ahead : NextAction) → ahead_of (aimed_clocks script c 0) (name_posted c.names line.verb) (view_of c.played.state seat.actor) line seat ≡ ahead → AwaitsName script c seat ⊎ AwaitsReply script c seat
waits_by script c k seat line present own stays none (Makes e) is = absurd (none 0 e (ap (λ (found : Option Line). ahead_at script c seat found 0) present ∙ is))
waits_by script c k seat line present own stays none Passes is =
    let view : View = view_of c.played.state seat.actor in
    let anyway : ahead_of (aimed_clocks script c 0) true view line seat ≡ Passes = passes_anyway (aimed_clocks script c 0) (name_posted c.names line.verb) line.actor line.verb seat.point view seat.unawaited is in
    let alike : Alike (ahead_of (clocks_of script c.played) true view line seat) (ahead_of (aimed_clocks script c 0) true view line seat) = ahead_alike (clocks_of script c.played) (aimed_clocks script c 0) true line.actor line.verb seat.point view seat.unawaited in
    let clash : true ≡ false = sym (passed_alike _ _ alike ∙ ap is_passed anyway) ∙ stays in
    absurd (cc)
waits_by script c k seat line present own stays none (Waits Name) is =
    let lacks : LacksName (name_posted c.names line.verb) line.verb = next_name (aimed_clocks script c 0) (name_posted c.names line.verb) line.actor line.verb seat.point (view_of c.played.state seat.actor) seat.unawaited is in
    inl (record { line = line; name = lacks.0; present = present; awaits = lacks.1; unposted = unposted c.names line.verb lacks.0 lacks.1 lacks.2 })
waits_by script c k seat line present own stays none (Waits Reply) is =
    let posted : Bool = name_posted c.names line.verb in
    let view : View = view_of c.played.state seat.actor in
    let has : HasRequest line.actor view = next_reply (aimed_clocks script c 0) posted line.actor line.verb seat.point view seat.unawaited is in
    let actor_is : seat.actor ≡ Session has.session = sym own ∙ has.actor_is in
    let alike : (aim : ℕ) → Alike (ahead_of (aimed_clocks script c 0) posted view line seat) (ahead_of (aimed_clocks script c aim) posted view line seat) = λ aim. ahead_alike (aimed_clocks script c 0) (aimed_clocks script c aim) posted line.actor line.verb seat.point view seat.unawaited in
    inr (record {
      session = has.session;
      actor = actor_is;
      waits = λ aim. ap (λ (found : Option Line). ahead_at script c seat found aim) present ∙ waits_alike _ _ Reply (alike aim) is;
      before = stands_before script c k has.session has.request (subst (λ (actor : Actor). (view_of c.played.state actor).request ≡ Some has.request) actor_is has.is);
    })

-- a seat's line is its actor's
own_line : (script : ScriptData) (seat : Seat) (line : Line) → present_line script seat ≡ Some line → line.actor ≡ seat.actor
own_line script seat line present = actor_same line.actor seat.actor (filtered (λ (l : Line). same_actor l.actor seat.actor) script.lines seat.place line present).passes

waits : (script : ScriptData) (c : Carried) (k : Stuck script c) (seat : Seat) → ((aim : ℕ) (e : Event) → seat_ahead script c seat aim ≡ Makes e → ⊥) → HasStopped script (clocks_of script c.played) (view_of c.played.state seat.actor) seat → (lines_left script seat ≡ []) ⊎ AwaitsName script c seat ⊎ AwaitsReply script c seat
waits script c k seat none (inl over) = inl over
waits script c k seat none (inr has) =
    let present : present_line script seat ≡ Some has.line = drop_get seat.place (lines_of script seat.actor) has.line has.rest has.left in
    inr (waits_by script c k seat has.line present (own_line script seat has.line present) has.ahead none (ahead_of (aimed_clocks script c 0) (name_posted c.names has.line.verb) (view_of c.played.state seat.actor) has.line seat) refl)

pub stuck_runs_wait : OwnTurnsAreTold → StageTurnsAreTold → TurnsKeepFacts → StuckRunsWait
stuck_runs_wait own_told stage_told facts script turns actor seat in_range playable of_script on stuck sits =
    let c : Carried = carried script turns in
    let k : Stuck script c = record { stands = (facts script turns in_range playable).stands; fits = commits_alone_settle script turns in_range playable; tells = stage_told; none = stuck } in
    waits script c k seat (λ aim e makes. makes_none script turns aim actor e own_told in_range playable of_script on stuck (ap (λ (found : Option Seat). ahead_in script c found aim) sits ∙ makes)) (always_stopped script turns actor seat sits)
