-- Only commits are settled, whichever turns are made.
use Rattle.grant_laws.proofs.Names.{◌≡◌, ℕ, Bool, true, false, List, [], ◌∷◌, Option, Some, None}
use Rattle.grant_laws.proofs.Names.{sym, ◌∙◌, subst, arith, fold, slice_set, same_Some, none-some, AreInRange}
use Rattle.grant_laws.proofs.Names.{Held, Progress, Request, Begin, InstanceEntry, held_of}
use Rattle.grant_laws.proofs.Names.{with_request, drawn_as, just_asked, held_of-instance_new, State, Event, IsSteadyAt}
use Rattle.grant_laws.proofs.Names.{granted, rules_of, instance_of, ScriptData, InstanceAt, instance_changed}
use Rattle.grant_laws.proofs.Names.{instance_ended, held_set, IsPlayable, fate_of, clocks_of, Actor, Turn, OwnTurn}
use Rattle.grant_laws.proofs.Names.{own_turn, turn_timed, stage_turn, Carried, event_of, all_passed, turned_by, turned}
use Rattle.grant_laws.proofs.Names.{at_first, carried, Facts, facts_turned, facts_at_first}
use Rattle.system_parts.specs.declared.instance.Progress.TheVariants as progress
use Rattle.machine.specs.Machine.{reading_of}
use Rattle.isolation_laws.proofs.Inversions.InversionSound.{none_at}
use Rattle.machine.specs.Outcome.OutcomesOfRecord.{AlikeNodes, Granted, granted_nodes, Renewed, renewed_nodes, Extended, extended_nodes}
use Rattle.machine.specs.Outcome.OutcomesOfStamps.{AtDrawn, settled_nodes}
use Rattle.machine.specs.Outcome.Outcomes.{Outcome, left_by}
use Rattle.isolation_laws.proofs.AlwaysHolds.{each_outcome}
use Rattle.command_semantics.proofs.Timing.{tick_ahead, Timed}
use Rattle.turn_rules.specs.declared.turn.Turn.TheVariants as turn
use Rattle.turn_rules.proofs.OwnTimes.{own_tick}

-- a begin is never settled, nor handed over to be placed
abbrev pub MaySettle : Request → Progress → Type 0
MaySettle (Begin s) (progress.Settled commit how) = ⊥
MaySettle (Begin s) (progress.Handed commit) = ⊥
MaySettle request p = Unit {0}

abbrev pub Fits : Held → Type 0
Fits held = MaySettle held.request held.progress

abbrev pub AllFit : List (Option InstanceEntry) → Type 0
AllFit nodes = (n s : ℕ) (i : InstanceEntry) (held : Held) → InstanceAt nodes n i → held_of i s ≡ Some held → Fits held

-- ---- one node changed
by_node : (nodes : List (Option InstanceEntry)) (node : ℕ) (now : InstanceEntry) → AllFit nodes → ((s : ℕ) (held : Held) → held_of now s ≡ Some held → Fits held) → AllFit (slice_set nodes node (Some now))
by_node nodes node now all here n s i held at has = grind (arith, instance_changed)

-- one request is another, or none
by_request : (nodes : List (Option InstanceEntry)) (node r : ℕ) (i now : InstanceEntry) (new : Option Held) → AllFit nodes → InstanceAt nodes node i → now.requests ≡ (with_request i r new).requests → ((held : Held) → new ≡ Some held → Fits held) → AllFit (slice_set nodes node (Some now))
by_request nodes node r i now new all at same fits = grind (arith, held_set, instance_changed)

new_fits : (now held : Held) → Fits now → Some now ≡ Some held → Fits held
new_fits now held fits is = subst (λ (h : Held). Fits h) (same_Some now held is) fits

-- ---- each outcome
asked_fits : (request : Request) → Fits (just_asked request)
asked_fits request = grind arith

accepted_fits : (request : Request) → MaySettle request progress.Accepted
accepted_fits request = grind arith

drawn_fits : (direct : Bool) (request : Request) (stamp : ℕ) → MaySettle request (drawn_as direct request stamp)
drawn_fits direct request stamp = grind arith

granted_fits : (w : State) (k : Granted w) (failed : Bool) → AllFit w.nodes → AllFit (granted_nodes w k failed)
granted_fits w k true all = all
granted_fits w k false all = by_node w.nodes k.node (instance_of w.setup k.node (granted (rules_of w.setup) w.master k.reading)) all (λ s held has. absurd (none-some held (sym (held_of-instance_new (granted (rules_of w.setup) w.master k.reading) k.node w.setup.buckets w.setup.width w.setup.slots s w.setup.direct) ∙ has)))

renewed_fits : (w : State) (k : Renewed w) (failed : Bool) → AllFit w.nodes → AllFit (renewed_nodes w k failed)
renewed_fits w k failed all = grind (arith, instance_changed)

extended_fits : (w : State) (k : Extended w) (failed : Bool) → AllFit w.nodes → AllFit (extended_nodes w k failed)
extended_fits w k failed all = grind (arith, instance_changed)

-- each request was there, at the same place
by_alike : (old new : List (Option InstanceEntry)) → AlikeNodes old new → AllFit old → AllFit new
by_alike old new alike all n s j held at has = grind arith

settled_fits : (w : State) (it : AtDrawn w) (by : Rattle.system_parts.specs.declared.instance.Settled.Settled) → AllFit w.nodes → AllFit (settled_nodes w it by)
settled_fits w it by all = grind (arith, held_set, same_Some, instance_changed)

over_fits : (w : State) (node session : ℕ) (i : InstanceEntry) → InstanceAt w.nodes node i → AllFit w.nodes → AllFit (slice_set w.nodes node (Some (with_request i session None)))
over_fits w node session i at all = grind (arith, none-some, held_set, instance_changed)

fits_by : (w : State) (o : Outcome w) → AllFit w.nodes → AllFit (left_by w o).nodes
fits_by w o all =
    grind (arith, by_alike, granted_fits, renewed_fits, extended_fits, instance_ended, by_request, new_fits, accepted_fits, over_fits, drawn_fits, settled_fits)

-- ---- the readings of turns are steady
steady_at : (script : ScriptData) (c : Carried) (e : Event) (tick : ℕ) → IsPlayable script 0 script.lines → Facts script c → Timed (clocks_of script c.played) tick e → IsSteadyAt c.played.state.setup.skew c.played.state.seen (reading_of e)
steady_at script c e tick playable k timed = grind arith

own_steady : (script : ScriptData) (c : Carried) (aim : ℕ) (actor : Actor) (e : Event) → IsPlayable script 0 script.lines → Facts script c → OwnTurn script c actor aim e → IsSteadyAt c.played.state.setup.skew c.played.state.seen (reading_of e)
own_steady script c aim actor e playable k own =
    steady_at script c e (own_tick own.line.actor (tick_ahead own.seat.point own.line.verb)) playable k (turn_timed script c actor aim e own)

pub turn_steady : (script : ScriptData) (c : Carried) (t : Turn) (e : Event) → IsPlayable script 0 script.lines → Facts script c → event_of script c t ≡ Some e → IsSteadyAt c.played.state.setup.skew c.played.state.seen (reading_of e)
turn_steady script c (turn.Own actor aim) e playable k is = own_steady script c aim actor e playable k (own_turn script c actor aim e is)
turn_steady script c (turn.Accept node session) e playable k is = steady_at script c e 0 playable k (stage_turn script c (turn.Accept node session) e (λ own. own) is).timed
turn_steady script c (turn.Decide node session) e playable k is = steady_at script c e 0 playable k (stage_turn script c (turn.Decide node session) e (λ own. own) is).timed
turn_steady script c (turn.Put node session) e playable k is = steady_at script c e 0 playable k (stage_turn script c (turn.Put node session) e (λ own. own) is).timed
turn_steady script c (turn.Answer node session) e playable k is = steady_at script c e 0 playable k (stage_turn script c (turn.Answer node session) e (λ own. own) is).timed
turn_steady script c (turn.Extend node) e playable k is = steady_at script c e 0 playable k (stage_turn script c (turn.Extend node) e (λ own. own) is).timed

-- ---- all turns
fits_on : (script : ScriptData) (c : Carried) (t : Turn) → Facts script c → AllFit c.played.state.nodes → (found : Option Event) → AllFit (turned_by script c t found).played.state.nodes
fits_on script c t k all None = all
fits_on script c t k all (Some e) =
    each_outcome (λ v items. AllFit v.nodes) c.played.state c.played.items e (fate_of script c.played e) k.reached.stands (λ o. fits_by c.played.state o all)

all_fit : (script : ScriptData) → IsPlayable script 0 script.lines → (turns : List Turn) (c : Carried) → Facts script c → AllFit c.played.state.nodes → AllFit (fold (turned script) c turns).played.state.nodes
all_fit script playable [] c facts all = all
all_fit script playable (t ∷ turns) c facts all = all_fit script playable turns (turned script c t) (facts_turned script c t playable facts) (fits_on script c t facts all (event_of script c t))

pub commits_alone_settle : (script : ScriptData) (turns : List Turn) → AreInRange script.setup → IsPlayable script 0 script.lines → AllFit (carried script turns).played.state.nodes
commits_alone_settle script turns in_range playable = all_fit script playable turns (all_passed script (at_first script)) (facts_at_first script in_range) (λ n s i held at has. absurd (none_at script.setup.nodes n i at))
