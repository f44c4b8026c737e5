-- The turn by which a stage serves a request is one of that stage, and the request stands where it is made.
use Rattle.run_board.proofs.Names.{◌≡◌, ℕ, ◌==◌, Bool, true, false, cond, List, Option, Some, None, inl, inr, refl, sym}
use Rattle.run_board.proofs.Names.{◌∙◌, ap, subst, MatchOption, slice_get, slice_index_or, list_any, true≢false}
use Rattle.run_board.proofs.Names.{eqb-true, same_Some, none-some, Stage, Request, Persist, Reply, Item, Place}
use Rattle.run_board.proofs.Names.{InstanceEntry, State, ReachedInvariant, Serving, Turn, stage_of, IsInPlace}
use Rattle.run_board.proofs.Names.{LacksStamps, session_view, serving_turn, serving_turn_of, stage_turn, Ran}
use Rattle.run_board.proofs.Names.{reached_by, IsToldUsedUp, IsCarriedOut, StageStep, serves, state_of, ExtendsFirst}
use Rattle.run_board.proofs.Names.{IsServable, NeedsStamps, MayTakeMemory, LacksOnlyThere, LacksUnserved}
use Rattle.system_parts.specs.declared.instance.Place.TheVariants as place
use Rattle.system_parts.specs.declared.instance.Progress.TheVariants as progress
use Rattle.turn_rules.specs.declared.turn.Turn.TheVariants as turn
use Rattle.turn_rules.specs.Lawful as lawful
use Rattle.thread_steps.specs.declared.stages.StageStep.TheVariants as step
use Rattle.run_board.proofs.Steady.{facts}
use Rattle.run_board.proofs.Silent.{serving, is_accepted, any_held}

-- ---- a turn of a stage
pub record IsOfStage (w : State) (stage : Stage) (node : ℕ) (by : Turn) : Type 0 where
  pub of_stage : stage_of by ≡ Some (node, stage)
  pub in_place : IsInPlace w by

of_turn : (w : State) (stage : Stage) (node : ℕ) (made by : Turn) → Some made ≡ Some by → IsOfStage w stage node made → IsOfStage w stage node by
of_turn w stage node made by is k = subst (λ (t : Turn). IsOfStage w stage node t) (same_Some made by is) k

serving_of : (w : State) (stage : Stage) (node s : ℕ) (commit : Bool) (at : Place) (by : Turn) → (session_view w s).request ≡ Some (node, at) → (session_view w s).commit ≡ commit → serving_turn stage node s commit at ≡ Some by → IsOfStage w stage node by
serving_of w Request node s commit place.Asked by asks same is = of_turn w Request node (turn.Accept node s) by is (record { of_stage = refl; in_place = asks })
serving_of w Request node s commit place.Accepted by asks same is = of_turn w Request node (turn.Decide node s) by is (record { of_stage = refl; in_place = asks })
serving_of w Persist node s true place.Drawn by asks same is = of_turn w Persist node (turn.Put node s) by is (record { of_stage = refl; in_place = (asks, same) })
serving_of w Reply node s false place.Drawn by asks same is = of_turn w Reply node (turn.Answer node s) by is (record { of_stage = refl; in_place = asks ∙ ap (λ (b : Bool). Some (node, lawful.answered_from b)) (sym same) })
serving_of w Reply node s true place.Settled by asks same is = of_turn w Reply node (turn.Answer node s) by is (record { of_stage = refl; in_place = asks ∙ ap (λ (b : Bool). Some (node, lawful.answered_from b)) (sym same) })
serving_of w _ node s commit at by asks same is = absurd (none-some by is)

serving_here : (w : State) (stage : Stage) (node s : ℕ) (request : ℕ × Place) (by : Turn) → (session_view w s).request ≡ Some request → (here : Bool) → (request.0 == node) ≡ here → cond here (serving_turn stage node s (session_view w s).commit request.1) None ≡ Some by → IsOfStage w stage node by
serving_here w stage node s request by asks false here is = absurd (none-some by is)
serving_here w stage node s request by asks true here is =
    let same : request.0 ≡ node = eqb-true request.0 node here in
    serving_of w stage node s (session_view w s).commit request.1 by (asks ∙ ap (λ (n : ℕ). Some (n, request.1)) same) refl is

serving_any : (w : State) (stage : Stage) (node s : ℕ) (request : Option (ℕ × Place)) (by : Turn) → (session_view w s).request ≡ request → serving_turn_of stage node s (session_view w s).commit request ≡ Some by → IsOfStage w stage node by
serving_any w stage node s None by asks is = absurd (none-some by is)
serving_any w stage node s (Some request) by asks is = serving_here w stage node s request by asks (request.0 == node) refl is

pub of_stage_turn : (w : State) (stage : Stage) (node s : ℕ) (by : Turn) → stage_turn stage node s (session_view w s) ≡ Some by → IsOfStage w stage node by
of_stage_turn w stage node s by is = serving_any w stage node s (session_view w s).request by refl is

-- ---- where a decision found no stamp, the range can be extended
lacks : (w : State) (node : ℕ) (i : InstanceEntry) → slice_get w.nodes node ≡ Some (Some i) → IsToldUsedUp (slice_get w.nodes node) → list_any lawful.is_accepted i.requests ≡ true → LacksStamps (slice_get w.nodes node)
lacks w node i at used waits =
    let told : IsToldUsedUp (Some (Some i)) = subst (λ (o : Option (Option InstanceEntry)). IsToldUsedUp o) at used in
    subst (λ (o : Option (Option InstanceEntry)). LacksStamps o) (sym at) (told.0, waits)

pub lacks_stamps : (w : State) (h : List Item) (node s : ℕ) → ReachedInvariant w h → IsInPlace w (turn.Decide node s) → IsToldUsedUp (slice_get w.nodes node) → LacksStamps (slice_get w.nodes node)
lacks_stamps w h node s stands asks used =
    let k : Serving w h s (node, place.Accepted) = serving w h node s place.Accepted stands asks in
    let accepted : k.served.held.progress ≡ progress.Accepted = is_accepted w h node s k in
    lacks w node k.served.holder.i k.served.holder.at used (any_held lawful.is_accepted k.served.holder.i.requests s k.served.held k.served.holder.has (ap lawful.is_accepted_by accepted))

-- a decision that serves is of the node and the session
decide_by : (stage : Stage) (node s : ℕ) (commit : Bool) (at : Place) (n other : ℕ) → serving_turn stage node s commit at ≡ Some (turn.Decide n other) → serving_turn stage node s commit at ≡ Some (turn.Decide node s)
decide_by Request node s commit place.Asked n other is = absurd (cc)
decide_by Request node s commit place.Accepted n other is = refl
decide_by Persist node s true place.Drawn n other is = absurd (cc)
decide_by Reply node s false place.Drawn n other is = absurd (cc)
decide_by Reply node s true place.Settled n other is = absurd (cc)
decide_by _ node s commit at n other is = absurd (none-some (turn.Decide n other) is)

decide_here : (stage : Stage) (node s : ℕ) (commit : Bool) (at : Place) (n other : ℕ) (here : Bool) → cond here (serving_turn stage node s commit at) None ≡ Some (turn.Decide n other) → cond here (serving_turn stage node s commit at) None ≡ Some (turn.Decide node s)
decide_here stage node s commit at n other true is = decide_by stage node s commit at n other is
decide_here stage node s commit at n other false is = absurd (none-some (turn.Decide n other) is)

decide_any : (stage : Stage) (node s : ℕ) (commit : Bool) (request : Option (ℕ × Place)) (n other : ℕ) → serving_turn_of stage node s commit request ≡ Some (turn.Decide n other) → serving_turn_of stage node s commit request ≡ Some (turn.Decide node s)
decide_any stage node s commit None n other is = absurd (none-some (turn.Decide n other) is)
decide_any stage node s commit (Some request) n other is = decide_here stage node s commit request.1 n other (request.0 == node) is

pub decides : (w : State) (stage : Stage) (node s n other : ℕ) → stage_turn stage node s (session_view w s) ≡ Some (turn.Decide n other) → stage_turn stage node s (session_view w s) ≡ Some (turn.Decide node s)
decides w stage node s n other is = decide_any stage node s (session_view w s).commit (session_view w s).request n other is

-- ---- the turn that serves
-- where the node's last decision found no stamp, the range is extended in place of the next one
pub extends_first : (r : Ran) (lacking : List Bool) (stage : Stage) (node s n other : ℕ) → IsCarriedOut r.script r.turns lacking → slice_index_or lacking node false ≡ true → stage_turn stage node s (session_view (state_of r) s) ≡ Some (turn.Decide n other) → IsServable r node stage s (turn.Extend node)
extends_first r lacking stage node s n other out lacks is =
    let w : State = state_of r in
    let decides_it : stage_turn stage node s (session_view w s) ≡ Some (turn.Decide node s) = decides w stage node s n other is in
    let k : IsOfStage w stage node (turn.Decide node s) = of_stage_turn w stage node s (turn.Decide node s) decides_it in
    record {
      of_stage = k.of_stage;
      in_place = lacks_stamps w (reached_by r).played.items node s (facts r.script r.turns out.sound out.few).reached.stands k.in_place (out.used_up node lacks);
      of_session = inr (record { extends = refl; decides = decides_it; told = out.used_up node lacks });
    }

serves_itself : (r : Ran) (stage : Stage) (node s : ℕ) (by : Turn) → stage_turn stage node s (session_view (state_of r) s) ≡ Some by → IsServable r node stage s by
serves_itself r stage node s by is =
    let k : IsOfStage (state_of r) stage node by = of_stage_turn (state_of r) stage node s by is in
    record { of_stage = k.of_stage; in_place = k.in_place; of_session = inl is }

pub serves_there : (r x : Ran) (stage : Stage) (node s : ℕ) (by : Turn) → r ≡ x → stage_turn stage node s (session_view (state_of r) s) ≡ Some by → IsServable x node stage s by
serves_there r x stage node s by same is = subst (λ (y : Ran). IsServable y node stage s by) same (serves_itself r stage node s by is)

pub serves_found : (r : Ran) (stage : Stage) (node s : ℕ) (found : Option Turn) → stage_turn stage node s (session_view (state_of r) s) ≡ found → MatchOption found (stage_turn stage node s (session_view (state_of r) s) ≡ None) (λ by. IsServable r node stage s by)
serves_found r stage node s None is = is
serves_found r stage node s (Some by) is = serves_itself r stage node s by is

-- ---- where memory may be refused
-- an accept that serves is of the node and the session
accept_by : (stage : Stage) (node s : ℕ) (commit : Bool) (at : Place) (n other : ℕ) → serving_turn stage node s commit at ≡ Some (turn.Accept n other) → serving_turn stage node s commit at ≡ Some (turn.Accept node s)
accept_by Request node s commit place.Asked n other is = refl
accept_by Request node s commit place.Accepted n other is = absurd (cc)
accept_by Persist node s true place.Drawn n other is = absurd (cc)
accept_by Reply node s false place.Drawn n other is = absurd (cc)
accept_by Reply node s true place.Settled n other is = absurd (cc)
accept_by _ node s commit at n other is = absurd (none-some (turn.Accept n other) is)

accept_here : (stage : Stage) (node s : ℕ) (commit : Bool) (at : Place) (n other : ℕ) (here : Bool) → cond here (serving_turn stage node s commit at) None ≡ Some (turn.Accept n other) → cond here (serving_turn stage node s commit at) None ≡ Some (turn.Accept node s)
accept_here stage node s commit at n other true is = accept_by stage node s commit at n other is
accept_here stage node s commit at n other false is = absurd (none-some (turn.Accept n other) is)

accept_any : (stage : Stage) (node s : ℕ) (commit : Bool) (request : Option (ℕ × Place)) (n other : ℕ) → serving_turn_of stage node s commit request ≡ Some (turn.Accept n other) → serving_turn_of stage node s commit request ≡ Some (turn.Accept node s)
accept_any stage node s commit None n other is = absurd (none-some (turn.Accept n other) is)
accept_any stage node s commit (Some request) n other is = accept_here stage node s commit request.1 n other (request.0 == node) is

abbrev accepting : Turn → Bool
accepting (turn.Accept node session) = true
accepting _ = false

-- a turn of a request stage
at_stage : (r : Ran) (node s n : ℕ) (stage : Stage) → ◌≡◌ {A = Option (ℕ × Stage)} (Some (n, Request)) (Some (node, stage)) → MayTakeMemory r n Request s → MayTakeMemory r node stage s
at_stage r node s n stage is may = subst (λ (p : ℕ × Stage). MayTakeMemory r p.0 p.1 s) (same_Some (n, Request) (node, stage) is) may

accepts : (r : Ran) (node s n other : ℕ) (stage : Stage) → stage_turn stage node s (session_view (state_of r) s) ≡ Some (turn.Accept n other) → MayTakeMemory r node stage s
accepts r node s n other stage is =
    let k : IsOfStage (state_of r) stage node (turn.Accept node s) = of_stage_turn (state_of r) stage node s (turn.Accept node s) (accept_any stage node s (session_view (state_of r) s).commit (session_view (state_of r) s).request n other is) in
    at_stage r node s node stage k.of_stage (inl k.in_place)

-- a turn by which a request is served itself is no extension
extends_none_by : (stage : Stage) (node s : ℕ) (commit : Bool) (at : Place) (n : ℕ) → serving_turn stage node s commit at ≡ Some (turn.Extend n) → ⊥
extends_none_by Request node s commit place.Asked n is = cc
extends_none_by Request node s commit place.Accepted n is = cc
extends_none_by Persist node s true place.Drawn n is = cc
extends_none_by Reply node s false place.Drawn n is = cc
extends_none_by Reply node s true place.Settled n is = cc
extends_none_by _ node s commit at n is = none-some (turn.Extend n) is

extends_none_here : (stage : Stage) (node s : ℕ) (commit : Bool) (at : Place) (n : ℕ) (here : Bool) → cond here (serving_turn stage node s commit at) None ≡ Some (turn.Extend n) → ⊥
extends_none_here stage node s commit at n true is = extends_none_by stage node s commit at n is
extends_none_here stage node s commit at n false is = none-some (turn.Extend n) is

extends_none : (stage : Stage) (node s : ℕ) (commit : Bool) (request : Option (ℕ × Place)) (n : ℕ) → serving_turn_of stage node s commit request ≡ Some (turn.Extend n) → ⊥
extends_none stage node s commit None n is = none-some (turn.Extend n) is
extends_none stage node s commit (Some request) n is = extends_none_here stage node s commit request.1 n (request.0 == node) is

-- an extension is made for a request that stands before its decision
extends_for : (r : Ran) (node s n : ℕ) (stage : Stage) → IsInPlace (state_of r) (turn.Extend n) → ExtendsFirst r node stage s (turn.Extend n) → MayTakeMemory r node stage s
extends_for r node s n stage in_place first =
    let k : IsOfStage (state_of r) stage node (turn.Decide node s) = of_stage_turn (state_of r) stage node s (turn.Decide node s) first.decides in
    let needs : NeedsStamps r node s = record { waits = k.in_place; lacks = subst (λ (t : Turn). IsInPlace (state_of r) t) first.extends in_place; told = first.told } in
    at_stage r node s node stage k.of_stage (inr needs)

-- a turn that serves no request that was accepted accepts one, or extends a range
takes_by : (r : Ran) (node s : ℕ) (stage : Stage) (by : Turn) → IsServable r node stage s by → serves by ≡ false → MayTakeMemory r node stage s
takes_by r node s stage (turn.Accept n other) k none = elim k.of_session [
  | inl is ↦ accepts r node s n other stage is
  | inr first ↦ absurd (true≢false (ap accepting first.extends))
]
takes_by r node s stage (turn.Extend n) k none = elim k.of_session [
  | inl is ↦ absurd (extends_none stage node s (session_view (state_of r) s).commit (session_view (state_of r) s).request n is)
  | inr first ↦ extends_for r node s n stage k.in_place first
]
takes_by r node s stage (turn.Own actor aim) k none = absurd (none-some (node, stage) k.of_stage)
takes_by r node s stage (turn.Decide n other) k none = absurd (true≢false none)
takes_by r node s stage (turn.Put n other) k none = absurd (true≢false none)
takes_by r node s stage (turn.Answer n other) k none = absurd (true≢false none)

pub lacks_there : (r : Ran) (node s : ℕ) (stage : Stage) (by : Turn) (result : StageStep) → IsServable r node stage s by → LacksUnserved by result → LacksOnlyThere r node stage s result
lacks_there r node s stage by step.NoMemory k none = takes_by r node s stage by k none
lacks_there r node s stage by step.Held k none = tt
lacks_there r node s stage by (step.Stale found) k none = tt
lacks_there r node s stage by step.Went k none = tt
lacks_there r node s stage by (step.Did start commit) k none = tt
lacks_there r node s stage by step.Settled k none = tt
lacks_there r node s stage by step.Answered k none = tt
lacks_there r node s stage by (step.Refused why) k none = tt
lacks_there r node s stage by step.Fault k none = tt
