-- One lawful turn: what it takes off the turns that are left to a session's request, and what it gives.
use Rattle.std.proofs.Common.{◌≡◌, ◌≢◌, ℕ, ◌+◌, ◌≤◌, true, cond, [], Option, Some, None, refl, sym, ◌∙◌, ap, subst, arith}
use Rattle.std.specs.Prelude.{slice_get, slice_set}
use Rattle.std.proofs.lemmas.Option.{same_Some}
use Rattle.port_io.specs.declared.weather.Fate.{Fate}
use Rattle.history_book.specs.declared.item.Actor.{Actor}
use Rattle.system_parts.specs.declared.instance.Held.{Held}
use Rattle.system_parts.specs.declared.instance.Place.{Place}
use Rattle.system_parts.specs.declared.instance.Place.TheVariants as place
use Rattle.system_parts.specs.declared.instance.Progress.{Progress}
use Rattle.system_parts.specs.declared.instance.Progress.TheVariants.{Asked, Accepted, Drawn, Settled, Handed}
use Rattle.system_parts.specs.declared.instance.Reply.TheVariants as reply
use Rattle.system_parts.specs.declared.instance.Request.{Request}
use Rattle.system_parts.specs.declared.instance.Request.TheVariants.{Begin, Commit}
use Rattle.system_parts.specs.Instance.{InstanceEntry, held_of, place_of_progress, stamps_by}
use Rattle.system_parts.specs.InstanceSteps.{reply_of, answer_if_ready}
use Rattle.machine.specs.State.{Client, State}
use Rattle.machine.specs.Readers.{is_commit}
use Rattle.machine.specs.declared.event.Event.{Event}
use Rattle.machine.specs.declared.event.Event.TheVariants as event
use Rattle.machine.specs.Effect.{Effect}
use Rattle.machine.specs.Machine.{Step, with_reading, stepped}
use Rattle.machine.specs.Events.Accept.{accept_on}
use Rattle.machine.specs.Events.Decide.{decide_on}
use Rattle.machine.specs.Events.Put.{put_on}
use Rattle.machine.specs.Events.Answer.{answer_on}
use Rattle.machine.proofs.LookedUp.{of_post, of_both}
use Rattle.script_data.specs.Data.{ScriptData}
use Rattle.command_semantics.specs.Next.{reading_at}
use Rattle.command_semantics.specs.Runs.{fate_of, clocks_of, step_of}
use Rattle.command_semantics.proofs.Holders.{Served, is_served_at}
use Rattle.turn_rules.specs.declared.turn.Turn.{Turn}
use Rattle.turn_rules.specs.declared.turn.Turn.TheVariants as turn
use Rattle.turn_rules.specs.Carried.{Carried, event_of, turned_by}
use Rattle.turn_rules.specs.Lawful.{session_view, answered_from, IsLawful}
use Rattle.turn_rules.specs.Told.{AreForThreads}
use Rattle.request_latency.specs.Latency.{is_acceptance, is_service}
use Rattle.request_latency.proofs.Measure.{post_left, nodes_left, for_own, nodes_set}
use Rattle.request_latency.proofs.NodeEvents.{ServesNone, leaves_no_more}
use Rattle.request_latency.proofs.OwnEvents.{own_serves_none}
use Rattle.request_latency.proofs.ServingEvents.{accept_gives, Lowers, decide_lowers, put_lowers, begin_lowers, commit_lowers}

-- ---- the events
abbrev Gives : ℕ → ℕ → State → Step → Type 0
Gives s r w step = nodes_left s step.state.nodes ≤ nodes_left s w.nodes + for_own s r 4

accepts : (s : ℕ) (w : State) (n r reading : ℕ) (fate : Fate) → Gives s r w (stepped w (event.Accept n r reading) fate)
accepts s w n r reading fate = of_both (Gives s r w) (with_reading w reading) _ (slice_get w.nodes n) (slice_get w.clients r) (omega arith) (λ post c at there.
    let now : Option InstanceEntry = (accept_on n r reading post c).parts.0 in
    let gives : post_left s now ≤ post_left s post + for_own s r 4 = accept_gives s n r reading post c in
    let set : nodes_left s (slice_set w.nodes n now) + 0 ≤ nodes_left s w.nodes + for_own s r 4 = nodes_set s w.nodes n 0 (for_own s r 4) post now at (omega (arith, gives)) in
    omega (arith, set))

abbrev TakesOff : ℕ → ℕ → State → Step → Type 0
TakesOff s r w step = step.items ≢ [] → nodes_left s step.state.nodes + for_own s r 1 ≤ nodes_left s w.nodes

-- the node has this instance
one_set : (s r : ℕ) (w : State) (n : ℕ) (i : InstanceEntry) (now : Option InstanceEntry) → slice_get w.nodes n ≡ Some (Some i) → post_left s now + for_own s r 1 ≤ post_left s (Some i) → nodes_left s (slice_set w.nodes n now) + for_own s r 1 ≤ nodes_left s w.nodes
one_set s r w n i now at less =
    let set : nodes_left s (slice_set w.nodes n now) + for_own s r 1 ≤ nodes_left s w.nodes + 0 = nodes_set s w.nodes n (for_own s r 1) 0 (Some i) now at (omega (arith, less)) in
    omega (arith, set)

the_post : (w : State) (n : ℕ) (i : InstanceEntry) (post : Option InstanceEntry) → slice_get w.nodes n ≡ Some (Some i) → slice_get w.nodes n ≡ Some post → Some i ≡ post
the_post w n i post at found = same_Some (Some i) post (sym at ∙ found)

-- a call on the session's request
calls : (s n r : ℕ) (w : State) (i : InstanceEntry) (f : Option InstanceEntry → Client → Effect (Option InstanceEntry × Client)) → slice_get w.nodes n ≡ Some (Some i) → ((c : Client) → Lowers s r i (f (Some i) c)) → (post : Option InstanceEntry) (c : Client) → slice_get w.nodes n ≡ Some post → (f post c).items ≢ [] → nodes_left s (slice_set w.nodes n (f post c).parts.0) + for_own s r 1 ≤ nodes_left s w.nodes
calls s n r w i f at lowers post c found =
    subst (λ (p : Option InstanceEntry). (f p c).items ≢ [] → nodes_left s (slice_set w.nodes n (f p c).parts.0) + for_own s r 1 ≤ nodes_left s w.nodes) (the_post w n i post at found) (λ told. one_set s r w n i (f (Some i) c).parts.0 at (lowers c told))

decides : (s : ℕ) (w : State) (n r : ℕ) (fate : Fate) (k : Served w r (n, place.Accepted)) → TakesOff s r w (stepped w (event.Decide n r) fate)
decides s w n r fate k = of_both (TakesOff s r w) w _ (slice_get w.nodes n) (slice_get w.clients r) (λ told. absurd (told refl)) (λ post c at there. calls s n r w k.holder.i (decide_on n r) k.holder.at (λ d. decide_lowers s n r k.holder.i d k.held k.holder.has (accepted_at k.held.progress k.place_is)) post c at)
  where
    accepted_at : (p : Progress) → place_of_progress p ≡ place.Accepted → p ≡ Accepted
    accepted_at Accepted is = refl
    accepted_at Asked is = absurd (cc)
    accepted_at (Drawn stamp) is = absurd (cc)
    accepted_at (Settled commit by) is = absurd (cc)
    accepted_at (Handed commit) is = absurd (cc)

-- a commit that is drawn
put_held : (s n r : ℕ) (w : State) (fate : Fate) (i : InstanceEntry) (held : Held) → slice_get w.nodes n ≡ Some (Some i) → held_of i r ≡ Some held → (request : Request) (p : Progress) → held.request ≡ request → held.progress ≡ p → is_commit request ≡ true → place_of_progress p ≡ place.Drawn → Lowers s r i (put_on n r fate (Some i) w.pairs)
put_held s n r w fate i held at has (Commit asker start keys) (Drawn commit) asks stands is drawn = put_lowers s n r start commit asker keys fate i w.pairs held has asks stands
put_held s n r w fate i held at has (Commit asker start keys) Asked asks stands is drawn = absurd (cc)
put_held s n r w fate i held at has (Commit asker start keys) Accepted asks stands is drawn = absurd (cc)
put_held s n r w fate i held at has (Commit asker start keys) (Settled commit by) asks stands is drawn = absurd (cc)
put_held s n r w fate i held at has (Commit asker start keys) (Handed commit) asks stands is drawn = absurd (cc)
put_held s n r w fate i held at has (Begin asker) p asks stands is drawn = absurd (cc)

puts : (s : ℕ) (w : State) (n r : ℕ) (fate : Fate) (k : Served w r (n, place.Drawn)) → is_commit k.held.request ≡ true → TakesOff s r w (stepped w (event.Put n r) fate)
puts s w n r fate k commits = of_post (TakesOff s r w) w _ (slice_get w.nodes n) (λ told. absurd (told refl)) (λ post at. subst (λ (p : Option InstanceEntry). (put_on n r fate p w.pairs).items ≢ [] → nodes_left s (slice_set w.nodes n (put_on n r fate p w.pairs).parts.0) + for_own s r 1 ≤ nodes_left s w.nodes) (the_post w n k.holder.i post k.holder.at at) (λ told. one_set s r w n k.holder.i _ k.holder.at (put_held s n r w fate k.holder.i k.held k.holder.at k.holder.has k.held.request k.held.progress refl refl commits k.place_is told)))

-- a begin that is drawn, or a commit that is settled
answer_held : (s n r : ℕ) (i : InstanceEntry) (c : Client) (held : Held) → held_of i r ≡ Some held → (request : Request) (p : Progress) → held.request ≡ request → held.progress ≡ p → place_of_progress p ≡ answered_from (is_commit request) → Lowers s r i (answer_on n r (Some i) c)
answer_held s n r i c held has (Begin asker) (Drawn start) asks stands at = begin_lowers s n r i c held has start asker asks stands
answer_held s n r i c held has (Begin asker) Asked asks stands at = absurd (cc)
answer_held s n r i c held has (Begin asker) Accepted asks stands at = absurd (cc)
answer_held s n r i c held has (Begin asker) (Settled commit by) asks stands at = absurd (cc)
answer_held s n r i c held has (Begin asker) (Handed commit) asks stands at = absurd (cc)
answer_held s n r i c held has (Commit asker start keys) (Settled commit by) asks stands at =
    commit_lowers s n r i c held has start commit asker keys (Settled commit by) (reply_of commit by) stands (ap (λ (q : Request). stamps_by q (Settled commit by)) asks) (ap (λ (q : Request). answer_if_ready i r held q (Settled commit by)) asks) refl
answer_held s n r i c held has (Commit asker start keys) (Handed commit) asks stands at =
    commit_lowers s n r i c held has start commit asker keys (Handed commit) (reply.Handed commit) stands (ap (λ (q : Request). stamps_by q (Handed commit)) asks) (ap (λ (q : Request). answer_if_ready i r held q (Handed commit)) asks) refl
answer_held s n r i c held has (Commit asker start keys) Asked asks stands at = absurd (cc)
answer_held s n r i c held has (Commit asker start keys) Accepted asks stands at = absurd (cc)
answer_held s n r i c held has (Commit asker start keys) (Drawn commit) asks stands at = absurd (cc)

answers : (s : ℕ) (w : State) (n r : ℕ) (fate : Fate) (at : Place) (k : Served w r (n, at)) → at ≡ answered_from (is_commit k.held.request) → TakesOff s r w (stepped w (event.Answer n r) fate)
answers s w n r fate at k is = of_both (TakesOff s r w) w _ (slice_get w.nodes n) (slice_get w.clients r) (λ told. absurd (told refl)) (λ post c found there. calls s n r w k.holder.i (answer_on n r) k.holder.at (λ d. answer_held s n r k.holder.i d k.held k.holder.has k.held.request k.held.progress refl refl (k.place_is ∙ is)) post c found)

-- ---- the turns
-- what a turn takes off, and what it gives
abbrev pub Counts : ScriptData → Carried → Turn → ℕ → Option Event → Type 0
Counts script c t s found = nodes_left s (turned_by script c t found).played.state.nodes + cond (is_service s t) 1 0 ≤ nodes_left s c.played.state.nodes + cond (is_acceptance s t) 4 0

serves_none : (script : ScriptData) (c : Carried) (t : Turn) (s : ℕ) (e : Event) → ServesNone e → nodes_left s (step_of script c.played e).state.nodes + 0 ≤ nodes_left s c.played.state.nodes + 0
serves_none script c t s e none =
    let less : nodes_left s (step_of script c.played e).state.nodes ≤ nodes_left s c.played.state.nodes = leaves_no_more s c.played.state e (fate_of script c.played e) none in
    omega (arith, less)

plus_none : (a b : ℕ) → a ≤ b → a ≤ b + 0
plus_none a b less = omega (arith, less)

own_counts : (script : ScriptData) (c : Carried) (actor : Actor) (aim s : ℕ) → AreForThreads script.lines → (found : Option Event) → event_of script c (turn.Own actor aim) ≡ found → Counts script c (turn.Own actor aim) s found
own_counts script c actor aim s on None is = omega arith
own_counts script c actor aim s on (Some e) is = serves_none script c (turn.Own actor aim) s e (own_serves_none script c actor aim e on is)

pub turn_counts : (script : ScriptData) (c : Carried) (t : Turn) (s : ℕ) → AreForThreads script.lines → IsLawful script c t → Counts script c t s (event_of script c t)
turn_counts script c (turn.Own actor aim) s on k = own_counts script c actor aim s on (event_of script c (turn.Own actor aim)) refl
turn_counts script c (turn.Extend n) s on k = serves_none script c (turn.Extend n) s (event.Extend n) tt
turn_counts script c (turn.Accept n r) s on k =
    let reading : ℕ = reading_at (clocks_of script c.played) n in
    let e : Event = event.Accept n r reading in
    let less : nodes_left s (step_of script c.played e).state.nodes ≤ nodes_left s c.played.state.nodes + for_own s r 4 = accepts s c.played.state n r reading (fate_of script c.played e) in
    omega (arith, less)
turn_counts script c (turn.Decide n r) s on k = plus_none _ _ (decides s c.played.state n r (fate_of script c.played (event.Decide n r)) (is_served_at c.played.state r (n, place.Accepted) k.in_place) k.told)
turn_counts script c (turn.Put n r) s on k =
    let there : Served c.played.state r (n, place.Drawn) = is_served_at c.played.state r (n, place.Drawn) k.in_place.0 in
    plus_none _ _ (puts s c.played.state n r (fate_of script c.played (event.Put n r)) there (sym there.commit_is ∙ k.in_place.1) k.told)
turn_counts script c (turn.Answer n r) s on k =
    let there : Served c.played.state r (n, answered_from (session_view c.played.state r).commit) = is_served_at c.played.state r (n, answered_from (session_view c.played.state r).commit) k.in_place in
    plus_none _ _ (answers s c.played.state n r (fate_of script c.played (event.Answer n r)) (answered_from (session_view c.played.state r).commit) there (ap answered_from there.commit_is) k.told)
