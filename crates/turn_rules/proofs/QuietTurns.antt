-- A decision and an answer that append nothing change nothing: their request was told before that it has to wait.
use Rattle.std.proofs.Common.{arith}
use Rattle.turn_rules.proofs.Names.{◌≡◌, ℕ, zero, suc, true, List, [], ◌∷◌, ◌++◌, Option}
use Rattle.turn_rules.proofs.Names.{Some, None, Err, sym, ◌∙◌, ap, slice_get, slice_set}
use Rattle.turn_rules.proofs.Names.{slice_index_or, append-nil, none-some, Item, Held}
use Rattle.turn_rules.proofs.Names.{InstanceEntry, held_of}
use Rattle.turn_rules.proofs.Names.{not_yet_of_held, InstanceStep}
use Rattle.turn_rules.proofs.Names.{Event, Client, State}
use Rattle.turn_rules.proofs.Names.{Effect, Step, step_by, with_post, with_client, at_both}
use Rattle.turn_rules.proofs.Names.{answer_on}
use Rattle.turn_rules.proofs.Names.{decide_on, ScriptData, ReachedInvariant, Played}
use Rattle.turn_rules.proofs.Names.{QuietTurnsChangeNothing}
use Rattle.history_book.specs.declared.cause.Cause.TheVariants as cause
use Rattle.system_parts.specs.declared.instance.Decided.{Decided}
use Rattle.system_parts.specs.declared.instance.Reply.{Reply}
use Rattle.machine.proofs.Refusals.{same_both}
use Rattle.machine.specs.Fits.{StopOf}

-- ---- a request that was told is put back as it was
set_there : (xs : List (Option Held)) (s : ℕ) (held : Held) → slice_index_or xs s None ≡ Some held → slice_set xs s (Some held) ≡ xs
set_there [] s held is = absurd (none-some held is)
set_there (x ∷ xs) zero held is = ap (λ (y : Option Held). y ∷ xs) (sym is)
set_there (x ∷ xs) (suc s) held is = ap (λ (ys : List (Option Held)). x ∷ ys) (set_there xs s held is)

-- ---- effects on the node and the client
-- an effect that appends nothing puts back what it was given
abbrev Quiet : Option InstanceEntry → Client → Effect (Option InstanceEntry × Client) → Type 0
Quiet post c effect = effect.items ≡ [] → effect.parts ≡ (post, c)

-- ---- a decision
-- by what the instance answered and left
abbrev LeavesTold : InstanceEntry → Held → InstanceStep Decided → Type 0
LeavesTold i held step = (last : ℕ) → step.answer ≡ Err (cause.NoStamp last) → held.told_no_stamp ≡ true → step.left ≡ i

decide_quiet : (node s : ℕ) (post : Option InstanceEntry) (c : Client) → ((i : InstanceEntry) → post ≡ Some i → StopOf i.stop) → Quiet post c (decide_on node s post c)
decide_quiet node s post c stops none = grind (arith, set_there)

-- ---- an answer
abbrev LeavesWaiting : InstanceEntry → ℕ → InstanceStep Reply → Type 0
LeavesWaiting i s step = (commit : ℕ) → step.answer ≡ Err (cause.NotYet commit) → not_yet_of_held (held_of i s) ≡ true → step.left ≡ i

answer_quiet : (node s : ℕ) (post : Option InstanceEntry) (c : Client) → Quiet post c (answer_on node s post c)
answer_quiet node s post c none = grind (arith, set_there)

-- ---- the whole state
quiet_both : (w : State) (node s : ℕ) (f : Option InstanceEntry → Client → Effect (Option InstanceEntry × Client)) → ((post : Option InstanceEntry) (c : Client) → slice_get w.nodes node ≡ Some post → Quiet post c (f post c)) → (posts : Option (Option InstanceEntry)) (found : Option Client) → slice_get w.nodes node ≡ posts → slice_get w.clients s ≡ found → let step : Step = at_both w posts found (λ post c. step_by (f post c) (λ p. with_client (with_post w node p.0) s p.1)) in step.items ≡ [] → step.state ≡ w
quiet_both w node s f each posts found posted there none = grind (arith, same_both)

stops_at : (w : State) (h : List Item) (node : ℕ) (post : Option InstanceEntry) → ReachedInvariant w h → slice_get w.nodes node ≡ Some post → (i : InstanceEntry) → post ≡ Some i → StopOf i.stop
stops_at w h node post stands posted i is = stands.sound.stops.stop node i (posted ∙ ap (λ (x : Option InstanceEntry). Some x) is)

-- what was played is as before
played_same : (script : ScriptData) (p : Played) (e : Event) (items : List Item) (state : State) → items ≡ [] → state ≡ p.state → record { state = state; items = p.items ++ items; clock = p.clock; calls = p.calls } ≡ p
played_same script p e items state none same = ap (λ (w : State). record { state = w; items = p.items ++ items; clock = p.clock; calls = p.calls }) same ∙ ap (λ (xs : List Item). record { state = p.state; items = p.items ++ xs; clock = p.clock; calls = p.calls }) none ∙ ap (λ (h : List Item). record { state = p.state; items = h; clock = p.clock; calls = p.calls }) (append-nil p.items)

pub quiet_turns_change_nothing : QuietTurnsChangeNothing
quiet_turns_change_nothing = grind (arith, played_same, quiet_both, decide_quiet, stops_at, answer_quiet)
