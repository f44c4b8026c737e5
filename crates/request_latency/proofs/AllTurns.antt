-- Lawful turns take off no more than acceptances give and what was left before.
use Rattle.std.proofs.Common.{◌≡◌, ◌≢◌, ℕ, zero, suc, ◌+◌, ◌*◌, ◌≤◌, Bool, true, false, cond, List, [], ◌∷◌, ◌++◌, length, take, Option, Some, None, refl, sym, ◌∙◌, ap, subst, arith}
use Rattle.std.specs.Prelude.{fold, slice_get}
use Rattle.std.proofs.lemmas.Option.{same_Some, none-some}
use Rattle.stamp_base.specs.SetupNumbers.{AreInRange}
use Rattle.history_book.specs.Members.{AtEach}
use Rattle.history_book.specs.declared.item.Item.{Item}
use Rattle.system_parts.specs.declared.instance.Held.{Held}
use Rattle.system_parts.specs.declared.instance.Place.TheVariants as place
use Rattle.system_parts.specs.declared.instance.Progress.{Progress}
use Rattle.system_parts.specs.declared.instance.Progress.TheVariants.{Asked, Accepted, Drawn, Settled, Handed}
use Rattle.system_parts.specs.Instance.{InstanceEntry, held_of, place_of_progress}
use Rattle.machine.specs.State.{State}
use Rattle.machine.proofs.Lookups.{held_by}
use Rattle.script_data.specs.Data.{ScriptData}
use Rattle.isolation_laws.specs.Words.{InstanceAt}
use Rattle.isolation_laws.specs.Sound.{ReachedInvariant}
use Rattle.command_semantics.specs.Laws.{IsPlayable}
use Rattle.command_semantics.proofs.Holders.{Served, is_served_at}
use Rattle.turn_rules.specs.declared.turn.Turn.{Turn}
use Rattle.turn_rules.specs.declared.turn.Turn.TheVariants as turn
use Rattle.turn_rules.specs.Carried.{Carried, turned, carried}
use Rattle.turn_rules.specs.Laws.{TurnsKeepFacts}
use Rattle.turn_rules.specs.Lawful.{IsLawful, AreLawful}
use Rattle.turn_rules.specs.Told.{AreForThreads}
use Rattle.request_latency.specs.Latency.{is_acceptance, is_service, acceptances, services, left_at, turns_left, RequestsEndWithin, RunsServeWithin, RequestsKeepToWhatIsLeft}
use Rattle.request_latency.proofs.Measure.{held_left, post_left, nodes_left, only_left, empty_left}
use Rattle.request_latency.proofs.OneTurn.{turn_counts}

-- ---- turns one after the other
unfoldable pub LawfulOn : ScriptData → Carried → List Turn → Type 0
LawfulOn script c [] = Unit {0}
LawfulOn script c (t ∷ turns) = IsLawful script c t × LawfulOn script (turned script c t) turns

lawful_on : (script : ScriptData) (c : Carried) (turns : List Turn) → AtEach (λ before t. IsLawful script (fold (turned script) c before) t) turns → LawfulOn script c turns
unfolding LawfulOn
lawful_on script c [] each = tt
lawful_on script c (t ∷ turns) each = (each.at 0 t refl, lawful_on script (turned script c t) turns (record { at = λ place x found. each.at (suc place) x found }))

-- and back
lawful_at : (script : ScriptData) (c : Carried) (turns : List Turn) → LawfulOn script c turns → (place : ℕ) (t : Turn) → slice_get turns place ≡ Some t → IsLawful script (fold (turned script) c (take place turns)) t
unfolding LawfulOn
lawful_at script c [] on place t found = absurd (none-some t found)
lawful_at script c (x ∷ turns) on zero t found = subst (λ (y : Turn). IsLawful script c y) (same_Some x t found) on.0
lawful_at script c (x ∷ turns) on (suc place) t found = lawful_at script (turned script c x) turns on.1 place t found

pub all_lawful : (script : ScriptData) (c : Carried) (turns : List Turn) → LawfulOn script c turns → AtEach (λ before t. IsLawful script (fold (turned script) c before) t) turns
all_lawful script c turns on = record { at = lawful_at script c turns on }

lawful_behind : (script : ScriptData) (c : Carried) (before after : List Turn) → LawfulOn script c (before ++ after) → LawfulOn script (fold (turned script) c before) after
unfolding LawfulOn
lawful_behind script c [] after on = on
lawful_behind script c (t ∷ before) after on = lawful_behind script (turned script c t) before after on.1

lawful_after : (script : ScriptData) (before after : List Turn) → AreLawful script (before ++ after) → LawfulOn script (carried script before) after
lawful_after script before after each = lawful_behind script (carried script []) before after (lawful_on script (carried script []) (before ++ after) each)

-- ---- counting
one_more : {X : Type 0} (x : X) (xs : List X) (here : Bool) → length (cond here (x ∷ xs) xs) ≡ cond here 1 0 + length xs
one_more x xs true = omega arith
one_more x xs false = omega arith

four_more : (here : Bool) → cond here 4 0 ≡ 4 * cond here 1 0
four_more true = refl
four_more false = refl

one_most : (here : Bool) → cond here 1 0 ≤ 1
one_most true = omega arith
one_most false = omega arith

all_count : (script : ScriptData) (s : ℕ) (turns : List Turn) (c : Carried) → AreForThreads script.lines → LawfulOn script c turns → nodes_left s (fold (turned script) c turns).played.state.nodes + services s turns ≤ nodes_left s c.played.state.nodes + 4 * acceptances s turns
unfolding LawfulOn
all_count script s [] c on lawful = omega arith
all_count script s (t ∷ turns) c on lawful =
    let first : nodes_left s (turned script c t).played.state.nodes + cond (is_service s t) 1 0 ≤ nodes_left s c.played.state.nodes + cond (is_acceptance s t) 4 0 = turn_counts script c t s on lawful.0 in
    let later : nodes_left s (fold (turned script) (turned script c t) turns).played.state.nodes + services s turns ≤ nodes_left s (turned script c t).played.state.nodes + 4 * acceptances s turns = all_count script s turns (turned script c t) on lawful.1 in
    let served : services s (t ∷ turns) ≡ cond (is_service s t) 1 0 + services s turns = one_more t _ (is_service s t) in
    let given : acceptances s (t ∷ turns) ≡ cond (is_acceptance s t) 1 0 + acceptances s turns = one_more t _ (is_acceptance s t) in
    let four : cond (is_acceptance s t) 4 0 ≡ 4 * cond (is_acceptance s t) 1 0 = four_more (is_acceptance s t) in
    omega (arith, first, later, served, given, four)

pub runs_serve_within : RunsServeWithin 4
runs_serve_within script turns s on lawful =
    let all : nodes_left s (carried script turns).played.state.nodes + services s turns ≤ nodes_left s (carried script []).played.state.nodes + 4 * acceptances s turns = all_count script s turns (carried script []) on (lawful_after script [] turns lawful) in
    let none : nodes_left s (carried script []).played.state.nodes ≡ 0 = empty_left s script.setup.nodes in
    omega (arith, all, none)

-- ---- the request that is held
-- by no other node
held_elsewhere : (w : State) (h : List Item) (node m s : ℕ) (i j : InstanceEntry) (held : Held) → ReachedInvariant w h → InstanceAt w.nodes node i → held_of i s ≡ Some held → m ≢ node → InstanceAt w.nodes m j → (found : Option Held) → held_of j s ≡ found → held_left found ≡ 0
held_elsewhere w h node m s i j held stands at has other there None is = refl
held_elsewhere w h node m s i j held stands at has other there (Some found) is =
    absurd (other (sym (stands.holds.requests.requests.one node m s i j held.request found.request held.progress found.progress at there (held_by i s held has) (held_by j s found is))))

none_elsewhere : (w : State) (h : List Item) (node m s : ℕ) (i : InstanceEntry) (held : Held) → ReachedInvariant w h → InstanceAt w.nodes node i → held_of i s ≡ Some held → m ≢ node → (post : Option InstanceEntry) → slice_get w.nodes m ≡ Some post → post_left s post ≡ 0
none_elsewhere w h node m s i held stands at has other None there = refl
none_elsewhere w h node m s i held stands at has other (Some j) there = held_elsewhere w h node m s i j held stands at has other there (held_of j s) refl

here_alone : (w : State) (h : List Item) (node s : ℕ) (i : InstanceEntry) (held : Held) → ReachedInvariant w h → InstanceAt w.nodes node i → held_of i s ≡ Some held → nodes_left s w.nodes ≡ turns_left held
here_alone w h node s i held stands at has = only_left s node w.nodes (Some i) at (λ m post other there. none_elsewhere w h node m s i held stands at has other post there) ∙ ap held_left has

from_here : (script : ScriptData) (before after : List Turn) (node s : ℕ) (i : InstanceEntry) (held : Held) → TurnsKeepFacts → AreInRange script.setup → IsPlayable script 0 script.lines → AreForThreads script.lines → LawfulOn script (carried script before) after → InstanceAt (carried script before).played.state.nodes node i → held_of i s ≡ Some held → services s after ≤ turns_left held + 4 * acceptances s after
from_here script before after node s i held facts in_range playable on lawful at has =
    let c : Carried = carried script before in
    let all : nodes_left s (fold (turned script) c after).played.state.nodes + services s after ≤ nodes_left s c.played.state.nodes + 4 * acceptances s after = all_count script s after c on lawful in
    let here : nodes_left s c.played.state.nodes ≡ turns_left held = here_alone c.played.state c.played.items node s i held (facts script before in_range playable).stands at has in
    omega (arith, all, here)

pub requests_keep_to_what_is_left : TurnsKeepFacts → RequestsKeepToWhatIsLeft
requests_keep_to_what_is_left facts script before after node s i held in_range playable on lawful at has none =
    let all : services s after ≤ turns_left held + 4 * acceptances s after = from_here script before after node s i held facts in_range playable on (lawful_after script before after lawful) at has in
    omega (arith, all, none)

-- ---- from an acceptance on
asked_left : (held : Held) (p : Progress) → place_of_progress p ≡ place.Asked → left_at held p ≡ 0
asked_left held Asked is = refl
asked_left held Accepted is = absurd (cc)
asked_left held (Drawn stamp) is = absurd (cc)
asked_left held (Settled commit by) is = absurd (cc)
asked_left held (Handed commit) is = absurd (cc)

accepted_first : (script : ScriptData) (c : Carried) (node s : ℕ) (after : List Turn) → LawfulOn script c (turn.Accept node s ∷ after) → IsLawful script c (turn.Accept node s)
unfolding LawfulOn
accepted_first script c node s after lawful = lawful.0

pub requests_end_within : TurnsKeepFacts → RequestsEndWithin 4
requests_end_within facts script before after node s in_range playable on lawful none =
    let c : Carried = carried script before in
    let here : LawfulOn script c (turn.Accept node s ∷ after) = lawful_after script before (turn.Accept node s ∷ after) lawful in
    let k : Served c.played.state s (node, place.Asked) = is_served_at c.played.state s (node, place.Asked) (accepted_first script c node s after here).in_place in
    let all : services s after ≤ turns_left k.held + 4 * acceptances s (turn.Accept node s ∷ after) = from_here script before (turn.Accept node s ∷ after) node s k.holder.i k.held facts in_range playable on here k.holder.at k.holder.has in
    let asked : turns_left k.held ≡ 0 = asked_left k.held k.held.progress k.place_is in
    let given : acceptances s (turn.Accept node s ∷ after) ≡ cond (is_acceptance s (turn.Accept node s)) 1 0 + acceptances s after = one_more (turn.Accept node s) _ (is_acceptance s (turn.Accept node s)) in
    let one : cond (is_acceptance s (turn.Accept node s)) 1 0 ≤ 1 = one_most (is_acceptance s (turn.Accept node s)) in
    omega (arith, all, asked, given, one, none)
