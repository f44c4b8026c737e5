-- Steps of sessions, heals, aborts and steps of a sweep append an item each.
use Rattle.std.proofs.Common.{arith}
use Rattle.std.proofs.lemmas.Grind.{common_steps}
use Rattle.turn_rules.proofs.Names.{◌≡◌, ℕ, Bool, List, [], ◌∷◌, ◌++◌, Option, Some, None, refl}
use Rattle.turn_rules.proofs.Names.{sym, subst, Fate, Cause}
use Rattle.turn_rules.proofs.Names.{Item, SessionState}
use Rattle.turn_rules.proofs.Names.{Client, State, at_client, with_client, stepped, machine_step_by}
use Rattle.turn_rules.proofs.Names.{ReachedInvariant, ClientAt}
use Rattle.system_parts.specs.SessionSteps.{work_refusal, step_refusal}
use Rattle.machine.specs.declared.event.Event.TheVariants as event
use Rattle.machine.specs.Clients.{is_reading}
use Rattle.machine.specs.Events.Abort.{abort_by, abort_on}
use Rattle.machine.specs.Events.Step.{step_by, step_on}
use Rattle.command_semantics.proofs.Stepping.{stores_step, step_is, unhanded, place_is}
use Rattle.command_semantics.proofs.Working.{HasWork, has_work}
use Rattle.command_semantics.proofs.WorkItems.{HasNumber, starts}

-- an item is appended
abbrev pub Appends : List Item → Type 0
Appends [] = ⊥
Appends (x ∷ xs) = Unit {0}

pub last_appends : (xs : List Item) (y : Item) → Appends (xs ++ y ∷ [])
last_appends xs y = grind (arith, common_steps)

-- ---- a step on the stores
-- ---- a session's step
-- a placing tells how it went
work_appends : (w : State) (s : ℕ) (fate : Fate) (c : Client) → ClientAt w.clients s c → step_refusal c.entry.state (is_reading c) ≡ None → HasWork c → Appends (stepped w (event.Step s) fate).items
work_appends w s fate c at go h = grind (arith, unhanded, place_is, step_is, last_appends)

refused_step : (w : State) (s : ℕ) (fate : Fate) (c : Client) (why : Cause) → ClientAt w.clients s c → step_refusal c.entry.state (is_reading c) ≡ Some why → Appends (stepped w (event.Step s) fate).items
refused_step w s fate c why at is = subst (λ (found : Option Client). Appends (at_client w found (λ d. stores_step w s (step_on s fate d w.rows w.pairs))).items) (sym at) (subst (λ (refusal : Option Cause). Appends (stores_step w s (step_by s fate c w.rows w.pairs refusal)).items) (sym is) tt)

step_by_refusal : (w : State) (h : List Item) (s : ℕ) (fate : Fate) (c : Client) → ReachedInvariant w h → ClientAt w.clients s c → (refusal : Option Cause) → step_refusal c.entry.state (is_reading c) ≡ refusal → Appends (stepped w (event.Step s) fate).items
step_by_refusal w h s fate c stands at refusal is = grind (arith, refused_step, work_appends, has_work)

pub step_told : (w : State) (h : List Item) (s : ℕ) (fate : Fate) (c : Client) → ReachedInvariant w h → ClientAt w.clients s c → Appends (stepped w (event.Step s) fate).items
step_told w h s fate c stands at = step_by_refusal w h s fate c stands at (step_refusal c.entry.state (is_reading c)) refl

-- ---- a heal and an abort
pub heal_told : (w : State) (s : ℕ) (fate : Fate) (c : Client) → ClientAt w.clients s c → Appends (stepped w (event.Heal s) fate).items
heal_told w s fate c at = grind (arith, last_appends)

abort_appends : (s : ℕ) (c : Client) (state : SessionState) (reading : Bool) (start : Option ℕ) → HasNumber state start → Appends (abort_by s c (work_refusal state reading) start).items
abort_appends s c state reading start has = grind arith

pub abort_told : (w : State) (h : List Item) (s : ℕ) (fate : Fate) (c : Client) → ReachedInvariant w h → ClientAt w.clients s c → Appends (stepped w (event.Abort s) fate).items
abort_told w h s fate c stands at = subst (λ (found : Option Client). Appends (at_client w found (λ d. machine_step_by (abort_on s d) (λ p. with_client w s p))).items) (sym at) (abort_appends s c c.entry.state (is_reading c) c.entry.start (starts w h s c stands at))

-- ---- a step of a sweep
pub sweep_told : (w : State) (h : List Item) (fate : Fate) → ReachedInvariant w h → Appends (stepped w event.SweepStep fate).items
sweep_told w h fate stands = grind (arith, last_appends)
