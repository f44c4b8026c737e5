-- Parts that are locked are those that an event has to do with.
use Rattle.std.proofs.Common.{◌≡◌, ℕ, ◌+◌, ◌<◌, ◌⊎◌, ⊎_elim, List, length, None, Option, Some, refl, sym, ap, ◌∙◌, subst, arith, rules}
use Rattle.std.specs.Prelude.{IfSome, IsSome, IsSomeAnd, option_map, slice_index_or, slice_set}
use Rattle.std.proofs.lemmas.List.{get_or-set_same}
use Rattle.stamp_base.specs.declared.stores.Store.{Store}
use Rattle.system_parts.specs.Sweep.{Sweeping}
use Rattle.script_data.specs.Data.{ScriptData}
use Rattle.machine.specs.Machine.{asks_at_client}
use Rattle.machine.specs.declared.event.Event.TheVariants as timed
use Rattle.machine.specs.Events.Step.{step_asks}
use Rattle.machine.specs.Events.SweepStep.{sweep_step_asks}
use Rattle.split_parts.specs.declared.event.Event.{Event}
use Rattle.split_parts.specs.declared.event.Event.TheVariants as event
use Rattle.split_parts.specs.Acts.{asked_of}
use Rattle.split_parts.specs.Agrees.{HasNode, HasParts, HasSession, HasStore}
use Rattle.split_parts.specs.Lending.{LendsSession, no_parts}
use Rattle.split_parts.specs.Lookups.{session_at}
use Rattle.split_parts.specs.Parts.{Node, Parts, Session, or_else}
use Rattle.split_stores.specs.Locks.{IsInPlace, IsNode, IsSession}
use Rattle.split_parts.proofs.FoundParts.{client_there}
use Rattle.split_parts.proofs.LentSessions.{session_is}

-- ---- the node
node_is : (found : Option Node) (node : ℕ) → IsSome found → IfSome found (λ n. n.node ≡ node) → IsSomeAnd found (λ n. n.node ≡ node)
node_is None node some at = search rules
node_is (Some n) node some at = search rules

pub has_node : (l : Parts) (node : ℕ) → IsSome l.node → IsNode l node → HasNode l node
has_node l node some at = node_is l.node node some at

-- ---- the session
own_is : (found : Option Session) (session : ℕ) → IsSome found → IfSome found (λ own. own.number ≡ session) → IsSomeAnd found (λ own. own.number ≡ session)
own_is None session some at = search rules
own_is (Some own) session some at = search rules

pub has_session : (l : Parts) (session : ℕ) → LendsSession l session → IsSession l session → HasSession l session
has_session l session some at = own_is (session_at l session) session some at

pub next_session : (l : Parts) (n k : ℕ) → k ≡ n → ((s : ℕ) → s < n → IsSession l s) → IsSession l k → (s : ℕ) → s < n + 1 → IsSession l s
next_session l n k same before here s less = ⊎_elim (λ (e : s ≡ n). subst (IsSession l) (same ∙ sym e) here) (λ (h : s < n). before s h) (session_is n s less)

-- ---- the store of a step
step_asked : (l : Parts) (s : ℕ) (own : Session) → s < 16 → session_at l s ≡ Some own → asked_of l (timed.Step s) ≡ step_asks own.client
step_asked l s own less at = ap (λ found. asks_at_client found step_asks) (client_there l s own.client less (ap (option_map (λ (o : Session). o.client)) at))

pub step_holds : (l : Parts) (s : ℕ) (own : Session) → s < 16 → session_at l s ≡ Some own → own.number ≡ s → HasStore l (step_asks own.client) → HasParts l (event.Step s)
step_holds l s own less at is has = (subst (λ (o : Option Session). IsSomeAnd o (λ x. x.number ≡ s)) (sym at) is, subst (HasStore l) (sym (step_asked l s own less at)) has)

-- the session is lent, and the store that its step asks
pub step_there : (e : Event) (l m : Parts) (plan : ScriptData) (s n : ℕ) (own : Session) (asked : Option Store) → e ≡ event.Step s → l.sessions ≡ slice_set m.sessions n (Some own) → m ≡ no_parts plan → n ≡ s → n < 16 → asked ≡ step_asks own.client → HasStore l asked → IsInPlace l e → HasParts l e
step_there e l m plan s n own asked step sessions none same less store has place =
    let at : session_at l n ≡ Some own = ap (λ (ss : List (Option Session)). slice_index_or ss n None) sessions ∙ get_or-set_same m.sessions n (Some own) None (omega (arith, less, ap (λ (p : Parts). length p.sessions) none)) in
    let here : IsSession l n = subst (IsSession l) (sym same) (subst (IsInPlace l) step place) in
    let is : own.number ≡ n = subst (λ (o : Option Session). IfSome o (λ x. x.number ≡ n)) at here in
    subst (HasParts l) (sym step) (subst (λ k. HasParts l (event.Step k)) same (step_holds l n own less at is (subst (HasStore l) store has)))

pub sweep_holds : (l : Parts) (sweep : Option Sweeping) → l.janitor ≡ Some sweep → HasStore l (sweep_step_asks sweep) → HasParts l event.SweepStep
sweep_holds l sweep at has = (subst IsSome (sym at) refl, subst (HasStore l) (sym (ap (λ o. sweep_step_asks (or_else o None)) at)) has)
