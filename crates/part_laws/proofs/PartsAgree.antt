-- Parts of a state that is reached agree: what an event finds of the lent parts is what the whole has there.
use Rattle.std.proofs.Common.{arith, ◌≡◌, ℕ, ◌≤◌, List, Option, Some, sym, ◌∙◌, ap, subst}
use Rattle.std.specs.Prelude.{IfSome}
use Rattle.std.proofs.lemmas.Option.{same_Some}
use Rattle.stamp_base.specs.declared.stores.Store.{Store}
use Rattle.stamp_base.specs.declared.stores.Store.TheVariants as store
use Rattle.history_book.specs.declared.item.Item.{Item}
use Rattle.system_parts.specs.Rows.{Row, HasOnly}
use Rattle.system_parts.specs.Record.{MasterRecord}
use Rattle.system_parts.specs.declared.asks.Ask.{Ask}
use Rattle.system_parts.specs.declared.session.State.{State as Phase}
use Rattle.system_parts.specs.declared.session.State.TheVariants as phase
use Rattle.system_parts.specs.Sweep.{Sweeping, sweep_ask}
use Rattle.system_parts.specs.Instance.{InstanceEntry}
use Rattle.machine.specs.State.{Client, State}
use Rattle.machine.specs.Calls.{KeepsShadowNext}
use Rattle.machine.specs.Events.Step.{step_asks, step_asks_by, asked_next, store_asked, next_of, work_of}
use Rattle.machine.specs.Events.SweepStep.{sweep_step_asks}
use Rattle.machine.specs.Events.Heal.{offer_of}
use Rattle.isolation_laws.specs.Words.{ClientAt}
use Rattle.cause_laws.specs.ShownInvariant.{ExplainedInvariant}
use Rattle.cause_laws.specs.RequestCalls.{PostAt}
use Rattle.cause_laws.proofs.RecordCalls.{extensions_fit}
use Rattle.cause_laws.proofs.StoreCalls.{heals_only, sweeps_ask}
use Rattle.cause_laws.proofs.StepCalls.{steps_ask}
use Rattle.cluster_core.specs.Required.{Covers, MayMakeStep}
use Rattle.split_parts.specs.declared.event.Event.{Event}
use Rattle.split_parts.specs.declared.event.Event.TheVariants as event
use Rattle.split_parts.specs.Parts.{Parts, filled, node_asked}
use Rattle.split_parts.specs.Agrees.{IsAsked, HoldsNoneIn, HasNode, HasParts, HasSession, HasStore, ClockFits, CallsFit, store_by, Fits, Agrees}
use Rattle.part_laws.specs.Local.{AreOf}
use Rattle.part_laws.specs.Reached.{HoldWrittenKeys}
use Rattle.part_laws.proofs.FoundInParts.{FoundClient, FoundPost, finds_client, finds_clients, finds_post, finds_rows, finds_pairs, finds_master, finds_sweep}
use Rattle.part_laws.proofs.WholeAgrees.{all_asked, free_holds_none, open_holds_none, puts_find_none, writes_find_bare}

-- ---- what is found
same_client : (w : State) (l : Parts) (session : ℕ) (c d : Client) → FoundClient w l session c → ClientAt (filled l).clients session d → ClientAt w.clients session d
same_client w l session c d found at = found.whole ∙ sym found.parts ∙ at

same_post : (w : State) (l : Parts) (node : ℕ) (post other : Option InstanceEntry) → FoundPost w l node post → PostAt (filled l) node other → PostAt w node other
same_post w l node post other found at = found.whole ∙ sym found.parts ∙ at

-- ---- a session and a node
asked_of_parts : (w : State) (l : Parts) (node session : ℕ) → AreOf l w → HasSession l session → HasNode l node → IsAsked w node session → IsAsked (filled l) node session
asked_of_parts w l node session of own has asked = grind (arith, finds_client, finds_post)

none_of_parts : (w : State) (l : Parts) (at : Phase) (session node : ℕ) → AreOf l w → HasSession l session → HasNode l node → HoldsNoneIn at w session node → HoldsNoneIn at (filled l) session node
none_of_parts w l at session node of own has none = grind (arith, finds_client, finds_post)

-- ---- a node and a store
covers : (master : MasterRecord) (post : Option InstanceEntry) → IfSome post (λ i. i.ceiling ≤ master.ceiling) → IfSome post (Covers master)
covers master post within = grind arith

-- ---- a session and the cells
-- a store that is lent is as in the whole
cells_same : (w : State) (l : Parts) (asked : Option Store) → AreOf l w → HasStore l asked → asked ≡ Some store.Cells → (filled l).rows ≡ w.rows
cells_same w l asked of has is = grind (arith, finds_rows)

keeps_in : (next : Option Ask) (rows lent : List Row) → (store_asked next ≡ Some store.Cells → lent ≡ rows) → KeepsShadowNext next rows → KeepsShadowNext next lent
keeps_in next rows lent same keeps = grind arith

step_of_parts : (w : State) (h : List Item) (l : Parts) (session : ℕ) (c : Client) → ExplainedInvariant w h → AreOf l w → FoundClient w l session c → HasStore l (step_asks c) → MayMakeStep (filled l) session
step_of_parts w h l session c tells of client has d at may none =
    let same : c ≡ d = same_Some c d (sym client.parts ∙ at) in
    let asked : step_asks d ≡ store_asked (next_of (work_of d)) = ap (step_asks_by d) may ∙ ap (asked_next d) none in
    keeps_in (next_of (work_of d)) w.rows (filled l).rows (λ is. cells_same w l (step_asks d) of (subst (λ (x : Client). HasStore l (step_asks x)) same has) (asked ∙ is)) ((steps_ask w h tells session d (same_client w l session c d client at)).shadow may none)

sweep_of_parts : (w : State) (h : List Item) (l : Parts) (sweep : Option Sweeping) → ExplainedInvariant w h → AreOf l w → HasStore l (sweep_step_asks sweep) → w.sweep ≡ sweep → IfSome sweep (λ s. KeepsShadowNext (sweep_ask s) (filled l).rows)
sweep_of_parts w h l sweep tells of has is = grind (arith, sweeps_ask, finds_rows)

-- ---- each event
fits : (w : State) (h : List Item) (l : Parts) (e : Event) → ExplainedInvariant w h → HoldWrittenKeys w.nodes h → AreOf l w → HasParts l e → Fits l e
fits w h l (event.Extend node) tells keys of has =
    grind (arith, finds_post, finds_master, covers, extensions_fit, same_post)
fits w h l (event.Crash node) tells keys of has = grind (arith, finds_post, same_post, all_asked, finds_clients)
fits w h l (event.AskBegin session to) tells keys of has = none_of_parts w l phase.Free session (node_asked l to) of has.0 has.1 (free_holds_none w h tells session (node_asked l to))
fits w h l (event.AskCommit session to) tells keys of has = none_of_parts w l phase.Open session (node_asked l to) of has.0 has.1 (open_holds_none w h tells session (node_asked l to))
fits w h l (event.Accept node session) tells keys of has = asked_of_parts w l node session of has.0 has.2 (all_asked w h tells keys node session)
fits w h l (event.Decide node session) tells keys of has = asked_of_parts w l node session of has.0 has.1 (all_asked w h tells keys node session)
fits w h l (event.Answer node session) tells keys of has = asked_of_parts w l node session of has.0 has.1 (all_asked w h tells keys node session)
fits w h l (event.Put node session) tells keys of has = grind (arith, finds_post, finds_pairs, puts_find_none)
fits w h l (event.Write session key value) tells keys of has =
    grind (arith, finds_client, finds_rows, writes_find_bare, same_client)
fits w h l (event.Step session) tells keys of has = grind (arith, finds_client, step_of_parts)
fits w h l (event.Heal session) tells keys of has =
    let (c, client) = finds_client session of has.0 in
    let rows : w.rows ≡ (filled l).rows = sym (finds_rows of has.1).same in
    λ d at. subst (λ (x : List Row). IfSome (offer_of d) (λ offer. HasOnly x offer.0 offer.1 offer.2)) rows (heals_only w h tells session d (same_client w l session c d client at))
fits w h l event.SweepStep tells keys of has = sweep_of_parts w h l (filled l).sweep tells of has.1 (sym (finds_sweep of has.0).same)
fits w h l _ tells keys of has = tt

-- so they agree, where clock and calls fit
pub agree : (w : State) (h : List Item) (l : Parts) (e : Event) → ExplainedInvariant w h → HoldWrittenKeys w.nodes h → AreOf l w → HasParts l e → ClockFits l e → CallsFit l (store_by l e) → Agrees l e
agree w h l e tells keys of has clock calls = record { clock = clock; calls = calls; parts = fits w h l e tells keys of has }
