-- What every event keeps of what users rely on, and what follows of it.
use Rattle.std.proofs.Common.{◌≡◌, List, [], refl, ◌∙◌, subst}
use Rattle.stamp_base.specs.SetupNumbers.{SetupNumbers, AreInRange}
use Rattle.history_book.specs.declared.item.Item.{Item}
use Rattle.machine.specs.State.{State, opening}
use Rattle.machine.proofs.PartsKept.{leaves_parts}
use Rattle.cause_laws.specs.ShownInvariant.{ExplainedInvariant}
use Rattle.cause_laws.proofs.AlwaysExplained.{tells_stay, tells_at_first}
use Rattle.service_rules.specs.Service.{KeepsService}
use Rattle.service_laws.specs.Service.{ServiceInvariant, ServiceAtFirst, EventsKeepService, ServiceNow}
use Rattle.command_semantics.specs.Laws.{EventsLowerWhatIsLeft}
use Rattle.command_semantics.proofs.Ending.{Keeps, script_keeps}
use Rattle.script_service.specs.Service.{ScriptsKeepService}

-- the laws that it stands on
pub record ServiceLaws : Type 0 where
  pub first : ServiceAtFirst
  pub events : EventsKeepService
  pub now : ServiceNow

-- the state w is reached with the history h by this setup: each refusal is shown, and what users rely on is kept
pub record Served (setup : SetupNumbers) (w : State) (h : List Item) : Type 0 where
  pub same : w.setup ≡ setup
  pub tells : ExplainedInvariant w h
  pub keeps : ServiceInvariant w h

pub served_at_first : ServiceLaws → (setup : SetupNumbers) → AreInRange setup → Served setup (opening setup) []
served_at_first laws setup in_range = record { same = refl; tells = tells_at_first setup in_range; keeps = laws.first setup }

pub served_kept : ServiceLaws → (setup : SetupNumbers) → Keeps (Served setup)
served_kept laws setup w h e fate has steady = record {
  same = (leaves_parts w e fate).setup ∙ has.same;
  tells = tells_stay w h e fate has.tells steady;
  keeps = laws.events w h e fate has.tells steady has.keeps;
}

pub served_now : ServiceLaws → (setup : SetupNumbers) (w : State) (h : List Item) → Served setup w h → KeepsService setup h
served_now laws setup w h has = subst (λ (s : SetupNumbers). KeepsService s h) has.same (laws.now w h has.tells has.keeps)

pub scripts_keep_service : ServiceLaws → EventsLowerWhatIsLeft → ScriptsKeepService
scripts_keep_service laws lowers script in_range playable =
    served_now laws script.setup _ _ (script_keeps lowers (Served script.setup) script (served_kept laws script.setup) (served_at_first laws script.setup in_range) in_range playable).1
