use Rattle.run_board.proofs.Names.{◌≡◌, Bool, List, ◌∙◌, ap, sym, subst, SetupNumbers, Item, State, ScriptData, data_of}
use Rattle.run_board.proofs.Names.{Turn, carried, Ran, IsCarriedOut}
use Rattle.cause_rules.specs.Explained.{Explained}
use Rattle.cause_rules.specs.Strict.{SerialIfStrict}
use Rattle.run_board.proofs.Steady.{facts}
use Rattle.run_board.proofs.run.ScriptRun.history.Goals as goal

setup_kept : (script : ScriptData) (turns : List Turn) (lacking : List Bool) (w : State) → w ≡ (carried script turns).played.state → IsCarriedOut script turns lacking → w.setup ≡ script.setup
setup_kept script turns lacking w is out = ap (λ (s : State). s.setup) is ∙ (facts script turns out.sound out.few).reached.setup

-- what is said of the cluster's setup and history is said of the script's setup and of what the turns made
of_turns : (P : SetupNumbers → List Item → Type 0) (script : ScriptData) (turns : List Turn) (r : Ran) (setup : SetupNumbers) (h told : List Item) → record { script = script; turns = turns } ≡ r → setup ≡ script.setup → told ≡ h → P setup h → P r.script.setup told
of_turns P script turns r setup h told seen same is holds =
    subst (λ (x : Ran). P x.script.setup told) seen (subst (λ (x : List Item). P script.setup x) (sym is) (subst (λ (s : SetupNumbers). P s h) same holds))

pub returns-clause-explained : goal.returns-clause-explained
returns-clause-explained c =
    let same = setup_kept (data_of c.self.inside.script) c.self.inside.turns.items _ _ c.self.invariant.0.state c.self.invariant.2 in
    of_turns Explained (data_of c.self.inside.script) c.self.inside.turns.items _ _ _ _ c.self.view_is same c.history.ensures.value c.history.ensures.explained

pub returns-clause-serial : goal.returns-clause-serial
returns-clause-serial c =
    let same = setup_kept (data_of c.self.inside.script) c.self.inside.turns.items _ _ c.self.invariant.0.state c.self.invariant.2 in
    of_turns SerialIfStrict (data_of c.self.inside.script) c.self.inside.turns.items _ _ _ _ c.self.view_is same c.history.ensures.value c.history.ensures.serial
