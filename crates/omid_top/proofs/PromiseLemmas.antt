-- The promise of a script's history, from what the cluster keeps.
use Rattle.std.proofs.Common.{◌≡◌, ℕ, List, Result, Err, subst, sym}
use Rattle.std.specs.Prelude.{IsErrAnd}
use Rattle.history_book.specs.declared.item.Item.{Item}
use Rattle.history_book.specs.Isolation.{Isolated}
use Rattle.cause_rules.specs.Explained.{Explained}
use Rattle.cause_rules.specs.Strict.{SerialIfStrict}
use Rattle.script_data.specs.Data.{ScriptData}
use Rattle.session_script.specs.declared.cause.ScriptCause.{ScriptCause}
use Rattle.session_script.specs.declared.fault.ScriptFault.{ScriptFault}
use Rattle.session_script.specs.declared.fault.ScriptFault.TheVariants.{At}
use Rattle.session_script.specs.Script.{BadLine, ReadsScript}
use Rattle.command_semantics.specs.Answers.{Answers}
use Rattle.command_semantics.specs.Planned.{Planned}
use Rattle.command_semantics.specs.Runs.{replayed}
use Rattle.stamp_base.specs.SetupNumbers.{SetupNumbers}
use Rattle.service_rules.specs.Service.{KeepsService}
use Rattle.cluster_core.specs.ClusterModel.{ClusterModel}
use Rattle.log_refinement.specs.Served.{Served}
use Rattle.split_driver.specs.Splits.{SplitsTo}
use Rattle.history_text.specs.Text.{printed}
use Rattle.omid_top.specs.Promise.{KeepsPromise, KeepsSplit, WritesSplit}

pub promise_kept : (script : ScriptData) (h : List Item) → h ≡ replayed script → Isolated h → SerialIfStrict script.setup h → Explained script.setup h → Answers script h → Planned script h → KeepsService script.setup (replayed script) → KeepsPromise script
promise_kept script h is isolated serial explained answers planned service = record {
  promise = record {
    isolated = subst (λ (x : List Item). Isolated x) is isolated;
    serial = subst (λ (x : List Item). SerialIfStrict script.setup x) is serial;
    explained = subst (λ (x : List Item). Explained script.setup x) is explained;
    planned = subst (λ (x : List Item). Planned script x) is planned;
    service = service;
  };
  answers = subst (λ (x : List Item). Answers script x) is answers;
}

-- the same of a history over split stores
pub split_kept : (script : ScriptData) (whole : ClusterModel) → whole.state.setup ≡ script.setup → Isolated whole.history → SerialIfStrict whole.state.setup whole.history → Explained whole.state.setup whole.history → Answers script whole.history → Served script whole.history → Planned script whole.history → KeepsService script.setup whole.history → KeepsSplit script whole.history
split_kept script whole setup isolated serial explained answers served planned service = record {
  promise = record {
    isolated = isolated;
    serial = subst (λ (numbers : SetupNumbers). SerialIfStrict numbers whole.history) setup serial;
    explained = subst (λ (numbers : SetupNumbers). Explained numbers whole.history) setup explained;
    planned = planned;
    service = service;
  };
  answers = answers;
  served = served;
}

pub split_written : (script : ScriptData) (whole : ClusterModel) (writes : List ℕ → Type 0) (h : List Item) → SplitsTo script whole → KeepsSplit script whole.history → h ≡ whole.history → writes (printed h) → WritesSplit script writes
split_written script whole writes h settles keeps is written = record { whole = whole; settles = settles; keeps = keeps; written = subst (λ (items : List Item). writes (printed items)) is written }

-- what is told of the line that a reader answered is told of the script's first bad line
pub bad_line_told : (fault : ScriptFault) (line : ℕ) (cause : ScriptCause) (given : Result ScriptData BadLine) (P : BadLine → Type 0) → ReadsScript (Err fault) given → fault ≡ At line cause → P (record { line = line; cause = cause }) → IsErrAnd given P
bad_line_told fault line cause given P reads is told =
    let found : given ≡ Err (record { line = line; cause = cause }) = subst (λ (f : ScriptFault). ReadsScript (Err f) given) is reads in
    subst (λ (r : Result ScriptData BadLine). IsErrAnd r P) (sym found) told

pub told_of_same : (P : BadLine → Type 0) (l line : ℕ) (k cause : ScriptCause) → l ≡ line → k ≡ cause → P (record { line = l; cause = k }) → P (record { line = line; cause = cause })
told_of_same P l line k cause same alike told = subst (λ (c : ScriptCause). P (record { line = line; cause = c })) alike (subst (λ (n : ℕ). P (record { line = n; cause = k })) same told)
