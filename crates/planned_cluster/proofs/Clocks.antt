-- For run_board and replay_driver.
-- The clocks that a cluster has where a script was played are those of what was played.
use Rattle.std.proofs.Common.{◌≡◌, ℕ, List, ap, ◌∙◌}
use Rattle.stamp_base.specs.declared.stores.Store.{Store}
use Rattle.port_io.specs.declared.weather.Fate.{Fate}
use Rattle.history_book.specs.declared.item.Item.{Item}
use Rattle.script_data.specs.Data.{ScriptData}
use Rattle.command_semantics.specs.Clocks.{clocks}
use Rattle.command_semantics.specs.Master.{last_master}
use Rattle.command_semantics.specs.Runs.{Played, clocks_of}
use Rattle.cluster_core.specs.ClusterModel.{ClusterModel}
use Rattle.planned_cluster.specs.Standing.{StandsAt, clocks_at}

pub clocks_there : (script : ScriptData) (p : Played) (whole : ClusterModel) (clock : ℕ) (ahead : Store → ℕ → Fate) → StandsAt script p whole clock ahead → clocks_at whole clock script.leads ≡ clocks_of script p
clocks_there script p whole clock ahead at =
    ap (λ (n : ℕ). clocks n script.leads (last_master whole.history)) at.time ∙ ap (λ (h : List Item). clocks p.clock script.leads (last_master h)) at.history
