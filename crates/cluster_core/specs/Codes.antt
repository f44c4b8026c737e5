-- How the logic stores a whole: the commit table is a map, for which it must be told.
use Rattle.std.specs.Prelude.{ℕ, Bool, List, Option, refl}
use Rattle.std.specs.Coded.{Coded, code_by, coded×, coded_ℕ, coded_bool, coded_list, coded_option}
use Rattle.stamp_base.specs.SetupNumbers.{SetupNumbers}
use Rattle.history_book.specs.declared.item.Item.{Item}
use Rattle.history_book.specs.contracts.item.Item as items
use Rattle.system_parts.specs.Rows.{Row}
use Rattle.system_parts.specs.Pairs.{Pairs, Places, pairs_code, places_code}
use Rattle.system_parts.specs.Record.{MasterRecord}
use Rattle.cell_store.specs.Seen.{SeenCells}
use Rattle.cell_store.specs.contracts.Cells as cells
use Rattle.system_parts.specs.Sweep.{Sweeping}
use Rattle.invalidator.specs.contracts.sweep.Sweep as sweeps
use Rattle.system_parts.specs.Instance.{InstanceEntry}
use Rattle.oracle_core.specs.contracts.instance.Instance as instances
use Rattle.machine.specs.State.{Client, State}
use Rattle.event_parts.specs.contracts.client.Client as clients
use Rattle.cluster_core.specs.ClusterModel.{ClusterModel}

abbrev pub Sizes : Type 0
Sizes = ℕ × (ℕ × (ℕ × (ℕ × (ℕ × (ℕ × (ℕ × (ℕ × (ℕ × (ℕ × (Bool × Bool))))))))))

abbrev pub sizes_code : Coded Sizes
sizes_code = coded× coded_ℕ (coded× coded_ℕ (coded× coded_ℕ (coded× coded_ℕ (coded× coded_ℕ (coded× coded_ℕ (coded× coded_ℕ (coded× coded_ℕ (coded× coded_ℕ (coded× coded_ℕ (coded× coded_bool coded_bool))))))))))

abbrev pub setup_code : Coded SetupNumbers
setup_code =
    code_by Sizes sizes_code (λ s. (s.nodes, (s.lease, (s.skew, (s.range, (s.buckets, (s.width, (s.slots, (s.batch, (s.workers, (s.cache, (s.direct, s.strict)))))))))))) (λ p. record { nodes = p.0; lease = p.1.0; skew = p.1.1.0; range = p.1.1.1.0; buckets = p.1.1.1.1.0; width = p.1.1.1.1.1.0; slots = p.1.1.1.1.1.1.0; batch = p.1.1.1.1.1.1.1.0; workers = p.1.1.1.1.1.1.1.1.0; cache = p.1.1.1.1.1.1.1.1.1.0; direct = p.1.1.1.1.1.1.1.1.1.1.0; strict = p.1.1.1.1.1.1.1.1.1.1.1 }) (λ _. refl)

abbrev pub rows_code : Coded (List Row)
rows_code = code_by SeenCells cells.the_row.coded (λ rows. record { rows = rows }) (λ s. s.rows) (λ _. refl)

abbrev pub master_code : Coded MasterRecord
master_code =
    code_by (ℕ × (Option ℕ × (ℕ × ℕ))) (coded× coded_ℕ (coded× (coded_option coded_ℕ) (coded× coded_ℕ coded_ℕ))) (λ m. (m.term, (m.holder, (m.until, m.ceiling)))) (λ p. record { term = p.0; holder = p.1.0; until = p.1.1.0; ceiling = p.1.1.1 }) (λ _. refl)

abbrev pub StateParts : Type 0
StateParts = SetupNumbers × (ℕ × (List Client × (List (Option InstanceEntry) × (Option Sweeping × (List Row × (Pairs × MasterRecord))))))

abbrev pub parts_code : Coded StateParts
parts_code = coded× setup_code (coded× coded_ℕ (coded× (coded_list clients.the_row.coded) (coded× (coded_list (coded_option instances.the_row.coded)) (coded× (coded_option sweeps.the_row.coded) (coded× rows_code (coded× pairs_code master_code))))))

abbrev pub state_code : Coded State
state_code =
    code_by StateParts parts_code (λ w. (w.setup, (w.seen, (w.clients, (w.nodes, (w.sweep, (w.rows, (w.pairs, w.master)))))))) (λ p. record { setup = p.0; seen = p.1.0; clients = p.1.1.0; nodes = p.1.1.1.0; sweep = p.1.1.1.1.0; rows = p.1.1.1.1.1.0; pairs = p.1.1.1.1.1.1.0; master = p.1.1.1.1.1.1.1 }) (λ _. refl)

abbrev pub whole_code : Coded ClusterModel
whole_code =
    code_by (State × (List Item × (ℕ × Places))) (coded× state_code (coded× (coded_list items.the_row.coded) (coded× coded_ℕ places_code))) (λ w. (w.state, (w.history, (w.spare, w.places)))) (λ p. record { state = p.0; history = p.1.0; spare = p.1.1.0; places = p.1.1.1 }) (λ _. refl)
