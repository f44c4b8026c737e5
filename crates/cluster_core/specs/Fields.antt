-- What the fields of an engine stand for, and what they keep to.
use Rattle.std.specs.Prelude.{◌≡◌, vec_len}
use Rattle.stamp_base.specs.Setups.{numbers_of}
use Rattle.machine.specs.Events.Take.{rules_of}
use Rattle.cluster_core.specs.ClusterModel.{ClusterModel}
use Rattle.cluster_core.specs.declared.engine.ClusterState.TheInside.{Inside}

abbrev pub whole_of : Inside → ClusterModel
whole_of e = record {
  state = record {
    setup = numbers_of e.setup;
    seen = e.seen;
    clients = e.clients.items;
    nodes = e.posts.items;
    sweep = e.sweep;
    rows = e.cells.rows;
    pairs = e.table.pairs;
    master = e.master.state;
  };
  history = e.book.items;
  spare = e.book.spare;
  places = e.table.places;
}

-- there is a client for each session and a post for each node, and the master record leases by the setup
pub record IsFitted (e : Inside) : Type 0 where
  pub clients : vec_len e.clients ≡ 16
  pub posts : vec_len e.posts ≡ e.setup.nodes
  pub rules : e.master.rules ≡ rules_of (numbers_of e.setup)
