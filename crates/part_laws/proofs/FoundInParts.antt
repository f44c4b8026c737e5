-- Parts of a state: what stands in the state is found in the parts, and what becomes of it is put back.
use Rattle.std.proofs.Common.{◌≡◌, ℕ, zero, suc, ◌<◌, ◌≤◌, List, [], ◌∷◌, length, replicate, slice_set, drop, get_or, Option, Some, None, refl, sym, ap, ◌∙◌, subst, arith}
use Rattle.std.specs.Prelude.{slice_get, slice_index_or, IsSome, IsSomeAnd, IfSome}
use Rattle.std.proofs.lemmas.Option.{same_Some, slice_get-get_or}
use Rattle.std.proofs.lemmas.List.{get_or-set_same, length-set, length-replicate, set-get_or}
use Rattle.stamp_base.specs.SetupNumbers.{SetupNumbers}
use Rattle.system_parts.specs.Rows.{Row}
use Rattle.system_parts.specs.Pairs.{Pairs}
use Rattle.system_parts.specs.Record.{MasterRecord}
use Rattle.system_parts.specs.Sweep.{Sweeping}
use Rattle.system_parts.specs.Instance.{InstanceEntry}
use Rattle.machine.specs.State.{Client, State}
use Rattle.split_parts.specs.Parts.{Parts, Node, Session, client_or, given_client, CellRows, Marks, Record, or_else, given, lent_clients, given_sessions, given_node, given_rows, given_pairs, given_master, lent_nodes, lent_rows, lent_pairs, lent_master, filled}
use Rattle.split_parts.specs.Agrees.{HasSession, HasNode}
use Rattle.split_parts.specs.Lookups.{session_at}
use Rattle.split_parts.proofs.FoundParts.{own_there}
use Rattle.part_laws.specs.Local.{AreOf}

-- ---- what has not changed
client_kept : (s : Option Session) (d c : Client) → given_client s c ≡ s → client_or (given_client s (client_or s d)) c ≡ c
client_kept s d c of = grind arith

clients_kept : (n : ℕ) (clients others : List Client) (sessions : List (Option Session)) → given_sessions n sessions clients ≡ sessions → n ≤ length others → lent_clients n clients (given_sessions n sessions (lent_clients n others sessions)) ≡ clients
unfolding lent_clients given_sessions
clients_kept zero clients others sessions of long = refl
clients_kept (suc n) [] others sessions of long = refl
clients_kept (suc n) (c ∷ clients) others [] of long = refl
clients_kept (suc n) (c ∷ clients) [] (s ∷ sessions) of long = absurd (omega (arith, long))
clients_kept (suc n) (c ∷ clients) (d ∷ others) (s ∷ sessions) of long =
    λ k. client_kept s d c (ap (λ l. get_or l 0 None) of) k ∷ clients_kept n clients others sessions (ap (λ l. drop 1 l) of) (omega (arith, long)) k

index_set : {X : Type 0} (xs : List X) (i : ℕ) (x : X) → slice_index_or (slice_set xs i x) i x ≡ x
index_set [] i x = refl
index_set (y ∷ ys) zero x = refl
index_set (y ∷ ys) (suc i) x = index_set ys i x

abbrev instance_in : Option InstanceEntry → Option Node → Option InstanceEntry
instance_in d None = d
instance_in d (Some n) = n.instance

abbrev rows_in : List Row → Option CellRows → List Row
rows_in d None = d
rows_in d (Some p) = p.rows

abbrev pairs_in : Pairs → Option Marks → Pairs
pairs_in d None = d
pairs_in d (Some p) = p.pairs

abbrev master_in : MasterRecord → Option Record → MasterRecord
master_in d None = d
master_in d (Some p) = p.state

-- what the filled state has is put back into the whole
pub record Kept (w : State) (l : Parts) : Type 0 where
  pub clients : lent_clients 16 w.clients (given_sessions 16 l.sessions (filled l).clients) ≡ w.clients
  pub nodes : lent_nodes w.nodes (given_node (filled l).nodes l.node) ≡ w.nodes
  pub sweep : or_else (given l.janitor (filled l).sweep) w.sweep ≡ w.sweep
  pub rows : lent_rows w.rows (given_rows (filled l).rows l.cells) ≡ w.rows
  pub pairs : lent_pairs w.pairs (given_pairs (filled l).pairs l.table) ≡ w.pairs
  pub master : lent_master w.master (given_master (filled l).master l.master) ≡ w.master

-- as parts of the state are
pub kept : (w : State) (l : Parts) → AreOf l w → Kept w l
kept w l of = grind (arith, clients_kept, index_set, set-get_or, same_Some)

-- ---- a session
-- a lent session is found in the state and in the filled one, and what becomes of it is put back
pub record FoundClient (w : State) (l : Parts) (session : ℕ) (c : Client) : Type 0 where
  pub whole : slice_get w.clients session ≡ Some c
  pub parts : slice_get (filled l).clients session ≡ Some c
  pub put : (now : Client) → lent_clients 16 w.clients (given_sessions 16 l.sessions (slice_set (filled l).clients session now)) ≡ slice_set w.clients session now

given_there : (n : ℕ) (sessions : List (Option Session)) (clients : List Client) (i : ℕ) (own : Session) → given_sessions n sessions clients ≡ sessions → i < n → n ≤ length clients → slice_index_or sessions i None ≡ Some own → slice_get clients i ≡ Some own.client
unfolding given_sessions
given_there zero sessions clients i own of less long at = absurd (omega (arith, less))
given_there (suc n) [] clients i own of less long at = absurd (cc)
given_there (suc n) (s ∷ ss) [] i own of less long at = absurd (omega (arith, long))
given_there (suc n) (s ∷ ss) (d ∷ cs) zero own of less long at = same_client own d (ap (λ (o : Option Session). given_client o d) (sym at) ∙ ap (λ l. get_or l 0 None) of ∙ at)
  where
    same_client : (own : Session) (d : Client) → Some (record own { client = d }) ≡ Some own → Some d ≡ Some own.client
    same_client own d is = ap (λ (s : Option Session). Some (client_or s d)) is
given_there (suc n) (s ∷ ss) (d ∷ cs) (suc i) own of less long at = given_there n ss cs i own (ap (λ l. drop 1 l) of) (omega (arith, less)) (omega (arith, long)) at

client_changed : (s : Option Session) (own : Session) (now d : Client) → s ≡ Some own → client_or (given_client s now) d ≡ now
client_changed s own now d at = ap (λ (q : Option Session). client_or (given_client q now) d) at

one_changed : (n : ℕ) (clients others : List Client) (sessions : List (Option Session)) (i : ℕ) (own : Session) (now : Client) → given_sessions n sessions clients ≡ sessions → n ≤ length others → i < length clients → slice_index_or sessions i None ≡ Some own → i < n
    → lent_clients n clients (given_sessions n sessions (slice_set (lent_clients n others sessions) i now)) ≡ slice_set clients i now
unfolding lent_clients given_sessions
one_changed zero clients others sessions i own now of long within at less = absurd (omega (arith, less))
one_changed (suc n) [] others sessions i own now of long within at less = absurd (omega (arith, within))
one_changed (suc n) (x ∷ xs) others [] i own now of long within at less = absurd (cc)
one_changed (suc n) (x ∷ xs) [] (s ∷ ss) i own now of long within at less = absurd (omega (arith, long))
one_changed (suc n) (x ∷ xs) (o ∷ os) (s ∷ ss) zero own now of long within at less = λ k. client_changed s own now x at k ∷ clients_kept n xs os ss (ap (λ l. drop 1 l) of) (omega (arith, long)) k
one_changed (suc n) (x ∷ xs) (o ∷ os) (s ∷ ss) (suc i) own now of long within at less =
    λ k. client_kept s o x (ap (λ l. get_or l 0 None) of) k ∷ one_changed n xs os ss i own now (ap (λ l. drop 1 l) of) (omega (arith, long)) (omega (arith, within)) at (omega (arith, less)) k

lent_within : (sessions : List (Option Session)) (i : ℕ) (own : Session) → slice_index_or sessions i None ≡ Some own → i < length sessions
lent_within [] i own at = absurd (cc)
lent_within (s ∷ ss) zero own at = omega arith
lent_within (s ∷ ss) (suc i) own at = let less : i < length ss = lent_within ss i own at in omega (arith, less)

found_client : (w : State) (l : Parts) (session : ℕ) (own : Session) → AreOf l w → session_at l session ≡ Some own → FoundClient w l session own.client
found_client w l session own of at =
    let its = ap (λ (p : Parts). p.sessions) of.parts in
    let less : session < 16 = let within = lent_within l.sessions session own at in let n = of.sessions in omega (arith, within, n) in
    let many : 16 ≤ length w.clients = let n = of.clients in omega (arith, n) in
    record {
      whole = given_there 16 l.sessions w.clients session own its less many at;
      parts = own_there l session own less at;
      put = λ now. one_changed 16 w.clients _ l.sessions session own now its (omega arith) (omega (arith, many, less)) at less;
    }

client_by : (w : State) (l : Parts) (session : ℕ) (part : Option Session) → AreOf l w → session_at l session ≡ part → IsSomeAnd part (λ own. own.number ≡ session) → (c : Client) × FoundClient w l session c
client_by w l session part of at has = grind (arith, lent_within, given_there, own_there, one_changed, found_client)

-- so it is with the client of a session that is lent
pub finds_client : {w : State} {l : Parts} (session : ℕ) → AreOf l w → HasSession l session → (c : Client) × FoundClient w l session c
finds_client {w} {l} session of has = client_by w l session (session_at l session) of refl has

-- ---- a node
-- a lent node is found in both, and what becomes of its post is put back
pub record FoundPost (w : State) (l : Parts) (node : ℕ) (post : Option InstanceEntry) : Type 0 where
  pub whole : slice_get w.nodes node ≡ Some post
  pub parts : slice_get (filled l).nodes node ≡ Some post
  pub put : (now : Option InstanceEntry) → lent_nodes w.nodes (given_node (slice_set (filled l).nodes node now) l.node) ≡ slice_set w.nodes node now

found_lent : (w : State) (l : Parts) (n : Node) → AreOf l w → l.node ≡ Some n → FoundPost w l n.node n.instance
found_lent w l n of lent =
    let less : n.node < w.setup.nodes = subst (λ (part : Option Node). IfSome part (λ m. m.node < w.setup.nodes)) lent of.node in
    let own : given_node w.nodes (Some n) ≡ Some n = subst (λ (part : Option Node). given_node w.nodes part ≡ part) lent (ap (λ (p : Parts). p.node) of.parts) in
    let nodes : l.plan.setup.nodes ≡ w.setup.nodes = ap (λ (s : SetupNumbers). s.nodes) of.setup in
    let none : Option InstanceEntry = None in
    let fresh : List (Option InstanceEntry) = replicate l.plan.setup.nodes none in
    let posts : List (Option InstanceEntry) = slice_set fresh n.node n.instance in
    let within : n.node < length fresh = omega (arith, nodes, less, length-replicate l.plan.setup.nodes none) in
    let there : n.node < length posts = omega (arith, within, length-set fresh n.node n.instance) in
    let filled_by : (filled l).nodes ≡ posts = ap (lent_nodes fresh) lent in
    record {
      whole = slice_get-get_or w.nodes n.node n.instance (omega (arith, of.nodes, less)) ∙ ap (λ (part : Option Node). Some (instance_in None part)) own;
      parts = ap (λ (xs : List (Option InstanceEntry)). slice_get xs n.node) filled_by ∙ slice_get-get_or posts n.node n.instance there ∙ ap Some (get_or-set_same fresh n.node n.instance n.instance within);
      put = λ now.
          (λ k. lent_nodes w.nodes (given_node (slice_set (filled_by k) n.node now) (lent k)))
          ∙ ap (slice_set w.nodes n.node) (get_or-set_same posts n.node now n.instance there);
    }

post_by : (w : State) (l : Parts) (node : ℕ) (part : Option Node) → AreOf l w → l.node ≡ part → IsSomeAnd part (λ n. n.node ≡ node) → (post : Option InstanceEntry) × FoundPost w l node post
post_by w l node None of at has = absurd has
post_by w l node (Some n) of at has = (n.instance, subst (λ i. FoundPost w l i n.instance) has (found_lent w l n of at))

-- so it is with the post of a node that is lent
pub finds_post : {w : State} {l : Parts} (node : ℕ) → AreOf l w → HasNode l node → (post : Option InstanceEntry) × FoundPost w l node post
finds_post {w} {l} node of has = post_by w l node l.node of refl has

-- ---- all sessions
is_some : (o : Option Session) → IsSome o → (own : Session) × (o ≡ Some own)
is_some o some = grind arith

-- all sessions below this number are lent
AllLent : ℕ → List (Option Session) → Type 0
AllLent n sessions = (i : ℕ) → i < n → IsSome (slice_index_or sessions i None)

all_put : (n : ℕ) (clients now : List Client) (sessions : List (Option Session)) → AllLent n sessions → length clients ≡ n → length now ≡ n → lent_clients n clients (given_sessions n sessions now) ≡ now
unfolding AllLent lent_clients given_sessions
all_put zero [] [] sessions all many same = refl
all_put zero (c ∷ cs) now sessions all many same = absurd (omega (arith, many))
all_put zero [] (d ∷ ds) sessions all many same = absurd (omega (arith, same))
all_put (suc n) [] now sessions all many same = absurd (omega (arith, many))
all_put (suc n) (c ∷ cs) [] sessions all many same = absurd (omega (arith, same))
all_put (suc n) (c ∷ cs) (d ∷ ds) [] all many same = let none = all 0 (omega arith) in absurd (cc)
all_put (suc n) (c ∷ cs) (d ∷ ds) (s ∷ ss) all many same =
    let first = is_some s (all 0 (omega arith)) in
    λ k. client_changed s first.0 d c first.1 k ∷ all_put n cs ds ss (λ i less. all (suc i) (omega (arith, less))) (omega (arith, many)) (omega (arith, same)) k

client_same : (s : Option Session) (c d : Client) → IsSome s → given_client s c ≡ s → client_or s d ≡ c
client_same s c d some of = grind arith

all_same : (n : ℕ) (clients others : List Client) (sessions : List (Option Session)) → AllLent n sessions → given_sessions n sessions clients ≡ sessions → length clients ≡ n → length others ≡ n → lent_clients n others sessions ≡ clients
unfolding AllLent lent_clients given_sessions
all_same zero [] [] sessions all of many same = refl
all_same zero (c ∷ cs) others sessions all of many same = absurd (omega (arith, many))
all_same zero [] (d ∷ ds) sessions all of many same = absurd (omega (arith, same))
all_same (suc n) [] others sessions all of many same = absurd (omega (arith, many))
all_same (suc n) (c ∷ cs) [] sessions all of many same = absurd (omega (arith, same))
all_same (suc n) (c ∷ cs) (d ∷ ds) [] all of many same = let none = all 0 (omega arith) in absurd (cc)
all_same (suc n) (c ∷ cs) (d ∷ ds) (s ∷ ss) all of many same =
    λ k. client_same s c d (all 0 (omega arith)) (ap (λ l. get_or l 0 None) of) k ∷ all_same n cs ds ss (λ i less. all (suc i) (omega (arith, less))) (ap (λ l. drop 1 l) of) (omega (arith, many)) (omega (arith, same)) k

-- all clients are found, and as many as there were are put back
pub record FoundClients (w : State) (l : Parts) : Type 0 where
  pub same : (filled l).clients ≡ w.clients
  pub put : (now : List Client) → length now ≡ length w.clients → lent_clients 16 w.clients (given_sessions 16 l.sessions now) ≡ now

-- where all sessions are lent
pub finds_clients : {w : State} {l : Parts} → AreOf l w → ((session : ℕ) → session < 16 → HasSession l session) → FoundClients w l
unfolding AllLent
finds_clients {w} {l} of all = grind (arith, all_same, all_put)

-- ---- the other parts
-- a store, the record or the sweep is the same in both where it is lent, and what becomes of it is put back
pub record FoundRows (w : State) (l : Parts) : Type 0 where
  pub same : (filled l).rows ≡ w.rows
  pub put : (now : List Row) → lent_rows w.rows (given_rows now l.cells) ≡ now

pub finds_rows : {w : State} {l : Parts} → AreOf l w → IsSome l.cells → FoundRows w l
finds_rows {w} {l} of has = grind arith

pub record FoundPairs (w : State) (l : Parts) : Type 0 where
  pub same : (filled l).pairs ≡ w.pairs
  pub put : (now : Pairs) → lent_pairs w.pairs (given_pairs now l.table) ≡ now

pub finds_pairs : {w : State} {l : Parts} → AreOf l w → IsSome l.table → FoundPairs w l
finds_pairs {w} {l} of has = grind arith

pub record FoundMaster (w : State) (l : Parts) : Type 0 where
  pub same : (filled l).master ≡ w.master
  pub put : (now : MasterRecord) → lent_master w.master (given_master now l.master) ≡ now

pub finds_master : {w : State} {l : Parts} → AreOf l w → IsSome l.master → FoundMaster w l
finds_master {w} {l} of has = grind arith

pub record FoundSweep (w : State) (l : Parts) : Type 0 where
  pub same : (filled l).sweep ≡ w.sweep
  pub put : (now : Option Sweeping) → or_else (given l.janitor now) w.sweep ≡ now

pub finds_sweep : {w : State} {l : Parts} → AreOf l w → IsSome l.janitor → FoundSweep w l
finds_sweep {w} {l} of has = grind (arith, same_Some)
