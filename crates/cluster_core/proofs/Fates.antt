-- For this crate's own proofs.
-- The fate that an event meets is the first that its store has ahead; where it asks none, any would do.
use Rattle.cluster_core.proofs.Names.{◌≡◌, ℕ, List, Option, Some, None, Result, refl, sym, subst, SetupNumbers, Store}
use Rattle.cluster_core.proofs.Names.{Cells, Table, Master, Fate, Cause, Item, Row, Pairs, MasterRecord, InstanceEntry}
use Rattle.cluster_core.proofs.Names.{held_of, Client, Effect, take_on, take_asks, renew_on, renew_asks, extend_on}
use Rattle.cluster_core.proofs.Names.{extend_asks, put_on, put_commit, to_place, commit_asks, put_asks, write_on}
use Rattle.cluster_core.proofs.Names.{write_open, write_refused, write_asks, open_asks, fetch_on, fetch_open}
use Rattle.cluster_core.proofs.Names.{fetch_asks, fetch_refused, epoch_asks, heal_on, heal_at, heal_asks, offer_of}
use Rattle.cluster_core.proofs.Names.{offer_asks, Makes, fate_ahead, Stopped}

pub by_fate : {P : Type 0} → (effect other : Effect P) (old now : P) (before after : List Item) (result : Result Unit Stopped) → effect ≡ other → Makes other old now before after result → Makes effect old now before after result
by_fate effect other old now before after result same made = subst (λ (e : Effect _). Makes e old now before after result) (sym same) made

pub take_fate : (setup : SetupNumbers) (node reading : ℕ) (ahead : Store → ℕ → Fate) (post : Option InstanceEntry) (master : MasterRecord) → take_on setup node reading (fate_ahead (take_asks post) ahead) post master ≡ take_on setup node reading (ahead Master 0) post master
take_fate setup node reading ahead None master = refl
take_fate setup node reading ahead (Some i) master = refl

pub renew_fate : (setup : SetupNumbers) (node reading : ℕ) (ahead : Store → ℕ → Fate) (post : Option InstanceEntry) (master : MasterRecord) → renew_on setup node reading (fate_ahead (renew_asks post) ahead) post master ≡ renew_on setup node reading (ahead Master 0) post master
renew_fate setup node reading ahead None master = refl
renew_fate setup node reading ahead (Some i) master = refl

pub extend_fate : (setup : SetupNumbers) (node : ℕ) (ahead : Store → ℕ → Fate) (post : Option InstanceEntry) (master : MasterRecord) → extend_on setup node (fate_ahead (extend_asks post) ahead) post master ≡ extend_on setup node (ahead Master 0) post master
extend_fate setup node ahead None master = refl
extend_fate setup node ahead (Some i) master = refl

commit_fate : (node session : ℕ) (ahead : Store → ℕ → Fate) (i : InstanceEntry) (pairs : Pairs) (stamps : Option (ℕ × ℕ)) → put_commit node session (fate_ahead (commit_asks stamps) ahead) i pairs stamps ≡ put_commit node session (ahead Table 0) i pairs stamps
commit_fate node session ahead i pairs None = refl
commit_fate node session ahead i pairs (Some stamps) = refl

pub put_fate : (node session : ℕ) (ahead : Store → ℕ → Fate) (post : Option InstanceEntry) (pairs : Pairs) → put_on node session (fate_ahead (put_asks session post) ahead) post pairs ≡ put_on node session (ahead Table 0) post pairs
put_fate node session ahead None pairs = refl
put_fate node session ahead (Some i) pairs = commit_fate node session ahead i pairs (to_place (held_of i session))

open_fate : (session key : ℕ) (value : List ℕ) (ahead : Store → ℕ → Fate) (c : Client) (rows : List Row) (why : Option Cause) (start : Option ℕ) → write_open session key value (fate_ahead (open_asks why start) ahead) c rows why start ≡ write_open session key value (ahead Cells 0) c rows why start
open_fate session key value ahead c rows (Some why) start = refl
open_fate session key value ahead c rows None None = refl
open_fate session key value ahead c rows None (Some start) = refl

pub write_fate : (session key : ℕ) (value : List ℕ) (ahead : Store → ℕ → Fate) (c : Client) (rows : List Row) → write_on session key value (fate_ahead (write_asks key c) ahead) c rows ≡ write_on session key value (ahead Cells 0) c rows
write_fate session key value ahead c rows = open_fate session key value ahead c rows (write_refused c key) c.entry.start

read_fate : (setup : SetupNumbers) (session key : ℕ) (ahead : Store → ℕ → Fate) (c : Client) (rows : List Row) (why : Option Cause) (start epoch : Option ℕ) → fetch_open setup session key (fate_ahead (epoch_asks epoch (open_asks why start)) ahead) c rows why start epoch ≡ fetch_open setup session key (ahead Cells 0) c rows why start epoch
read_fate setup session key ahead c rows (Some why) start epoch = refl
read_fate setup session key ahead c rows None None epoch = refl
read_fate setup session key ahead c rows None (Some start) None = refl
read_fate setup session key ahead c rows None (Some start) (Some epoch) = refl

pub fetch_fate : (setup : SetupNumbers) (session key : ℕ) (ahead : Store → ℕ → Fate) (c : Client) (rows : List Row) → fetch_on setup session key (fate_ahead (fetch_asks setup key c) ahead) c rows ≡ fetch_on setup session key (ahead Cells 0) c rows
fetch_fate setup session key ahead c rows = read_fate setup session key ahead c rows (fetch_refused setup c key) c.entry.start c.entry.epoch

offer_fate : (session : ℕ) (ahead : Store → ℕ → Fate) (c : Client) (rows : List Row) (pairs : Pairs) (offer : Option (ℕ × ℕ × ℕ)) → heal_at session (fate_ahead (offer_asks offer) ahead) c rows pairs offer ≡ heal_at session (ahead Cells 0) c rows pairs offer
offer_fate session ahead c rows pairs None = refl
offer_fate session ahead c rows pairs (Some offer) = refl

pub heal_fate : (session : ℕ) (ahead : Store → ℕ → Fate) (c : Client) (rows : List Row) (pairs : Pairs) → heal_on session (fate_ahead (heal_asks c) ahead) c rows pairs ≡ heal_on session (ahead Cells 0) c rows pairs
heal_fate session ahead c rows pairs = offer_fate session ahead c rows pairs (offer_of c)
