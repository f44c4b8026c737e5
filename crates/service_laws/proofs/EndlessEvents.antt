-- The sixteen events by which no transaction ends without a commit.
use Rattle.std.proofs.Common.{arith}
use Rattle.service_laws.proofs.Names.{ℕ, Bool, List, [], ◌∷◌, Option, None, Some, Result}
use Rattle.service_laws.proofs.Names.{SetupNumbers, Fate}
use Rattle.service_laws.proofs.Names.{Cause, Item, Row, Pairs}
use Rattle.service_laws.proofs.Names.{MasterRecord}
use Rattle.service_laws.proofs.Names.{Ask, Told, ReadTurn}
use Rattle.service_laws.proofs.Names.{Sweeping, sweep_told, is_undecided, Held}
use Rattle.service_laws.proofs.Names.{InstanceEntry, InstanceStep}
use Rattle.service_laws.proofs.Names.{Client}
use Rattle.service_laws.proofs.Names.{take_on, renew_on, extend_on}
use Rattle.service_laws.proofs.Names.{crashed_items, all_crashed_items, crash_on, asked_by}
use Rattle.service_laws.proofs.Names.{ask_begin_on, accept_on}
use Rattle.service_laws.proofs.Names.{decide_on}
use Rattle.service_laws.proofs.Names.{put_on, answer_on, read_items}
use Rattle.service_laws.proofs.Names.{fetch_on}
use Rattle.service_laws.proofs.Names.{heal_on, vanish_on}
use Rattle.service_laws.proofs.Names.{sweep_open_on, undecided_items, sweep_by, sweep_step_on}
use Rattle.service_laws.proofs.Names.{Met}
use Rattle.service_laws.proofs.EndlessItems.{IsNoEnd, Endless, none_ends, one_endless, then_endless, both_endless, once_endless, kept_endless, met_endless}

-- ---- the master record
pub take_endless : (setup : SetupNumbers) (node reading : ℕ) (fate : Fate) (post : Option InstanceEntry) (master : MasterRecord) → Endless (take_on setup node reading fate post master).items
take_endless setup node reading fate post master = grind (arith, one_endless, kept_endless, both_endless)

pub renew_endless : (setup : SetupNumbers) (node reading : ℕ) (fate : Fate) (post : Option InstanceEntry) (master : MasterRecord) → Endless (renew_on setup node reading fate post master).items
renew_endless setup node reading fate post master = grind (arith, one_endless, kept_endless, both_endless)

pub extend_endless : (setup : SetupNumbers) (node : ℕ) (fate : Fate) (post : Option InstanceEntry) (master : MasterRecord) → Endless (extend_on setup node fate post master).items
extend_endless setup node fate post master = grind (arith, one_endless, kept_endless, both_endless)

-- ---- a crash
lost_endless : (node term : ℕ) (held : Option Held) (c : Client) → Endless (crashed_items node term held c)
lost_endless node term held c = grind (arith, none_ends, one_endless)

losses_endless : (node term : ℕ) (requests : List (Option Held)) (cs : List Client) → Endless (all_crashed_items node term requests cs)
unfolding all_crashed_items
losses_endless node term [] cs = none_ends
losses_endless node term (held ∷ others) [] = none_ends
losses_endless node term (held ∷ others) (c ∷ cs) = both_endless (crashed_items node term held c) (all_crashed_items node term others cs) (lost_endless node term held c) (losses_endless node term others cs)

pub crash_endless : (node : ℕ) (post : Option InstanceEntry) (clients : List Client) → Endless (crash_on node post clients).items
crash_endless node post clients = grind (arith, one_endless, then_endless, losses_endless)

-- ---- requests
pub asked_endless : (session : ℕ) (c : Client) (asks : Item) (left : InstanceStep (Unit {0})) (answer : Result (Unit {0}) Cause) → IsNoEnd asks → Endless (asked_by session c asks left answer).items
asked_endless session c asks left answer none = grind (arith, one_endless)

pub ask_begin_endless : (session node : ℕ) (c : Client) (post : Option InstanceEntry) → Endless (ask_begin_on session node c post).items
ask_begin_endless session node c post = grind (arith, one_endless, asked_endless)

pub accept_endless : (node session reading : ℕ) (post : Option InstanceEntry) (c : Client) → Endless (accept_on node session reading post c).items
accept_endless node session reading post c = grind (arith, one_endless)

pub decide_endless : (node session : ℕ) (post : Option InstanceEntry) (c : Client) → Endless (decide_on node session post c).items
decide_endless node session post c = grind (arith, one_endless, once_endless)

pub put_endless : (node session : ℕ) (fate : Fate) (post : Option InstanceEntry) (pairs : Pairs) → Endless (put_on node session fate post pairs).items
put_endless node session fate post pairs = grind (arith, one_endless, kept_endless, both_endless)

pub answer_endless : (node session : ℕ) (post : Option InstanceEntry) (c : Client) → Endless (answer_on node session post c).items
answer_endless node session post c = grind (arith, one_endless, once_endless)

-- ---- sessions
pub read_endless : (session start key : ℕ) (turn : ReadTurn) → Endless (read_items session start key turn)
read_endless session start key turn = grind (arith, none_ends, one_endless)

pub fetch_endless : (setup : SetupNumbers) (session key : ℕ) (fate : Fate) (c : Client) (rows : List Row) → Endless (fetch_on setup session key fate c rows).items
fetch_endless setup session key fate c rows = grind (arith, one_endless, none_ends, then_endless, read_endless)

pub heal_endless : (session : ℕ) (fate : Fate) (c : Client) (rows : List Row) (pairs : Pairs) → Endless (heal_on session fate c rows pairs).items
heal_endless session fate c rows pairs = grind (arith, one_endless, met_endless)

pub vanish_endless : (session : ℕ) (c : Client) → Endless (vanish_on session c).items
vanish_endless session c = grind (arith, one_endless)

-- ---- sweeps
pub sweep_open_endless : (node txn : ℕ) (post : Option InstanceEntry) (sweep : Option Sweeping) → Endless (sweep_open_on node txn post sweep).items
sweep_open_endless node txn post sweep = grind (arith, one_endless, none_ends)

undecided_endless : (s : Sweeping) (undecided : Bool) → Endless (undecided_items s undecided)
undecided_endless s undecided = grind (arith, one_endless, none_ends)

sweeping : (s : Sweeping) (asked : Ask) (m : Met) (answer : Option Told) → Endless m.items → Endless (sweep_by s asked m answer).items
sweeping s asked m None none = none
sweeping s asked m (Some answer) none = both_endless m.items (undecided_items s (is_undecided (sweep_told s answer))) none (undecided_endless s (is_undecided (sweep_told s answer)))

pub sweep_step_endless : (fate : Fate) (sweep : Option Sweeping) (rows : List Row) (pairs : Pairs) → Endless (sweep_step_on fate sweep rows pairs).items
sweep_step_endless fate sweep rows pairs = grind (arith, one_endless, none_ends, sweeping, met_endless)
