-- For this crate's own proofs.
-- Each event that may ask a store, by the fate that its store has ahead.
use Rattle.cluster_core.proofs.Names.{◌≡◌, ℕ, List, Option, Some, Result, Store, Cells, Table, Master, Fate, Item, Row}
use Rattle.cluster_core.proofs.Names.{Pairs, MasterRecord, InstanceEntry, Client, State, with_post, with_client}
use Rattle.cluster_core.proofs.Names.{take_on, renew_on, extend_on, put_on, write_on, fetch_on, heal_on, Makes}
use Rattle.cluster_core.proofs.Names.{fate_ahead, Stopped, seen_made, effect_of, step_under}
use Rattle.std.proofs.Common.{slice_get}
use Rattle.machine.specs.declared.event.Event.TheVariants as event
use Rattle.machine.specs.Events.Step.{StepParts, step_on, step_asks}
use Rattle.cluster_core.proofs.PutBack.{put_back, put_back_seen, same_post, same_client}
use Rattle.cluster_core.proofs.Fates.{by_fate, take_fate, renew_fate, extend_fate, put_fate, write_fate, fetch_fate, heal_fate}

pub take_made : (w v : State) (node reading : ℕ) (ahead : Store → ℕ → Fate) (post now : Option InstanceEntry) (master : MasterRecord) (before after : List Item) (result : Result Unit Stopped) → slice_get w.nodes node ≡ Some post → v ≡ record (with_post w node now) { master = master; seen = seen_made w.seen reading result } → Makes (take_on w.setup node reading (ahead Master 0) post w.master) (post, w.master) (now, master) before after result → Makes (effect_of (step_under ahead w (event.Take node reading))) w v before after result
take_made w v node reading ahead post now master before after result at is made =
    let whole : ℕ → Option InstanceEntry × MasterRecord → State = λ seen p. record (with_post w node p.0) { master = p.1; seen = seen } in
    rw at (put_back_seen _ whole (post, w.master) (now, master) w v w.seen reading before after result (same_post w node post at) is (by_fate _ _ (post, w.master) (now, master) before after result (take_fate w.setup node reading ahead post w.master) made))

pub renew_made : (w v : State) (node reading : ℕ) (ahead : Store → ℕ → Fate) (post now : Option InstanceEntry) (master : MasterRecord) (before after : List Item) (result : Result Unit Stopped) → slice_get w.nodes node ≡ Some post → v ≡ record (with_post w node now) { master = master; seen = seen_made w.seen reading result } → Makes (renew_on w.setup node reading (ahead Master 0) post w.master) (post, w.master) (now, master) before after result → Makes (effect_of (step_under ahead w (event.Renew node reading))) w v before after result
renew_made w v node reading ahead post now master before after result at is made =
    let whole : ℕ → Option InstanceEntry × MasterRecord → State = λ seen p. record (with_post w node p.0) { master = p.1; seen = seen } in
    rw at (put_back_seen _ whole (post, w.master) (now, master) w v w.seen reading before after result (same_post w node post at) is (by_fate _ _ (post, w.master) (now, master) before after result (renew_fate w.setup node reading ahead post w.master) made))

pub extend_made : (w v : State) (node : ℕ) (ahead : Store → ℕ → Fate) (post now : Option InstanceEntry) (master : MasterRecord) (before after : List Item) (result : Result Unit Stopped) → slice_get w.nodes node ≡ Some post → v ≡ record (with_post w node now) { master = master } → Makes (extend_on w.setup node (ahead Master 0) post w.master) (post, w.master) (now, master) before after result → Makes (effect_of (step_under ahead w (event.Extend node))) w v before after result
extend_made w v node ahead post now master before after result at is made =
    let whole : Option InstanceEntry × MasterRecord → State = λ p. record (with_post w node p.0) { master = p.1 } in
    rw at (put_back _ whole (post, w.master) (now, master) w v before after result (same_post w node post at) is (by_fate _ _ (post, w.master) (now, master) before after result (extend_fate w.setup node ahead post w.master) made))

pub put_made : (w v : State) (node session : ℕ) (ahead : Store → ℕ → Fate) (post now : Option InstanceEntry) (pairs : Pairs) (before after : List Item) (result : Result Unit Stopped) → slice_get w.nodes node ≡ Some post → v ≡ record (with_post w node now) { pairs = pairs } → Makes (put_on node session (ahead Table 0) post w.pairs) (post, w.pairs) (now, pairs) before after result → Makes (effect_of (step_under ahead w (event.Put node session))) w v before after result
put_made w v node session ahead post now pairs before after result at is made =
    let whole : Option InstanceEntry × Pairs → State = λ p. record (with_post w node p.0) { pairs = p.1 } in
    rw at (put_back _ whole (post, w.pairs) (now, pairs) w v before after result (same_post w node post at) is (by_fate _ _ (post, w.pairs) (now, pairs) before after result (put_fate node session ahead post w.pairs) made))

pub write_made : (w v : State) (session key : ℕ) (value : List ℕ) (ahead : Store → ℕ → Fate) (c left : Client) (rows : List Row) (before after : List Item) (result : Result Unit Stopped) → slice_get w.clients session ≡ Some c → v ≡ record (with_client w session left) { rows = rows } → Makes (write_on session key value (ahead Cells 0) c w.rows) (c, w.rows) (left, rows) before after result → Makes (effect_of (step_under ahead w (event.Write session key value))) w v before after result
write_made w v session key value ahead c left rows before after result at is made =
    let whole : Client × List Row → State = λ p. record (with_client w session p.0) { rows = p.1 } in
    rw at (put_back _ whole (c, w.rows) (left, rows) w v before after result (same_client w session c at) is (by_fate _ _ (c, w.rows) (left, rows) before after result (write_fate session key value ahead c w.rows) made))

pub fetch_made : (w v : State) (session key : ℕ) (ahead : Store → ℕ → Fate) (c left : Client) (before after : List Item) (result : Result Unit Stopped) → slice_get w.clients session ≡ Some c → v ≡ with_client w session left → Makes (fetch_on w.setup session key (ahead Cells 0) c w.rows) c left before after result → Makes (effect_of (step_under ahead w (event.Fetch session key))) w v before after result
fetch_made w v session key ahead c left before after result at is made =
    rw at (put_back _ (λ p. with_client w session p) c left w v before after result (same_client w session c at) is (by_fate _ _ c left before after result (fetch_fate w.setup session key ahead c w.rows) made))

pub heal_made : (w v : State) (session : ℕ) (ahead : Store → ℕ → Fate) (c left : Client) (rows : List Row) (before after : List Item) (result : Result Unit Stopped) → slice_get w.clients session ≡ Some c → v ≡ record (with_client w session left) { rows = rows } → Makes (heal_on session (ahead Cells 0) c w.rows w.pairs) (c, w.rows) (left, rows) before after result → Makes (effect_of (step_under ahead w (event.Heal session))) w v before after result
heal_made w v session ahead c left rows before after result at is made =
    let whole : Client × List Row → State = λ p. record (with_client w session p.0) { rows = p.1 } in
    rw at (put_back _ whole (c, w.rows) (left, rows) w v before after result (same_client w session c at) is (by_fate _ _ (c, w.rows) (left, rows) before after result (heal_fate session ahead c w.rows w.pairs) made))

-- the step and the sweep's step tell the fate themselves
pub step_made : (w v : State) (session : ℕ) (ahead : Store → ℕ → Fate) (c left : Client) (rows : List Row) (pairs : Pairs) (before after : List Item) (result : Result Unit Stopped) → slice_get w.clients session ≡ Some c → v ≡ record (with_client w session left) { rows = rows; pairs = pairs } → Makes (step_on session (fate_ahead (step_asks c) ahead) c w.rows w.pairs) (c, w.rows, w.pairs) (left, rows, pairs) before after result → Makes (effect_of (step_under ahead w (event.Step session))) w v before after result
step_made w v session ahead c left rows pairs before after result at is made =
    let whole : StepParts → State = λ p. record (with_client w session p.0) { rows = p.1; pairs = p.2 } in
    rw at (put_back _ whole (c, w.rows, w.pairs) (left, rows, pairs) w v before after result (same_client w session c at) is made)
