-- For this crate's own proofs.
-- Each kind of event, by the parts that it touches: the parts are looked up, and put back.
use Rattle.cluster_core.proofs.Names.{◌≡◌, ℕ, List, Option, Some, Result, refl, Item, Sweeping, InstanceEntry, Client}
use Rattle.cluster_core.proofs.Names.{State, Effect, with_post, with_client, with_reading, on_clients, on_ask}
use Rattle.cluster_core.proofs.Names.{on_request, on_client, on_sweep, Makes, Stopped, seen_made, effect_of}
use Rattle.std.proofs.Common.{slice_get}
use Rattle.cluster_core.proofs.PutBack.{put_back, put_back_seen, same_post, same_client, same_both}

-- a node and all clients
pub clients_made : (w v : State) (node : ℕ) (post now : Option InstanceEntry) (clients : List Client) (f : Option InstanceEntry → Effect (Option InstanceEntry × List Client)) (before after : List Item) (result : Result Unit Stopped) → slice_get w.nodes node ≡ Some post → v ≡ record (with_post w node now) { clients = clients } → Makes (f post) (post, w.clients) (now, clients) before after result → Makes (effect_of (on_clients w node f)) w v before after result
clients_made w v node post now clients f before after result at is made =
    rw at (put_back (f post) (λ p. record (with_post w node p.0) { clients = p.1 }) (post, w.clients) (now, clients) w v before after result (same_post w node post at) is made)

-- a client, and the node that it asks
pub ask_made : (w v : State) (session node : ℕ) (c left : Client) (post now : Option InstanceEntry) (f : Client → Option InstanceEntry → Effect (Client × Option InstanceEntry)) (before after : List Item) (result : Result Unit Stopped) → slice_get w.nodes node ≡ Some post → slice_get w.clients session ≡ Some c → v ≡ with_client (with_post w node now) session left → Makes (f c post) (c, post) (left, now) before after result → Makes (effect_of (on_ask w session node f)) w v before after result
ask_made w v session node c left post now f before after result at there is made =
    rw (at, there) (put_back (f c post) (λ p. with_client (with_post w node p.1) session p.0) (c, post) (left, now) w v before after result (same_both w node session post c at there) is made)

-- a node, and the client whose request it serves
pub request_made : (w v : State) (node session : ℕ) (post now : Option InstanceEntry) (c left : Client) (f : Option InstanceEntry → Client → Effect (Option InstanceEntry × Client)) (before after : List Item) (result : Result Unit Stopped) → slice_get w.nodes node ≡ Some post → slice_get w.clients session ≡ Some c → v ≡ with_client (with_post w node now) session left → Makes (f post c) (post, c) (now, left) before after result → Makes (effect_of (on_request w node session f)) w v before after result
request_made w v node session post now c left f before after result at there is made =
    rw (at, there) (put_back (f post c) (λ p. with_client (with_post w node p.0) session p.1) (post, c) (now, left) w v before after result (same_both w node session post c at there) is made)

-- the same at a reading
pub accept_made : (w v : State) (node session reading : ℕ) (post now : Option InstanceEntry) (c left : Client) (f : Option InstanceEntry → Client → Effect (Option InstanceEntry × Client)) (before after : List Item) (result : Result Unit Stopped) → slice_get w.nodes node ≡ Some post → slice_get w.clients session ≡ Some c → v ≡ record (with_client (with_post w node now) session left) { seen = seen_made w.seen reading result } → Makes (f post c) (post, c) (now, left) before after result → Makes (effect_of (on_request (with_reading w reading) node session f)) w v before after result
accept_made w v node session reading post now c left f before after result at there is made =
    rw (at, there) (put_back_seen (f post c) (λ seen p. record (with_client (with_post w node p.0) session p.1) { seen = seen }) (post, c) (now, left) w v w.seen reading before after result (same_both w node session post c at there) is made)

-- a client alone
pub client_made : (w v : State) (session : ℕ) (c left : Client) (f : Client → Effect Client) (before after : List Item) (result : Result Unit Stopped) → slice_get w.clients session ≡ Some c → v ≡ with_client w session left → Makes (f c) c left before after result → Makes (effect_of (on_client w session f)) w v before after result
client_made w v session c left f before after result at is made =
    rw at (put_back (f c) (λ p. with_client w session p) c left w v before after result (same_client w session c at) is made)

-- the sweep, and a node's instance, which stays
pub sweep_made : (w v : State) (node : ℕ) (post : Option InstanceEntry) (sweep : Option Sweeping) (f : Option InstanceEntry → Effect (Option Sweeping)) (before after : List Item) (result : Result Unit Stopped) → slice_get w.nodes node ≡ Some post → v ≡ record w { sweep = sweep } → Makes (f post) w.sweep sweep before after result → Makes (effect_of (on_sweep w node f)) w v before after result
sweep_made w v node post sweep f before after result at is made =
    rw at (put_back (f post) (λ p. record w { sweep = p }) w.sweep sweep w v before after result refl is made)
