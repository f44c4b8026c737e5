-- What events make of a session's client, for what is left of a run.
use Rattle.command_semantics.proofs.Names.{◌≡◌, ℕ, ◌+◌, ◌≤◌, Bool, true, false, List, [], ◌∷◌, ◌++◌, Option, Some, None}
use Rattle.command_semantics.proofs.Names.{refl, ap, arith, length, slice_get, slice_set}
use Rattle.command_semantics.proofs.Names.{finish_asks, undo_asks, has_key, key_added, Request}
use Rattle.command_semantics.proofs.Names.{Client, State, client_aborted}
use Rattle.command_semantics.proofs.Names.{client_handed, client_committed, unless_gone, after_refusal}
use Rattle.command_semantics.proofs.Names.{Step, at_client, set_found, keys_of, of_client}
use Rattle.command_semantics.proofs.Names.{client_completes, client_ends, client_settles}
use Rattle.std.specs.Prelude.{if◌then◌else◌}

-- ---- a client that is set is found
pub client_now : (clients : List Client) (s : ℕ) (old now : Client) (f : Client → ℕ) → slice_get clients s ≡ Some old → of_client (slice_get (slice_set clients s now) s) f ≡ f now
client_now clients s old now f at = ap (λ (found : Option Client). of_client found f) (set_found clients s now old at)

-- an event on a client leaves the client that it makes
pub client_left : (w : State) (s : ℕ) (f : Client → Step) (make : Client → Client) (g : Client → ℕ) (c : Client) → slice_get w.clients s ≡ Some c → (f c).state.clients ≡ slice_set w.clients s (make c) → of_client (slice_get (at_client w (slice_get w.clients s) f).state.clients s) g ≡ g (make c)
client_left w s f make g c at is = grind (arith, client_now)

-- and none where there is none
pub no_client_left : (w : State) (s : ℕ) (f : Client → Step) (g : Client → ℕ) → slice_get w.clients s ≡ None → of_client (slice_get (at_client w (slice_get w.clients s) f).state.clients s) g ≡ 0
no_client_left w s f g at = grind arith

-- ---- how long completions are
pub undo_long : (t : ℕ) (keys : List ℕ) → length (undo_asks t keys) ≡ length keys
undo_long t [] = refl
undo_long t (k ∷ ks) = omega (arith, undo_long t ks)

pub finish_long : (t commit : ℕ) (keys : List ℕ) → length (finish_asks t commit keys) ≡ length keys + 1
finish_long t commit [] = refl
finish_long t commit (k ∷ ks) = omega (arith, finish_long t commit ks)

pub aborted_left : (c : Client) → client_completes (client_aborted c) ≤ keys_of c
aborted_left c = grind (arith, undo_long)

pub committed_left : (c : Client) (commit : ℕ) → client_completes (client_committed c commit) ≤ keys_of c + 1
committed_left c commit = grind (arith, finish_long)

-- ---- how much a placing leaves, with what follows it
pub settles_most : (c : Client) → client_settles c ≤ client_ends c
settles_most c = grind arith

pub settles_within : (found : Option Client) → of_client found client_settles ≤ of_client found client_ends
settles_within found = grind (arith, settles_most)

pub handed_left : (c : Client) (commit : ℕ) → client_settles (client_handed c commit) ≤ keys_of c + 2
handed_left c commit = grind arith

-- a session that has vanished hears nothing
pub heard_left : (c now : Client) → client_completes now ≤ keys_of c + 1 → client_completes (unless_gone c now) ≤ client_ends c
heard_left c now less = grind arith

pub heard_settles : (c now : Client) → client_settles now ≤ keys_of c + 2 → client_settles (unless_gone c now) ≤ client_ends c
heard_settles c now less = grind (arith, settles_most)

pub refused_left : (request : Request) (c : Client) → client_completes (after_refusal request c) ≤ client_ends c
refused_left request c = grind (arith, heard_left, aborted_left)

-- a write adds a key at most
added_by : (keys : List ℕ) (key : ℕ) (has : Bool) → length (if has then keys else keys ++ key ∷ []) ≤ length keys + 1
added_by keys key true = omega arith
added_by [] key false = omega arith
added_by (k ∷ ks) key false = omega (arith, added_by ks key false)

pub added_long : (keys : List ℕ) (key : ℕ) → length (key_added keys key) ≤ length keys + 1
added_long keys key = added_by keys key (has_key keys key)
