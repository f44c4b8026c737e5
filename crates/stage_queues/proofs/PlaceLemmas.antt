-- For reply_pipeline too.
-- For those who hand out passes: where each stands in the list that the opening gives.
use Rattle.std.proofs.Common.{◌≡◌, ℕ, zero, suc, ◌+◌, ◌*◌, ◌<◌, List, [], ◌∷◌, ◌++◌, length, map, get_or, sym, ap, ◌∙◌, length-append, append_assoc, suc-mul, arith}
use Rattle.std.specs.Prelude.{None, Some, slice_get, flat_map}
use Rattle.std.specs.List.{range_with_len}
use Rattle.std.proofs.lemmas.Option.{same_Some}
use Rattle.std.proofs.lemmas.List.{get_or_append_left, get_or-append-add}
use Rattle.std.proofs.lemmas.List.Concat.{flat_map-cons}
use Rattle.std.proofs.lemmas.List.FromFn.{length-map-range_with_len, get_or-map-range_with_len}
use Rattle.stage_queues.specs.Plan.{NodeRings}
use Rattle.stage_queues.specs.Passes.{StageAccount}
use Rattle.stage_queues.specs.Opening.{reply_stage_part, stage_pass, worker_pass, session_pass, session_passes, node_passes, opened_passes}

pub length-node_passes : (nodes workers senders : ℕ) (rings : NodeRings) → length (node_passes nodes workers senders rings) ≡ workers + 2
length-node_passes nodes workers senders rings =
    let w = length-map-range_with_len (worker_pass nodes rings) 0 workers in
    omega (arith, w, length-append (map (worker_pass nodes rings) (range_with_len 0 workers)) (stage_pass nodes rings.node 0 (reply_stage_part workers rings) ∷ []))

-- the k-th of the lists that are made of the n-th, where each has so many
flat_map_at : {A B : Type 0} (f : A → List B) (len : ℕ) → ((x : A) → length (f x) ≡ len) → (xs : List A) (ys : List B) (n k : ℕ) (x : A) (d : B) → slice_get xs n ≡ Some x → k < len
    → get_or (flat_map f xs ++ ys) (n * len + k) d ≡ get_or (f x) k d
flat_map_at f len long [] ys n k x d at lt = absurd (let e : None ≡ Some x = at in cc)
flat_map_at f len long (y ∷ xs) ys zero k x d at lt =
    let l = long y in
    let place : zero * len + k ≡ k = omega arith in
    ap (λ z. get_or (z ++ ys) (zero * len + k) d) (flat_map-cons f y xs) ∙ ap (λ z. get_or z (zero * len + k) d) (append_assoc (f y) (flat_map f xs) ys) ∙ ap (λ i. get_or (f y ++ (flat_map f xs ++ ys)) i d) place
    ∙ get_or_append_left (f y) (flat_map f xs ++ ys) d k (omega arith) ∙ ap (λ z. get_or (f z) k d) (same_Some y x at)
flat_map_at f len long (y ∷ xs) ys (suc n) k x d at lt =
    let l = long y in
    let m = suc-mul n len in
    let place : suc n * len + k ≡ length (f y) + (n * len + k) = omega (arith, m, l) in
    ap (λ z. get_or (z ++ ys) (suc n * len + k) d) (flat_map-cons f y xs) ∙ ap (λ z. get_or z (suc n * len + k) d) (append_assoc (f y) (flat_map f xs) ys) ∙ ap (λ i. get_or (f y ++ (flat_map f xs ++ ys)) i d) place
    ∙ get_or-append-add (f y) (flat_map f xs ++ ys) (n * len + k) d ∙ flat_map_at f len long xs ys n k x d at lt

-- the k-th pass of a node
pub node_place : (nodes workers senders : ℕ) (rings : List NodeRings) (node k : ℕ) (r : NodeRings) (d : StageAccount) → slice_get rings node ≡ Some r → k < workers + 2
    → get_or (opened_passes nodes workers senders rings) (node * (workers + 2) + k) d ≡ get_or (node_passes nodes workers senders r) k d
node_place nodes workers senders rings node k r d at lt = flat_map_at (node_passes nodes workers senders) (workers + 2) (length-node_passes nodes workers senders) rings (session_passes senders rings) node k r d at lt

-- of a node's passes the first is the request stage's, then come the workers', and the last is the reply stage's
pub worker_place : (nodes workers senders worker : ℕ) (r : NodeRings) (d : StageAccount) → worker < workers → get_or (node_passes nodes workers senders r) (1 + worker) d ≡ worker_pass nodes r worker
worker_place nodes workers senders worker r d lt =
    let list = map (worker_pass nodes r) (range_with_len 0 workers) in
    let place : 1 + worker ≡ suc worker = omega arith in
    ap (λ i. get_or (node_passes nodes workers senders r) i d) place ∙ get_or_append_left list (stage_pass nodes r.node 0 (reply_stage_part workers r) ∷ []) d worker (omega (arith, length-map-range_with_len (worker_pass nodes r) 0 workers))
    ∙ get_or-map-range_with_len (worker_pass nodes r) 0 workers worker worker d lt (omega arith)

pub reply_place : (nodes workers senders : ℕ) (r : NodeRings) (d : StageAccount) → get_or (node_passes nodes workers senders r) (1 + workers) d ≡ stage_pass nodes r.node 0 (reply_stage_part workers r)
reply_place nodes workers senders r d =
    let list = map (worker_pass nodes r) (range_with_len 0 workers) in
    let last = stage_pass nodes r.node 0 (reply_stage_part workers r) ∷ [] in
    let place : 1 + workers ≡ suc (length list + 0) = omega (arith, length-map-range_with_len (worker_pass nodes r) 0 workers) in
    ap (λ i. get_or (node_passes nodes workers senders r) i d) place ∙ get_or-append-add list last 0 d

length-opened : (nodes workers senders : ℕ) (rings : List NodeRings) → length (flat_map (node_passes nodes workers senders) rings) ≡ length rings * (workers + 2)
length-opened nodes workers senders [] = omega arith
length-opened nodes workers senders (r ∷ rings) =
    let m = suc-mul (length rings) (workers + 2) in
    let l = length-node_passes nodes workers senders r in
    let rest = length-opened nodes workers senders rings in
    ap length (flat_map-cons (node_passes nodes workers senders) r rings) ∙ length-append (node_passes nodes workers senders r) (flat_map (node_passes nodes workers senders) rings) ∙ omega (arith, m, l, rest)

pub session_place : (nodes workers senders : ℕ) (rings : List NodeRings) (sender : ℕ) (d : StageAccount) → sender < senders
    → get_or (opened_passes nodes workers senders rings) (length rings * (workers + 2) + sender) d ≡ session_pass rings sender
session_place nodes workers senders rings sender d lt =
    let list = flat_map (node_passes nodes workers senders) rings in
    let place : length rings * (workers + 2) + sender ≡ length list + sender = ap (λ n. n + sender) (sym (length-opened nodes workers senders rings)) in
    ap (λ i. get_or (opened_passes nodes workers senders rings) i d) place ∙ get_or-append-add list (session_passes senders rings) sender d ∙ get_or-map-range_with_len (session_pass rings) 0 senders sender sender d lt (omega arith)
