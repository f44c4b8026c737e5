-- For this crate's own proofs.
-- What an event makes of its parts is a step of the whole, once the parts are put back.
use Rattle.cluster_core.proofs.Names.{◌≡◌, ℕ, ◌<◌, ◌≤◌, max, List, append-nil, length, get_or, Option, Some, None}
use Rattle.cluster_core.proofs.Names.{Result, Ok, Err, inl, inr, refl, sym, ap, ◌∙◌, arith, set-get_or, slice_get_read}
use Rattle.cluster_core.proofs.Names.{get_or_from_slice_get, slice_get_cases, Store, Fate, Item, InstanceEntry, Client}
use Rattle.cluster_core.proofs.Names.{State, Effect, step_by, nothing, with_post, with_client, Leaves, Makes, AsksNone}
use Rattle.cluster_core.proofs.Names.{Stopped, Refused, StoreFault, NoMemory, seen_made, effect_of}
use Rattle.std.proofs.Common.{slice_get, slice_set}

pub put_back : {P : Type 0} → (effect : Effect P) (whole : P → State) (old now : P) (w v : State) (before after : List Item) (result : Result Unit Stopped) → whole old ≡ w → v ≡ whole now → Makes effect old now before after result → Makes (effect_of (step_by effect whole)) w v before after result
put_back effect whole old now w v before after (Ok _) at is made = record { parts = is ∙ ap whole made.parts; items = made.items; stop = made.stop }
put_back effect whole old now w v before after (Err (Refused why)) at is made = record { parts = is ∙ ap whole made.parts; items = made.items; stop = made.stop }
put_back effect whole old now w v before after (Err (StoreFault store)) at is made = record { parts = is ∙ ap whole made.parts; items = made.items; stop = made.stop }
put_back effect whole old now w v before after (Err NoMemory) at is made = (is ∙ (ap whole made.0 ∙ at), made.1)

-- the same with a reading that the event hands in
pub put_back_seen : {P : Type 0} → (effect : Effect P) (whole : ℕ → P → State) (old now : P) (w v : State) (seen reading : ℕ) (before after : List Item) (result : Result Unit Stopped) → whole seen old ≡ w → v ≡ whole (seen_made seen reading result) now → Makes effect old now before after result → Makes (effect_of (step_by effect (whole (max seen reading)))) w v before after result
put_back_seen effect whole old now w v seen reading before after (Ok _) at is made = record { parts = is ∙ ap (whole (max seen reading)) made.parts; items = made.items; stop = made.stop }
put_back_seen effect whole old now w v seen reading before after (Err (Refused why)) at is made = record { parts = is ∙ ap (whole (max seen reading)) made.parts; items = made.items; stop = made.stop }
put_back_seen effect whole old now w v seen reading before after (Err (StoreFault store)) at is made = record { parts = is ∙ ap (whole (max seen reading)) made.parts; items = made.items; stop = made.stop }
put_back_seen effect whole old now w v seen reading before after (Err NoMemory) at is made = (is ∙ (ap (whole seen) made.0 ∙ at), made.1)

-- an event that names no node of the system
pub nothing_made : (w : State) (before : List Item) → Leaves (effect_of (nothing w)) w before before None
nothing_made w before = record { parts = refl; items = sym (append-nil before); stop = refl }

pub nothing_asked : (ahead : Store → ℕ → Fate) (faults : ℕ) → AsksNone ahead ahead faults faults
nothing_asked ahead faults = record { kept = λ store n. refl; counted = refl }

-- ---- looking up
-- an element that was read where it stands
pub found : {X : Type 0} → (xs : List X) (i j : ℕ) (x : X) → j ≡ i → i < length xs → x ≡ get_or xs j x → slice_get xs i ≡ Some x
found xs i j x same within is = slice_get_read xs (length xs) i x refl within (rw same at is)

pub missing : {X : Type 0} → (xs : List X) (i : ℕ) → length xs ≤ i → slice_get xs i ≡ None
missing xs i past = elim (slice_get_cases xs i).1 [
  | inl within ↦ absurd (omega (arith, past, within.1))
  | inr out ↦ out.1
]

-- what is put back where it stood changes nothing
same_put : {X : Type 0} → (xs : List X) (i : ℕ) (x : X) → slice_get xs i ≡ Some x → slice_set xs i x ≡ xs
same_put xs i x at = ap (λ y. slice_set xs i y) (sym (get_or_from_slice_get xs i x x at)) ∙ set-get_or xs i x

pub same_post : (w : State) (node : ℕ) (post : Option InstanceEntry) → slice_get w.nodes node ≡ Some post → with_post w node post ≡ w
same_post w node post at = ap (λ (nodes : List (Option InstanceEntry)). record w { nodes = nodes }) (same_put w.nodes node post at)

pub same_client : (w : State) (session : ℕ) (c : Client) → slice_get w.clients session ≡ Some c → with_client w session c ≡ w
same_client w session c at = ap (λ (clients : List Client). record w { clients = clients }) (same_put w.clients session c at)

pub same_both : (w : State) (node session : ℕ) (post : Option InstanceEntry) (c : Client) → slice_get w.nodes node ≡ Some post → slice_get w.clients session ≡ Some c → with_client (with_post w node post) session c ≡ w
same_both w node session post c at there = same_client (with_post w node post) session c there ∙ same_post w node post at
