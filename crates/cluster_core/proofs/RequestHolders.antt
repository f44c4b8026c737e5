-- For this crate's own proofs.
-- The nodes are looked at one after the other for a request of the session.
use Rattle.cluster_core.proofs.Names.{◌≡◌, ℕ, Bool, ◌+◌, ◌<◌, ◌≤◌, List, length, get_or, drop, Option, Some, None, refl}
use Rattle.cluster_core.proofs.Names.{sym, ap, drop_more, drop_all, Held, InstanceEntry, held_at, holder_from}
use Rattle.cluster_core.proofs.Names.{first_holder}
use Rattle.system_parts.specs.declared.instance.Place.{Place}
use Rattle.cluster_core.specs.Holders.{standing_held, standing_of}

-- from the node that is looked at on
pub holder_here : (posts : List (Option InstanceEntry)) (session i : ℕ) (post : Option InstanceEntry) → i < length posts → post ≡ get_or posts i post → holder_from i (drop i posts) session ≡ first_holder i (held_at post session) (holder_from (i + 1) (drop (i + 1) posts) session)
unfolding holder_from
holder_here posts session i post within is = rw (drop_more posts i post within, sym is) refl

-- it holds none
pub holder_later : (i : ℕ) (held : Option Held) (later : Option (ℕ × Held)) → None ≡ standing_of held → first_holder i held later ≡ later
holder_later i None later none = refl
holder_later i (Some held) later none = absurd (cc)

-- it holds one
with_node : ℕ → Option (Place × Bool) → Option (ℕ × Place × Bool)
with_node i None = None
with_node i (Some standing) = Some (i, standing.0, standing.1)

pub holder_found : (i : ℕ) (held : Option Held) (later : Option (ℕ × Held)) (place : Place) (commit : Bool) → Some (place, commit) ≡ standing_of held → Some (i, place, commit) ≡ standing_held (first_holder i held later)
unfolding with_node
holder_found i None later place commit has = absurd (cc)
holder_found i (Some held) later place commit has = ap (with_node i) has

-- behind the last node there is none
pub none_behind : (posts : List (Option InstanceEntry)) (session i : ℕ) → length posts ≤ i → holder_from i (drop i posts) session ≡ None
unfolding holder_from
none_behind posts session i past = rw (drop_all i posts past) refl
