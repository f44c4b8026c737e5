-- Parts that are not lent to an event are parts of the state after it.
use Rattle.std.proofs.Common.{arith, ◌≡◌, ℕ, zero, suc, List, [], ◌∷◌, length, drop, get_or, Option, None, refl, ap}
use Rattle.std.specs.Prelude.{IsSome, slice_index_or}
use Rattle.std.proofs.lemmas.List.{get_or-set_other, length-set}
use Rattle.system_parts.specs.Instance.{InstanceEntry}
use Rattle.machine.specs.State.{Client, State}
use Rattle.machine.proofs.PartsKept.{clients_stay, leaves_parts}
use Rattle.split_parts.specs.Parts.{Node, Parts, Session, client_or, given_client, given_from, given_node, given_sessions, lent_clients, lent_nodes, with_lent}
use Rattle.part_laws.specs.Local.{AreApart, AreOf, OthersStay}
use Rattle.part_laws.proofs.EventsLocal.{events}

-- ---- sessions
first_lent : (s : Option Session) (d : Client) → IsSome (given_client s d) → IsSome s
first_lent s d is = grind arith

-- none is lent that was not
lent_still : (n i : ℕ) (sessions : List (Option Session)) (now : List Client) → IsSome (slice_index_or (given_sessions n sessions now) i None) → IsSome (slice_index_or sessions i None)
unfolding given_sessions
lent_still zero i sessions now is = is
lent_still (suc n) i [] now is = is
lent_still (suc n) i (s ∷ ss) [] is = is
lent_still (suc n) zero (s ∷ ss) (d ∷ ds) is = first_lent s d is
lent_still (suc n) (suc i) (s ∷ ss) (d ∷ ds) is = lent_still n i ss ds is

first_other : (s o : Option Session) (c : Client) → (IsSome s → IsSome o → ⊥) → given_client o c ≡ o → given_client o (client_or s c) ≡ o
first_other s o c apart of = grind arith

sessions_other : (n : ℕ) (clients : List Client) (sessions others : List (Option Session)) → ((i : ℕ) → IsSome (slice_index_or sessions i None) → IsSome (slice_index_or others i None) → ⊥) → given_sessions n others clients ≡ others → given_sessions n others (lent_clients n clients sessions) ≡ others
unfolding lent_clients given_sessions
sessions_other zero clients sessions others apart of = refl
sessions_other (suc n) clients sessions [] apart of = refl
sessions_other (suc n) [] sessions (o ∷ os) apart of = refl
sessions_other (suc n) (c ∷ cs) [] (o ∷ os) apart of = of
sessions_other (suc n) (c ∷ cs) (s ∷ ss) (o ∷ os) apart of =
    λ k. first_other s o c (apart 0) (ap (λ l. get_or l 0 None) of) k ∷ sessions_other n cs ss os (λ i. apart (suc i)) (ap (λ l. drop 1 l) of) k

-- ---- a node
as_many : (nodes now : List (Option InstanceEntry)) (part : Option Node) → length (lent_nodes nodes (given_node now part)) ≡ length nodes
as_many nodes now part = grind (arith, length-set)

-- ---- all parts
given_apart : (w now : State) (l others : Parts) → AreOf others w → AreApart l others → given_from others (with_lent w (given_from l now)) ≡ others
given_apart w now l others of apart = grind (arith, sessions_other, lent_still, get_or-set_other)

-- the next state is put together of the old one and of what the event leaves of its parts
pub others_stay : OthersStay
others_stay w l others e fate of has other apart =
    grind (arith, events, leaves_parts, as_many, given_apart, clients_stay)
