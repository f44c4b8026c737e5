-- One session after the other is swapped with the engine's.
use Rattle.split_parts.proofs.Names.{◌≡◌, ℕ, ◌+◌, ◌<◌, List, length, slice_set, Option, Some, None, refl, ap, ◌∙◌}
use Rattle.split_parts.proofs.Names.{arith, slice_index_or, Client, State, Session, given_client, given_sessions}
use Rattle.split_parts.proofs.Names.{lent_clients}
use Rattle.split_parts.specs.Swaps.{client_at, client_in}
use Rattle.split_parts.proofs.Handing.{clients_in, one_client, one_session}

in_clients : (w : State) (n : ℕ) (clients : List Client) (s : Option Session) → client_in (record w { clients = clients }) n s ≡ record w { clients = clients_in clients n s }
in_clients w n clients None = refl
in_clients w n clients (Some c) = refl

pub clients_next : (w now next : State) (n : ℕ) (sessions left : List (Option Session)) → n < length w.clients → n < length sessions → now ≡ record w { clients = lent_clients n w.clients sessions } → left ≡ given_sessions n sessions w.clients → next ≡ client_in now n (slice_index_or left n None) → next ≡ record w { clients = lent_clients (n + 1) w.clients sessions }
clients_next w now next n sessions left within there is were swapped =
    swapped
    ∙ (λ k. client_in (is k) n (slice_index_or (were k) n None))
    ∙ in_clients w n (lent_clients n w.clients sessions) (slice_index_or (given_sessions n sessions w.clients) n None)
    ∙ ap (λ (cs : List Client). record w { clients = cs }) (one_client n w.clients sessions within there)
    ∙ ap (λ m. record w { clients = lent_clients m w.clients sessions }) (omega arith)

pub sessions_next : (w now : State) (n : ℕ) (sessions left next : List (Option Session)) → n < length w.clients → n < length sessions → now ≡ record w { clients = lent_clients n w.clients sessions } → left ≡ given_sessions n sessions w.clients → next ≡ slice_set left n (given_client (slice_index_or left n None) (client_at now n)) → next ≡ given_sessions (n + 1) sessions w.clients
sessions_next w now n sessions left next within there is were swapped =
    swapped
    ∙ (λ k. slice_set (were k) n (given_client (slice_index_or (were k) n None) (client_at (is k) n)))
    ∙ one_session n w.clients sessions within there
    ∙ ap (λ m. given_sessions m sessions w.clients) (omega arith)
