-- For split_stores too.
-- What is found in the filled state where a part is lent, and what follows for facts of what is found there.
use Rattle.split_parts.proofs.Names.{◌≡◌, ℕ, zero, suc, ◌<◌, ◌≤◌, ◌↔◌, Bool, true, false, nat_lt, List, [], ◌∷◌, length}
use Rattle.split_parts.proofs.Names.{replicate, slice_set, Option, Some, None, refl, sym, ap, ◌∙◌, subst, arith}
use Rattle.split_parts.proofs.Names.{option_map, slice_index_or, IfSome, IsSomeAnd, IsTrue, if◌then◌else◌, looked}
use Rattle.split_parts.proofs.Names.{Sweeping, sweep_ask, InstanceEntry, Client, client_new, KeepsShadowNext, ClientAt}
use Rattle.split_parts.proofs.Names.{PostAt, HasNode, IsAsked, client_lent, post_by, session_at, Node, Parts, Session}
use Rattle.split_parts.proofs.Names.{client_or, filled, lent_clients, lent_nodes, setup_of}
use Rattle.std.proofs.Common.{slice_get}
use Rattle.std.proofs.lemmas.Option.{same_Some}
use Rattle.system_parts.specs.declared.asks.Ask.{Ask}
use Rattle.system_parts.specs.declared.asks.Ask.TheVariants as ask

-- ---- sessions
client_first : (s : Option Session) (d c : Client) → option_map (λ (own : Session). own.client) s ≡ Some c → Some (client_or s d) ≡ Some c
client_first None d c at = absurd (cc)
client_first (Some own) d c at = at

client_in : (n i : ℕ) (clients : List Client) (sessions : List (Option Session)) (c : Client) → i < n → i < length clients → option_map (λ (own : Session). own.client) (slice_index_or sessions i None) ≡ Some c → slice_get (lent_clients n clients sessions) i ≡ Some c
unfolding lent_clients
client_in zero i clients sessions c less within at = absurd (omega (arith, less))
client_in (suc n) i [] sessions c less within at = absurd (omega (arith, within))
client_in (suc n) i (d ∷ clients) [] c less within at = absurd (cc)
client_in (suc n) zero (d ∷ clients) (s ∷ sessions) c less within at = client_first s d c at
client_in (suc n) (suc i) (d ∷ clients) (s ∷ sessions) c less within at = client_in n i clients sessions c (omega (arith, less)) (omega (arith, within)) at

pub client_there : (l : Parts) (session : ℕ) (c : Client) → session < 16 → client_lent l session ≡ Some c → slice_get (filled l).clients session ≡ Some c
client_there l session c within at = client_in 16 session _ l.sessions c within within at

pub own_there : (l : Parts) (session : ℕ) (own : Session) → session < 16 → session_at l session ≡ Some own → slice_get (filled l).clients session ≡ Some own.client
own_there l session own within at = client_there l session own.client within (ap (option_map (λ (o : Session). o.client)) at)

-- ---- the node
node_in : (k i : ℕ) (post : Option InstanceEntry) → i < k → slice_get (slice_set (replicate k None) i post) i ≡ Some post
node_in zero i post within = absurd (omega (arith, within))
node_in (suc k) zero post within = refl
node_in (suc k) (suc i) post within = node_in k i post (omega (arith, within))

node_out : (k i : ℕ) (post : Option InstanceEntry) → k ≤ i → slice_get (slice_set (replicate k None) i post) i ≡ None
node_out zero i post past = refl
node_out (suc k) zero post past = absurd (omega (arith, past))
node_out (suc k) (suc i) post past = node_out k i post (omega (arith, past))

node_set_by : (k i : ℕ) (post : Option InstanceEntry) (within : Bool) → nat_lt i k ≡ within → slice_get (slice_set (replicate k None) i post) i ≡ (if within then Some post else None)
node_set_by k i post true is = node_in k i post (grind (arith, is))
node_set_by k i post false is = node_out k i post (grind (arith, is))

node_set : (k i : ℕ) (post : Option InstanceEntry) → slice_get (slice_set (replicate k None) i post) i ≡ (if nat_lt i k then Some post else None)
node_set k i post = node_set_by k i post (nat_lt i k) refl

node_by : (nodes : ℕ) (part : Option Node) (node : ℕ) → IsSomeAnd part (λ n. n.node ≡ node) → slice_get (lent_nodes (replicate nodes None) part) node ≡ post_by nodes part
node_by nodes None node has = absurd (has)
node_by nodes (Some n) node has = ap (λ i. slice_get (slice_set (replicate nodes None) n.node n.instance) i) (sym has) ∙ node_set nodes n.node n.instance

pub post_there : (l : Parts) (node : ℕ) → HasNode l node → slice_get (filled l).nodes node ≡ post_by l.plan.setup.nodes l.node
post_there l node has = node_by l.plan.setup.nodes l.node node has

-- ---- a fact of what is found there
-- of the client
pub of_client : (l : Parts) (session : ℕ) (c : Client) (R : Type 0) (P : Client → Type 0) → session < 16 → client_lent l session ≡ Some c → (R ↔ P c) → R ↔ ((d : Client) → ClientAt (filled l).clients session d → P d)
of_client l session c R P within at iff =
    let there = client_there l session c within at in
    (λ r d found. subst P (same_Some c d (sym there ∙ found)) (iff.0 r), λ all. iff.1 (all c there))

-- of the instance
pub of_post : (l : Parts) (node : ℕ) (post : Option InstanceEntry) (R : Type 0) (P : Option InstanceEntry → Type 0) → HasNode l node → post_by l.plan.setup.nodes l.node ≡ Some post → (R ↔ P post) → R ↔ ((p : Option InstanceEntry) → PostAt (filled l) node p → P p)
of_post l node post R P has at iff =
    let there = post_there l node has ∙ at in
    (λ r p found. subst P (same_Some post p (sym there ∙ found)) (iff.0 r), λ all. iff.1 (all post there))

-- of both
pub of_both : (l : Parts) (node session : ℕ) (post : Option InstanceEntry) (c : Client) (R : Type 0) (P : Option InstanceEntry → Client → Type 0) → session < 16 → HasNode l node → client_lent l session ≡ Some c → post_by l.plan.setup.nodes l.node ≡ Some post → (R ↔ P post c) → R ↔ ((p : Option InstanceEntry) (d : Client) → PostAt (filled l) node p → ClientAt (filled l).clients session d → P p d)
of_both l node session post c R P within has at there iff =
    let client = client_there l session c within at in
    let held = post_there l node has ∙ there in
    (λ r p d found met. subst (λ x. P p x) (same_Some c d (sym client ∙ met)) (subst (λ x. P x c) (same_Some post p (sym held ∙ found)) (iff.0 r)), λ all. iff.1 (all post c held client))

pub no_both : (l : Parts) (node session : ℕ) (P : Option InstanceEntry → Client → Type 0) → HasNode l node → post_by l.plan.setup.nodes l.node ≡ None → IsTrue true ↔ ((p : Option InstanceEntry) (d : Client) → PostAt (filled l) node p → ClientAt (filled l).clients session d → P p d)
no_both l node session P has none = (λ r p d found met. absurd (nothing_there (post_there l node has ∙ none) found), λ all. refl)
  where
    nothing_there : {T : Type 0} {a : Option T} {x : T} → a ≡ None → a ≡ Some x → ⊥
    nothing_there none some = absurd (cc)

-- the same, the client first
pub of_turned : (l : Parts) (node session : ℕ) (post : Option InstanceEntry) (c : Client) (R : Type 0) (P : Client → Option InstanceEntry → Type 0) → session < 16 → HasNode l node → client_lent l session ≡ Some c → post_by l.plan.setup.nodes l.node ≡ Some post → (R ↔ P c post) → R ↔ ((d : Client) (p : Option InstanceEntry) → ClientAt (filled l).clients session d → PostAt (filled l) node p → P d p)
of_turned l node session post c R P within has at there iff =
    let both = of_both l node session post c R (λ p d. P d p) within has at there iff in
    (λ r d p met found. both.0 r p d found met, λ all. both.1 (λ p d found met. all d p met found))

-- ---- no cell has a shadow where there are no cells
pub keeps_none : (asked : Option Ask) → KeepsShadowNext asked []
unfolding looked
keeps_none None = tt
keeps_none (Some (ask.Get txn)) = tt
keeps_none (Some (ask.Mark txn)) = tt
keeps_none (Some (ask.Look key txn)) = tt
keeps_none (Some (ask.Shadow key txn commit)) = tt
keeps_none (Some (ask.Remove txn)) = tt
keeps_none (Some (ask.Erase key txn)) = tt
keeps_none (Some (ask.Keys txn)) = tt

pub sweeps_none : (s : Option Sweeping) → IfSome s (λ x. KeepsShadowNext (sweep_ask x) [])
sweeps_none None = tt
sweeps_none (Some s) = keeps_none (sweep_ask s)

-- ---- no session is beyond the sixteenth
as_many : (n : ℕ) (clients : List Client) (sessions : List (Option Session)) → length (lent_clients n clients sessions) ≡ length clients
unfolding lent_clients
as_many zero clients sessions = refl
as_many (suc n) [] sessions = refl
as_many (suc n) (c ∷ clients) [] = refl
as_many (suc n) (c ∷ clients) (s ∷ sessions) = ap suc (as_many n clients sessions)

found_within : {X : Type 0} → (xs : List X) (i : ℕ) (x : X) → slice_get xs i ≡ Some x → i < length xs
found_within [] i x at = absurd (cc)
found_within (y ∷ ys) zero x at = omega (arith)
found_within (y ∷ ys) (suc i) x at = let less : i < length ys = found_within ys i x at in omega (arith, less)

pub asked_by_all : (l : Parts) (node : ℕ) → ((session : ℕ) → session < 16 → IsAsked (filled l) node session) → (session : ℕ) → IsAsked (filled l) node session
asked_by_all l node few session post d at there =
    let within = found_within (filled l).clients session d there in
    let sixteen = as_many 16 (replicate 16 (client_new (setup_of l).cache)) l.sessions in
    few session (omega (arith, within, sixteen)) post d at there
