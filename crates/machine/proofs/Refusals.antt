-- For turn_rules too.
-- A refusal that leaves all: what an effect has to leave of its parts, and what it is of the whole once they are put back.
use Rattle.machine.proofs.Names.{◌≡◌, ℕ, zero, suc, IsTrue, List, [], ◌∷◌, Option, Some, None, refl, sym, ◌∙◌, ap}
use Rattle.machine.proofs.Names.{subst, slice_get, slice_set, same_Some, Store, Cause, Actor, Item, Refused}
use Rattle.machine.proofs.Names.{InstanceEntry, Client, State, Refuses, Faults, Effect, done, refused, Step, step_by}
use Rattle.machine.proofs.Names.{nothing, with_post, with_client, leaves_all, TellsAlone}

-- ---- of parts
abbrev pub LeavesAll : {P : Type 0} → P → Effect P → Type 0
LeavesAll old e = (why : Cause) → e.stop ≡ Some (Refuses why) → IsTrue (leaves_all why) → (e.parts ≡ old) × TellsAlone why e.items

-- an event that asks no store: a refusal that leaves all does, and no store fails
pub record Plain {P : Type 0} (old : P) (e : Effect P) : Type 0 where
  pub leaves : LeavesAll old e
  pub works : (store : Store) → e.stop ≡ Some (Faults store) → ⊥

pub plain_done : {P : Type 0} (old parts : P) (items : List Item) → Plain old (done parts items)
plain_done old parts items = record { leaves = λ why stop is. absurd (cc); works = λ store stop. absurd (cc) }

pub refusal_leaves : {P : Type 0} (old : P) (actor : Actor) (cause : Cause) → LeavesAll old (refused old actor cause)
refusal_leaves old actor cause why stop is = let same : cause ≡ why = cc in (refl, (actor, ap (λ (c : Cause). Refused actor c ∷ []) same))

pub plain_refused : {P : Type 0} (old : P) (actor : Actor) (cause : Cause) → Plain old (refused old actor cause)
plain_refused old actor cause = record { leaves = refusal_leaves old actor cause; works = λ store stop. absurd (cc) }

-- a refusal that may change all
pub ending_leaves : {P : Type 0} (old : P) (e : Effect P) (cause : Cause) → e.stop ≡ Some (Refuses cause) → (IsTrue (leaves_all cause) → ⊥) → LeavesAll old e
ending_leaves old e cause stops ends why stop is = let same : why ≡ cause = cc in absurd (ends (subst (λ (c : Cause). IsTrue (leaves_all c)) same is))

pub plain_ending : {P : Type 0} (old : P) (e : Effect P) (cause : Cause) → e.stop ≡ Some (Refuses cause) → (IsTrue (leaves_all cause) → ⊥) → Plain old e
plain_ending old e cause stops ends = record { leaves = ending_leaves old e cause stops ends; works = λ store stop. absurd (cc) }

pub fault_leaves : {P : Type 0} (old : P) (e : Effect P) (store : Store) → e.stop ≡ Some (Faults store) → LeavesAll old e
fault_leaves old e store fails why stop is = absurd (cc)

pub going_leaves : {P : Type 0} (old : P) (e : Effect P) → e.stop ≡ None → LeavesAll old e
going_leaves old e goes why stop is = absurd (cc)

-- ---- of the whole
abbrev pub AllLeft : State → Step → Type 0
AllLeft w s = (why : Cause) → s.stop ≡ Some (Refuses why) → IsTrue (leaves_all why) → (s.state ≡ w) × TellsAlone why s.items

pub nothing_left : (w : State) → AllLeft w (nothing w)
nothing_left w why stop is = absurd (cc)

pub put_left : {P : Type 0} (w : State) (old : P) (whole : P → State) (e : Effect P) → whole old ≡ w → LeavesAll old e → AllLeft w (step_by e whole)
put_left w old whole e same leaves why stop is = let left = leaves why stop is in (ap whole left.0 ∙ same, left.1)

-- setting what is there changes nothing
pub set_same : {X : Type 0} (xs : List X) (p : ℕ) (x : X) → slice_get xs p ≡ Some x → slice_set xs p x ≡ xs
set_same [] p x there = absurd (cc)
set_same (y ∷ ys) zero x there = ap (λ z. z ∷ ys) (sym (same_Some y x there))
set_same (y ∷ ys) (suc p) x there = ap (λ zs. y ∷ zs) (set_same ys p x there)

pub same_post : (w : State) (node : ℕ) (post : Option InstanceEntry) → slice_get w.nodes node ≡ Some post → with_post w node post ≡ w
same_post w node post there = ap (λ (nodes : List (Option InstanceEntry)). record w { nodes = nodes }) (set_same w.nodes node post there)

pub same_client : (w : State) (session : ℕ) (c : Client) → slice_get w.clients session ≡ Some c → with_client w session c ≡ w
same_client w session c there = ap (λ (clients : List Client). record w { clients = clients }) (set_same w.clients session c there)

pub same_both : (w : State) (node session : ℕ) (post : Option InstanceEntry) (c : Client) → slice_get w.nodes node ≡ Some post → slice_get w.clients session ≡ Some c → with_client (with_post w node post) session c ≡ w
same_both w node session post c posted there = ap (λ (v : State). with_client v session c) (same_post w node post posted) ∙ same_client w session c there
