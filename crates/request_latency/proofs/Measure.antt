-- How many turns are left to the requests of a session, at an instance and at all nodes.
use Rattle.std.proofs.Common.{◌≡◌, ◌≢◌, ℕ, zero, suc, ◌+◌, ◌≤◌, ◌==◌, Bool, true, false, cond, List, [], ◌∷◌, length, Option, Some, None, inl, inr, refl, sym, ap, subst, arith}
use Rattle.std.specs.Prelude.{slice_get, slice_set, replicate}
use Rattle.std.proofs.lemmas.Bool.{cases_lt, eqb-true, eqb-false}
use Rattle.std.proofs.lemmas.List.{get_or-set_same, get_or-set_other, get_or_past, set_past}
use Rattle.std.proofs.lemmas.Option.{same_Some, none-some}
use Rattle.system_parts.specs.declared.instance.Held.{Held}
use Rattle.system_parts.specs.Instance.{InstanceEntry, held_of, with_request}
use Rattle.machine.specs.Readers.{held_at}
use Rattle.isolation_laws.proofs.Inversions.InversionSound.{found_copy}
use Rattle.request_latency.specs.Latency.{turns_left}

abbrev pub held_left : Option Held → ℕ
held_left None = 0
held_left (Some held) = turns_left held

abbrev pub post_left : ℕ → Option InstanceEntry → ℕ
post_left s post = held_left (held_at post s)

unfoldable pub nodes_left : ℕ → List (Option InstanceEntry) → ℕ
nodes_left s [] = 0
nodes_left s (post ∷ posts) = post_left s post + nodes_left s posts

-- a number that counts for the session r alone
abbrev pub for_own : ℕ → ℕ → ℕ → ℕ
for_own s r n = cond (r == s) n 0

-- ---- one request is set
set_here : (i : InstanceEntry) (s : ℕ) (now : Option Held) (a b : ℕ) → held_left now + a ≤ held_left (held_of i s) + b → held_left (held_of (with_request i s now) s) + a ≤ held_left (held_of i s) + b
set_here i s now a b less = elim (cases_lt s (length i.requests)) [
  | inl within ↦ subst (λ (found : Option Held). held_left found + a ≤ held_left (held_of i s) + b) (sym (get_or-set_same i.requests s now None within)) less
  | inr past ↦ let none : held_of i s ≡ None = get_or_past i.requests s None past in
      let kept : held_of (with_request i s now) s ≡ held_of i s = ap (λ (requests : List (Option Held)). held_of (record i { requests = requests }) s) (set_past i.requests s now past) in
      let zero_left : held_left (held_of i s) ≡ 0 = ap held_left none in
      let same : held_left (held_of (with_request i s now) s) ≡ held_left (held_of i s) = ap held_left kept in
      omega (arith, less, zero_left, same)
]

set_by : (i : InstanceEntry) (r s a b : ℕ) (now : Option Held) (own : Bool) → (r == s) ≡ own → held_left now + a ≤ held_left (held_of i r) + b → held_left (held_of (with_request i r now) s) + cond own a 0 ≤ held_left (held_of i s) + cond own b 0
set_by i r s a b now true is less =
    let same : r ≡ s = eqb-true r s is in
    subst (λ (q : ℕ). held_left (held_of (with_request i r now) q) + a ≤ held_left (held_of i q) + b) same (set_here i r now a b less)
set_by i r s a b now false is less =
    let kept : held_of (with_request i r now) s ≡ held_of i s = get_or-set_other i.requests r s now None (λ same. eqb-false r s is (sym same)) in
    let same : held_left (held_of (with_request i r now) s) ≡ held_left (held_of i s) = ap held_left kept in
    omega (arith, same)

pub request_set : (i : InstanceEntry) (r s a b : ℕ) (now : Option Held) → held_left now + a ≤ held_left (held_of i r) + b → held_left (held_of (with_request i r now) s) + for_own s r a ≤ held_left (held_of i s) + for_own s r b
request_set i r s a b now less = set_by i r s a b now (r == s) refl less

-- ---- one node is set
pub nodes_set : (s : ℕ) (nodes : List (Option InstanceEntry)) (n a b : ℕ) (post now : Option InstanceEntry) → slice_get nodes n ≡ Some post → post_left s now + a ≤ post_left s post + b → nodes_left s (slice_set nodes n now) + a ≤ nodes_left s nodes + b
unfolding nodes_left
nodes_set s [] n a b post now at less = absurd (none-some post at)
nodes_set s (x ∷ xs) zero a b post now at less =
    let same : post_left s x ≡ post_left s post = ap (post_left s) (same_Some x post at) in
    omega (arith, less, same)
nodes_set s (x ∷ xs) (suc n) a b post now at less =
    let later : nodes_left s (slice_set xs n now) + a ≤ nodes_left s xs + b = nodes_set s xs n a b post now at less in
    omega (arith, later)

-- ---- all nodes
pub none_left : (s : ℕ) (nodes : List (Option InstanceEntry)) → ((m : ℕ) (post : Option InstanceEntry) → slice_get nodes m ≡ Some post → post_left s post ≡ 0) → nodes_left s nodes ≡ 0
unfolding nodes_left
none_left s [] each = refl
none_left s (x ∷ xs) each =
    let first : post_left s x ≡ 0 = each 0 x refl in
    let later : nodes_left s xs ≡ 0 = none_left s xs (λ m post at. each (suc m) post at) in
    omega (arith, first, later)

pub only_left : (s n : ℕ) (nodes : List (Option InstanceEntry)) (post : Option InstanceEntry) → slice_get nodes n ≡ Some post → ((m : ℕ) (other : Option InstanceEntry) → m ≢ n → slice_get nodes m ≡ Some other → post_left s other ≡ 0) → nodes_left s nodes ≡ post_left s post
unfolding nodes_left
only_left s n [] post at others = absurd (none-some post at)
only_left s zero (x ∷ xs) post at others =
    let first : post_left s x ≡ post_left s post = ap (post_left s) (same_Some x post at) in
    let later : nodes_left s xs ≡ 0 = none_left s xs (λ m other there. others (suc m) other (λ same. cc) there) in
    omega (arith, first, later)
only_left s (suc n) (x ∷ xs) post at others =
    let first : post_left s x ≡ 0 = others 0 x (λ same. cc) refl in
    let later : nodes_left s xs ≡ post_left s post = only_left s n xs post at (λ m other differ there. others (suc m) other (λ same. differ (suc_same m n same)) there) in
    omega (arith, first, later)
  where
    suc_same : (a b : ℕ) → suc a ≡ suc b → a ≡ b
    suc_same a b same = omega (arith, same)

pub empty_left : (s n : ℕ) → nodes_left s (replicate n None) ≡ 0
empty_left s n = none_left s (replicate n None) (λ m post at. ap (post_left s) (found_copy n m None post at))
