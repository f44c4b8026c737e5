-- What requests may still append, and how its sum goes when the history grows and when one request moves on.
use Rattle.cluster_core.proofs.Names.{◌≡◌, ℕ, zero, suc, ◌+◌, ◌≤◌, ◌||◌, Bool, true, false, List, [], ◌∷◌, ◌++◌, Option}
use Rattle.cluster_core.proofs.Names.{Some, None, refl, ap, arith, slice_get, slice_set, slice_index_or, replicate}
use Rattle.cluster_core.proofs.Names.{sum_by, same_Some, sum_by-cons, Item, Held, Progress, Asked, Accepted, Drawn}
use Rattle.cluster_core.proofs.Names.{Settled, Handed, Request, Begin, Commit, How, InstanceEntry, once, is_record_of}
use Rattle.cluster_core.proofs.Names.{was_placed, told_besides, spent, need_by, need, needs_of}
use Rattle.std.proofs.lemmas.Bool.{eq-eqb}
use Rattle.history_book.specs.declared.item.Item.TheVariants.{Placed}
use Rattle.system_parts.specs.declared.instance.Settled.TheVariants as how

-- ---- a commit that stands in the history stands in a longer one
or_up : (a b c : Bool) → (b ≡ true → c ≡ true) → a || b ≡ true → a || c ≡ true
or_up true b c up is = refl
or_up false b c up is = up is

or_right : (a b : Bool) → b ≡ true → a || b ≡ true
or_right true b is = refl
or_right false b is = is

placed_longer : (h more : List Item) (t c : ℕ) → was_placed h t c ≡ true → was_placed (h ++ more) t c ≡ true
unfolding was_placed
placed_longer [] more t c is = absurd (cc)
placed_longer (x ∷ h) more t c is = or_up (is_record_of t c x) (was_placed h t c) (was_placed (h ++ more) t c) (placed_longer h more t c) is

pub placed_now : (h more : List Item) (t c : ℕ) → was_placed (h ++ Placed t c ∷ more) t c ≡ true
unfolding was_placed
placed_now [] more t c = rw (eq-eqb t t refl, eq-eqb c c refl) refl
placed_now (x ∷ h) more t c = or_right (is_record_of t c x) (was_placed (h ++ Placed t c ∷ more) t c) (placed_now h more t c)

-- ---- how much a request may append
pub once_at_most : (b : Bool) → once b ≤ 1
once_at_most true = omega arith
once_at_most false = omega arith

once_up : (a b : Bool) → (a ≡ true → b ≡ true) → once a ≤ once b
once_up true b up = rw (up refl) (omega arith)
once_up false b up = omega arith

pub besides_at_most : (h : List Item) (t c : ℕ) (by : How) → told_besides h t c by ≤ 1
besides_at_most h t c how.Placed = omega arith
besides_at_most h t c how.Invalid = omega arith
besides_at_most h t c how.Faulted = once_at_most (was_placed h t c)

besides_longer : (h more : List Item) (t c : ℕ) (by : How) → told_besides h t c by ≤ told_besides (h ++ more) t c by
besides_longer h more t c how.Placed = omega arith
besides_longer h more t c how.Invalid = omega arith
besides_longer h more t c how.Faulted = once_up (was_placed h t c) (was_placed (h ++ more) t c) (placed_longer h more t c)

spent_longer : (h more : List Item) (held : Held) (request : Request) (p : Progress) → spent h held request p ≤ spent (h ++ more) held request p
spent_longer h more held (Begin s) Asked = omega arith
spent_longer h more held (Begin s) Accepted = omega arith
spent_longer h more held (Begin s) (Drawn start) = omega arith
spent_longer h more held (Begin s) (Settled c by) = omega arith
spent_longer h more held (Begin s) (Handed c) = omega arith
spent_longer h more held (Commit s t keys) Asked = omega arith
spent_longer h more held (Commit s t keys) Accepted = omega arith
spent_longer h more held (Commit s t keys) (Drawn c) = omega arith
spent_longer h more held (Commit s t keys) (Settled c by) = omega (arith, besides_longer h more t c by)
spent_longer h more held (Commit s t keys) (Handed c) = omega arith

need_by_longer : (h more : List Item) (held : Held) (p : Progress) → need_by (h ++ more) held p ≤ need_by h held p
need_by_longer h more held Asked = omega arith
need_by_longer h more held Accepted = omega (arith, spent_longer h more held held.request Accepted)
need_by_longer h more held (Drawn c) = omega (arith, spent_longer h more held held.request (Drawn c))
need_by_longer h more held (Settled c by) = omega (arith, spent_longer h more held held.request (Settled c by))
need_by_longer h more held (Handed c) = omega (arith, spent_longer h more held held.request (Handed c))

-- a longer history leaves no request more to append
pub need_longer : (h more : List Item) (held : Option Held) → need (h ++ more) held ≤ need h held
need_longer h more None = omega arith
need_longer h more (Some held) = need_by_longer h more held held.progress

-- ---- sums
sum_up : {X : Type 0} (f g : X → ℕ) → ((x : X) → f x ≤ g x) → (xs : List X) → sum_by f xs ≤ sum_by g xs
sum_up f g up [] = omega arith
sum_up f g up (x ∷ xs) = omega (arith, sum_by-cons f x xs, sum_by-cons g x xs, up x, sum_up f g up xs)

pub needs_longer : (h more : List Item) (post : Option InstanceEntry) → needs_of (h ++ more) post ≤ needs_of h post
needs_longer h more None = omega arith
needs_longer h more (Some i) = sum_up (need (h ++ more)) (need h) (need_longer h more) i.requests

pub all_longer : (h more : List Item) (nodes : List (Option InstanceEntry)) → sum_by (needs_of (h ++ more)) nodes ≤ sum_by (needs_of h) nodes
all_longer h more nodes = sum_up (needs_of (h ++ more)) (needs_of h) (needs_longer h more) nodes

pub none_needs : (f : Option Held → ℕ) → f None ≡ 0 → (n : ℕ) → sum_by f (replicate n None) ≡ 0
none_needs f none zero = refl
none_needs f none (suc n) = omega (arith, sum_by-cons f None (replicate n None), none, none_needs f none n)

-- one of them is another: a place that is there, or any place where what is not there counts nothing
pub set_sum : {X : Type 0} (f : X → ℕ) (xs : List X) (p : ℕ) (was now : X) (a b : ℕ) → slice_get xs p ≡ Some was → f now + a ≤ f was + b → sum_by f (slice_set xs p now) + a ≤ sum_by f xs + b
set_sum f [] p was now a b at falls = absurd (cc)
set_sum f (x ∷ xs) zero was now a b at falls = omega (arith, sum_by-cons f x xs, sum_by-cons f now xs, ap f (same_Some x was at), falls)
set_sum f (x ∷ xs) (suc p) was now a b at falls = omega (arith, sum_by-cons f x xs, sum_by-cons f x (slice_set xs p now), set_sum f xs p was now a b at falls)

pub moved_sum : (f : Option Held → ℕ) → f None ≡ 0 → (xs : List (Option Held)) (s : ℕ) (was now : Option Held) (a b : ℕ) → slice_index_or xs s None ≡ was → f now + a ≤ f was + b → sum_by f (slice_set xs s now) + a ≤ sum_by f xs + b
moved_sum f none [] s was now a b at falls = omega (arith, ap f at, none, falls)
moved_sum f none (x ∷ xs) zero was now a b at falls = omega (arith, sum_by-cons f x xs, sum_by-cons f now xs, ap f at, falls)
moved_sum f none (x ∷ xs) (suc s) was now a b at falls = omega (arith, sum_by-cons f x xs, sum_by-cons f x (slice_set xs s now), moved_sum f none xs s was now a b at falls)

-- what one of them counts is within the sum
pub one_within : {X : Type 0} (f : X → ℕ) (xs : List X) (p : ℕ) (x : X) → slice_get xs p ≡ Some x → f x ≤ sum_by f xs
one_within f [] p x at = absurd (cc)
one_within f (y ∷ ys) zero x at = omega (arith, sum_by-cons f y ys, ap f (same_Some y x at))
one_within f (y ∷ ys) (suc p) x at = omega (arith, sum_by-cons f y ys, one_within f ys p x at)

pub held_within : (f : Option Held → ℕ) → f None ≡ 0 → (xs : List (Option Held)) (s : ℕ) (was : Option Held) → slice_index_or xs s None ≡ was → f was ≤ sum_by f xs
held_within f none [] s was at = omega (arith, ap f at, none)
held_within f none (x ∷ xs) zero was at = omega (arith, sum_by-cons f x xs, ap f at)
held_within f none (x ∷ xs) (suc s) was at = omega (arith, sum_by-cons f x xs, held_within f none xs s was at)
