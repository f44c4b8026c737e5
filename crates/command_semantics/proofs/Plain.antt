-- Events on requests append no opening item of a line.
use Rattle.std.proofs.Common.{arith}
use Rattle.command_semantics.proofs.Names.{of_post, of_both, ◌≡◌, ℕ, List, [], ◌∷◌, ◌++◌, Option}
use Rattle.command_semantics.proofs.Names.{Some, None, Result, refl, Fate}
use Rattle.command_semantics.proofs.Names.{Cause, Item, ExtendRefused}
use Rattle.command_semantics.proofs.Names.{MasterRecord, Pairs, Reply}
use Rattle.command_semantics.proofs.Names.{InstanceEntry}
use Rattle.command_semantics.proofs.Names.{instance_answer, Client, State, kept_items}
use Rattle.command_semantics.proofs.Names.{Step, at_post, at_client, at_both, accept_on}
use Rattle.command_semantics.proofs.Names.{decide_on}
use Rattle.command_semantics.proofs.Names.{put_on, answer_by, answer_request, answer_on, opener}
use Rattle.machine.proofs.LookedUp.{of_client}
use Rattle.machine.specs.Events.Extend.{extend_by}

-- none of the items opens a line
unfoldable pub AllPlain : List Item → Type 0
AllPlain [] = Unit {0}
AllPlain (x ∷ xs) = (opener x ≡ None) × AllPlain xs

pub plain_append : (xs ys : List Item) → AllPlain xs → AllPlain ys → AllPlain (xs ++ ys)
unfolding AllPlain
plain_append [] ys first rest = rest
plain_append (x ∷ xs) ys first rest = (first.0, plain_append xs ys first.1 rest)

pub one_plain : (x : Item) → opener x ≡ None → AllPlain (x ∷ [])
unfolding AllPlain
one_plain x plain = (plain, tt)

pub two_plain : (x y : Item) → opener x ≡ None → opener y ≡ None → AllPlain (x ∷ y ∷ [])
unfolding AllPlain
two_plain x y first second = (first, (second, tt))

pub no_plain : AllPlain []
unfolding AllPlain
no_plain = tt

-- what a failed call made all the same
pub kept_plain : {E : Type 0} (fate : Fate) (why : Option E) (items : List Item) → AllPlain items → AllPlain (kept_items fate why items)
kept_plain fate why items plain = grind (arith, no_plain)

-- ---- looking up the parts
pub post_plain : (w : State) (f : Option InstanceEntry → Step) → ((post : Option InstanceEntry) → AllPlain (f post).items) → (found : Option (Option InstanceEntry)) → AllPlain (at_post w found f).items
post_plain w f each found = of_post (λ step. AllPlain step.items) w f found no_plain (λ post at. each post)

pub client_plain : (w : State) (f : Client → Step) → ((c : Client) → AllPlain (f c).items) → (found : Option Client) → AllPlain (at_client w found f).items
client_plain w f each found = of_client (λ step. AllPlain step.items) w f found no_plain (λ c at. each c)

pub both_plain : (w : State) (f : Option InstanceEntry → Client → Step) → ((post : Option InstanceEntry) (c : Client) → AllPlain (f post c).items) → (post : Option (Option InstanceEntry)) (found : Option Client) → AllPlain (at_both w post found f).items
both_plain w f each post found = of_both (λ step. AllPlain step.items) w f post found no_plain (λ post c at there. each post c)

-- ---- requests
pub accept_at : (node s reading : ℕ) (post : Option InstanceEntry) (c : Client) → AllPlain (accept_on node s reading post c).items
accept_at node s reading post c = grind (arith, one_plain)

pub decide_at : (node s : ℕ) (post : Option InstanceEntry) (c : Client) → AllPlain (decide_on node s post c).items
decide_at node s post c = grind (arith, one_plain, no_plain)

pub put_at : (node s : ℕ) (fate : Fate) (post : Option InstanceEntry) (pairs : Pairs) → AllPlain (put_on node s fate post pairs).items
put_at node s fate post pairs = grind (arith, one_plain, plain_append, kept_plain)

answer_plain : (node s start : ℕ) (c : Client) (i left : InstanceEntry) (answer : Result Reply Cause) → AllPlain (answer_by node s start c i left answer).items
answer_plain node s start c i left answer = grind (arith, one_plain, no_plain)

answer_held : (node s : ℕ) (i : InstanceEntry) (c : Client) (stamps : Option (ℕ × Option ℕ)) → AllPlain (answer_request node s i c stamps).items
answer_held node s i c None = one_plain _ refl
answer_held node s i c (Some stamps) = answer_plain node s stamps.0 c i (instance_answer i s).left (instance_answer i s).answer

pub answer_at : (node s : ℕ) (post : Option InstanceEntry) (c : Client) → AllPlain (answer_on node s post c).items
answer_at node s post c = grind (arith, one_plain, answer_held)

pub extend_plain : (node : ℕ) (i : InstanceEntry) (master : MasterRecord) (kept : List Item) (answer : Result ℕ ExtendRefused) → AllPlain kept → AllPlain (extend_by node i master kept answer).items
extend_plain node i master kept answer plain = grind (arith, one_plain, plain_append)
