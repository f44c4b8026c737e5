-- A crash goes over the clients one at a time.
use Rattle.std.proofs.Common.{◌≡◌, ℕ, zero, suc, ◌+◌, ◌<◌, ◌≤◌, min, List, [], ◌∷◌, ◌++◌, append_assoc, length, take, slice_get, slice_index_or, slice_set, refl, sym, ap, ◌∙◌, subst, add-one, Option, None, Some, arith}
use Rattle.std.proofs.lemmas.Option.{slice_get-get_or}
use Rattle.history_book.specs.declared.item.Item.{Item}
use Rattle.system_parts.specs.declared.instance.Held.{Held}
use Rattle.system_parts.specs.Instance.{InstanceEntry, held_of}
use Rattle.machine.specs.State.{Client}
use Rattle.machine.specs.Events.Crash.{crashed_client, crashed_clients, crashed_items, all_crashed_items}
use Rattle.event_parts.specs.Waiting.{WaitsFor}

-- ---- the clients
-- a client whose turn has not come is as before
pub not_yet_crashed : (held : List (Option Held)) (clients : List Client) (i : ℕ) (d : Client) → slice_index_or (crashed_clients (take i held) clients) i d ≡ slice_index_or clients i d
unfolding crashed_clients
not_yet_crashed [] clients zero d = refl
not_yet_crashed [] clients (suc i) d = refl
not_yet_crashed (h ∷ held) clients zero d = refl
not_yet_crashed (h ∷ held) [] (suc i) d = refl
not_yet_crashed (h ∷ held) (c ∷ clients) (suc i) d = not_yet_crashed held clients i d

crashed_by : (held : List (Option Held)) (clients : List Client) (i : ℕ) (h : Option Held) (c : Client) → i < length held → i < length clients → h ≡ slice_index_or held i h → c ≡ slice_index_or clients i c → slice_set (crashed_clients (take i held) clients) i (crashed_client h c) ≡ crashed_clients (take (suc i) held) clients
unfolding crashed_clients
crashed_by [] clients i h c short long is at = grind arith
crashed_by (g ∷ held) [] i h c short long is at = grind arith
crashed_by (g ∷ held) (d ∷ clients) zero h c short long is at = grind arith
crashed_by (g ∷ held) (d ∷ clients) (suc i) h c short long is at = ap (λ (later : List Client). crashed_client g d ∷ later) (crashed_by held clients i h c (grind arith) (grind arith) is at)

pub crashed_next : (held : List (Option Held)) (clients : List Client) (i : ℕ) (h : Option Held) (c : Client) → i < length held → i < length clients → h ≡ slice_index_or held i h → c ≡ slice_index_or clients i c → slice_set (crashed_clients (take i held) clients) i (crashed_client h c) ≡ crashed_clients (take (i + 1) held) clients
crashed_next held clients i h c short long is at = rw (add-one i) (crashed_by held clients i h c short long is at)

-- the clients behind the last request, and the requests behind the last client, count for nothing
pub all_crashed : (held : List (Option Held)) (clients : List Client) (i : ℕ) → min (length clients) (length held) ≤ i → crashed_clients (take i held) clients ≡ crashed_clients held clients
unfolding crashed_clients
all_crashed [] clients zero enough = refl
all_crashed [] clients (suc i) enough = refl
all_crashed (h ∷ held) [] zero enough = refl
all_crashed (h ∷ held) [] (suc i) enough = refl
all_crashed (h ∷ held) (c ∷ clients) zero enough = grind arith
all_crashed (h ∷ held) (c ∷ clients) (suc i) enough = ap (λ (later : List Client). crashed_client h c ∷ later) (all_crashed held clients i (grind arith))

-- ---- the items
told_by : (node term : ℕ) (held : List (Option Held)) (clients : List Client) (i : ℕ) (h : Option Held) (c : Client) → i < length held → i < length clients → h ≡ slice_index_or held i h → c ≡ slice_index_or clients i c → all_crashed_items node term (take i held) clients ++ crashed_items node term h c ≡ all_crashed_items node term (take (suc i) held) clients
unfolding all_crashed_items
told_by node term [] clients i h c short long is at = grind arith
told_by node term (g ∷ held) [] i h c short long is at = grind arith
told_by node term (g ∷ held) (d ∷ clients) zero h c short long is at = grind arith
told_by node term (g ∷ held) (d ∷ clients) (suc i) h c short long is at =
    append_assoc (crashed_items node term g d) (all_crashed_items node term (take i held) clients) (crashed_items node term h c) ∙ ap (λ (later : List Item). crashed_items node term g d ++ later) (told_by node term held clients i h c (grind arith) (grind arith) is at)

pub told_next : (node term : ℕ) (held : List (Option Held)) (clients : List Client) (i : ℕ) (h : Option Held) (c : Client) → i < length held → i < length clients → h ≡ slice_index_or held i h → c ≡ slice_index_or clients i c → all_crashed_items node term (take i held) clients ++ crashed_items node term h c ≡ all_crashed_items node term (take (i + 1) held) clients
told_next node term held clients i h c short long is at = rw (add-one i) (told_by node term held clients i h c short long is at)

pub all_told : (node term : ℕ) (held : List (Option Held)) (clients : List Client) (i : ℕ) → min (length clients) (length held) ≤ i → all_crashed_items node term (take i held) clients ≡ all_crashed_items node term held clients
unfolding all_crashed_items
all_told node term [] clients zero enough = refl
all_told node term [] clients (suc i) enough = refl
all_told node term (h ∷ held) [] zero enough = refl
all_told node term (h ∷ held) [] (suc i) enough = refl
all_told node term (h ∷ held) (c ∷ clients) zero enough = grind arith
all_told node term (h ∷ held) (c ∷ clients) (suc i) enough = ap (λ (later : List Item). crashed_items node term h c ++ later) (all_told node term held clients i (grind arith))

pub none_crashed : (clients : List Client) → clients ≡ crashed_clients [] clients
unfolding crashed_clients
none_crashed clients = refl

pub none_told : (node term : ℕ) (clients : List Client) → all_crashed_items node term [] clients ≡ []
unfolding all_crashed_items
none_told node term clients = refl

-- ---- a client whose turn it is
some_same : (a b : Option Held) → Some a ≡ Some b → a ≡ b
some_same a b same = grind arith

pub waits_next : (i : InstanceEntry) (clients : List Client) (n : ℕ) (h : Option Held) (c : Client) → n < length i.requests → n < length clients → h ≡ slice_index_or i.requests n h → c ≡ slice_index_or clients n c → ((m : ℕ) (d : Client) → slice_get clients m ≡ Some d → WaitsFor (held_of i m) d.entry) → WaitsFor h c.entry
waits_next i clients n h c short long is at waits =
    let there : slice_get clients n ≡ Some c = slice_get-get_or clients n c long ∙ ap (λ (d : Client). Some d) (sym at) in
    let one : slice_get i.requests n ≡ Some (slice_index_or i.requests n None) = slice_get-get_or i.requests n None short in
    let other : slice_get i.requests n ≡ Some h = slice_get-get_or i.requests n h short ∙ ap (λ (g : Option Held). Some g) (sym is) in
    let same : held_of i n ≡ h = some_same (held_of i n) h (sym one ∙ other) in
    subst (λ (g : Option Held). WaitsFor g c.entry) same (waits n c there)

-- the items of one more client stand behind the others
pub behind : (first : Item) (before told more next now after : List Item) → now ≡ before ++ (first ∷ told) → after ≡ now ++ more → told ++ more ≡ next → after ≡ before ++ (first ∷ next)
behind first before told more next now after so_far longer same =
    longer ∙ ap (λ (l : List Item). l ++ more) so_far ∙ append_assoc before (first ∷ told) more ∙ ap (λ (l : List Item). before ++ (first ∷ l)) same
