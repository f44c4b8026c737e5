-- Lines that are added one behind the other.
use Rattle.std.proofs.Common.{◌≡◌, ℕ, zero, suc, ◌+◌, ◌-◌, ◌*◌, min, ◌≤◌, List, [], ◌∷◌, ◌++◌, append_assoc, length, map, refl, sym, ap, ◌∙◌, subst, arith}
use Rattle.std.specs.List.{flat_map, range_with_len}
use Rattle.std.proofs.lemmas.List.{append-nil, length-append, map-append}
use Rattle.std.proofs.lemmas.List.Concat.{flat_map-append}
use Rattle.history_book.specs.declared.item.Actor.{Actor}
use Rattle.script_data.specs.declared.line.Line.{Line}
use Rattle.script_data.specs.declared.line.Verb.{Verb}
use Rattle.replay_driver.specs.Drafts.{Adds}
use Rattle.replay_driver.specs.Storm.{Action, works, commits, members, serving, renewal, takeover_behind, group_actions, lines_from}

lines_append : (number : ℕ) (xs ys : List Action) → lines_from number (xs ++ ys) ≡ lines_from number xs ++ lines_from (number + length xs) ys
unfolding lines_from
lines_append number [] ys = ap (λ (n : ℕ). lines_from n ys) (omega arith)
lines_append number (x ∷ xs) ys =
    let on : number + 1 + length xs ≡ number + suc (length xs) = omega arith in
    ap (λ (lines : List Line). record { number = number; actor = x.0; verb = x.1 } ∷ lines) (lines_append (number + 1) xs ys ∙ ap (λ (n : ℕ). lines_from (number + 1) xs ++ lines_from n ys) on)

pub lines_length : (number : ℕ) (xs : List Action) → length (lines_from number xs) ≡ length xs
unfolding lines_from
lines_length number [] = refl
lines_length number (x ∷ xs) = ap suc (lines_length (number + 1) xs)

-- how many lines there are once the actions were added
pub added_length : (old new : List Line) (xs : List Action) → Adds old new xs → length new ≡ length old + length xs
added_length old new xs adds = ap length adds ∙ length-append old (lines_from (length old + 1) xs) ∙ ap (λ (n : ℕ). length old + n) (lines_length (length old + 1) xs)

pub adds_nothing : (lines : List Line) → Adds lines lines []
unfolding lines_from
adds_nothing lines = sym (append-nil lines)

pub adds_both : (a b c : List Line) (xs ys : List Action) → Adds a b xs → Adds b c ys → Adds a c (xs ++ ys)
adds_both a b c xs ys first second =
    let number : length b + 1 ≡ length a + 1 + length xs = omega (arith, added_length a b xs first) in
    second
    ∙ ap (λ (n : ℕ). b ++ lines_from n ys) number
    ∙ ap (λ (lines : List Line). lines ++ lines_from (length a + 1 + length xs) ys) first
    ∙ append_assoc a (lines_from (length a + 1) xs) (lines_from (length a + 1 + length xs) ys)
    ∙ ap (λ (lines : List Line). a ++ lines) (sym (lines_append (length a + 1) xs ys))

-- one line: what the actor and the verb are
pub one_line : (a b : List Line) (actor actor' : Actor) (verb verb' : Verb) → actor ≡ actor' → verb ≡ verb' → Adds a b ((actor, verb) ∷ []) → Adds a b ((actor', verb') ∷ [])
one_line a b actor actor' verb verb' same-actor same-verb adds =
    subst (λ (x : Actor). Adds a b ((x, verb') ∷ [])) same-actor (subst (λ (v : Verb). Adds a b ((actor, v) ∷ [])) same-verb adds)

-- the numbers from the first, and the next one behind
range_push : (first count next : ℕ) → first + count ≡ next → range_with_len first (suc count) ≡ range_with_len first count ++ next ∷ []
range_push first zero next is = let same : first ≡ next = omega arith in ap (λ (n : ℕ). n ∷ []) same
range_push first (suc count) next is = ap (λ (numbers : List ℕ). first ∷ numbers) (range_push (first + 1) count next (omega arith))

range_more : (first next : ℕ) → first ≤ next → range_with_len first (next + 1 - first) ≡ range_with_len first (next - first) ++ next ∷ []
range_more first next within =
    let on : next + 1 - first ≡ suc (next - first) = omega (arith, within) in
    ap (range_with_len first) on ∙ range_push first (next - first) next (omega (arith, within))

-- the actions of one more number were added
pub adds_more : (a b c : List Line) (f : ℕ → List Action) (first next : ℕ) → first ≤ next → Adds a b (flat_map f (range_with_len first (next - first))) → Adds b c (f next) → Adds a c (flat_map f (range_with_len first (next + 1 - first)))
adds_more a b c f first next within before more =
    let numbers : List ℕ = range_with_len first (next - first) in
    let actions : flat_map f (range_with_len first (next + 1 - first)) ≡ flat_map f numbers ++ f next =
    ap (flat_map f) (range_more first next within) ∙ flat_map-append f numbers (next ∷ []) ∙ ap (λ (xs : List Action). flat_map f numbers ++ xs) (append-nil (f next)) in
    subst (λ (xs : List Action). Adds a c xs) (sym actions) (adds_both a b c (flat_map f numbers) (f next) before more)

pub adds_one_more : (a b c : List Line) (f : ℕ → Action) (first next : ℕ) → first ≤ next → Adds a b (map f (range_with_len first (next - first))) → Adds b c (f next ∷ []) → Adds a c (map f (range_with_len first (next + 1 - first)))
adds_one_more a b c f first next within before more =
    let numbers : List ℕ = range_with_len first (next - first) in
    let actions : map f (range_with_len first (next + 1 - first)) ≡ map f numbers ++ f next ∷ [] =
    ap (map f) (range_more first next within) ∙ map-append f numbers (next ∷ []) in
    subst (λ (xs : List Action). Adds a c xs) (sym actions) (adds_both a b c (map f numbers) (f next ∷ []) before more)

-- ahead of the first number nothing was added
pub none_yet : (lines : List Line) (f : ℕ → List Action) (first : ℕ) → Adds lines lines (flat_map f (range_with_len first (first - first)))
none_yet lines f first =
    let none : first - first ≡ 0 = omega arith in
    subst (λ (n : ℕ). Adds lines lines (flat_map f (range_with_len first n))) (sym none) (adds_nothing lines)

pub not_one_yet : (lines : List Line) (f : ℕ → Action) (first : ℕ) → Adds lines lines (map f (range_with_len first (first - first)))
not_one_yet lines f first =
    let none : first - first ≡ 0 = omega arith in
    subst (λ (n : ℕ). Adds lines lines (map f (range_with_len first n))) (sym none) (adds_nothing lines)

-- the lines of a group were added, part by part
pub adds_group : (a b c d e : List Line) (transactions group node first end : ℕ) → node ≡ serving group → first ≡ 4 * group → end - first ≡ min 4 (transactions - 4 * group) → Adds a b (flat_map (works node) (range_with_len first (end - first))) → Adds b c (map (commits node) (range_with_len first (end - first))) → Adds c d (renewal group) → Adds d e (takeover_behind group) → Adds a e (group_actions transactions group)
adds_group a b c d e transactions group node first end at from few worked asked renewed taken =
    let numbers : range_with_len first (end - first) ≡ members transactions group = ap (λ (n : ℕ). range_with_len n (end - first)) from ∙ ap (range_with_len (4 * group)) few in
    let work : flat_map (works node) (range_with_len first (end - first)) ≡ flat_map (works (serving group)) (members transactions group) = ap (λ (n : ℕ). flat_map (works n) (range_with_len first (end - first))) at ∙ ap (flat_map (works (serving group))) numbers in
    let ask : map (commits node) (range_with_len first (end - first)) ≡ map (commits (serving group)) (members transactions group) = ap (λ (n : ℕ). map (commits n) (range_with_len first (end - first))) at ∙ ap (map (commits (serving group))) numbers in
    adds_both a d e _ (takeover_behind group)
    (adds_both a c d _ (renewal group)
    (adds_both a b c _ _ (subst (λ (xs : List Action). Adds a b xs) work worked) (subst (λ (xs : List Action). Adds b c xs) ask asked))
    renewed)
    taken

-- one more group was added behind the first line
pub adds_next : (b c : List Line) (action : Action) (f : ℕ → List Action) (count : ℕ) → Adds [] b (action ∷ flat_map f (range_with_len 0 count)) → Adds b c (f count) → Adds [] c (action ∷ flat_map f (range_with_len 0 (count + 1)))
adds_next b c action f count before more =
    let on : count + 1 ≡ suc count = omega arith in
    let numbers : List ℕ = range_with_len 0 count in
    let actions : flat_map f (range_with_len 0 (count + 1)) ≡ flat_map f numbers ++ f count =
    ap (λ (n : ℕ). flat_map f (range_with_len 0 n)) on ∙ ap (flat_map f) (range_push 0 count count (omega arith)) ∙ flat_map-append f numbers (count ∷ []) ∙ ap (λ (xs : List Action). flat_map f numbers ++ xs) (append-nil (f count)) in
    subst (λ (xs : List Action). Adds [] c (action ∷ xs)) (sym actions) (adds_both [] b c (action ∷ flat_map f numbers) (f count) before more)
