-- Every event: whoever an instance marks as told to wait was so before, or is told now.
use Rattle.request_completion.proofs.Names.{◌≡◌, ℕ, true, List, [], ◌∷◌, Option, None, Some, ◌⊎◌, inl, inr, refl, sym}
use Rattle.request_completion.proofs.Names.{◌∙◌, ap, subst, slice_get, slice_set, Fate, Session, Item, begin_refusal}
use Rattle.request_completion.proofs.Names.{work_refusal, InstanceEntry, was_told_not_yet, Event, State, is_reading}
use Rattle.request_completion.proofs.Names.{Step, stepped, with_reading, leaves_parts, InstanceAt, instance_set}
use Rattle.history_book.specs.declared.cause.Cause.TheVariants as cause
use Rattle.history_book.specs.declared.item.Item.TheVariants as item
use Rattle.machine.specs.declared.event.Event.TheVariants as event
use Rattle.machine.proofs.LookedUp.{of_post, of_both}
use Rattle.request_completion.proofs.WaitAnswers.{told_in, IsTold, answer_told}
use Rattle.request_completion.proofs.WaitPosts.{Marked, take_marks, renew_marks, extend_marks, crash_marks, begin_marks, commit_marks, accept_marks, decide_marks, put_marks}

-- ---- all nodes
abbrev pub AreMarked : List (Option InstanceEntry) → List Item → List (Option InstanceEntry) → Type 0
AreMarked old items new = (n s : ℕ) (j : InstanceEntry) → InstanceAt new n j → was_told_not_yet j s ≡ true → ((i : InstanceEntry) × InstanceAt old n i × (was_told_not_yet i s ≡ true)) ⊎ ((commit : ℕ) × (items ≡ item.Refused (Session s) (cause.NotYet commit) ∷ []))

same_marked : (nodes : List (Option InstanceEntry)) (items : List Item) → AreMarked nodes items nodes
same_marked nodes items n s j at told = inl (j, at, told)

was_marked : (nodes : List (Option InstanceEntry)) (n s : ℕ) (old : Option InstanceEntry) → slice_get nodes n ≡ Some old → told_in old s ≡ true → (i : InstanceEntry) × InstanceAt nodes n i × (was_told_not_yet i s ≡ true)
was_marked nodes n s None at told = absurd (cc)
was_marked nodes n s (Some i) at told = (i, at, told)

set_marked : (nodes : List (Option InstanceEntry)) (items : List Item) (m : ℕ) (old new : Option InstanceEntry) → slice_get nodes m ≡ Some old → ((s : ℕ) → IsTold s old items new) → AreMarked nodes items (slice_set nodes m new)
set_marked nodes items m old new was told n s j at marked = elim (instance_set nodes m n new j at) [
  | inl here ↦ elim (told s (ap (λ (post : Option InstanceEntry). told_in post s) here.1 ∙ marked)) [
    | inl before ↦ inl (was_marked nodes n s old (subst (λ (q : ℕ). slice_get nodes q ≡ Some old) (sym here.0) was) before)
    | inr now ↦ inr now
  ]
  | inr there ↦ inl (j, there.1, marked)
]

none_marked : (nodes : List (Option InstanceEntry)) (items : List Item) (m : ℕ) (old new : Option InstanceEntry) → slice_get nodes m ≡ Some old → Marked old new → AreMarked nodes items (slice_set nodes m new)
none_marked nodes items m old new was marked = set_marked nodes items m old new was (λ s told. inl (marked s told))

-- ---- every event
abbrev pub After : State → Step → Type 0
After w step = AreMarked w.nodes step.items step.state.nodes

pub waits_marked : (w : State) (e : Event) (fate : Fate) → After w (stepped w e fate)
waits_marked w (event.Take n reading) fate = of_post (After w) (with_reading w reading) _ (slice_get w.nodes n) (same_marked w.nodes []) (λ post is. none_marked w.nodes _ n post _ is (take_marks w.setup n reading fate post w.master))
waits_marked w (event.Renew n reading) fate = of_post (After w) (with_reading w reading) _ (slice_get w.nodes n) (same_marked w.nodes []) (λ post is. none_marked w.nodes _ n post _ is (renew_marks w.setup n reading fate post w.master))
waits_marked w (event.Extend n) fate = of_post (After w) w _ (slice_get w.nodes n) (same_marked w.nodes []) (λ post is. none_marked w.nodes _ n post _ is (extend_marks w.setup n fate post w.master))
waits_marked w (event.Crash n) fate = of_post (After w) w _ (slice_get w.nodes n) (same_marked w.nodes []) (λ post is. none_marked w.nodes _ n post _ is (crash_marks n post w.clients))
waits_marked w (event.AskBegin r n) fate = of_both (After w) w _ (slice_get w.nodes n) (slice_get w.clients r) (same_marked w.nodes []) (λ post c is client_is. none_marked w.nodes _ n post _ is (begin_marks r n c post (begin_refusal c.entry.state)))
waits_marked w (event.AskCommit r n) fate =
    of_both (After w) w _ (slice_get w.nodes n) (slice_get w.clients r) (same_marked w.nodes []) (λ post c is client_is. none_marked w.nodes _ n post _ is (commit_marks r n c post (work_refusal c.entry.state (is_reading c)) c.entry.start))
waits_marked w (event.Accept n r reading) fate = of_both (After w) (with_reading w reading) _ (slice_get w.nodes n) (slice_get w.clients r) (same_marked w.nodes []) (λ post c is client_is. none_marked w.nodes _ n post _ is (accept_marks n r reading post c))
waits_marked w (event.Decide n r) fate = of_both (After w) w _ (slice_get w.nodes n) (slice_get w.clients r) (same_marked w.nodes []) (λ post c is client_is. none_marked w.nodes _ n post _ is (decide_marks n r post c))
waits_marked w (event.Put n r) fate = of_post (After w) w _ (slice_get w.nodes n) (same_marked w.nodes []) (λ post is. none_marked w.nodes _ n post _ is (put_marks n r fate post w.pairs))
waits_marked w (event.Answer n r) fate = of_both (After w) w _ (slice_get w.nodes n) (slice_get w.clients r) (same_marked w.nodes []) (λ post c is client_is. set_marked w.nodes _ n post _ is (λ s. answer_told s n r post c))
waits_marked w e fate = subst (λ (nodes : List (Option InstanceEntry)). AreMarked w.nodes (stepped w e fate).items nodes) (sym ((leaves_parts w e fate).nodes refl)) (same_marked w.nodes (stepped w e fate).items)
