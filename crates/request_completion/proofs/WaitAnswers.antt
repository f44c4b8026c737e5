-- An answer that marks a request as told to wait tells its session so.
use Rattle.request_completion.proofs.Names.{◌≡◌, ℕ, Bool, true, false, if◌then◌else◌, List, [], ◌∷◌, Option, None, Some}
use Rattle.request_completion.proofs.Names.{Ok, Err, ◌⊎◌, inl, inr, refl, sym, ◌∙◌, ap, subst, Result, cases_Bool}
use Rattle.request_completion.proofs.Names.{Cause, Session, Item, Held, Progress, Drawn, Reply, Request, Begin, Commit}
use Rattle.request_completion.proofs.Names.{InstanceEntry, held_of, was_told_not_yet, stamps_at, least_unsettled}
use Rattle.request_completion.proofs.Names.{InstanceStep, answer_begin, answer_if_ready, answer_held, instance_answer}
use Rattle.request_completion.proofs.Names.{Client, answer_by, answer_request, answer_on}
use Rattle.history_book.specs.declared.cause.Cause.TheVariants as cause
use Rattle.history_book.specs.declared.item.Item.TheVariants as item
use Rattle.system_parts.specs.declared.instance.Progress.TheVariants.{Settled, Handed}
use Rattle.system_parts.specs.declared.instance.Reply.TheVariants as reply
use Rattle.request_completion.proofs.WaitFlags.{NoneNew, set_told, none_same, none_without}

-- ---- what an instance answers
-- no session is marked, or this one, which has to wait
abbrev Marks : ℕ → InstanceEntry → InstanceStep Reply → Type 0
Marks r i step = NoneNew i step.left ⊎ ((commit : ℕ) × (step.answer ≡ Err (cause.NotYet commit)) × ((s : ℕ) → was_told_not_yet step.left s ≡ true → (s ≡ r) ⊎ (was_told_not_yet i s ≡ true)))

begin_marks : (i : InstanceEntry) (r start : ℕ) (held : Held) (least : Option ℕ) → Marks r i (answer_begin i r held start least)
begin_marks i r start held None = inl (none_without i r)
begin_marks i r start held (Some commit) = inr (commit, refl, λ s told. elim (set_told i r s (Some (record held { told_not_yet = true })) told) [ inl here ↦ inl here.0 | inr was ↦ inr was ])

ready_marks : (i : InstanceEntry) (r : ℕ) (held : Held) (request : Request) (p : Progress) → Marks r i (answer_if_ready i r held request p)
ready_marks i r held (Begin asker) (Drawn start) = begin_marks i r start held (least_unsettled i.requests start)
ready_marks i r held (Commit asker start keys) (Settled commit how) = inl (none_without i r)
ready_marks i r held (Commit asker start keys) (Handed commit) = inl (none_without i r)
ready_marks i r held _ _ = inl (none_same i)

held_marks : (i : InstanceEntry) (r : ℕ) (found : Option Held) → Marks r i (answer_held i r found)
held_marks i r None = inl (none_same i)
held_marks i r (Some held) = ready_marks i r held held.request held.progress

-- ---- what the event tells
abbrev pub told_in : Option InstanceEntry → ℕ → Bool
told_in None s = false
told_in (Some i) s = was_told_not_yet i s

-- whoever is marked now was so before, or is told now
abbrev pub IsTold : ℕ → Option InstanceEntry → List Item → Option InstanceEntry → Type 0
IsTold s old items new = told_in new s ≡ true → (told_in old s ≡ true) ⊎ ((commit : ℕ) × (items ≡ item.Refused (Session s) (cause.NotYet commit) ∷ []))

left_is : (n r start : ℕ) (c : Client) (i left : InstanceEntry) (answer : Result Reply Cause) → (answer_by n r start c i left answer).parts.0 ≡ Some left
left_is n r start c i left (Ok (reply.Begun begun epoch)) = refl
left_is n r start c i left (Ok (reply.Committed commit)) = refl
left_is n r start c i left (Ok (reply.Handed commit)) = refl
left_is n r start c i left (Ok reply.Invalid) = refl
left_is n r start c i left (Ok reply.Open) = refl
left_is n r start c i left (Err (cause.NotYet commit)) = refl
left_is n r start c i left (Err _) = refl

once_told : (s r commit : ℕ) (i : InstanceEntry) → s ≡ r → (was_told_not_yet i s ≡ true) ⊎ ((c : ℕ) × ((if was_told_not_yet i r then [] else item.Refused (Session r) (cause.NotYet commit) ∷ []) ≡ item.Refused (Session s) (cause.NotYet c) ∷ []))
once_told s r commit i same = elim (cases_Bool (was_told_not_yet i r)) [
  | inl was ↦ inl (ap (was_told_not_yet i) same ∙ was)
  | inr is ↦ inr (commit, ap (λ (b : Bool). if b then [] else item.Refused (Session r) (cause.NotYet commit) ∷ []) is ∙ ap (λ (q : ℕ). item.Refused (Session q) (cause.NotYet commit) ∷ []) (sym same))
]

waits_told : (s n r start commit : ℕ) (c : Client) (i left : InstanceEntry) (answer : Result Reply Cause) → answer ≡ Err (cause.NotYet commit) → (s ≡ r) ⊎ (was_told_not_yet i s ≡ true) → (was_told_not_yet i s ≡ true) ⊎ ((d : ℕ) × ((answer_by n r start c i left answer).items ≡ item.Refused (Session s) (cause.NotYet d) ∷ []))
waits_told s n r start commit c i left answer is (inr was) = inl was
waits_told s n r start commit c i left answer is (inl same) =
    subst (λ (a : Result Reply Cause). (was_told_not_yet i s ≡ true) ⊎ ((d : ℕ) × ((answer_by n r start c i left a).items ≡ item.Refused (Session s) (cause.NotYet d) ∷ []))) (sym is) (once_told s r commit i same)

by_marks : (s n r start : ℕ) (c : Client) (i : InstanceEntry) (step : InstanceStep Reply) → Marks r i step → IsTold s (Some i) (answer_by n r start c i step.left step.answer).items (Some step.left)
by_marks s n r start c i step (inl none) told = inl (none s told)
by_marks s n r start c i step (inr (commit, is, marks)) told = waits_told s n r start commit c i step.left step.answer is (marks s told)

by_stamps : (s n r : ℕ) (c : Client) (i : InstanceEntry) (stamps : Option (ℕ × Option ℕ)) → IsTold s (Some i) (answer_request n r i c stamps).items (answer_request n r i c stamps).parts.0
by_stamps s n r c i None told = inl told
by_stamps s n r c i (Some stamps) told =
    let left : (answer_by n r stamps.0 c i (instance_answer i r).left (instance_answer i r).answer).parts.0 ≡ Some (instance_answer i r).left = left_is n r stamps.0 c i (instance_answer i r).left (instance_answer i r).answer in
    by_marks s n r stamps.0 c i (instance_answer i r) (held_marks i r (held_of i r)) (ap (λ (post : Option InstanceEntry). told_in post s) (sym left) ∙ told)

pub answer_told : (s n r : ℕ) (post : Option InstanceEntry) (c : Client) → IsTold s post (answer_on n r post c).items (answer_on n r post c).parts.0
answer_told s n r None c told = absurd (cc)
answer_told s n r (Some i) c told = by_stamps s n r c i (stamps_at i r) told
