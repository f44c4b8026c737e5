-- Which calls of an instance tell a session that it has to wait: answers alone.
use Rattle.std.proofs.Common.{arith}
use Rattle.request_completion.proofs.Names.{Ok, ◌≡◌, ℕ, ◌+◌, ◌==◌, Bool, true, false, if◌then◌else◌, List, Option, None}
use Rattle.request_completion.proofs.Names.{Some, ◌⊎◌, inl, inr, refl, sym, ◌∙◌, ap, subst, Held, Progress}
use Rattle.request_completion.proofs.Names.{Request, How, InstanceEntry, held_of, with_request}
use Rattle.request_completion.proofs.Names.{was_told_not_yet, not_yet_of_held, session_of, in_flight}
use Rattle.request_completion.proofs.Names.{stays, without_request, just_asked}
use Rattle.request_completion.proofs.Names.{accept_if_asked, instance_ask, instance_accept, out_of_stamps}
use Rattle.request_completion.proofs.Names.{decide_drawn}
use Rattle.request_completion.proofs.Names.{instance_settle, decide_both}
use Rattle.request_completion.proofs.Names.{held_set}
use Rattle.history_book.specs.declared.cause.Cause.TheVariants as cause

-- no session was told so that was not told before
abbrev pub NoneNew : InstanceEntry → InstanceEntry → Type 0
NoneNew i left = (s : ℕ) → was_told_not_yet left s ≡ true → was_told_not_yet i s ≡ true

-- ---- one request is set
pub told_of : (held : Option Held) → not_yet_of_held held ≡ true → (found : Held) × (held ≡ Some found) × (found.told_not_yet ≡ true)
told_of None told = absurd (cc)
told_of (Some found) told = (found, refl, told)

pub set_told : (i : InstanceEntry) (r s : ℕ) (now : Option Held) → was_told_not_yet (with_request i r now) s ≡ true → ((s ≡ r) × (not_yet_of_held now ≡ true)) ⊎ (was_told_not_yet i s ≡ true)
set_told i r s now told =
    let found : (held : Held) × (held_of (with_request i r now) s ≡ Some held) × (held.told_not_yet ≡ true) = told_of (held_of (with_request i r now) s) told in
    elim (held_set i r s now found.0 found.1) [
      | inl here ↦ inl (here.0, ap not_yet_of_held here.1 ∙ found.2)
      | inr there ↦ inr (ap not_yet_of_held there.1 ∙ found.2)
    ]

none_set : (i : InstanceEntry) (r : ℕ) (now : Option Held) → (not_yet_of_held now ≡ true → was_told_not_yet i r ≡ true) → NoneNew i (with_request i r now)
none_set i r now keeps s told = elim (set_told i r s now told) [
  | inl here ↦ subst (λ (q : ℕ). was_told_not_yet i q ≡ true) (sym here.0) (keeps here.1)
  | inr was ↦ was
]

pub none_without : (i : InstanceEntry) (r : ℕ) → NoneNew i (without_request i r)
none_without i r = none_set i r None (λ told. absurd (cc))

-- a request that is held goes on with the same mark
pub none_same : (i : InstanceEntry) → NoneNew i i
none_same i s told = told

-- ---- asks, acceptances, puts
ask_by : (i : InstanceEntry) (request : Request) (full : Bool) → NoneNew i (if full then stays {A = Unit {0}} i (cause.Full (in_flight i)) else record { left = with_request i (session_of request) (Some (just_asked request)); answer = Ok tt }).left
ask_by i request true = none_same i
ask_by i request false = none_set i (session_of request) (Some (just_asked request)) (λ told. absurd (cc))

pub ask_none : (i : InstanceEntry) (request : Request) → NoneNew i (instance_ask i request).left
ask_none i request = ask_by i request (in_flight i == i.slots)

asked_none : (i : InstanceEntry) (r reading : ℕ) (held : Held) (p : Progress) → held_of i r ≡ Some held → NoneNew i (accept_if_asked i r reading held p).left
asked_none i r reading held p has = grind (arith, none_set, none_without, none_same)

pub accept_none : (i : InstanceEntry) (r reading : ℕ) → NoneNew i (instance_accept i r reading).left
accept_none i r reading = grind (arith, none_same, asked_none)

pub settle_none : (i : InstanceEntry) (r : ℕ) (how : How) → NoneNew i (instance_settle i r how).left
settle_none i r how = grind (arith, none_same, none_set)

-- ---- decisions
free_none : (i : InstanceEntry) (r : ℕ) (held : Held) (out : Bool) → held_of i r ≡ Some held → NoneNew i (if out then out_of_stamps i r held i.stop else decide_drawn i r held (i.last + 1)).left
free_none i r held out has = grind (arith, none_set, none_without)

pub decide_none : (i : InstanceEntry) (r : ℕ) (reads : List ℕ) → NoneNew i (decide_both i r reads).left
decide_none i r reads = grind (arith, none_same, free_none, none_without)
