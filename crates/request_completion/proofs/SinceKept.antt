-- Every event keeps what the history shows since a session's last ask.
use Rattle.std.proofs.Common.{arith}
use Rattle.request_completion.proofs.Names.{◌≡◌, ℕ, true, List, [], ◌∷◌, ◌++◌, Some, ◌⊎◌, inl, inr, refl, sym}
use Rattle.request_completion.proofs.Names.{◌∙◌, subst, Fate, ◌∈◌, Session, Item, in_last, SessionState}
use Rattle.request_completion.proofs.Names.{SessionEntry, Held, Request, Begin, Commit, InstanceEntry, held_of, Event}
use Rattle.request_completion.proofs.Names.{Client, State, stepped, since_ask, InstanceAt, ClientAt, WaitsFor, held_by}
use Rattle.request_completion.proofs.Names.{ExplainedInvariant, IsCommitting, IsUndone, SessionTransition}
use Rattle.request_completion.proofs.Names.{WasToldToWait, AreToldWaits}
use Rattle.request_completion.proofs.Names.{AreGoneSince, WasToldOpen, AreToldOpen}
use Rattle.history_book.specs.declared.cause.Cause.TheVariants as cause
use Rattle.history_book.specs.declared.item.Item.TheVariants as item
use Rattle.system_parts.specs.declared.session.State.TheVariants as phase
use Rattle.request_completion.proofs.AskItems.{NoneAsked, ask_stays, since_was, since_now, one_unasked}
use Rattle.request_completion.proofs.EventFacts.{was_there, none_asks}
use Rattle.request_completion.proofs.SessionTurns.{aborted_undone}
use Rattle.request_completion.proofs.TurnsOfOutcomes.{session_turns}
use Rattle.request_completion.proofs.WaitFlags.{told_of}
use Rattle.request_completion.proofs.WaitMarks.{waits_marked}

-- ---- who waits does not ask
waits_not_free : (request : Request) (c : Client) → WaitsFor request c → c.entry.state ≡ phase.Free → ⊥
waits_not_free (Begin asker) c (inl gone) is = let clash : phase.Gone ≡ phase.Free = sym gone ∙ is in cc
waits_not_free (Begin asker) c (inr asking) is = let clash : phase.Asking ≡ phase.Free = sym asking ∙ is in cc
waits_not_free (Commit asker start keys) c (inl gone) is = let clash : phase.Gone ≡ phase.Free = sym gone ∙ is in cc
waits_not_free (Commit asker start keys) c (inr committing) is = let clash : phase.Committing ≡ phase.Free = sym committing.0 ∙ is in cc

waits_not_open : (request : Request) (c : Client) → WaitsFor request c → c.entry.state ≡ phase.Open → ⊥
waits_not_open (Begin asker) c (inl gone) is = let clash : phase.Gone ≡ phase.Open = sym gone ∙ is in cc
waits_not_open (Begin asker) c (inr asking) is = let clash : phase.Asking ≡ phase.Open = sym asking ∙ is in cc
waits_not_open (Commit asker start keys) c (inl gone) is = let clash : phase.Gone ≡ phase.Open = sym gone ∙ is in cc
waits_not_open (Commit asker start keys) c (inr committing) is = let clash : phase.Committing ≡ phase.Open = sym committing.0 ∙ is in cc

-- while a node holds its request
held_asks_none : (w : State) (h : List Item) (e : Event) (fate : Fate) (n s : ℕ) (i : InstanceEntry) (held : Held) → ExplainedInvariant w h → InstanceAt w.nodes n i → held_of i s ≡ Some held → NoneAsked s (stepped w e fate).items
held_asks_none w h e fate n s i held tells at has =
    let waits : (c : Client) × ClientAt w.clients s c × WaitsFor held.request c = tells.stands.holds.requests.requests.waits n s i held.request held.progress at (held_by i s held has) in
    none_asks w h e fate s waits.0 tells.stands waits.1 (waits_not_free held.request waits.0 waits.2) (waits_not_open held.request waits.0 waits.2)

told_now : (h : List Item) (s commit : ℕ) → item.Refused (Session s) (cause.NotYet commit) ∈ since_ask (h ++ item.Refused (Session s) (cause.NotYet commit) ∷ []) s
told_now h s commit =
    let x : Item = item.Refused (Session s) (cause.NotYet commit) in
    since_now x h (x ∷ []) s (one_unasked s x refl) (in_last x [])

pub waits_kept : (w : State) (h : List Item) (e : Event) (fate : Fate) → ExplainedInvariant w h → AreToldWaits w.nodes h → AreToldWaits (stepped w e fate).state.nodes (h ++ (stepped w e fate).items)
waits_kept w h e fate tells waits = record {
  told = λ n s j at marked. elim (waits_marked w e fate n s j at marked) [
    | inl was ↦
        let held : (found : Held) × (held_of was.0 s ≡ Some found) × (found.told_not_yet ≡ true) = told_of (held_of was.0 s) was.2 in
        let old : WasToldToWait h s = waits.told n s was.0 was.1 was.2 in
        (old.0, since_was (item.Refused (Session s) (cause.NotYet old.0)) h (stepped w e fate).items s (held_asks_none w h e fate n s was.0 held.0 tells was.1 held.1) old.1)
    | inr now ↦ (now.0, subst (λ (xs : List Item). item.Refused (Session s) (cause.NotYet now.0) ∈ since_ask (h ++ xs) s) (sym now.1) (told_now h s now.0))
  ];
}

-- ---- who is gone
pub undone_not : (old new : SessionEntry) (state : SessionState) → IsUndone old new → (phase.Completing true ≡ state → ⊥) → (phase.Free ≡ state → ⊥) → new.state ≡ state → ⊥
undone_not old new state (inl completing) one two is = one (sym completing.0 ∙ is)
undone_not old new state (inr free) one two is = two (sym free ∙ is)

gone_by : (h : List Item) (s : ℕ) (c d : Client) (items : List Item) → SessionTransition h s c items d → d.entry.state ≡ phase.Gone → (c.entry.state ≡ phase.Gone) ⊎ (items ≡ item.Vanish s ∷ [])
gone_by h s c d items h1 gone = grind (arith, undone_not, aborted_undone)

gone_asks_none : (w : State) (h : List Item) (e : Event) (fate : Fate) (s : ℕ) (c : Client) → ExplainedInvariant w h → ClientAt w.clients s c → c.entry.state ≡ phase.Gone → NoneAsked s (stepped w e fate).items
gone_asks_none w h e fate s c tells at gone = none_asks w h e fate s c tells.stands at (λ is. let clash : phase.Gone ≡ phase.Free = sym gone ∙ is in cc) (λ is. let clash : phase.Gone ≡ phase.Open = sym gone ∙ is in cc)

pub gone_kept : (w : State) (h : List Item) (e : Event) (fate : Fate) → ExplainedInvariant w h → AreGoneSince w.clients h → AreGoneSince (stepped w e fate).state.clients (h ++ (stepped w e fate).items)
gone_kept w h e fate tells are = record {
  vanished = λ s d there gone.
      let was : (c : Client) × ClientAt w.clients s c = was_there w e fate s d there in
      elim (gone_by h s was.0 d (stepped w e fate).items (session_turns w h e fate s was.0 d tells was.1 there) gone) [
        | inl before ↦ since_was (item.Vanish s) h (stepped w e fate).items s (gone_asks_none w h e fate s was.0 tells was.1 before) (are.vanished s was.0 was.1 before)
        | inr now ↦ subst (λ (xs : List Item). item.Vanish s ∈ since_ask (h ++ xs) s) (sym now) (since_now (item.Vanish s) h (item.Vanish s ∷ []) s (one_unasked s (item.Vanish s) refl) (in_last (item.Vanish s) []))
      ];
}

-- ---- whose outcome is open
open_by : (h : List Item) (s : ℕ) (c d : Client) (items : List Item) → SessionTransition h s c items d → d.entry.state ≡ phase.OpenOutcome → ((c.entry.state ≡ phase.OpenOutcome) × (d.entry.start ≡ c.entry.start)) ⊎ ((start : ℕ) × IsCommitting h s start c × (item.Refused (Session s) (cause.Open start) ∈ items) × (d.entry.start ≡ c.entry.start))
open_by h s c d items h1 is_open = grind (arith, undone_not, aborted_undone)

open_asks_none : (w : State) (h : List Item) (e : Event) (fate : Fate) (s : ℕ) (c : Client) → ExplainedInvariant w h → ClientAt w.clients s c → c.entry.state ≡ phase.OpenOutcome → NoneAsked s (stepped w e fate).items
open_asks_none w h e fate s c tells at is_open = none_asks w h e fate s c tells.stands at (λ is. let clash : phase.OpenOutcome ≡ phase.Free = sym is_open ∙ is in cc) (λ is. let clash : phase.OpenOutcome ≡ phase.Open = sym is_open ∙ is in cc)

committing_not_free : (state : SessionState) → (state ≡ phase.Committing) ⊎ (state ≡ phase.Placing) → state ≡ phase.Free → ⊥
committing_not_free state (inl committing) is = let clash : phase.Committing ≡ phase.Free = sym committing ∙ is in cc
committing_not_free state (inr placing) is = let clash : phase.Placing ≡ phase.Free = sym placing ∙ is in cc

committing_not_open : (state : SessionState) → (state ≡ phase.Committing) ⊎ (state ≡ phase.Placing) → state ≡ phase.Open → ⊥
committing_not_open state (inl committing) is = let clash : phase.Committing ≡ phase.Open = sym committing ∙ is in cc
committing_not_open state (inr placing) is = let clash : phase.Placing ≡ phase.Open = sym placing ∙ is in cc

pub outcomes_kept : (w : State) (h : List Item) (e : Event) (fate : Fate) → ExplainedInvariant w h → AreToldOpen w.clients h → AreToldOpen (stepped w e fate).state.clients (h ++ (stepped w e fate).items)
outcomes_kept w h e fate tells are = record {
  told = λ s d there is_open.
      let was : (c : Client) × ClientAt w.clients s c = was_there w e fate s d there in
      elim (open_by h s was.0 d (stepped w e fate).items (session_turns w h e fate s was.0 d tells was.1 there) is_open) [
        | inl before ↦
            let old : WasToldOpen h s was.0 = are.told s was.0 was.1 before.0 in
            let none : NoneAsked s (stepped w e fate).items = open_asks_none w h e fate s was.0 tells was.1 before.0 in
            record { start = old.start; start_is = before.1 ∙ old.start_is; node = old.node; asked = ask_stays h (stepped w e fate).items s none ∙ old.asked; told = since_was _ h (stepped w e fate).items s none old.told }
        | inr now ↦
            let waits : IsCommitting h s now.0 was.0 = now.1 in
            let none : NoneAsked s (stepped w e fate).items = none_asks w h e fate s was.0 tells.stands was.1 (committing_not_free was.0.entry.state waits.state) (committing_not_open was.0.entry.state waits.state) in
            record { start = now.0; start_is = now.3 ∙ waits.start_is; node = waits.asked.0; asked = ask_stays h (stepped w e fate).items s none ∙ waits.asked.1; told = since_now _ h (stepped w e fate).items s none now.2 }
      ];
}
