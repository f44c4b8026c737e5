-- One event: a step that a session has still to make is made, fails, or is left; or the session vanishes.
use Rattle.std.proofs.Common.{arith}
use Rattle.request_completion.proofs.Names.{◌≡◌, ℕ, Bool, List, [], ◌∷◌, ◌++◌, Option, Some, ◌⊎◌, inl, inr, refl, sym}
use Rattle.request_completion.proofs.Names.{◌∙◌, ap, subst, slice_set, cases_eq, Fate, ◌∈◌, Session, Item, in_front}
use Rattle.request_completion.proofs.Names.{in_back, Ask, Told, SessionState, vanish_refusal, Event}
use Rattle.request_completion.proofs.Names.{Completes, Client, State, client_vanished, Step, stepped, at_client}
use Rattle.request_completion.proofs.Names.{step_by, with_client, after_asks, vanish_by, vanish_on, step_item, store_of}
use Rattle.request_completion.proofs.Names.{ClientAt, client_set, ExplainedInvariant, GoesOn, AreGoneSince, IsToAsk}
use Rattle.request_completion.proofs.Names.{HasVanished, Comes, Made, Failed, Vanished, Left, SessionTransition}
use Rattle.history_book.specs.declared.item.Item.TheVariants as item
use Rattle.system_parts.specs.declared.session.State.TheVariants as phase
use Rattle.machine.specs.declared.event.Event.TheVariants as event
use Rattle.request_completion.proofs.EventFacts.{still_there}
use Rattle.request_completion.proofs.LeftByOthers.{others_leave_completions}
use Rattle.request_completion.proofs.CompletionMoves.{steps_move_completions}
use Rattle.request_completion.proofs.SinceKept.{gone_kept}
use Rattle.request_completion.proofs.TurnsOfOutcomes.{session_turns}

-- ---- whose event it is
which : (e : Event) (s : ℕ) → (e ≡ event.Step s) ⊎ ((e ≡ event.Vanish s) ⊎ ((e ≡ event.Step s → ⊥) × (e ≡ event.Vanish s → ⊥)))
which e s = grind (arith, cases_eq)

-- ---- a session that is gone stays so
gone_stays : (h : List Item) (s : ℕ) (c d : Client) (items : List Item) → SessionTransition h s c items d → c.entry.state ≡ phase.Gone → d.entry.state ≡ phase.Gone
gone_stays h s c d items h1 gone = grind arith

pub gone_vanished : (w : State) (h : List Item) (e : Event) (fate : Fate) (s : ℕ) (c : Client) → ExplainedInvariant w h → AreGoneSince w.clients h → ClientAt w.clients s c → c.entry.state ≡ phase.Gone → HasVanished (stepped w e fate).state.clients (h ++ (stepped w e fate).items) s
gone_vanished w h e fate s c tells are at gone =
    let there : (d : Client) × ClientAt (stepped w e fate).state.clients s d = still_there w e fate s c at in
    let now : there.0.entry.state ≡ phase.Gone = gone_stays h s c there.0 (stepped w e fate).items (session_turns w h e fate s c there.0 tells at there.1) gone in
    record { client = there.0; at = there.1; gone = now; told = (gone_kept w h e fate tells are).vanished s there.0 there.1 now }

-- ---- its own step
-- what is left after the first
left_on : (clients : List Client) (s start : ℕ) (undo : Bool) (asked : Ask) (c d : Client) (asks : List Ask) → ClientAt clients s d → d ≡ after_asks c asks → c.entry.state ≡ phase.Completing undo → c.entry.start ≡ Some start → asked ∈ asks → IsToAsk clients s start undo asked
unfolding ◌∈◌
left_on clients s start undo asked c d [] at is completes start_is m = absurd m
left_on clients s start undo asked c d (first ∷ rest) at is completes start_is m = record {
  client = d;
  at = at;
  completes = ap (λ (x : Client). x.entry.state) is ∙ completes;
  start_is = ap (λ (x : Client). x.entry.start) is ∙ start_is;
  asks = first ∷ rest;
  under_way = ap (λ (x : Client). x.under_way) is;
  left = m;
}

step_on : (clients : List Client) (h : List Item) (s start : ℕ) (undo : Bool) (asked first : Ask) (rest : List Ask) (made : Item) (c d : Client) (items : List Item) → ((answer : Told) → step_item (Session s) asked answer ≡ made) → ClientAt clients s d → c.entry.state ≡ phase.Completing undo → c.entry.start ≡ Some start → asked ∈ (first ∷ rest) → GoesOn s c first rest items d → Comes clients h s start undo asked made items
unfolding ◌∈◌
step_on clients h s start undo asked first rest made c d items tells at completes start_is (inl same) (inl (answer, told, is)) =
    Made (subst (λ (xs : List Item). made ∈ xs) (sym told) (inl (sym (tells answer) ∙ ap (λ (a : Ask). step_item (Session s) a answer) same)))
step_on clients h s start undo asked first rest made c d items tells at completes start_is (inr deeper) (inl (answer, told, is)) = Left (left_on clients s start undo asked c d rest at is completes start_is deeper)
step_on clients h s start undo asked first rest made c d items tells at completes start_is m (inr (fault, is)) = Failed (store_of first) fault

by_asks : (w : State) (h : List Item) (fate : Fate) (s start : ℕ) (undo : Bool) (asked : Ask) (made : Item) (c : Client) (asks : List Ask) → ((answer : Told) → step_item (Session s) asked answer ≡ made) → ClientAt w.clients s c → c.entry.state ≡ phase.Completing undo → c.entry.start ≡ Some start → c.under_way ≡ Completes asks → asked ∈ asks → Comes (stepped w (event.Step s) fate).state.clients (h ++ (stepped w (event.Step s) fate).items) s start undo asked made (stepped w (event.Step s) fate).items
unfolding ◌∈◌
by_asks w h fate s start undo asked made c [] tells at completes start_is under_way m = absurd m
by_asks w h fate s start undo asked made c (first ∷ rest) tells at completes start_is under_way m =
    let there : (d : Client) × ClientAt (stepped w (event.Step s) fate).state.clients s d = still_there w (event.Step s) fate s c at in
    step_on (stepped w (event.Step s) fate).state.clients (h ++ (stepped w (event.Step s) fate).items) s start undo asked first rest made c there.0 (stepped w (event.Step s) fate).items tells there.1 completes start_is m
    (steps_move_completions w s fate c there.0 undo first rest at completes under_way there.1)

-- ---- it vanishes
vanish_is : (w : State) (s : ℕ) (fate : Fate) (c : Client) (undo : Bool) → ClientAt w.clients s c → c.entry.state ≡ phase.Completing undo → (stepped w (event.Vanish s) fate).state.clients ≡ slice_set w.clients s (client_vanished c)
vanish_is w s fate c undo at completes =
    let f : Client → Step = λ x. step_by (vanish_on s x) (λ p. with_client w s p) in
    ap (λ (found : Option Client). (at_client w found f).state.clients) at ∙ ap (λ (state : SessionState). slice_set w.clients s (vanish_by s c (vanish_refusal state)).parts) completes

vanishes : (w : State) (h : List Item) (fate : Fate) (s start : ℕ) (undo : Bool) (asked : Ask) (made : Item) (c : Client) → ExplainedInvariant w h → AreGoneSince w.clients h → ClientAt w.clients s c → c.entry.state ≡ phase.Completing undo → Comes (stepped w (event.Vanish s) fate).state.clients (h ++ (stepped w (event.Vanish s) fate).items) s start undo asked made (stepped w (event.Vanish s) fate).items
vanishes w h fate s start undo asked made c tells are at completes =
    let there : (d : Client) × ClientAt (stepped w (event.Vanish s) fate).state.clients s d = still_there w (event.Vanish s) fate s c at in
    let set : ClientAt (slice_set w.clients s (client_vanished c)) s there.0 = subst (λ (clients : List Client). ClientAt clients s there.0) (vanish_is w s fate c undo at completes) there.1 in
    let gone : there.0.entry.state ≡ phase.Gone = elim (client_set w.clients s s (client_vanished c) there.0 set) [ inl here ↦ ap (λ (x : Client). x.entry.state) here.1 | inr other ↦ absurd (other.0 refl) ] in
    Vanished (record { client = there.0; at = there.1; gone = gone; told = (gone_kept w h (event.Vanish s) fate tells are).vanished s there.0 there.1 gone })

-- ---- any event
stays : (w : State) (h : List Item) (e : Event) (fate : Fate) (s start : ℕ) (undo : Bool) (asked : Ask) (k : IsToAsk w.clients s start undo asked) → ExplainedInvariant w h → (e ≡ event.Step s → ⊥) → (e ≡ event.Vanish s → ⊥) → IsToAsk (stepped w e fate).state.clients s start undo asked
stays w h e fate s start undo asked k tells no_step no_vanish =
    let there : (d : Client) × ClientAt (stepped w e fate).state.clients s d = still_there w e fate s k.client k.at in
    let same : there.0 ≡ k.client = others_leave_completions w h e fate s k.client there.0 undo tells.stands k.at k.completes no_step no_vanish there.1 in
    record {
      client = k.client;
      at = subst (λ (x : Client). ClientAt (stepped w e fate).state.clients s x) same there.1;
      completes = k.completes;
      start_is = k.start_is;
      asks = k.asks;
      under_way = k.under_way;
      left = k.left;
    }

pub goes_on : (w : State) (h : List Item) (e : Event) (fate : Fate) (s start : ℕ) (undo : Bool) (asked : Ask) (made : Item) → ExplainedInvariant w h → AreGoneSince w.clients h → ((answer : Told) → step_item (Session s) asked answer ≡ made) → IsToAsk w.clients s start undo asked → Comes (stepped w e fate).state.clients (h ++ (stepped w e fate).items) s start undo asked made (stepped w e fate).items
goes_on w h e fate s start undo asked made tells are makes k = elim (which e s) [
  | inl step ↦
      subst (λ (x : Event). Comes (stepped w x fate).state.clients (h ++ (stepped w x fate).items) s start undo asked made (stepped w x fate).items) (sym step)
      (by_asks w h fate s start undo asked made k.client k.asks makes k.at k.completes k.start_is k.under_way k.left)
  | inr (inl vanish) ↦
      subst (λ (x : Event). Comes (stepped w x fate).state.clients (h ++ (stepped w x fate).items) s start undo asked made (stepped w x fate).items) (sym vanish)
      (vanishes w h fate s start undo asked made k.client tells are k.at k.completes)
  | inr (inr other) ↦ Left (stays w h e fate s start undo asked k tells other.0 other.1)
]

-- what came of it before, and what comes of it now
behind_more : (clients : List Client) (h : List Item) (s start : ℕ) (undo : Bool) (asked : Ask) (made : Item) (rest items : List Item) → Comes clients h s start undo asked made items → Comes clients h s start undo asked made (rest ++ items)
behind_more clients h s start undo asked made rest items (Made m) = Made (in_back made rest items m)
behind_more clients h s start undo asked made rest items (Failed store m) = Failed store (in_back (item.Fault (Session s) store) rest items m)
behind_more clients h s start undo asked made rest items (Vanished v) = Vanished v
behind_more clients h s start undo asked made rest items (Left k) = Left k

pub comes_on : (w : State) (h : List Item) (e : Event) (fate : Fate) (s start : ℕ) (undo : Bool) (asked : Ask) (made : Item) (rest : List Item) → ExplainedInvariant w h → AreGoneSince w.clients h → ((answer : Told) → step_item (Session s) asked answer ≡ made) → Comes w.clients h s start undo asked made rest → Comes (stepped w e fate).state.clients (h ++ (stepped w e fate).items) s start undo asked made (rest ++ (stepped w e fate).items)
comes_on w h e fate s start undo asked made rest tells are makes (Made m) = Made (in_front made rest (stepped w e fate).items m)
comes_on w h e fate s start undo asked made rest tells are makes (Failed store m) = Failed store (in_front (item.Fault (Session s) store) rest (stepped w e fate).items m)
comes_on w h e fate s start undo asked made rest tells are makes (Vanished v) = Vanished (gone_vanished w h e fate s v.client tells are v.at v.gone)
comes_on w h e fate s start undo asked made rest tells are makes (Left k) =
    behind_more (stepped w e fate).state.clients (h ++ (stepped w e fate).items) s start undo asked made rest (stepped w e fate).items (goes_on w h e fate s start undo asked made tells are makes k)
