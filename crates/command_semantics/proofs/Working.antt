-- For turn_rules and grant_laws too.
-- What a session that may make a step has under way: a read, the resolve of its own commit, a completion, or a commit to place.
use Rattle.std.proofs.Common.{arith}
use Rattle.std.proofs.lemmas.Grind.{common_steps}
use Rattle.command_semantics.proofs.Names.{◌≡◌, ℕ, Bool, true, false, IsTrue, List, [], ◌∷◌, Option, Some, None, ◌⊎◌}
use Rattle.command_semantics.proofs.Names.{inl, inr, refl, sym, ◌∙◌, ap, subst, Item, Ask, SessionState, finish_asks}
use Rattle.command_semantics.proofs.Names.{undo_asks, Settling, own_settling, Reading, step_refusal, has_transaction}
use Rattle.command_semantics.proofs.Names.{handed_commit, UnderWay, Nothing, Settles, Completes, Client}
use Rattle.command_semantics.proofs.Names.{State, is_reading, own_resolve, work_by, work_of, ClientAt}
use Rattle.command_semantics.proofs.Names.{ReachedInvariant, one_client}
use Rattle.system_parts.specs.declared.session.State.TheVariants as phase
use Rattle.machine.specs.State.{Reads}

pub record ReadWork (c : Client) : Type 0 where
  pub r : Reading
  pub is_open : c.entry.state ≡ phase.Open
  pub under_way : c.under_way ≡ Reads r

pub record SettleWork (c : Client) : Type 0 where
  pub x : Settling
  pub is_open : c.entry.state ≡ phase.OpenOutcome
  pub work : work_of c ≡ Settles x

pub record CompleteWork (c : Client) : Type 0 where
  pub undo : Bool
  pub asked : Ask
  pub asks : List Ask
  pub completing : c.entry.state ≡ phase.Completing undo
  pub under_way : c.under_way ≡ Completes (asked ∷ asks)

pub record PlaceWork (c : Client) : Type 0 where
  pub start : ℕ
  pub commit : ℕ
  pub placing : c.entry.state ≡ phase.Placing
  pub handed : handed_commit c.entry ≡ Some (start, commit)

abbrev pub HasWork : Client → Type 0
HasWork c = ReadWork c ⊎ SettleWork c ⊎ CompleteWork c ⊎ PlaceWork c

-- ---- a read is that of an open transaction
reads : (w : State) (h : List Item) (s : ℕ) (c : Client) (r : Reading) → ReachedInvariant w h → ClientAt w.clients s c → c.under_way ≡ Reads r → ReadWork c
reads w h s c r stands at is =
    let open_at = (stands.holds.reads.reading.reads s c r at is).2 in
    record { r = r; is_open = ap (λ (d : Client). d.entry.state) (one_client w.clients s c open_at.client at open_at.at) ∙ open_at.state_is; under_way = is }

-- ---- a resolve is under way, or is due
due : (c : Client) → c.entry.state ≡ phase.OpenOutcome → c.under_way ≡ Nothing → (start : ℕ) → c.entry.start ≡ Some start → (keys : List ℕ) → c.entry.keys ≡ keys → (keys ≡ [] → ⊥) → SettleWork c
due c is_open none start start_is [] keys_are some = absurd (some refl)
due c is_open none start start_is (key ∷ keys) keys_are some = record {
  x = own_settling key start;
  is_open = is_open;
  work = ap (λ (state : SessionState). work_by state c.entry c.under_way) is_open ∙ ap (λ (work : UnderWay). work_by phase.OpenOutcome c.entry work) none ∙ ap (λ (t : Option ℕ). own_resolve t c.entry.keys) start_is ∙ ap (λ (ks : List ℕ). own_resolve (Some start) ks) keys_are;
}

settles : (w : State) (h : List Item) (s : ℕ) (c : Client) → ReachedInvariant w h → ClientAt w.clients s c → c.entry.state ≡ phase.OpenOutcome → SettleWork c
settles w h s c stands at is_open = elim (stands.holds.under_way.settling.resolve s c at is_open) [
  | inl none ↦
      let begun = stands.holds.requests.have_begun.begun s c at (subst (λ (state : SessionState). IsTrue (has_transaction state)) (sym is_open) refl) in
      due c is_open none begun.0 begun.1 c.entry.keys refl (stands.holds.requests.keys.some s c at (inr (inl is_open)))
  | inr (x, t, under_way, start, own) ↦ record {
    x = x;
    is_open = is_open;
    work = ap (λ (state : SessionState). work_by state c.entry c.under_way) is_open ∙ ap (λ (work : UnderWay). work_by phase.OpenOutcome c.entry work) under_way;
  }
]

-- ---- a completion has an ask
no_finish : (t commit : ℕ) (left : List ℕ) → [] ≡ finish_asks t commit left → ⊥
no_finish t commit left is = grind (arith, common_steps)

no_undo : (t : ℕ) (left : List ℕ) → [] ≡ undo_asks t left → (left ≡ [] → ⊥) → ⊥
no_undo t [] is some = some refl
no_undo t (k ∷ ks) is some = cc

completes_by : (w : State) (h : List Item) (s : ℕ) (c : Client) → ReachedInvariant w h → ClientAt w.clients s c → (undo : Bool) → c.entry.state ≡ phase.Completing undo → (asks : List Ask) → c.under_way ≡ Completes asks → CompleteWork c
completes_by w h s c stands at undo is (asked ∷ asks) under_way = record { undo = undo; asked = asked; asks = asks; completing = is; under_way = under_way }
completes_by w h s c stands at false is [] under_way =
    let finish = stands.holds.under_way.finishing.finish s c [] at is under_way in
    absurd (no_finish finish.0 finish.1 finish.4.left finish.4.shape)
completes_by w h s c stands at true is [] under_way =
    let begun = stands.holds.requests.have_begun.begun s c at (subst (λ (state : SessionState). IsTrue (has_transaction state)) (sym is) refl) in
    let undo = stands.holds.under_way.undoing.undo s begun.0 c [] at is begun.1 under_way in
    absurd (no_undo begun.0 undo.left undo.shape undo.some)

pub completes : (w : State) (h : List Item) (s : ℕ) (c : Client) → ReachedInvariant w h → ClientAt w.clients s c → (undo : Bool) → c.entry.state ≡ phase.Completing undo → CompleteWork c
completes w h s c stands at undo is = grind (arith, completes_by)

-- ---- a commit that was handed over is known, with its start
pub handed_is : (c : Client) (start commit : ℕ) → c.entry.state ≡ phase.Placing → c.entry.start ≡ Some start → c.entry.commit ≡ Some commit → handed_commit c.entry ≡ Some (start, commit)
handed_is c start commit placing start_is commit_is = grind arith

pub places_commit : (w : State) (h : List Item) (s : ℕ) (c : Client) → ReachedInvariant w h → ClientAt w.clients s c → c.entry.state ≡ phase.Placing → PlaceWork c
places_commit w h s c stands at is =
    let begun = stands.holds.requests.have_begun.begun s c at (subst (λ (state : SessionState). IsTrue (has_transaction state)) (sym is) refl) in
    grind (arith, handed_is)

-- ---- any of them
idle : (w : State) (h : List Item) (s : ℕ) (c : Client) → ReachedInvariant w h → ClientAt w.clients s c → step_refusal c.entry.state (is_reading c) ≡ None → is_reading c ≡ false → HasWork c
idle w h s c stands at go none = grind (arith, settles, completes, places_commit)

by_work : (w : State) (h : List Item) (s : ℕ) (c : Client) → ReachedInvariant w h → ClientAt w.clients s c → step_refusal c.entry.state (is_reading c) ≡ None → (work : UnderWay) → c.under_way ≡ work → HasWork c
by_work w h s c stands at go work is = grind (arith, reads, idle)

pub has_work : (w : State) (h : List Item) (s : ℕ) (c : Client) → ReachedInvariant w h → ClientAt w.clients s c → step_refusal c.entry.state (is_reading c) ≡ None → HasWork c
has_work w h s c stands at go = by_work w h s c stands at go c.under_way refl
