-- Which items neither ask, draw, tell a start nor hand a commit over: most outcomes tell nothing else.
use Rattle.std.proofs.Common.{arith}
use Rattle.service_laws.proofs.Names.{◌≡◌, ℕ, ◌+◌, Bool, true, false, List, [], ◌∷◌, ◌++◌, append_assoc, Option}
use Rattle.service_laws.proofs.Names.{inl, inr, refl, sym, subst, All, ne_eqb, append-nil, All-nil, All-cons}
use Rattle.service_laws.proofs.Names.{All-head, All-tail, All-append, ◌∈◌, AtEach, Session, Handed}
use Rattle.service_laws.proofs.Names.{Item, AtEach-push, SettleTurn}
use Rattle.service_laws.proofs.Names.{Held, Request, Settled, InstanceEntry, Client, State}
use Rattle.service_laws.proofs.Names.{crashed_items, all_crashed_items, draw_item}
use Rattle.service_laws.proofs.Names.{settle_items, Silent, AllSilent, answered_item}
use Rattle.service_laws.proofs.Names.{own_told, Outcome, OfAskedBegin, OfAskedCommit}
use Rattle.service_laws.proofs.Names.{OfDrew, OfAnsweredBegin, OfHanded}
use Rattle.service_laws.proofs.Names.{told_by_outcome, asks_for, InstanceAt, HeldBy}
use Rattle.service_laws.proofs.Names.{IsolationInvariant, not_true, free_waits, open_waits, none_held, fault_if_silent}
use Rattle.service_laws.proofs.Names.{silent_items}
use Rattle.history_book.specs.declared.item.Item.TheVariants as item
use Rattle.system_parts.specs.declared.session.State.TheVariants as phase
use Rattle.system_parts.specs.declared.instance.Progress.{Progress}

-- the item asks, draws, tells a start or hands a commit over
abbrev pub is_stamping : Item → Bool
is_stamping (item.AskBegin session node) = true
is_stamping (item.AskCommit session node start) = true
is_stamping (item.Draw session node term start commit) = true
is_stamping (item.Begin session start) = true
is_stamping (item.Step actor (Handed start commit)) = true
is_stamping _ = false

abbrev pub IsCalm : Item → Type 0
IsCalm x = is_stamping x ≡ false

abbrev pub AllCalm : List Item → Type 0
AllCalm items = All IsCalm items

one_calm : (x : Item) → IsCalm x → AllCalm (x ∷ [])
one_calm x calm = All-cons IsCalm x [] calm (All-nil IsCalm)

these_calm : (items these : List Item) → items ≡ these → AllCalm these → AllCalm items
these_calm items these is calm = subst AllCalm (sym is) calm

pub calm_in : (x : Item) (items : List Item) → AllCalm items → x ∈ items → IsCalm x
unfolding ◌∈◌
calm_in x [] calm m = absurd m
calm_in x (y ∷ ys) calm m = elim m [
  | inl same ↦ subst (λ (z : Item). IsCalm z) (sym same) (All-head IsCalm y ys calm)
  | inr deeper ↦ calm_in x ys (All-tail IsCalm y ys calm) deeper
]

silent_calm : (x : Item) → Silent x → IsCalm x
silent_calm x silent = grind (arith, not_true)

all_silent_calm : (items : List Item) → AllSilent items → AllCalm items
all_silent_calm items silent = grind (arith, not_true)

-- ---- what some outcomes tell
lost_calm : (node term : ℕ) (held : Option Held) (c : Client) → AllCalm (crashed_items node term held c)
lost_calm node term held c = grind arith

crash_calm : (node term : ℕ) (requests : List (Option Held)) (cs : List Client) → AllCalm (all_crashed_items node term requests cs)
unfolding all_crashed_items
crash_calm node term [] cs = All-nil IsCalm
crash_calm node term (held ∷ others) [] = All-nil IsCalm
crash_calm node term (held ∷ others) (c ∷ cs) = All-append IsCalm (crashed_items node term held c) (all_crashed_items node term others cs) (lost_calm node term held c) (crash_calm node term others cs)

answered_calm : (by : Settled) (session start commit : ℕ) → IsCalm (answered_item by session start commit)
answered_calm by session start commit = grind arith

own_calm : (by : Settled) (session start commit : ℕ) → AllCalm (own_told by session start commit)
own_calm by session start commit = grind arith

settle_calm : (session : ℕ) (start : Option ℕ) (turn : SettleTurn) → AllCalm (settle_items session start turn)
settle_calm session start turn = grind arith

-- ---- every outcome
abbrev pub may_stamp : {w : State} → Outcome w → Bool
may_stamp (OfAskedBegin k) = true
may_stamp (OfAskedCommit k) = true
may_stamp (OfDrew k) = true
may_stamp (OfAnsweredBegin k) = true
may_stamp (OfHanded k) = true
may_stamp _ = false

pub others_calm : (w : State) (o : Outcome w) → may_stamp o ≡ false → AllCalm (told_by_outcome w o)
others_calm w o is =
    grind (arith, these_calm, all_silent_calm, fault_if_silent, crash_calm, one_calm, answered_calm, own_calm, silent_calm, settle_calm, silent_items)

-- ---- who is served asks nothing
abbrev pub IsNoAsk : ℕ → Item → Type 0
IsNoAsk s x = asks_for s x ≡ false

abbrev pub NoAsks : ℕ → List Item → Type 0
NoAsks s items = All (IsNoAsk s) items

one_no_ask : (s : ℕ) (x : Item) → IsNoAsk s x → NoAsks s (x ∷ [])
one_no_ask s x none = All-cons (IsNoAsk s) x [] none (All-nil (IsNoAsk s))

draw_no_ask : (s node term stamp : ℕ) (request : Request) → IsNoAsk s (draw_item node term request stamp)
draw_no_ask s node term stamp request = grind arith

pub draw_asks_none : (s node term stamp : ℕ) (request : Request) → NoAsks s (draw_item node term request stamp ∷ [])
draw_asks_none s node term stamp request = grind arith

pub calm_asks_none : (s : ℕ) (items : List Item) → AllCalm items → NoAsks s items
calm_asks_none s items calm = grind (arith, not_true)

pub served_asks_none : (w : State) (h : List Item) (o : Outcome w) (n s : ℕ) (i : InstanceEntry) (request : Request) (p : Progress) → IsolationInvariant w h → InstanceAt w.nodes n i → HeldBy i s request p → NoAsks s (told_by_outcome w o)
served_asks_none w h (OfAskedBegin k) n s i request p holds at held =
    one_no_ask s (item.AskBegin k.session k.node) (ne_eqb k.session s (λ same. none_held w.nodes w.clients k.session k.c phase.Free holds.requests.requests k.client_at k.free free_waits n i request p at (subst (λ (r : ℕ). HeldBy i r request p) (sym same) held)))
served_asks_none w h (OfAskedCommit k) n s i request p holds at held =
    subst (NoAsks s) (sym k.tells) (one_no_ask s (item.AskCommit k.session k.node k.start) (ne_eqb k.session s (λ same. none_held w.nodes w.clients k.session k.c phase.Open holds.requests.requests k.client_at k.is_open open_waits n i request p at (subst (λ (r : ℕ). HeldBy i r request p) (sym same) held))))
served_asks_none w h (OfDrew k) n s i request p holds at held = one_no_ask s (draw_item k.node k.i.term k.held.request (k.i.last + 1)) (draw_no_ask s k.node k.i.term (k.i.last + 1) k.held.request)
served_asks_none w h (OfAnsweredBegin k) n s i request p holds at held = one_no_ask s (item.Begin k.session k.start) refl
served_asks_none w h (OfHanded k) n s i request p holds at held = subst (NoAsks s) (sym k.tells) (one_no_ask s (item.Step (Session k.session) (Handed k.start k.commit)) refl)
served_asks_none w h o n s i request p holds at held = calm_asks_none s (told_by_outcome w o) (others_calm w o refl)

-- ---- what stands at each place stays, where each calm item fits
pub each_calm : (P : List Item → Item → Type 0) (h items : List Item) → ((before : List Item) (x : Item) → IsCalm x → P before x) → AllCalm items → AtEach P h → AtEach P (h ++ items)
each_calm P h [] all calm each = subst (λ (xs : List Item). AtEach P xs) (sym (append-nil h)) each
each_calm P h (x ∷ items) all calm each =
    let one : AtEach P (h ++ x ∷ []) = AtEach-push P h x each (all h x (All-head IsCalm x items calm)) in
    subst (λ (xs : List Item). AtEach P xs) (append_assoc h (x ∷ []) items) (each_calm P (h ++ x ∷ []) items all (All-tail IsCalm x items calm) one)
