-- For request_completion too.
-- What an outcome appends, by its begins and its placed commits: no outcome has more than one of them, and most have none.
use Rattle.isolation_laws.proofs.Names.{◌≡◌, ℕ, true, false, List, [], ◌∷◌, ◌++◌, append_assoc, inl, inr, refl, sym}
use Rattle.isolation_laws.proofs.Names.{◌∙◌, subst, append-nil, All-head, All-tail, ◌∈◌, AtEach, Committed, Item}
use Rattle.isolation_laws.proofs.Names.{AtEach-push, State, Begun, AllQuiet, IsolationInvariant, AnsweredBegin}
use Rattle.isolation_laws.proofs.Names.{answered_begin_items, Outcome, OfPlaced, OfOwnPlaced, OfAnsweredBegin}
use Rattle.isolation_laws.proofs.Names.{told_by_outcome}
use Rattle.history_book.specs.declared.item.Item.TheVariants as item
use Rattle.isolation_laws.proofs.Pushed.{in_append}
use Rattle.isolation_laws.proofs.Numbers.Placings.{PlacedPending, placed_item, by_its_node, by_its_session}
use Rattle.isolation_laws.proofs.Holding.NoStamps.{is_stamp, NoStamp, NoStamps}
use Rattle.isolation_laws.proofs.Holding.LeftAlone.{alone}

-- ---- the items of an outcome
pub data Stamping (w : State) (items : List Item) : Type 0 where
  StampsNone : NoStamps items → Stamping w items
  StampsPlaced : (p : PlacedPending w) (rest : List Item) → AllQuiet rest → items ≡ placed_item w p ∷ rest → Stamping w items
  StampsBegin : (k : AnsweredBegin w) → items ≡ answered_begin_items w k → Stamping w items

pub stamping : (w : State) (h : List Item) (o : Outcome w) → IsolationInvariant w h → Stamping w (told_by_outcome w o)
stamping w h (OfPlaced k) holds = StampsPlaced (by_its_node w h k holds) k.items k.quiet refl
stamping w h (OfOwnPlaced k) holds = StampsPlaced (by_its_session w k) k.items k.quiet refl
stamping w h (OfAnsweredBegin k) holds = StampsBegin k refl
stamping w h o holds = StampsNone ((alone w h o holds).items.stamps refl)

-- ---- what stands at each place stays, where each item that has no stamp fits
pub each_on : (P : List Item → Item → Type 0) (h items : List Item) → ((before : List Item) (x : Item) → NoStamp x → P before x) → NoStamps items → AtEach P h → AtEach P (h ++ items)
each_on P h [] all none each = subst (λ xs. AtEach P xs) (sym (append-nil h)) each
each_on P h (x ∷ items) all none each =
    let one : AtEach P (h ++ x ∷ []) = AtEach-push P h x each (all h x (All-head NoStamp x items none)) in
    subst (λ xs. AtEach P xs) (append_assoc h (x ∷ []) items) (each_on P (h ++ x ∷ []) items all (All-tail NoStamp x items none) one)

no_stamp_in : (x : Item) (items : List Item) → NoStamps items → x ∈ items → NoStamp x
unfolding ◌∈◌
no_stamp_in x [] none m = absurd m
no_stamp_in x (y ∷ ys) none m = elim m [
  | inl e ↦ subst (λ (z : Item). NoStamp z) (sym e) (All-head NoStamp y ys none)
  | inr deeper ↦ no_stamp_in x ys (All-tail NoStamp y ys none) deeper
]

stamp_old : (x : Item) (h items : List Item) → is_stamp x ≡ true → NoStamps items → x ∈ (h ++ items) → x ∈ h
stamp_old x h items stamp none m = elim (in_append x h items m) [
  | inl a ↦ a
  | inr b ↦ let clash : true ≡ false = sym stamp ∙ no_stamp_in x items none b in absurd (cc)
]

pub begin_old : (h items : List Item) (s t : ℕ) → NoStamps items → Begun (h ++ items) s t → Begun h s t
begin_old h items s t none m = stamp_old (item.Begin s t) h items refl none m

pub placed_old : (h items : List Item) (t c : ℕ) → NoStamps items → Committed (h ++ items) t c → Committed h t c
placed_old h items t c none m = stamp_old (item.Placed t c) h items refl none m
