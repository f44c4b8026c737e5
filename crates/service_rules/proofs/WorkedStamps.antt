-- The small histories of stamps, gone through place by place.
use Rattle.std.proofs.Common.{◌≡◌, ℕ, ◌<◌, true, List, [], ◌∷◌, ◌++◌, None, Some, inl, inr, refl, sym, ◌∙◌, ap, arith}
use Rattle.history_book.specs.Members.{◌∈◌}
use Rattle.history_book.specs.declared.item.Item.{Item}
use Rattle.history_book.specs.declared.item.Item.TheVariants.{AskBegin, AskCommit, Draw, Begin}
use Rattle.cause_rules.specs.Asks.{asks_for}
use Rattle.service_rules.specs.Stamps.{stamp_told, WasTold, ToldBeforeAsk, StampAbove, FreshStamps}
use Rattle.service_rules.proofs.Walks.{Walks, walked}
use Rattle.service_rules.specs.Worked.{told_then_drawn, asked_then_told, told_then_begun, commit_behind_start}

pub drawn_wrong : FreshStamps (told_then_drawn 2) → ⊥
unfolding ◌∈◌
drawn_wrong is =
    let told : ToldBeforeAsk (Begin 0 3 ∷ AskBegin 1 0 ∷ []) 1 3 = record { front = Begin 0 3 ∷ []; ask = AskBegin 1 0; behind = []; is = refl; asks = refl; told = (Begin 0 3, inl refl, refl) } in
    let less : 3 < 2 = is.at 2 (Draw 1 0 1 2 None) refl 3 told in
    absurd (omega (arith, less))

pub commit_wrong : FreshStamps (commit_behind_start 2) → ⊥
unfolding ◌∈◌
commit_wrong is =
    let told : ToldBeforeAsk (Begin 0 3 ∷ AskCommit 1 0 1 ∷ []) 1 3 = record { front = Begin 0 3 ∷ []; ask = AskCommit 1 0 1; behind = []; is = refl; asks = refl; told = (Begin 0 3, inl refl, refl) } in
    let less : 3 < 2 = is.at 2 (Draw 1 0 1 1 (Some 2)) refl 3 told in
    absurd (omega (arith, less))

pub begun_wrong : FreshStamps (told_then_begun 2) → ⊥
unfolding ◌∈◌
begun_wrong is =
    let told : ToldBeforeAsk (Begin 0 3 ∷ AskBegin 1 0 ∷ []) 1 3 = record { front = Begin 0 3 ∷ []; ask = AskBegin 1 0; behind = []; is = refl; asks = refl; told = (Begin 0 3, inl refl, refl) } in
    let less : 3 < 2 = is.at 2 (Begin 1 2) refl 3 told in
    absurd (omega (arith, less))

-- ---- what stands before an ask, in the histories that are right
asked_behind : (front behind : List Item) (ask : Item) (stamp : ℕ) → Begin 0 3 ∷ AskBegin 1 0 ∷ [] ≡ front ++ ask ∷ behind → WasTold front stamp → stamp < 4
unfolding ◌∈◌
asked_behind [] behind ask stamp is (x, m, tells) = absurd m
asked_behind (y ∷ []) behind ask stamp is (x, m, tells) = elim m [
  | inl same ↦
      let first : Begin 0 3 ≡ y = cc in
      let three : Some 3 ≡ Some stamp = ap stamp_told (first ∙ sym same) ∙ tells in
      let are : 3 ≡ stamp = cc in
      omega (arith, are)
  | inr none ↦ absurd none
]
asked_behind (y ∷ z ∷ []) behind ask stamp is told = absurd (cc)
asked_behind (y ∷ z ∷ a ∷ front) behind ask stamp is told = absurd (cc)

asked_first : (front behind : List Item) (ask : Item) (stamp : ℕ) → AskBegin 1 0 ∷ Begin 0 3 ∷ [] ≡ front ++ ask ∷ behind → asks_for 1 ask ≡ true → WasTold front stamp → ⊥
unfolding ◌∈◌
asked_first [] behind ask stamp is asks (x, m, tells) = m
asked_first (y ∷ []) behind ask stamp is asks told =
    let second : Begin 0 3 ≡ ask = cc in
    let clash : asks_for 1 (Begin 0 3) ≡ true = ap (asks_for 1) second ∙ asks in
    absurd (cc)
asked_first (y ∷ z ∷ []) behind ask stamp is asks told = absurd (cc)
asked_first (y ∷ z ∷ a ∷ front) behind ask stamp is asks told = absurd (cc)

none_asked : (front behind : List Item) (ask : Item) → [] ≡ front ++ ask ∷ behind → ⊥
none_asked [] behind ask is = cc
none_asked (y ∷ front) behind ask is = cc

one_asked : (front behind : List Item) (ask : Item) (stamp : ℕ) → AskBegin 1 0 ∷ [] ≡ front ++ ask ∷ behind → WasTold front stamp → ⊥
unfolding ◌∈◌
one_asked [] behind ask stamp is (x, m, tells) = m
one_asked (y ∷ []) behind ask stamp is told = absurd (cc)
one_asked (y ∷ z ∷ front) behind ask stamp is told = absurd (cc)

pub drawn_fresh : FreshStamps (told_then_drawn 4)
unfolding Walks
drawn_fresh = walked StampAbove (told_then_drawn 4) (
  (λ stamp told. absurd (none_asked told.front told.behind told.ask told.is)),
  (tt, ((λ stamp told. asked_behind told.front told.behind told.ask stamp told.is told.told), tt)),
)

pub asked_fresh : FreshStamps (asked_then_told 2)
unfolding Walks
asked_fresh = walked StampAbove (asked_then_told 2) (
  tt,
  (
    (λ stamp told. absurd (one_asked told.front told.behind told.ask stamp told.is told.told)),
    ((λ stamp told. absurd (asked_first told.front told.behind told.ask stamp told.is told.asks told.told)), tt),
  ),
)
