-- Reads that need no second look, after one more item.
use Rattle.std.proofs.Common.{◌≡◌, ℕ, List, [], ◌∷◌, ◌++◌, Option, None, Some, inl, inr, sym, ap, subst, ◌∙◌, arith}
use Rattle.std.specs.Option.{option_or}
use Rattle.std.proofs.lemmas.Bool.Decides.{nat_tests}
use Rattle.history_book.specs.Isolation.{last_write, written_by}
use Rattle.history_book.specs.Serial.{StoodAtCommit}
use Rattle.history_book.specs.declared.item.Found.{Found}
use Rattle.history_book.specs.declared.item.Item.{Item}
use Rattle.history_book.specs.declared.item.Item.TheVariants.{Read, Write}
use Rattle.history_book.proofs.HistoryLemmas.{last_write-push}
use Rattle.read_sets.specs.declared.cleared.Cleared.{Cleared}
use Rattle.read_sets.specs.Crossings.{StoodFor}
use Rattle.read_sets.specs.Index.{MayGain, AreCleared}

second_none : (a b : Option (List ℕ)) → option_or a b ≡ None → b ≡ None
second_none None b e = e
second_none (Some v) b e = absurd (cc)

no_earlier_write : (part : List Item) (x : Item) (s k : ℕ) → last_write (part ++ x ∷ []) s k ≡ None → last_write part s k ≡ None
no_earlier_write part x s k none = second_none (written_by s k x) (last_write part s k) (sym (last_write-push part x s k) ∙ none)

pub read_noted : (h part : List Item) (x : Item) (session s k : ℕ) (answer : Option Found) (old new : Cleared) → x ≡ Read session s k answer → MayGain old.pairs new.pairs s k → StoodAtCommit h part x → AreCleared h part old → AreCleared h (part ++ x ∷ []) new
read_noted h part x session s k answer old new is gains stood was = λ u l has none. elim (gains u l has) [
  | inl before ↦ was u l before (no_earlier_write part x u l none)
  | inr same ↦
      let stands : (last_write part s k ≡ None → StoodFor h s k) = subst (λ (y : Item). StoodAtCommit h part y) is stood in
      let at_writer : (last_write part u k ≡ None → StoodFor h u k) = subst (λ (n : ℕ). last_write part n k ≡ None → StoodFor h n k) (sym same.0) stands in
      let at_key : (last_write part u l ≡ None → StoodFor h u l) = subst (λ (n : ℕ). last_write part u n ≡ None → StoodFor h u n) (sym same.1) at_writer in
      at_key (no_earlier_write part x u l none)
]

writes_itself : (session s k : ℕ) (v : List ℕ) → written_by s k (Write session s k v) ≡ Some v
writes_itself session s k v = grind (arith, nat_tests)

pub write_noted : (h part : List Item) (x : Item) (session s k : ℕ) (v : List ℕ) (old new : Cleared) → x ≡ Write session s k v → MayGain old.pairs new.pairs s k → AreCleared h part old → AreCleared h (part ++ x ∷ []) new
write_noted h part x session s k v old new is gains was = λ u l has none. elim (gains u l has) [
  | inl before ↦ was u l before (no_earlier_write part x u l none)
  | inr same ↦
      let none_there : last_write (part ++ x ∷ []) s k ≡ None = ap (λ n. last_write (part ++ x ∷ []) n k) (sym same.0) ∙ ap (λ n. last_write (part ++ x ∷ []) u n) (sym same.1) ∙ none in
      let wrote : written_by s k x ≡ Some v = ap (λ y. written_by s k y) is ∙ writes_itself session s k v in
      let now : last_write (part ++ x ∷ []) s k ≡ Some v = last_write-push part x s k ∙ ap (λ o. option_or o (last_write part s k)) wrote in
      let clash : None ≡ Some v = sym none_there ∙ now in
      absurd (cc)
]

pub other_noted : (h part : List Item) (x : Item) (cleared : Cleared) → AreCleared h part cleared → AreCleared h (part ++ x ∷ []) cleared
other_noted h part x cleared was = λ u l has none. was u l has (no_earlier_write part x u l none)
