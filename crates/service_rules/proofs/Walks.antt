-- A history gone through item by item: what holds of each item behind those before it holds at each place.
use Rattle.std.proofs.Common.{List, [], ◌∷◌, ◌++◌, append_assoc, sym, subst}
use Rattle.std.proofs.lemmas.List.{append-nil}
use Rattle.history_book.specs.Members.{AtEach}
use Rattle.history_book.specs.declared.item.Item.{Item}
use Rattle.history_book.proofs.MemberLemmas.{AtEach-push}

-- of each item of the rest, behind those before it
unfoldable pub Walks : (List Item → Item → Type 0) → List Item → List Item → Type 0
Walks P before [] = Unit {0}
Walks P before (x ∷ rest) = P before x × Walks P (before ++ x ∷ []) rest

walked_from : (P : List Item → Item → Type 0) (before rest : List Item) → AtEach P before → Walks P before rest → AtEach P (before ++ rest)
unfolding Walks
walked_from P before [] each walks = subst (λ (xs : List Item). AtEach P xs) (sym (append-nil before)) each
walked_from P before (x ∷ rest) each walks = subst (λ (xs : List Item). AtEach P xs) (append_assoc before (x ∷ []) rest) (walked_from P (before ++ x ∷ []) rest (AtEach-push P before x each walks.0) walks.1)

pub walked : (P : List Item → Item → Type 0) (h : List Item) → Walks P [] h → AtEach P h
walked P h walks = walked_from P [] h (record { at = λ place x found. absurd (cc) }) walks
