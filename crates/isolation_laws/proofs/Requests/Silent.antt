-- A longer history that has no further begin, draw, write or placed commit.
use Rattle.isolation_laws.proofs.Names.{◌≡◌, ℕ, List, [], ◌∷◌, ◌++◌, append_assoc, Option, Some, refl, sym, ◌∙◌, subst}
use Rattle.isolation_laws.proofs.Names.{append-nil, ◌∈◌, Committed, Found, Keys, Item, AskBegin, Begin, Draw, Write}
use Rattle.isolation_laws.proofs.Names.{Read, Placed, Step, in_front, in_old, ReadTurn, Asks, Answers, found_of}
use Rattle.isolation_laws.proofs.Names.{read_items, Begun, HasDrawn, written_keys, Quiet, AllQuiet, one_quiet}
use Rattle.history_book.specs.declared.item.Actor.{Actor}
use Rattle.isolation_laws.proofs.Pushed.{old_begin, old_draw, old_placed, written_keys-quiet}
use Rattle.isolation_laws.proofs.Requests.ClientsAfter.{written_keys-no_write}

pub record Silent (h g : List Item) : Type 0 where
  pub on : (x : Item) → x ∈ h → x ∈ g
  pub begun : (s t : ℕ) → Begun g s t → Begun h s t
  pub draws : (s n term t : ℕ) (commit : Option ℕ) → Draw s n term t commit ∈ g → Draw s n term t commit ∈ h
  pub placed : (t c : ℕ) → Committed g t c → Committed h t c
  pub keys : (t : ℕ) → written_keys g t ≡ written_keys h t

pub silent_drawn : (h g : List Item) (t : ℕ) → Silent h g → HasDrawn g t → HasDrawn h t
silent_drawn h g t silent (s, n, term, c, drew) = (s, n, term, c, silent.draws s n term t (Some c) drew)

pub silent_same : (h : List Item) → Silent h h
silent_same h = record { on = λ x m. m; begun = λ s t m. m; draws = λ s n term t commit m. m; placed = λ t c m. m; keys = λ t. refl }

pub silent_quiet : (h items : List Item) → AllQuiet items → Silent h (h ++ items)
silent_quiet h items quiet = record {
  on = λ x m. in_front x h items m;
  begun = λ s t m. old_begin h items s t quiet m;
  draws = λ s n term t commit m. old_draw h items s n term t commit quiet m;
  placed = λ t c m. old_placed h items t c quiet m;
  keys = λ t. written_keys-quiet h items t quiet;
}

pub silent_more : (h g k : List Item) → Silent h g → Silent g k → Silent h k
silent_more h g k one two = record {
  on = λ x m. two.on x (one.on x m);
  begun = λ s t m. one.begun s t (two.begun s t m);
  draws = λ s n term t commit m. one.draws s n term t commit (two.draws s n term t commit m);
  placed = λ t c m. one.placed t c (two.placed t c m);
  keys = λ t. two.keys t ∙ one.keys t;
}

-- an item that is no begin, draw, write or placed commit
pub record SaysNothing (x : Item) : Type 0 where
  pub begin : (s t : ℕ) → Begin s t ≡ x → ⊥
  pub draw : (s n term t : ℕ) (commit : Option ℕ) → Draw s n term t commit ≡ x → ⊥
  pub write : (s t k : ℕ) (value : List ℕ) → x ≡ Write s t k value → ⊥
  pub placed : (t c : ℕ) → Placed t c ≡ x → ⊥

pub silent_push : (h : List Item) (x : Item) → SaysNothing x → Silent h (h ++ x ∷ [])
silent_push h x says = record {
  on = λ y m. in_front y h (x ∷ []) m;
  begun = λ s t m. in_old (Begin s t) x h (says.begin s t) m;
  draws = λ s n term t commit m. in_old (Draw s n term t commit) x h (says.draw s n term t commit) m;
  placed = λ t c m. in_old (Placed t c) x h (says.placed t c) m;
  keys = λ t. written_keys-no_write h x t says.write;
}

pub ask_says : (s n : ℕ) → SaysNothing (AskBegin s n)
ask_says s n = record { begin = λ r t is. cc; draw = λ r m term t c is. cc; write = λ r t k v is. cc; placed = λ t c is. cc }

pub read_says : (s t k : ℕ) (answer : Option Found) → SaysNothing (Read s t k answer)
read_says s t k answer = record { begin = λ r u is. cc; draw = λ r m term u c is. cc; write = λ r u key v is. cc; placed = λ u c is. cc }

pub listing_says : (actor : Actor) (t count : ℕ) → SaysNothing (Step actor (Keys t count))
listing_says actor t count = record { begin = λ r u is. cc; draw = λ r m term u c is. cc; write = λ r u k v is. cc; placed = λ u c is. cc }

pub silent_read : (h : List Item) (s b k : ℕ) (turn : ReadTurn) → Silent h (h ++ read_items s b k turn)
silent_read h s b k (Asks r) = subst (λ g. Silent h g) (sym (append-nil h)) (silent_same h)
silent_read h s b k (Answers a) = silent_push h (Read s b k (found_of a.found)) (read_says s b k (found_of a.found))

-- a quiet item, and what a read has come to
pub silent_turn : (h : List Item) (x : Item) (s b k : ℕ) (turn : ReadTurn) → Quiet x → Silent h (h ++ x ∷ read_items s b k turn)
silent_turn h x s b k turn quiet =
    let one : Silent h (h ++ x ∷ []) = silent_quiet h (x ∷ []) (one_quiet x quiet) in
    subst (λ g. Silent h g) (append_assoc h (x ∷ []) (read_items s b k turn)) (silent_more h (h ++ x ∷ []) ((h ++ x ∷ []) ++ read_items s b k turn) one (silent_read (h ++ x ∷ []) s b k turn))
