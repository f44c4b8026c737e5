-- A longer history that has no further write or placed commit.
use Rattle.isolation_laws.proofs.Names.{◌≡◌, ℕ, List, [], ◌∷◌, ◌++◌, append_assoc, Some, None, inl, inr, refl, sym, ◌∙◌}
use Rattle.isolation_laws.proofs.Names.{ap, subst, option_or, append-nil, cases_eq, eq-eqb, ne_eqb, Committed}
use Rattle.isolation_laws.proofs.Names.{last_write, written_by, WasListed, Keys, Item, Write, Read, Placed, Step}
use Rattle.isolation_laws.proofs.Names.{in_old, last_write-push, ReadTurn, Asks, Answers, Request, BeginRequest, Commit}
use Rattle.isolation_laws.proofs.Names.{draw_item, found_of, read_items, Quiet, AllQuiet, one_quiet}
use Rattle.isolation_laws.proofs.Pushed.{old_placed, last_write-quiet}
use Rattle.isolation_laws.proofs.Requests.CommitsInFlight.{GoesOn, goes_on}

pub record Calm (h g : List Item) : Type 0 where
  pub on : GoesOn h g
  pub placed : (t c : ℕ) → Committed g t c → Committed h t c
  pub writes : (t k : ℕ) → last_write g t k ≡ last_write h t k

pub listed_goes_on : (h g : List Item) (t : ℕ) → GoesOn h g → WasListed h t → WasListed g t
listed_goes_on h g t on (actor, count, m) = (actor, count, on (Step actor (Keys t count)) m)

pub calm_same : (h : List Item) → Calm h h
calm_same h = record { on = λ x m. m; placed = λ t c m. m; writes = λ t k. refl }

pub calm_none : (h : List Item) → Calm h (h ++ [])
calm_none h = subst (λ g. Calm h g) (sym (append-nil h)) (calm_same h)

pub calm_quiet : (h items : List Item) → AllQuiet items → Calm h (h ++ items)
calm_quiet h items quiet = record {
  on = goes_on h items;
  placed = λ t c m. old_placed h items t c quiet m;
  writes = λ t k. last_write-quiet h items t k quiet;
}

pub calm_more : (h g f : List Item) → Calm h g → Calm g f → Calm h f
calm_more h g f one two = record {
  on = λ x m. two.on x (one.on x m);
  placed = λ t c m. one.placed t c (two.placed t c m);
  writes = λ t k. two.writes t k ∙ one.writes t k;
}

-- an item that writes nothing and places nothing
pub record WritesNone (x : Item) : Type 0 where
  pub writes : (t k : ℕ) → written_by t k x ≡ None
  pub placed : (t c : ℕ) → Placed t c ≡ x → ⊥

pub last_write-other : (h : List Item) (x : Item) (t k : ℕ) → written_by t k x ≡ None → last_write (h ++ x ∷ []) t k ≡ last_write h t k
last_write-other h x t k none = last_write-push h x t k ∙ ap (λ o. option_or o (last_write h t k)) none

pub calm_push : (h : List Item) (x : Item) → WritesNone x → Calm h (h ++ x ∷ [])
calm_push h x none = record {
  on = goes_on h (x ∷ []);
  placed = λ t c m. in_old (Placed t c) x h (none.placed t c) m;
  writes = λ t k. last_write-other h x t k (none.writes t k);
}

draw_writes_none : (node term : ℕ) (request : Request) (stamp : ℕ) → WritesNone (draw_item node term request stamp)
draw_writes_none node term (BeginRequest session) stamp = record { writes = λ t k. refl; placed = λ t c is. cc }
draw_writes_none node term (Commit session start keys) stamp = record { writes = λ t k. refl; placed = λ t c is. cc }

pub calm_draw : (h : List Item) (node term : ℕ) (request : Request) (stamp : ℕ) → Calm h (h ++ draw_item node term request stamp ∷ [])
calm_draw h node term request stamp = calm_push h (draw_item node term request stamp) (draw_writes_none node term request stamp)

calm_read : (h : List Item) (s b k : ℕ) (turn : ReadTurn) → Calm h (h ++ read_items s b k turn)
calm_read h s b k (Asks r) = calm_none h
calm_read h s b k (Answers a) = calm_push h (Read s b k (found_of a.found)) (record { writes = λ t j. refl; placed = λ t c is. cc })

-- a quiet item, and what a read has come to
pub calm_turn : (h : List Item) (x : Item) (s b k : ℕ) (turn : ReadTurn) → Quiet x → Calm h (h ++ x ∷ read_items s b k turn)
calm_turn h x s b k turn quiet =
    let one : Calm h (h ++ x ∷ []) = calm_quiet h (x ∷ []) (one_quiet x quiet) in
    subst (λ g. Calm h g) (append_assoc h (x ∷ []) (read_items s b k turn)) (calm_more h (h ++ x ∷ []) ((h ++ x ∷ []) ++ read_items s b k turn) one (calm_read (h ++ x ∷ []) s b k turn))

-- ---- a write
pub written_here : (s t k : ℕ) (value : List ℕ) → written_by t k (Write s t k value) ≡ Some value
written_here s t k value = rw (eq-eqb t t refl, eq-eqb k k refl) refl

written_elsewhere : (s t k u j : ℕ) (value : List ℕ) → (k ≡ j → t ≡ u → ⊥) → written_by u j (Write s t k value) ≡ None
written_elsewhere s t k u j value other = elim (cases_eq t u) [
  | inl same ↦ rw (eq-eqb t u same, ne_eqb k j (λ is. other is same)) refl
  | inr ne ↦ rw (ne_eqb t u ne) refl
]

pub last_write-own : (h : List Item) (s t k : ℕ) (value : List ℕ) → last_write (h ++ Write s t k value ∷ []) t k ≡ Some value
last_write-own h s t k value = last_write-push h (Write s t k value) t k ∙ ap (λ o. option_or o (last_write h t k)) (written_here s t k value)

pub last_write-elsewhere : (h : List Item) (s t k u j : ℕ) (value : List ℕ) → (k ≡ j → t ≡ u → ⊥) → last_write (h ++ Write s t k value ∷ []) u j ≡ last_write h u j
last_write-elsewhere h s t k u j value other = last_write-push h (Write s t k value) u j ∙ ap (λ o. option_or o (last_write h u j)) (written_elsewhere s t k u j value other)

pub write_places_none : (h : List Item) (s t k : ℕ) (value : List ℕ) (u c : ℕ) → Committed (h ++ Write s t k value ∷ []) u c → Committed h u c
write_places_none h s t k value u c m = in_old (Placed u c) (Write s t k value) h (λ is. cc) m
