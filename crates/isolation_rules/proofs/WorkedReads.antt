-- The small histories whose reads are judged, gone through place by place.
use Rattle.std.proofs.Common.{◌≡◌, ℕ, ◌≤◌, List, [], ◌∷◌, ◌++◌, Option, Some, None, inl, inr, refl, ap, arith}
use Rattle.std.proofs.lemmas.Option.{same_Some}
use Rattle.history_book.specs.Members.{◌∈◌, AtEach}
use Rattle.history_book.specs.Isolation.{last_write, Candidate, Visible, WasListed, RightRead}
use Rattle.history_book.specs.declared.item.Actor.TheVariants.{Janitor}
use Rattle.history_book.specs.declared.item.Found.{Found}
use Rattle.history_book.specs.declared.item.StoreStep.TheVariants.{Keys}
use Rattle.history_book.specs.declared.item.Item.{Item}
use Rattle.history_book.specs.declared.item.Item.TheVariants.{Write, Read, Placed, Step}
use Rattle.history_book.proofs.MemberLemmas.{AtEach-push}
use Rattle.isolation_rules.specs.WorkedHistories.{p, q, read_of, from_first, unlisted_read, listed_read, own_write}

nothing_right : (h : List Item) → AtEach (RightRead h) []
nothing_right h = record { at = λ n x e. absurd (cc) }

-- ---- a commit that is placed after the read
first_candidate : (answer : Option Found) → Candidate (read_of answer) 4 0 1 3
unfolding ◌∈◌ last_write
first_candidate answer = record { committed = inr (inr (inl refl)); below = omega arith; wrote = (p, refl) }

one_candidate : (answer : Option Found) (t c : ℕ) → Candidate (read_of answer) 4 0 t c → c ≤ 3
unfolding ◌∈◌
one_candidate answer t c a = elim a.committed [
  | inl e ↦ absurd (cc)
  | inr deeper ↦ elim deeper [
    | inl e ↦ absurd (cc)
    | inr last ↦ elim last [
      | inl e ↦ let is : c ≡ 3 = cc in omega arith
      | inr none ↦ absurd none
    ]
  ]
]

late_visible : Visible (read_of (Some from_first)) 4 0 (Some from_first)
unfolding last_write
late_visible = record { commit = 3; candidate = first_candidate (Some from_first); value = refl; greatest = λ t c a. one_candidate (Some from_first) t c a }

pub late_right : AtEach (RightRead (read_of (Some from_first))) (read_of (Some from_first))
unfolding last_write
late_right =
    let h : List Item = read_of (Some from_first) in
    let one : AtEach (RightRead h) (Write 0 1 0 p ∷ []) = AtEach-push (RightRead h) [] (Write 0 1 0 p) (nothing_right h) tt in
    let two : AtEach (RightRead h) (Write 0 1 0 p ∷ Read 1 4 0 (Some from_first) ∷ []) = AtEach-push (RightRead h) (Write 0 1 0 p ∷ []) (Read 1 4 0 (Some from_first)) one late_visible in
    AtEach-push (RightRead h) (Write 0 1 0 p ∷ Read 1 4 0 (Some from_first) ∷ []) (Placed 1 3) two tt

pub missed_wrong : AtEach (RightRead (read_of None)) (read_of None) → ⊥
unfolding last_write
missed_wrong a = a.at 1 (Read 1 4 0 None) refl 1 3 (first_candidate None)

-- ---- a key that the reader wrote
abbrev before_read : List Item
before_read = Write 0 1 0 p ∷ Placed 1 2 ∷ Write 1 3 0 q ∷ []

-- what stands before the read is no read
before_right : (h : List Item) → AtEach (RightRead h) before_read
before_right h =
    let one : AtEach (RightRead h) (Write 0 1 0 p ∷ []) = AtEach-push (RightRead h) [] (Write 0 1 0 p) (nothing_right h) tt in
    let two : AtEach (RightRead h) (Write 0 1 0 p ∷ Placed 1 2 ∷ []) = AtEach-push (RightRead h) (Write 0 1 0 p ∷ []) (Placed 1 2) one tt in
    AtEach-push (RightRead h) (Write 0 1 0 p ∷ Placed 1 2 ∷ []) (Write 1 3 0 q) two tt

listing_right : (h : List Item) → AtEach (RightRead h) (before_read ++ Step Janitor (Keys 3 1) ∷ [])
listing_right h = AtEach-push (RightRead h) before_read (Step Janitor (Keys 3 1)) (before_right h) tt

pub own_right : AtEach (RightRead (unlisted_read own_write)) (unlisted_read own_write)
unfolding last_write
own_right = AtEach-push (RightRead (unlisted_read own_write)) before_read (Read 1 3 0 (Some own_write)) (before_right (unlisted_read own_write)) (inl refl)

pub listed_own_right : AtEach (RightRead (listed_read own_write)) (listed_read own_write)
unfolding last_write
listed_own_right = AtEach-push (RightRead (listed_read own_write)) (before_read ++ Step Janitor (Keys 3 1) ∷ []) (Read 1 3 0 (Some own_write)) (listing_right (listed_read own_write)) (inl refl)

other_start : (n : ℕ) → n ≡ 1 → n ≡ 3 → ⊥
other_start n a b = absurd (omega arith)

pub own_missed_wrong : AtEach (RightRead (unlisted_read from_first)) (unlisted_read from_first) → ⊥
unfolding last_write ◌∈◌
own_missed_wrong a = elim (a.at 3 (Read 1 3 0 (Some from_first)) refl) [
  | inl e ↦ other_start 1 refl (ap (λ (f : Found). f.from) (same_Some _ _ e))
  | inr listed ↦ elim listed.0.2 [
    | inl e ↦ absurd (cc)
    | inr deeper ↦ elim deeper [
      | inl e ↦ absurd (cc)
      | inr last ↦ elim last [ inl e ↦ absurd (cc) | inr none ↦ absurd none ]
    ]
  ]
]

-- ---- the same once a sweep listed the reader's keys
was_listed : WasListed (before_read ++ Step Janitor (Keys 3 1) ∷ []) 3
unfolding ◌∈◌
was_listed = (Janitor, 1, inr (inr (inr (inl refl))))

swept_candidate : Candidate (listed_read from_first) 3 0 1 2
unfolding ◌∈◌ last_write
swept_candidate = record { committed = inr (inl refl); below = omega arith; wrote = (p, refl) }

only_commit : (t c : ℕ) → Placed t c ∈ listed_read from_first → c ≤ 2
unfolding ◌∈◌
only_commit t c m = elim m [
  | inl e ↦ absurd (cc)
  | inr m1 ↦ elim m1 [
    | inl e ↦ let is : c ≡ 2 = cc in omega arith
    | inr m2 ↦ elim m2 [
      | inl e ↦ absurd (cc)
      | inr m3 ↦ elim m3 [
        | inl e ↦ absurd (cc)
        | inr m4 ↦ elim m4 [ inl e ↦ absurd (cc) | inr none ↦ absurd none ]
      ]
    ]
  ]
]

swept_visible : Visible (listed_read from_first) 3 0 (Some from_first)
unfolding last_write
swept_visible = record { commit = 2; candidate = swept_candidate; value = refl; greatest = λ t c a. only_commit t c a.committed }

pub swept_right : AtEach (RightRead (listed_read from_first)) (listed_read from_first)
unfolding last_write
swept_right = AtEach-push (RightRead (listed_read from_first)) (before_read ++ Step Janitor (Keys 3 1) ∷ []) (Read 1 3 0 (Some from_first)) (listing_right (listed_read from_first)) (inr (was_listed, swept_visible))
