-- The rows of all lists: where a change of one key's list lands, and which list answers a question about a key.
use Rattle.std.proofs.Common.{◌≡◌, ℕ, ◌<◌, List, [], ◌∷◌, ◌++◌, None, Some, ◌⊎◌, inl, inr, refl, sym, ap, ◌∙◌, append-nil, arith}
use Rattle.std.specs.Ordering.{nat_cmp}
use Rattle.std.specs.declared.cmp.Ordering.TheVariants.{Less, Equal, Greater}
use Rattle.std.specs.declared.vec.Vec.{Vec}
use Rattle.std.specs.List.{AllByRecursion}
use Rattle.std.specs.List.Sorted.{IsStrictlySortedBy}
use Rattle.std.specs.BTreeMap.{is_at, insert_entry}
use Rattle.std.specs.Map.{lookup, set_value, keys_of}
use Rattle.std.proofs.lemmas.Bool.Decides.{nat_tests}
use Rattle.std.proofs.lemmas.Cmp.{nat_cmp_total}
use Rattle.std.proofs.lemmas.Map.{lookup-none}
use Rattle.std.proofs.lemmas.Map.Entries.{none_below_head}
use Rattle.std.proofs.lemmas.Map.Keys.{sorted_head, sorted_tail}
use Rattle.std.proofs.lemmas.Option.{none-some, same_Some}
use Rattle.system_parts.specs.declared.rows.Cell.{Cell}
use Rattle.system_parts.specs.Rows.{Row, AreOrdered}
use Rattle.cell_store.specs.KeyLists.{row_at, rows_at, rows_of, AreRising}
use Rattle.cell_store.proofs.RowSplits.{IsEarlier, IsLater, IsEditAt, IsAskedOf, ordered-front, ordered-rest}
use Rattle.cell_store.proofs.KeyRows.{rising_from_ordered}

abbrev Entries : Type 0 → Type 0
Entries A = List (ℕ × Vec Cell A)

-- how a key stands to another
ranked : (k j : ℕ) → ((nat_cmp k j ≡ Less) × (k < j)) ⊎ (((nat_cmp k j ≡ Equal) × (k ≡ j)) ⊎ ((nat_cmp k j ≡ Greater) × (j < k)))
ranked k j = grind (arith, nat_tests)

less_ranked : (k j : ℕ) → nat_cmp k j ≡ Less → k < j
less_ranked k j e = grind (arith, nat_tests, e)

all_append : (P : Row → Type 0) (xs ys : List Row) → AllByRecursion P xs → AllByRecursion P ys → AllByRecursion P (xs ++ ys)
all_append P [] ys a b = b
all_append P (x ∷ xs) ys a b = (a.0, all_append P xs ys a.1 b)

all_of_key : (P : Row → Type 0) (k : ℕ) (cells : List Cell) → ((c : Cell) → P (row_at k c)) → AllByRecursion P (rows_at k cells)
all_of_key P k [] f = tt
all_of_key P k (c ∷ cs) f = (f c, all_of_key P k cs f)

all_weaker : (P Q : Row → Type 0) → ((r : Row) → P r → Q r) → (rs : List Row) → AllByRecursion P rs → AllByRecursion Q rs
all_weaker P Q f [] h = tt
all_weaker P Q f (r ∷ rs) h = (f r h.0, all_weaker P Q f rs h.1)

-- the rows of higher keys
above_rows : {A : Type 0} (k : ℕ) (es : Entries A) → AllByRecursion (λ j. nat_cmp k j ≡ Less) (keys_of es) → AllByRecursion (λ (r : Row). k < r.key) (rows_of es)
above_rows k [] h = tt
above_rows k (e ∷ es) h = all_append (λ (r : Row). k < r.key) (rows_at e.0 e.1.items) (rows_of es) (all_of_key (λ (r : Row). k < r.key) e.0 e.1.items (λ c. less_ranked k e.0 h.0)) (above_rows k es h.1)

-- where the key is below the first, all rows are of higher keys
all_above : {A : Type 0} (k : ℕ) (e : ℕ × Vec Cell A) (es : Entries A) → IsStrictlySortedBy nat_cmp (keys_of (e ∷ es)) → k < e.0 → AllByRecursion (λ (r : Row). k < r.key) (rows_of (e ∷ es))
all_above k e es sorted less =
    let above = above_rows e.0 es (sorted_head nat_cmp e.0 (keys_of es) sorted) in
    all_append (λ (r : Row). k < r.key) (rows_at e.0 e.1.items) (rows_of es) (all_of_key (λ (r : Row). k < r.key) e.0 e.1.items (λ c. less)) (all_weaker (λ (r : Row). e.0 < r.key) (λ (r : Row). k < r.key) (λ r h. omega arith) (rows_of es) above)

later_all : (k t : ℕ) (rs : List Row) → AllByRecursion (λ (r : Row). k < r.key) rs → AllByRecursion (IsLater k t) rs
later_all k t rs h = all_weaker (λ (r : Row). k < r.key) (IsLater k t) (λ r up. inl up) rs h

earlier_of_key : (k t j : ℕ) (cells : List Cell) → j < k → AllByRecursion (IsEarlier k t) (rows_at j cells)
earlier_of_key k t j cells less = all_of_key (IsEarlier k t) j cells (λ c. inl less)

-- a key below the first one has no list
no_list : {A : Type 0} (k : ℕ) (e : ℕ × Vec Cell A) (es : Entries A) → IsStrictlySortedBy nat_cmp (keys_of (e ∷ es)) → nat_cmp k e.0 ≡ Less → lookup (is_at (nat_cmp k)) (e ∷ es) ≡ None
no_list k e es sorted less = lookup-none (is_at (nat_cmp k)) (e ∷ es) (none_below_head nat_cmp_total k e es sorted less)

there : {A : Type 0} (k : ℕ) (e : ℕ × Vec Cell A) (es : Entries A) → nat_cmp k e.0 ≡ Equal → lookup (is_at (nat_cmp k)) (e ∷ es) ≡ Some e.1
there k e es same = rw same refl

-- ---- a change of a list that is there
pub rows_of-set_value : {A : Type 0} (k t : ℕ) (edit : List Row → List Row) (es : Entries A) (old now : Vec Cell A) → IsEditAt k t edit → IsStrictlySortedBy nat_cmp (keys_of es) → lookup (is_at (nat_cmp k)) es ≡ Some old → rows_at k now.items ≡ edit (rows_at k old.items) → rows_of (set_value (is_at (nat_cmp k)) es now) ≡ edit (rows_of es)
rows_of-set_value k t edit [] old now edits sorted found made = absurd (cc)
rows_of-set_value k t edit (e ∷ es) old now edits sorted found made = elim (ranked k e.0) [
  | inl a ↦ absurd (none-some _ (sym (no_list k e es sorted a.0) ∙ found))
  | inr b ↦ elim b [
    | inl a ↦
        let is : e.1 ≡ old = same_Some _ _ (rw a.0 at found) in
        let behind = later_all k t (rows_of es) (above_rows k es (rw (← a.1) at (sorted_head nat_cmp e.0 (keys_of es) sorted))) in
        rw (a.0, ← a.1, is) (ap (λ (rs : List Row). rs ++ rows_of es) made ∙ sym (edits.within (rows_at k old.items) (rows_of es) behind))
    | inr a ↦
        let later : lookup (is_at (nat_cmp k)) es ≡ Some old = rw a.0 at found in
        let rest = rows_of-set_value k t edit es old now edits (sorted_tail nat_cmp e.0 (keys_of es) sorted) later made in
        rw a.0 (ap (λ (rs : List Row). rows_at e.0 e.1.items ++ rs) rest ∙ sym (edits.past (rows_at e.0 e.1.items) (rows_of es) (earlier_of_key k t e.0 e.1.items a.1)))
  ]
]

-- ---- a new list
pub rows_of-insert_entry : {A : Type 0} (k t : ℕ) (edit : List Row → List Row) (es : Entries A) (now : Vec Cell A) → IsEditAt k t edit → IsStrictlySortedBy nat_cmp (keys_of es) → lookup (is_at (nat_cmp k)) es ≡ None → rows_at k now.items ≡ edit [] → rows_of (insert_entry nat_cmp es k now) ≡ edit (rows_of es)
rows_of-insert_entry k t edit [] now edits sorted absent made = append-nil (rows_at k now.items) ∙ made
rows_of-insert_entry k t edit (e ∷ es) now edits sorted absent made = elim (ranked k e.0) [
  | inl a ↦ rw a.0 (ap (λ (rs : List Row). rs ++ rows_of (e ∷ es)) made ∙ sym (edits.within [] (rows_of (e ∷ es)) (later_all k t (rows_of (e ∷ es)) (all_above k e es sorted a.1))))
  | inr b ↦ elim b [
    | inl a ↦ absurd (none-some e.1 (sym absent ∙ there k e es a.0))
    | inr a ↦
        let later : lookup (is_at (nat_cmp k)) es ≡ None = rw a.0 at absent in
        let rest = rows_of-insert_entry k t edit es now edits (sorted_tail nat_cmp e.0 (keys_of es) sorted) later made in
        rw a.0 (ap (λ (rs : List Row). rows_at e.0 e.1.items ++ rs) rest ∙ sym (edits.past (rows_at e.0 e.1.items) (rows_of es) (earlier_of_key k t e.0 e.1.items a.1)))
  ]
]

-- ---- a question about a key
pub asked_there : {A X : Type 0} (k : ℕ) (ask : List Row → X) (es : Entries A) (old : Vec Cell A) → IsAskedOf k ask → IsStrictlySortedBy nat_cmp (keys_of es) → lookup (is_at (nat_cmp k)) es ≡ Some old → ask (rows_of es) ≡ ask (rows_at k old.items)
asked_there k ask [] old asks sorted found = absurd (cc)
asked_there k ask (e ∷ es) old asks sorted found = elim (ranked k e.0) [
  | inl a ↦ absurd (none-some _ (sym (no_list k e es sorted a.0) ∙ found))
  | inr b ↦ elim b [
    | inl a ↦
        let is : e.1 ≡ old = same_Some _ _ (rw a.0 at found) in
        rw (← a.1, is) (asks.within (rows_at k old.items) (rows_of es) (above_rows k es (rw (← a.1) at (sorted_head nat_cmp e.0 (keys_of es) sorted))))
    | inr a ↦
        asks.past (rows_at e.0 e.1.items) (rows_of es) (all_of_key (λ (r : Row). r.key < k) e.0 e.1.items (λ c. a.1))
        ∙ asked_there k ask es old asks (sorted_tail nat_cmp e.0 (keys_of es) sorted) (rw a.0 at found)
  ]
]

pub asked_none : {A X : Type 0} (k : ℕ) (ask : List Row → X) (es : Entries A) → IsAskedOf k ask → IsStrictlySortedBy nat_cmp (keys_of es) → lookup (is_at (nat_cmp k)) es ≡ None → ask (rows_of es) ≡ ask []
asked_none k ask [] asks sorted absent = refl
asked_none k ask (e ∷ es) asks sorted absent = elim (ranked k e.0) [
  | inl a ↦ asks.within [] (rows_of (e ∷ es)) (all_above k e es sorted a.1)
  | inr b ↦ elim b [
    | inl a ↦ absurd (none-some e.1 (sym absent ∙ there k e es a.0))
    | inr a ↦
        asks.past (rows_at e.0 e.1.items) (rows_of es) (all_of_key (λ (r : Row). r.key < k) e.0 e.1.items (λ c. a.1))
        ∙ asked_none k ask es asks (sorted_tail nat_cmp e.0 (keys_of es) sorted) (rw a.0 at absent)
  ]
]

-- ---- the order
pub rising_there : {A : Type 0} (k : ℕ) (es : Entries A) (old : Vec Cell A) → AreOrdered (rows_of es) → lookup (is_at (nat_cmp k)) es ≡ Some old → AreRising old.items
rising_there k [] old ordered found = absurd (cc)
rising_there k (e ∷ es) old ordered found = elim (ranked k e.0) [
  | inl a ↦ rising_there k es old (ordered-rest (rows_at e.0 e.1.items) (rows_of es) ordered) (rw a.0 at found)
  | inr b ↦ elim b [
    | inl a ↦
        let is : e.1 ≡ old = same_Some _ _ (rw a.0 at found) in
        rw (← is) (rising_from_ordered e.0 e.1.items (ordered-front (rows_at e.0 e.1.items) (rows_of es) ordered))
    | inr a ↦ rising_there k es old (ordered-rest (rows_at e.0 e.1.items) (rows_of es) ordered) (rw a.0 at found)
  ]
]
