-- Items that write nothing of a transaction at a key: the last write stays, and what was erased since stays so.
use Rattle.service_laws.proofs.Names.{◌≡◌, ℕ, false, List, [], ◌∷◌, ◌++◌, append_assoc, Option, None}
use Rattle.service_laws.proofs.Names.{sym, ◌∙◌, ap, cases_eq, ne_eqb, eq-eqb, append-nil, All-nil}
use Rattle.service_laws.proofs.Names.{All-cons, All-head, All-tail, All-weaker, last_write, written_by}
use Rattle.service_laws.proofs.Names.{Found, Item, Write, in_front, in_back, ReadTurn}
use Rattle.service_laws.proofs.Names.{Request, draw_item, read_items, Quiet, AllQuiet, not_true}
use Rattle.service_laws.proofs.Names.{since-more, writes_at, ErasedIn, ErasedSince, OwnStands}
use Rattle.std.proofs.Common.{arith, All}
use Rattle.isolation_laws.proofs.Stores.Calm.{last_write-other}

abbrev pub IsUnwritten : ℕ → ℕ → Item → Type 0
IsUnwritten t k x = writes_at t k x ≡ false

abbrev pub Unwritten : ℕ → ℕ → List Item → Type 0
Unwritten t k items = All (IsUnwritten t k) items

-- ---- which items those are
pub quiet_unwritten : (t k : ℕ) (x : Item) → Quiet x → IsUnwritten t k x
quiet_unwritten t k x quiet = grind (arith, not_true)

pub all_unwritten : (t k : ℕ) (items : List Item) → AllQuiet items → Unwritten t k items
all_unwritten t k items quiet = All-weaker Quiet (IsUnwritten t k) (λ x is. quiet_unwritten t k x is) items quiet

pub none_unwritten : (t k : ℕ) → Unwritten t k []
none_unwritten t k = All-nil (IsUnwritten t k)

pub then_unwritten : (t k : ℕ) (x : Item) (items : List Item) → IsUnwritten t k x → Unwritten t k items → Unwritten t k (x ∷ items)
then_unwritten t k x items one rest = All-cons (IsUnwritten t k) x items one rest

pub one_unwritten : (t k : ℕ) (x : Item) → IsUnwritten t k x → Unwritten t k (x ∷ [])
one_unwritten t k x one = then_unwritten t k x [] one (none_unwritten t k)

pub draw_unwritten : (t k node term stamp : ℕ) (request : Request) → IsUnwritten t k (draw_item node term request stamp)
draw_unwritten t k node term stamp request = grind arith

pub turn_unwritten : (t k s b j : ℕ) (turn : ReadTurn) → Unwritten t k (read_items s b j turn)
turn_unwritten t k s b j turn = grind (arith, none_unwritten, one_unwritten)

pub write_unwritten : (t k s u j : ℕ) (value : List ℕ) → (j ≡ k → u ≡ t → ⊥) → IsUnwritten t k (Write s u j value)
write_unwritten t k s u j value other = grind (arith, cases_eq, eq-eqb, ne_eqb)

-- ---- what stays
written_none : (t k : ℕ) (x : Item) → IsUnwritten t k x → written_by t k x ≡ None
written_none t k x none = grind arith

pub last_write-past : (h items : List Item) (t k : ℕ) → Unwritten t k items → last_write (h ++ items) t k ≡ last_write h t k
last_write-past h [] t k none = ap (λ (xs : List Item). last_write xs t k) (append-nil h)
last_write-past h (x ∷ items) t k none =
    ap (λ (xs : List Item). last_write xs t k) (sym (append_assoc h (x ∷ []) items))
    ∙ (last_write-past (h ++ x ∷ []) items t k (All-tail (IsUnwritten t k) x items none) ∙ last_write-other h x t k (written_none t k x (All-head (IsUnwritten t k) x items none)))

pub erased_past : (h items : List Item) (t k : ℕ) → Unwritten t k items → ErasedSince h t k → ErasedSince (h ++ items) t k
erased_past h items t k none erased = grind (arith, since-more, in_front)

pub erased_now : (h items : List Item) (t k : ℕ) → Unwritten t k items → ErasedIn items t k → ErasedSince (h ++ items) t k
erased_now h items t k none erased = grind (arith, since-more, in_back)

pub own_past : (h items : List Item) (t k : ℕ) (answer : Option Found) (own : Option (List ℕ)) → Unwritten t k items → OwnStands h t k answer own → OwnStands (h ++ items) t k answer own
own_past h items t k answer own none stands = grind (arith, erased_past)
