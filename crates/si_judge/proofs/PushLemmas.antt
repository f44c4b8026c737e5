-- The last write at a key after one more item.
use Rattle.si_judge.proofs.Names.{◌≡◌, ◌≤◌, ◌<◌, ◌+◌, ◌==◌, ◌&&◌, ℕ, zero, suc, Bool, true, false, if◌then◌else◌, List}
use Rattle.si_judge.proofs.Names.{[], ◌∷◌, ◌++◌, Option, Some, None, length, take, get_or, refl, sym, ap, ◌∙◌, arith}
use Rattle.si_judge.proofs.Names.{length-append, option_or, eqb-true, last_write, written_by, Item, Write, written_at}
use Rattle.si_judge.proofs.Names.{IsLastWrite}
use Rattle.std.proofs.Math.Seq.{take-suc}
use Rattle.history_book.proofs.HistoryLemmas.{last_write-push}
use Rattle.isolation_rules.proofs.ReadLemmas.{written_within}

-- the items passed so far, and the next one
pub one_more : (xs : List Item) (i : ℕ) (x : Item) → i < length xs → x ≡ get_or xs i x → take i xs ++ x ∷ [] ≡ take (i + 1) xs
one_more xs i x less e =
    let next : i + 1 ≡ suc i = omega arith in
    ap (λ (y : Item). take i xs ++ y ∷ []) e ∙ sym (take-suc xs i x less) ∙ ap (λ n. take n xs) (sym next)

written_in_front : (part : List Item) (x : Item) (t k p : ℕ) → p < length part → written_at (part ++ x ∷ []) t k p ≡ written_at part t k p
written_in_front [] x t k p less = absurd (omega (arith, less))
written_in_front (y ∷ ys) x t k zero less = refl
written_in_front (y ∷ ys) x t k (suc p) less = written_in_front ys x t k p (omega (arith, less))

written_at_end : (part : List Item) (x : Item) (t k : ℕ) → written_at (part ++ x ∷ []) t k (length part) ≡ written_by t k x
written_at_end [] x t k = refl
written_at_end (y ∷ ys) x t k = written_at_end ys x t k

written_past : (part : List Item) (t k p : ℕ) → length part ≤ p → written_at part t k p ≡ None
written_past [] t k zero past = refl
written_past [] t k (suc p) past = refl
written_past (y ∷ ys) t k zero past = absurd (omega (arith, past))
written_past (y ∷ ys) t k (suc p) past = written_past ys t k p (omega (arith, past))

-- an item that writes the key is its last write
pub write_here : (part : List Item) (x : Item) (t k : ℕ) (v : List ℕ) → written_by t k x ≡ Some v → IsLastWrite (part ++ x ∷ []) t k v (length part)
write_here part x t k v e = record {
  wrote = written_at_end part x t k ∙ e;
  last = λ later less. written_past (part ++ x ∷ []) t k later (let long = length-append part (x ∷ []) in omega (arith, long, less));
}

-- one that does not leaves the last write as it was
pub write_stays : (part : List Item) (x : Item) (t k : ℕ) (v : List ℕ) (p : ℕ) → written_by t k x ≡ None → IsLastWrite part t k v p → IsLastWrite (part ++ x ∷ []) t k v p
write_stays part x t k v p none is = record {
  wrote = written_in_front part x t k p (written_within part t k p v is.wrote) ∙ is.wrote;
  last = λ later less. stays_none part x t k later none (is.last later less);
}
  where
    stays_none : (part : List Item) (x : Item) (t k later : ℕ) → written_by t k x ≡ None → written_at part t k later ≡ None → written_at (part ++ x ∷ []) t k later ≡ None
    stays_none [] x t k zero none old = none
    stays_none [] x t k (suc p) none old = refl
    stays_none (y ∷ ys) x t k zero none old = old
    stays_none (y ∷ ys) x t k (suc p) none old = stays_none ys x t k p none old

pub last_write_stays : (part : List Item) (x : Item) (t k : ℕ) → written_by t k x ≡ None → last_write (part ++ x ∷ []) t k ≡ last_write part t k
last_write_stays part x t k none = last_write-push part x t k ∙ ap (λ o. option_or o (last_write part t k)) none

when_true : (b : Bool) (v w : List ℕ) → (if b then Some v else None) ≡ Some w → (b ≡ true) × (v ≡ w)
when_true true v w e = (refl, cc)
when_true false v w e = absurd (cc)

and_parts : (a b : Bool) → (a && b) ≡ true → (a ≡ true) × (b ≡ true)
and_parts true b e = (refl, e)
and_parts false b e = absurd (cc)

-- what a write writes, and where
pub written_is : (t k : ℕ) (x : Item) (v : List ℕ) → written_by t k x ≡ Some v → (session : ℕ) × (x ≡ Write session t k v)
written_is t k (Write session start key value) v e =
    let found = when_true ((start == t) && (key == k)) value v e in
    let parts = and_parts (start == t) (key == k) found.0 in
    let a : start ≡ t = eqb-true start t parts.0 in
    let b : key ≡ k = eqb-true key k parts.1 in
    let same = found.1 in
    (session, cc)
written_is t k _ v e = absurd (cc)

-- a write of another transaction or key is none at this one
pub wrote_or_none : (t k : ℕ) (x : Item) (P : Type 0) → (written_by t k x ≡ None → P) → ((v : List ℕ) → written_by t k x ≡ Some v → P) → P
wrote_or_none t k x P none some = by (written_by t k x) refl
  where
    by : (o : Option (List ℕ)) → written_by t k x ≡ o → P
    by None e = none e
    by (Some v) e = some v e
