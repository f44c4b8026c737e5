-- What is remembered stays true: where a decision is put in or learnt, where one is used, and over more marks and a longer history.
use Rattle.isolation_laws.proofs.Names.{ℕ, ◌==◌, List, Option, Some, None, IfSome, inl, inr, subst, arith, cases_Bool}
use Rattle.isolation_laws.proofs.Names.{same_Some, Item, Placed, Pairs, Known, Cache, cache_new, used, fresh_put}
use Rattle.isolation_laws.proofs.Names.{put_fresh, cache_learnt, used_there, put_there, IsTrueOf, IsTruePair}
use Rattle.isolation_laws.proofs.Names.{IsTrueCache}
use Rattle.system_parts.specs.declared.known.Known.TheVariants as known
use Rattle.isolation_laws.proofs.Stores.StoresStay.{MarksStay}
use Rattle.isolation_laws.proofs.Stores.Calm.{Calm}

pub true_new : (pairs : Pairs) (h : List Item) (room : ℕ) → IsTrueCache pairs h (cache_new room)
true_new pairs h room = record { kept = λ pair there. absurd (omega (arith, there.1)); fresh = tt }

-- a decision is put in with what is kept
true_with : (pairs : Pairs) (h : List Item) (cache : Cache) (made : Option (ℕ × Known)) → IfSome made (IsTruePair pairs h) → IsTrueCache pairs h cache → IsTrueCache pairs h (fresh_put cache made)
true_with pairs h cache None now is = is
true_with pairs h cache (Some made) now is = record {
  kept = λ pair there. elim (put_there cache (Some made) pair there) [
    | inl old ↦ is.kept pair old
    | inr same ↦ subst (IsTruePair pairs h) (same_Some made pair same) now
  ];
  fresh = tt;
}

pub true_put : (pairs : Pairs) (h : List Item) (cache : Cache) → IsTrueCache pairs h cache → IsTrueCache pairs h (put_fresh cache)
true_put pairs h cache is = true_with pairs h cache cache.fresh is.fresh is

pub true_used : (pairs : Pairs) (h : List Item) (cache : Cache) (txn : ℕ) → IsTrueCache pairs h cache → IsTrueCache pairs h (used cache txn)
true_used pairs h cache txn is = record { kept = λ pair there. is.kept pair (used_there cache txn pair there); fresh = is.fresh }

-- a decision is learnt
pub true_learnt : (pairs : Pairs) (h : List Item) (cache : Cache) (made : Option (ℕ × Known)) → IfSome made (IsTruePair pairs h) → IsTrueCache pairs h cache → IsTrueCache pairs h (cache_learnt cache made)
true_learnt pairs h cache made now is = elim (cases_Bool (cache.room == 0)) [
  | inl none ↦ rw none is
  | inr some ↦ rw some (record { kept = is.kept; fresh = now })
]

-- what stays true of each transaction stays true of all that is kept
if_some_on : (P Q : ℕ × Known → Type 0) (made : Option (ℕ × Known)) → ((pair : ℕ × Known) → P pair → Q pair) → IfSome made P → IfSome made Q
if_some_on P Q None on is = tt
if_some_on P Q (Some pair) on is = on pair is

pub true_on : (pairs new : Pairs) (h g : List Item) (cache : Cache) → ((pair : ℕ × Known) → IsTruePair pairs h pair → IsTruePair new g pair) → IsTrueCache pairs h cache → IsTrueCache new g cache
true_on pairs new h g cache on is = record {
  kept = λ pair there. on pair (is.kept pair there);
  fresh = if_some_on (IsTruePair pairs h) (IsTruePair new g) cache.fresh on is.fresh;
}

-- over more marks
pair_marked : (old new : Pairs) (h : List Item) (t : ℕ) (it : Known) → MarksStay old new → IsTrueOf old h t it → IsTrueOf new h t it
pair_marked old new h t (known.Committed c) marks is = is
pair_marked old new h t known.Dead marks is = record { marked = marks t is.marked; unplaced = is.unplaced }

pub true_marked : (old new : Pairs) (h : List Item) (cache : Cache) → MarksStay old new → IsTrueCache old h cache → IsTrueCache new h cache
true_marked old new h cache marks is = true_on old new h h cache (λ pair true_of. pair_marked old new h pair.0 pair.1 marks true_of) is

-- over a longer history that places nothing more
pair_longer : (pairs : Pairs) (h g : List Item) (t : ℕ) (it : Known) → Calm h g → IsTrueOf pairs h t it → IsTrueOf pairs g t it
pair_longer pairs h g t (known.Committed c) un is = un.on (Placed t c) is
pair_longer pairs h g t known.Dead un is = record { marked = is.marked; unplaced = λ c placed. is.unplaced c (un.placed t c placed) }

pub true_longer : (pairs : Pairs) (h g : List Item) (cache : Cache) → Calm h g → IsTrueCache pairs h cache → IsTrueCache pairs g cache
true_longer pairs h g cache un is = true_on pairs pairs h g cache (λ pair true_of. pair_longer pairs h g pair.0 pair.1 un true_of) is
