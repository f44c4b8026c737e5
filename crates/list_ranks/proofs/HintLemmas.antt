-- What right hints show.
use Rattle.std.proofs.Common.{◌≡◌, ℕ, ◌<◌, ◌⊎◌, List, Option, Some, None, length, get_or, slice_get, unwrap_or, inl, inr, refl, sym, subst, ap, ◌∙◌, arith}
use Rattle.std.proofs.lemmas.Option.{same_Some, get_or_from_slice_get}
use Rattle.trace_rules.specs.declared.trace.Operation.{Operation}
use Rattle.trace_rules.specs.declared.trace.Operation.TheVariants.{Write}
use Rattle.trace_rules.specs.Trace.{Trace}
use Rattle.list_orders.specs.Lists.{WriteAt}
use Rattle.list_ranks.specs.declared.homes.Append.{Append}
use Rattle.list_ranks.specs.Hints.{AreHomes, Hints, IsHome, home_of, place_at, writer_at, writer_in}
use Rattle.list_ranks.specs.Wrong.{IsOnce}

module _ (trace : Trace) (hints : Hints) (k : ℕ) where
  -- a value whose append is where the hint has it stands nowhere else
  pub once_home : AreHomes trace hints → (v : ℕ) (a : Append) → IsHome trace hints k v a → IsOnce trace k v a.place
  once_home homes v a is r u wrote = same_Some r a.place (sym (homes r u k v wrote) ∙ is.home)

  -- the place and the writer of a member
  pub place_is : (values : List ℕ) (i v : ℕ) (a : Append) → slice_get values i ≡ Some v → IsHome trace hints k v a → place_at hints k values i ≡ a.place
  place_is values i v a at is =
      ap (λ (x : ℕ). unwrap_or (home_of hints k x) 0) (get_or_from_slice_get values i v 0 at) ∙ ap (λ (o : Option ℕ). unwrap_or o 0) is.home

  pub writer_is : (values : List ℕ) (i v : ℕ) (a : Append) → slice_get values i ≡ Some v → IsHome trace hints k v a → writer_at trace hints k values i ≡ a.txn
  writer_is values i v a at is =
      ap (λ (p : ℕ). writer_in (slice_get trace.operations p)) (place_is values i v a at is) ∙ ap (λ (o : Option Operation). writer_in o) is.wrote

-- two writers of one write are one
pub one_writer : (trace : Trace) (q w u k v x : ℕ) → WriteAt trace q w k v → WriteAt trace q u k x → w ≡ u
one_writer trace q w u k v x one two = of_write (same_Some (Write w k v) (Write u k x) (sym one ∙ two))
  where
    of_write : Write w k v ≡ Write u k x → w ≡ u
    of_write e = cc
