-- The last values, as operations are passed.
use Rattle.std.proofs.Common.{◌≡◌, ℕ, suc, ◌==◌, ◌&&◌, if◌then◌else◌, cond, Bool, true, false, List, [], ◌∷◌, ◌++◌, Option, None, Some, slice_get, refl, sym, ap, ◌∙◌}
use Rattle.std.specs.Option.{option_or}
use Rattle.std.proofs.lemmas.Bool.{eqb-true}
use Rattle.std.proofs.lemmas.Option.{same_Some}
use Rattle.std.specs.HashMap as hash
use Rattle.trace_rules.specs.declared.trace.Operation.{Operation}
use Rattle.trace_rules.specs.declared.trace.Operation.TheVariants.{Read, Write}
use Rattle.trace_rules.specs.Trace.{last_of, written_by}
use Rattle.outer_reads.specs.Sources.{Values, HasLast, pair_eq}

or-None : {X : Type 0} (a : Option X) → option_or a None ≡ a
or-None None = refl
or-None (Some x) = refl

or-assoc : {X : Type 0} (a b c : Option X) → option_or (option_or a b) c ≡ option_or a (option_or b c)
or-assoc None b c = refl
or-assoc (Some x) b c = refl

pub last_of-push : (xs : List Operation) (x : Operation) (t k : ℕ) → last_of (xs ++ x ∷ []) t k ≡ option_or (written_by t k x) (last_of xs t k)
unfolding last_of
last_of-push [] x t k = sym (or-None (written_by t k x))
last_of-push (y ∷ xs) x t k = ap (λ o. option_or o (written_by t k y)) (last_of-push xs x t k) ∙ or-assoc (written_by t k x) (last_of xs t k) (written_by t k y)

pub nothing_last : (values : Values) → hash.IsEmpty values → HasLast [] values
unfolding last_of
nothing_last values empty = λ t k. rw empty refl

pub read_passes : (part : List Operation) (values : Values) (x : Operation) → ((t k : ℕ) → written_by t k x ≡ None) → HasLast part values → HasLast (part ++ x ∷ []) values
read_passes part values x none has = λ t k. has t k ∙ sym (last_of-push part x t k ∙ ap (λ o. option_or o (last_of part t k)) (none t k))

choice : (b : Bool) (v : ℕ) (o : Option ℕ) → option_or (if b then Some v else None) o ≡ cond b (Some v) o
choice true v o = refl
choice false v o = refl

pub write_passes : (part : List Operation) (u l v : ℕ) (m n : Values) → hash.Updates pair_eq m n (u, l) (Some v) → HasLast part m → HasLast (part ++ Write u l v ∷ []) n
write_passes part u l v m n put has = λ t k. put.0 (t, k) ∙ ap (λ o. cond (pair_eq (u, l) (t, k)) (Some v) o) (has t k) ∙ sym (last_of-push part (Write u l v) t k ∙ choice ((u == t) && (l == k)) v (last_of part t k))

-- the last value stands in an operation
written_is : (t k v : ℕ) (x : Operation) → written_by t k x ≡ Some v → x ≡ Write t k v
written_is t k v (Read u l answer) e = absurd (cc)
written_is t k v (Write u l w) e = by (u == t) (l == k) refl refl e
  where
    by : (a b : Bool) → (u == t) ≡ a → (l == k) ≡ b → (if a && b then Some w else None) ≡ Some v → Write u l w ≡ Write t k v
    by true true p q e = let one : u ≡ t = eqb-true u t p in let two : l ≡ k = eqb-true l k q in let three : w ≡ v = same_Some w v e in cc
    by true false p q e = absurd (cc)
    by false b p q e = absurd (cc)

pub last_written : (xs : List Operation) (t k v : ℕ) → last_of xs t k ≡ Some v → (p : ℕ) × (slice_get xs p ≡ Some (Write t k v))
unfolding last_of
last_written [] t k v e = absurd (cc)
last_written (x ∷ xs) t k v e = by (last_of xs t k) refl e (λ w at. last_written xs t k w at)
  where
    by : (o : Option ℕ) → last_of xs t k ≡ o → option_or o (written_by t k x) ≡ Some v → ((w : ℕ) → last_of xs t k ≡ Some w → (p : ℕ) × (slice_get xs p ≡ Some (Write t k w))) → (p : ℕ) × (slice_get (x ∷ xs) p ≡ Some (Write t k v))
    by None p e later = (0, ap Some (written_is t k v x e))
    by (Some w) p e later = let there = later v (p ∙ e) in (suc there.0, there.1)
