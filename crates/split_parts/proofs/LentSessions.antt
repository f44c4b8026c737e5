-- For split_stores too.
-- Sessions that are lent one by one: which are there. Serves `Lent::with_next_session`, and split_stores, where they are locked.
use Rattle.split_parts.proofs.Names.{◌≡◌, ℕ, zero, suc, ◌+◌, ◌<◌, List, length, None, Option, Some, refl, sym, ap, ◌∙◌}
use Rattle.split_parts.proofs.Names.{subst, arith, inl, inr, ◌⊎◌, ⊎_elim, IsSome, slice_index_or, get_or-set_same}
use Rattle.split_parts.proofs.Names.{get_or-set_other, length-set, LendsBelow, LendsSession, no_parts, Parts, Session}
use Rattle.std.specs.Prelude.{slice_set}
use Rattle.script_data.specs.Data.{ScriptData}

pub has_set : (sessions : List (Option Session)) (s : ℕ) (c : Session) → s < length sessions → IsSome (slice_index_or (slice_set sessions s (Some c)) s None)
has_set sessions s c there = subst IsSome (sym (get_or-set_same sessions s (Some c) None there)) refl

-- the one session that is lent
pub lent_session : (l m : Parts) (plan : ScriptData) (s n : ℕ) (c : Session) → l ≡ record m { sessions = slice_set m.sessions n (Some c) } → m ≡ no_parts plan → n ≡ s → n < 16 → LendsSession l s
lent_session l m plan s n c with_one none same less =
    subst (λ k. LendsSession l k) same (subst (λ (sessions : List (Option Session)). IsSome (slice_index_or sessions n None)) (sym (ap (λ (p : Parts). p.sessions) with_one)) (has_set m.sessions n c (omega (arith, less, ap (λ (p : Parts). length p.sessions) none))))

-- it is lent still where other parts are lent too
pub kept_session : (l m : Parts) (s : ℕ) → l.sessions ≡ m.sessions → LendsSession m s → LendsSession l s
kept_session l m s same has = subst (λ (sessions : List (Option Session)). IsSome (slice_index_or sessions s None)) (sym same) has

pub kept_below : (l m : Parts) (n : ℕ) → l.sessions ≡ m.sessions → LendsBelow n m → LendsBelow n l
kept_below l m n same has = record { all = ap length same ∙ has.all; each = λ session less. kept_session l m session same (has.each session less) }

pub none_below : (plan : ScriptData) → LendsBelow 0 (no_parts plan)
none_below plan = record { all = refl; each = λ session less. absurd (omega (arith, less)) }

pub session_is : (n s : ℕ) → s < n + 1 → (s ≡ n) ⊎ (s < n)
session_is zero zero less = inl refl
session_is zero (suc s) less = absurd (omega (arith, less))
session_is (suc n) zero less = inr (omega arith)
session_is (suc n) (suc s) less = ⊎_elim (λ (e : s ≡ n). inl (ap suc e)) (λ (h : s < n). inr (omega (arith, h))) (session_is n s (omega (arith, less)))

pub below_more : (l : Parts) (n : ℕ) (c : Session) → n < 16 → LendsBelow n l → LendsBelow (n + 1) (record l { sessions = slice_set l.sessions n (Some c) })
below_more l n c less h = record {
  all = length-set l.sessions n (Some c) ∙ h.all;
  each = λ session below. ⊎_elim
      (λ (e : session ≡ n). subst (λ s. IsSome (slice_index_or (slice_set l.sessions n (Some c)) s None)) (sym e) (has_set l.sessions n c (omega (arith, less, h.all))))
      (λ (h' : session < n). subst IsSome (sym (get_or-set_other l.sessions n session (Some c) None (λ (e : session ≡ n). omega (arith, e, h')))) (h.each session h'))
      (session_is n session below);
}
