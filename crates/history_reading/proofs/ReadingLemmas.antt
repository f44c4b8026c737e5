-- Values and names that are made exactly where the bytes are some.
use Rattle.std.proofs.Common.{◌≡◌, ℕ, suc, nat_le, Bool, true, ◌&&◌, List, [], ◌∷◌, Option, Some, None, length, refl, sym, ap, ◌∙◌, arith, All, IsSome, ◌↔◌, IfSome, inl, inr}
use Rattle.std.specs.List.{list_all}
use Rattle.std.proofs.lemmas.Bool.{le-leb, leb-true, and_from, and_parts, cases_Bool, false≢true}
use Rattle.std.proofs.lemmas.List.Elements.{All-weaker}
use Rattle.std.proofs.lemmas.List.Sums.{AllPass-from_list_all}
use Rattle.stamp_base.specs.Words.{IsVisible, IsValue, IsNameByte, IsName}
use Rattle.history_reading.specs.ReadWords.{value_at, name_at, is_name_byte}

-- a test that decides a fact of bytes
record DecidesByte (test : ℕ → Bool) (Fact : ℕ → Type 0) : Type 0 where
  passes : (b : ℕ) → Fact b → test b ≡ true
  told : (b : ℕ) → test b ≡ true → Fact b

all_pass : (test : ℕ → Bool) (Fact : ℕ → Type 0) → DecidesByte test Fact → (bs : List ℕ) → All Fact bs → list_all test bs ≡ true
all_pass test Fact d [] h = refl
all_pass test Fact d (b ∷ bs) h = rw (d.passes b (h 0 0 (omega arith))) (all_pass test Fact d bs (λ k e l. h (suc k) e (omega arith)))

all_told : (test : ℕ → Bool) (Fact : ℕ → Type 0) → DecidesByte test Fact → (bs : List ℕ) → list_all test bs ≡ true → All Fact bs
all_told test Fact d bs e = All-weaker (λ b. test b ≡ true) Fact d.told bs (AllPass-from_list_all _ bs e)

visible_test : DecidesByte (λ b. nat_le 33 b && nat_le b 126) IsVisible
visible_test = record {
  passes = λ b h. and_from _ _ (le-leb 33 b h.0) (le-leb b 126 h.1);
  told = λ b e. let p = and_parts (nat_le 33 b) (nat_le b 126) e in (leb-true 33 b p.0, leb-true b 126 p.1);
}

pub value_at-in : (bs : List ℕ) → IsValue bs → value_at bs ≡ Some bs
unfolding value_at
value_at-in bs h = rw (le-leb 1 (length bs) h.0, le-leb (length bs) 64 h.1, all_pass _ _ visible_test bs h.2) refl

pub value_back : (bs : List ℕ) → ((nat_le 1 (length bs) && nat_le (length bs) 64) && list_all (λ b. nat_le 33 b && nat_le b 126) bs) ≡ true → IsValue bs
value_back bs e =
    let p = and_parts (nat_le 1 (length bs) && nat_le (length bs) 64) _ e in
    let q = and_parts (nat_le 1 (length bs)) (nat_le (length bs) 64) p.0 in
    (leb-true 1 (length bs) q.0, leb-true (length bs) 64 q.1, all_told _ _ visible_test bs p.1)

-- an option that is there exactly for values, and is the value
pub value_at-is : (bs : List ℕ) (r : Option (List ℕ)) → (IsSome r ↔ IsValue bs) → IfSome r (λ v. v ≡ bs) → r ≡ value_at bs
unfolding value_at
value_at-is bs (Some v) valid value = ap Some value ∙ sym (value_at-in bs (valid.0 refl))
value_at-is bs None valid value =
    elim (cases_Bool ((nat_le 1 (length bs) && nat_le (length bs) 64) && list_all (λ b. nat_le 33 b && nat_le b 126) bs)) [
      | inl e ↦ absurd (false≢true (valid.1 (value_back bs e)))
      | inr e ↦ rw e refl
    ]

name_passes : (b : ℕ) → IsNameByte b → is_name_byte b ≡ true
name_passes b h = grind arith

name_told : (b : ℕ) → is_name_byte b ≡ true → IsNameByte b
name_told b e = grind arith

name_test : DecidesByte is_name_byte IsNameByte
name_test = record { passes = name_passes; told = name_told }

pub name_at-in : (bs : List ℕ) → IsName bs → name_at bs ≡ Some bs
unfolding name_at
name_at-in bs h = rw (le-leb 1 (length bs) h.0, le-leb (length bs) 16 h.1, all_pass _ _ name_test bs h.2) refl

name_back : (bs : List ℕ) → ((nat_le 1 (length bs) && nat_le (length bs) 16) && list_all is_name_byte bs) ≡ true → IsName bs
name_back bs e =
    let p = and_parts (nat_le 1 (length bs) && nat_le (length bs) 16) _ e in
    let q = and_parts (nat_le 1 (length bs)) (nat_le (length bs) 16) p.0 in
    (leb-true 1 (length bs) q.0, leb-true (length bs) 16 q.1, all_told _ _ name_test bs p.1)

pub name_at-is : (bs : List ℕ) (r : Option (List ℕ)) → (IsSome r ↔ IsName bs) → IfSome r (λ v. v ≡ bs) → r ≡ name_at bs
unfolding name_at
name_at-is bs (Some v) valid value = ap Some value ∙ sym (name_at-in bs (valid.0 refl))
name_at-is bs None valid value =
    elim (cases_Bool ((nat_le 1 (length bs) && nat_le (length bs) 16) && list_all is_name_byte bs)) [
      | inl e ↦ absurd (false≢true (valid.1 (name_back bs e)))
      | inr e ↦ rw e refl
    ]
