-- Whether a shadow is there.
use Rattle.std.proofs.Common.{◌≡◌, ℕ, Bool, true, false, not, Option, None, Some, is_some, refl}

pub shadow_is_none : (shadow : Option ℕ) (r : Bool) → is_some shadow ≡ not r → r ≡ true → shadow ≡ None
shadow_is_none None r e f = refl
shadow_is_none (Some c) r e f = absurd (cc)

-- the shadow that is there
abbrev pub unwrapped : Option ℕ → ℕ
unwrapped None = 0
unwrapped (Some c) = c

pub shadow_is_some : (shadow : Option ℕ) (r : Bool) → is_some shadow ≡ not r → r ≡ false → shadow ≡ Some (unwrapped shadow)
shadow_is_some None r e f = absurd (cc)
shadow_is_some (Some c) r e f = refl
