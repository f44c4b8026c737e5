-- What is no text, or no JSON, has no value.
use Rattle.std.proofs.Common.{◌≡◌, ℕ, true, false, cond, List, None, IsUtf8, refl}
use Rattle.std.specs.Str.{is_utf8}
use Rattle.std.proofs.lemmas.Str.{IsUtf8-from_is_utf8}
use Rattle.serde_json.specs.Read.{read}
use Rattle.trace_reading.specs.Json.{read_json}

pub nothing_read : (bytes : List ℕ) → (IsUtf8 bytes → read bytes ≡ None) → read_json bytes ≡ None
nothing_read bytes none = elim (is_utf8 bytes) as (λ b. is_utf8 bytes ≡ b → cond b (read bytes) None ≡ None) [ true ↦ λ e. none (IsUtf8-from_is_utf8 _ e) | false ↦ λ e. refl ] refl
