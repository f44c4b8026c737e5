-- Parts that are lent one by one.
use Rattle.std.specs.Prelude.{◌≡◌, ℕ, ◌<◌, length, slice_index_or, None, IsSome, replicate}
use Rattle.script_data.specs.Data.{ScriptData}
use Rattle.split_parts.specs.Parts.{Parts}

-- nothing is lent
abbrev pub no_parts : ScriptData → Parts
no_parts plan = record { plan = plan; sessions = replicate 16 None; janitor = None; clock = None; node = None; cells = None; table = None; master = None; names = None }

-- a part is lent as that of this session
abbrev pub LendsSession : Parts → ℕ → Type 0
LendsSession l session = IsSome (slice_index_or l.sessions session None)

-- so it is with the sessions below this number
pub record LendsBelow (number : ℕ) (l : Parts) : Type 0 where
  pub all : length l.sessions ≡ 16
  pub each : (session : ℕ) → session < number → LendsSession l session
