-- The clocks of a script that is carried out: their sums stay in the range of numbers.
use Rattle.std.specs.Prelude.{ℕ, ◌≤◌, ◌^◌, All, List}
use Rattle.script_data.specs.declared.line.Verb.{Verb}
use Rattle.script_data.specs.declared.line.Verb.TheVariants as verb
use Rattle.command_semantics.specs.Next.{Clocks}

abbrev pub clocks : ℕ → List ℕ → ℕ → Clocks
clocks base leads master = record { base = base; leads = leads; master = master }

-- a tick is at most this long
abbrev pub TicksWithin : ℕ → Verb → Type 0
TicksWithin most (verb.Tick by) = by ≤ most
TicksWithin most _ = Unit {0}

-- base clock, leads and tick are each at most half of the numbers
pub record HaveRoom (base : ℕ) (leads : List ℕ) (verb : Verb) : Type 0 where
  pub base_fits : base ≤ 2 ^ 62
  pub leads_fit : All (λ lead. lead ≤ 2 ^ 62) leads
  pub tick_fits : TicksWithin (2 ^ 62) verb
