-- What the posts tell: whether a node has an instance.
use Rattle.std.specs.Prelude.{ℕ, Option, None, Some}
use Rattle.history_book.specs.declared.cause.Cause.{Cause}
use Rattle.history_book.specs.declared.cause.Cause.TheVariants.{Holding}

-- why a node may not take: it has an instance of this term
abbrev pub holding : Option ℕ → Option Cause
holding None = None
holding (Some term) = Some (Holding term)
