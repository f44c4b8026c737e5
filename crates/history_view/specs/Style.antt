-- The style of a picture, which stands in the code as it is written.
use Rattle.std.specs.Prelude.{ℕ, List}
use Rattle.history_view.specs.declared.style.TheConstants.{STYLE}

abbrev pub style_text : List ℕ
style_text = STYLE.now
