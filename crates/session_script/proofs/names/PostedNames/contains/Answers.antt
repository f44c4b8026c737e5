use Rattle.std.proofs.Common.{ap, ◌∙◌}
use Rattle.std.specs.List.{list_any}
use Rattle.std.specs.Str.{bytes_eq}
use Rattle.session_script.specs.PostedNames.{Posted}
use Rattle.session_script.proofs.NameLemmas.{any-bytes}
use Rattle.session_script.proofs.names.PostedNames.contains.Goals as goal

pub returns : goal.returns
returns c = c.contains.ensures ∙ any-bytes (λ word. word.items) c.as_slice.result.now c.self.inside.names.keys
    ∙ ap (λ (p : Posted). list_any (bytes_eq c.as_slice.result.now) p.names) c.self.view_is
    ∙ ap (λ name. list_any (bytes_eq name) c.args.self.now.names) c.as_slice.ensures.value
