use Rattle.std.proofs.Common.{◌≡◌, false, nat_eq, ◌++◌, ◌∷◌, [], map, ap, ◌∙◌}
use Rattle.std.specs.Cmp.Lexicographic.{pointwise}
use Rattle.std.specs.List.{list_any}
use Rattle.std.specs.Str.{bytes_eq}
use Rattle.session_script.specs.PostedNames.{Posted}
use Rattle.session_script.proofs.NameLemmas.{any-bytes, inserted-bytes}
use Rattle.session_script.proofs.names.PostedNames.insert.Goals as goal

pub returns : goal.returns
returns c =
    let name = c.args.name in
    let keys = c.self.inside.names.keys in
    let before = ap (λ (p : Posted). p.names) c.self.view_is in
    let absent : list_any (λ word. pointwise nat_eq name.items word.items) keys ≡ false = any-bytes (λ word. word.items) name.items keys ∙ ap (list_any (bytes_eq name.items)) before ∙ c.requires.absent in
    ap (map (λ word. word.items)) c.in-Ok.ensures.keys ∙ inserted-bytes (λ word. word.items) keys name (λ a b. pointwise nat_eq a.items b.items) absent
    ∙ ap (λ names. names ++ name.items ∷ []) before
