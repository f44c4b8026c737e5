use Rattle.std.proofs.Common.{ap, map, ◌∙◌}
use Rattle.trace_reading.specs.Names.{number_of, names_with}
use Rattle.trace_reading.proofs.NameLemmas.{place-bytes, inserted-bytes}
use Rattle.trace_reading.proofs.names.Names.add.Goals as goal

pub returns-clause-number : goal.returns-clause-number
returns-clause-number c =
    let bytes = c.in_ok-bytes.bytes in
    let same = c.in_ok-bytes.ensures.items_if_clones_equal (λ x y h. h) in
    c.in_ok-place.ensures.index ∙ place-bytes (λ word. word.items) bytes.items c.self.inside.names.keys
    ∙ ap (number_of bytes.items) c.self.view_is ∙ ap (λ name. number_of name c.args.self.now) same

pub returns-clause-names : goal.returns-clause-names
returns-clause-names c =
    let bytes = c.in_ok-bytes.bytes in
    let same = c.in_ok-bytes.ensures.items_if_clones_equal (λ x y h. h) in
    ap (map (λ word. word.items)) c.in_ok-place.ensures.keys ∙ inserted-bytes (λ word. word.items) c.self.inside.names.keys bytes
    ∙ ap (names_with bytes.items) c.self.view_is ∙ ap (λ name. names_with name c.args.self.now) same
