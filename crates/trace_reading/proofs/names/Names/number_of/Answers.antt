use Rattle.std.proofs.Common.{◌≡◌, true, sym, ap, ◌∙◌}
use Rattle.std.specs.List.{list_any}
use Rattle.std.specs.Str.{bytes_eq}
use Rattle.trace_reading.specs.Names.{number_of}
use Rattle.trace_reading.proofs.NameLemmas.{any-bytes, place_there, names_same}
use Rattle.trace_reading.proofs.names.Names.number_of.Goals as goal

pub returns-in-Some-clause-number : goal.returns-in-Some-clause-number
returns-in-Some-clause-number c =
    place_there (λ word. word.items) c.args.name.now c.self.inside.names.keys c.in-Some.place c.in-Some.ensures.index ∙ ap (number_of c.args.name.now) c.self.view_is

pub returns-in-Some-clause-names : goal.returns-in-Some-clause-names
returns-in-Some-clause-names c =
    let there : list_any (bytes_eq c.args.name.now) c.args.self.now ≡ true =
    ap (list_any (bytes_eq c.args.name.now)) (sym c.self.view_is) ∙ sym (any-bytes (λ word. word.items) c.args.name.now c.self.inside.names.keys) ∙ sym c.in-Some.ensures.found in
    names_same c.args.name.now c.args.self.now there
