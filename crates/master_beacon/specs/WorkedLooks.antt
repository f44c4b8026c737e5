-- Lists that passes have seen, for looks that are right and looks that are not.
use Rattle.std.specs.Prelude.{List, [], ◌∷◌}
use Rattle.master_beacon.specs.declared.rule.Announced.{Announced}
use Rattle.master_beacon.specs.Announcements.{announced}

-- the node a took the term 1
abbrev pub by_a : List Announced
by_a = announced 1 0 ∷ []

-- then the node b took the term 2
abbrev pub by_a_and_b : List Announced
by_a_and_b = announced 1 0 ∷ announced 2 1 ∷ []
