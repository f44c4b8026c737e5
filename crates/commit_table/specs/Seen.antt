-- A commit table as contracts see it.
use Rattle.std.specs.Prelude.{Bool, refl}
use Rattle.std.specs.Coded.{Coded, code_by, coded×, coded_bool}
use Rattle.system_parts.specs.Pairs.{Pairs, Places, pairs_code, places_code}

-- the marks of the transactions, the transactions for which a put takes no memory, and whether there is room for one mark more
pub record SeenTable : Type 0 where
  pub pairs : Pairs
  pub places : Places
  pub has_room : Bool

abbrev pub seen_code : Coded SeenTable
seen_code =
    code_by (Pairs × (Places × Bool)) (coded× pairs_code (coded× places_code coded_bool)) (λ s. (s.pairs, (s.places, s.has_room))) (λ p. record { pairs = p.0; places = p.1.0; has_room = p.1.1 }) (λ _. refl)
