-- The run in which the bound is reached.
use Rattle.std.proofs.Common.{◌≡◌, List, [], ◌∷◌, refl}
use Rattle.history_book.specs.declared.item.Item.{Item}
use Rattle.port_io.specs.Planned.{planned_fate}
use Rattle.system_parts.specs.Buckets.{record_pairs, kept_commit, verdict}
use Rattle.system_parts.specs.Instance.{least_unsettled}
use Rattle.system_parts.specs.Rows.{put_row}
use Rattle.machine.specs.Readers.{holder_from}
use Rattle.turn_rules.specs.Carried.{carried, carried_items}
use Rattle.turn_rules.specs.Lawful.{AreLawful}
use Rattle.turn_rules.specs.Seats.{seats_of, passed}
use Rattle.request_latency.specs.Latency.{services}
use Rattle.request_latency.specs.Worked as worked
use Rattle.request_latency.proofs.AllTurns.{LawfulOn, all_lawful}

pub history : carried_items worked.script worked.all_turns ≡ worked.items
unfolding seats_of passed holder_from planned_fate record_pairs least_unsettled kept_commit verdict put_row
history = refl

pub commit_served : services 0 worked.behind_commit ≡ 4
commit_served = refl

pub begin_served : services 1 worked.behind_begin ≡ 4
begin_served = refl

some_item : (x : Item) (xs : List Item) → x ∷ xs ≡ [] → ⊥
some_item x xs none = cc

each_lawful : LawfulOn worked.script (carried worked.script []) worked.all_turns
unfolding LawfulOn seats_of passed holder_from planned_fate record_pairs least_unsettled kept_commit verdict put_row
each_lawful = (
  record { free = tt; in_place = tt; told = λ none. some_item _ _ none },
  (
    record { free = tt; in_place = tt; told = λ none. some_item _ _ none },
    (
      record { free = refl; in_place = refl; told = λ none. some_item _ _ none },
      (
        record { free = refl; in_place = refl; told = λ none. some_item _ _ none },
        (
          record { free = refl; in_place = refl; told = λ none. some_item _ _ none },
          (
            record { free = tt; in_place = tt; told = λ none. some_item _ _ none },
            (
              record { free = tt; in_place = tt; told = λ none. some_item _ _ none },
              (
                record { free = tt; in_place = tt; told = λ none. some_item _ _ none },
                (
                  record { free = refl; in_place = refl; told = λ none. some_item _ _ none },
                  (
                    record { free = refl; in_place = refl; told = λ none. some_item _ _ none },
                    (
                      record { free = refl; in_place = refl; told = λ none. some_item _ _ none },
                      (
                        record { free = refl; in_place = (refl, refl); told = λ none. some_item _ _ none },
                        (
                          record { free = refl; in_place = refl; told = λ none. some_item _ _ none },
                          (
                            record { free = refl; in_place = refl; told = λ none. some_item _ _ none },
                            (
                              record { free = refl; in_place = (refl, refl); told = λ none. some_item _ _ none },
                              (
                                record { free = refl; in_place = refl; told = λ none. some_item _ _ none },
                                (
                                  record { free = refl; in_place = refl; told = λ none. some_item _ _ none },
                                  (
                                    record { free = refl; in_place = (refl, refl); told = λ none. some_item _ _ none },
                                    (
                                      record { free = refl; in_place = refl; told = λ none. some_item _ _ none },
                                      (
                                        record { free = refl; in_place = refl; told = λ none. some_item _ _ none },
                                        tt,
                                      ),
                                    ),
                                  ),
                                ),
                              ),
                            ),
                          ),
                        ),
                      ),
                    ),
                  ),
                ),
              ),
            ),
          ),
        ),
      ),
    ),
  ),
)

pub run_lawful : AreLawful worked.script worked.all_turns
run_lawful = all_lawful worked.script (carried worked.script []) worked.all_turns each_lawful
