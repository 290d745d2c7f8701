-- A run worked by hand in which a map comes to its next table: a pair that was copied is removed, waits behind the old table, and is reclaimed right after it.
use Rattle.std.specs.Prelude.{codes, drop, nat_eq}
use Rattle.std.proofs.Common.{ℕ, List, [], ◌∷◌, inl, inr, refl, arith}
use Rattle.papaya_raw.specs.Given.TablesDeclared.lengths.Reason.TheVariants.{Full}
use Rattle.run_schedules.specs.declared.call.Call.TheVariants.{On, Walk}
use Rattle.run_schedules.specs.declared.call.OneKey.TheVariants.{Insert, Remove}
use Rattle.run_schedules.specs.declared.call.Response.TheVariants as answer
use Rattle.run_schedules.specs.declared.event.Event.TheVariants.{Enter, DropGuard, OneCall, Stop}
use Rattle.run_schedules.specs.declared.effect.Effect.{Effect}
use Rattle.run_schedules.specs.declared.effect.Effect.TheVariants.{Promoted, Copied, Stored, Removed, Counted, Deferred, Retired, Reclaimed}
use Rattle.run_schedules.specs.declared.effect.Thing.TheVariants.{APair, ATable}
use Rattle.run_schedules.specs.declared.outcome.Outcome.TheVariants.{Done, Ready, Answered}
use Rattle.run_schedules.specs.Schedules.Sequential.{Puts, Takes}
use Rattle.run_schedules.specs.Schedules.Entry.{Entry}
use Rattle.run_schedules.specs.Schedules.Runs.{IsLegalLog}
use Rattle.run_schedules.proofs.Samples.Schedules.Words.{small, entry, spot, table, shape, makes_pair, makes_table, call, drop_guard}
use Rattle.run_schedules.proofs.Samples.Schedules.Filled.{filled, filled_run}

-- the ninth goes into the next table, and pair 1 is copied there
abbrev pub grows : List Effect
grows = makes_pair (makes_table 1 (shape 16 15) (Copied 1 (spot 1 0) ∷ Stored 9 (spot 1 8) ∷ Counted 0 ∷ []))

abbrev pub put_nine : Entry ℕ ℕ
put_nine = call (On (Insert 8 10)) (Answered answer.Absent) 30 grows

abbrev pub grown : List (Entry ℕ ℕ)
grown = put_nine ∷ filled

-- pair 1 is removed, pair 2 is copied by the way
abbrev pub remove_one : List Effect → Entry ℕ ℕ
remove_one effects = call (On (Remove 0)) (Answered (answer.Found 1)) 20 (Copied 2 (spot 1 1) ∷ Removed 1 ∷ effects)

abbrev pub removed : List (Entry ℕ ℕ)
removed = remove_one (Deferred 1 (table 0) ∷ Counted 0 ∷ []) ∷ grown

-- the guard ends, and nothing is reclaimed; under another one a walk completes the resize
abbrev pub passes : List Effect
passes =
    Copied 3 (spot 1 2) ∷ Copied 4 (spot 1 3) ∷ Copied 5 (spot 1 4) ∷ Copied 6 (spot 1 5) ∷ Copied 7 (spot 1 6) ∷ Copied 8 (spot 1 7) ∷ Promoted (table 1)
    ∷ Retired (ATable (table 0))
    ∷ []

abbrev pub walks : Entry ℕ ℕ
walks = entry (OneCall (codes "h") (codes "m") Walk) Ready 60 passes

abbrev pub passed : List (Entry ℕ ℕ)
passed = entry (Stop (codes "-")) Done 0 [] ∷ walks ∷ entry (Enter (codes "h") (codes "r")) Done 0 [] ∷ drop_guard [] ∷ removed

-- and that one ends, too
abbrev pub drop_h : List Effect → Entry ℕ ℕ
drop_h effects = entry (DropGuard (codes "h")) Done 0 effects

abbrev pub resized : List (Entry ℕ ℕ)
resized = drop_h (Reclaimed (ATable (table 0)) ∷ Reclaimed (APair 1) ∷ []) ∷ passed

-- event by event, the promises are kept
since_1 : IsLegalLog nat_eq small (drop 6 resized)
unfolding lib.Count.count_leading_zeros
since_1 = (
  record {
    right = refl;
    steps = record { makes = (omega arith, omega arith); does = omega arith; brief = tt };
    waits = tt;
    linearizable = record { changes = inr (refl, answer.Absent, Puts 10, refl, refl); ends = refl; asks = tt };
    swept = tt;
    life =
        record {
          finds = (
            (refl, (refl, inl refl)),
            (
              (refl, (refl, refl, refl)),
              (
                (refl, (refl, inl refl)),
                (
                  (refl, (refl, refl, refl, omega arith)),
                  (
                    (
                      refl,
                      (
                        refl,
                        refl,
                        (
                          Full 8 8,
                          8,
                          8,
                          refl,
                          (
                            refl,
                            (
                              8,
                              inl (
                                7,
                                1,
                                inl (
                                  6,
                                  1,
                                  inl (
                                    5,
                                    1,
                                    inl (
                                      4,
                                      1,
                                      inl (
                                        3,
                                        1,
                                        inl (
                                          2,
                                          1,
                                          inl (
                                            1,
                                            1,
                                            inl (
                                              0,
                                              1,
                                              refl,
                                              (refl, refl),
                                              refl,
                                            ),
                                            (refl, refl),
                                            refl,
                                          ),
                                          (refl, refl),
                                          refl,
                                        ),
                                        (refl, refl),
                                        refl,
                                      ),
                                      (refl, refl),
                                      refl,
                                    ),
                                    (refl, refl),
                                    refl,
                                  ),
                                  (refl, refl),
                                  refl,
                                ),
                                (refl, refl),
                                refl,
                              ),
                            ),
                          ),
                          refl,
                          refl,
                        ),
                      ),
                    ),
                    (
                      (refl, (refl, omega arith, omega arith, refl)),
                      ((refl, (refl, refl, refl, omega arith, refl)), ((refl, (omega arith, refl)), tt)),
                    ),
                  ),
                ),
              ),
            ),
          );
          may = refl;
          granted = refl;
          refuses = refl;
          whole = tt;
          leaves = (record { owes = refl; block = refl; table = refl; counted = refl }, refl);
        };
    protected = refl;
    by_model = refl;
    little = record { bounded = tt; orderly = record { pairs = refl; tables = refl }; emptied = tt; torn_down = tt };
  },
  filled_run,
)

since_2 : IsLegalLog nat_eq small (drop 5 resized)
since_2 = (
  record {
    right = refl;
    steps = record { makes = (omega arith, omega arith); does = omega arith; brief = tt };
    waits = tt;
    linearizable = record { changes = inr (refl, answer.Found 1, Takes, refl, refl); ends = refl; asks = tt };
    swept = tt;
    life =
        record {
          finds = (
            (refl, (refl, omega arith, omega arith, refl)),
            ((refl, refl), ((refl, (refl, (refl, refl, omega arith, refl, refl, omega arith))), ((refl, (omega arith, refl)), tt))),
          );
          may = refl;
          granted = refl;
          refuses = refl;
          whole = tt;
          leaves = (record { owes = refl; block = refl; table = refl; counted = refl }, refl);
        };
    protected = refl;
    by_model = refl;
    little = record { bounded = tt; orderly = record { pairs = refl; tables = refl }; emptied = tt; torn_down = tt };
  },
  since_1,
)

since_3 : IsLegalLog nat_eq small (drop 4 resized)
since_3 = (
  record {
    right = refl;
    steps = record { makes = refl; does = tt; brief = tt };
    waits = tt;
    linearizable = refl;
    swept = tt;
    life =
        record { finds = tt; may = refl; granted = refl; refuses = refl; whole = tt; leaves = tt };
    protected = refl;
    by_model = refl;
    little = record { bounded = omega arith; orderly = record { pairs = refl; tables = refl }; emptied = tt; torn_down = tt };
  },
  since_2,
)

since_4 : IsLegalLog nat_eq small (drop 3 resized)
since_4 = (
  record {
    right = refl;
    steps = record { makes = refl; does = tt; brief = tt };
    waits = tt;
    linearizable = refl;
    swept = tt;
    life =
        record { finds = tt; may = refl; granted = refl; refuses = refl; whole = tt; leaves = tt };
    protected = refl;
    by_model = refl;
    little = record { bounded = tt; orderly = record { pairs = refl; tables = refl }; emptied = tt; torn_down = tt };
  },
  since_3,
)

since_5 : IsLegalLog nat_eq small (drop 2 resized)
since_5 = (
  record {
    right = refl;
    steps = record { makes = (omega arith, omega arith); does = omega arith; brief = tt };
    waits = tt;
    linearizable = record { changes = tt; ends = tt; asks = tt };
    swept = tt;
    life =
        record {
          finds = (
            (refl, (refl, omega arith, omega arith, refl)),
            (
              (refl, (refl, omega arith, omega arith, refl)),
              (
                (refl, (refl, omega arith, omega arith, refl)),
                (
                  (refl, (refl, omega arith, omega arith, refl)),
                  (
                    (refl, (refl, omega arith, omega arith, refl)),
                    ((refl, (refl, omega arith, omega arith, refl)), ((refl, (refl, refl, refl, refl)), ((refl, refl), tt))),
                  ),
                ),
              ),
            ),
          );
          may = refl;
          granted = refl;
          refuses = refl;
          whole = tt;
          leaves = (record { owes = refl; block = refl; table = refl; counted = refl }, refl);
        };
    protected = refl;
    by_model = refl;
    little = record { bounded = tt; orderly = tt; emptied = tt; torn_down = tt };
  },
  since_4,
)

since_6 : IsLegalLog nat_eq small (drop 1 resized)
since_6 = (
  record {
    right = refl;
    steps = record { makes = refl; does = tt; brief = tt };
    waits = tt;
    linearizable = refl;
    swept = tt;
    life =
        record { finds = tt; may = refl; granted = refl; refuses = refl; whole = tt; leaves = tt };
    protected = refl;
    by_model = refl;
    little = record { bounded = tt; orderly = record { pairs = refl; tables = refl }; emptied = tt; torn_down = tt };
  },
  since_5,
)

resized_run : IsLegalLog nat_eq small resized
resized_run = (
  record {
    right = refl;
    steps = record { makes = refl; does = tt; brief = tt };
    waits = tt;
    linearizable = refl;
    swept = tt;
    life =
        record { finds = (refl, (tt, tt)); may = refl; granted = refl; refuses = refl; whole = tt; leaves = tt };
    protected = refl;
    by_model = refl;
    little = record { bounded = omega arith; orderly = record { pairs = refl; tables = refl }; emptied = tt; torn_down = tt };
  },
  since_6,
)
