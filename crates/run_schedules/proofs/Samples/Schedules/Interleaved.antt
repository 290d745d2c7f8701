-- A run of two callers worked by hand: a `compute` is under way while another call begins a resize, which copies the pair that it was told of.
use Rattle.std.specs.Prelude.{codes, drop, nat_eq}
use Rattle.std.proofs.Common.{ℕ, false, List, [], ◌∷◌, inl, inr, refl, arith, Some}
use Rattle.papaya_raw.specs.Given.TablesDeclared.lengths.Reason.TheVariants.{Full}
use Rattle.run_schedules.specs.declared.call.Call.TheVariants.{On, Walk}
use Rattle.run_schedules.specs.declared.call.OneKey.TheVariants.{Compute}
use Rattle.run_schedules.specs.declared.call.Reply.TheVariants.{Gives}
use Rattle.run_schedules.specs.declared.call.Response.TheVariants as answer
use Rattle.run_schedules.specs.declared.event.Event.TheVariants.{Register, Enter, DropGuard, Begin, Go, Replied, OneCall, Stop}
use Rattle.run_schedules.specs.declared.effect.Effect.{Effect}
use Rattle.run_schedules.specs.declared.effect.Effect.TheVariants.{Copied, Stored, Replaced, Deferred, Reclaimed}
use Rattle.run_schedules.specs.declared.effect.Thing.TheVariants.{APair, ATable}
use Rattle.run_schedules.specs.declared.outcome.Outcome.{Outcome}
use Rattle.run_schedules.specs.declared.outcome.Outcome.TheVariants.{Done, Slot, Goes, Asks, Ready, Answered}
use Rattle.run_schedules.specs.Schedules.Sequential.{Puts}
use Rattle.run_schedules.specs.Schedules.Entry.{Entry}
use Rattle.run_schedules.specs.Schedules.Runs.{IsLegalLog}
use Rattle.run_schedules.proofs.Samples.Schedules.Words.{small, entry, spot, table, makes_pair}
use Rattle.run_schedules.proofs.Samples.Schedules.Filled.{filled, filled_run}
use Rattle.run_schedules.proofs.Samples.Schedules.Resized.{passes, put_nine}

-- a second registration, with a guard h beside g
abbrev beside : List (Entry ℕ ℕ)
beside = entry (Enter (codes "h") (codes "q")) Done 0 [] ∷ entry (Register (codes "q")) (Slot 1) 0 [] ∷ filled

-- caller c asks about pair 1
abbrev begin : Entry ℕ ℕ
begin = entry (Begin (codes "c") (codes "h") (codes "m") (On (Compute 0))) Goes 0 []

abbrev go : Outcome ℕ → List Effect → Entry ℕ ℕ
go outcome effects = entry (Go (codes "c") false) outcome 30 effects

abbrev asked : List (Entry ℕ ℕ)
asked = go (Asks (Some 1)) [] ∷ begin ∷ beside

-- c is told to store 99, and does: the pair is the very one that it was told of
abbrev told : List (Entry ℕ ℕ)
told = entry (Replied (codes "c") (Gives 99)) Goes 0 [] ∷ put_nine ∷ asked

abbrev stores : List Effect → List Effect
stores effects = makes_pair (Copied 2 (spot 1 1) ∷ Replaced 1 ∷ Stored 10 (spot 1 0) ∷ effects)

abbrev updated : List (Entry ℕ ℕ)
updated = go (Answered (answer.Updated 1 10)) (stores (Deferred 1 (table 0) ∷ [])) ∷ told

-- the guards end, a walk completes the resize, and its guard ends
abbrev drop_named : List ℕ → List Effect → Entry ℕ ℕ
drop_named guard effects = entry (DropGuard guard) Done 0 effects

abbrev passed : List (Entry ℕ ℕ)
passed =
    entry (Stop (codes "-")) Done 0 []
    ∷ entry (OneCall (codes "i") (codes "m") Walk) Ready 60 passes
    ∷ entry (Enter (codes "i") (codes "r")) Done 0 []
    ∷ drop_named (codes "g") []
    ∷ drop_named (codes "h") []
    ∷ updated

abbrev reclaimed : List (Entry ℕ ℕ)
reclaimed = drop_named (codes "i") (Reclaimed (ATable (table 0)) ∷ Reclaimed (APair 1) ∷ []) ∷ passed

-- event by event, the promises are kept
since_1 : IsLegalLog nat_eq small (drop 12 reclaimed)
since_1 = (
  record {
    right = inl refl;
    steps = record { makes = refl; does = tt; brief = tt };
    waits = tt;
    linearizable = refl;
    swept = tt;
    life =
        record { finds = tt; may = refl; granted = refl; refuses = refl; whole = tt; leaves = tt };
    protected = refl;
    by_model = refl;
    little = record { bounded = tt; orderly = record { pairs = refl; tables = refl }; emptied = tt; torn_down = tt };
  },
  filled_run,
)

since_2 : IsLegalLog nat_eq small (drop 11 reclaimed)
since_2 = (
  record {
    right = refl;
    steps = record { makes = refl; does = tt; brief = tt };
    waits = tt;
    linearizable = refl;
    swept = tt;
    life =
        record { finds = tt; may = refl; granted = refl; refuses = refl; whole = tt; leaves = tt };
    protected = refl;
    by_model = refl;
    little = record { bounded = tt; orderly = record { pairs = refl; tables = refl }; emptied = tt; torn_down = tt };
  },
  since_1,
)

since_3 : IsLegalLog nat_eq small (drop 10 reclaimed)
since_3 = (
  record {
    right = refl;
    steps = record { makes = refl; does = tt; brief = tt };
    waits = tt;
    linearizable = refl;
    swept = tt;
    life =
        record { finds = tt; may = refl; granted = refl; refuses = refl; whole = tt; leaves = tt };
    protected = refl;
    by_model = refl;
    little = record { bounded = tt; orderly = tt; emptied = tt; torn_down = tt };
  },
  since_2,
)

since_4 : IsLegalLog nat_eq small (drop 9 reclaimed)
since_4 = (
  record {
    right = refl;
    steps = record { makes = omega arith; does = omega arith; brief = tt };
    waits = tt;
    linearizable = record { changes = inl refl; ends = tt; asks = (refl, inl (refl, refl), inr refl) };
    swept = tt;
    life =
        record { finds = tt; may = refl; granted = refl; refuses = refl; whole = tt; leaves = tt };
    protected = refl;
    by_model = refl;
    little = record { bounded = tt; orderly = tt; emptied = tt; torn_down = tt };
  },
  since_3,
)

since_5 : IsLegalLog nat_eq small (drop 8 reclaimed)
unfolding lib.Count.count_leading_zeros
since_5 = (
  record {
    right = refl;
    steps = record { makes = (omega arith, omega arith); does = omega arith; brief = tt };
    waits = tt;
    linearizable = record { changes = inr (refl, answer.Absent, Puts 10, refl, refl); ends = refl; asks = tt };
    swept = tt;
    life =
        record {
          finds = (
            (refl, (refl, inl refl)),
            (
              (refl, (refl, refl, refl)),
              (
                (refl, (refl, inl refl)),
                (
                  (refl, (refl, refl, refl, omega arith)),
                  (
                    (
                      refl,
                      (
                        refl,
                        refl,
                        (
                          Full 8 8,
                          8,
                          8,
                          refl,
                          (
                            refl,
                            (
                              8,
                              inl (
                                7,
                                1,
                                inl (
                                  6,
                                  1,
                                  inl (
                                    5,
                                    1,
                                    inl (
                                      4,
                                      1,
                                      inl (
                                        3,
                                        1,
                                        inl (
                                          2,
                                          1,
                                          inl (
                                            1,
                                            1,
                                            inl (
                                              0,
                                              1,
                                              refl,
                                              (refl, refl),
                                              refl,
                                            ),
                                            (refl, refl),
                                            refl,
                                          ),
                                          (refl, refl),
                                          refl,
                                        ),
                                        (refl, refl),
                                        refl,
                                      ),
                                      (refl, refl),
                                      refl,
                                    ),
                                    (refl, refl),
                                    refl,
                                  ),
                                  (refl, refl),
                                  refl,
                                ),
                                (refl, refl),
                                refl,
                              ),
                            ),
                          ),
                          refl,
                          refl,
                        ),
                      ),
                    ),
                    (
                      (refl, (refl, omega arith, omega arith, refl)),
                      ((refl, (refl, refl, refl, omega arith, refl)), ((refl, (omega arith, refl)), tt)),
                    ),
                  ),
                ),
              ),
            ),
          );
          may = refl;
          granted = refl;
          refuses = refl;
          whole = tt;
          leaves = (record { owes = refl; block = refl; table = refl; counted = refl }, refl);
        };
    protected = refl;
    by_model = tt;
    little = record { bounded = tt; orderly = tt; emptied = tt; torn_down = tt };
  },
  since_4,
)

since_6 : IsLegalLog nat_eq small (drop 7 reclaimed)
since_6 = (
  record {
    right = refl;
    steps = record { makes = refl; does = tt; brief = tt };
    waits = tt;
    linearizable = refl;
    swept = tt;
    life =
        record { finds = tt; may = refl; granted = refl; refuses = refl; whole = tt; leaves = tt };
    protected = refl;
    by_model = tt;
    little = record { bounded = tt; orderly = tt; emptied = tt; torn_down = tt };
  },
  since_5,
)

since_7 : IsLegalLog nat_eq small (drop 6 reclaimed)
since_7 = (
  record {
    right = refl;
    steps = record { makes = omega arith; does = omega arith; brief = tt };
    waits = tt;
    linearizable = record { changes = inr (refl, answer.Updated 1 10, Puts 99, refl, refl); ends = refl; asks = tt };
    swept = tt;
    life =
        record {
          finds = (
            (refl, (refl, inl refl)),
            (
              (refl, (refl, refl, refl)),
              (
                (refl, (refl, omega arith, omega arith, refl)),
                (
                  (refl, refl),
                  (
                    (refl, (refl, refl, refl, omega arith, refl)),
                    ((refl, (refl, (refl, refl, omega arith, refl, refl, omega arith))), tt),
                  ),
                ),
              ),
            ),
          );
          may = refl;
          granted = refl;
          refuses = refl;
          whole = tt;
          leaves = (record { owes = refl; block = refl; table = refl; counted = refl }, refl);
        };
    protected = refl;
    by_model = tt;
    little = record { bounded = tt; orderly = record { pairs = refl; tables = refl }; emptied = tt; torn_down = tt };
  },
  since_6,
)

since_8 : IsLegalLog nat_eq small (drop 5 reclaimed)
since_8 = (
  record {
    right = refl;
    steps = record { makes = refl; does = tt; brief = tt };
    waits = tt;
    linearizable = refl;
    swept = tt;
    life =
        record { finds = tt; may = refl; granted = refl; refuses = refl; whole = tt; leaves = tt };
    protected = refl;
    by_model = tt;
    little = record { bounded = tt; orderly = record { pairs = refl; tables = refl }; emptied = tt; torn_down = tt };
  },
  since_7,
)

since_9 : IsLegalLog nat_eq small (drop 4 reclaimed)
since_9 = (
  record {
    right = refl;
    steps = record { makes = refl; does = tt; brief = tt };
    waits = tt;
    linearizable = refl;
    swept = tt;
    life =
        record { finds = tt; may = refl; granted = refl; refuses = refl; whole = tt; leaves = tt };
    protected = refl;
    by_model = tt;
    little = record { bounded = omega arith; orderly = record { pairs = refl; tables = refl }; emptied = tt; torn_down = tt };
  },
  since_8,
)

since_10 : IsLegalLog nat_eq small (drop 3 reclaimed)
since_10 = (
  record {
    right = refl;
    steps = record { makes = refl; does = tt; brief = tt };
    waits = tt;
    linearizable = refl;
    swept = tt;
    life =
        record { finds = tt; may = refl; granted = refl; refuses = refl; whole = tt; leaves = tt };
    protected = refl;
    by_model = tt;
    little = record { bounded = tt; orderly = record { pairs = refl; tables = refl }; emptied = tt; torn_down = tt };
  },
  since_9,
)

since_11 : IsLegalLog nat_eq small (drop 2 reclaimed)
since_11 = (
  record {
    right = refl;
    steps = record { makes = (omega arith, omega arith); does = omega arith; brief = tt };
    waits = tt;
    linearizable = record { changes = tt; ends = tt; asks = tt };
    swept = tt;
    life =
        record {
          finds = (
            (refl, (refl, omega arith, omega arith, refl)),
            (
              (refl, (refl, omega arith, omega arith, refl)),
              (
                (refl, (refl, omega arith, omega arith, refl)),
                (
                  (refl, (refl, omega arith, omega arith, refl)),
                  (
                    (refl, (refl, omega arith, omega arith, refl)),
                    ((refl, (refl, omega arith, omega arith, refl)), ((refl, (refl, refl, refl, refl)), ((refl, refl), tt))),
                  ),
                ),
              ),
            ),
          );
          may = refl;
          granted = refl;
          refuses = refl;
          whole = tt;
          leaves = (record { owes = refl; block = refl; table = refl; counted = refl }, refl);
        };
    protected = refl;
    by_model = tt;
    little = record { bounded = tt; orderly = tt; emptied = tt; torn_down = tt };
  },
  since_10,
)

since_12 : IsLegalLog nat_eq small (drop 1 reclaimed)
since_12 = (
  record {
    right = refl;
    steps = record { makes = refl; does = tt; brief = tt };
    waits = tt;
    linearizable = refl;
    swept = tt;
    life =
        record { finds = tt; may = refl; granted = refl; refuses = refl; whole = tt; leaves = tt };
    protected = refl;
    by_model = tt;
    little = record { bounded = tt; orderly = record { pairs = refl; tables = refl }; emptied = tt; torn_down = tt };
  },
  since_11,
)

two_callers : IsLegalLog nat_eq small reclaimed
two_callers = (
  record {
    right = refl;
    steps = record { makes = refl; does = tt; brief = tt };
    waits = tt;
    linearizable = refl;
    swept = tt;
    life =
        record { finds = (refl, (tt, tt)); may = refl; granted = refl; refuses = refl; whole = tt; leaves = tt };
    protected = refl;
    by_model = tt;
    little = record { bounded = omega arith; orderly = record { pairs = refl; tables = refl }; emptied = tt; torn_down = tt };
  },
  since_12,
)
