-- A run worked by hand: a pair is replaced under a guard, and reclaimed as the guard ends. And wrong runs of the same schedule.
use Rattle.std.specs.Prelude.{drop, nat_eq}
use Rattle.std.proofs.Common.{ℕ, List, [], ◌∷◌, inl, inr, refl, arith}
use Rattle.run_schedules.specs.declared.call.Call.TheVariants.{On}
use Rattle.run_schedules.specs.declared.call.OneKey.TheVariants.{Insert}
use Rattle.run_schedules.specs.declared.call.Response.TheVariants as answer
use Rattle.run_schedules.specs.declared.effect.Effect.{Effect}
use Rattle.run_schedules.specs.declared.effect.Effect.TheVariants.{Stored, Replaced, Retired, Reclaimed}
use Rattle.run_schedules.specs.declared.effect.Thing.TheVariants.{APair}
use Rattle.run_schedules.specs.declared.outcome.Outcome.{Outcome}
use Rattle.run_schedules.specs.declared.outcome.Outcome.TheVariants.{Answered}
use Rattle.run_schedules.specs.Schedules.Sequential.{Puts}
use Rattle.run_schedules.specs.Schedules.Entry.{Entry}
use Rattle.run_schedules.specs.Schedules.Runs.{IsLegalLog}
use Rattle.run_schedules.proofs.Samples.Schedules.Words.{small, spot, makes_pair, call, inserted, drop_guard}

-- pair 2 takes the place of pair 1, which is retired
abbrev pub put_two : Outcome ℕ → List Effect → Entry ℕ ℕ
put_two outcome effects = call (On (Insert 1 20)) outcome 9 (makes_pair (Replaced 1 ∷ Stored 2 (spot 0 1) ∷ effects))

abbrev pub replaced : List (Entry ℕ ℕ)
replaced = put_two (Answered (answer.Found 1)) (Retired (APair 1) ∷ []) ∷ inserted

-- and pair 1 is reclaimed as the guard ends
abbrev pub dropped : List (Entry ℕ ℕ)
dropped = drop_guard (Reclaimed (APair 1) ∷ []) ∷ replaced

-- event by event, its promises are kept
after_1 : IsLegalLog nat_eq small (drop 6 dropped)
after_1 = (
  record {
    right = refl;
    steps = record { makes = refl; does = tt; brief = tt };
    waits = tt;
    linearizable = refl;
    swept = tt;
    life =
        record { finds = tt; may = refl; granted = refl; refuses = refl; whole = tt; leaves = tt };
    protected = refl;
    by_model = refl;
    little = record { bounded = omega arith; orderly = record { pairs = refl; tables = refl }; emptied = tt; torn_down = tt };
  },
  tt,
)

after_2 : IsLegalLog nat_eq small (drop 5 dropped)
after_2 = (
  record {
    right = inl refl;
    steps = record { makes = refl; does = tt; brief = tt };
    waits = tt;
    linearizable = refl;
    swept = tt;
    life =
        record { finds = ((omega arith, inl refl), tt); may = refl; granted = refl; refuses = refl; whole = tt; leaves = tt };
    protected = refl;
    by_model = refl;
    little = record { bounded = omega arith; orderly = record { pairs = refl; tables = refl }; emptied = tt; torn_down = tt };
  },
  after_1,
)

after_3 : IsLegalLog nat_eq small (drop 4 dropped)
after_3 = (
  record {
    right = inl refl;
    steps = record { makes = refl; does = tt; brief = tt };
    waits = tt;
    linearizable = refl;
    swept = tt;
    life =
        record { finds = (tt, tt); may = refl; granted = refl; refuses = refl; whole = (refl, refl); leaves = tt };
    protected = refl;
    by_model = refl;
    little = record { bounded = omega arith; orderly = record { pairs = refl; tables = refl }; emptied = tt; torn_down = tt };
  },
  after_2,
)

after_4 : IsLegalLog nat_eq small (drop 3 dropped)
after_4 = (
  record {
    right = refl;
    steps = record { makes = refl; does = tt; brief = tt };
    waits = tt;
    linearizable = refl;
    swept = tt;
    life =
        record { finds = tt; may = refl; granted = refl; refuses = refl; whole = tt; leaves = tt };
    protected = refl;
    by_model = refl;
    little = record { bounded = tt; orderly = record { pairs = refl; tables = refl }; emptied = tt; torn_down = tt };
  },
  after_3,
)

after_5 : IsLegalLog nat_eq small (drop 2 dropped)
unfolding lib.Count.count_leading_zeros
after_5 = (
  record {
    right = refl;
    steps = record { makes = (omega arith, omega arith); does = omega arith; brief = tt };
    waits = tt;
    linearizable = record { changes = inr (refl, answer.Absent, Puts 10, refl, refl); ends = refl; asks = tt };
    swept = tt;
    life =
        record {
          finds = (
            (refl, (refl, inl refl)),
            (
              (refl, (refl, refl, refl)),
              (
                (refl, (refl, inl refl)),
                (
                  (refl, (refl, refl, refl, omega arith)),
                  (
                    (refl, (refl, refl, (refl, (refl, refl)))),
                    ((refl, (refl, refl, refl, omega arith, refl)), ((refl, (omega arith, refl)), tt)),
                  ),
                ),
              ),
            ),
          );
          may = refl;
          granted = refl;
          refuses = refl;
          whole = tt;
          leaves = (record { owes = refl; block = refl; table = refl; counted = refl }, refl);
        };
    protected = refl;
    by_model = refl;
    little = record { bounded = tt; orderly = record { pairs = refl; tables = refl }; emptied = tt; torn_down = tt };
  },
  after_4,
)

after_6 : IsLegalLog nat_eq small (drop 1 dropped)
after_6 = (
  record {
    right = refl;
    steps = record { makes = (omega arith, omega arith); does = omega arith; brief = tt };
    waits = tt;
    linearizable = record { changes = inr (refl, answer.Found 1, Puts 20, refl, refl); ends = refl; asks = tt };
    swept = tt;
    life =
        record {
          finds = (
            (refl, (refl, inl refl)),
            ((refl, (refl, refl, refl)), ((refl, refl), ((refl, (refl, refl, refl, omega arith, refl)), ((refl, (refl, tt)), tt)))),
          );
          may = refl;
          granted = refl;
          refuses = refl;
          whole = tt;
          leaves = (record { owes = refl; block = refl; table = refl; counted = refl }, refl);
        };
    protected = refl;
    by_model = refl;
    little = record { bounded = tt; orderly = record { pairs = refl; tables = refl }; emptied = tt; torn_down = tt };
  },
  after_5,
)

stored_run : IsLegalLog nat_eq small dropped
stored_run = (
  record {
    right = refl;
    steps = record { makes = refl; does = tt; brief = tt };
    waits = tt;
    linearizable = refl;
    swept = tt;
    life =
        record { finds = (tt, tt); may = refl; granted = refl; refuses = refl; whole = tt; leaves = tt };
    protected = refl;
    by_model = refl;
    little = record { bounded = omega arith; orderly = record { pairs = refl; tables = refl }; emptied = tt; torn_down = tt };
  },
  after_6,
)
