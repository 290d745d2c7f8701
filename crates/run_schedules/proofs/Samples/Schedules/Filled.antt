-- A map that eight pairs have filled, one by one.
use Rattle.std.specs.Prelude.{codes, drop, nat_eq}
use Rattle.std.proofs.Common.{◌≡◌, ℕ, List, [], ◌∷◌, inl, inr, refl, arith}
use Rattle.seize_words.specs.declared.fault.Fault.TheVariants.{Memory}
use Rattle.papaya_raw.specs.Given.TablesDeclared.resize_mode.ResizeMode.TheVariants.{Incremental}
use Rattle.run_schedules.specs.declared.call.Call.TheVariants.{On}
use Rattle.run_schedules.specs.declared.call.OneKey.TheVariants.{Insert}
use Rattle.run_schedules.specs.declared.call.Response.TheVariants as answer
use Rattle.run_schedules.specs.declared.event.Event.TheVariants.{Enter, MakeMap}
use Rattle.run_schedules.specs.declared.effect.Effect.TheVariants.{Asked, TableMade, Stored, Counted}
use Rattle.run_schedules.specs.declared.effect.Growth.TheVariants.{ABlock}
use Rattle.run_schedules.specs.declared.outcome.Outcome.TheVariants.{Done, Answered, Refused}
use Rattle.run_schedules.specs.Schedules.Sequential.{Puts}
use Rattle.run_schedules.specs.Schedules.Entry.{Entry}
use Rattle.run_schedules.specs.Schedules.Handing.{MovesOn}
use Rattle.run_schedules.specs.Schedules.Runs.{IsLegalLog}
use Rattle.run_schedules.proofs.Samples.Schedules.Words.{no_yes, small, entry, spot, table, shape, makes_pair, makes_table, call, registered}

-- a map with a first table of 8 places, of which a call copies one at a time
abbrev pub made : List (Entry ℕ ℕ)
made =
    entry (Enter (codes "g") (codes "r")) Done 0 []
    ∷ entry (MakeMap (codes "m") (Incremental 1) 6) Done 0 (Asked ABlock ∷ makes_table 0 (shape 8 7) [])
    ∷ registered

-- wrong: it is made with two first tables, of which one is forgotten
pub one_two_tables : ◌≡◌ {A = ℕ} 1 2 → ⊥
one_two_tables h = cc

two_firsts :
    MovesOn small registered (entry (MakeMap (codes "m") (Incremental 1) 6) Done 0 (Asked ABlock ∷ Asked ABlock ∷ TableMade (table 0)
    ∷ makes_table 0 (shape 8 7) [])) → ⊥
two_firsts h = one_two_tables (h.whole.0)

-- wrong: it is refused for want of memory, and has made its table
table_is_refused :
    MovesOn small registered (entry (MakeMap (codes "m") (Incremental 1) 6) (Refused Memory) 0 (Asked ABlock ∷ makes_table 0 (shape 8 7) [])) → ⊥
table_is_refused h = no_yes h.whole

-- a pair of this key comes in, at the place of the key
abbrev pub put_there : ℕ → ℕ → Entry ℕ ℕ
put_there key n = call (On (Insert key 10)) (Answered answer.Absent) 19 (makes_pair (Stored n (spot 0 key) ∷ Counted 0 ∷ []))

-- eight pairs fill it
abbrev pub filled : List (Entry ℕ ℕ)
filled = put_there 7 8 ∷ put_there 6 7 ∷ put_there 5 6 ∷ put_there 4 5 ∷ put_there 3 4 ∷ put_there 2 3 ∷ put_there 1 2 ∷ put_there 0 1 ∷ made

-- event by event, the promises are kept
after_1 : IsLegalLog nat_eq small (drop 11 filled)
after_1 = (
  record {
    right = refl;
    steps = record { makes = refl; does = tt; brief = tt };
    waits = tt;
    linearizable = refl;
    swept = tt;
    life =
        record { finds = tt; may = refl; granted = refl; refuses = refl; whole = tt; leaves = tt };
    protected = refl;
    by_model = refl;
    little = record { bounded = omega arith; orderly = record { pairs = refl; tables = refl }; emptied = tt; torn_down = tt };
  },
  tt,
)

after_2 : IsLegalLog nat_eq small (drop 10 filled)
after_2 = (
  record {
    right = inl refl;
    steps = record { makes = refl; does = tt; brief = tt };
    waits = tt;
    linearizable = refl;
    swept = tt;
    life =
        record { finds = ((omega arith, inl refl), tt); may = refl; granted = refl; refuses = refl; whole = tt; leaves = tt };
    protected = refl;
    by_model = refl;
    little = record { bounded = omega arith; orderly = record { pairs = refl; tables = refl }; emptied = tt; torn_down = tt };
  },
  after_1,
)

after_3 : IsLegalLog nat_eq small (drop 9 filled)
unfolding lib.Count.count_leading_zeros
after_3 = (
  record {
    right = inl refl;
    steps = record { makes = refl; does = tt; brief = tt };
    waits = tt;
    linearizable = refl;
    swept = tt;
    life =
        record {
          finds =
              (tt, (tt, ((refl, refl), ((refl, (refl, refl, (refl, refl))), tt))));
          may = refl;
          granted = refl;
          refuses = refl;
          whole = (refl, refl);
          leaves = tt;
        };
    protected = refl;
    by_model = refl;
    little = record { bounded = omega arith; orderly = record { pairs = refl; tables = refl }; emptied = tt; torn_down = tt };
  },
  after_2,
)

after_4 : IsLegalLog nat_eq small (drop 8 filled)
after_4 = (
  record {
    right = refl;
    steps = record { makes = refl; does = tt; brief = tt };
    waits = tt;
    linearizable = refl;
    swept = tt;
    life =
        record { finds = tt; may = refl; granted = refl; refuses = refl; whole = tt; leaves = tt };
    protected = refl;
    by_model = refl;
    little = record { bounded = tt; orderly = record { pairs = refl; tables = refl }; emptied = tt; torn_down = tt };
  },
  after_3,
)

after_5 : IsLegalLog nat_eq small (drop 7 filled)
after_5 = (
  record {
    right = refl;
    steps = record { makes = (omega arith, omega arith); does = omega arith; brief = tt };
    waits = tt;
    linearizable = record { changes = inr (refl, answer.Absent, Puts 10, refl, refl); ends = refl; asks = tt };
    swept = tt;
    life =
        record {
          finds = (
            (refl, (refl, inl refl)),
            ((refl, (refl, refl, refl)), ((refl, (refl, refl, refl, omega arith, refl)), ((refl, (omega arith, refl)), tt))),
          );
          may = refl;
          granted = refl;
          refuses = refl;
          whole = tt;
          leaves = (record { owes = refl; block = refl; table = refl; counted = refl }, refl);
        };
    protected = refl;
    by_model = refl;
    little = record { bounded = tt; orderly = record { pairs = refl; tables = refl }; emptied = tt; torn_down = tt };
  },
  after_4,
)

after_6 : IsLegalLog nat_eq small (drop 6 filled)
after_6 = (
  record {
    right = refl;
    steps = record { makes = (omega arith, omega arith); does = omega arith; brief = tt };
    waits = tt;
    linearizable = record { changes = inr (refl, answer.Absent, Puts 10, refl, refl); ends = refl; asks = tt };
    swept = tt;
    life =
        record {
          finds = (
            (refl, (refl, inl refl)),
            ((refl, (refl, refl, refl)), ((refl, (refl, refl, refl, omega arith, refl)), ((refl, (omega arith, refl)), tt))),
          );
          may = refl;
          granted = refl;
          refuses = refl;
          whole = tt;
          leaves = (record { owes = refl; block = refl; table = refl; counted = refl }, refl);
        };
    protected = refl;
    by_model = refl;
    little = record { bounded = tt; orderly = record { pairs = refl; tables = refl }; emptied = tt; torn_down = tt };
  },
  after_5,
)

after_7 : IsLegalLog nat_eq small (drop 5 filled)
after_7 = (
  record {
    right = refl;
    steps = record { makes = (omega arith, omega arith); does = omega arith; brief = tt };
    waits = tt;
    linearizable = record { changes = inr (refl, answer.Absent, Puts 10, refl, refl); ends = refl; asks = tt };
    swept = tt;
    life =
        record {
          finds = (
            (refl, (refl, inl refl)),
            ((refl, (refl, refl, refl)), ((refl, (refl, refl, refl, omega arith, refl)), ((refl, (omega arith, refl)), tt))),
          );
          may = refl;
          granted = refl;
          refuses = refl;
          whole = tt;
          leaves = (record { owes = refl; block = refl; table = refl; counted = refl }, refl);
        };
    protected = refl;
    by_model = refl;
    little = record { bounded = tt; orderly = record { pairs = refl; tables = refl }; emptied = tt; torn_down = tt };
  },
  after_6,
)

after_8 : IsLegalLog nat_eq small (drop 4 filled)
after_8 = (
  record {
    right = refl;
    steps = record { makes = (omega arith, omega arith); does = omega arith; brief = tt };
    waits = tt;
    linearizable = record { changes = inr (refl, answer.Absent, Puts 10, refl, refl); ends = refl; asks = tt };
    swept = tt;
    life =
        record {
          finds = (
            (refl, (refl, inl refl)),
            ((refl, (refl, refl, refl)), ((refl, (refl, refl, refl, omega arith, refl)), ((refl, (omega arith, refl)), tt))),
          );
          may = refl;
          granted = refl;
          refuses = refl;
          whole = tt;
          leaves = (record { owes = refl; block = refl; table = refl; counted = refl }, refl);
        };
    protected = refl;
    by_model = refl;
    little = record { bounded = tt; orderly = record { pairs = refl; tables = refl }; emptied = tt; torn_down = tt };
  },
  after_7,
)

after_9 : IsLegalLog nat_eq small (drop 3 filled)
after_9 = (
  record {
    right = refl;
    steps = record { makes = (omega arith, omega arith); does = omega arith; brief = tt };
    waits = tt;
    linearizable = record { changes = inr (refl, answer.Absent, Puts 10, refl, refl); ends = refl; asks = tt };
    swept = tt;
    life =
        record {
          finds = (
            (refl, (refl, inl refl)),
            ((refl, (refl, refl, refl)), ((refl, (refl, refl, refl, omega arith, refl)), ((refl, (omega arith, refl)), tt))),
          );
          may = refl;
          granted = refl;
          refuses = refl;
          whole = tt;
          leaves = (record { owes = refl; block = refl; table = refl; counted = refl }, refl);
        };
    protected = refl;
    by_model = refl;
    little = record { bounded = tt; orderly = record { pairs = refl; tables = refl }; emptied = tt; torn_down = tt };
  },
  after_8,
)

after_10 : IsLegalLog nat_eq small (drop 2 filled)
after_10 = (
  record {
    right = refl;
    steps = record { makes = (omega arith, omega arith); does = omega arith; brief = tt };
    waits = tt;
    linearizable = record { changes = inr (refl, answer.Absent, Puts 10, refl, refl); ends = refl; asks = tt };
    swept = tt;
    life =
        record {
          finds = (
            (refl, (refl, inl refl)),
            ((refl, (refl, refl, refl)), ((refl, (refl, refl, refl, omega arith, refl)), ((refl, (omega arith, refl)), tt))),
          );
          may = refl;
          granted = refl;
          refuses = refl;
          whole = tt;
          leaves = (record { owes = refl; block = refl; table = refl; counted = refl }, refl);
        };
    protected = refl;
    by_model = refl;
    little = record { bounded = tt; orderly = record { pairs = refl; tables = refl }; emptied = tt; torn_down = tt };
  },
  after_9,
)

after_11 : IsLegalLog nat_eq small (drop 1 filled)
after_11 = (
  record {
    right = refl;
    steps = record { makes = (omega arith, omega arith); does = omega arith; brief = tt };
    waits = tt;
    linearizable = record { changes = inr (refl, answer.Absent, Puts 10, refl, refl); ends = refl; asks = tt };
    swept = tt;
    life =
        record {
          finds = (
            (refl, (refl, inl refl)),
            ((refl, (refl, refl, refl)), ((refl, (refl, refl, refl, omega arith, refl)), ((refl, (omega arith, refl)), tt))),
          );
          may = refl;
          granted = refl;
          refuses = refl;
          whole = tt;
          leaves = (record { owes = refl; block = refl; table = refl; counted = refl }, refl);
        };
    protected = refl;
    by_model = refl;
    little = record { bounded = tt; orderly = record { pairs = refl; tables = refl }; emptied = tt; torn_down = tt };
  },
  after_10,
)

pub filled_run : IsLegalLog nat_eq small filled
filled_run = (
  record {
    right = refl;
    steps = record { makes = (omega arith, omega arith); does = omega arith; brief = tt };
    waits = tt;
    linearizable = record { changes = inr (refl, answer.Absent, Puts 10, refl, refl); ends = refl; asks = tt };
    swept = tt;
    life =
        record {
          finds = (
            (refl, (refl, inl refl)),
            ((refl, (refl, refl, refl)), ((refl, (refl, refl, refl, omega arith, refl)), ((refl, (omega arith, refl)), tt))),
          );
          may = refl;
          granted = refl;
          refuses = refl;
          whole = tt;
          leaves = (record { owes = refl; block = refl; table = refl; counted = refl }, refl);
        };
    protected = refl;
    by_model = refl;
    little = record { bounded = tt; orderly = record { pairs = refl; tables = refl }; emptied = tt; torn_down = tt };
  },
  after_11,
)
