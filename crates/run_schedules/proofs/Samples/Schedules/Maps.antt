-- A run worked by hand with two maps, an owned guard beside another one, and a batch that waits for both. And wrong runs.
use Rattle.std.specs.Prelude.{codes, drop, nat_eq}
use Rattle.std.proofs.Common.{◌≡◌, ℕ, List, [], ◌∷◌, inl, inr, refl, arith}
use Rattle.seize_words.specs.declared.fault.Fault.TheVariants.{RootsUsedUp}
use Rattle.papaya_raw.specs.Given.TablesDeclared.resize_mode.ResizeMode.TheVariants.{Incremental, Blocking}
use Rattle.run_schedules.specs.declared.call.Call.{Call}
use Rattle.run_schedules.specs.declared.call.Call.TheVariants.{On}
use Rattle.run_schedules.specs.declared.call.OneKey.TheVariants.{Get, Insert, Remove}
use Rattle.run_schedules.specs.declared.call.Response.TheVariants as answer
use Rattle.run_schedules.specs.declared.event.Event.TheVariants.{Enter, Own, Refresh, MakeMap, OneCall}
use Rattle.run_schedules.specs.declared.effect.Effect.{Effect}
use Rattle.run_schedules.specs.declared.effect.Effect.TheVariants.{Asked, TableMade, Linked, Stored, Removed, Counted, Retired, Reclaimed}
use Rattle.run_schedules.specs.declared.effect.Growth.TheVariants.{ABlock}
use Rattle.run_schedules.specs.declared.effect.TableId.{TableId}
use Rattle.run_schedules.specs.declared.effect.Thing.TheVariants.{APair}
use Rattle.run_schedules.specs.declared.outcome.Outcome.{Outcome}
use Rattle.run_schedules.specs.declared.outcome.Outcome.TheVariants.{Done, Slot, Answered, Refused}
use Rattle.run_schedules.specs.Schedules.Sequential.{Puts, Takes}
use Rattle.run_schedules.specs.Schedules.Terms.{Terms}
use Rattle.run_schedules.specs.Schedules.Entry.{Entry}
use Rattle.run_schedules.specs.Schedules.InTurn.{HasRightOutcome}
use Rattle.run_schedules.specs.Schedules.Linearizable.{IsLinearizable}
use Rattle.run_schedules.specs.Schedules.Reclaims.{IsProtected}
use Rattle.run_schedules.specs.Schedules.Model.{IsByModel}
use Rattle.run_schedules.specs.Schedules.Runs.{IsLegalLog}
use Rattle.run_schedules.proofs.Samples.Schedules.Words.{one_two, entry, spot, shape, makes_pair, makes_table, registered, drop_guard as drop_g}
use Rattle.seize_words.proofs.General.{either, true_not_false as yes_no}

-- room for two maps, and calls one by one
abbrev roomy : Terms
roomy = record { batch_size = 1; processors = 1; roots = 2 }

abbrev made : List (Entry ℕ ℕ)
made =
    entry (Own (codes "o")) (Slot 1) 0 []
    ∷ entry (Enter (codes "g") (codes "r")) Done 0 []
    ∷ entry (MakeMap (codes "n") Blocking 0) Done 0 (Asked ABlock ∷ [])
    ∷ entry (MakeMap (codes "m") (Incremental 64) 0) Done 0 (Asked ABlock ∷ [])
    ∷ registered

abbrev on : List ℕ → List ℕ → Call ℕ ℕ → Outcome ℕ → List Effect → Entry ℕ ℕ
on map guard called outcome effects = entry (OneCall guard map called) outcome 12 effects

-- one pair comes into each map, and with it a table
abbrev other_table : TableId
other_table = record { map = 1; turn = 0 }

abbrev stored : List (Entry ℕ ℕ)
stored =
    on (codes "n") (codes "g") (On (Insert 1 20)) (Answered answer.Absent)
    (makes_pair (Asked ABlock ∷ TableMade other_table ∷ Linked other_table (shape 32 25) ∷ Stored 2 (spot 0 1) ∷ Counted 0 ∷ []))
    ∷ on (codes "m") (codes "g") (On (Insert 1 10)) (Answered answer.Absent) (makes_pair (makes_table 0 (shape 32 25) (Stored 1 (spot 0 1) ∷ Counted 0 ∷ [])))
    ∷ made

-- one is looked for under the other guard; both are removed, and wait for both guards
abbrev look : Outcome ℕ → Entry ℕ ℕ
look outcome = on (codes "m") (codes "o") (On (Get 1)) outcome []

abbrev removed : List (Entry ℕ ℕ)
removed =
    on (codes "n") (codes "g") (On (Remove 1)) (Answered (answer.Found 2)) (Removed 2 ∷ Retired (APair 2) ∷ Counted 0 ∷ [])
    ∷ on (codes "m") (codes "g") (On (Remove 1)) (Answered (answer.Found 1)) (Removed 1 ∷ Retired (APair 1) ∷ Counted 0 ∷ [])
    ∷ look (Answered (answer.Found 1))
    ∷ stored

abbrev refresh : List Effect → Entry ℕ ℕ
refresh effects = entry (Refresh (codes "o")) Done 0 effects

abbrev reclaimed : List (Entry ℕ ℕ)
reclaimed = refresh (Reclaimed (APair 1) ∷ Reclaimed (APair 2) ∷ []) ∷ drop_g [] ∷ removed

-- event by event, the promises are kept
after_1 : IsLegalLog nat_eq roomy (drop 12 reclaimed)
after_1 = (
  record {
    right = refl;
    steps = record { makes = refl; does = tt; brief = tt };
    waits = tt;
    linearizable = refl;
    swept = tt;
    life =
        record { finds = tt; may = refl; granted = refl; refuses = refl; whole = tt; leaves = tt };
    protected = refl;
    by_model = refl;
    little = record { bounded = omega arith; orderly = record { pairs = refl; tables = refl }; emptied = tt; torn_down = tt };
  },
  tt,
)

after_2 : IsLegalLog nat_eq roomy (drop 11 reclaimed)
after_2 = (
  record {
    right = inl refl;
    steps = record { makes = refl; does = tt; brief = tt };
    waits = tt;
    linearizable = refl;
    swept = tt;
    life =
        record { finds = ((omega arith, inl refl), tt); may = refl; granted = refl; refuses = refl; whole = tt; leaves = tt };
    protected = refl;
    by_model = refl;
    little = record { bounded = omega arith; orderly = record { pairs = refl; tables = refl }; emptied = tt; torn_down = tt };
  },
  after_1,
)

after_3 : IsLegalLog nat_eq roomy (drop 10 reclaimed)
after_3 = (
  record {
    right = inl refl;
    steps = record { makes = refl; does = tt; brief = tt };
    waits = tt;
    linearizable = refl;
    swept = tt;
    life =
        record { finds = (tt, tt); may = refl; granted = refl; refuses = refl; whole = (refl, refl); leaves = tt };
    protected = refl;
    by_model = refl;
    little = record { bounded = omega arith; orderly = record { pairs = refl; tables = refl }; emptied = tt; torn_down = tt };
  },
  after_2,
)

after_4 : IsLegalLog nat_eq roomy (drop 9 reclaimed)
after_4 = (
  record {
    right = inl refl;
    steps = record { makes = refl; does = tt; brief = tt };
    waits = tt;
    linearizable = refl;
    swept = tt;
    life =
        record { finds = (tt, tt); may = refl; granted = refl; refuses = refl; whole = (refl, refl); leaves = tt };
    protected = refl;
    by_model = refl;
    little = record { bounded = omega arith; orderly = record { pairs = refl; tables = refl }; emptied = tt; torn_down = tt };
  },
  after_3,
)

after_5 : IsLegalLog nat_eq roomy (drop 8 reclaimed)
after_5 = (
  record {
    right = refl;
    steps = record { makes = refl; does = tt; brief = tt };
    waits = tt;
    linearizable = refl;
    swept = tt;
    life =
        record { finds = tt; may = refl; granted = refl; refuses = refl; whole = tt; leaves = tt };
    protected = refl;
    by_model = refl;
    little = record { bounded = tt; orderly = record { pairs = refl; tables = refl }; emptied = tt; torn_down = tt };
  },
  after_4,
)

after_6 : IsLegalLog nat_eq roomy (drop 7 reclaimed)
after_6 = (
  record {
    right = inl refl;
    steps = record { makes = refl; does = tt; brief = tt };
    waits = tt;
    linearizable = refl;
    swept = tt;
    life =
        record { finds = tt; may = refl; granted = refl; refuses = refl; whole = tt; leaves = tt };
    protected = refl;
    by_model = refl;
    little = record { bounded = tt; orderly = record { pairs = refl; tables = refl }; emptied = tt; torn_down = tt };
  },
  after_5,
)

after_7 : IsLegalLog nat_eq roomy (drop 6 reclaimed)
unfolding lib.Count.count_leading_zeros
after_7 = (
  record {
    right = refl;
    steps = record { makes = (omega arith, omega arith); does = omega arith; brief = tt };
    waits = tt;
    linearizable = record { changes = inr (refl, answer.Absent, Puts 10, refl, refl); ends = refl; asks = tt };
    swept = tt;
    life =
        record {
          finds = (
            (refl, (refl, inl refl)),
            (
              (refl, (refl, refl, refl)),
              (
                (refl, (refl, inl refl)),
                (
                  (refl, (refl, refl, refl, omega arith)),
                  (
                    (refl, (refl, refl, (refl, (refl, refl)))),
                    ((refl, (refl, refl, refl, omega arith, refl)), ((refl, (omega arith, refl)), tt)),
                  ),
                ),
              ),
            ),
          );
          may = refl;
          granted = refl;
          refuses = refl;
          whole = tt;
          leaves = (record { owes = refl; block = refl; table = refl; counted = refl }, refl);
        };
    protected = refl;
    by_model = refl;
    little = record { bounded = tt; orderly = record { pairs = refl; tables = refl }; emptied = tt; torn_down = tt };
  },
  after_6,
)

after_8 : IsLegalLog nat_eq roomy (drop 5 reclaimed)
unfolding lib.Count.count_leading_zeros
after_8 = (
  record {
    right = refl;
    steps = record { makes = (omega arith, omega arith); does = omega arith; brief = tt };
    waits = tt;
    linearizable = record { changes = inr (refl, answer.Absent, Puts 20, refl, refl); ends = refl; asks = tt };
    swept = tt;
    life =
        record {
          finds = (
            (refl, (refl, inl refl)),
            (
              (refl, (refl, refl, refl)),
              (
                (refl, (refl, inl refl)),
                (
                  (refl, (refl, refl, refl, omega arith)),
                  (
                    (refl, (refl, refl, (refl, (refl, refl)))),
                    ((refl, (refl, refl, refl, refl, refl)), ((refl, (omega arith, refl)), tt)),
                  ),
                ),
              ),
            ),
          );
          may = refl;
          granted = refl;
          refuses = refl;
          whole = tt;
          leaves = (record { owes = refl; block = refl; table = refl; counted = refl }, refl);
        };
    protected = refl;
    by_model = refl;
    little = record { bounded = tt; orderly = record { pairs = refl; tables = refl }; emptied = tt; torn_down = tt };
  },
  after_7,
)

after_9 : IsLegalLog nat_eq roomy (drop 4 reclaimed)
after_9 = (
  record {
    right = refl;
    steps = record { makes = (omega arith, omega arith); does = omega arith; brief = inl (omega arith) };
    waits = tt;
    linearizable = record { changes = inl refl; ends = inl refl; asks = tt };
    swept = tt;
    life =
        record {
          finds =
              tt;
          may = refl;
          granted = refl;
          refuses = refl;
          whole = tt;
          leaves = (record { owes = refl; block = refl; table = refl; counted = refl }, refl);
        };
    protected = refl;
    by_model = refl;
    little = record { bounded = tt; orderly = record { pairs = refl; tables = refl }; emptied = tt; torn_down = tt };
  },
  after_8,
)

after_10 : IsLegalLog nat_eq roomy (drop 3 reclaimed)
after_10 = (
  record {
    right = refl;
    steps = record { makes = (omega arith, omega arith); does = omega arith; brief = tt };
    waits = tt;
    linearizable = record { changes = inr (refl, answer.Found 1, Takes, refl, refl); ends = refl; asks = tt };
    swept = tt;
    life =
        record {
          finds =
              ((refl, refl), ((refl, (refl, tt)), ((refl, (omega arith, refl)), tt)));
          may = refl;
          granted = refl;
          refuses = refl;
          whole = tt;
          leaves = (record { owes = refl; block = refl; table = refl; counted = refl }, refl);
        };
    protected = refl;
    by_model = refl;
    little = record { bounded = tt; orderly = record { pairs = refl; tables = refl }; emptied = tt; torn_down = tt };
  },
  after_9,
)

after_11 : IsLegalLog nat_eq roomy (drop 2 reclaimed)
after_11 = (
  record {
    right = refl;
    steps = record { makes = (omega arith, omega arith); does = omega arith; brief = tt };
    waits = tt;
    linearizable = record { changes = inr (refl, answer.Found 2, Takes, refl, refl); ends = refl; asks = tt };
    swept = tt;
    life =
        record {
          finds =
              ((refl, refl), ((refl, (refl, tt)), ((refl, (omega arith, refl)), tt)));
          may = refl;
          granted = refl;
          refuses = refl;
          whole = tt;
          leaves = (record { owes = refl; block = refl; table = refl; counted = refl }, refl);
        };
    protected = refl;
    by_model = refl;
    little = record { bounded = tt; orderly = record { pairs = refl; tables = refl }; emptied = tt; torn_down = tt };
  },
  after_10,
)

after_12 : IsLegalLog nat_eq roomy (drop 1 reclaimed)
after_12 = (
  record {
    right = refl;
    steps = record { makes = refl; does = tt; brief = tt };
    waits = tt;
    linearizable = refl;
    swept = tt;
    life =
        record { finds = tt; may = refl; granted = refl; refuses = refl; whole = tt; leaves = tt };
    protected = refl;
    by_model = refl;
    little = record { bounded = tt; orderly = record { pairs = refl; tables = refl }; emptied = tt; torn_down = tt };
  },
  after_11,
)

two_maps : IsLegalLog nat_eq roomy reclaimed
two_maps = (
  record {
    right = refl;
    steps = record { makes = refl; does = tt; brief = tt };
    waits = tt;
    linearizable = refl;
    swept = tt;
    life =
        record { finds = (tt, (tt, tt)); may = refl; granted = refl; refuses = refl; whole = tt; leaves = tt };
    protected = refl;
    by_model = refl;
    little = record { bounded = tt; orderly = record { pairs = refl; tables = refl }; emptied = tt; torn_down = tt };
  },
  after_12,
)

-- a third map has no root; wrong: it is refused as busy, or made
third_map : HasRightOutcome roomy made (entry (MakeMap (codes "p") Blocking 0) (Refused RootsUsedUp) 0 [])
third_map = refl

done_refused : ◌≡◌ {A = Outcome ℕ} Done (Refused RootsUsedUp) → ⊥
done_refused h = cc

third_map_made : HasRightOutcome roomy made (entry (MakeMap (codes "p") Blocking 0) Done 0 []) → ⊥
third_map_made h = done_refused h

-- wrong: the first guard's end reclaims; the refresh reclaims in another order, or nothing
two_back : ◌≡◌ {A = List ℕ} (1 ∷ 3 ∷ []) [] → ⊥
two_back h = cc

first_end : IsByModel roomy removed (drop_g (Reclaimed (APair 1) ∷ Reclaimed (APair 2) ∷ [])) → ⊥
first_end h = two_back h

first_end_unprotected : IsProtected removed (drop_g (Reclaimed (APair 1) ∷ [])) → ⊥
first_end_unprotected h = yes_no h

turned : ◌≡◌ {A = List ℕ} (3 ∷ 1 ∷ []) (1 ∷ 3 ∷ []) → ⊥
turned h = cc

other_order : IsByModel roomy (drop_g [] ∷ removed) (refresh (Reclaimed (APair 2) ∷ Reclaimed (APair 1) ∷ [])) → ⊥
other_order h = turned h

none_back : ◌≡◌ {A = List ℕ} [] (1 ∷ 3 ∷ []) → ⊥
none_back h = cc

nothing_back : IsByModel roomy (drop_g [] ∷ removed) (refresh []) → ⊥
nothing_back h = none_back h

-- wrong: a lookup in one map tells the pair of the other
other_map : IsLinearizable nat_eq stored (look (Answered (answer.Found 2))) → ⊥
other_map h = either one_two (λ e. e) h.ends
