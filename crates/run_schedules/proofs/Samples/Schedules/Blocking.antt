-- A map in blocking mode: a copy finds no place in the next table, and the root comes to the one after it. And wrong runs.
use Rattle.std.specs.Prelude.{codes}
use Rattle.std.proofs.Common.{◌≡◌, ◌≤◌, ℕ, List, [], ◌∷◌, ◌++◌, inl, refl, arith}
use Rattle.seize_words.specs.declared.fault.Fault.TheVariants.{Memory}
use Rattle.papaya_raw.specs.Given.TablesDeclared.lengths.Reason.TheVariants.{Full, NoPlace}
use Rattle.papaya_raw.specs.Given.TablesDeclared.resize_mode.ResizeMode.TheVariants.{Blocking}
use Rattle.run_schedules.specs.declared.call.Call.TheVariants.{On}
use Rattle.run_schedules.specs.declared.call.OneKey.TheVariants.{Get, Insert, Remove}
use Rattle.run_schedules.specs.declared.call.Response.TheVariants as answer
use Rattle.run_schedules.specs.declared.event.Event.TheVariants.{Enter, MakeMap}
use Rattle.run_schedules.specs.declared.effect.Effect.{Effect}
use Rattle.run_schedules.specs.declared.effect.Effect.TheVariants.{Asked, PairGivenUp, Promoted, Copied, Stored, Removed, Counted, Retired, Ended}
use Rattle.run_schedules.specs.declared.effect.Growth.TheVariants.{ABlock}
use Rattle.run_schedules.specs.declared.effect.Thing.TheVariants.{APair, ATable}
use Rattle.run_schedules.specs.declared.outcome.Outcome.TheVariants.{Done, Answered, Refused}
use Rattle.run_schedules.specs.Schedules.Moment.{Place, InMap, GivenBack}
use Rattle.run_schedules.specs.Schedules.Entry.{Entry}
use Rattle.run_schedules.specs.Schedules.Steps.{TakesSteps}
use Rattle.run_schedules.specs.Schedules.Handing.{MovesOn}
use Rattle.run_schedules.proofs.Samples.Schedules.Words.{no_yes, some_thing, small, entry, spot, table, shape, makes_pair, makes_table, call, registered}
use Rattle.run_schedules.proofs.Samples.Deeds.{one_none as other_turn}
use Rattle.run_schedules.proofs.Samples.Schedules.Ends.{end_m}
use Rattle.seize_words.proofs.General.{either}

-- a map with a first table of 8 places, and a pair that comes in at the place of its key
abbrev made : List (Entry ℕ ℕ)
made =
    entry (Enter (codes "g") (codes "r")) Done 0 []
    ∷ entry (MakeMap (codes "m") Blocking 6) Done 0 (Asked ABlock ∷ makes_table 0 (shape 8 7) [])
    ∷ registered

abbrev put : ℕ → ℕ → Entry ℕ ℕ
put key n = call (On (Insert key 10)) (Answered answer.Absent) 9 (makes_pair (Stored n (spot 0 key) ∷ Counted 0 ∷ []))

-- and removed
abbrev take : ℕ → ℕ → Entry ℕ ℕ
take key n = call (On (Remove key)) (Answered (answer.Found n)) 9 (Removed n ∷ Counted 0 ∷ Retired (APair n) ∷ [])

-- eight fill it, and two of them stay
abbrev filled : List (Entry ℕ ℕ)
filled =
    take 7 8 ∷ take 6 7 ∷ take 4 6 ∷ take 3 5 ∷ take 2 4 ∷ take 0 3
    ∷ put 7 8 ∷ put 6 7 ∷ put 4 6 ∷ put 3 5 ∷ put 2 4 ∷ put 0 3 ∷ put 5 2 ∷ put 1 1
    ∷ made

there_back : ◌≡◌ {A = Place} (InMap 0) GivenBack → ⊥
there_back h = cc

-- a further one finds no place, as removed pairs left none; the first copy fits into the next table, the second does not; the one after that has room for both
abbrev resize : List Effect → List Effect
resize effects =
    makes_pair
    (makes_table 1 (shape 8 7)
    (Copied 2 (spot 1 0) ∷ makes_table 2 (shape 16 15) (Copied 2 (spot 2 4) ∷ Copied 1 (spot 2 1) ∷ Promoted (table 2) ∷ effects)))

abbrev put_three : List Effect → Entry ℕ ℕ
put_three effects = call (On (Insert 9 10)) (Answered answer.Absent) 90 (resize effects)

abbrev retires : List Effect
retires = Retired (ATable (table 0)) ∷ Retired (ATable (table 1)) ∷ []

abbrev stores : List Effect
stores = Stored 9 (spot 2 9) ∷ Counted 0 ∷ []

resizes : MovesOn small filled (put_three (retires ++ stores))
unfolding lib.Count.count_leading_zeros
resizes =
    record {
      finds = (
        (refl, (refl, inl refl)),
        (
          (refl, (refl, refl, refl)),
          (
            (refl, (refl, inl refl)),
            (
              (refl, (refl, refl, refl, omega arith)),
              (
                (
                  refl,
                  (
                    refl,
                    refl,
                    (
                      Full 2 2,
                      2,
                      8,
                      refl,
                      (
                        refl,
                        (
                          9,
                          inl (
                            1,
                            1,
                            inl (
                              1,
                              0,
                              inl (
                                1,
                                0,
                                inl (
                                  1,
                                  0,
                                  inl (
                                    1,
                                    0,
                                    inl (
                                      1,
                                      0,
                                      inl (
                                        1,
                                        0,
                                        inl (
                                          0,
                                          1,
                                          refl,
                                          (refl, refl),
                                          refl,
                                        ),
                                        (refl, refl),
                                        refl,
                                      ),
                                      (refl, refl),
                                      refl,
                                    ),
                                    (refl, refl),
                                    refl,
                                  ),
                                  (refl, refl),
                                  refl,
                                ),
                                (refl, refl),
                                refl,
                              ),
                              (refl, refl),
                              refl,
                            ),
                            (refl, refl),
                            refl,
                          ),
                        ),
                      ),
                      refl,
                      refl,
                    ),
                  ),
                ),
                (
                  (refl, (omega arith, omega arith, refl, there_back, omega arith, refl)),
                  (
                    (refl, (refl, inl refl)),
                    (
                      (refl, (refl, refl, refl, omega arith)),
                      (
                        (refl, (refl, refl, (NoPlace, 0, 8, refl, inl (omega arith), refl, refl))),
                        (
                          (refl, (omega arith, omega arith, refl, there_back, omega arith, refl)),
                          (
                            (refl, (omega arith, omega arith, refl, there_back, omega arith, refl)),
                            (
                              (refl, (refl, refl, (omega arith, refl), refl)),
                              (
                                (refl, refl),
                                ((refl, refl), ((refl, (refl, refl, refl, refl, refl)), ((refl, (omega arith, refl)), tt))),
                              ),
                            ),
                          ),
                        ),
                      ),
                    ),
                  ),
                ),
              ),
            ),
          ),
        ),
      );
      may = refl;
      granted = refl;
      refuses = refl;
      whole = tt;
      leaves = (record { owes = refl; block = refl; table = refl; counted = refl }, refl);
    }

-- wrong: the table between is dropped out of sight
drops_table : MovesOn small filled (put_three (Retired (ATable (table 0)) ∷ stores)) → ⊥
drops_table h = some_thing (ATable (table 1)) [] h.leaves.0.owes

-- wrong: the root comes to the table that had no place; the pair goes into a table that the root has not come to
abbrev resize_half : List Effect → Entry ℕ ℕ
resize_half effects = call (On (Insert 9 10)) (Answered answer.Absent) 90 (makes_pair (makes_table 1 (shape 8 7) (Copied 2 (spot 1 0) ∷ effects)))

passes_early : MovesOn small filled (resize_half (Promoted (table 1) ∷ [])) → ⊥
passes_early h = no_yes h.finds.1.1.1.1.1.1.0.1.3

stores_ahead : MovesOn small filled (resize_half (Stored 9 (spot 1 3) ∷ [])) → ⊥
stores_ahead h = other_turn h.finds.1.1.1.1.1.1.0.1.3

-- the further table is refused, and the map ends: its pairs come by the places of the root's table, whatever was copied
abbrev unfinished : List (Entry ℕ ℕ)
unfinished =
    call (On (Insert 9 10)) (Refused Memory) 90 (makes_pair (makes_table 1 (shape 8 7) (Copied 2 (spot 1 0) ∷ Asked ABlock ∷ PairGivenUp ∷ []))) ∷ filled

ends_in_order : MovesOn small unfinished (end_m (Ended 1 ∷ Ended 2 ∷ []))
ends_in_order =
    record {
      finds = (refl, (refl, ((refl, refl), ((refl, refl), tt))));
      may = refl;
      granted = refl;
      refuses = refl;
      whole = record { all = refl; order = refl; tables = refl };
      leaves = tt;
    }

-- wrong: by the places of copies
ends_by_copies : MovesOn small unfinished (end_m (Ended 2 ∷ Ended 1 ∷ [])) → ⊥
ends_by_copies h = no_yes h.whole.order

-- a lookup stays in the root's table
looks : TakesSteps unfinished (call (On (Get 1)) (Answered (answer.Found 1)) 10 [])
looks = record { makes = (omega arith, omega arith); does = omega arith; brief = inl (omega arith) }

too_many : 11 ≤ 10 → ⊥
too_many few = omega (arith, few)

looks_further : TakesSteps unfinished (call (On (Get 1)) (Answered (answer.Found 1)) 11 []) → ⊥
looks_further h = either too_many (λ e. e) h.brief
