-- What is shown of a map while a resize goes on, and the end of one: its pairs come by their places. And wrong runs.
use Rattle.std.specs.Prelude.{codes, map}
use Rattle.std.specs.Global.{Vec}
use Rattle.std.proofs.Common.{◌≡◌, ℕ, List, [], ◌∷◌, ◌++◌, refl, arith}
use Rattle.seize_words.specs.declared.fault.Fault.TheVariants.{RootsUsedUp}
use Rattle.papaya_raw.specs.Given.TablesDeclared.resize_mode.ResizeMode.TheVariants.{Blocking}
use Rattle.run_schedules.specs.declared.shapes.TableShape.{TableShape}
use Rattle.run_schedules.specs.declared.event.Event.TheVariants.{Unregister, ReclaimAll, Close, MakeMap, EndMap, ShowShape}
use Rattle.run_schedules.specs.declared.effect.Effect.{Effect}
use Rattle.run_schedules.specs.declared.effect.Effect.TheVariants.{Asked, Reclaimed, Ended, Taken}
use Rattle.run_schedules.specs.declared.effect.Growth.TheVariants.{ABlock}
use Rattle.run_schedules.specs.declared.effect.TableId.{TableId}
use Rattle.run_schedules.specs.declared.effect.Thing.TheVariants.{APair}
use Rattle.run_schedules.specs.declared.outcome.Outcome.TheVariants.{Done, Shape, Refused}
use Rattle.run_schedules.specs.Schedules.Entry.{Entry}
use Rattle.run_schedules.specs.Schedules.InTurn.{HasRightOutcome}
use Rattle.run_schedules.specs.Schedules.Handing.{MovesOn}
use Rattle.run_schedules.specs.Schedules.Model.{IsByModel}
use Rattle.run_schedules.specs.Schedules.Reclaims.{LeavesLittle}
use Rattle.run_schedules.proofs.Samples.Schedules.Words.{no_yes, behind_there, next_zero, small, entry, table, shape, drop_guard}
use Rattle.run_schedules.proofs.Samples.Schedules.Resized.{grown, removed}

-- while the resize goes on both tables are shown, the root's first
shows_both : (v : Vec TableShape) → v.items ≡ shape 8 7 ∷ shape 16 15 ∷ [] → HasRightOutcome small grown (entry (ShowShape (codes "m")) (Shape v) 0 [])
shows_both v is = is

-- wrong: one is left out, or has another last try
fewer : (shown : List TableShape) → shown ≡ shape 8 7 ∷ [] → shown ≡ shape 8 7 ∷ shape 16 15 ∷ [] → ⊥
fewer shown one both = cc

shows_root : (v : Vec TableShape) → v.items ≡ shape 8 7 ∷ [] → HasRightOutcome small grown (entry (ShowShape (codes "m")) (Shape v) 0 []) → ⊥
shows_root v is h = fewer v.items is h

abbrev limits : List TableShape → List ℕ
limits shapes = map (λ s. s.limit) shapes

limits_of : (shapes others : List TableShape) → shapes ≡ others → limits shapes ≡ limits others
limits_of shapes others same = cc

apart : {shown : List ℕ} → shown ≡ 7 ∷ 3 ∷ [] → shown ≡ 7 ∷ 15 ∷ [] → ⊥
apart told are = cc

shows_other : (v : Vec TableShape) → v.items ≡ shape 8 7 ∷ shape 16 3 ∷ [] → HasRightOutcome small grown (entry (ShowShape (codes "m")) (Shape v) 0 []) → ⊥
shows_other v is h = apart (limits_of v.items (shape 8 7 ∷ shape 16 3 ∷ []) is) (limits_of v.items (shape 8 7 ∷ shape 16 15 ∷ []) h)

-- the map ends while the resize goes on: its pairs come table by table, place by place, and what waited behind a table is left over
abbrev pub end_m : List Effect → Entry ℕ ℕ
end_m effects = entry (EndMap (codes "m")) Done 0 (effects ++ Taken (table 0) ∷ Taken (table 1) ∷ [])

abbrev pub in_order_of_places : List Effect
in_order_of_places = Ended 3 ∷ Ended 4 ∷ Ended 5 ∷ Ended 6 ∷ Ended 7 ∷ Ended 8 ∷ Ended 2 ∷ Ended 9 ∷ []

ends_in_order : MovesOn small removed (end_m in_order_of_places)
ends_in_order =
    record {
      finds = (refl, (refl, (refl, (refl, (refl, (refl, (refl, (refl, ((refl, refl), ((refl, refl), tt))))))))));
      may = refl;
      granted = refl;
      refuses = refl;
      whole = record { all = refl; order = refl; tables = refl };
      leaves = tt;
    }

-- wrong: they come by their numbers; one is kept; the pair that waits is reclaimed with them; a table is kept
ends_by_number : MovesOn small removed (end_m (Ended 2 ∷ Ended 3 ∷ Ended 4 ∷ Ended 5 ∷ Ended 6 ∷ Ended 7 ∷ Ended 8 ∷ Ended 9 ∷ [])) → ⊥
ends_by_number h = no_yes (h.whole.order)

keeps_pair : MovesOn small removed (end_m (Ended 3 ∷ Ended 4 ∷ Ended 5 ∷ Ended 6 ∷ Ended 7 ∷ Ended 8 ∷ Ended 2 ∷ [])) → ⊥
keeps_pair h = next_zero 0 (h.whole.all)

ends_waiting : MovesOn small removed (end_m (Ended 1 ∷ in_order_of_places)) → ⊥
ends_waiting h = behind_there (h.finds.0)

one_of_two : ◌≡◌ {A = List TableId} (table 0 ∷ []) (table 0 ∷ table 1 ∷ []) → ⊥
one_of_two h = cc

keeps_table : MovesOn small removed (entry (EndMap (codes "m")) Done 0 (in_order_of_places ++ Taken (table 0) ∷ [])) → ⊥
keeps_table h = one_of_two (h.whole.tables)

-- what it left over comes back with everything, and holds the map's root till then
abbrev left_over : List (Entry ℕ ℕ)
left_over = entry (Unregister (codes "r")) Done 0 [] ∷ drop_guard [] ∷ end_m in_order_of_places ∷ removed

abbrev reclaim_all : List Effect → Entry ℕ ℕ
reclaim_all effects = entry ReclaimAll Done 0 effects

root_is_held : HasRightOutcome small left_over (entry (MakeMap (codes "n") Blocking 0) (Refused RootsUsedUp) 0 [])
root_is_held = refl

-- wrong: memory was asked for before the root
some_effect : (f : Effect) → f ∷ [] ≡ [] → ⊥
some_effect f h = cc

asks_without_root : MovesOn small left_over (entry (MakeMap (codes "n") Blocking 0) (Refused RootsUsedUp) 0 (Asked ABlock ∷ [])) → ⊥
asks_without_root h = some_effect (Asked ABlock) h.whole

left_comes_back : IsByModel small left_over (reclaim_all (Reclaimed (APair 1) ∷ []))
left_comes_back = refl

left_moves_on : MovesOn small left_over (reclaim_all (Reclaimed (APair 1) ∷ []))
left_moves_on = record { finds = (refl, tt); may = refl; granted = refl; refuses = refl; whole = tt; leaves = tt }

-- wrong: it waits on; the collector ends without it; it is reclaimed by a call
waits_on : LeavesLittle small left_over (reclaim_all []) → ⊥
waits_on h = no_yes (h.emptied.0.pairs)

is_torn_down : LeavesLittle small left_over (entry Close Done 0 (Reclaimed (APair 1) ∷ []))
is_torn_down =
    record {
      bounded = omega arith;
      orderly = record { pairs = refl; tables = refl };
      emptied = (record { pairs = refl; tables = refl }, ([], refl));
      torn_down = refl;
    }

is_torn_down_short : LeavesLittle small left_over (entry Close Done 0 []) → ⊥
is_torn_down_short h = no_yes (h.torn_down)
