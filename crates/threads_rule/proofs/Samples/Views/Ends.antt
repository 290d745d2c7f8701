-- Wrong ends of maps: a step that takes a pair of another map, which a section holds, and a look at another block than its table. The rule holds of neither.
use Rattle.std.specs.Prelude.{◌≢◌, ℕ, ◌+◌, Bool, false, [], ◌∷◌, Some, None}
use Rattle.std.proofs.Common.{◌≡◌, refl, sym, ap, arith, ◌∙◌}
use Rattle.seize_words.specs.OneMemory.Mem.{Mem, Took, value_at, fresh, with_block}
use Rattle.seize_words.specs.OneMemory.Op.{Take, Taken}
use Rattle.seize_words.specs.OneMemory.Plan.{Plan, Do, Steps}
use Rattle.seize_words.specs.OneMemory.Word.{block_in}
use Rattle.seize.specs.declared.rows.settle.Settled.{Settled}
use Rattle.seize.specs.declared.rows.settle.Settled.TheVariants.{Gave}
use Rattle.map_tables.specs.declared.node.Node.{Node}
use Rattle.map_tables.specs.declared.node.Node.TheVariants.{Pair, Shards, Table as TableNode}
use Rattle.map_tables.specs.declared.resize_mode.ResizeMode.TheVariants.{Incremental}
use Rattle.map_tables.specs.declared.setting.Setting.{Setting}
use Rattle.papaya_raw.specs.EndMap.{ending, standing, next_place, given_back}
use Rattle.papaya_raw.specs.declared.machines.end_map.EndMap.{EndMap}
use Rattle.papaya_raw.specs.declared.machines.end_map.Ending.TheVariants as at
use Rattle.many_acts.specs.Given.ScenesScene.{Scene}
use Rattle.seize_seats.specs.Seats.State.{State, view_of, Goes}
use Rattle.seize_views.specs.declared.view.Began.TheVariants.{NotYet}
use Rattle.seize_views.specs.declared.view.Fixed.{Fixed}
use Rattle.seize_views.specs.declared.view.Has.TheVariants.{Nothing as NoBlock}
use Rattle.seize_views.specs.declared.view.SlotView.TheVariants.{Inside}
use Rattle.seize_views.proofs.Views.Lists.{elsewhere}
use Rattle.threads_rule.specs.Views.Rule.{MapsWorld, Holds, KeepsFor, KnowsTable}
use Rattle.threads_rule.specs.declared.view.View.{View}
use Rattle.threads_rule.specs.declared.view.SeatWork.TheVariants.{Nothing, Ends}

-- Block 1 is the counter of the map that ends, block 2 its table and block 3 its pair; block 4 is a pair of another map.
abbrev memory : Mem (Node ℕ ℕ)
memory = record {
  roots = 4096 ∷ [];
  used = 1 ∷ [];
  slots = [];
  blocks = Some (fresh Shards 1) ∷ Some (fresh (TableNode 8 7 0) 16) ∷ Some (fresh (Pair 5 7) 0) ∷ Some (fresh (Pair 5 8) 0) ∷ [];
  choices = [];
}

abbrev setting : ℕ → ℕ → Setting
setting root counter = record { slot = 0; batch_size = 32; root = root; mode = Incremental 64; counter = counter; mask = 0; initial = 8 }

-- the end has come to block 3, and takes the one behind it
abbrev machine : EndMap
machine = standing (ending (setting 0 1) false) (at.Takes 6144)

abbrev takes_another : EndMap → ℕ → Plan (Node ℕ ℕ) (EndMap × Settled (Node ℕ ℕ))
takes_another c pair = Do (Take (block_in pair + 1)) (given_back c (next_place c))

abbrev left : Mem (Node ℕ ℕ)
left = with_block memory 4 None

steps : (end : EndMap × Settled (Node ℕ ℕ)) × Steps Took value_at memory (takes_another machine 6144) left end
steps = ((next_place machine, Gave (Pair 5 8)), (Taken (Pair 5 8), (refl, refl), refl))

-- or it has come to its table
abbrev at_table : EndMap
at_table = record (standing machine at.Carries) { table = record { link = 4096; len = 8; limit = 7; turn = 0 } }

-- whoever reads the other map within a section, which holds its pair
abbrev reader : View ℕ ℕ ℕ
reader = record {
  slot = Inside 0 NoBlock;
  under = None;
  map = Some (record { number = 1; setting = setting 1 5; hasher = 0 });
  by = None;
  own = None;
  work = Nothing;
  looks = (4, Pair 5 8) ∷ [];
  held = (4, Pair 5 8) ∷ [];
  began = NotYet;
  calls = [];
}

module _ (same : ℕ → ℕ → Bool) (hash : ℕ → ℕ → ℕ) (fixed : Fixed) where
  -- knows no more what is so: the end doesn't go on
  is_refused : (s : State (Node ℕ ℕ) (View ℕ ℕ ℕ) (MapsWorld ℕ ℕ ℕ)) (i j : ℕ) → j ≢ i → view_of s j ≡ Some reader → (So : View ℕ ℕ ℕ → Type 0)
      → Goes (Holds same hash fixed) KeepsFor s left i So → ⊥
  is_refused s i j apart at So (w, world, holds, kept, so) =
      let there = (holds.so.seats j reader (elsewhere s.views i j w apart ∙ at)).held.0.0 in
      let gone : value_at world.scene.world.memory 4 ≡ None = ap (λ (m : Mem (Node ℕ ℕ)). value_at m 4) (sym holds.so.memory) in cc (there, gone)

  -- and an end that has come to its table has not looked at its pair
  looks_aside : (scene : Scene ℕ ℕ) → KnowsTable same hash scene (Ends record { machine = at_table; left = 0; along = 0 }) ((3, Pair 5 7) ∷ []) → ⊥
  looks_aside scene knows = let here = (knows 3 (Pair 5 7) refl).1 in omega (arith, here)
