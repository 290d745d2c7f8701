-- Where a choice of a block number comes, the executor is there as before, and the moment shows it as before.
use Rattle.std.specs.Prelude.{◌⊎◌, ℕ, Bool, List, [], ◌∷◌, Option, Some, None}
use Rattle.std.proofs.Common.{◌≡◌, refl, ap, inl, inr}
use Rattle.run_schedules.specs.Given.SeizeWordsMem.{Mem}
use Rattle.seize.specs.Further.{FurtherFrom, ListFrom}
use Rattle.seize.specs.World.{World}
use Rattle.papaya_raw.specs.Given.TablesNodes.{deferred_word}
use Rattle.papaya_raw.specs.Given.TablesDeclared.node.Node.{Node}
use Rattle.run_schedules.specs.declared.effect.TableId.{TableId}
use Rattle.run_schedules.specs.Schedules.Moment.{Behind, Moment}
use Rattle.run_effects.specs.Effects.Known.{Known, known}
use Rattle.run_effects.specs.declared.role.Role.{Role}
use Rattle.run_effects.specs.declared.role.Role.TheVariants as role
use Rattle.run_shows.specs.Given.FinishesEndings.{Finishing}
use Rattle.run_shows.specs.Given.FinishesMakings.{Beginning}
use Rattle.run_shows.specs.Given.FinishesMaps.{Standing}
use Rattle.run_shows.proofs.Given.FinishesAmong.Choices.{choices_stand_among}
use Rattle.run_shows.specs.Reclaims.Left.{IsSomebodys, LeftWithEndings}
use Rattle.run_shows.specs.Reclaims.Reclaims.{RootLeads}
use Rattle.run_shows.specs.Follows.Blocks.{HasRole}
use Rattle.run_executor.specs.Given.HandsRows.{HoldsOne}
use Rattle.run_executor.proofs.Given.HandsSettlingRows.{one_kept}
use Rattle.run_executor.specs.Given.MomentsWhole.{RefinesWhole}
use Rattle.run_kept.specs.Given.SettlesEntries.{IsBlank}
use Rattle.run_kept.proofs.Given.SettlesEntryScenes.{one_as}
use Rattle.run_kept.specs.Given.LivesBehind.{IsDeferredTo}
use Rattle.run_kept.proofs.Given.LivesEach.{each_on}
use Rattle.run_kept.proofs.Given.LivesLeftTables.{left_as}
use Rattle.run_kept.specs.Kept.Kept.{RefinesKept}
use Rattle.run_logged.specs.Log.Choosing.{ChoiceIsShown, logged_chosen, memory_chosen, scene_chosen}
use Rattle.run_logged.specs.Log.Shown.{IsCounted}
use Rattle.run_logged.specs.declared.logged.Logged.{Logged}
use Rattle.run_executor.specs.Executing.IsThere.{IsThere}
use Rattle.run_shows.specs.Scenes.Scene.{Scene, slot_of}

module _ {K V : Type 0} (choice : ℕ) (w : World (Node K V)) where
  abbrev then_in : World (Node K V)
  then_in = record w { memory = memory_chosen choice w.memory }

  -- blocks have the roles that they had,
  role_then : (stored : List (K × V)) (b : ℕ) (r : Role) → HasRole w stored b r → HasRole then_in stored b r
  role_then stored b role.Free h = h
  role_then stored b (role.OwnPair caller) h = h
  role_then stored b (role.OwnTable turn shape) h = h
  role_then stored b (role.Pair n) h = h
  role_then stored b (role.Table t len) h = h
  role_then stored b (role.Counter map) h = h

  -- the list of a block is the one that it was,
  list_back : (word : ℕ) (l : List ℕ) → ListFrom then_in.memory word l → ListFrom w.memory word l
  list_back word [] is = is
  list_back word (b ∷ l) (next, some, is, entry, rest) = (next, some, is, entry, list_back next l rest)

  further_back : (b : ℕ) (field : Option ℕ) (l : List ℕ) → FurtherFrom then_in.memory b field l → FurtherFrom w.memory b field l
  further_back b None l is = is
  further_back b (Some field) l (word, there, list) = (word, there, list_back word l list)

  -- and a batch holds what it held
  one_then : (slot first : ℕ) → HoldsOne w slot first → HoldsOne then_in slot first
  one_then slot first one = record { block = one.block; held = one.held; retired = one.retired; is_first = one.is_first }

module _ {K V : Type 0} (choice : ℕ) (same : K → K → Bool) (name : ℕ → List ℕ) (m : Moment K V) (noted : Known) (s : Scene K V) where
  pub whole_then : RefinesWhole same name m noted s → RefinesWhole same name m noted (scene_chosen choice s)
  whole_then whole =
      let shown = whole.all.shown in
      let hands = whole.all.hands in
      let rows = whole.all.rows in
      record {
        all = record {
          shown = record {
            blocks = record { roles = λ b. role_then choice s.world m.stored b (noted.roles b) (shown.blocks.roles b); once = shown.blocks.once; stored = shown.blocks.stored };
            number = shown.number;
            maps = shown.maps;
            calls = shown.calls;
          };
          asked = record { apart = whole.all.asked.apart; each = whole.all.asked.each };
          hands = record { pairs = hands.pairs; tables = hands.tables; born = hands.born; stand = hands.stand };
          rows = record {
            none = rows.none;
            one = λ map i u is.
                one_kept (HoldsOne s.world (slot_of i)) (HoldsOne (then_in choice s.world) (slot_of i)) (one_then choice s.world (slot_of i)) (s.world.row i) (rows.one map i u is);
          };
        };
        places = whole.places;
        blocks = whole.blocks;
        outside = whole.outside;
        counters = whole.counters;
      }

module _ {K V : Type 0} (choice : ℕ) (name : ℕ → List ℕ) (m : Moment K V) (noted : Known) (s : Scene K V) where
  -- entries are blank still
  blank_then : (b : ℕ) → IsBlank s.world.memory b → IsBlank (then_in choice s.world).memory b
  blank_then b blank = record { next = blank.next; first = blank.first }

  lies_then : (n : ℕ) (t : TableId) → IsDeferredTo noted s.world n t → IsDeferredTo noted (then_in choice s.world) n t
  lies_then n t l = record { pair = l.pair; is_pair = l.is_pair; table = l.table; len = l.len; is_table = l.is_table; waits = l.waits }

  pub kept_then : RefinesKept name m noted s → RefinesKept name m noted (scene_chosen choice s)
  kept_then kept = record {
    entries = record {
      blank = λ b its. blank_then b (kept.entries.blank b its);
      one = λ map i u is. one_as (IsBlank s.world.memory) (IsBlank (then_in choice s.world).memory) blank_then (s.world.row i) (kept.entries.one map i u is);
    };
    made = record { has = kept.made.has; named = kept.made.named; whose = kept.made.whose };
    tables = record { tables = kept.tables.tables; whose = kept.tables.whose };
    looking = kept.looking;
    short = kept.short;
    grown = kept.grown;
    counts = record { counts = kept.counts.counts };
    owed = record { owed = kept.owed.owed; noted = kept.owed.noted };
    handing = kept.handing;
    waiting =
        each_on (λ n t. (m.place n ≡ Behind) × IsDeferredTo noted s.world n t) (λ n t. (m.place n ≡ Behind) × IsDeferredTo noted (then_in choice s.world) n t) (λ n t p. (p.0, lies_then n t p.1)) m.deferred
        kept.waiting;
    once = kept.once;
    lying = kept.lying;
    order = λ c len o t blocks is used are. kept.order c len o t blocks is used (are.0, are.1, further_back choice s.world c (deferred_word are.0) blocks are.2);
    retired = record { tables = kept.retired.tables; lengths = kept.retired.lengths };
    handed = record { pairs = kept.handed.pairs; handed = kept.handed.handed; tables = kept.handed.tables };
    ends = kept.ends;
    left = left_as noted noted s (scene_chosen choice s) refl kept.left (λ b len x is. is) (λ b j left. left);
  }

module _ {K V : Type 0} (choice roots : ℕ) (w : World (Node K V)) where
  -- what is behind roots is so still
  list_then : (word : ℕ) (l : List ℕ) → ListFrom w.memory word l → ListFrom (then_in choice w).memory word l
  list_then word [] is = is
  list_then word (b ∷ l) (next, some, is, entry, rest) = (next, some, is, entry, list_then next l rest)

  leads_then : (r : ℕ) (l : List ℕ) → RootLeads w r l → RootLeads (then_in choice w) r l
  leads_then r [] leads = leads
  leads_then r (b ∷ l) (value, (word, there, list), used) = (value, (word, there, list_then word (b ∷ l) list), used)

  left_then : (maps : ℕ → Option (Standing K)) (makers : ℕ → Option (Beginning K)) (enders : ℕ → Option (Finishing K V)) (lists : ℕ → List ℕ) → LeftWithEndings roots w maps makers enders lists
      → LeftWithEndings roots (then_in choice w) maps makers enders lists
  left_then maps makers enders lists left = record {
    root = λ r lt. elim (left.root r lt) as (λ _. IsSomebodys maps makers enders r ⊎ RootLeads (then_in choice w) r (lists r)) [
      | inl its ↦ inl its
      | inr leads ↦ inr (leads_then r (lists r) leads)
    ];
    none = left.none;
    left = left.left;
    once = left.once;
    apart = left.apart;
  }

module _ {K V S : Type 0} (choice : ℕ) (old : Logged K V S) where
  counted_then : (m : Moment K V) (s : Scene K V) → IsCounted m old s → IsCounted m (logged_chosen choice old) (scene_chosen choice s)
  counted_then m s c = record {
    numbered = record { numbers = c.numbered.numbers; slots = (let slots = c.numbered.slots in record { some = slots.some; none = slots.none; whole = slots.whole }) };
    remains = (let r = c.remains in record {
      lists = r.lists;
      left = left_then choice old.executor.roots s.world s.maps s.makers s.enders r.lists r.left;
      told = r.told;
      pairs = r.pairs;
      ascending = r.ascending;
      once = r.once;
      below = r.below;
      ending = r.ending;
    });
  }

  at_then : (same : K → K → Bool) (hash : K → ℕ) (s : Scene K V) → IsThere same hash old.executor s → IsThere same hash (logged_chosen choice old).executor (scene_chosen choice s)
  at_then same hash s at = record {
    held = record {
      memory = ap (memory_chosen choice) at.held.memory;
      together = choices_stand_among V same same old.executor.batch_size old.executor.roots slot_of s.world s.maps s.calls s.makers s.enders at.held.together choice (then_in choice s.world) refl;
      hashes = at.held.hashes;
      hashes_made = at.held.hashes_made;
      on_slots = at.held.on_slots;
      small = at.held.small;
    };
    maps = at.maps;
    calls = at.calls;
    makers = at.makers;
    enders = at.enders;
    numbers = at.numbers;
    rows = at.rows;
    slots = at.slots;
    uses = at.uses;
  }

  pub choice_shown : ChoiceIsShown choice old (logged_chosen choice old)
  choice_shown same hash name m s shown = record { is_at = at_then same hash s shown.is_at; shows = whole_then choice same name m (known old.notes) s shown.shows; kept = kept_then choice name m (known old.notes) s shown.kept; counted = counted_then m s shown.counted }

  -- so it is by what the memory is then
  abbrev pub with_memory : Mem (Node K V) → Logged K V S
  with_memory memory = record old { executor = record old.executor { memory = record old.executor.memory { memory = memory } } }

  pub chosen_is : (memory : Mem (Node K V)) → memory ≡ memory_chosen choice old.executor.memory.memory → with_memory memory ≡ logged_chosen choice old
  chosen_is memory is = ap with_memory is
