-- Before all events a scheduler is as events ask of it, whatever was chosen of numbers of blocks.
use Rattle.std.specs.Prelude.{◌≡◌, ◌<◌, ◌≤◌, ◌^◌, ℕ, Bool, List, [], ◌∷◌, length, Option, None, Some, min, slice_get, slice_index_or, map}
use Rattle.std.proofs.Common.{refl, sym, ap, subst, ◌∙◌, inr, arith, inl}
use Rattle.seize.specs.declared.states.TheConstants.{HEAD}
use Rattle.map_tables.specs.declared.node.Node.{Node}
use Rattle.play_events.specs.Given.PointsSteps.{AreLawful}
use Rattle.play_events.proofs.Given.PointsMaking.OwnTables.{zero_at}
use Rattle.play_events.proofs.Given.MomentsNewMaps.{pairs_begin}
use Rattle.play_events.proofs.Given.MomentsNumbers.{numbers_begin}
use Rattle.seize.specs.World.{Chooses, SlotsTaken, World}
use Rattle.map_tables.specs.Nodes.{deferred_word}
use Rattle.map_tables.specs.declared.setting.Setting.{Setting}
use Rattle.seize_words.specs.OneMemory.Mem.{Mem, word_at}
use Rattle.seize_words.specs.OneMemory.SlotWords.{slot_word}
use Rattle.seize_words.specs.declared.at.At.TheVariants.{Root, Used}
use Rattle.run_schedules.specs.Schedules.Moment.{start}
use Rattle.run_schedules.specs.Schedules.Terms.{Terms}
use Rattle.run_effects.specs.Effects.Known.{Known, known}
use Rattle.play_events.specs.Given.ModelsTurns.{CameByTurns}
use Rattle.play_events.proofs.Given.ModelsTurns.{events_follow, turns_begin}
use Rattle.play_events.proofs.Given.LegalCome.{nothing_has_come}
use Rattle.play_events.proofs.Given.LegalBegin.{runs_begin_in}
use Rattle.play_events.specs.Given.LoggedChoosing.{logged_chosen, memory_chosen}
use Rattle.play_events.specs.Given.LoggedShown.{IsShown}
use Rattle.play_events.proofs.Given.LoggedChoosing.{choice_shown}
use Rattle.play_events.specs.Given.LoggedDeclared.logged.Logged.{Logged}
use Rattle.play_events.proofs.Given.ReclaimsLeft.Stays.{left_is_left_behind, nothing_is_left}
use Rattle.play_events.specs.Given.SchedulerFirst.{HasJustBegun}
use Rattle.play_events.specs.Given.SchedulerMapping.{CountsMaps}
use Rattle.play_events.specs.Given.SchedulerPlayed.{IsPlayed, RefinesFor, terms_given}
use Rattle.play_events.specs.Given.SchedulerReclaiming.{MayGiveAll}
use Rattle.run_schedules.specs.declared.setup.Setup.{Setup}
use Rattle.play_events.specs.Given.SchedulerDeclared.scheduler.Scheduler.{Scheduler}
use Rattle.play_events.proofs.Given.SchedulerChosen.{stands_chosen}
use Rattle.play_events.specs.Given.NamedSeen.{seen, seen_of}
use Rattle.play_events.specs.Given.ExecutorDeclared.caller.NamedCaller.{NamedCaller}
use Rattle.play_events.specs.Events.Asked.{Holds}
use Rattle.play_events.specs.Events.OfCalls.{HaveShards, HaveValues, Runs}
use Rattle.papaya_steps.specs.Pieced.SoFar.{ActsSoFar}
use Rattle.papaya_steps.proofs.Pieced.First.{none_yet, one_choice_yet}
use Rattle.papaya_steps.proofs.Pieced.Last.{any_course}
use Rattle.papaya_steps.specs.WholeRuns.Run.{bounded}
use Rattle.play_events.proofs.Events.OfCalls.Scenes.{its_named, stands_in}
use Rattle.play_events.specs.Given.ScenesScene.{at_first}

-- Nothing is under way in a world that came about by what was chosen of numbers of blocks.
pub record BeginsIn {K V S : Type 0} (same : K → K → Bool) (hash : K → ℕ) (setup : Setup) (p : Scheduler K V S) : Type 0 where
  pub world : World (Node K V)
  pub shown : (name : ℕ → List ℕ) → IsShown same hash name start p.logged (record (at_first setup.roots) { world = world })
  pub came : CameByTurns deferred_word setup.batch_size setup.roots world []

-- Nothing has happened, whatever keys and hashes are.
pub record Begins {K V S : Type 0} (setup : Setup) (p : Scheduler K V S) : Type 0 where
  pub played : (same : K → K → Bool) (hash : K → ℕ) → IsPlayed same hash (terms_given setup) [] p
  pub begun : HasJustBegun setup p
  pub first : (same : K → K → Bool) (hash : K → ℕ) → BeginsIn same hash setup p
  pub acts : (same : K → K → Bool) (by_hasher : S → K → ℕ) → ((hasher : S) → AreLawful same (by_hasher hasher)) → ActsSoFar same by_hasher (terms_given setup) [] p.logged p.calls

-- So it is as a scheduler was made,
pub begins_first : {K V S : Type 0} (setup : Setup) (p : Scheduler K V S) → ((same : K → K → Bool) (hash : K → ℕ) → IsPlayed same hash (terms_given setup) [] p) → HasJustBegun setup p
    → ((same : K → K → Bool) (hash : K → ℕ) (name : ℕ → List ℕ) → IsShown same hash name start p.logged (at_first setup.roots)) → Begins setup p
begins_first {K} {V} setup p played begun shown = record {
  played = played;
  begun = begun;
  first = λ same hash. record {
    world = (at_first {K = K} {V = V} setup.roots).world;
    shown = shown same hash;
    came = turns_begin deferred_word setup.batch_size setup.roots;
  };
  acts = λ same by_hasher lawful.
      none_yet same by_hasher (terms_given setup) p.logged (shown same (by_hasher p.logged.executor.hasher) (played same (by_hasher p.logged.executor.hasher)).name).is_at begun.batches begun.many begun.known_is p.calls
      (no_calls p.calls (played same (by_hasher p.logged.executor.hasher)).calls.listed);
}
  where
    no_calls : (calls : List (NamedCaller V)) → map seen (start {K = K} {V = V}).calls ≡ map seen_of calls → calls ≡ []
    no_calls [] alike = refl
    no_calls (d ∷ calls) alike = absurd (cc alike)

-- and after a choice of a block's number, too.
pub still_begins : {K V S : Type 0} (setup : Setup) (p : Scheduler K V S) → Begins setup p → (choice : ℕ) (logged : Logged K V S) → logged ≡ logged_chosen choice p.logged
    → Begins setup (record p { logged = logged })
still_begins {K} {V} {S} setup p begins choice logged is =
    let b = begins.begun in
    subst (λ (l : Logged K V S). Begins setup (record p { logged = l })) (sym is) (record {
      played = λ same hash. stands_chosen same hash (terms_given setup) start p (begins.played same hash) choice;
      begun = record { maps = b.maps; known_is = b.known_is; many = b.many; batches = b.batches; free = b.free; nowhere = b.nowhere; slots = b.slots };
      first = λ same hash.
          let f = begins.first same hash in
          record {
            world = record f.world { memory = memory_chosen choice f.world.memory };
            shown = λ name. choice_shown choice p.logged same hash name start (record (at_first setup.roots) { world = f.world }) (f.shown name);
            came =
                events_follow deferred_word setup.batch_size setup.roots f.world (record f.world { memory = memory_chosen choice f.world.memory }) [] f.came (Chooses choice) tt refl;
          };
      acts = λ same by_hasher lawful. one_choice_yet same by_hasher (terms_given setup) p.logged (any_course V same by_hasher lawful) choice p.calls (begins.acts same by_hasher lawful);
    })

module _ {K V S : Type 0} (same : K → K → Bool) (hash : K → ℕ) (setup : Setup) (p : Scheduler K V S) (begins : Begins setup p) where
  abbrev memory : Mem (Node K V)
  memory = p.logged.executor.memory.memory

  abbrev roots : ℕ
  roots = p.logged.executor.roots

  abbrev stands : RefinesFor same hash (terms_given setup) start p
  stands = begins.played same hash

  below : (r : ℕ) → r < roots → r < setup.roots
  below r l = subst (λ (n : ℕ). r < n) begins.begun.many l

  -- each root is free, and leads nowhere
  free : (r : ℕ) → r < roots → word_at memory (Used r) ≡ Some 0
  free r l = ap (λ (l : List ℕ). slice_get l r) begins.begun.free ∙ zero_at setup.roots r (below r l)

  nowhere : (r : ℕ) → r < roots → word_at memory (Root r) ≡ Some 0
  nowhere r l = ap (λ (l : List ℕ). slice_get l r) begins.begun.nowhere ∙ zero_at setup.roots r (below r l)

  -- the run is made with what was given
  many : roots ≡ p.setup.roots
  many = begins.begun.many ∙ sym (ap (λ (t : Terms). t.roots) stands.given)

  counts : setup.processors ≤ 2 ^ 63 → CountsMaps start p
  counts few = record {
    apart = record { numbers = numbers_begin K V; names = λ own. omega arith };
    pairs = pairs_begin K V;
    next = ap length begins.begun.maps;
    taken = free;
    once = λ r. omega arith;
    below = λ r is. absurd (cc is);
    roots = many;
    processors = subst (λ (n : ℕ). n ≤ 2 ^ 63) (sym (ap (λ (t : Terms). t.processors) stands.given)) few;
  }

  gives : MayGiveAll p stands.scene
  gives =
      let same_memory = stands.shown.is_at.held.memory in
      record {
        lists = λ r. [];
        left =
            (left_is_left_behind K V roots stands.scene.world stands.scene.maps (λ i. None) (λ i. None) (λ r. []) (λ j. refl) (λ j. refl)).0
            (nothing_is_left K V roots stands.scene.world stands.scene.maps (λ i. None) (λ i. None)
            (λ r l. inr (ap (λ (m : Mem (Node K V)). word_at m (Used r)) same_memory ∙ free r l, ap (λ (m : Mem (Node K V)). word_at m (Root r)) same_memory ∙ nowhere r l)));
        slots = record {
          some = λ more. absurd (let none = ap (λ (k : Known). k.buckets) begins.begun.known_is in omega (arith, more, none));
          none = λ none. ap (λ (l : List (List ℕ)). slot_word l 0 HEAD) begins.begun.slots;
        };
      }

  -- the run is as the first event needs
  first : BeginsIn same hash setup p
  first = begins.first same hash

  no_shards : HaveShards (terms_given setup) p.logged.executor
  no_shards n setting is = absurd (let none = ap (λ (xs : List (Option Setting)). slice_index_or xs n None) begins.begun.maps in cc (none, is))

  -- no call is under way
  no_values : (calls : List (NamedCaller V)) → map seen (start {K = K} {V = V}).calls ≡ map seen_of calls → HaveValues (start {K = K} {V = V}) (record (at_first setup.roots) { world = first.world }) calls
  no_values [] alike = tt
  no_values (d ∷ calls) alike = absurd (cc alike)

  -- no slot was taken
  none_taken : SlotsTaken first.world.memory 0
  none_taken =
      subst (λ (x : Mem (Node K V)). SlotsTaken x 0) (sym (first.shown stands.name).is_at.held.memory) (
        λ s l. absurd (omega (arith, l)),
        λ s head l is. absurd (let none : slot_word memory.slots s HEAD ≡ None = ap (λ (slots : List (List ℕ)). slot_word slots s HEAD) begins.begun.slots in cc (none, is)),
      )

  pub first_runs : Runs same hash (terms_given setup) [] p
  first_runs = record {
    stands = stands_in same hash (terms_given setup) start p stands stands.name (record (at_first setup.roots) { world = first.world }) (first.shown stands.name)
        (its_named same hash (terms_given setup) start p stands);
    shows = runs_begin_in K V same (terms_given setup) stands.name (known p.logged.notes) first.world (first.shown stands.name).shows (first.shown stands.name).kept first.came;
    come = nothing_has_come K V;
    values = no_values p.calls stands.calls.listed;
    taken = none_taken;
    size = begins.begun.batches;
    shards = no_shards;
    reached = inl refl;
  }

  -- all that events ask of it, where keys have lawful hashes, and processors are not too many
  pub first_holds : AreLawful same hash → setup.processors ≤ 2 ^ 63 → Holds same hash (terms_given setup) start p
  first_holds lawful few = record { stands = stands; lawful = lawful; counts = counts few; gives = gives }

-- as many as a run is made with are not
pub are_few : (setup : Setup) → (bounded setup).processors ≤ 2 ^ 63
are_few setup = at_most setup.processors (2 ^ 63)
  where
    at_most : (n most : ℕ) → min n most ≤ most
    at_most n most = omega arith
