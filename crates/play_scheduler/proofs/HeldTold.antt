-- A batch that is held is in the hands of a call, which hands something over: so the moment says that it is held.
use Rattle.std.specs.Prelude.{◌==◌, ◌&&◌, ◌||◌, cond, Option, Some, None, find, option_map, if◌then◌else◌}
use Rattle.std.specs.List.{AllByRecursion, list_any}
use Rattle.std.proofs.Common.{◌≡◌, ℕ, Bool, true, false, List, [], ◌∷◌, refl, sym, ap, ◌∙◌, eqb-true}
use Rattle.std.proofs.lemmas.Bool.{eq-eqb}
use Rattle.seize.specs.declared.states.TheConstants.{BATCH, HELD}
use Rattle.seize_words.specs.OneMemory.Mem.{Mem, word_at}
use Rattle.seize_words.specs.declared.at.At.TheVariants.{Slot}
use Rattle.run_shows.proofs.Given.SeizeMemoryWords.Named.{word_found, words_of}
use Rattle.run_shows.specs.Given.SeizeEndsHolders.{has_batch}
use Rattle.papaya_raw.specs.Given.TablesDeclared.node.Node.{Node}
use Rattle.papaya_raw.specs.declared.machines.machine.Machine.{Machine}
use Rattle.run_schedules.specs.Runs.Present.{guard_of, guards_slot_or, slot_of_guard}
use Rattle.run_schedules.specs.Runs.Same.{is_same}
use Rattle.run_schedules.proofs.Runs.Laws.{same_tells}
use Rattle.run_schedules.specs.Schedules.InUse.{is_handing, is_held}
use Rattle.run_schedules.specs.Schedules.Moment.{UnderWay as CallThere, Moment}
use Rattle.run_schedules.specs.Schedules.Terms.{Terms}
use Rattle.run_schedules.specs.Schedules.Views.{call_of}
use Rattle.run_shows.specs.Given.CallersTogether.{UnderWay}
use Rattle.run_shows.specs.Given.FinishesMachines.{machine_of}
use Rattle.run_shows.specs.Follows.Calls.{IsCalled}
use Rattle.run_executor.specs.declared.worker.Work.{Work}
use Rattle.run_executor.specs.declared.worker.Work.TheVariants as work
use Rattle.play_scheduler.specs.Played.{IsUnderWay, RefinesFor}
use Rattle.run_executor.specs.Named.Seen.{Seen, is_named, seen, seen_of}
use Rattle.run_executor.specs.declared.caller.NamedCaller.{NamedCaller}
use Rattle.play_scheduler.specs.declared.scheduler.Scheduler.{Scheduler}
use Rattle.play_scheduler.proofs.Dropped.{lives_on}
use Rattle.run_logged.proofs.Rows.Facts.{row_rests}
use Rattle.run_logged.proofs.Rows.Holders.{held, works_there}
use Rattle.run_logged.proofs.Rows.Lists.{all_so, both_some, found_alike, found_has, found_once}
use Rattle.run_executor.specs.Executing.IsThere.{call_in, work_of}
use Rattle.run_shows.specs.Scenes.Scene.{slot_of}
use Rattle.seize_words.proofs.General.{both_true, none_mapped as none_of}

-- where a slot's batch is held, a call under way that may hold it hands something over
abbrev pub HeldIsTold : {K V S : Type 0} → Moment K V → Scheduler K V S → Type 0
HeldIsTold m p = (slot : ℕ) → word_at p.logged.executor.memory.memory (Slot slot BATCH) ≡ Some HELD → is_held slot m ≡ true

-- one that is found passes a test where some passes it
pub one_passes : {X : Type 0} (p q : X → Bool) (xs : List X) (x : X) → find p xs ≡ Some x → q x ≡ true → list_any q xs ≡ true
one_passes p q [] x is passes = absurd (cc is)
one_passes {X} p q (y ∷ xs) x is passes = one (p y) is (λ f. one_passes p q xs x f passes)
  where
    the : (a b : X) → Some a ≡ Some b → a ≡ b
    the a b s = cc s

    one : (b : Bool) → cond b (Some y) (find p xs) ≡ Some x → (find p xs ≡ Some x → list_any q xs ≡ true) → (q y || list_any q xs) ≡ true
    one true f ih = ap (λ (b : Bool). b || list_any q xs) (ap q (the y x f) ∙ passes)
    one false f ih = ap (λ (b : Bool). q y || b) (ih f) ∙ any_or (q y)
      where
        any_or : (b : Bool) → (b || true) ≡ true
        any_or true = refl
        any_or false = refl

some_call : {K V : Type 0} (o : Option (UnderWay K V K)) (machine : Machine K V K) → option_map machine_of o ≡ Some machine → (u : UnderWay K V K) × (o ≡ Some u)
some_call None machine e = absurd (cc e)
some_call (Some u) machine e = (u, refl)

module _ {K V S : Type 0} (same : K → K → Bool) (hash : K → ℕ) (terms : Terms) (m : Moment K V) (p : Scheduler K V S) (stands : RefinesFor same hash terms m p) where
  abbrev calls : List (NamedCaller V)
  calls = p.calls

  -- who has the batch has a call under way,
  pub has_call : (j slot : ℕ) → has_batch slot (stands.scene.world.row j) ≡ true → (map : ℕ) × (u : UnderWay K V K) × (stands.scene.calls map j ≡ Some u)
  has_call j slot has = by (work_of p.logged.executor j) refl
    where
      idle : work_of p.logged.executor j ≡ None → ⊥
      idle none = let rests = ap (has_batch slot) (row_rests same hash p.logged.executor stands.scene stands.shown.is_at j none) in cc (rests, has)

      others : (o : Option (Work K V)) → work_of p.logged.executor j ≡ o → ((n : ℕ) → call_in o n ≡ None) → ⊥
      others o is none =
          idle (stands.rests j (λ n. none_of machine_of (stands.scene.calls n j) (stands.shown.is_at.calls n j ∙ ap (λ (x : Option (Work K V)). call_in x n) is ∙ none n)))

      by : (o : Option (Work K V)) → work_of p.logged.executor j ≡ o → (map : ℕ) × (u : UnderWay K V K) × (stands.scene.calls map j ≡ Some u)
      by None is = absurd (idle is)
      by (Some (work.Call map machine)) is =
          let h : option_map machine_of (stands.scene.calls map j) ≡ (if map == map then Some machine else None) =
          stands.shown.is_at.calls map j ∙ ap (λ (x : Option (Work K V)). call_in x map) is in
          let call = some_call (stands.scene.calls map j) machine (h ∙ ap (λ (b : Bool). if b then Some machine else None) (eq-eqb map map refl)) in
          (map, call.0, call.1)
      by (Some (work.Making map opening)) is = absurd (others (Some (work.Making map opening)) is (λ n. refl))
      by (Some (work.Ending ending)) is = absurd (others (Some (work.Ending ending)) is (λ n. refl))
      by (Some (work.OnSlot row)) is = absurd (others (Some (work.OnSlot row)) is (λ n. refl))

  -- which the moment has under a guard on that slot
  module _ (map j : ℕ) (u : UnderWay K V K) (is : stands.scene.calls map j ≡ Some u) where
    abbrev own : List ℕ
    own = stands.name j

    abbrev its : NamedCaller V → Bool
    its d = (d.map == map) && (d.number == j)

    abbrev there : (c : CallThere K V) × (call_of own m ≡ Some c) × (c.map ≡ map) × IsCalled same u c.call
    there = stands.shown.shows.all.shown.calls map j u is

    named : AllByRecursion (λ d. its d ≡ true → is_named own d ≡ true) calls
    named =
        all_so (IsUnderWay stands.name stands.scene p.there) (λ d. its d ≡ true → is_named own d ≡ true)
        (λ d way same_one. (same_tells d.name own).1 (sym way.2 ∙ ap stands.name (eqb-true d.number j (both_true (d.map == map) (d.number == j) same_one).1))) calls stands.calls.each

    -- the caller that is found by its name is its own
    found : (d : NamedCaller V) × (find (is_named own) calls ≡ Some d) × (seen there.0 ≡ seen_of d)
    found =
        let it = both_some seen_of seen (find (is_named own) calls) (call_of own m)
        (sym (found_alike seen seen_of m.calls calls stands.calls.listed (λ (z : Seen). is_same z.name own))) there.0 there.1 in
        (it.0, it.1, sym it.2)

    its_own : its found.0 ≡ true
    its_own = found_once (is_named own) its calls named (stands.calls.once own) (stands.calls.only map j u is) found.0 found.1

    pub its_guard : slot_of_guard there.0.guard m.there ≡ slot_of j
    its_guard =
        let way = found_has (IsUnderWay stands.name stands.scene p.there) (is_named own) calls found.0 found.1 stands.calls.each in
        let number = eqb-true found.0.number j (both_true (found.0.map == map) (found.0.number == j) its_own).1 in
        let g = lives_on (guard_of found.0.guard p.there.guards) (slot_of found.0.number) way.3 in
        ap (slot_of_guard there.0.guard) stands.there ∙ ap (λ (x : List ℕ). slot_of_guard x p.there) (ap (λ (z : Seen). z.guard) found.2) ∙ ap guards_slot_or g.1 ∙ g.2 ∙ ap slot_of number

    told_there : (slot : ℕ) → has_batch slot (stands.scene.world.row j) ≡ true → is_held slot m ≡ true
    told_there slot has =
        let handing = stands.shown.kept.handing map j u is (λ rests. (let none = ap (has_batch slot) rests in cc (none, has))) there.0 there.1 in
        let on = eq-eqb (slot_of_guard there.0.guard m.there) slot (its_guard ∙ works_there same hash p.logged.executor stands.scene stands.shown.is_at j slot has) in
        one_passes (λ c. is_same c.caller own) (λ c. is_handing c && (slot_of_guard c.guard m.there == slot)) m.calls there.0 there.1
        (ap (λ (b : Bool). b && (slot_of_guard there.0.guard m.there == slot)) handing ∙ on)

  pub held_is_told : HeldIsTold m p
  held_is_told slot word =
      let at = stands.shown.is_at in
      let says : words_of stands.scene.world.memory (Slot slot BATCH) ≡ HELD =
      ap (λ (x : Mem (Node K V)). words_of x (Slot slot BATCH)) at.held.memory ∙ word_found p.logged.executor.memory.memory (Slot slot BATCH) HELD word in
      let holder = held same hash p.logged.executor stands.scene at slot says in
      let call = has_call holder.0 slot holder.1 in
      told_there call.0 holder.0 call.1 call.2 slot holder.1
