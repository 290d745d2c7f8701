-- The end of a map begins, and takes its steps: what waits behind a table leaves the waiting sets of blocks as that is left over, and those of the model as its
-- block is taken away.
use Rattle.std.specs.Prelude.{◌⊎◌, ◌==◌, ◌||◌, ◌&&◌, ◌<◌, ◌^◌, map, flat_map, Option, Some, None, if◌then◌else◌}
use Rattle.std.specs.List.{AllByRecursion}
use Rattle.std.proofs.Common.{◌≡◌, ℕ, zero, suc, ◌+◌, Bool, true, false, List, [], ◌∷◌, ◌++◌, inl, inr, refl, ap, sym, subst, arith, eqb-true, append_assoc, ◌∙◌}
use Rattle.std.proofs.lemmas.Bool.{eq-eqb}
use Rattle.std.proofs.lemmas.List.{append-nil, map-append}
use Rattle.std.proofs.lemmas.List.Concat.{flat_map-append, flat_map-cons}
use Rattle.run_schedules.specs.Given.SeizeWordsMem.{value_at}
use Rattle.seize.specs.Law.{Ended as HasEnded}
use Rattle.seize.specs.Sequence.{ended_by}
use Rattle.seize.specs.WaitingSets.{Change, Ends, Further, Sets, is_one_of}
use Rattle.seize.specs.World.{World, LeftTo, Event, Runs, Ends as EndsOwner, times, with_effect}
use Rattle.seize.specs.declared.rows.settle.Settled.{Settled}
use Rattle.run_executor.specs.Given.SeizeWaitingHeld.{Every}
use Rattle.papaya_raw.specs.Given.TablesNodes.{deferred_word}
use Rattle.papaya_raw.specs.Given.TablesDeclared.node.Node.{Node}
use Rattle.papaya_raw.specs.Given.TablesDeclared.node.Node.TheVariants as node
use Rattle.papaya_raw.specs.declared.machines.end_map.EndMap.{EndMap}
use Rattle.run_schedules.specs.Schedules.After.{tables_taken}
use Rattle.run_schedules.specs.Schedules.Lists.{is_in}
use Rattle.run_schedules.specs.Schedules.Moment.{Moment}
use Rattle.run_schedules.specs.Schedules.Things.{same_table}
use Rattle.run_schedules.specs.declared.effect.Effect.{Effect}
use Rattle.run_schedules.specs.declared.effect.Effect.TheVariants as effect
use Rattle.run_schedules.specs.declared.effect.TableId.{TableId}
use Rattle.run_schedules.specs.declared.effect.Thing.{Thing}
use Rattle.run_schedules.specs.declared.effect.Thing.TheVariants.{APair, ATable}
use Rattle.run_executor.specs.Given.EffectsDeclared.changed.Changed.{Changed}
use Rattle.run_executor.specs.Given.EffectsDeclared.changed.Changed.TheVariants as changed
use Rattle.run_executor.specs.Given.EffectsEffects.{taken_by as what_was, effects_of, known_after}
use Rattle.run_executor.specs.Given.EffectsKnown.{Known, with_role}
use Rattle.run_executor.specs.Given.EffectsDeclared.acting.Acting.{Acting}
use Rattle.run_executor.specs.Given.EffectsDeclared.acting.Acting.TheVariants as acts
use Rattle.run_executor.specs.Given.EffectsDeclared.role.Role.{Role}
use Rattle.run_executor.specs.Given.EffectsDeclared.role.Role.TheVariants as role
use Rattle.run_executor.specs.Given.FinishesEndings.{Finishing, StepsOfEnding}
use Rattle.run_executor.specs.Given.FinishesFactsEnds.{Deed, Looks, TakesPair, LeavesTable, JoinsPair, TakesLeft, TakesCounter, WritesRoot, events_of, taken_by, left_by}
use Rattle.run_executor.specs.Given.FollowsBlocks.{HasRole, RefinesBlocks}
use Rattle.run_executor.proofs.Given.FollowsAlike.{is_calm, AllCalm}
use Rattle.run_executor.specs.Given.MomentsWhole.{RefinesWhole}
use Rattle.run_blocks.proofs.Given.OthersEnds.{says_or_takes, left}
use Rattle.run_blocks.specs.Given.PromisesSheltered.{IsOfThing}
use Rattle.run_executor.proofs.Given.SpotsHanding.{KeepsAll, AllKeep, calm_keep}
use Rattle.run_kept.specs.Models.Alike.{FurtherAlike}
use Rattle.run_kept.specs.Models.Ends.{IsOfEnd, AreOfEnd, WasTaken, FollowsInEnd, EndsBegin, EndsContinue}
use Rattle.run_kept.specs.Models.Follows.{FollowsSets}
use Rattle.run_kept.specs.Models.Numbers.{HasNumber}
use Rattle.run_kept.specs.Models.Others.{HandsNone, HandNone}
use Rattle.run_kept.specs.Models.Turns.{sets_of, CameByTurns}
use Rattle.run_kept.proofs.Models.OnSlots.{noted_still}
use Rattle.run_kept.proofs.Models.Turns.{events_follow, all_have_lists}
use Rattle.run_executor.specs.Given.ScenesEnding.{EndingHasOutcome, EndingStepsFrom}
use Rattle.run_executor.specs.Given.ScenesHeld.{Held, IsAt}
use Rattle.run_executor.specs.Given.ScenesScene.{Scene, slot_of}
use Rattle.run_executor.proofs.Given.SeizeAloneHistories.UsersTurn.{AreBetween}
use Rattle.run_blocks.proofs.Given.ScenesBetween.{deed_between}

-- Where the end begins what others wait behind is noted as a table.

module _ {K V : Type 0} (batch_size roots : ℕ) (things : List Thing) (sets : Sets) (known : Known) (w : World (Node K V)) (small : batch_size < 2 ^ 64)
    (follows : FollowsSets batch_size roots things sets known w) (m : Moment K V) (blocks : RefinesBlocks m known w) where
  abbrev IsTable : ℕ → Type 0
  IsTable b = (t : TableId) × (len : ℕ) × (known.roles b ≡ role.Table t len)

  abbrev HasList : ℕ → Type 0
  HasList b = (value : Node K V) → value_at w.memory b ≡ Some value → deferred_word value ≡ None → ⊥

  is_table : (b : ℕ) (x : Thing) → IsOfThing x (known.roles b) → HasList b → IsTable b
  is_table b (APair n) is list =
      let has : HasRole w m.stored b (role.Pair n) = subst (λ (r : Role). HasRole w m.stored b r) is (blocks.roles b) in
      absurd (list (node.Pair has.0 has.1) has.3 refl)
  is_table b (ATable t) is list = (t, is.0, is.1)

  tables_then : (fs gs : List Further) → FurtherAlike (HasNumber known things) fs gs → Every (λ f. HasList f.behind) fs → Every (λ f. IsTable f.behind) fs
  tables_then [] [] h l = tt
  tables_then [] (g ∷ gs) h l = absurd h
  tables_then (f ∷ fs) [] h l = absurd h
  tables_then (f ∷ fs) (g ∷ gs) h l = (let is = h.1 in is_table f.behind is.0 is.1 l.0, tables_then fs gs h.2 l.1)

  pub begun : (i owner : ℕ) → FollowsInEnd batch_size roots things sets known i [] known (with_effect w (HasEnded owner))
  begun i owner = record {
    before = follows.before;
    ended = [];
    came = events_follow deferred_word batch_size roots w (with_effect w (HasEnded owner)) follows.before follows.came (EndsOwner i owner) tt refl;
    alike = follows.alike;
    tables =
        tables_then (sets_of batch_size follows.before).further sets.further follows.alike.puts
        (all_have_lists deferred_word batch_size roots small w follows.before follows.came);
    left = λ b is. absurd (cc is);
    noted = λ b. inl refl;
    told = λ b len t was free. absurd (cc (was, free));
    taken = tt;
    hands = tt;
    of_end = tt;
  }

pub ends_begin : (K V : Type 0) → EndsBegin K V
ends_begin K V batch_size roots things sets known w small follows m blocks i owner = begun batch_size roots things sets known w small follows m blocks i owner

-- What a deed changes in the waiting sets of blocks.

-- the blocks that it leaves over with others behind them
abbrev ended_of : Deed → List ℕ
ended_of (LeavesTable b (c ∷ further)) = b ∷ []
ended_of _ = []

ended_left : (b : ℕ) (deed : Deed) → is_one_of b (ended_of deed) ≡ true → 0 < times b (left_by deed)
ended_left b (LeavesTable x (c ∷ further)) is = by (b == x) is
  where
    by : (q : Bool) → (q || false) ≡ true → 0 < (if q then 1 else 0) + times b (c ∷ further)
    by true is = omega arith
    by false is = absurd (cc is)
ended_left b _ is = absurd (cc is)

one_of_both : (b : ℕ) (xs ys : List ℕ) → is_one_of b (xs ++ ys) ≡ true → (is_one_of b xs ≡ true) ⊎ (is_one_of b ys ≡ true)
one_of_both b [] ys is = inr is
one_of_both b (x ∷ xs) ys is = by (b == x) is (one_of_both b xs ys)
  where
    by : (q : Bool) → (q || is_one_of b (xs ++ ys)) ≡ true → (is_one_of b (xs ++ ys) ≡ true → (is_one_of b xs ≡ true) ⊎ (is_one_of b ys ≡ true))
        → ((q || is_one_of b xs) ≡ true) ⊎ (is_one_of b ys ≡ true)
    by true is ih = inl refl
    by false is ih = ih is

module _ {T : Type 0} (defers : T → Option ℕ) (batch_size roots i : ℕ) where
  ended_are : (deed : Deed) → flat_map ended_by (events_of {T = T} i deed) ≡ map (λ b. Ends b) (ended_of deed)
  ended_are Looks = refl
  ended_are (TakesPair b) = refl
  ended_are (LeavesTable b []) = refl
  ended_are (LeavesTable b (c ∷ further)) = refl
  ended_are (JoinsPair b word) = refl
  ended_are (TakesLeft b) = refl
  ended_are (TakesCounter b) = refl
  ended_are (WritesRoot at word) = refl

  came_all : (events : List (Event T)) → AreBetween events → (w n : World T) (before : List Change) → CameByTurns defers batch_size roots w before
      → Runs defers batch_size events w n → CameByTurns defers batch_size roots n (before ++ flat_map ended_by events)
  came_all [] all w n before came runs =
      subst (λ (cs : List Change). CameByTurns defers batch_size roots n cs) (sym (append-nil before)) (subst (λ (u : World T). CameByTurns defers batch_size roots u before) (sym runs) came)
  came_all (e ∷ events) all w n before came runs =
      subst (λ (cs : List Change). CameByTurns defers batch_size roots n cs)
      (append_assoc before (ended_by e) (flat_map ended_by events) ∙ ap (λ (cs : List Change). before ++ cs) (sym (flat_map-cons ended_by e events)))
      (came_all events all.1 runs.0 n (before ++ ended_by e) (events_follow defers batch_size roots w runs.0 before came e all.0 runs.1) runs.2)

  came_on : (w n : World T) (before : List Change) → CameByTurns defers batch_size roots w before → (deed : Deed) → Runs defers batch_size (events_of i deed) w n
      → CameByTurns defers batch_size roots n (before ++ map (λ b. Ends b) (ended_of deed))
  came_on w n before came deed runs =
      subst (λ (cs : List Change). CameByTurns defers batch_size roots n (before ++ cs)) (ended_are deed) (came_all (events_of i deed) (deed_between T i deed) w n before came runs)

-- What a step of an end tells.

itself : (t : TableId) → is_in same_table t (t ∷ []) ≡ true
itself t = by (t.map == t.map) (t.turn == t.turn) (eq-eqb t.map t.map refl) (eq-eqb t.turn t.turn refl)
  where
    by : (p q : Bool) → p ≡ true → q ≡ true → ((p && q) || false) ≡ true
    by true true e f = refl
    by true false e f = absurd (cc f)
    by false q e f = absurd (cc e)

in_first : (t : TableId) (xs ys : List TableId) → is_in same_table t xs ≡ true → is_in same_table t (xs ++ ys) ≡ true
in_first t [] ys is = absurd (cc is)
in_first t (x ∷ xs) ys is = by (same_table t x) is (in_first t xs ys)
  where
    by : (q : Bool) → (q || is_in same_table t xs) ≡ true → (is_in same_table t xs ≡ true → is_in same_table t (xs ++ ys) ≡ true) → (q || is_in same_table t (xs ++ ys)) ≡ true
    by true is ih = refl
    by false is ih = ih is

in_second : (t : TableId) (xs ys : List TableId) → is_in same_table t ys ≡ true → is_in same_table t (xs ++ ys) ≡ true
in_second t [] ys is = is
in_second t (x ∷ xs) ys is = by (same_table t x) (in_second t xs ys is)
  where
    by : (q : Bool) → is_in same_table t (xs ++ ys) ≡ true → (q || is_in same_table t (xs ++ ys)) ≡ true
    by true ih = refl
    by false ih = ih

module _ (P Q R : TableId → Type 0) (p : (t : TableId) → P t → R t) (q : (t : TableId) → Q t → R t) where
  rest_is : (ys : List TableId) → AllByRecursion Q ys → AllByRecursion R ys
  rest_is [] d = tt
  rest_is (y ∷ ys) d = (q y d.0, rest_is ys d.1)

  both_are : (xs ys : List TableId) → AllByRecursion P xs → AllByRecursion Q ys → AllByRecursion R (xs ++ ys)
  both_are [] ys c d = rest_is ys d
  both_are (x ∷ xs) ys c d = (p x c.0, both_are xs ys c.1 d)

keeps_hands : (e : Effect) → KeepsAll e → HandsNone e
keeps_hands (effect.Retired x) is = is
keeps_hands (effect.Deferred n t) is = is
keeps_hands _ is = tt

pub keep_hands : (effects : List Effect) → AllKeep effects → HandNone effects
keep_hands [] all = tt
keep_hands (e ∷ effects) all = (keeps_hands e all.0, keep_hands effects all.1)

pub both_hands : (xs ys : List Effect) → HandNone xs → HandNone ys → HandNone (xs ++ ys)
both_hands [] ys c d = d
both_hands (x ∷ xs) ys c d = (c.0, both_hands xs ys c.1 d)

calm_of_end : (effects : List Effect) → AllCalm effects → AreOfEnd effects
calm_of_end [] all = tt
calm_of_end (e ∷ effects) all = (by e all.0, calm_of_end effects all.1)
  where
    by : (e : Effect) → is_calm e ≡ true → IsOfEnd e
    by (effect.Stored n x) is = absurd (cc is)
    by (effect.Linked t shape) is = absurd (cc is)
    by (effect.Reclaimed x) is = absurd (cc is)
    by _ is = tt

both_of_end : (xs ys : List Effect) → AreOfEnd xs → AreOfEnd ys → AreOfEnd (xs ++ ys)
both_of_end [] ys c d = d
both_of_end (x ∷ xs) ys c d = (c.0, both_of_end xs ys c.1 d)

keep_tables : (effects : List Effect) → AllKeep effects → flat_map tables_taken effects ≡ []
keep_tables [] all = refl
keep_tables (e ∷ effects) all = flat_map-cons tables_taken e effects ∙ ap (λ (ts : List TableId). ts ++ flat_map tables_taken effects) (by e all.0) ∙ keep_tables effects all.1
  where
    by : (e : Effect) → KeepsAll e → tables_taken e ≡ []
    by (effect.Taken t) is = absurd is
    by _ is = refl

module _ (of : ℕ) (known : Known) where
  abbrev its : Acting
  its = acts.Ending of

  -- it takes a block away, or says nothing
  abbrev SaysOrTakes : Changed → Type 0
  SaysOrTakes x = (AllCalm (effects_of its known x) × ((known_after its x known).roles ≡ known.roles)) ⊎ ((b : ℕ) × (x ≡ changed.Took b))

  noted_on : (x : Changed) → SaysOrTakes x → (b : ℕ) → ((known_after its x known).roles b ≡ known.roles b) ⊎ ((known_after its x known).roles b ≡ role.Free)
  noted_on x (inl calm) b = inl (ap (λ (f : ℕ → Role). f b) calm.1)
  noted_on x (inr (c, is)) b =
      subst (λ (y : Changed). ((known_after its y known).roles b ≡ known.roles b) ⊎ ((known_after its y known).roles b ≡ role.Free)) (sym is) (by (b == c))
    where
      by : (q : Bool) → ((if q then role.Free else known.roles b) ≡ known.roles b) ⊎ ((if q then role.Free else known.roles b) ≡ role.Free)
      by true = inr refl
      by false = inl refl

  told_on : (x : Changed) → SaysOrTakes x → (b len : ℕ) (t : TableId) → known.roles b ≡ role.Table t len → (known_after its x known).roles b ≡ role.Free
      → is_in same_table t (flat_map tables_taken (effects_of its known x)) ≡ true
  told_on x (inl calm) b len t was free = absurd (let same = ap (λ (f : ℕ → Role). f b) calm.1 in cc (same, was, free))
  told_on x (inr (c, is)) b len t was free =
      subst (λ (y : Changed). (known_after its y known).roles b ≡ role.Free → is_in same_table t (flat_map tables_taken (effects_of its known y)) ≡ true) (sym is) (took (b == c) refl) free
    where
      took : (q : Bool) → (b == c) ≡ q → (if q then role.Free else known.roles b) ≡ role.Free → is_in same_table t (flat_map tables_taken (what_was its (known.roles c))) ≡ true
      took true e now =
          subst (λ (r : Role). is_in same_table t (flat_map tables_taken (what_was its r)) ≡ true) (sym (ap known.roles (sym (eqb-true b c e)) ∙ was)) (itself t)
      took false e now = absurd (cc (now, was))

  taken_on : (x : Changed) → SaysOrTakes x → AllByRecursion (WasTaken known (known_after its x known)) (flat_map tables_taken (effects_of its known x))
  taken_on x (inl calm) =
      subst (AllByRecursion (WasTaken known (known_after its x known))) (sym (keep_tables (effects_of its known x) (calm_keep (effects_of its known x) calm.0))) tt
  taken_on x (inr (c, is)) =
      subst (λ (y : Changed). AllByRecursion (WasTaken known (known_after its y known)) (flat_map tables_taken (effects_of its known y))) (sym is) (by (known.roles c) refl)
    where
      by : (r : Role) → known.roles c ≡ r → AllByRecursion (WasTaken known (with_role c role.Free known)) (flat_map tables_taken (what_was its r))
      by role.Free e = tt
      by (role.OwnPair caller) e = tt
      by (role.OwnTable turn shape) e = tt
      by (role.Pair n) e = tt
      by (role.Counter c2) e = tt
      by (role.Table t len) e = ((c, len, e, ap (λ (q : Bool). if q then role.Free else known.roles c) (eq-eqb c c refl)), tt)

  hands_on : (x : Changed) → SaysOrTakes x → HandNone (effects_of its known x)
  hands_on x (inl calm) = keep_hands (effects_of its known x) (calm_keep (effects_of its known x) calm.0)
  hands_on x (inr (c, is)) = subst (λ (y : Changed). HandNone (effects_of its known y)) (sym is) (by (known.roles c))
    where
      by : (r : Role) → HandNone (what_was its r)
      by role.Free = tt
      by (role.OwnPair caller) = (tt, tt)
      by (role.OwnTable turn shape) = (tt, tt)
      by (role.Pair n) = (tt, tt)
      by (role.Counter c2) = tt
      by (role.Table t len) = (tt, tt)

  end_on : (x : Changed) → SaysOrTakes x → AreOfEnd (effects_of its known x)
  end_on x (inl calm) = calm_of_end (effects_of its known x) calm.0
  end_on x (inr (c, is)) = subst (λ (y : Changed). AreOfEnd (effects_of its known y)) (sym is) (by (known.roles c))
    where
      by : (r : Role) → AreOfEnd (what_was its r)
      by role.Free = tt
      by (role.OwnPair caller) = (tt, tt)
      by (role.OwnTable turn shape) = (tt, tt)
      by (role.Pair n) = (tt, tt)
      by (role.Counter c2) = tt
      by (role.Table t len) = (tt, tt)

-- A step of the end.

module _ {K V : Type 0} (same : K → K → Bool) (hash : ℕ → K → ℕ) (name : ℕ → List ℕ) (m : Moment K V) (known : Known) (s : Scene K V) (old new : Held K V) (at : IsAt same hash old s)
    (whole : RefinesWhole same name m known s) (i : ℕ) (f : Finishing K V) (here : s.enders i ≡ Some f) (end : EndMap) (said : Settled (Node K V)) (steps : EndingStepsFrom f.machine old new end said)
    (did : StepsOfEnding V same same old.batch_size old.roots slot_of s.world s.maps s.calls s.makers s.enders i f new.memory (end, said))
    (number : ℕ) (not_there : s.maps number ≡ None) (comes : EndingHasOutcome same hash s new i f end did.w2 did.deed said) where
  abbrev w : World (Node K V)
  w = s.world

  abbrev w2 : World (Node K V)
  w2 = did.w2

  abbrev told : Changed
  told = new.changed

  abbrev effects : List Effect
  effects = effects_of (acts.Ending number) known told

  abbrev known2 : Known
  known2 = known_after (acts.Ending number) told known

  says : SaysOrTakes number known told
  says =
      says_or_takes same hash name m known s old new at whole.all.shown i f here end said steps did number not_there comes told refl
      (left same hash name m known s old new at whole.all.shown i f here end said steps did number not_there)

  -- what is left over stays so, or goes
  left_still : (b : ℕ) → (w.hand b ≡ LeftTo i) ⊎ (value_at w.memory b ≡ None) → (w2.hand b ≡ LeftTo i) ⊎ (value_at w2.memory b ≡ None)
  left_still b was = taken (times b (taken_by did.deed)) refl
    where
      kept : times b (taken_by did.deed) ≡ 0 → (n : ℕ) → times b (left_by did.deed) ≡ n → w.hand b ≡ LeftTo i → w2.hand b ≡ LeftTo i
      kept none zero e is = did.spares.hands b none e ∙ is
      kept none (suc n) e is = did.spares.left b (omega (arith, e))

      taken : (n : ℕ) → times b (taken_by did.deed) ≡ n → (w2.hand b ≡ LeftTo i) ⊎ (value_at w2.memory b ≡ None)
      taken (suc n) e = inr (did.spares.gone b (omega (arith, e)))
      taken zero e = by was
        where
          by : (w.hand b ≡ LeftTo i) ⊎ (value_at w.memory b ≡ None) → (w2.hand b ≡ LeftTo i) ⊎ (value_at w2.memory b ≡ None)
          by (inl is) = inl (kept e (times b (left_by did.deed)) refl is)
          by (inr gone) = inr (did.spares.values b e ∙ gone)

  -- a block that it leaves over is so, or gone
  left_now : (b : ℕ) → 0 < times b (left_by did.deed) → w2.hand b ≡ LeftTo i
  left_now b is = did.spares.left b is

  module _ (roots : ℕ) (things : List Thing) (sets : Sets) (first : Known) (done : List Effect) (r : FollowsInEnd old.batch_size roots things sets first i done known s.world) where
    left_then : (b : ℕ) → (is_one_of b r.ended ≡ true) ⊎ (is_one_of b (ended_of did.deed) ≡ true) → (w2.hand b ≡ LeftTo i) ⊎ (value_at w2.memory b ≡ None)
    left_then b (inl is) = left_still b (r.left b is)
    left_then b (inr is) = inl (left_now b (ended_left b did.deed is))

    told_then : (b len : ℕ) (t : TableId) → first.roles b ≡ role.Table t len → known2.roles b ≡ role.Free → is_in same_table t (flat_map tables_taken (done ++ effects)) ≡ true
    told_then b len t was free =
        subst (λ (ts : List TableId). is_in same_table t ts ≡ true) (sym (flat_map-append tables_taken done effects)) (by (r.noted b))
      where
        by : (known.roles b ≡ first.roles b) ⊎ (known.roles b ≡ role.Free) → is_in same_table t (flat_map tables_taken done ++ flat_map tables_taken effects) ≡ true
        by (inl same_role) = in_second t (flat_map tables_taken done) (flat_map tables_taken effects) (told_on number known told says b len t (same_role ∙ was) free)
        by (inr before) = in_first t (flat_map tables_taken done) (flat_map tables_taken effects) (r.told b len t was before)

    still_free : (b : ℕ) → known.roles b ≡ role.Free → known2.roles b ≡ role.Free
    still_free b free = by (noted_on number known told says b)
      where
        by : (known2.roles b ≡ known.roles b) ⊎ (known2.roles b ≡ role.Free) → known2.roles b ≡ role.Free
        by (inl e) = e ∙ free
        by (inr e) = e

    was_first : (b len : ℕ) (t : TableId) → known.roles b ≡ role.Table t len → first.roles b ≡ role.Table t len
    was_first b len t is = by (r.noted b)
      where
        by : (known.roles b ≡ first.roles b) ⊎ (known.roles b ≡ role.Free) → first.roles b ≡ role.Table t len
        by (inl e) = sym e ∙ is
        by (inr e) = absurd (cc (e, is))

    taken_before : (t : TableId) → WasTaken first known t → WasTaken first known2 t
    taken_before t (b, len, was, free) = (b, len, was, still_free b free)

    taken_now : (t : TableId) → WasTaken known known2 t → WasTaken first known2 t
    taken_now t (b, len, was, free) = (b, len, was_first b len t was, free)

    pub goes_on : FollowsInEnd old.batch_size roots things sets first i (done ++ effects) known2 w2
    goes_on = record {
      before = r.before;
      ended = r.ended ++ ended_of did.deed;
      came =
          subst (λ (cs : List Change). CameByTurns deferred_word old.batch_size roots w2 cs)
          (append_assoc r.before (map (λ b. Ends b) r.ended) (map (λ b. Ends b) (ended_of did.deed))
          ∙ ap (λ (cs : List Change). r.before ++ cs) (sym (map-append (λ (b : ℕ). Ends b) r.ended (ended_of did.deed))))
          (came_on deferred_word old.batch_size roots i w w2 (r.before ++ map (λ b. Ends b) r.ended) r.came did.deed did.runs);
      alike = r.alike;
      tables = r.tables;
      left = λ b is. left_then b (one_of_both b r.ended (ended_of did.deed) is);
      noted = λ b. noted_still (known.roles b) (first.roles b) (known2.roles b) (r.noted b) (noted_on number known told says b);
      told = told_then;
      taken =
          subst (AllByRecursion (WasTaken first known2)) (sym (flat_map-append tables_taken done effects))
          (both_are (WasTaken first known) (WasTaken known known2) (WasTaken first known2) taken_before taken_now (flat_map tables_taken done) (flat_map tables_taken effects) r.taken
          (taken_on number known told says));
      hands = both_hands done effects r.hands (hands_on number known told says);
      of_end = both_of_end done effects r.of_end (end_on number known told says);
    }

module _ (K V : Type 0) (same : K → K → Bool) (hash : ℕ → K → ℕ) where
  pub ends_go_on : EndsContinue K V same hash
  ends_go_on name m known s old new at whole i told leads f here number not_there roots things sets first done r =
      let to = leads f here in goes_on same hash name m known s old new at whole i f here to.0 told to.1 to.2 number not_there to.3 roots things sets first done r
