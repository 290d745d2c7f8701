-- A row, whoever takes its steps, leaves each making what it has.
use Rattle.std.specs.Prelude.{◌≡◌, ◌≢◌, ℕ, Bool, Option, Some, None, slice_get}
use Rattle.std.proofs.Common.{refl, ap, sym, subst, ◌∙◌, inl, inr}
use Rattle.many_calls.specs.Given.SeizeWordsDeclared.at.At.TheVariants.{Root, Used, Word}
use Rattle.many_calls.specs.Given.SeizeWordsMem.{Mem, value_at, word_at}
use Rattle.many_calls.specs.Given.SeizeWorld.{World, Hand, Making, Handed, Request, Register', Enter', Leave', LeaveOwned, Refresh, Unregister', Retire, Flush, Defer', Begin, Step, Happens, with_at}
use Rattle.many_calls.proofs.Given.SeizeAloneHistories.NotTaken.{did}
use Rattle.many_calls.proofs.Given.SeizeAloneHistories.Reached.{Reached}
use Rattle.many_calls.specs.Given.TablesNodes.{deferred_word}
use Rattle.many_calls.specs.Given.TablesDeclared.node.Node.{Node}
use Rattle.many_calls.specs.Given.TablesDeclared.setting.Setting.{Setting}
use Rattle.many_calls.specs.Given.RuleInWorld.{IsHeldBy, PreservesBlocks}
use Rattle.many_calls.proofs.Given.RuleWorld.Hands.{hand_kept}
use Rattle.many_calls.proofs.Given.RuleWorld.OthersSpared.{held_once, keeps_same, keeps_then, keeps_handed}
use Rattle.many_calls.specs.Kept.{IsUsersOwn}
use Rattle.many_maps.specs.Makings.{Beginning, HasOwnCounter, MakingsTogether, AllMakingsStand, RowsPreserveWithMakings, GuardsPreserveWithMakings}
use Rattle.many_maps.specs.Maps.{Standing, IsSameMap, AllMapsStand}
use Rattle.many_calls.specs.Together.{OnKey, UnderWay, CameAbout, HandsOver, IsOneStep, IsOfSlots}
use Rattle.many_maps.proofs.Beside.Makings.Beside.{LeavesMakings, makings_on}
use Rattle.many_maps.proofs.Beside.Makings.CallSteps.{no_maker, still_alone}
use Rattle.many_maps.proofs.Beside.Makings.Lasts.{counter_on}
use Rattle.many_maps.proofs.Beside.Maps.Rows.{rows_stand_in_maps, guards_stand_in_maps}
use Rattle.many_calls.proofs.Rows.Beside.{users_hand, users_value, users_word, row_keeps_blocks}
use Rattle.many_calls.proofs.Together.Came.{came_next, came_reached}
use Rattle.many_calls.proofs.Given.General.{same_some as one_of}

-- a map that is as it was, but for what may be looked at of it, has its setting
pub same_setting : {K : Type 0} (o after : Option (Standing K)) → IsSameMap o after → (s2 : Standing K) → after ≡ Some s2 → (s : Standing K) × (o ≡ Some s) × (s2.setting ≡ s.setting)
same_setting {K} None after is s2 e = absurd (cc (is, e))
same_setting {K} (Some s) after (blocks, sights, is, part) s2 e = (s, refl, ap (λ (x : Standing K). x.setting) (one_of s2 (record s { blocks = blocks; sights = sights }) (sym e ∙ is)))

module _ {K Q : Type 0} (V : Type 0) (same : K → K → Bool) (asks : Q → K → Bool) (batch_size roots : ℕ) (slot : ℕ → ℕ) (maps : ℕ → Option (Standing K)) (makers : ℕ → Option (Beginning K)) where
  abbrev Left : World (Node K V) → World (Node K V) → Type 0
  Left w w2 = LeavesMakings {Q = Q} V same asks batch_size roots slot w maps makers w2

  -- two steps, one after the other
  left_then : (w v w2 : World (Node K V)) → Left w v → Left v w2 → Left w w2
  left_then w v w2 first then' = record {
    used = λ r word is. then'.used r word (first.used r word is);
    root = λ r word is apart. then'.root r word (first.root r word is apart) apart;
    own = λ j b makes. keeps_then j w.memory v.memory w2.memory w.hand v.hand w2.hand (first.own j b makes) (then'.own j b makes);
    counter = λ j b makes made h. then'.counter j b makes made (first.counter j b makes made h);
  }

  -- a step of a row
  pub step_leaves : (w : World (Node K V)) → CameAbout batch_size w → (i : ℕ) (w2 : World (Node K V)) → Happens deferred_word batch_size (Step i) w w2 → Left w w2
  step_leaves w came i w2 step = record {
    used = λ r word is. ap (λ l. slice_get l r) (did deferred_word batch_size w reached i w2 step).frames.used ∙ is;
    root = λ r word is apart. ap (λ l. slice_get l r) (did deferred_word batch_size w reached i w2 step).frames.roots ∙ is;
    own = λ j b makes. row_keeps_blocks batch_size w reached i w2 step j;
    counter = λ j b makes made h.
        let own : IsUsersOwn (w.hand b.machine.setting.counter) = subst IsUsersOwn (sym h.hand) tt in
        counter_on same j w w2 b.machine.setting (users_value batch_size w reached i w2 step b.machine.setting.counter own) (users_hand batch_size w reached i w2 step b.machine.setting.counter own)
        (λ field word is. users_word batch_size w reached i w2 step b.machine.setting.counter j field h.hand ∙ is) h;
  }
    where
      reached : Reached deferred_word batch_size w
      reached = came_reached batch_size w came

  -- nothing that is in memory changed, and no block changed hands but one that the makers don't have
  module _ (w w2 : World (Node K V)) (memory : w2.memory ≡ w.memory) where
    same_word : (P : Mem (Node K V) → Type 0) → P w.memory → P w2.memory
    same_word P h = subst P (sym memory) h

    left_by : (hands : (j : ℕ) (b : Beginning K) → makers j ≡ Some b → PreservesBlocks j w.memory w.hand w.memory w2.hand)
        → (counters : (j : ℕ) (b : Beginning K) → makers j ≡ Some b → HasOwnCounter w j b.machine.setting → w2.hand b.machine.setting.counter ≡ w.hand b.machine.setting.counter) → Left w w2
    left_by hands counters = record {
      used = λ r word is. same_word (λ m. word_at m (Used r) ≡ Some word) is;
      root = λ r word is apart. same_word (λ m. word_at m (Root r) ≡ Some word) is;
      own = λ j b makes. same_word (λ m. PreservesBlocks j w.memory w.hand m w2.hand) (hands j b makes);
      counter = λ j b makes made h. counter_on same j w w2 b.machine.setting (ap (λ (m : Mem (Node K V)). value_at m b.machine.setting.counter) memory) (counters j b makes h)
          (λ field word is. same_word (λ m. word_at m (Word b.machine.setting.counter field) ≡ Some word) is) h;
    }

    -- none did
    pub left_untouched : w2.hand ≡ w.hand → Left w w2
    left_untouched hands =
        left_by (λ j b makes. subst (λ (h : ℕ → Hand). PreservesBlocks j w.memory w.hand w.memory h) (sym hands) (keeps_same j w.memory w.hand)) (λ j b makes h. ap (λ (f : ℕ → Hand). f b.machine.setting.counter) hands)

    -- one that this caller has was handed to the collector
    left_handed : (i x : ℕ) → IsHeldBy i (w.hand x) → w2.hand ≡ with_at w.hand x Handed → ((j : ℕ) (b : Beginning K) → makers j ≡ Some b → j ≢ i) → Left w w2
    left_handed i x held hands other =
        left_by
        (λ j b makes. subst (λ (h : ℕ → Hand). PreservesBlocks j w.memory w.hand w.memory h) (sym hands) (keeps_handed j w.memory w.hand x Handed (λ theirs. other j b makes (held_once j i (w.hand x) theirs held))))
        (λ j b makes h. ap (λ (f : ℕ → Hand). f b.machine.setting.counter) hands ∙ hand_kept w.hand x Handed (w.hand b.machine.setting.counter) b.machine.setting.counter (apart j b makes h) refl)
      where
        apart : (j : ℕ) (b : Beginning K) → makers j ≡ Some b → HasOwnCounter w j b.machine.setting → b.machine.setting.counter ≢ x
        apart j b makes h e = other j b makes (held_once j i (w.hand x) (subst (IsHeldBy j) (sym (subst (λ (y : ℕ). w.hand y ≡ Making j) e h.hand)) refl) held)

  -- a row begins on slots, or on a block that a call has taken out
  pub slots_leave : (w w2 : World (Node K V)) (i : ℕ) (request : Request) → IsOfSlots request → Happens deferred_word batch_size (Begin i request) w w2 → Left w w2
  slots_leave w w2 i (Register' enters) of h = left_untouched w w2 (ap (λ (x : World (Node K V)). x.memory) h.1) (ap (λ (x : World (Node K V)). x.hand) h.1)
  slots_leave w w2 i (Enter' s) of h = left_untouched w w2 (ap (λ (x : World (Node K V)). x.memory) h.1.1) (ap (λ (x : World (Node K V)). x.hand) h.1.1)
  slots_leave w w2 i (Leave' s) of h = left_untouched w w2 (ap (λ (x : World (Node K V)). x.memory) h.1.1) (ap (λ (x : World (Node K V)). x.hand) h.1.1)
  slots_leave w w2 i (LeaveOwned s) of h = left_untouched w w2 (ap (λ (x : World (Node K V)). x.memory) h.1.1) (ap (λ (x : World (Node K V)). x.hand) h.1.1)
  slots_leave w w2 i (Refresh s) of h = left_untouched w w2 (ap (λ (x : World (Node K V)). x.memory) h.1.1) (ap (λ (x : World (Node K V)). x.hand) h.1.1)
  slots_leave w w2 i (Unregister' s) of h = left_untouched w w2 (ap (λ (x : World (Node K V)). x.memory) h.1.1) (ap (λ (x : World (Node K V)). x.hand) h.1.1)
  slots_leave w w2 i (Flush s) of h = left_untouched w w2 (ap (λ (x : World (Node K V)). x.memory) h.1.1) (ap (λ (x : World (Node K V)). x.hand) h.1.1)
  slots_leave w w2 i (Retire s b) of h = absurd of
  slots_leave w w2 i (Defer' s b t) of h = absurd of

  hands_leave : (setting : Setting) (w w2 : World (Node K V)) (i : ℕ) (request : Request) → HandsOver setting i w request → Happens deferred_word batch_size (Begin i request) w w2
      → ((j : ℕ) (b : Beginning K) → makers j ≡ Some b → j ≢ i) → Left w w2
  hands_leave setting w w2 i (Retire s b) hands h other = left_handed w w2 (ap (λ (x : World (Node K V)). x.memory) h.1.2) i b hands.1 (ap (λ (x : World (Node K V)). x.hand) h.1.2) other
  hands_leave setting w w2 i (Defer' s b t) hands h other = left_handed w w2 (ap (λ (x : World (Node K V)). x.memory) h.1.7) i b hands.1 (ap (λ (x : World (Node K V)). x.hand) h.1.7) other
  hands_leave setting w w2 i (Register' enters) hands h other = absurd hands
  hands_leave setting w w2 i (Enter' s) hands h other = absurd hands
  hands_leave setting w w2 i (Leave' s) hands h other = absurd hands
  hands_leave setting w w2 i (LeaveOwned s) hands h other = absurd hands
  hands_leave setting w w2 i (Refresh s) hands h other = absurd hands
  hands_leave setting w w2 i (Unregister' s) hands h other = absurd hands
  hands_leave setting w w2 i (Flush s) hands h other = absurd hands

  pub one_step_leaves : (setting : Setting) → setting.batch_size ≡ batch_size → (w : World (Node K V)) → CameAbout batch_size w → (i : ℕ) (w2 : World (Node K V)) → IsOneStep setting i w w2
      → ((j : ℕ) (b : Beginning K) → makers j ≡ Some b → j ≢ i) → Left w w2
  one_step_leaves setting is w came i w2 (inl step) other = step_leaves w came i w2 (subst (λ (n : ℕ). Happens deferred_word n (Step i) w w2) is step)
  one_step_leaves setting is w came i w2 (inr (request, begun, hands, begins, step)) other =
      let h = subst (λ (n : ℕ). Happens deferred_word n (Begin i request) w begun) is begins in
      left_then w begun w2 (hands_leave setting w begun i request hands h other)
      (step_leaves begun (came_next batch_size w begun (Begin i request) came h) i w2 (subst (λ (n : ℕ). Happens deferred_word n (Step i) begun w2) is step))

module _ {K Q : Type 0} (V : Type 0) (same : K → K → Bool) (asks : Q → K → Bool) (batch_size roots : ℕ) (slot : ℕ → ℕ)
    (w : World (Node K V)) (maps : ℕ → Option (Standing K)) (calls : ℕ → ℕ → Option (UnderWay K V Q)) (makers : ℕ → Option (Beginning K))
    (all : MakingsTogether V same asks batch_size roots slot w maps calls makers) (w2 : World (Node K V)) (left : LeavesMakings {Q = Q} V same asks batch_size roots slot w maps makers w2)
    (calls2 : ℕ → ℕ → Option (UnderWay K V Q)) (alone2 : (j : ℕ) (b : Beginning K) → makers j ≡ Some b → (m : ℕ) → calls2 m j ≡ None) where
  same_none : (o after : Option (Standing K)) → IsSameMap o after → o ≡ None → after ≡ None
  same_none None after is e = is
  same_none (Some s) after is e = absurd (cc e)

  -- maps that stand on do so with the makings
  pub all_on : AllMapsStand V same asks batch_size slot w2 maps calls2 → AllMakingsStand V same asks batch_size roots slot w2 maps calls2 makers
  all_on (maps2, is, stand2) = (
    maps2,
    is,
    makings_on V same asks batch_size roots slot w maps calls makers all w2 left maps2 calls2 stand2 (λ m s2 here. same_setting (maps m) (maps2 m) (is m) s2 here) (λ m none. same_none (maps m) (maps2 m) (is m) none) alone2,
  )

module _ {K Q : Type 0} (V : Type 0) (same : K → K → Bool) (asks : Q → K → Bool) (batch_size roots : ℕ) (slot : ℕ → ℕ) where
  pub rows_stand_beside : RowsPreserveWithMakings V same asks batch_size roots slot
  rows_stand_beside w maps calls makers all m s here i u has is_row =
      let leads = rows_stand_in_maps V same asks batch_size slot w maps calls all.standing m s here i u has is_row in
      let other = no_maker V same asks batch_size roots slot w maps calls makers all m i (OnKey u) has in (
        leads.0,
        λ m2 p2 progress st.
            let to = leads.1 m2 p2 progress st in
            record {
              step = to.step;
              together = all_on V same asks batch_size roots slot w maps calls makers all to.step.w2
                  (one_step_leaves V same asks batch_size roots slot maps makers s.setting (all.standing.fit m s here).2 w all.standing.came i to.step.w2 to.step.happened other) _
                  (still_alone V same asks batch_size roots slot w maps calls makers all m i _ other) to.together;
            },
      )

  pub guards_stand_beside : GuardsPreserveWithMakings V same asks batch_size roots slot
  guards_stand_beside w maps calls makers all i alone =
      let guards = guards_stand_in_maps V same asks batch_size slot w maps calls all.standing i alone in (
        λ request of apart w2 h. all_on V same asks batch_size roots slot w maps calls makers all w2 (slots_leave V same asks batch_size roots slot maps makers w w2 i request of h) calls all.alone (guards.0 request of apart w2 h),
        guards.1,
        λ w2 h. all_on V same asks batch_size roots slot w maps calls makers all w2 (step_leaves V same asks batch_size roots slot maps makers w all.standing.came i w2 h) calls all.alone (guards.2 w2 h),
      )
