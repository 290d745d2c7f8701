-- By a step of a call on one key its class changes once at most, by what the call means just then.
use Rattle.std.specs.Prelude.{◌≡◌, ℕ, ◌+◌, ◌<◌, Bool, true, false, List, [], ◌∷◌, length, flat_map, map as list_map, Option, Some, None, ◌⊎◌, if◌then◌else◌}
use Rattle.std.proofs.Common.{refl, ap, sym, subst, ◌∙◌, inl, inr}
use Rattle.run_shows.specs.Given.SeizeWordsMem.{Mem}
use Rattle.run_shows.specs.Given.SeizeWorld.{World}
use Rattle.run_shows.specs.Given.TablesChunks.{is_incremental}
use Rattle.run_shows.specs.Given.TablesDeclared.node.Node.{Node}
use Rattle.run_shows.specs.Given.RawDeclared.machines.answer.Called.{Called}
use Rattle.run_shows.specs.Given.RawDeclared.machines.call.KeyCall.{KeyCall}
use Rattle.run_shows.specs.Given.RawDeclared.machines.progress.Progress.{Progress}
use Rattle.run_shows.specs.Given.RunsSame.{is_same}
use Rattle.run_shows.specs.Given.RunsDeclared.call.Response.{Response}
use Rattle.run_shows.specs.Given.RunsDeclared.call.Call.{Call}
use Rattle.run_shows.specs.Given.RunsDeclared.call.Call.TheVariants.{On}
use Rattle.run_shows.specs.Given.RunsDeclared.call.OneKey.{OneKey}
use Rattle.run_shows.specs.Given.RunsDeclared.call.Reply.{Reply}
use Rattle.run_shows.specs.Given.RunsDeclared.effect.Effect.{Effect}
use Rattle.run_shows.specs.Given.RunsDeclared.effect.Effect.TheVariants as effect
use Rattle.run_shows.specs.Given.RunsDeclared.effect.Spot.{Spot}
use Rattle.run_shows.specs.Given.SchedulesEffects.{new_pair, call_by, with_effect, AtEachEffect}
use Rattle.run_shows.specs.Given.SchedulesEntry.{acting}
use Rattle.run_shows.specs.Given.SchedulesLinearizable.{shift_of, there_for, ChangesOnce}
use Rattle.run_shows.specs.Given.SchedulesMoment.{UnderWay as CallThere, Moment}
use Rattle.run_shows.specs.Given.SchedulesSequential.{Answers, Deed, Puts, Takes, ComesIn, GivesWay, means, key_of, value_put, shifts}
use Rattle.run_shows.specs.Given.SchedulesViews.{call_of, finite_map, reply_to}
use Rattle.run_shows.specs.Given.RuleChart.{Chart}
use Rattle.run_shows.specs.Given.RuleMaps.{IsAbsent, IsPair}
use Rattle.run_shows.specs.Given.RuleWords.{Blocks}
use Rattle.run_shows.proofs.Given.RuleLaws.{current_is_known}
use Rattle.run_shows.specs.Given.PointsFactsCalls.{Change, Unchanged, Stored, Replaced, Removed, Changes}
use Rattle.run_shows.specs.Given.CallersPairs.{Given, Begun, IsTold, kind_of, StoresGiven}
use Rattle.run_shows.specs.Given.CallersTogether.{CallOnKey, OnKey, Together, StepOutcome, Fresh, Late, change_observed}
use Rattle.run_shows.specs.Given.FinishesEndings.{StepsWithEndings}
use Rattle.run_shows.specs.Given.FinishesMaps.{Standing}
use Rattle.run_shows.specs.Given.EffectsEffects.{effects_of}
use Rattle.run_shows.specs.Given.EffectsKnown.{Known}
use Rattle.run_shows.specs.Given.EffectsDeclared.acting.Acting.TheVariants as acts
use Rattle.run_shows.specs.Follows.Shows.{Refines}
use Rattle.run_shows.specs.Follows.Steps.{named_now, HasToStore, HasPair, TakesNone}
use Rattle.run_shows.proofs.Follows.Calling.{is_same_refl}
use Rattle.run_shows.proofs.Follows.Calls.{changed_same, found}
use Rattle.run_shows.proofs.Follows.Operations.{operated_leaves, LeavesBy}
use Rattle.run_shows.proofs.Follows.Rows.{HandsOn, IsStill, Puts as PutsBehind, Retires, one_step_leaves}
use Rattle.run_shows.proofs.Follows.RowSteps.{row_done}
use Rattle.run_shows.proofs.Follows.Steps.{WentTo, went_to, made_so, DidSo, OfNoRow}
use Rattle.run_places.specs.Hands.Asked.{IsAskedOn, IsAskedAs, RefinesAsked}
use Rattle.run_places.proofs.Hands.Calling.{caller_is}
use Rattle.run_places.proofs.Hands.Done.{done}
use Rattle.run_places.proofs.Hands.Puts.{MayDo}
use Rattle.run_places.proofs.Hands.RowSteps.{rows_hand_theirs}
use Rattle.run_places.proofs.Hands.Steps.{numbers_apart, calls_store_theirs}
use Rattle.run_places.proofs.Spots.Shifts.{Shifts, calm_shifts}
use Rattle.run_places.proofs.Spots.Steps.{moved_shifts}
use Rattle.run_places.specs.Moments.Whole.{RefinesWhole}
use Rattle.run_places.proofs.Moments.Calls.{of_row}
use Rattle.run_places.specs.Changes.Changes.{AreTaken}
use Rattle.run_places.specs.Changes.Had.{HadThen}
use Rattle.run_places.proofs.Changes.Had.{had_none, had_pair}
use Rattle.run_places.proofs.Changes.Keys.{its_call}
use Rattle.run_places.proofs.Changes.Meanings.{puts_some, ToRemove, takes_it}
use Rattle.run_places.proofs.Changes.Now.{now_had}
use Rattle.run_places.proofs.Changes.Which.{DidOnce, DidNone, DidStore, DidReplace, DidRemove, did_once, none_shifted}
use Rattle.run_shows.specs.Scenes.Held.{Held, IsAt}
use Rattle.run_shows.specs.Scenes.Scene.{Scene, slot_of}
use Rattle.run_shows.specs.Scenes.Stepping.{StepLeads}

-- what rows hand over shifts no pair
pub hands_shift : (effects : List Effect) → HandsOn effects → flat_map shift_of effects ≡ []
hands_shift _ (IsStill effects all) = calm_shifts effects all
hands_shift _ (PutsBehind n t) = refl
hands_shift _ (Retires x) = refl

-- a call after an effect of its own
pub acted_on : {K V : Type 0} (name : List ℕ) (map : ℕ) (f : Effect) (m : Moment K V) (c : CallThere K V) → call_of name m ≡ Some c → call_of name (with_effect (Some name) (Some map) f m) ≡ Some (call_by m f c)
acted_on name map f m c c_is =
    found (call_by m f) (changed_same m f) name name m.calls c c_is
    ∙ ap (λ (q : Bool). Some (if q then call_by m f c else c)) (ap (λ (l : List ℕ). is_same l name) (caller_is name m c c_is) ∙ is_same_refl name)

module _ {K V : Type 0} (same : K → K → Bool) (hash : ℕ → K → ℕ) (name : ℕ → List ℕ) (m : Moment K V) (known : Known) (s : Scene K V) (old new : Held K V) (at : IsAt same hash old s)
    (whole : RefinesWhole same name m known s) (shown : Refines same name m known s) (asked : RefinesAsked name shown.number m known s) (map i : ℕ) (x : CallOnKey K V K) (here : s.calls map i ≡ Some (OnKey x)) (said : Progress (Node K V)) (leads : StepLeads same hash i said s old new)
    (c : CallThere K V) (c_is : call_of (name i) m ≡ Some c) (one : OneKey K V) (one_is : c.call ≡ On one) (taken : AreTaken one c.replies) (due : x.change ≡ Unchanged → c.due ≡ None) where
  abbrev to : WentTo same hash name m known s old new at shown map i (OnKey x) here said leads
  to = went_to same hash name m known s old new at shown map i (OnKey x) here said leads

  abbrev st : Standing K
  st = to.0

  abbrev ch : Chart K
  ch = st.chart

  abbrev number : ℕ → ℕ
  number = shown.number map

  abbrev k : K
  k = key_of one

  abbrev effects : List Effect
  effects = effects_of (acts.Call i map) known new.changed

  abbrev Goal : Type 0
  Goal = ChangesOnce same one c m (flat_map shift_of effects)

  each : Together V same st.hash same st.setting slot_of s.world ch st.blocks st.sights (s.calls map)
  each = at.together.makings.standing.each map st to.2

  pub there : (n : ℕ) → ch.current n ≡ true → n < ch.stored
  there n is = (current_is_known same st.hash st.setting s.world.memory ch st.blocks each.ground.map.map.rule each.ground.map.map.shows n is).0

  its : (c.map ≡ map) × (x.keys ≡ same k)
  its = its_call same name m known s shown map i x here c c_is one one_is

  pub asked_on : IsAskedOn number ch.stored known x one c
  asked_on = subst (λ (z : Call K V). IsAskedAs number ch.stored known x z c) one_is (asked.each map i (OnKey x) here st to.2 c c_is)

  -- what the class has now
  now : HadThen same st number ch.now k (finite_map same map m k)
  now = now_had same map number st m known s.world (s.calls map) (at.together.makings.standing.fit map st to.2).0 each (shown.maps map st to.2).pairs shown.blocks k

  class_has : (o : Option ℕ) → finite_map same map m k ≡ o → there_for same one c m ≡ o
  class_has o e = ap (λ (z : ℕ). finite_map same z m k) its.0 ∙ e

  none_there : IsAbsent same st.hash (is_incremental st.setting.mode) ch x.keys → there_for same one c m ≡ None
  none_there absent = class_has None (had_none same st number ch.now k (finite_map same map m k) now (λ n had.
      let no : same k had.2 ≡ false = ap (λ (f : K → Bool). f had.2) (sym its.1) ∙ absent n had.2 (sym (each.ground.moments.now_is n) ∙ had.1) had.3 in let yes = had.4 in cc (no, yes)))

  pair_there : (o : ℕ) → IsPair same st.hash (is_incremental st.setting.mode) ch x.keys o → there_for same one c m ≡ Some (number o)
  pair_there o pair = class_has (Some (number o)) (had_pair same st number ch.now k (finite_map same map m k) now o
      (there o pair.0, each.ground.moments.now_is o ∙ pair.0, pair.1, pair.2, ap (λ (f : K → Bool). f pair.1) (sym its.1) ∙ pair.3))

  abbrev new_number : ℕ
  new_number = length m.stored + 1

  pub next_is : known.stored + 1 ≡ new_number
  next_is = ap (λ (z : ℕ). z + 1) shown.blocks.stored

  -- so it comes to this
  comes_to : (o : Option ℕ) → there_for same one c m ≡ o → (a : Response V) (d : Deed V) → means one (reply_to o c.replies) o new_number ≡ Answers a d → flat_map shift_of effects ≡ shifts o new_number d
      → x.change ≡ Unchanged → Goal
  comes_to o is a d meaning did unchanged = inr (
    due unchanged,
    a,
    d,
    ap (λ (z : Option ℕ). means one (reply_to z c.replies) z new_number) is ∙ meaning,
    did ∙ ap (λ (z : Option ℕ). shifts z new_number d) (sym is),
  )

  -- what a call has to store it means to put there
  pub has_to : (b q : ℕ) (old : Option ℕ) (d : CallThere K V) → d.call ≡ c.call → d.replies ≡ c.replies → d.replacing ≡ old → HasToStore s.world.memory b (Some d) q
      → (a : Response V) × (v : V) × (means one (reply_to old c.replies) old q ≡ Answers a (Puts v))
  has_to b q old d call_is replies_are replacing_is has =
      puts_some (λ v. (k, v)) (has.0, has.1) [] (means one (reply_to old c.replies) old q)
      (sym (new_pairs replacing_is replies_are) ∙ sym (ap (λ (z : Call K V). new_pair z d q) (call_is ∙ one_is)) ∙ has.2)
    where
      pairs_of : Option ℕ → List (Option ℕ × Reply V) → List (K × V)
      pairs_of o replies = list_map (λ v. (k, v)) (value_put (means one (reply_to o replies) o q))

      new_pairs : d.replacing ≡ old → d.replies ≡ c.replies → pairs_of d.replacing d.replies ≡ pairs_of old c.replies
      new_pairs e f = ap (λ (z : Option ℕ). pairs_of z d.replies) e ∙ ap (λ (z : List (Option ℕ × Reply V)). pairs_of old z) f

  abbrev pub Stores : List Effect → Type 0
  Stores l = AtEachEffect (λ v f. HasPair s.world.memory (named_now new.changed) (acting (Some (name i)) v) f) (Some (name i)) (Some map) l m

  -- the call that replaces this pair
  pub replacing : (p : ℕ) → call_of (name i) (with_effect (Some (name i)) (Some map) (effect.Replaced p) m) ≡ Some (call_by m (effect.Replaced p) c)
  replacing p = acted_on (name i) map (effect.Replaced p) m c c_is

  stores_new : (sp : Spot) → effects ≡ effect.Stored (known.stored + 1) sp ∷ [] → Stores effects → IsAbsent same st.hash (is_incremental st.setting.mode) ch x.keys → x.change ≡ Unchanged → Goal
  stores_new sp is stores absent unchanged =
      let has = (subst (λ (l : List Effect). Stores l) is stores).0 in
      let it = has_to (named_now new.changed) (known.stored + 1) None c refl refl asked_on.replacing (subst (λ (o : Option (CallThere K V)). HasToStore s.world.memory (named_now new.changed) o (known.stored + 1)) c_is has) in
      comes_to None (none_there absent) it.0 (Puts it.1) (ap (λ (z : ℕ). means one (reply_to None c.replies) None z) (sym next_is) ∙ it.2)
      (ap (λ (l : List Effect). flat_map shift_of l) is ∙ ap (λ (z : ℕ). ComesIn z ∷ []) next_is) unchanged

  stores_over : (n : ℕ) (sp : Spot) → effects ≡ effect.Replaced (number n) ∷ effect.Stored (known.stored + 1) sp ∷ [] → Stores effects → IsPair same st.hash (is_incremental st.setting.mode) ch x.keys n
      → x.change ≡ Unchanged → Goal
  stores_over n sp is stores pair unchanged =
      let has = (subst (λ (l : List Effect). Stores l) is stores).1.0 in
      let it = has_to (named_now new.changed) (known.stored + 1) (Some (number n)) (call_by m (effect.Replaced (number n)) c) refl refl refl
      (subst (λ (o : Option (CallThere K V)). HasToStore s.world.memory (named_now new.changed) o (known.stored + 1)) (replacing (number n)) has) in
      comes_to (Some (number n)) (pair_there n pair) it.0 (Puts it.1) (ap (λ (z : ℕ). means one (reply_to (Some (number n)) c.replies) (Some (number n)) z) (sym next_is) ∙ it.2)
      (ap (λ (l : List Effect). flat_map shift_of l) is ∙ ap (λ (z : ℕ). GivesWay (number n) ∷ ComesIn z ∷ []) next_is) unchanged

  -- what it has removed it means to take
  pub takes_now : (n : ℕ) → ch.current n ≡ true → MayDo (kind_of x.pair) (Removed n) → ToRemove n x.pair → (a : Response V) × (means one (reply_to (Some (number n)) c.replies) (Some (number n)) new_number ≡ Answers a Takes)
  takes_now n is may told =
      takes_it number ch.stored (numbers_apart map number st m known (shown.maps map st to.2).pairs) asked_on.asked c.replies asked_on.replies n (there n is) new_number one taken
      (subst (λ (g : Given K V). MayDo (kind_of g) (Removed n)) asked_on.given may) (subst (λ (g : Given K V). ToRemove n g) asked_on.given told)

  removes_it : (n : ℕ) → effects ≡ effect.Removed (number n) ∷ [] → IsPair same st.hash (is_incremental st.setting.mode) ch x.keys n → MayDo (kind_of x.pair) (Removed n) → ToRemove n x.pair
      → x.change ≡ Unchanged → Goal
  removes_it n is pair may told unchanged =
      let it = takes_now n pair.0 may told in comes_to (Some (number n)) (pair_there n pair) it.0 Takes it.1 (ap (λ (l : List Effect). flat_map shift_of l) is) unchanged

  -- what a call has done that has changed something: what one of its kind may, and a pair that it has removed it was told to remove
  abbrev pub ToRemoveBy : Change → Type 0
  ToRemoveBy (Removed n) = ToRemove n x.pair
  ToRemoveBy _ = Unit {0}

  abbrev pub Did : Change → Type 0
  Did change = (change ≡ Unchanged) ⊎ (MayDo (kind_of x.pair) change × ToRemoveBy change)

  -- by the change that it has made
  by_once : (c2 : Chart K) (change : Change) → x.change ≡ Unchanged → DidOnce same st.hash (is_incremental st.setting.mode) x.keys ch c2 number known.stored effects change → Stores effects → Did change → Goal
  by_once c2 change unchanged (DidNone e none) stores did = inl none
  by_once c2 change unchanged (DidStore sp is e absent comes) stores did = stores_new sp is stores absent unchanged
  by_once c2 change unchanged (DidReplace n sp is e pair comes) stores did = stores_over n sp is stores pair unchanged
  by_once c2 change unchanged (DidRemove n is e pair) stores did = elim (subst Did e did) as (λ _. Goal) [
    | inl none ↦ absurd (cc none)
    | inr may ↦ removes_it n is pair may.0 may.1 unchanged
  ]

  -- no effect says that a pair has come or gone where none has
  pub none_by : (c2 : Chart K) → Shifts ch c2 number known.stored effects → c2.current ≡ ch.current → flat_map shift_of effects ≡ []
  none_by c2 shifts kept =
      none_shifted same st.hash (is_incremental st.setting.mode) x.keys ch c2 number known.stored effects Unchanged refl
      (did_once same st.hash (is_incremental st.setting.mode) x.keys ch c2 number known.stored effects there shifts Unchanged kept)

  -- whatever the step did
  by_shifts : (c2 : Chart K) → Shifts ch c2 number known.stored effects → Stores effects → (change : Change)
      → ((change ≡ x.change) × (c2.current ≡ ch.current)) ⊎ ((x.change ≡ Unchanged) × Changes same st.hash (is_incremental st.setting.mode) x.keys ch c2 change) → Did change → Goal
  by_shifts c2 shifts stores change (inl kept) did = inl (none_by c2 shifts kept.1)
  by_shifts c2 shifts stores change (inr (unchanged, told)) did =
      by_once c2 change unchanged (did_once same st.hash (is_incremental st.setting.mode) x.keys ch c2 number known.stored effects there shifts change told) stores did

  abbrev pub DidSoHere : Type 0
  DidSoHere = DidSo same hash name m known s old new at shown map i (OnKey x) here said leads (OnKey x)

  abbrev pub NoRow : DidSoHere → Type 0
  NoRow did = OfNoRow same hash name m known s old new at shown map i (OnKey x) here said leads (OnKey x) did

  -- what a step told: the call has changed no more than before, and no pair has come or gone; or it had changed nothing, and has changed this
  abbrev pub ToldOnce : Chart K → Change → Type 0
  ToldOnce c2 change =
      ((change ≡ x.change) × (c2.current ≡ ch.current)) ⊎ ((x.change ≡ Unchanged) × Changes same st.hash (is_incremental st.setting.mode) x.keys ch c2 change)

  pub told_once : {p2 : KeyCall K V K} {end : Called (Node K V)} {w2 : World (Node K V)} {c2 : Chart K} {blocks2 : Blocks} → (it : StepOutcome V same st.hash same st.setting slot_of ch i x p2 end w2 c2 blocks2)
      → ToldOnce c2 (change_observed V same st.hash same st.setting slot_of it)
  told_once (Fresh told) = told.changes
  told_once (Late blocking none told) = inl (sym none, told.same_pairs)

  to_remove : (memory : Mem (Node K V)) (c2 : Chart K) (blocks : Blocks) (given : Given K V) (n : ℕ) → StoresGiven st.hash memory c2 blocks given (Removed n) → ToRemove n given
  to_remove memory c2 blocks (Begun kind pair) n has = tt
  to_remove memory c2 blocks (IsTold kind key told) n has = has

  to_remove_by : (memory : Mem (Node K V)) (c2 : Chart K) (blocks : Blocks) (change : Change) → StoresGiven st.hash memory c2 blocks x.pair change → ToRemoveBy change
  to_remove_by memory c2 blocks Unchanged has = tt
  to_remove_by memory c2 blocks (Stored n) has = tt
  to_remove_by memory c2 blocks (Replaced o n) has = tt
  to_remove_by memory c2 blocks (Removed n) has = to_remove memory c2 blocks x.pair n has

  -- of a step that is none of a row: which pairs have come or gone, and what the call has done
  module _ (p2 : KeyCall K V K) (end : Called (Node K V)) (step : StepsWithEndings V same same old.batch_size old.roots slot_of s.world s.maps s.calls s.makers s.enders map st i x new.memory p2 end) where
    pub its_shifts : Shifts ch step.step.went.c2 number known.stored effects
    its_shifts =
        moved_shifts same hash m known s old new at name shown map i st to.2 (name i) (made_so same hash name m known s old new at shown map i (OnKey x) here said leads)
        step.step.inside _ step.step.went step.step.blocks2 step.step.grown step.step.sights2

    pub its_done : Did (change_observed V same st.hash same st.setting slot_of step.step.went.told)
    its_done = elim (done same st.hash same st.setting slot_of s.world ch st.blocks st.sights (s.calls map) i x new.memory p2 end step.step) as
        (λ _. Did (change_observed V same st.hash same st.setting slot_of step.step.went.told)) [
          | inl none ↦ inl none
          | inr has ↦ inr (has.2, to_remove_by step.step.went.w2.memory step.step.went.c2 has.0 (change_observed V same st.hash same st.setting slot_of step.step.went.told) has.3)
        ]

  by_own : Stores effects → (did : DidSoHere) → NoRow did → Goal
  by_own stores (p2, end, machine_is, told_is, inl (step, moved)) own =
      by_shifts step.step.went.c2 (its_shifts p2 end step) stores (change_observed V same st.hash same st.setting slot_of step.step.went.told) (told_once step.step.went.told) (its_done p2 end step)
  by_own stores (p2, end, machine_is, told_is, inr row) own = absurd own

  -- one of a row says of no pair that it has come or gone
  pub by_row : TakesNone new.changed → (did : DidSoHere) → (NoRow did → ⊥) → flat_map shift_of effects ≡ []
  by_row none (p2, end, machine_is, told_is, inl step) other = absurd (other tt)
  by_row none (p2, end, machine_is, told_is, inr (row, stayed)) other =
      hands_shift effects (row_done i map m known s.world row.step.w2 shown.blocks (one_step_leaves st.setting i s.world row.step.w2 each.ground.came row.step.happened) new.changed
      (subst (λ (n : Mem (Node K V)). LeavesBy s.world.memory n new.changed) (sym row.step.memory)
      (operated_leaves s.world.memory new.memory new.changed (made_so same hash name m known s old new at shown map i (OnKey x) here said leads))) none).hands

  pub changes_once : Goal
  changes_once = elim (of_row same hash name m known s old new at whole map i (OnKey x) here said leads (OnKey x) to.4.did) as (λ _. Goal) [
    | inl own ↦ by_own (calls_store_theirs K V same hash name m known s old new at whole.all map i (OnKey x) here said leads own).0 to.4.did own
    | inr other ↦ inl (by_row (rows_hand_theirs K V same hash name m known s old new at whole.all map i (OnKey x) here said leads other).1 to.4.did other)
  ]
