-- What follows of a step of a call, whichever it is, for a pair that the call has in hand then.
use Rattle.std.specs.Prelude.{◌≡◌, ℕ, ◌≤◌, nat_lt, Bool, true, false, MatchBool, List, [], ◌∷◌, Option, Some, None}
use Rattle.std.proofs.Common.{ap, sym, subst, ◌∙◌, arith}
use Rattle.run_finds.specs.Given.SeizeWordsMem.{Mem, word_at, value_at}
use Rattle.run_finds.specs.Given.SeizeWordsWord.{block_in}
use Rattle.run_finds.specs.Given.SeizeWordsDeclared.at.At.TheVariants.{Root, Word}
use Rattle.run_finds.specs.Given.SeizeWorld.{IsInside}
use Rattle.run_finds.specs.Given.TablesNodes.{table_seen}
use Rattle.run_finds.specs.Given.TablesDeclared.node.Node.{Node}
use Rattle.run_finds.specs.Given.TablesDeclared.setting.Setting.{Setting}
use Rattle.run_finds.specs.Given.TablesDeclared.table.Table.{Table}
use Rattle.papaya_raw.specs.Given.ResizeDispose.{disposing}
use Rattle.run_finds.specs.Given.ResizeDeclared.dispose.Dispose.{Dispose}
use Rattle.papaya_raw.specs.declared.machines.progress.Progress.{Progress}
use Rattle.run_schedules.specs.declared.effect.Effect.{Effect}
use Rattle.run_schedules.specs.declared.effect.Thing.{Thing}
use Rattle.run_schedules.specs.declared.effect.Thing.TheVariants.{APair}
use Rattle.run_schedules.specs.Schedules.Effects.{with_effects, AtEachEffect}
use Rattle.run_schedules.specs.Schedules.Lives.{IsPast}
use Rattle.run_schedules.specs.Schedules.Moment.{UnderWay as CallThere, Moment}
use Rattle.run_schedules.specs.Schedules.Views.{call_of, first_of}
use Rattle.run_finds.specs.Given.EffectsDeclared.changed.Changed.{Changed}
use Rattle.run_finds.specs.Given.EffectsDeclared.changed.Changed.TheVariants as changed
use Rattle.run_finds.specs.Given.RuleMaps.{IsTable}
use Rattle.run_finds.specs.Given.RuleWords.{Blocks}
use Rattle.run_finds.specs.Given.PointsFactsDisposes.{DisposeFacts}
use Rattle.run_finds.specs.Given.CallersSights.{seen_by}
use Rattle.run_finds.specs.Given.CallersTogether.{UnderWay, in_slot}
use Rattle.run_finds.specs.Given.EffectsEffects.{effects_of}
use Rattle.run_finds.specs.Given.EffectsKnown.{Known}
use Rattle.run_finds.specs.Given.EffectsDeclared.acting.Acting.TheVariants as acts
use Rattle.run_finds.specs.Given.FinishesMachines.{machine_of}
use Rattle.run_finds.specs.Given.FinishesMaps.{Standing}
use Rattle.run_finds.specs.Given.FollowsCalls.{IsCalled}
use Rattle.run_finds.specs.Given.FollowsFinds.{FindsMap}
use Rattle.run_finds.specs.Given.FollowsShows.{Refines}
use Rattle.run_finds.proofs.Given.FollowsFinds.{first_is}
use Rattle.run_finds.proofs.Given.FollowsOperations.{Operated}
use Rattle.run_finds.proofs.Given.FollowsSteps.{WentTo, went_to, made_so, OfNoRow}
use Rattle.run_finds.specs.Given.MomentsWhole.{RefinesWhole}
use Rattle.run_finds.specs.Given.SettlesDue.{OwnAreMade}
use Rattle.run_finds.specs.Given.SettlesEntries.{EntriesAreBlank}
use Rattle.run_finds.specs.Given.SettlesHand.{in_hand, RefinesObligations}
use Rattle.run_finds.specs.Given.SettlesInHand.{TakesPair}
use Rattle.run_finds.specs.Given.SettlesOwed.{PendingGoes}
use Rattle.run_finds.specs.Given.SettlesOwing.{ObligationsGo}
use Rattle.run_finds.proofs.Given.SettlesDueCalls.{rows_tell_due}
use Rattle.run_finds.proofs.Given.SettlesHand.All.{calls_go_in_hand}
use Rattle.run_kept.proofs.Given.SettlesOwing.{owes_follow}
use Rattle.run_finds.specs.Past.{FindsOnward}
use Rattle.run_finds.specs.Parts.{FindPlacesOf}
use Rattle.run_finds.specs.Waits.{waits_of, waits_in, pair_in, IsHeldPast, RefinesWaits, LeavesHeld}
use Rattle.run_finds.proofs.Past.{calls_find_onward}
use Rattle.run_finds.proofs.Steps.{steps_find_places}
use Rattle.run_finds.proofs.Given.OwesKnown.{root_turn}
use Rattle.run_grows.proofs.Waits.Held.{calls_leave_held, taken_held}
use Rattle.run_finds.proofs.Waits.New.{new_lies}
use Rattle.run_finds.proofs.Waits.Owes.{OwedBefore, owed_before, row_takes}
use Rattle.run_finds.proofs.Waits.Taken.{TookPair, is_map}
use Rattle.run_finds.specs.Given.ScenesHeld.{Held, IsAt}
use Rattle.run_finds.specs.Given.ScenesScene.{Scene, slot_of}
use Rattle.run_finds.specs.Given.ScenesStepping.{StepLeads}

-- one that lies no further on than the root is past it
past_of : (born lies first : ℕ) → lies ≤ first → IsPast born lies first
past_of born lies first l = by (nat_lt born lies)
  where
    by : (b : Bool) → MatchBool b (lies ≤ first) (Unit {0})
    by true = l
    by false = tt

module _ {K V : Type 0} (same : K → K → Bool) (hash : ℕ → K → ℕ) (name : ℕ → List ℕ) (m : Moment K V) (known : Known) (s : Scene K V) (old new : Held K V) (at_old : IsAt same hash old s)
    (whole : RefinesWhole same name m known s) (entries : EntriesAreBlank s) (owning : OwnAreMade known s.world) (owes : RefinesObligations name m known s) (waits : RefinesWaits name m s)
    (map i : ℕ) (u : UnderWay K V K) (here : s.calls map i ≡ Some u) (said : Progress (Node K V)) (leads : StepLeads same hash i said s old new) where
  abbrev shown : Refines same name m known s
  shown = whole.all.shown

  abbrev to : WentTo same hash name m known s old new at_old shown map i u here said leads
  to = went_to same hash name m known s old new at_old shown map i u here said leads

  abbrev st : Standing K
  st = to.0

  abbrev told : Changed
  told = new.changed

  abbrev effects : List Effect
  effects = effects_of (acts.Call i map) known told

  abbrev v : Moment K V
  v = with_effects (Some (name i)) (Some map) effects m

  abbrev seen : Blocks
  seen = seen_by st.blocks (st.sights (slot_of i))

  goes : PendingGoes K V same hash m known s old new map i u said here leads
  goes = calls_go_in_hand K V same hash name m known s old new at_old shown whole.all.rows entries owning map i u here said leads (owes.noted map i u here)

  its : (c : CallThere K V) × (call_of (name i) m ≡ Some c) × (c.map ≡ map) × IsCalled same u c.call
  its = shown.calls map i u here

  its_owes : its.0.owes ≡ in_hand known (machine_of u)
  its_owes = owes.owed map i u here its.0 its.1

  -- it owes what it has in hand then
  pub follows : (d : CallThere K V) × (call_of (name i) v ≡ Some d) × (d.owes ≡ in_hand known to.1)
  follows =
      let it = owes_follow K V (name i) map effects m its.0 its.1 (in_hand known to.1) (subst (λ (l : List Thing). ObligationsGo m effects l (in_hand known to.1)) (sym its_owes) goes.0) in (it.1, it.2, it.3)

  finds : AtEachEffect (FindsMap map) (Some (name i)) (Some map) effects m
  finds = (steps_find_places K V same hash name m known s old new at_old whole map i u here said leads).0

  places : FindPlacesOf (name i) map effects m
  places = (steps_find_places K V same hash name m known s old new at_old whole map i u here said leads).1

  onward : AtEachEffect (FindsOnward (Some map)) (Some (name i)) (Some map) effects m
  onward = calls_find_onward K V (name i) map effects m its.0 its.1 finds places

  pub leaves : LeavesHeld m v
  leaves = calls_leave_held (name i) map effects m finds onward

  pub before : (k : ℕ) → in_hand known to.1 ≡ APair k ∷ [] → OwedBefore effects k (in_hand known (machine_of u))
  before k is = owed_before m effects k (in_hand known (machine_of u)) (in_hand known to.1) goes.0 is

  -- what it had in hand lay so
  pub lay : (k : ℕ) → in_hand known (machine_of u) ≡ APair k ∷ [] → (word : ℕ) → pair_in (machine_of u) ≡ Some word → IsHeldPast map m k (waits_in (machine_of u))
  lay k it word some = waits map i u here word some its.0 its.1 k (its_owes ∙ it)

  pub lies_then : (k : ℕ) (o : Option ℕ) → IsHeldPast map m k o → (o2 : Option ℕ) → o2 ≡ o → IsHeldPast map v k o2
  lies_then k o held o2 e = subst (IsHeldPast map v k) (sym e) (leaves map k o held)

  first_now : first_of map m ≡ st.chart.first
  first_now = first_is map (shown.number map) st m known (shown.maps map st to.2)

  abbrev made_it : Operated s.world.memory new.memory new.changed
  made_it = made_so same hash name m known s old new at_old shown map i u here said leads

  -- a root that is none before its table is past where it lies
  pub past_then : IsInside (s.world.uses (slot_of i)) → (k : ℕ) (d : Dispose) → DisposeFacts s.world i (in_slot st.setting (slot_of i)) st.chart seen d → (root : ℕ) (value : Node K V) → word_at old.memory (Root d.setting.root) ≡ Some root
      → value_at old.memory (block_in root) ≡ Some value → d.table.turn ≤ (table_seen root value).turn → IsHeldPast map m k (Some d.table.turn) → IsHeldPast map m k None
  past_then inside_it k d facts root value read sees before_root held =
      let turn = root_turn same st.hash (in_slot st.setting (slot_of i)) s.world i st.chart seen (is_map same hash m known s old new at_old name shown whole.places map i st to.2 made_it inside_it k) d facts root value
      (ap (λ (x : Mem (Node K V)). word_at x (Root d.setting.root)) at_old.memory ∙ read) (ap (λ (x : Mem (Node K V)). value_at x (block_in root)) at_old.memory ∙ sees) in
      let first = first_now in
      let lies = held.1.0 in
      (held.0, past_of (m.born k).turn (m.spot k).turn (first_of map m) (omega (arith, turn, first, lies, before_root)))

  -- a pair that it has just taken lies so
  pub took_then : (inside_it : IsInside (s.world.uses (slot_of i))) (k : ℕ) → TakesPair effects k → TookPair same hash m known s old new at_old name shown whole.places map i st to.2 made_it inside_it k
      → (table : Table) (t : ℕ) → IsTable st.chart seen table t → (own : Setting) → own ≡ in_slot st.setting (slot_of i) → (field word new_word : ℕ)
      → told ≡ changed.Wrote (Word (block_in table.link) field) word new_word → IsHeldPast map v k (waits_of (disposing own word table))
  took_then inside_it k takes took table t is_table own own_is field word new_word wrote =
      taken_held (name i) map m map k (waits_of (disposing own word table)) took.stored
      (new_lies same hash m known s old new at_old name shown whole.places map i st to.2 made_it inside_it k took table t is_table own (ap (λ (x : Setting). x.mode) own_is) field word new_word wrote)
      effects finds onward takes

  -- unless its step is one of a row
  pub row_takes_none : (OfNoRow same hash name m known s old new at_old shown map i u here said leads u to.4.did → ⊥) → (k : ℕ) → TakesPair effects k → ⊥
  row_takes_none other k takes = row_takes i map known effects _ _ k (rows_tell_due K V same hash name m known s old new at_old shown whole.all.rows entries owning map i u here said leads other) takes
