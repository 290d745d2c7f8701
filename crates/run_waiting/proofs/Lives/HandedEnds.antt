-- What is handed over after a step of the end of a map: what was so before. What waits behind a table that it takes, the collector has no more.
use Rattle.std.specs.Prelude.{◌≡◌, ◌⊎◌, ℕ, ◌<◌, zero, suc, Bool, true, false, not, List, [], ◌∷◌, filter, Option, Some, None, IsSome, if◌then◌else◌}
use Rattle.std.proofs.Common.{refl, ap, sym, subst, ◌∙◌, inl, inr, arith}
use Rattle.run_debts.specs.Given.SeizeWordsMem.{value_at}
use Rattle.run_debts.specs.Given.SeizeDeclared.rows.settle.Settled.{Settled}
use Rattle.run_debts.specs.Given.SeizeDeclared.rows.settle.Settled.TheVariants as settled
use Rattle.run_debts.specs.Given.SeizeWorld.{World, Row, Handed, times}
use Rattle.run_debts.specs.Given.TablesNodes.{deferred_word}
use Rattle.run_debts.specs.Given.TablesDeclared.node.Node.{Node}
use Rattle.run_debts.specs.Given.RawDeclared.machines.end_map.EndMap.{EndMap}
use Rattle.run_debts.specs.Given.RunsDeclared.effect.Effect.{Effect}
use Rattle.run_debts.specs.Given.RunsDeclared.effect.Effect.TheVariants.{Retired, Reclaimed}
use Rattle.run_debts.specs.Given.RunsDeclared.effect.TableId.{TableId}
use Rattle.run_debts.specs.Given.RunsDeclared.effect.Thing.TheVariants.{APair, ATable}
use Rattle.run_debts.specs.Given.SchedulesEffects.{with_effects}
use Rattle.run_debts.specs.Given.SchedulesLists.{is_among}
use Rattle.run_debts.specs.Given.SchedulesMoment.{Place, Behind, Left, GivenBack, Deferral, Moment}
use Rattle.run_debts.specs.Given.SchedulesReclaims.{is_handed}
use Rattle.run_debts.specs.Given.SchedulesThings.{same_table}
use Rattle.run_debts.specs.Given.SchedulesViews.{behind, is_stage, is_retired}
use Rattle.run_debts.specs.Given.EffectsDeclared.changed.Changed.{Changed}
use Rattle.run_debts.specs.Given.EffectsDeclared.changed.Changed.TheVariants as changed
use Rattle.run_debts.specs.Given.CallersTogether.{UnderWay}
use Rattle.run_debts.specs.Given.EffectsEffects.{taken_by, effects_of, known_after}
use Rattle.run_debts.specs.Given.EffectsKnown.{Known}
use Rattle.run_debts.specs.Given.EffectsDeclared.acting.Acting.TheVariants.{Ending}
use Rattle.run_debts.specs.Given.EffectsDeclared.role.Role.{Role}
use Rattle.run_debts.specs.Given.EffectsDeclared.role.Role.TheVariants as role
use Rattle.run_debts.specs.Given.FinishesEndings.{Finishing, StepsOfEnding}
use Rattle.run_debts.specs.Given.FinishesFactsEnds.{events_of, taken_by as taken_of}
use Rattle.run_debts.specs.Given.FollowsBlocks.{HasRole}
use Rattle.run_debts.proofs.Given.FollowsAlike.{is_calm, AllCalm, calm_still, still_all, put_here, put_elsewhere}
use Rattle.run_debts.proofs.Given.FollowsOnward.{IsOfMap}
use Rattle.run_debts.specs.Given.OthersEndings.{ending_after}
use Rattle.run_debts.proofs.Given.SpotsUnreclaimed.{table_is}
use Rattle.run_debts.specs.Given.MomentsWhole.{RefinesWhole}
use Rattle.run_debts.proofs.Given.MomentsEnds.{says, end_keeps}
use Rattle.run_waiting.specs.Lives.Behind.{IsLeft, IsDeferredTo, RefinesWaiting}
use Rattle.run_waiting.specs.Lives.Handed.{IsToHand, IsHandedOver, HasGone, is_deferred, RefinesHanded, EndingsPreserveHanded}
use Rattle.run_waiting.specs.Lives.Retired.{RefinesRetiredTables}
use Rattle.run_waiting.specs.Lives.Waiting.{waits_behind}
use Rattle.run_waiting.proofs.Lives.Each.{WaitsAt, found}
use Rattle.run_waiting.proofs.Lives.HandedEffects.{IsHanding, NoneHands, deferred_split, handed_back, retired_back}
use Rattle.run_waiting.proofs.Lives.HandedOver.{came_listed, deed_alone, deed_frees, deed_leaves}
use Rattle.run_waiting.proofs.Lives.LeftOver.{handed_untaken}
use Rattle.run_waiting.proofs.Lives.Listed.{Listing}
use Rattle.run_debts.proofs.Given.CallersTogether.Slots.{between_rows}
use Rattle.run_debts.proofs.Given.ScenesBetween.{deed_between}
use Rattle.run_waiting.proofs.Lives.RetiredEnds.{handed_before}
use Rattle.run_waiting.proofs.Lives.WaitingEnds.{calm_deferred}
use Rattle.run_debts.specs.Given.ScenesEnding.{EndingHasOutcome, EndingStepsFrom}
use Rattle.run_debts.specs.Given.ScenesHeld.{Held, IsAt}
use Rattle.run_debts.specs.Given.ScenesScene.{Scene, slot_of}
use Rattle.run_debts.proofs.Given.General.{none_less as none_of}

-- effects that move no pair and no table hand nothing over
calm_hands : (f : Effect) → is_calm f ≡ true → IsHanding f → ⊥
calm_hands (Retired (APair n)) calm its = cc calm
calm_hands (Retired (ATable t)) calm its = cc calm
calm_hands (Reclaimed (ATable t)) calm its = cc calm
calm_hands (Reclaimed (APair n)) calm its = its
calm_hands _ calm its = its

calm_none : (effects : List Effect) → AllCalm effects → NoneHands effects
calm_none [] all = tt
calm_none (f ∷ effects) all = (calm_hands f all.0, calm_none effects all.1)

-- nor does what a map that ends takes
ending_none : (map : ℕ) (r : Role) → NoneHands (taken_by (Ending map) r)
ending_none map role.Free = tt
ending_none map (role.OwnPair j) = (λ z. z, tt)
ending_none map (role.OwnTable turn shape) = (λ z. z, tt)
ending_none map (role.Pair n) = (λ z. z, tt)
ending_none map (role.Table t len) = (λ z. z, tt)
ending_none map (role.Counter of) = tt

module _ {K V : Type 0} (same : K → K → Bool) (hash : ℕ → K → ℕ) (name : ℕ → List ℕ) (m : Moment K V) (known : Known) (s : Scene K V) (old new : Held K V) (at : IsAt same hash old s)
    (whole : RefinesWhole same name m known s) (waiting : RefinesWaiting m known s.world) (retired : RefinesRetiredTables m known s) (shows : RefinesHanded m known s) (i : ℕ) (f : Finishing K V)
    (here : s.enders i ≡ Some f) (end : EndMap) (said : Settled (Node K V)) (steps : EndingStepsFrom f.machine old new end said)
    (did : StepsOfEnding V same same old.batch_size old.roots slot_of s.world s.maps s.calls s.makers s.enders i f new.memory (end, said))
    (map : ℕ) (not_there : s.maps map ≡ None) (comes : EndingHasOutcome same hash s new i f end did.w2 did.deed said) where
  abbrev w : World (Node K V)
  w = s.world

  abbrev told : Changed
  told = new.changed

  abbrev effects : List Effect
  effects = effects_of (Ending map) known told

  abbrev known2 : Known
  known2 = known_after (Ending map) told known

  abbrev then_m : List Effect → Moment K V
  then_m fs = with_effects None (Some map) fs m

  abbrev v : Moment K V
  v = then_m effects

  listing : Listing deferred_word old.batch_size w
  listing = came_listed old.batch_size w at.together.makings.standing.came

  -- it hands nothing over
  none : NoneHands effects
  none = elim (says same hash name m known s old new at whole i f here end said steps did map not_there comes) as (λ _. NoneHands effects) [
    | inl it ↦ calm_none effects it.0
    | inr it ↦ subst (λ (x : Changed). NoneHands (effects_of (Ending map) known x)) (sym it.1) (ending_none map (known.roles it.0))
  ]

  -- what the collector has it does not take, nor does it leave that over
  untaken : (b : ℕ) → w.hand b ≡ Handed → times b (taken_of did.deed) ≡ 0
  untaken b handed = none_of (times b (taken_of did.deed)) (handed_untaken deferred_word old.batch_size i w did.w2 listing.kept did.deed did.runs b handed)

  over_then : (b : ℕ) → IsHandedOver w b → IsHandedOver did.w2 b
  over_then b over = (
    did.spares.hands b (untaken b over.0) (deed_leaves deferred_word old.batch_size i w did.w2 listing b over did.deed did.runs) ∙ over.0,
    deed_alone deferred_word old.batch_size i w did.w2 listing b over did.deed did.runs,
  )

  role_then : (b : ℕ) (r : Role) (value : Node K V) → known.roles b ≡ r → IsOfMap r → value_at w.memory b ≡ Some value → w.hand b ≡ Handed → known2.roles b ≡ r
  role_then b r value is of there handed =
      let stays = did.spares.values b (untaken b handed) in
      (end_keeps same hash name m known s old new at whole i f here end said steps did map not_there comes).1 b
      (subst (λ (o : Option (Node K V)). IsSome o) (sym (stays ∙ there)) refl) (subst IsOfMap (sym is) of) ∙ is

  pair_over : (n : ℕ) → is_handed (v.place n) ≡ true → (b : ℕ) × (known2.roles b ≡ role.Pair n) × IsHandedOver did.w2 b
  pair_over n so =
      let one = shows.handed n (handed_back None (Some map) n effects m none so) in
      let has = subst (HasRole w m.stored one.0) one.1 (whole.all.shown.blocks.roles one.0) in
      (one.0, role_then one.0 (role.Pair n) _ one.1 tt has.3 one.2.0, over_then one.0 one.2)

  table_over : (t : TableId) → is_stage is_retired t v ≡ true → (b : ℕ) × (len : ℕ) × (known2.roles b ≡ role.Table t len) × IsHandedOver did.w2 b
  table_over t so =
      let one = shows.tables t (retired_back None (Some map) t effects m none so) in
      let has = subst (HasRole w m.stored one.0) one.2 (whole.all.shown.blocks.roles one.0) in
      (one.0, one.1, role_then one.0 (role.Table t one.1) _ one.2 tt has.1 one.3.0, over_then one.0 one.3)

  was_pair : (b n : ℕ) → known2.roles b ≡ role.Pair n → known.roles b ≡ role.Pair n
  was_pair b n is = sym ((end_keeps same hash name m known s old new at whole i f here end said steps did map not_there comes).0 b (subst IsOfMap (sym is) tt)) ∙ is

  -- where such a pair is then
  module _ (b n : ℕ) (noted : known2.roles b ≡ role.Pair n) (handed : did.w2.hand b ≡ Handed) where
    pair : known.roles b ≡ role.Pair n
    pair = was_pair b n noted

    had : w.hand b ≡ Handed
    had = handed_before same hash name m known s old new at whole retired i f here end said steps did map not_there comes b handed

    abbrev Stays : List Effect → Type 0
    Stays fs = (is_handed (m.place n) ≡ true → is_handed ((then_m fs).place n) ≡ true) × (is_deferred n m.deferred ≡ true → is_deferred n (then_m fs).deferred ≡ true)

    -- it waits behind no table that is taken
    waits_not : (x len : ℕ) (t : TableId) → told ≡ changed.Took x → 0 < times x (taken_of did.deed) → known.roles x ≡ role.Table t len → is_among n (behind t m.deferred) ≡ true → ⊥
    waits_not x len t is some table among = by l.waits
      where
        a : WaitsAt (λ k y. (m.place k ≡ Behind) × IsDeferredTo known w k y) n t
        a = found (λ k y. (m.place k ≡ Behind) × IsDeferredTo known w k y) n t m.deferred waiting among

        l : IsDeferredTo known w n t
        l = subst (IsDeferredTo known w n) (table_is a.one.behind t a.its) (subst (λ (k : ℕ). IsDeferredTo known w k a.one.behind) a.number a.so.1)

        same_pair : l.pair ≡ b
        same_pair = whole.all.shown.blocks.once l.pair b n l.is_pair pair

        its_table : l.table ≡ x
        its_table = whole.blocks.tables_once l.table x l.len len t l.is_table table

        by : (waits_behind l.pair w.log ≡ Some l.table) ⊎ (IsLeft (w.hand l.pair) × IsLeft (w.hand l.table)) → ⊥
        by (inl waits) =
            deed_frees deferred_word old.batch_size i w did.w2 listing b x (ap (λ (k : ℕ). waits_behind k w.log) (sym same_pair) ∙ waits ∙ ap (λ (k : ℕ). Some k) its_table) did.deed did.runs some handed
        by (inr both) = subst IsLeft (ap w.hand same_pair ∙ had) both.0

    -- a pair that is handed over waits behind none
    not_both : (t : TableId) → is_handed (m.place n) ≡ true → is_among n (behind t m.deferred) ≡ true → ⊥
    not_both t so among =
        let a = found (λ k y. (m.place k ≡ Behind) × IsDeferredTo known w k y) n t m.deferred waiting among in
        let none_there : is_handed (m.place n) ≡ false = ap is_handed (ap m.place (sym a.number) ∙ a.so.0) in
        cc (so, none_there)

    took : (x : ℕ) → told ≡ changed.Took x → 0 < times x (taken_of did.deed) → (r : Role) → known.roles x ≡ r → Stays (taken_by (Ending map) r)
    took x is some role.Free e = (λ so. so, λ so. so)
    took x is some (role.OwnPair j) e = (λ so. so, λ so. so)
    took x is some (role.OwnTable turn shape) e = (λ so. so, λ so. so)
    took x is some (role.Counter of) e = (λ so. so, λ so. so)
    took x is some (role.Pair k) e = (λ so. ap is_handed (put_elsewhere k GivenBack m.place n apart) ∙ so, λ so. so)
      where
        apart : n ≡ k → ⊥
        apart z =
            let one : b ≡ x = whole.all.shown.blocks.once b x n pair (e ∙ ap role.Pair (sym z)) in
            let taken : 0 < times b (taken_of did.deed) = subst (λ (y : ℕ). 0 < times y (taken_of did.deed)) (sym one) some in
            let kept = untaken b had in
            omega (arith, taken, kept)
    took x is some (role.Table t len) e = (stays (is_among n (behind t m.deferred)) refl, waits)
      where
        stays : (q : Bool) → is_among n (behind t m.deferred) ≡ q → is_handed (m.place n) ≡ true → is_handed (if q then Left else m.place n) ≡ true
        stays true among so = absurd (not_both t so among)
        stays false among so = so

        waits : is_deferred n m.deferred ≡ true → is_deferred n (filter (λ (d : Deferral). not (same_table d.behind t)) m.deferred) ≡ true
        waits so = elim (deferred_split n t m.deferred so) as (λ _. is_deferred n (filter (λ (d : Deferral). not (same_table d.behind t)) m.deferred) ≡ true) [
          | inl among ↦ absurd (waits_not x len t is some e among)
          | inr other ↦ other
        ]

    -- what is told to be taken is taken
    is_taken : (x : ℕ) → told ≡ changed.Took x → (r : Role) → known.roles x ≡ r → IsOfMap r → 0 < times x (taken_of did.deed)
    is_taken x is r e of = by (times x (taken_of did.deed)) refl
      where
        some_of : (o : Option (Node K V)) (value : Node K V) → o ≡ Some value → IsSome o
        some_of o value its = subst (λ (q : Option (Node K V)). IsSome q) (sym its) refl

        there : (q : Role) → IsOfMap q → HasRole w m.stored x q → IsSome (value_at w.memory x)
        there role.Free its has = absurd its
        there (role.OwnPair j) its has = absurd its
        there (role.OwnTable turn shape) its has = absurd its
        there (role.Counter c) its has = absurd its
        there (role.Pair k) its has = some_of (value_at w.memory x) _ has.3
        there (role.Table t len) its has = some_of (value_at w.memory x) _ has.1

        -- if it were not, it would be a block of the map still
        kept : times x (taken_of did.deed) ≡ 0 → ⊥
        kept zero_times =
            let some = subst (λ (o : Option (Node K V)). IsSome o) (sym (did.spares.values x zero_times)) (there r of (subst (HasRole w m.stored x) e (whole.all.shown.blocks.roles x))) in
            let still = (end_keeps same hash name m known s old new at whole i f here end said steps did map not_there comes).1 x some (subst IsOfMap (sym e) of) in
            let gone : known2.roles x ≡ role.Free = ap (λ (y : Changed). (known_after (Ending map) y known).roles x) is ∙ put_here x role.Free known.roles x refl in
            subst IsOfMap (sym (sym gone ∙ still ∙ e)) of

        by : (n2 : ℕ) → times x (taken_of did.deed) ≡ n2 → 0 < times x (taken_of did.deed)
        by zero z = absurd (kept z)
        by (suc k) z = omega (arith, z)

    stays_then : Stays effects
    stays_then = elim (says same hash name m known s old new at whole i f here end said steps did map not_there comes) as (λ _. Stays effects) [
      | inl it ↦
          let alike = still_all None map effects m (calm_still effects it.0) in
          (λ so. ap (λ (g : ℕ → Place). is_handed (g n)) alike.place ∙ so, λ so. ap (is_deferred n) (calm_deferred (Some map) effects m it.0) ∙ so)
      | inr it ↦ subst (λ (x : Changed). Stays (effects_of (Ending map) known x)) (sym it.1) (by_role it.0 it.1 (known.roles it.0) refl)
    ]
      where
        by_role : (x : ℕ) → told ≡ changed.Took x → (r : Role) → known.roles x ≡ r → Stays (taken_by (Ending map) r)
        by_role x is role.Free e = (λ so. so, λ so. so)
        by_role x is (role.OwnPair j) e = (λ so. so, λ so. so)
        by_role x is (role.OwnTable turn shape) e = (λ so. so, λ so. so)
        by_role x is (role.Counter of) e = (λ so. so, λ so. so)
        by_role x is (role.Pair k) e = took x is (is_taken x is (role.Pair k) e tt) (role.Pair k) e
        by_role x is (role.Table t len) e = took x is (is_taken x is (role.Table t len) e tt) (role.Table t len) e

  shown_then : (s2 : Scene K V) → s2.world ≡ did.w2 → s2.calls ≡ s.calls → RefinesHanded v known2 s2
  shown_then s2 world calls = record {
    pairs = λ b n noted handed.
        let in_w2 = sym (ap (λ (z : World (Node K V)). z.hand b) world) ∙ handed in
        by b n noted in_w2 (shows.pairs b n (was_pair b n noted) (had b n noted in_w2));
    handed = λ n so. let one = pair_over n so in (one.0, one.1, subst (λ (z : World (Node K V)). IsHandedOver z one.0) (sym world) one.2);
    tables = λ t so. let one = table_over t so in (one.0, one.1, one.2, subst (λ (z : World (Node K V)). IsHandedOver z one.0) (sym world) one.3);
  }
    where
      by : (b n : ℕ) → known2.roles b ≡ role.Pair n → did.w2.hand b ≡ Handed → HasGone m s b n → HasGone v s2 b n
      by b n noted handed (inl so) = inl ((stays_then b n noted handed).0 so)
      by b n noted handed (inr (inl so)) = inr (inl ((stays_then b n noted handed).1 so))
      by b n noted handed (inr (inr due)) =
          let rows = ap (λ (z : World (Node K V)). z.row due.0) world
          ∙ ap (λ (g : ℕ → Row). g due.0) (between_rows deferred_word old.batch_size (events_of i did.deed) w did.w2 (deed_between (Node K V) i did.deed) did.runs) in
          inr (inr (due.0, (due.1.0, due.1.1, ap (λ (g : ℕ → ℕ → Option (UnderWay K V K)). g due.1.0 due.0) calls ∙ due.1.2), subst (IsToHand b) (sym rows) due.2))

  pub handed_then : (x : Settled (Node K V)) (it : EndingHasOutcome same hash s new i f end did.w2 did.deed x) → RefinesHanded v known2 (ending_after same hash s new i f end did.w2 did.deed x it)
  handed_then settled.Goes it = shown_then _ refl refl
  handed_then settled.Waits it = absurd it
  handed_then (settled.Gave value) it = shown_then _ refl refl
  handed_then settled.Done it = shown_then _ refl refl

pub endings_keep_handed : (K V : Type 0) (same : K → K → Bool) (hash : ℕ → K → ℕ) → EndingsPreserveHanded K V same hash
endings_keep_handed K V same hash name m known s old new at whole waiting retired shows i told leads f here map not_there =
    let to = leads f here in handed_then same hash name m known s old new at whole waiting retired shows i f here to.0 told to.1 to.2 map not_there to.3 told to.3
