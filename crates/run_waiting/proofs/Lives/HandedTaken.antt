-- What is handed over after what a row tells, whoever's row it is that is within no call: what it takes of pairs was handed over, or left over, and what waited behind a table that it
-- takes is handed over then.
use Rattle.std.specs.Prelude.{◌≡◌, ◌⊎◌, ℕ, nat_lt, ◌&&◌, Bool, true, false, not, List, [], ◌∷◌, filter, Option, Some, None, IsSome, if◌then◌else◌}
use Rattle.std.proofs.Common.{refl, ap, sym, subst, ◌∙◌, inl, inr}
use Rattle.run_debts.specs.Given.SeizeWordsMem.{value_at}
use Rattle.run_debts.specs.Given.SeizeWordsDeclared.at.At.TheVariants.{Root, Used, Slot, Entry, Word}
use Rattle.run_debts.specs.Given.SeizeWorld.{World, Handed}
use Rattle.run_debts.specs.Given.TablesDeclared.node.Node.{Node}
use Rattle.run_debts.specs.Given.RunsDeclared.effect.Effect.TheVariants.{Asked, Reclaimed}
use Rattle.run_debts.specs.Given.RunsDeclared.effect.Growth.TheVariants.{ABucket}
use Rattle.run_debts.specs.Given.RunsDeclared.effect.TableId.{TableId}
use Rattle.run_debts.specs.Given.RunsDeclared.effect.Thing.TheVariants.{APair, ATable}
use Rattle.run_debts.specs.Given.SchedulesEffects.{with_effects}
use Rattle.run_debts.specs.Given.SchedulesLists.{is_among}
use Rattle.run_debts.specs.Given.SchedulesMoment.{Place, Behind, Handed as IsHanded, GivenBack, Deferral, TableThere, Moment}
use Rattle.run_debts.specs.Given.SchedulesReclaims.{is_handed}
use Rattle.run_debts.specs.Given.SchedulesThings.{same_table}
use Rattle.run_debts.specs.Given.SchedulesViews.{behind, is_stage, is_retired}
use Rattle.run_debts.specs.Given.EffectsDeclared.changed.Changed.{Changed}
use Rattle.run_debts.specs.Given.EffectsDeclared.changed.Changed.TheVariants as changed
use Rattle.run_debts.specs.Given.EffectsEffects.{names_same, taken_by, effects_of, known_after}
use Rattle.run_debts.specs.Given.EffectsKnown.{Known, with_role}
use Rattle.run_debts.specs.Given.EffectsDeclared.acting.Acting.TheVariants.{Row}
use Rattle.run_debts.specs.Given.EffectsDeclared.role.Role.{Role}
use Rattle.run_debts.specs.Given.EffectsDeclared.role.Role.TheVariants as role
use Rattle.run_debts.specs.Given.FollowsBlocks.{HasRole}
use Rattle.run_debts.proofs.Given.FollowsAlike.{put_here, put_elsewhere}
use Rattle.run_debts.proofs.Given.FollowsOperations.{LeavesBy}
use Rattle.run_debts.proofs.Given.FollowsTold.{roomed_as_many}
use Rattle.run_debts.proofs.Given.OthersRowPlans.{TellsRow}
use Rattle.run_debts.proofs.Given.SpotsUnreclaimed.{table_is}
use Rattle.run_debts.specs.Given.MomentsWhole.{RefinesWhole}
use Rattle.run_waiting.specs.Lives.Behind.{IsLeft, IsDeferredTo, RefinesWaiting}
use Rattle.run_waiting.specs.Lives.Handed.{IsToHand, IsHandedOver, HasGone, is_deferred, RefinesHanded}
use Rattle.run_waiting.specs.Lives.Waiting.{waits_behind}
use Rattle.run_waiting.proofs.Lives.Each.{WaitsAt, found}
use Rattle.run_waiting.proofs.Lives.HandedEffects.{deferred_split, handed_back, reclaimed_back, reclaimed_not}
use Rattle.run_waiting.proofs.Lives.Taken.{there_still}
use Rattle.run_debts.specs.Given.ScenesScene.{HasCall, Scene}

module _ {K V : Type 0} (same : K → K → Bool) (name : ℕ → List ℕ) (m : Moment K V) (known : Known) (s s2 : Scene K V) (whole : RefinesWhole same name m known s) (waiting : RefinesWaiting m known s.world)
    (shows : RefinesHanded m known s) (told : Changed) (tells : TellsRow told) (leaves : LeavesBy s.world.memory s2.world.memory told)
    (had : (b : ℕ) → s2.world.hand b ≡ Handed → s.world.hand b ≡ Handed)
    (over_on : (b : ℕ) → IsSome (value_at s2.world.memory b) → IsHandedOver s.world b → IsHandedOver s2.world b)
    (freed_on : (x b : ℕ) → told ≡ changed.Took x → IsSome (value_at s2.world.memory b) → waits_behind b s.world.log ≡ Some x → IsHandedOver s2.world b)
    (not_left : (x len : ℕ) (t : TableId) → told ≡ changed.Took x → known.roles x ≡ role.Table t len → IsLeft (s.world.hand x) → ⊥)
    (due_then : (b : ℕ) → ((j : ℕ) × HasCall s j × IsToHand b (s.world.row j)) → (j : ℕ) × HasCall s2 j × IsToHand b (s2.world.row j)) where
  abbrev w : World (Node K V)
  w = s.world

  abbrev w2 : World (Node K V)
  w2 = s2.world

  -- a block of a map that is not told to be taken is there
  some_of : (b : ℕ) → ((value : Node K V) × (value_at w2.memory b ≡ Some value)) → IsSome (value_at w2.memory b)
  some_of b after = subst (λ (o : Option (Node K V)). IsSome o) (sym after.1) refl

  pair_there : (b n : ℕ) → known.roles b ≡ role.Pair n → (told ≡ changed.Took b → ⊥) → IsSome (value_at w2.memory b)
  pair_there b n is other =
      let has = subst (HasRole w m.stored b) is (whole.all.shown.blocks.roles b) in some_of b (there_still w.memory w2.memory told tells leaves b _ has.3 other)

  table_there : (b len : ℕ) (t : TableId) → known.roles b ≡ role.Table t len → (told ≡ changed.Took b → ⊥) → IsSome (value_at w2.memory b)
  table_there b len t is other =
      let has = subst (HasRole w m.stored b) is (whole.all.shown.blocks.roles b) in some_of b (there_still w.memory w2.memory told tells leaves b _ has.1 other)

  gone_then : (v : Moment K V) (b n : ℕ) → (is_handed (m.place n) ≡ true → HasGone v s2 b n) → (is_deferred n m.deferred ≡ true → HasGone v s2 b n) → HasGone m s b n → HasGone v s2 b n
  gone_then v b n handed waits (inl is) = handed is
  gone_then v b n handed waits (inr (inl is)) = waits is
  gone_then v b n handed waits (inr (inr due)) = inr (inr (due_then b due))

  -- where no block is told to be taken, and no pair and no table changes
  calm : (v : Moment K V) (known2 : Known) → v.place ≡ m.place → v.deferred ≡ m.deferred → v.tables ≡ m.tables → known2.roles ≡ known.roles → ((x : ℕ) → told ≡ changed.Took x → ⊥) → RefinesHanded v known2 s2
  calm v known2 place deferred tables roles none = record {
    pairs = λ b n is handed.
        gone_then v b n (λ so. inl (ap (λ (f : ℕ → Place). is_handed (f n)) place ∙ so)) (λ so. inr (inl (ap (is_deferred n) deferred ∙ so)))
        (shows.pairs b n (sym (ap (λ (f : ℕ → Role). f b) roles) ∙ is) (had b handed));
    handed = λ n is.
        let one = shows.handed n (sym (ap (λ (f : ℕ → Place). is_handed (f n)) place) ∙ is) in
        (one.0, ap (λ (f : ℕ → Role). f one.0) roles ∙ one.1, over_on one.0 (pair_there one.0 n one.1 (none one.0)) one.2);
    tables = λ t is.
        let one = shows.tables t (sym (ap (λ (ts : List TableThere). is_stage is_retired t (record m { tables = ts })) tables) ∙ is) in
        (one.0, one.1, ap (λ (f : ℕ → Role). f one.0) roles ∙ one.2, over_on one.0 (table_there one.0 one.1 t one.2 (none one.0)) one.3);
  }

  -- a block is taken
  module _ (x : ℕ) (is : told ≡ changed.Took x) where
    abbrev known2 : Known
    known2 = with_role x role.Free known

    other_told : (b : ℕ) → (b ≡ x → ⊥) → told ≡ changed.Took b → ⊥
    other_told b ne e = ne (let one : changed.Took b ≡ changed.Took x = sym e ∙ is in cc one)

    role_same : (b : ℕ) → (b ≡ x → ⊥) → known2.roles b ≡ known.roles b
    role_same b ne = put_elsewhere x role.Free known.roles b ne

    not_free : (b n : ℕ) → known2.roles b ≡ role.Pair n → b ≡ x → ⊥
    not_free b n its_role e = (let two : role.Free ≡ role.Pair n = sym (put_here x role.Free known.roles b e) ∙ its_role in cc two)

    was_pair : (b n : ℕ) → known2.roles b ≡ role.Pair n → known.roles b ≡ role.Pair n
    was_pair b n its_role = sym (role_same b (not_free b n its_role)) ∙ its_role

    -- what was handed over is so still, in another block
    pair_on : (n : ℕ) → is_handed (m.place n) ≡ true → ((b : ℕ) → known.roles b ≡ role.Pair n → b ≡ x → ⊥) → (b : ℕ) × (known2.roles b ≡ role.Pair n) × IsHandedOver w2 b
    pair_on n so other =
        let one = shows.handed n so in
        let ne = other one.0 one.1 in
        (one.0, role_same one.0 ne ∙ one.1, over_on one.0 (pair_there one.0 n one.1 (other_told one.0 ne)) one.2)

    table_on : (t : TableId) → is_stage is_retired t m ≡ true → ((b len : ℕ) → known.roles b ≡ role.Table t len → b ≡ x → ⊥)
        → (b : ℕ) × (len : ℕ) × (known2.roles b ≡ role.Table t len) × IsHandedOver w2 b
    table_on t so other =
        let one = shows.tables t so in
        let ne = other one.0 one.1 one.2 in
        (one.0, one.1, role_same one.0 ne ∙ one.2, over_on one.0 (table_there one.0 one.1 t one.2 (other_told one.0 ne)) one.3)

    -- that of nothing of a map
    took_other : (r : Role) → known.roles x ≡ r → ((n : ℕ) → r ≡ role.Pair n → ⊥) → ((t : TableId) (len : ℕ) → r ≡ role.Table t len → ⊥)
        → (v : Moment K V) → v.place ≡ m.place → v.deferred ≡ m.deferred → v.tables ≡ m.tables → RefinesHanded v known2 s2
    took_other r e no_pair no_table v place deferred tables = record {
      pairs = λ b n its_role handed.
          gone_then v b n (λ so. inl (ap (λ (f : ℕ → Place). is_handed (f n)) place ∙ so)) (λ so. inr (inl (ap (is_deferred n) deferred ∙ so)))
          (shows.pairs b n (was_pair b n its_role) (had b handed));
      handed = λ n so. pair_on n (sym (ap (λ (f : ℕ → Place). is_handed (f n)) place) ∙ so) (λ b its_role z. no_pair n (sym e ∙ ap known.roles (sym z) ∙ its_role));
      tables = λ t so.
          table_on t (sym (ap (λ (ts : List TableThere). is_stage is_retired t (record m { tables = ts })) tables) ∙ so)
          (λ b len its_role z. no_table t len (sym e ∙ ap known.roles (sym z) ∙ its_role));
    }

    -- that of a pair
    took_a_pair : (k : ℕ) → known.roles x ≡ role.Pair k → RefinesHanded (with_effects None None (Reclaimed (APair k) ∷ []) m) known2 s2
    took_a_pair k e = record {
      pairs = λ b n its_role handed.
          let ne : n ≡ k → ⊥ = λ z. not_free b n its_role (whole.all.shown.blocks.once b x n (was_pair b n its_role) (e ∙ ap role.Pair (sym z))) in
          gone_then (with_effects None None (Reclaimed (APair k) ∷ []) m) b n (λ so. inl (ap is_handed (put_elsewhere k GivenBack m.place n ne) ∙ so)) (λ so. inr (inl so))
          (shows.pairs b n (was_pair b n its_role) (had b handed));
      handed = λ n so.
          pair_on n (handed_back None None n (Reclaimed (APair k) ∷ []) m (λ z. z, tt) so)
          (λ b its_role z. let same_pair : role.Pair n ≡ role.Pair k = sym its_role ∙ ap known.roles z ∙ e in
          let one : n ≡ k = cc same_pair in
          let none : is_handed ((with_effects None None (Reclaimed (APair k) ∷ []) m).place n) ≡ false = ap is_handed (put_here k GivenBack m.place n one) in
          cc (so, none));
      tables = λ t so. table_on t so (λ b len its_role z. let two : role.Pair k ≡ role.Table t len = sym e ∙ ap known.roles (sym z) ∙ its_role in cc two);
    }

    -- that of a table: what waited behind it is handed over
    module _ (u : TableId) (len : ℕ) (e : known.roles x ≡ role.Table u len) where
      abbrev then_m : Moment K V
      then_m = with_effects None None (Reclaimed (ATable u) ∷ []) m

      abbrev Waited : ℕ → TableId → Type 0
      Waited n t = (m.place n ≡ Behind) × IsDeferredTo known w n t

      no_pair : (b n : ℕ) → known.roles b ≡ role.Pair n → b ≡ x → ⊥
      no_pair b n its_role z = (let two : role.Table u len ≡ role.Pair n = sym e ∙ ap known.roles (sym z) ∙ its_role in cc two)

      freed : (n : ℕ) → is_among n (behind u m.deferred) ≡ true → (b : ℕ) × (known2.roles b ≡ role.Pair n) × IsHandedOver w2 b
      freed n among = (l.pair, role_same l.pair (no_pair l.pair n l.is_pair) ∙ l.is_pair, by l.waits)
        where
          a : WaitsAt Waited n u
          a = found Waited n u m.deferred waiting among

          l : IsDeferredTo known w n u
          l = subst (IsDeferredTo known w n) (table_is a.one.behind u a.its) (subst (λ (k : ℕ). IsDeferredTo known w k a.one.behind) a.number a.so.1)

          its_table : l.table ≡ x
          its_table = whole.blocks.tables_once l.table x l.len len u l.is_table e

          by : (waits_behind l.pair w.log ≡ Some l.table) ⊎ (IsLeft (w.hand l.pair) × IsLeft (w.hand l.table)) → IsHandedOver w2 l.pair
          by (inl waits) = freed_on x l.pair is (pair_there l.pair n l.is_pair (other_told l.pair (no_pair l.pair n l.is_pair))) (waits ∙ ap (λ (k : ℕ). Some k) its_table)
          by (inr both) = absurd (not_left x len u is e (subst (λ (k : ℕ). IsLeft (w.hand k)) its_table both.1))

      handed_then : (n : ℕ) (q : Bool) → is_among n (behind u m.deferred) ≡ q → is_handed (if q then IsHanded else m.place n) ≡ true → (b : ℕ) × (known2.roles b ≡ role.Pair n) × IsHandedOver w2 b
      handed_then n true among so = freed n among
      handed_then n false among so = pair_on n so (λ b its_role. no_pair b n its_role)

      still : (n : ℕ) (q : Bool) → is_handed (m.place n) ≡ true → is_handed (if q then IsHanded else m.place n) ≡ true
      still n true so = refl
      still n false so = so

      waited : (b n : ℕ) → (is_among n (behind u m.deferred) ≡ true) ⊎ (is_deferred n (filter (λ (d : Deferral). not (same_table d.behind u)) m.deferred) ≡ true) → HasGone then_m s2 b n
      waited b n (inl among) = inl (ap (λ (q : Bool). is_handed (if q then IsHanded else m.place n)) among)
      waited b n (inr other) = inr (inl other)

      took_a_table : RefinesHanded then_m known2 s2
      took_a_table = record {
        pairs = λ b n its_role handed.
            gone_then then_m b n (λ so. inl (still n (is_among n (behind u m.deferred)) so)) (λ so. waited b n (deferred_split n u m.deferred so))
            (shows.pairs b n (was_pair b n its_role) (had b handed));
        handed = λ n so. handed_then n (is_among n (behind u m.deferred)) refl so;
        tables = λ t so.
            table_on t (reclaimed_back None None t u m so)
            (λ b many its_role z. let two : role.Table t many ≡ role.Table u len = sym its_role ∙ ap known.roles z ∙ e in
            let one : t ≡ u = cc two in
            reclaimed_not None None u m (subst (λ (y : TableId). is_stage is_retired y then_m ≡ true) one so));
      }

    took : (r : Role) → known.roles x ≡ r → RefinesHanded (with_effects None None (taken_by Row r) m) known2 s2
    took role.Free e = took_other role.Free e (λ n z. cc z) (λ t len z. cc z) m refl refl refl
    took (role.OwnPair j) e = took_other (role.OwnPair j) e (λ n z. cc z) (λ t len z. cc z) (with_effects None None (taken_by Row (role.OwnPair j)) m) refl refl refl
    took (role.OwnTable turn shape) e = took_other (role.OwnTable turn shape) e (λ n z. cc z) (λ t len z. cc z) (with_effects None None (taken_by Row (role.OwnTable turn shape)) m) refl refl refl
    took (role.Counter of) e = took_other (role.Counter of) e (λ n z. cc z) (λ t len z. cc z) m refl refl refl
    took (role.Pair k) e = took_a_pair k e
    took (role.Table u len) e = took_a_table u len e

  abbrev Then : Changed → Type 0
  Then x = RefinesHanded (with_effects None None (effects_of Row known x) m) (known_after Row x known) s2

  by_told : (x : Changed) → told ≡ x → TellsRow x → Then x
  by_told changed.Nothing e is = calm m known refl refl refl refl (λ x z. let two = sym e ∙ z in cc two)
  by_told (changed.Wrote (Slot t field) before after) e is = calm m known refl refl refl refl (λ x z. let two = sym e ∙ z in cc two)
  by_told (changed.Wrote (Entry b field) before after) e is = by (names_same before after)
    where
      by : (q : Bool) → RefinesHanded (with_effects None None (if q then [] else []) m) known s2
      by true = calm m known refl refl refl refl (λ x z. let two = sym e ∙ z in cc two)
      by false = calm m known refl refl refl refl (λ x z. let two = sym e ∙ z in cc two)
  by_told (changed.Wrote (Root r) before after) e is = absurd is
  by_told (changed.Wrote (Used r) before after) e is = absurd is
  by_told (changed.Wrote (Word b field) before after) e is = absurd is
  by_told (changed.Made kind b) e is = absurd is
  by_told (changed.Unmade kind) e is = absurd is
  by_told (changed.Took x) e is = took x e (known.roles x) refl
  by_told (changed.Roomed bucket had_room) e is = by (had_room && nat_lt bucket known.buckets)
    where
      known3 : Known
      known3 = known_after Row (changed.Roomed bucket had_room) known

      by : (q : Bool) → RefinesHanded (with_effects None None (if q then [] else Asked ABucket ∷ []) m) known3 s2
      by true = calm m known3 refl refl refl (roomed_as_many Row known bucket had_room).0 (λ x z. let two = sym e ∙ z in cc two)
      by false = calm (with_effects None None (Asked ABucket ∷ []) m) known3 refl refl refl (roomed_as_many Row known bucket had_room).0 (λ x z. let two = sym e ∙ z in cc two)

  pub taking_keeps : Then told
  taking_keeps = by_told told refl tells
