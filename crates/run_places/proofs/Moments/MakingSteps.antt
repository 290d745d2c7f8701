-- A step of the making of a map keeps all that a moment shows, the last one, too, by which the map stands.
use Rattle.std.specs.Prelude.{◌≡◌, ℕ, ◌<◌, ◌≤◌, Bool, true, false, List, [], ◌∷◌, Option, Some, None, IsSome, if◌then◌else◌, ◌⊎◌}
use Rattle.std.proofs.Common.{refl, ap, sym, subst, ◌∙◌, inl, inr, arith}
use Rattle.std.proofs.lemmas.Bool.{cases_eq}
use Rattle.run_shows.specs.Given.SeizeWordsMem.{value_at}
use Rattle.run_shows.specs.Given.SeizeWordsWord.{block_in}
use Rattle.run_shows.specs.Given.SeizeWordsDeclared.at.At.TheVariants.{Root, Used, Slot, Entry, Word}
use Rattle.run_shows.specs.Given.SeizeWorld.{World, Hand, NoBlock, Making, InUse, Parting, Cutting, Handed, LeftTo, with_at}
use Rattle.run_shows.specs.Given.SeizeDeclared.advance.Advance.{Advance}
use Rattle.run_shows.specs.Given.SeizeDeclared.advance.Advance.TheVariants as progress
use Rattle.run_shows.specs.Given.TablesDeclared.node.Node.{Node}
use Rattle.run_shows.specs.Given.TablesDeclared.setting.Setting.{Setting}
use Rattle.run_shows.specs.Given.ResizeDeclared.new_map.NewMap.{NewMap}
use Rattle.run_shows.specs.Given.RunsDeclared.shapes.TableShape.{TableShape}
use Rattle.run_shows.specs.Given.RunsDeclared.effect.Effect.TheVariants.{Linked}
use Rattle.run_shows.specs.Given.SchedulesEffects.{with_effects}
use Rattle.run_shows.specs.Given.SchedulesMoment.{Moment}
use Rattle.run_shows.specs.Given.EffectsDeclared.changed.Changed.{Changed}
use Rattle.run_shows.specs.Given.EffectsDeclared.changed.Changed.TheVariants as changed
use Rattle.run_shows.specs.Given.RuleInWorld.{IsOut, IsMapIn}
use Rattle.run_shows.proofs.Given.CallersTogether.At.{at_other, at_same}
use Rattle.run_shows.specs.Given.FinishesEndings.{MakingStepsWithEndings}
use Rattle.run_shows.specs.Given.FinishesMakings.{Beginning, IsMade}
use Rattle.run_shows.specs.Given.FinishesMaps.{Standing}
use Rattle.run_shows.specs.Given.EffectsEffects.{table_at, made_role, taken_by, led_to, linked_on, named, names_same, effects_of, known_after}
use Rattle.run_shows.specs.Given.EffectsKnown.{Known, with_role}
use Rattle.run_shows.specs.Given.EffectsDeclared.acting.Acting.{Acting}
use Rattle.run_shows.specs.Given.EffectsDeclared.acting.Acting.TheVariants as acts
use Rattle.run_shows.specs.Given.EffectsDeclared.role.Role.{Role}
use Rattle.run_shows.specs.Given.EffectsDeclared.role.Role.TheVariants as role
use Rattle.run_shows.proofs.Follows.Alike.{AllStill, calm_still, put_here, put_elsewhere}
use Rattle.run_shows.proofs.Follows.Onward.{IsOfMap}
use Rattle.run_shows.proofs.Follows.Operations.{LeavesBy}
use Rattle.run_places.specs.Hands.Hands.{IsInUse}
use Rattle.run_places.specs.Hands.Rows.{RowsReclaimNone}
use Rattle.run_places.proofs.Hands.Others.{makings_go_aside}
use Rattle.run_shows.specs.Others.Makings.{IsNew, WasNew, making_after}
use Rattle.run_shows.proofs.Others.Leads.{word_says}
use Rattle.run_shows.proofs.Others.MakingGoes.{makings_note_counters}
use Rattle.run_shows.proofs.Others.MakingPlans.{TellsMaking}
use Rattle.run_shows.proofs.Others.MadeBlocks.{still_made, lasting_there}
use Rattle.run_shows.proofs.Others.Makes.{no_table_word, not_going, not_refused, came_first, tells, left, makings_are_shown}
use Rattle.run_shows.proofs.Others.Quiet.{calls_none, stored_none}
use Rattle.run_places.proofs.Spots.Calm.{put_back}
use Rattle.run_places.proofs.Spots.Makings.{makings_leave_places}
use Rattle.run_places.specs.Moments.Makings.{MakingsPreserveWhole}
use Rattle.run_places.specs.Moments.Whole.{RefinesWhole}
use Rattle.run_places.proofs.Moments.Beside.{CameAsTable, StoodSo, StandsNew, IsBeside, hands_beside, asked_beside}
use Rattle.run_places.proofs.Moments.Makings.{none_of_it, none_of_map, not_of_map, before_free, makings_keep_blocks}
use Rattle.run_places.proofs.Moments.OnSlots.{IsAlone, alone, still_alone, none_some, Keeps, same_roles}
use Rattle.run_shows.specs.Scenes.Held.{Held, IsAt}
use Rattle.run_shows.specs.Scenes.Making.{MakingLeads, MakingStepsFrom}
use Rattle.run_shows.specs.Scenes.Scene.{Scene, slot_of}
use Rattle.run_places.proofs.Spots.Unreclaimed.{of_map_lasts as lasting_of}
use Rattle.run_shows.proofs.Given.General.{same_some as one_of}

module _ {K V : Type 0} (same : K → K → Bool) (hash : ℕ → K → ℕ) (name : ℕ → List ℕ) (m : Moment K V) (known : Known) (s : Scene K V) (old new : Held K V) (at : IsAt same hash old s)
    (whole : RefinesWhole same name m known s) (i : ℕ) (b : Beginning K) (here : s.makers i ≡ Some b) (end : NewMap) (said : Advance Setting) (steps : MakingStepsFrom b.machine old new end said)
    (did : MakingStepsWithEndings V same same old.batch_size old.roots slot_of s.world s.maps s.calls s.makers s.enders i b new.memory (end, said)) (of : Option ℕ) where
  abbrev w : World (Node K V)
  w = s.world

  abbrev w2 : World (Node K V)
  w2 = did.step.w2

  abbrev told : Changed
  told = new.changed

  abbrev its : Acting
  its = acts.Making b.map

  abbrev then_known : Known
  then_known = known_after its told known

  -- what was in use, or left over, is so still
  used : (x : ℕ) → IsInUse (w.hand x) → IsInUse (w2.hand x)
  used x = by (w.hand x) refl
    where
      by : (h : Hand) → w.hand x ≡ h → IsInUse h → IsInUse (w2.hand x)
      by NoBlock e none = absurd none
      by (Making j) e none = absurd none
      by (InUse o) e some = subst IsInUse (sym (did.step.outs x (subst IsOut (sym e) tt) ∙ e)) tt
      by (Parting j) e none = absurd none
      by (Cutting j) e none = absurd none
      by Handed e none = absurd none
      by (LeftTo j) e some = subst IsInUse (sym (did.step.rest.hands x j e)) tt

  gone_not : (x : ℕ) → value_at w2.memory x ≡ None → (r : Role) → known.roles x ≡ r → IsOfMap r → ⊥
  gone_not = not_of_map same hash name m known s old new at whole.all.shown whole.blocks i b here end said steps did of

  taken_still : (x : ℕ) → value_at w2.memory x ≡ None → (r : Role) → known.roles x ≡ r → AllStill (taken_by its r)
  taken_still x gone role.Free e = tt
  taken_still x gone (role.OwnPair j) e = (refl, tt)
  taken_still x gone (role.OwnTable turn shape) e = (refl, tt)
  taken_still x gone (role.Pair k) e = absurd (gone_not x gone (role.Pair k) e tt)
  taken_still x gone (role.Table t len) e = absurd (gone_not x gone (role.Table t len) e tt)
  taken_still x gone (role.Counter n) e = tt

  module _ (s2 : Scene K V) where
    -- what is noted then: blocks of maps were so, or one came as a table, and what is there is what it was
    abbrev KeepsIn : Known → Type 0
    KeepsIn known2 =
        ((y : ℕ) → IsOfMap (known2.roles y) → (known2.roles y ≡ known.roles y) ⊎ CameAsTable known known2 s s2 y)
        × ((y : ℕ) → IsSome (value_at w2.memory y) → IsOfMap (known.roles y) → known2.roles y ≡ known.roles y)

    abbrev WentIn : Changed → Type 0
    WentIn x = IsAlone m (with_effects None of (effects_of its known x) m) × KeepsIn (known_after its x known)

    still_in : (x : Changed) → AllStill (effects_of its known x) → Keeps known w2 (known_after its x known) → WentIn x
    still_in x still keeps = (still_alone m of (effects_of its known x) still, (λ y is_of. inl (keeps.0 y is_of), keeps.1))

    module _ (rooted : (r before after : ℕ) → told ≡ changed.Wrote (Root r) before after → WentIn (changed.Wrote (Root r) before after)) where
      went : (x : Changed) → told ≡ x → TellsMaking w i b.machine.setting.root x → LeavesBy w.memory w2.memory x → WentIn x
      went changed.Nothing is so l = still_in changed.Nothing tt (same_roles known w2 known refl)
      went (changed.Wrote (Root r) before after) is so l = rooted r before after is
      went (changed.Wrote (Used r) before after) is so l = still_in (changed.Wrote (Used r) before after) tt (same_roles known w2 known refl)
      went (changed.Wrote (Slot t field) before after) is so l = absurd so
      went (changed.Wrote (Entry x field) before after) is so l = absurd so
      went (changed.Wrote (Word x field) before after) is so l =
          let does = word_says its known field (block_in after) (known.roles x) (names_same before after) (named known before) (named known after)
          (no_table_word same hash name m known s old new at whole.all.shown i b here end said steps did of x (names_same before after) so) in
          still_in (changed.Wrote (Word x field) before after) (calm_still (effects_of its known (changed.Wrote (Word x field) before after)) does.0)
          (same_roles known w2 (known_after its (changed.Wrote (Word x field) before after) known) (ap (λ (k : Known). k.roles) does.1))
      went (changed.Made k x) is so l = still_in (changed.Made k x) (still_made its k) (
        λ y is_of. put_back known.roles x (made_role its k) (none_of_map b.map of m known whole.blocks k) y is_of,
        λ y some is_of. put_elsewhere x (made_role its k) known.roles y (λ e.
            lasting_there w m.stored x (known.roles x) (whole.all.shown.blocks.roles x) (lasting_of (known.roles x) (subst (λ (z : ℕ). IsOfMap (known.roles z)) e is_of)) l.0),
      )
      went (changed.Unmade k) is so l = still_in (changed.Unmade k) (refl, tt) (same_roles known w2 known refl)
      went (changed.Took x) is so l = still_in (changed.Took x) (taken_still x l.1 (known.roles x) refl) (
        λ y is_of. put_back known.roles x role.Free (λ z. z) y is_of,
        λ y some is_of. put_elsewhere x role.Free known.roles y (λ e. none_some (value_at w2.memory y) some (ap (value_at w2.memory) e ∙ l.1)),
      )
      went (changed.Roomed bucket had) is so l = absurd so

      pub all_went : WentIn told
      all_went =
          went told refl (tells same hash name m known s old new at whole.all.shown i b here end said steps did of)
          (left same hash name m known s old new at whole.all.shown i b here end said steps did of)

    -- each map that stands then did before
    pub stood_still : s2.maps ≡ s.maps → (n : ℕ) (st : Standing K) → s2.maps n ≡ Some st → StoodSo known then_known s s2 n st ⊎ StandsNew known then_known s s2 n
    stood_still maps n st is = inl (st, subst (λ (f : ℕ → Option (Standing K)). f n ≡ Some st) maps is, refl, λ t. refl)

    pub making_beside : s2.world ≡ w2 → s2.calls ≡ s.calls → WentIn told
        → ((n : ℕ) (st : Standing K) → s2.maps n ≡ Some st → StoodSo known then_known s s2 n st ⊎ StandsNew known then_known s s2 n)
        → IsBeside m (with_effects None of (effects_of its known told) m) known then_known s s2
    making_beside world calls it stood = record {
      stored = it.0.stored;
      born = it.0.born;
      calls = it.0.calls;
      maps = it.0.maps;
      place = it.0.place;
      back = it.1.0;
      roles = λ y some is_of. it.1.1 y (subst (λ (u : World (Node K V)). IsSome (value_at u.memory y)) world some) is_of;
      hands = λ y some was. subst (λ (u : World (Node K V)). IsInUse (u.hand y)) (sym world) (used y was);
      same_calls = calls;
      stood = stood;
    }

  -- Its map stands.
  module _ (setting : Setting) (done : said ≡ progress.Done setting) (st : Standing K) (made_so : IsMade V same same old.batch_size old.roots slot_of b setting st)
      (there : IsAt same hash new (record s { world = w2; maps = with_at s.maps b.map (Some st); makers = with_at s.makers i None })) (is_new : IsNew b.map setting m) where
    abbrev rest : Scene K V
    rest = record s { world = w2; maps = with_at s.maps b.map (Some st); makers = with_at s.makers i None }

    its_map : IsMapIn same st.hash st.setting w2 st.chart st.blocks
    its_map = (there.together.makings.standing.each b.map st (at_same s.maps b.map (Some st) b.map refl)).ground.map

    -- what comes by its root moves nothing else
    root_alone : (q : Bool) (r : Role) → IsAlone m (with_effects None of (if q then [] else led_to its role.Free r) m)
    root_alone true r = alone m
    root_alone false role.Free = alone m
    root_alone false (role.OwnPair j) = alone m
    root_alone false (role.OwnTable turn shape) = record {
      stored = stored_none of (Linked (table_at its turn) shape ∷ []) m;
      born = born_same of;
      calls = calls_none of (Linked (table_at its turn) shape ∷ []) m;
      maps = refl;
      place = λ n map e. e;
    }
      where
        born_same : (o : Option ℕ) → (with_effects None o (Linked (table_at its turn) shape ∷ []) m).born ≡ m.born
        born_same None = refl
        born_same (Some n) = refl
    root_alone false (role.Pair n) = alone m
    root_alone false (role.Table t len) = alone m
    root_alone false (role.Counter n) = alone m

    module _ (r before after : ℕ) (is : told ≡ changed.Wrote (Root r) before after) where
      -- it is in use, as the first table
      came : (turn : ℕ) (shape : TableShape) → named known after ≡ role.OwnTable turn shape → (known2 : Known) → known2.roles (block_in after) ≡ role.Table (table_at its turn) shape.len
          → CameAsTable known known2 s rest (block_in after)
      came turn shape own known2 its_role =
          let first = came_first same hash name m known s old new at whole.all.shown i b here end said steps did of setting done st made_so there (whole.counters i b here) is_new r before after is in
          let past = first.1 in
          let root = first.2 in
          let had = first.4 in
          let turn_is : turn ≡ 0 = cc (had, own) in
          record {
            len = shape.len;
            table = table_at its turn;
            is = its_role;
            used = (st.setting.counter, ap w2.hand first.0 ∙ its_map.tables 0 (omega (arith, root)) (omega (arith, past)));
            place = λ x at_map. subst (λ (y : Standing K). (turn < y.chart.past) × (y.chart.first ≤ turn → block_in after ≡ y.blocks.table turn))
                (one_of st x (sym (at_same s.maps b.map (Some st) b.map refl) ∙ at_map)) (omega (arith, turn_is, past), λ from. first.0 ∙ ap st.blocks.table (sym turn_is));
          }

      linked_keeps : (x : Role) → named known after ≡ x → KeepsIn rest (linked_on its (block_in after) x known)
      linked_keeps role.Free own = (λ y is_of. inl refl, λ y some is_of. refl)
      linked_keeps (role.OwnPair j) own = (λ y is_of. inl refl, λ y some is_of. refl)
      linked_keeps (role.OwnTable turn shape) own = (
        λ y is_of. elim (cases_eq y (block_in after)) as (λ _. (known2.roles y ≡ known.roles y) ⊎ CameAsTable known known2 s rest y) [
          | inl e ↦ inr (subst (CameAsTable known known2 s rest) (sym e) (came turn shape own known2 (put_here (block_in after) new_role known.roles (block_in after) refl)))
          | inr ne ↦ inl (put_elsewhere (block_in after) new_role known.roles y ne)
        ],
        λ y some is_of. put_elsewhere (block_in after) new_role known.roles y (λ e. subst IsOfMap (ap known.roles e ∙ own) is_of),
      )
        where
          new_role : Role
          new_role = role.Table (table_at its turn) shape.len

          known2 : Known
          known2 = with_role (block_in after) new_role known
      linked_keeps (role.Pair n) own = (λ y is_of. inl refl, λ y some is_of. refl)
      linked_keeps (role.Table t len) own = (λ y is_of. inl refl, λ y some is_of. refl)
      linked_keeps (role.Counter n) own = (λ y is_of. inl refl, λ y some is_of. refl)

      root_keeps : (q : Bool) → KeepsIn rest (if q then known else linked_on its (block_in after) (named known after) known)
      root_keeps true = (λ y is_of. inl refl, λ y some is_of. refl)
      root_keeps false = linked_keeps (named known after) refl

      root_went : WentIn rest (changed.Wrote (Root r) before after)
      root_went =
          let so = subst (TellsMaking w i b.machine.setting.root) is (tells same hash name m known s old new at whole.all.shown i b here end said steps did of) in
          let l = subst (LeavesBy w.memory w2.memory) is (left same hash name m known s old new at whole.all.shown i b here end said steps did of) in
          let free = before_free same hash name m known s old new at whole.all.shown whole.blocks i b here end said steps did of r before after so l in (
            subst (λ (y : Role). IsAlone m (with_effects None of (if names_same before after then [] else led_to its y (named known after)) m)) (sym free)
                (root_alone (names_same before after) (named known after)),
            root_keeps (names_same before after),
          )

    -- its map is new, and each other one stood
    stood_or_new : (n : ℕ) (x : Standing K) → rest.maps n ≡ Some x → StoodSo known then_known s rest n x ⊎ StandsNew known then_known s rest n
    stood_or_new n x is = elim (cases_eq n b.map) as (λ _. StoodSo known then_known s rest n x ⊎ StandsNew known then_known s rest n) [
      | inl e ↦ inr (
        λ j. at.together.makings.standing.only n j (ap s.maps e ∙ at.together.makings.coming i b here),
        λ y len t was of_it. none_of_it m known whole.blocks b.map is_new.no_tables y len t was (of_it ∙ e),
      )
      | inr ne ↦ inl (x, sym (at_other s.maps b.map (Some st) n ne) ∙ is, refl, λ t. refl)
    ]

    pub done_beside : IsBeside m (with_effects None of (effects_of its known told) m) known then_known s rest
    done_beside = making_beside rest refl refl (all_went rest (λ r before after is. root_went r before after is)) stood_or_new

module _ (K V : Type 0) (same : K → K → Bool) (hash : ℕ → K → ℕ) where
  module _ (name : ℕ → List ℕ) (m : Moment K V) (known : Known) (s : Scene K V) (old new : Held K V) (at : IsAt same hash old s) (whole : RefinesWhole same name m known s)
      (i : ℕ) (told : Advance Setting) (leads : MakingLeads same hash i told s old new) (b : Beginning K) (here : s.makers i ≡ Some b) (of : Option ℕ)
      (was_new : WasNew b.map told m) where
    abbrev v : Moment K V
    v = with_effects None of (effects_of (acts.Making b.map) known new.changed) m

    abbrev after_known : Known
    after_known = known_after (acts.Making b.map) new.changed known

    abbrev s2 : Scene K V
    s2 = making_after same hash s old new i b (leads b here).0 (leads b here).2.step.w2 told (leads b here).3

    whole_then : IsBeside m v known after_known s s2 → IsAt same hash new s2 → RowsReclaimNone s2 → RefinesWhole same name v after_known s2
    whole_then beside at_new rows =
        let after = makings_are_shown K V same hash name m known s old new at whole.all.shown i told leads b here of (whole.counters i b here) was_new in
        let lie = makings_leave_places K V same hash name m known s old new at whole.all.shown i told leads b here of whole.places whole.outside in
        record {
          all = record {
            shown = after.shows;
            asked = asked_beside same name m v known after_known s s2 whole.all.shown after beside hash new at_new whole.all.asked;
            hands = hands_beside same name m v known after_known s s2 whole.all.shown after beside whole.all.hands;
            rows = rows;
          };
          places = lie.0;
          blocks = makings_keep_blocks K V same hash name m known s old new at whole.all.shown whole.blocks i told leads b here of was_new;
          outside = lie.1;
          counters = makings_note_counters K V same hash name m known s old new at whole.all.shown whole.counters i told leads b here;
        }

  -- what calls and hands are asked by lasts by each step of a making
  pub makings_go_beside : (name : ℕ → List ℕ) (m : Moment K V) (known : Known) (s : Scene K V) (old new : Held K V) (at : IsAt same hash old s) (whole : RefinesWhole same name m known s)
      → (i : ℕ) (told : Advance Setting) (leads : MakingLeads same hash i told s old new) (b : Beginning K) (here : s.makers i ≡ Some b) (of : Option ℕ) → WasNew b.map told m
      → IsBeside m (with_effects None of (effects_of (acts.Making b.map) known new.changed) m) known (known_after (acts.Making b.map) new.changed known) s
      (making_after same hash s old new i b (leads b here).0 (leads b here).2.step.w2 told (leads b here).3)
  makings_go_beside name m known s old new at whole i progress.Goes leads b here of was_new =
      let to = leads b here in
      let s2 : Scene K V = record s { world = to.2.step.w2; makers = with_at s.makers i (Some (record b { machine = to.0 })) } in
      making_beside same hash name m known s old new at whole i b here to.0 progress.Goes to.1 to.2 of s2 refl refl
      (all_went same hash name m known s old new at whole i b here to.0 progress.Goes to.1 to.2 of s2
      (λ r before after is. absurd (not_going same hash name m known s old new at whole.all.shown i b here to.0 progress.Goes to.1 to.2 of r before after is refl to.3)))
      (stood_still same hash name m known s old new at whole i b here to.0 progress.Goes to.1 to.2 of s2 refl)
  makings_go_beside name m known s old new at whole i progress.Waits leads b here of was_new = absurd (leads b here).3
  makings_go_beside name m known s old new at whole i (progress.Done setting) leads b here of was_new =
      let to = leads b here in
      done_beside same hash name m known s old new at whole i b here to.0 (progress.Done setting) to.1 to.2 of setting refl to.3.0 to.3.1 to.3.2 was_new
  makings_go_beside name m known s old new at whole i (progress.Refused fault) leads b here of was_new =
      let to = leads b here in
      let s2 : Scene K V = record s { world = to.2.step.w2; makers = with_at s.makers i None } in
      making_beside same hash name m known s old new at whole i b here to.0 (progress.Refused fault) to.1 to.2 of s2 refl refl
      (all_went same hash name m known s old new at whole i b here to.0 (progress.Refused fault) to.1 to.2 of s2
      (λ r before after is. absurd (not_refused same hash name m known s old new at whole.all.shown i b here to.0 (progress.Refused fault) to.1 to.2 of r before after is fault refl)))
      (stood_still same hash name m known s old new at whole i b here to.0 (progress.Refused fault) to.1 to.2 of s2 refl)

  pub makings_keep_whole : MakingsPreserveWhole K V same hash
  makings_keep_whole name m known s old new at whole i progress.Goes leads b here of was_new =
      let rows = makings_go_aside K V same hash s old new at whole.all.rows i progress.Goes leads b here in
      whole_then name m known s old new at whole i progress.Goes leads b here of was_new
      (makings_go_beside name m known s old new at whole i progress.Goes leads b here of was_new) (leads b here).3 (record { none = rows.none; one = rows.one })
  makings_keep_whole name m known s old new at whole i progress.Waits leads b here of was_new = absurd (leads b here).3
  makings_keep_whole name m known s old new at whole i (progress.Done setting) leads b here of was_new =
      let rows = makings_go_aside K V same hash s old new at whole.all.rows i (progress.Done setting) leads b here in
      whole_then name m known s old new at whole i (progress.Done setting) leads b here of was_new
      (makings_go_beside name m known s old new at whole i (progress.Done setting) leads b here of was_new) (leads b here).3.2 (record { none = rows.none; one = rows.one })
  makings_keep_whole name m known s old new at whole i (progress.Refused fault) leads b here of was_new =
      let rows = makings_go_aside K V same hash s old new at whole.all.rows i (progress.Refused fault) leads b here in
      whole_then name m known s old new at whole i (progress.Refused fault) leads b here of was_new
      (makings_go_beside name m known s old new at whole i (progress.Refused fault) leads b here of was_new) (leads b here).3 (record { none = rows.none; one = rows.one })
