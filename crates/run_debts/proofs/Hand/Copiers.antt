-- A step of a copier that is none of a row: what it has in hand goes with the effects of the step.
use Rattle.std.specs.Prelude.{◌≡◌, ◌≢◌, ℕ, suc, ◌<◌, ◌*◌, ◌/◌, Bool, true, false, List, [], ◌∷◌, ◌++◌, Some, Ok, Err, ◌⊎◌, if◌then◌else◌}
use Rattle.std.proofs.Common.{refl, ap, sym, subst, ◌∙◌, arith, inl, inr}
use Rattle.std.proofs.lemmas.Bool.{cases_lt}
use Rattle.run_places.specs.Given.SeizeWordsDeclared.at.At.TheVariants.{Root, Word}
use Rattle.run_places.specs.Given.SeizeWordsMem.{Mem, word_at}
use Rattle.run_places.specs.Given.SeizeWordsOp.{Found, Stored, Exchanged, Made, Taken, Roomed}
use Rattle.run_places.specs.Given.SeizeWordsWord.{block_in}
use Rattle.run_places.proofs.Given.SeizeWordsOneOwner.Operations.{loaded}
use Rattle.run_places.specs.Given.SeizeWorld.{IsInside}
use Rattle.run_places.specs.Given.TablesChunks.{is_incremental}
use Rattle.run_places.specs.Given.TablesDeclared.node.Node.{Node}
use Rattle.run_places.specs.Given.TablesDeclared.setting.Setting.{Setting}
use Rattle.run_places.specs.Given.TablesDeclared.table.Table.{Table}
use Rattle.run_places.specs.Given.TablesDeclared.table_words.TheConstants.{NEXT}
use Rattle.run_places.specs.Given.ResizeCopier.{copier_plan}
use Rattle.run_places.specs.Given.ResizeCopier as copiers
use Rattle.run_places.specs.Given.ResizeCopierPromotes.{successor_read, also_retired, retiring_table}
use Rattle.run_places.specs.Given.ResizeCopierStates.{standing}
use Rattle.run_places.specs.Given.ResizeDeclared.copier.Copier.{Copier}
use Rattle.run_places.specs.Given.ResizeDeclared.copier.Copying.{Copying}
use Rattle.run_places.specs.Given.ResizeDeclared.copier.Copying.TheVariants as copying
use Rattle.run_places.specs.Given.ResizeDeclared.yielding.Yielding.{Yielding}
use Rattle.run_places.specs.Given.ResizeDeclared.yielding.Yielding.TheVariants as outcome
use Rattle.run_places.specs.Given.RawDeclared.machines.progress.Progress.{Progress}
use Rattle.run_places.specs.Given.RunsDeclared.effect.Effect.{Effect}
use Rattle.run_places.specs.Given.RunsDeclared.effect.Effect.TheVariants as effect
use Rattle.run_places.specs.Given.RunsDeclared.effect.Thing.{Thing}
use Rattle.run_places.specs.Given.SchedulesEffects.{passed}
use Rattle.run_places.specs.Given.SchedulesMoment.{Moment}
use Rattle.run_places.specs.Given.SchedulesViews.{first_or, first_of}
use Rattle.run_places.specs.Given.TellerTells.{StepsObserved}
use Rattle.run_places.specs.Given.EffectsDeclared.changed.Changed.{Changed}
use Rattle.run_places.specs.Given.EffectsDeclared.changed.Changed.TheVariants as changed
use Rattle.run_places.specs.Given.RuleChart.{Chart}
use Rattle.run_places.specs.Given.RuleInWorld.{IsMapIn}
use Rattle.run_places.specs.Given.RuleWords.{Blocks}
use Rattle.run_places.proofs.Given.RuleWords.LinksSeen.{link_made, root_leads}
use Rattle.run_places.proofs.Given.RuleWords.TablesSeen.{block_of_link}
use Rattle.owner_facts.specs.Given.PointsTold.{IsRowOfCopier}
use Rattle.owner_facts.specs.Given.PointsUnlinked.{has_unlinked}
use Rattle.owner_facts.proofs.Given.PointsBlocking.Successors.{next_read, rest_between, rest_last}
use Rattle.owner_facts.proofs.Given.PointsCopiers.CopiersWhole.{unlinks_none}
use Rattle.owner_facts.proofs.Given.PointsSteps.RootSteps.{is_promoting}
use Rattle.owner_facts.specs.Given.CallersSights.{seen_by, IsVisibility}
use Rattle.owner_facts.specs.Given.CallersTogether.{UnderWay, Together, in_slot}
use Rattle.owner_facts.proofs.Given.CallersSights.Seen.{map_seen}
use Rattle.owner_facts.proofs.Given.CallersTogether.Fits.{map_in_slot}
use Rattle.run_places.specs.Given.EffectsEffects.{effects_of}
use Rattle.run_places.specs.Given.EffectsKnown.{Known}
use Rattle.run_places.specs.Given.EffectsDeclared.acting.Acting.{Acting}
use Rattle.run_places.specs.Given.EffectsDeclared.acting.Acting.TheVariants as acts
use Rattle.run_places.specs.Given.EffectsDeclared.role.Role.TheVariants as role
use Rattle.owner_facts.specs.Given.FinishesMaps.{Standing}
use Rattle.run_places.specs.Given.FollowsMaps.{table_of}
use Rattle.run_places.specs.Given.FollowsShows.{Refines}
use Rattle.run_places.proofs.Given.FollowsSteps.{went_to}
use Rattle.run_places.proofs.Given.FollowsWrites.{root_says}
use Rattle.run_debts.specs.Hand.{thing_as, things_at, tables_from, tables_in_hand, IsTableRole, NotesTable, NotesTables}
use Rattle.run_debts.specs.Owing.{AllLeave, ObligationsGo, KeepsOwed, Passes}
use Rattle.run_debts.proofs.CopierTables.{HasEnds, HasCutFrom, SeesTables, KnowsTables}
use Rattle.run_debts.proofs.Here.{each, is_sight}
use Rattle.run_debts.proofs.Passed.{numbered, passed_none, passed_first, tables_named, tables_none, copier_none}
use Rattle.run_places.proofs.Given.ScenesTold.{as_step}
use Rattle.run_places.specs.Given.ScenesHeld.{Held, IsAt}
use Rattle.run_places.specs.Given.ScenesScene.{Scene, slot_of}
use Rattle.run_places.specs.Given.ScenesStepping.{StepLeads}

-- it has unlinked none, or goes on
abbrev pub GoesOrHas : {K V : Type 0} → Copier × Yielding (Node K V) Table → Type 0
GoesOrHas e = (has_unlinked e.0.stands ≡ false) ⊎ (e.1 ≡ outcome.Goes)

module _ {K V : Type 0} (same : K → K → Bool) (hash : ℕ → K → ℕ) (name : ℕ → List ℕ) (m : Moment K V) (known : Known) (s : Scene K V) (old new : Held K V) (at_old : IsAt same hash old s)
    (shown : Refines same name m known s) (map i : ℕ) (u : UnderWay K V K) (under_way : s.calls map i ≡ Some u) (said : Progress (Node K V)) (leads : StepLeads same hash i said s old new)
    (inside : IsInside (s.world.uses (slot_of i))) where
  abbrev st : Standing K
  st = (went_to same hash name m known s old new at_old shown map i u under_way said leads).0

  abbrev there : s.maps map ≡ Some st
  there = (went_to same hash name m known s old new at_old shown map i u under_way said leads).2

  abbrev c : Chart K
  c = st.chart

  abbrev told : Changed
  told = new.changed

  abbrev its : Acting
  its = acts.Call i map

  abbrev effects : List Effect
  effects = effects_of its known told

  abbrev setting : Setting
  setting = in_slot st.setting (slot_of i)

  abbrev blocks : Blocks
  blocks = seen_by st.blocks (st.sights (slot_of i))

  here_each : Together V same st.hash same st.setting slot_of s.world c st.blocks st.sights (s.calls map)
  here_each = each same hash name m known s old at_old shown map i st there u under_way

  here_sight : IsVisibility c st.blocks (st.sights (slot_of i))
  here_sight = is_sight same hash name m known s old at_old shown map i st there u under_way inside

  is_map : IsMapIn same st.hash setting s.world c blocks
  is_map = map_seen same st.hash setting s.world c st.blocks (st.sights (slot_of i)) (map_in_slot same st.hash st.setting s.world c st.blocks (slot_of i) here_each.ground.map) here_sight

  -- a table that it sees is noted as one, and has a block
  table_role : (t : ℕ) → t < c.past → blocks.table_known t ≡ true → (word : ℕ) → word ≡ blocks.table t * 2048 → known.roles (block_in word) ≡ role.Table (table_of map t) (c.len t)
  table_role t made is word e =
      ap (λ (x : ℕ). known.roles (block_in x)) e ∙ ap known.roles (block_of_link (st.blocks.table t))
      ∙ (shown.maps map st there).tables.roles t made (here_sight.tables t made is)

  some_table : (t : ℕ) → t < c.past → blocks.table_known t ≡ true → (word : ℕ) → word ≡ blocks.table t * 2048 → word ≢ 0
  some_table t made is word e zero = (let some = (is_map.map.shows.table_numbers t made is).0 in omega (arith, some, e, zero))

  table_noted : (t : ℕ) → t < c.past → blocks.table_known t ≡ true → (word : ℕ) → word ≡ blocks.table t * 2048 → IsTableRole (known.roles (block_in word))
  table_noted t made is word e = subst IsTableRole (sym (table_role t made is word e)) tt

  -- those from it on, up to a copier's target
  from_table : (q : Copier) (t y : ℕ) → q.target.turn ≡ y → t < c.past → blocks.table_known t ≡ true → (word : ℕ) → word ≡ blocks.table t * 2048 → tables_from known q word ≡ passed map t y
  from_table q t y turn made is word e =
      tables_named known q word (c.len t) (table_of map t) (some_table t made is word e) (table_role t made is word e) ∙ ap (passed map t) turn

  first_is : first_of map m ≡ c.first
  first_is = let its_map = (shown.maps map st there).there in ap first_or its_map.is ∙ its_map.first

  -- the table that the root's word names is the root
  root_named : (link x : ℕ) → word_at s.world.memory (Root setting.root) ≡ Some link → x < c.past → blocks.table_known x ≡ true → link ≡ blocks.table x * 2048 → x ≡ c.first
  root_named link x read made is e =
      let named = link_made c blocks link c.first (root_leads same st.hash setting.mode setting.root s.world.memory c blocks is_map.map link read)
      (is_map.map.rule.common.rooted (omega (arith, made))) in
      let there_link = named.0 in
      is_map.map.shows.tables_apart x c.first made named.1 is named.2 (omega (arith, e, there_link))

  module _ (p : Copier) (knows : KnowsTables same st.hash s.world i setting c blocks p) (end : Copier × Yielding (Node K V) Table) where
    abbrev SteppedAt : Copying → Type 0
    SteppedAt stands = StepsObserved K V (Copier × Yielding (Node K V) Table) old.memory changed.Nothing (copiers.plan_at st.hash p stands) new.memory told end

    -- what it had in hand at this point goes so
    abbrev pub GoesFrom : Copying → Copier × Yielding (Node K V) Table → Type 0
    GoesFrom stands e = ObligationsGo m effects (tables_in_hand known p stands) (tables_in_hand known e.0 e.0.stands) × NotesTables known e.0 e.0.stands × GoesOrHas e

    -- it makes its target the root, and has the tables in hand that the root has left
    module _ (ends : HasEnds same st.hash s.world i setting c blocks p) where
      abbrev x : ℕ
      x = ends.0

      abbrev y : ℕ
      y = ends.1

      abbrev from : ℕ
      from = blocks.table x * 2048

      abbrev to : ℕ
      to = blocks.table y * 2048

      source_is : p.source.link ≡ from
      source_is = ap (λ (t : Table). t.link) ends.3.is

      target_is : p.target.link ≡ to
      target_is = ap (λ (t : Table). t.link) ends.4.is

      turn_is : p.target.turn ≡ y
      turn_is = ap (λ (t : Table). t.turn) ends.4.is

      apart : block_in from ≢ block_in to
      apart e = (
          let order = ends.2 in
          let one = is_map.map.shows.tables_apart x y ends.3.made ends.4.made ends.3.known ends.4.known (omega (arith, e)) in omega (arith, order, one))

      promotes : told ≡ changed.Wrote (Root p.setting.root) p.source.link p.target.link → effects ≡ effect.Promoted (table_of map y) ∷ []
      promotes told_so =
          ap (effects_of its known) (told_so ∙ ap (λ (k : ℕ). changed.Wrote (Root p.setting.root) k p.target.link) source_is ∙ ap (λ (k : ℕ). changed.Wrote (Root p.setting.root) from k) target_is)
          ∙ (root_says its known p.setting.root from to apart (role.Table (table_of map x) (c.len x)) (role.Table (table_of map y) (c.len y))
          (table_role x ends.3.made ends.3.known from refl) (table_role y ends.4.made ends.4.known to refl)).0

      promoted_goes : word_at old.memory (Root p.setting.root) ≡ Some p.source.link → told ≡ changed.Wrote (Root p.setting.root) p.source.link p.target.link
          → end ≡ (standing p copying.Announces, outcome.Goes) → GoesFrom copying.Promotes end
      promoted_goes read told_so e =
          let here : word_at s.world.memory (Root setting.root) ≡ Some p.source.link =
          ap (λ (n : Mem (Node K V)). word_at n (Root setting.root)) at_old.memory ∙ subst (λ (z : Setting). word_at old.memory (Root z.root) ≡ Some p.source.link) knows.0 read in
          let root : x ≡ c.first = root_named p.source.link x here ends.3.made ends.3.known source_is in
          let hand : tables_from known (standing p copying.Announces) p.source.link ≡ passed map (first_of map m) y =
          from_table (standing p copying.Announces) x y turn_is ends.3.made ends.3.known p.source.link source_is ∙ ap (λ (k : ℕ). passed map k y) (root ∙ sym first_is) in
          subst (GoesFrom copying.Promotes) (sym e) (Passes (table_of map y) (promotes told_so) hand, λ some. table_noted x ends.3.made ends.3.known p.source.link source_is, inr refl)

      -- or another one was faster
      behind_none : (b : Bool) (v z : Copier) → has_unlinked v.stands ≡ false → has_unlinked z.stands ≡ false → has_unlinked (if b then v else z).stands ≡ false
      behind_none true v z f g = f
      behind_none false v z f g = g

      slower_goes : told ≡ changed.Nothing → has_unlinked end.0.stands ≡ false → GoesFrom copying.Promotes end
      slower_goes told_so none =
          let after = copier_none known end.0 end.0.stands none in
          (KeepsOwed (subst AllLeave (sym (ap (effects_of its known) told_so)) tt) after.0, after.1, inl none)

      promotes_goes : SteppedAt copying.Promotes → GoesFrom copying.Promotes end
      promotes_goes (Exchanged (Ok found), (took, told_so), e) =
          let is : found ≡ p.source.link = took.0.1 in
          promoted_goes (took.0.0 ∙ ap Some is) (told_so ∙ ap (λ (k : ℕ). changed.Wrote (Root p.setting.root) k p.target.link) is) e
      promotes_goes (Exchanged (Err found), (took, told_so), e) =
          slower_goes told_so (ap (λ (z : Copier × Yielding (Node K V) Table). has_unlinked z.0.stands) e
          ∙ behind_none p.whole (record p { place = 0; end = 0; spent = is_incremental p.setting.mode; stands = copying.Asks }) (standing p copying.Over) refl refl)
      promotes_goes (Found found, (took, told_so), e) = absurd took.0
      promotes_goes (Stored, (took, told_so), e) = absurd took.0
      promotes_goes (Made r, (took, told_so), e) = absurd took.0
      promotes_goes (Taken r, (took, told_so), e) = absurd took.0
      promotes_goes (Roomed r, (took, told_so), e) = absurd took.0

    -- it is to retire this table, and those behind it after that
    module _ (table : ℕ) (cut : HasCutFrom same st.hash s.world i setting c blocks p table) (all : AllLeave effects) where
      abbrev s0 : ℕ
      s0 = cut.0

      abbrev t0 : ℕ
      t0 = cut.1

      made : s0 < c.past
      made = let order = cut.2 in let there_made = cut.4.made in omega (arith, order, there_made)

      s0_known : blocks.table_known s0 ≡ true
      s0_known = (cut.5 s0 (omega arith) cut.2).0

      cut_turn : p.target.turn ≡ t0
      cut_turn = ap (λ (z : Table). z.turn) cut.4.is

      abbrev next : ℕ → Copier
      next link = retiring_table p table (also_retired p link)

      module _ (link : ℕ) (link_is : link ≡ blocks.table (suc s0) * 2048) where
        abbrev left : ℕ
        left = also_retired p link

        rest_goes : (tables_from known (next link) left ≡ passed map (suc s0) t0) × NotesTable known left
        rest_goes = elim (cases_lt (suc s0) t0) as (λ _. (tables_from known (next link) left ≡ passed map (suc s0) t0) × NotesTable known left) [
          | inl more ↦ (
              let is = rest_between same st.hash i setting s.world c blocks is_map p knows.0 s0 t0 cut.2 cut.4 cut.5 table cut.3 link link_is more in
              let made2 : suc s0 < c.past = (let there_made = cut.4.made in omega (arith, more, there_made)) in
              let its_known = (cut.5 (suc s0) (omega arith) more).0 in
              (from_table (next link) (suc s0) t0 cut_turn made2 its_known left is, λ some. table_noted (suc s0) made2 its_known left is)
              )
          | inr last ↦ (
              let order = cut.2 in
              let none = rest_last same st.hash i setting s.world c blocks is_map p knows.0 s0 t0 cut.2 cut.4 cut.5 table cut.3 link link_is (omega (arith, order, last)) in
              (tables_none known (next link) left none ∙ sym (passed_none map (suc s0) t0 last), λ some. absurd (some none))
              )
        ]

        succeeds_as : end ≡ (next link, outcome.Goes) → GoesFrom (copying.Succeeds table) end
        succeeds_as e =
            let its_role = table_role s0 made s0_known table cut.3 in
            let first : things_at known (Some table) ≡ numbered map s0 ∷ [] = ap thing_as its_role in
            let hand : things_at known (Some table) ++ tables_from known (next link) left ≡ tables_from known p table =
            ap (λ (l : List Thing). l ++ tables_from known (next link) left) first ∙ ap (λ (l : List Thing). numbered map s0 ∷ l) rest_goes.0
            ∙ sym (passed_first map s0 t0 cut.2) ∙ sym (from_table p s0 t0 cut_turn made s0_known table cut.3) in
            subst (GoesFrom (copying.Succeeds table)) (sym e) (KeepsOwed all hand, (table_noted s0 made s0_known table cut.3, rest_goes.1), inr refl)

      succeeds_goes : SteppedAt (copying.Succeeds table) → GoesFrom (copying.Succeeds table) end
      succeeds_goes steps =
          let l = loaded old.memory (successor_read p table) (Word (table / 2048) NEXT) new.memory end
          (as_step old.memory changed.Nothing (copiers.plan_at st.hash p (copying.Succeeds table)) new.memory told end steps) in
          let here : word_at s.world.memory (Word (table / 2048) NEXT) ≡ Some l.0 = ap (λ (n : Mem (Node K V)). word_at n (Word (table / 2048) NEXT)) at_old.memory ∙ l.1 in
          succeeds_as l.0 (next_read same st.hash i setting s.world c blocks is_map p knows.0 s0 t0 cut.2 cut.4 cut.5 table cut.3 l.0 here) l.3

    -- one that neither is to make its target the root, nor has unlinked tables, has none
    plain_goes : (stands : Copying) → p.stands ≡ stands → has_unlinked stands ≡ false → is_promoting stands ≡ false → AllLeave effects → SteppedAt stands → GoesFrom stands end
    plain_goes stands is none other all steps =
        let before = copier_none known p stands none in
        let ended : has_unlinked end.0.stands ≡ false =
        unlinks_none st.hash p old.memory new.memory end
        (as_step old.memory changed.Nothing (copier_plan st.hash p) new.memory told end (subst SteppedAt (sym is) steps)) (ap has_unlinked is ∙ none) (ap is_promoting is ∙ other) in
        let after = copier_none known end.0 end.0.stands ended in
        (KeepsOwed all (after.0 ∙ sym before.0), after.1, inl ended)

    abbrev Leaves : Copying → Type 0
    Leaves stands = is_promoting stands ≡ false → AllLeave effects

    goes_at : (stands : Copying) → p.stands ≡ stands → (IsRowOfCopier stands → ⊥) → SeesTables same st.hash s.world i setting c blocks p stands → NotesTables known p stands
        → Leaves stands → SteppedAt stands → GoesFrom stands end
    goes_at copying.Promotes is row sees notes leaves steps = promotes_goes sees steps
    goes_at copying.Announces is row sees notes leaves steps = subst (GoesFrom copying.Announces) (sym steps.2) (KeepsOwed (leaves refl) refl, notes, inr refl)
    goes_at (copying.Succeeds table) is row sees notes leaves steps = succeeds_goes table sees (leaves refl) steps
    goes_at (copying.Retires settle rest) is row sees notes leaves steps = absurd (row tt)
    goes_at stands is row sees notes leaves steps = plain_goes stands is refl refl (leaves refl) steps

    -- what it has in hand goes so, where its effects take nothing out but as it promotes
    abbrev pub CopierGoes : Type 0
    CopierGoes = GoesFrom p.stands end

    pub copier_goes : (IsRowOfCopier p.stands → ⊥) → NotesTables known p p.stands → Leaves p.stands
        → StepsObserved K V (Copier × Yielding (Node K V) Table) old.memory changed.Nothing (copier_plan st.hash p) new.memory told end → CopierGoes
    copier_goes row notes leaves steps = goes_at p.stands refl row knows.1 notes leaves steps
