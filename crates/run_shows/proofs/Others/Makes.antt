-- A step of the making of a map: the moment after its effects shows the scene after it, and by the last one the map.
use Rattle.std.specs.Prelude.{◌≡◌, ◌≢◌, ℕ, ◌*◌, ◌<◌, ◌≤◌, ◌==◌, Bool, true, cond, eqb, max, List, [], ◌∷◌, ◌++◌, length, filter, Option, Some, None, IsSome, if◌then◌else◌}
use Rattle.std.proofs.Common.{refl, ap, sym, subst, ◌∙◌, arith, inl, inr, append-nil}
use Rattle.std.proofs.lemmas.Bool.{ne_eqb, eq-eqb, cases_eq}
use Rattle.std.proofs.lemmas.List.Elements.{filter-append}
use Rattle.seize_words.specs.declared.at.At.{At}
use Rattle.seize_words.specs.declared.at.At.TheVariants.{Root, Used, Slot, Entry, Word}
use Rattle.seize_words.specs.declared.fault.Fault.{Fault}
use Rattle.seize_words.specs.OneMemory.Mem.{Mem, value_at, word_at}
use Rattle.seize_words.specs.OneMemory.Word.{block_in}
use Rattle.seize.specs.World.{World, Hand, Making as MadeBy, with_at}
use Rattle.seize.specs.declared.advance.Advance.{Advance}
use Rattle.seize.specs.declared.advance.Advance.TheVariants as progress
use Rattle.run_effects.specs.Given.TablesChunks.{is_incremental}
use Rattle.run_effects.specs.Given.TablesNodes.{deferred_word}
use Rattle.run_effects.specs.Given.TablesDeclared.node.Node.{Node}
use Rattle.run_effects.specs.Given.TablesDeclared.node.Node.TheVariants as node
use Rattle.run_effects.specs.Given.TablesDeclared.setting.Setting.{Setting}
use Rattle.run_effects.specs.Given.TablesDeclared.status.TheConstants.Status.{PROMOTED}
use Rattle.run_effects.specs.Given.TablesDeclared.table.Table.{Table as Planned}
use Rattle.run_effects.specs.Given.ResizeNewMap.{new_map_plan}
use Rattle.run_effects.specs.Given.ResizeDeclared.new_map.NewMap.{NewMap}
use Rattle.run_effects.specs.Given.ResizeDeclared.new_map.Opening.{Opening}
use Rattle.run_effects.specs.Given.ResizeDeclared.new_map.Opening.TheVariants as opening
use Rattle.run_effects.specs.Given.RunsDeclared.shapes.TableShape.{TableShape}
use Rattle.run_effects.specs.Given.RunsDeclared.effect.Effect.{Effect}
use Rattle.run_effects.specs.Given.RunsDeclared.effect.Effect.TheVariants.{Asked, PairGivenUp, TableGivenUp, Linked}
use Rattle.run_effects.specs.Given.RunsDeclared.effect.Growth.TheVariants.{ABlock}
use Rattle.run_effects.specs.Given.RunsDeclared.effect.TableId.{TableId}
use Rattle.run_effects.specs.Given.SchedulesEffects.{with_effects}
use Rattle.run_effects.specs.Given.SchedulesLists.{put}
use Rattle.run_effects.specs.Given.SchedulesMoment.{IsLinked, TableThere, Moment}
use Rattle.run_effects.specs.Given.SchedulesViews.{tables_of}
use Rattle.run_effects.specs.declared.changed.Changed.{Changed}
use Rattle.run_effects.specs.declared.changed.Changed.TheVariants as changed
use Rattle.run_effects.specs.declared.changed.Kind.{Kind}
use Rattle.run_effects.specs.declared.changed.Kind.TheVariants as kind
use Rattle.run_effects.specs.Given.RuleChart.{Chart}
use Rattle.run_effects.specs.Given.RuleInWorld.{IsMapIn}
use Rattle.run_effects.specs.Given.RuleMaps.{spot_of}
use Rattle.many_maps.specs.Given.RuleMoves.{Links, after as after_move}
use Rattle.run_effects.specs.Given.RuleRule.{no_table}
use Rattle.run_effects.specs.Given.RuleWords.{root_word}
use Rattle.run_effects.proofs.Given.RuleWords.TablesSeen.{block_of_link}
use Rattle.many_maps.specs.Given.PointsFactsTables.{IsOwnTable, IsPlanned}
use Rattle.many_maps.proofs.Given.CallersTogether.At.{at_other, at_same}
use Rattle.many_maps.specs.Endings.{MakingStepsWithEndings}
use Rattle.many_maps.specs.Makings.{Beginning, MakingFacts, OpeningFacts, HasTaken, HasMade, IsMade, IsNewChart, PreservesItsOwn}
use Rattle.many_maps.specs.Maps.{Standing}
use Rattle.run_effects.specs.Effects.Effects.{names_same, named, made_by, made_role, taken_by, effects_of, known_after}
use Rattle.run_effects.specs.Effects.Known.{Known, with_role}
use Rattle.run_effects.specs.declared.acting.Acting.{Acting}
use Rattle.run_effects.specs.declared.acting.Acting.TheVariants as acts
use Rattle.run_effects.specs.declared.role.Role.{Role}
use Rattle.run_effects.specs.declared.role.Role.TheVariants as role
use Rattle.run_shows.specs.Follows.Blocks.{WasLinked, HasRole}
use Rattle.run_shows.specs.Follows.Calls.{RefinesCalls}
use Rattle.run_shows.specs.Follows.Maps.{table_of, shape_at, RefinesMap}
use Rattle.run_shows.specs.Follows.Shows.{Refines}
use Rattle.run_shows.proofs.Follows.Alike.{AllStill, AreSame, IsAlike, put_here, put_elsewhere}
use Rattle.run_shows.proofs.Follows.Onward.{IsLasting}
use Rattle.run_shows.proofs.Follows.Operations.{LeavesBy, operated, operated_leaves}
use Rattle.run_shows.proofs.Follows.Writes.{Says, root_says, nothing_free, own_table}
use Rattle.run_shows.specs.Others.After.{RefinesAfter}
use Rattle.run_shows.specs.Others.Makings.{IsNew, WasNew, NotesCounter, making_after, MakingsAreShown}
use Rattle.run_shows.proofs.Others.Leads.{word_says, calls_then, nothing, made, gone_quiet}
use Rattle.run_shows.proofs.Others.MadeBlocks.{not_pair, still_made, made_has, lasting_there}
use Rattle.run_shows.proofs.Others.MakingPlans.{KeepsValues, TellsMaking, DoneBy, making_tells, making_keeps, has_root, making_done}
use Rattle.run_shows.proofs.Others.NewMap.{no_tables_shown, one_table_shown, new_shown}
use Rattle.run_shows.proofs.Others.Quiet.{all_quiet, stored_none}
use Rattle.run_shows.proofs.Others.Scenes.{one_put}
use Rattle.run_shows.proofs.Others.Stays.{StaysBlock, same_maps}
use Rattle.run_shows.proofs.Others.Users.{events_stay}
use Rattle.run_shows.proofs.Scenes.May.{may_make}
use Rattle.run_shows.specs.Scenes.Held.{Held, IsAt}
use Rattle.run_shows.specs.Scenes.Making.{MakingHasOutcome, MakingStepsFrom}
use Rattle.run_shows.specs.Scenes.Scene.{Scene, slot_of}
use Rattle.run_shows.proofs.Follows.Quiet.{DoneStill as DoesNothing}
use Rattle.seize_words.proofs.General.{same_some as one_of}

module _ {K V : Type 0} (same : K → K → Bool) (hash : ℕ → K → ℕ) (name : ℕ → List ℕ) (m : Moment K V) (known : Known) (s : Scene K V) (old new : Held K V) (at : IsAt same hash old s)
    (shown : Refines same name m known s) (i : ℕ) (b : Beginning K) (here : s.makers i ≡ Some b) (end : NewMap) (said : Advance Setting) (steps : MakingStepsFrom b.machine old new end said)
    (did : MakingStepsWithEndings V same same old.batch_size old.roots slot_of s.world s.maps s.calls s.makers s.enders i b new.memory (end, said)) (of : Option ℕ) where
  abbrev w : World (Node K V)
  w = s.world

  abbrev w2 : World (Node K V)
  w2 = did.step.w2

  abbrev told : Changed
  told = new.changed

  abbrev its : Acting
  its = acts.Making b.map

  pub facts : MakingFacts w same old.batch_size old.roots i b
  facts = at.together.makings.facts i b here

  not_there : s.maps b.map ≡ None
  not_there = at.together.makings.coming i b here

  pub tells : TellsMaking w i b.machine.setting.root told
  tells = making_tells w i old.roots b.machine old.memory new.memory told (end, said) facts.point steps

  in_world : (P : Mem (Node K V) → Mem (Node K V) → Type 0) → P old.memory new.memory → P w.memory w2.memory
  in_world P p = subst (λ (n : Mem (Node K V)). P w.memory n) (sym did.step.memory) (subst (λ (n : Mem (Node K V)). P n new.memory) (sym at.memory) p)

  values : KeepsValues w.memory w2.memory told
  values = in_world (λ n n2. KeepsValues n n2 told)
      (making_keeps w i old.roots b.machine old.memory new.memory told (end, said) facts.point (may_make same hash old s at i b here) steps)

  pub left : LeavesBy w.memory w2.memory told
  left = in_world (λ n n2. LeavesBy n n2 told)
      (operated_leaves old.memory new.memory told (operated old.memory new.memory told (new_map_plan b.machine) (end, said) (may_make same hash old s at i b here) steps))

  stood : (n : ℕ) (before : Standing K) → s.maps n ≡ Some before → IsMapIn same before.hash before.setting w before.chart before.blocks
  stood n before e = (at.together.makings.standing.each n before e).ground.map

  -- a block that is as it was was linked still
  pub linked_stays : (x : ℕ) (value : Node K V) → value_at w.memory x ≡ Some value → WasLinked (w.hand x) → (value_at w2.memory x ≡ value_at w.memory x) × WasLinked (w2.hand x)
  linked_stays x value is linked = events_stay deferred_word x old.batch_size did.step.events w w2 did.step.users did.step.runs (record { some = subst (λ (o : Option (Node K V)). IsSome o) (sym is) refl; linked = linked })

  stays : (x : ℕ) → value_at w2.memory x ≡ value_at w.memory x → StaysBlock w w2 x
  stays x e = record { value = e; linked = λ value is linked. (linked_stays x value is linked).1 }

  -- a block that it has made is no table of a map
  pub no_table_word : (x : ℕ) (q : Bool) → w.hand x ≡ MadeBy i → (t : TableId) (len : ℕ) → known.roles x ≡ role.Table t len → q ≡ true
  no_table_word x q made t len e = absurd (let has : HasRole w m.stored x (role.Table t len) = subst (λ (r : Role). HasRole w m.stored x r) e (shown.blocks.roles x) in subst WasLinked made has.2)

  -- where it leads beside the map that it makes
  module _ (rest : Scene K V) (calls : RefinesCalls same name m rest.calls) (stand : (n : ℕ) (st : Standing K) → s.maps n ≡ Some st → IsMapIn same st.hash st.setting w2 st.chart st.blocks) where
    abbrev pub Goal : List Effect → Known → Type 0
    Goal effects after = RefinesAfter same name m known s shown (with_effects None of effects m) after (record rest { world = w2; maps = s.maps })

    -- a block was taken away that was not linked
    taken : (x : ℕ) → value_at w2.memory x ≡ None → ((y : ℕ) → y ≢ x → value_at w2.memory y ≡ value_at w.memory y) → (r : Role) → known.roles x ≡ r → Goal (taken_by its r) (with_role x role.Free known)
    taken x gone others r e = by r e
      where
        none_moved : (effects : List Effect) → AllStill effects → Goal effects (with_role x role.Free known)
        none_moved effects none = gone_quiet same name m known s shown w2 s.maps (λ n. same_maps (s.maps n)) of rest calls stood stand effects none x gone (λ y ne. stays y (others y ne))

        has : (r : Role) → known.roles x ≡ r → HasRole w m.stored x r
        has r e = subst (λ (r : Role). HasRole w m.stored x r) e (shown.blocks.roles x)

        by : (r : Role) → known.roles x ≡ r → Goal (taken_by its r) (with_role x role.Free known)
        by role.Free e = none_moved [] tt
        by (role.OwnPair caller) e = none_moved (PairGivenUp ∷ []) (refl, tt)
        by (role.OwnTable turn shape) e = none_moved (TableGivenUp (record { map = b.map; turn = turn }) ∷ []) (refl, tt)
        by (role.Counter map) e = none_moved [] tt
        by (role.Pair k) e = absurd (let it = has (role.Pair k) e in let there = it.3 in let kept = (linked_stays x _ it.3 it.4).0 in cc (there, kept, gone))
        by (role.Table t len) e = absurd (let it = has (role.Table t len) e in let there = it.1 in let kept = (linked_stays x _ it.1 it.2).0 in cc (there, kept, gone))

    module _ (rooted : (r before after : ℕ) → told ≡ changed.Wrote (Root r) before after → Goal (effects_of its known (changed.Wrote (Root r) before after)) (known_after its (changed.Wrote (Root r) before after) known)) where
      still : (effects : List Effect) (after : Known) → DoesNothing known effects after → ((x : ℕ) → value_at w2.memory x ≡ value_at w.memory x) → Goal effects after
      still effects after does kept = nothing same name m known s shown w2 s.maps (λ n. same_maps (s.maps n)) of rest calls effects after does (λ x. stays x (kept x))

      leads : (x : Changed) → told ≡ x → TellsMaking w i b.machine.setting.root x → LeavesBy w.memory w2.memory x → KeepsValues w.memory w2.memory x → Goal (effects_of its known x) (known_after its x known)
      leads changed.Nothing is so l kept = still [] known (tt, refl) kept
      leads (changed.Wrote (Root r) before after) is so l kept = rooted r before after is
      leads (changed.Wrote (Used r) before after) is so l kept = still [] known (tt, refl) kept
      leads (changed.Wrote (Slot t field) before after) is so l kept = absurd so
      leads (changed.Wrote (Entry x field) before after) is so l kept = absurd so
      leads (changed.Wrote (Word x field) before after) is so l kept =
          still _ _ (word_says its known field (block_in after) (known.roles x) (names_same before after) (named known before) (named known after) (no_table_word x (names_same before after) so)) kept
      leads (changed.Made k x) is so l kept =
          made same name m known s shown w2 s.maps (λ n. same_maps (s.maps n)) of rest calls (Asked ABlock ∷ made_by its k) (still_made its k) x (made_role its k)
          (λ last. lasting_there w m.stored x (known.roles x) (shown.blocks.roles x) last l.0)
          (subst (λ (it : Kind). HasRole w2 m.stored x (made_role its it)) l.2 (made_has w2 m.stored its x l.1 l.3)) (not_pair its k) (λ y ne. stays y (kept y ne))
      leads (changed.Unmade k) is so l kept = still (Asked ABlock ∷ []) known ((refl, tt), refl) kept
      leads (changed.Took x) is so l kept = taken x l.1 kept (known.roles x) refl
      leads (changed.Roomed bucket had) is so l kept = absurd so

      pub making_leads : Goal (effects_of its known told) (known_after its told known)
      making_leads = leads told refl tells left values

  -- a root that it has taken leads nowhere as long as it goes on
  taken_root : (u : World (Node K V)) (roots : ℕ) (n : NewMap) (p : Opening) → OpeningFacts u roots i n p → HasTaken p → word_at u.memory (Root n.setting.root) ≡ Some 0
  taken_root u roots n opening.Takes k taken = absurd taken
  taken_root u roots n opening.Shards k taken = k.1
  taken_root u roots n (opening.Tables making) k taken = k.0.1
  taken_root u roots n (opening.Unmakes fault) k taken = k.0.1
  taken_root u roots n (opening.Frees fault) k taken = k.1
  taken_root u roots n opening.Over k taken = absurd taken
  taken_root u roots n (opening.Refused fault) k taken = absurd taken

  keeps : (t : Advance Setting) → said ≡ t → PreservesItsOwn V same same old.batch_size old.roots slot_of w w2 b.machine (end, t)
  keeps t e = subst (λ (x : Advance Setting). PreservesItsOwn V same same old.batch_size old.roots slot_of w w2 b.machine (end, x)) e did.step.keeps

  -- its root was written
  module _ (r before after : ℕ) (is : told ≡ changed.Wrote (Root r) before after) where
    wrote : TellsMaking w i b.machine.setting.root (changed.Wrote (Root r) before after)
    wrote = subst (TellsMaking w i b.machine.setting.root) is tells

    words : LeavesBy w.memory w2.memory (changed.Wrote (Root r) before after)
    words = subst (LeavesBy w.memory w2.memory) is left

    taken_then : HasTaken b.machine.stands
    taken_then = has_root w i old.roots b.machine old.memory new.memory told (end, said) facts.point steps r before after is

    root_after : word_at w2.memory (Root b.machine.setting.root) ≡ Some after
    root_after = subst (λ (x : ℕ). word_at w2.memory (Root x) ≡ Some after) wrote.0 words.1

    -- it leads somewhere
    not_zero : word_at w2.memory (Root b.machine.setting.root) ≡ Some 0 → ⊥
    not_zero none =
        let zero_is : after ≡ 0 = (let there = root_after in cc (there, none)) in
        let link = wrote.3 in let block = wrote.4.link in let some = wrote.4.number.0 in omega (arith, zero_is, link, block, some)

    pub not_going : said ≡ progress.Goes → IsAt same hash new (record s { world = w2; makers = with_at s.makers i (Some (record b { machine = end })) }) → ⊥
    not_going e there =
        let going = (keeps progress.Goes e).0 taken_then in
        let after_it = there.together.makings.facts i (record b { machine = end }) (at_same s.makers i (Some (record b { machine = end })) i refl) in
        not_zero (subst (λ (x : ℕ). word_at w2.memory (Root x) ≡ Some 0) going.1 (taken_root w2 new.roots end end.stands after_it.point going.0))

    pub not_refused : (fault : Fault) → said ≡ progress.Refused fault → ⊥
    not_refused fault e = not_zero ((keeps (progress.Refused fault) e).0 taken_then).1

  -- Its map stands.
  module _ (setting : Setting) (done : said ≡ progress.Done setting) (st : Standing K) (made_so : IsMade V same same old.batch_size old.roots slot_of b setting st)
      (there : IsAt same hash new (record s { world = w2; maps = with_at s.maps b.map (Some st); makers = with_at s.makers i None }))
      (notes : NotesCounter known b) (was_new : IsNew b.map setting m) where
    abbrev rest : Scene K V
    rest = record s { world = w2; maps = with_at s.maps b.map (Some st); makers = with_at s.makers i None }

    its_map : IsMapIn same st.hash st.setting w2 st.chart st.blocks
    its_map = (there.together.makings.standing.each b.map st (at_same s.maps b.map (Some st) b.map refl)).ground.map

    stand_beside : (n : ℕ) (x : Standing K) → s.maps n ≡ Some x → IsMapIn same x.hash x.setting w2 x.chart x.blocks
    stand_beside n x e = (there.together.makings.standing.each n x (at_other s.maps b.map (Some st) n (λ same_number. (let none = ap s.maps same_number ∙ not_there in cc (none, e))) ∙ e)).ground.map

    done_by : DoneBy w i old.roots b.machine old.memory new.memory told setting told
    done_by = making_done w i old.roots b.machine old.memory new.memory told end setting facts.point
        (subst (λ (x : Advance Setting). MakingStepsFrom b.machine old new end x) done steps)

    -- both what is beside it, and the map
    abbrev Both : List Effect → Known → Type 0
    Both effects after = Goal rest shown.calls stand_beside effects after × RefinesMap b.map (λ n. 0) st (with_effects None of effects m) after

    -- where it has no table, its counter was made by this step
    no_table_done : (k : Kind) (x : ℕ) → told ≡ changed.Made k x → (b.machine.len ≡ 0) × (k ≡ kind.Shards) × (setting.counter ≡ x) → Both (effects_of its known told) (known_after its told known)
    no_table_done k x is by_it = (
      making_leads rest shown.calls stand_beside (λ r before after wrote_root. absurd (cc (is, wrote_root))),
      subst (λ (y : Changed). RefinesMap b.map (λ n. 0) st (with_effects None of (effects_of its known y) m) (known_after its y known)) (sym is)
          (new_shown b.map st m v (with_role x (made_role its k) known) setting was_new made_so.setting_is (ap (λ (c : Chart K). c.stored) chart_is) (ap (λ (c : Chart K). c.first) chart_is) alike.place alike.maps counter
          (no_tables_shown b.map st m v (with_role x (made_role its k) known) (ap (λ (c : Chart K). c.past) chart_is) (ap (λ ts. filter (λ t. t.table.map == b.map) ts) alike.tables ∙ was_new.no_tables))),
    )
      where
        v : Moment K V
        v = with_effects None of (Asked ABlock ∷ made_by its k) m

        alike : AreSame m (with_effects None of (Asked ABlock ∷ made_by its k) m)
        alike = all_quiet of (Asked ABlock ∷ made_by its k) m (still_made its k)

        chart_is : st.chart ≡ no_table
        chart_is = by made_so.chart_is
          where
            by : IsNewChart b.hash setting b.places st.chart → st.chart ≡ no_table
            by (inl none) = none.1
            by (inr some) = absurd (some.0 (sym facts.len_is ∙ by_it.0))

        counter : put x (made_role its k) known.roles setting.counter ≡ role.Counter b.map
        counter = put_here x (made_role its k) known.roles setting.counter by_it.2 ∙ ap (made_role its) by_it.1

    -- and else its root leads to its table
    module _ (r before after : ℕ) (is : told ≡ changed.Wrote (Root r) before after) (by_it : HasMade b.machine.stands × (b.machine.len ≢ 0)) where
      abbrev it : Planned
      it = (wrote r before after is).2

      abbrev own : IsOwnTable w i it PROMOTED
      own = (wrote r before after is).4

      abbrev planned : IsPlanned it 0
      planned = (wrote r before after is).5

      abbrev shape : TableShape
      shape = record { len = it.len; limit = it.limit }

      block_is : block_in after ≡ own.block
      block_is = ap block_in ((wrote r before after is).3 ∙ own.link) ∙ block_of_link own.block

      before_is : before ≡ 0
      before_is =
          let was = subst (λ (x : ℕ). word_at w.memory (Root x) ≡ Some before) (wrote r before after is).0 (words r before after is).0 in
          let empty = (wrote r before after is).1 in cc (was, empty)

      role_before : known.roles (block_in before) ≡ role.Free
      role_before = ap (λ (x : ℕ). known.roles (block_in x)) before_is ∙ nothing_free w m.stored known shown.blocks.roles

      role_then : known.roles (block_in after) ≡ role.OwnTable it.turn shape
      role_then = ap known.roles block_is ∙ own_table w m.stored known shown.blocks.roles own.block i it.len it.limit it.turn (let least = planned.len.least in omega (arith, least)) own.hand own.value

      apart : block_in before ≢ block_in after
      apart e = (let none : role.Free ≡ role.OwnTable it.turn shape = sym role_before ∙ ap known.roles e ∙ role_then in cc none)

      abbrev table : TableId
      table = record { map = b.map; turn = it.turn }

      abbrev known_then : Known
      known_then = with_role (block_in after) (role.Table table it.len) known

      says : Says its known (Root r) before after (Linked table shape ∷ []) known_then
      says = root_says its known r before after apart role.Free (role.OwnTable it.turn shape) role_before role_then

      chart_so : (b.places ≢ 0) × (limit : ℕ) × (st.chart ≡ after_move (spot_of b.hash) (is_incremental setting.mode) (Links (max b.places 8) limit) no_table)
      chart_so = by made_so.chart_is
        where
          by : IsNewChart b.hash setting b.places st.chart
              → (b.places ≢ 0) × (limit : ℕ) × (st.chart ≡ after_move (spot_of b.hash) (is_incremental setting.mode) (Links (max b.places 8) limit) no_table)
          by (inl none) = absurd (by_it.1 (facts.len_is ∙ none.0))
          by (inr some) = some

      past_is : st.chart.past ≡ 1
      past_is = ap (λ (c : Chart K). c.past) chart_so.2

      first_is : st.chart.first ≡ 0
      first_is = ap (λ (c : Chart K). c.first) chart_so.2

      root_is : st.setting.root ≡ b.machine.setting.root
      root_is = ap (λ (x : Setting). x.root) made_so.setting_is ∙ (keeps (progress.Done setting) done).0 (taken_then r before after is)

      -- the word names its block
      its_block : block_in after ≡ st.blocks.table 0
      its_block =
          let leads = subst (λ (x : ℕ). word_at w2.memory (Root x) ≡ Some (root_word st.hash st.chart st.blocks)) root_is its_map.map.shows.root_there in
          let to : root_word st.hash st.chart st.blocks ≡ st.blocks.table 0 * 2048 =
          ap (λ (p : ℕ). cond (eqb p 0) 0 (st.blocks.table st.chart.first * 2048)) past_is ∙ ap (λ (f : ℕ). st.blocks.table f * 2048) first_is in
          let now = root_after r before after is in
          let word_is : after ≡ root_word st.hash st.chart st.blocks = cc (leads, now) in
          ap block_in (word_is ∙ to) ∙ block_of_link (st.blocks.table 0)

      from_root : st.chart.first ≤ 0
      from_root = omega (arith, first_is)

      made_one : 0 < st.chart.past
      made_one = omega (arith, past_is)

      value_then : value_at w2.memory (block_in after) ≡ Some (node.Table it.len it.limit it.turn)
      value_then = ap (value_at w2.memory) block_is ∙ (words r before after is).2 own.block ∙ own.value

      value_of_map : value_at w2.memory (block_in after) ≡ Some (node.Table (st.chart.len 0) (st.chart.limit 0) 0)
      value_of_map = ap (value_at w2.memory) its_block ∙ (its_map.map.shows.tables 0 made_one (its_map.map.shows.linked 0 from_root made_one)).value

      len_is : it.len ≡ st.chart.len 0
      len_is = cc (value_then, value_of_map)

      limit_is : it.limit ≡ st.chart.limit 0
      limit_is = cc (value_then, value_of_map)

      linked_hand : WasLinked (w2.hand (block_in after))
      linked_hand = subst (λ (h : Hand). WasLinked h) (sym (ap w2.hand its_block ∙ its_map.tables 0 from_root made_one)) tt

      abbrev v : Moment K V
      v = with_effects None of (Linked table shape ∷ []) m

      abbrev entry : TableId → TableShape → TableThere
      entry t shape = record { table = t; shape = shape; stage = IsLinked }

      born_is : (o : Option ℕ) → (with_effects None o (Linked table shape ∷ []) m).born ≡ m.born
      born_is None = refl
      born_is (Some n) = refl

      others_alike : (n : ℕ) (before : Standing K) → s.maps n ≡ Some before → IsAlike n m v
      others_alike n x e = record {
        pairs = record {
          place = λ k l. refl;
          all = λ k at. at;
          born = λ k l. ap (λ (f : ℕ → TableId). (f k).map) (born_is of);
          stored = (let e = ap length (stored_none of (Linked table shape ∷ []) m) in omega (arith, e));
        };
        tables = record {
          there = refl;
          tables = filter-append (λ t. t.table.map == n) m.tables (entry table shape ∷ [])
              ∙ ap (λ ts. tables_of n m ++ ts) (ap (λ q. if q then entry table shape ∷ [] else []) (ne_eqb b.map n other)) ∙ append-nil (tables_of n m);
        };
      }
        where
          other : b.map ≢ n
          other same_number = (let none = ap s.maps (sym same_number) ∙ not_there in cc (none, e))

      beside : Goal rest shown.calls stand_beside (Linked table shape ∷ []) known_then
      beside =
          one_put same name m known s shown w2 s.maps (λ n. same_maps (s.maps n)) v known_then (stored_none of (Linked table shape ∷ []) m) others_alike (block_in after) (role.Table table it.len) refl refl
          (λ last. subst IsLasting role_then last) (it.limit, value_then, linked_hand) (λ n e. cc e) (λ y ne. stays y ((words r before after is).2 y)) rest
          (calls_then same name m known s shown w2 s.maps (λ n. same_maps (s.maps n)) of rest shown.calls (Linked table shape ∷ []))

      listed : tables_of b.map v ≡ entry (table_of b.map 0) (shape_at b.map st.chart 0) ∷ []
      listed =
          filter-append (λ t. t.table.map == b.map) m.tables (entry table shape ∷ [])
          ∙ ap (λ ts. ts ++ filter (λ t. t.table.map == b.map) (entry table shape ∷ [])) was_new.no_tables
          ∙ ap (λ q. if q then entry table shape ∷ [] else []) (eq-eqb b.map b.map refl)
          ∙ ap (λ (turn : ℕ). entry (table_of b.map turn) shape ∷ []) planned.turn_is
          ∙ ap (λ (len : ℕ). entry (table_of b.map 0) (record { len = len; limit = it.limit }) ∷ []) len_is
          ∙ ap (λ (limit : ℕ). entry (table_of b.map 0) (record { len = st.chart.len 0; limit = limit }) ∷ []) limit_is

      its_role : known_then.roles (st.blocks.table 0) ≡ role.Table (table_of b.map 0) (st.chart.len 0)
      its_role =
          put_here (block_in after) (role.Table table it.len) known.roles (st.blocks.table 0) (sym its_block)
          ∙ ap (λ (turn : ℕ). role.Table (table_of b.map turn) it.len) planned.turn_is ∙ ap (role.Table (table_of b.map 0)) len_is

      counter_is : known_then.roles setting.counter ≡ role.Counter b.map
      counter_is =
          put_elsewhere (block_in after) (role.Table table it.len) known.roles setting.counter
          (λ e. (let two : role.Counter b.map ≡ role.OwnTable it.turn shape = sym noted ∙ ap known.roles e ∙ role_then in cc two)) ∙ noted
        where
          noted : known.roles setting.counter ≡ role.Counter b.map
          noted = ap known.roles ((keeps (progress.Done setting) done).1 by_it.0) ∙ notes by_it.0

      of_map : RefinesMap b.map (λ n. 0) st v known_then
      of_map = new_shown b.map st m v known_then setting was_new made_so.setting_is (ap (λ (c : Chart K). c.stored) chart_so.2) first_is refl refl counter_is (one_table_shown b.map st m v known_then past_is its_role listed)

      one_table_done : Both (effects_of its known (changed.Wrote (Root r) before after)) (known_after its (changed.Wrote (Root r) before after) known)
      one_table_done = subst (λ (effects : List Effect). Both effects (known_after its (changed.Wrote (Root r) before after) known)) (sym says.0) (subst (λ (k : Known). Both (Linked table shape ∷ []) k) (sym says.1) (beside, of_map))

    -- a block that comes by its root, which it had made, is its first table
    pub came_first : (r before after : ℕ) → told ≡ changed.Wrote (Root r) before after
        → (block_in after ≡ st.blocks.table 0) × (st.chart.past ≡ 1) × (st.chart.first ≡ 0) × (shape : TableShape) × (known.roles (block_in after) ≡ role.OwnTable 0 shape)
    came_first r before after is =
        let by_it = subst (λ (x : Changed). DoneBy w i old.roots b.machine old.memory new.memory told setting x) is done_by in
        let had : HasMade b.machine.stands × (b.machine.len ≢ 0) = (by_it.0, by_it.1) in (
          its_block r before after is had,
          past_is r before after is had,
          first_is r before after is had,
          shape r before after is had,
          role_then r before after is had ∙ ap (λ (turn : ℕ). role.OwnTable turn (shape r before after is had)) (planned r before after is had).turn_is,
        )

    done_so : (x : Changed) → told ≡ x → DoneBy w i old.roots b.machine old.memory new.memory told setting x → Both (effects_of its known x) (known_after its x known)
    done_so changed.Nothing is by_it = absurd by_it
    done_so (changed.Wrote a before after) is by_it =
        let root_is : told ≡ changed.Wrote (Root b.machine.setting.root) before after = is ∙ ap (λ (y : At). changed.Wrote y before after) by_it.2 in
        subst (λ (y : At). Both (effects_of its known (changed.Wrote y before after)) (known_after its (changed.Wrote y before after) known)) (sym by_it.2)
        (one_table_done b.machine.setting.root before after root_is (by_it.0, by_it.1))
    done_so (changed.Made k x) is by_it = subst (λ (y : Changed). Both (effects_of its known y) (known_after its y known)) is (no_table_done k x is by_it)
    done_so (changed.Unmade k) is by_it = absurd by_it
    done_so (changed.Took x) is by_it = absurd by_it
    done_so (changed.Roomed bucket had) is by_it = absurd by_it

    -- so all is shown
    pub map_stands : RefinesAfter same name m known s shown (with_effects None of (effects_of its known told) m) (known_after its told known) rest
    map_stands = by (done_so told refl done_by)
      where
        by : Both (effects_of its known told) (known_after its told known) → RefinesAfter same name m known s shown (with_effects None of (effects_of its known told) m) (known_after its told known) rest
        by (beside, of_map) = record {
          shows = record {
            blocks = beside.shows.blocks;
            number = with_at beside.shows.number b.map (λ n. 0);
            maps = λ n x is. elim (cases_eq n b.map) as (λ _. RefinesMap n (with_at beside.shows.number b.map (λ n. 0) n) x (with_effects None of (effects_of its known told) m) (known_after its told known)) [
              | inl e ↦
                  let it_is : st ≡ x = one_of st x (sym (at_same s.maps b.map (Some st) n e) ∙ is) in
                  subst (λ (f : ℕ → ℕ). RefinesMap n f x (with_effects None of (effects_of its known told) m) (known_after its told known)) (sym (at_same beside.shows.number b.map (λ n. 0) n e))
                  (subst (λ (y : ℕ). RefinesMap y (λ n. 0) x (with_effects None of (effects_of its known told) m) (known_after its told known)) (sym e)
                  (subst (λ (y : Standing K). RefinesMap b.map (λ n. 0) y (with_effects None of (effects_of its known told) m) (known_after its told known)) it_is of_map))
              | inr ne ↦
                  subst (λ (f : ℕ → ℕ). RefinesMap n f x (with_effects None of (effects_of its known told) m) (known_after its told known)) (sym (at_other beside.shows.number b.map (λ n. 0) n ne))
                  (beside.shows.maps n x (sym (at_other s.maps b.map (Some st) n ne) ∙ is))
            ];
            calls = beside.shows.calls;
          };
          numbers = λ n x e. at_other beside.shows.number b.map (λ n. 0) n (λ same_number. (let none = ap s.maps same_number ∙ not_there in cc (none, e))) ∙ beside.numbers n x e;
        }

  making_shown : (t : Advance Setting) → said ≡ t → (comes : MakingHasOutcome same hash s old new i b end w2 t) → NotesCounter known b → WasNew b.map t m
      → RefinesAfter same name m known s shown (with_effects None of (effects_of its known told) m) (known_after its told known) (making_after same hash s old new i b end w2 t comes)
  making_shown progress.Goes e comes notes was_new =
      making_leads (record s { world = w2; makers = with_at s.makers i (Some (record b { machine = end })) }) shown.calls (λ n st is. (comes.together.makings.standing.each n st is).ground.map)
      (λ r before after is. absurd (not_going r before after is e comes))
  making_shown progress.Waits e comes notes was_new = absurd comes
  making_shown (progress.Done setting) e comes notes was_new = map_stands setting e comes.0 comes.1 comes.2 notes was_new
  making_shown (progress.Refused fault) e comes notes was_new =
      making_leads (record s { world = w2; makers = with_at s.makers i None }) shown.calls (λ n st is. (comes.together.makings.standing.each n st is).ground.map)
      (λ r before after is. absurd (not_refused r before after is fault e))

module _ (K V : Type 0) (same : K → K → Bool) (hash : ℕ → K → ℕ) where
  pub makings_are_shown : MakingsAreShown K V same hash
  makings_are_shown name m known s old new at shown i told leads b here of notes was_new =
      let to = leads b here in making_shown same hash name m known s old new at shown i b here to.0 told to.1 to.2 of told refl to.3 notes was_new
