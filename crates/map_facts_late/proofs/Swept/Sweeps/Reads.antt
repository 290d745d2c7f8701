-- The steps of a sweep that read the root, the link behind its table, and the word of its place.
use Rattle.std.specs.Prelude.{◌≡◌, ℕ, suc, ◌≤◌, ◌<◌, Bool, true, false, cond, Some, if◌then◌else◌}
use Rattle.std.proofs.Common.{refl, ap, inl, inr, sym, subst, ◌∙◌}
use Rattle.map_facts.specs.Given.SeizeWordsDeclared.at.At.TheVariants.{Root}
use Rattle.map_facts.specs.Given.SeizeWordsMem.{Mem, value_at, word_at, Can, Took}
use Rattle.map_facts.specs.Given.SeizeWordsPlan.{May, Steps}
use Rattle.map_facts.proofs.Given.SeizeWordsOneOwner.Operations.{may_load, loaded}
use Rattle.map_facts.specs.Given.SeizeWorld.{World}
use Rattle.map_facts.specs.Given.TablesChunks.{is_incremental}
use Rattle.map_facts.specs.Given.TablesTablePlaces.{at_word, at_place}
use Rattle.map_facts.specs.Given.TablesDeclared.node.Node.{Node}
use Rattle.map_facts.specs.Given.TablesDeclared.setting.Setting.{Setting}
use Rattle.map_facts.specs.Given.TablesDeclared.table.Table.{Table}
use Rattle.map_facts.specs.Given.TablesDeclared.table_words.TheConstants.{NEXT}
use Rattle.map_facts.specs.Given.ResizeCopierStates.{copying_all}
use Rattle.map_facts.specs.Given.SweepsSweep.{root_read, reads, next_read, follows, word_found, words}
use Rattle.map_facts.specs.Given.SweepsSweepPoints.{removes, beginning, tableless, entering, telling, going, seen}
use Rattle.map_facts.specs.Given.ReservesDeclared.sweep.Purpose.{Purpose}
use Rattle.map_facts.specs.Given.ReservesDeclared.sweep.Purpose.TheVariants.{Walks, Clears, Retains}
use Rattle.map_facts.specs.Given.ReservesDeclared.sweep.Sweep.{Sweep}
use Rattle.map_facts.specs.Given.ReservesDeclared.sweep.Sweeping.TheVariants as at
use Rattle.map_facts.specs.Given.ReservesDeclared.sweep.Swept.{Swept}
use Rattle.map_facts.specs.Given.RuleChart.{Chart}
use Rattle.map_facts.specs.Given.RuleWords.{Blocks, place_word}
use Rattle.map_facts.specs.Given.RuleMaps.{IsTable}
use Rattle.map_facts.specs.Given.RuleMoments.{Moments}
use Rattle.map_facts.specs.Given.RuleInWorld.{IsMapIn}
use Rattle.map_facts.proofs.Given.RuleWords.LinksRead.{see_link, link_ends}
use Rattle.map_facts.proofs.Given.RuleWords.LinksSeen.{root_leads, next_leads}
use Rattle.map_facts.proofs.Given.RuleWords.TablesSeen.{next_there, place_there}
use Rattle.map_facts.proofs.Given.RuleWorld.WentStill.{went_still}
use Rattle.map_facts.specs.FactsIdle.{IsIdle}
use Rattle.map_facts_late.proofs.Copiers.LateBegins.{late_begins, behind_left}
use Rattle.map_facts_late.specs.FactsReserves.{IsRoot}
use Rattle.map_facts_late.proofs.Rooms.Late.LatesOn.{none_in}
use Rattle.map_facts_late.proofs.Rooms.Reserves.WholeBegins.{whole_begins}
use Rattle.map_facts_late.specs.FactsSweeps.{WasRoot, GoesOver, HasNoTable, CopiesTable}
use Rattle.map_facts_late.proofs.Swept.Sweeps.Tables.{WasRootIn, first_was}
use Rattle.map_facts_late.proofs.Swept.Sweeps.On.{After, Knows, KnowsAt, telling_after, on_at, begins_over, enters, seen_after}
use Rattle.map_facts_late.proofs.Swept.Sweeps.Moved.{Sees, SweepTells, SweepWent}
use Rattle.map_facts.proofs.Given.General.{some_is as is_some_of}

module _ {K V : Type 0} (same : K → K → Bool) (hash : K → ℕ) (caller : ℕ) (setting : Setting) (began : ℕ) (w : World (Node K V)) (c : Chart K) (blocks : Blocks)
    (map : IsMapIn same hash setting w c blocks) (p : Sweep) where
  -- it may look at what it reads
  module _ (setting_is : p.setting ≡ setting) where
    root_at : word_at w.memory (Root p.setting.root) ≡ word_at w.memory (Root setting.root)
    root_at = ap (λ (s : Setting). word_at w.memory (Root s.root)) setting_is

    pub may_reads : May Can Took value_at w.memory (reads p)
    may_reads = may_load w.memory (root_read p) (Root p.setting.root) (is_some_of _ _ (root_at ∙ map.map.shows.root_there))
        (λ link read. see_link hash w.memory c blocks setting.root map.map.shows link c.first
        (root_leads same hash setting.mode setting.root w.memory c blocks map.map link (sym root_at ∙ read)) (telling (tableless p)) (λ table. telling (entering p table)))

  pub may_follows : (t : ℕ) → IsTable c blocks p.table t → May Can Took value_at w.memory (follows p)
  may_follows t entered = may_load w.memory (next_read p) (at_word p.table NEXT) (is_some_of _ _ (next_there hash w.memory c blocks setting.root map.map.shows p.table t entered))
      (λ link read. see_link hash w.memory c blocks setting.root map.map.shows link (suc t)
      (next_leads same hash setting.mode setting.root w.memory c blocks map.map p.table t link entered read) (telling (beginning p))
      (λ next. going p (at.Copies (copying_all p.setting p.table next))))

  module _ (t : ℕ) (entered : IsTable c blocks p.table t) (inside : p.place < c.len t) where
    word_there : word_at w.memory (at_place p.table p.place) ≡ Some (place_word hash c blocks (c.place t p.place))
    word_there = place_there hash w.memory c blocks setting.root map.map.shows p.table t entered p.place inside

    pub may_words : May Can Took value_at w.memory (words p)
    may_words = may_load w.memory (word_found p) (at_place p.table p.place) (is_some_of _ _ word_there) (λ found read. tt)

  module _ (setting_is : p.setting ≡ setting) (idle : IsIdle same hash w caller setting c blocks) where
    -- it has no table, and says so
    no_table_then : HasNoTable same hash w caller setting c blocks began p → Knows same hash caller setting began w c blocks (tableless p)
    no_table_then none = by p.purpose refl
      where
        by : (x : Purpose) → p.purpose ≡ x → Knows same hash caller setting began w c blocks (record p { purpose = x; stands = if removes x then at.Over else at.Ready })
        by Walks e = record { setting_is = setting_is; idle = λ rests. idle; point = (refl, inl none) }
        by Clears e = record { setting_is = setting_is; idle = λ rests. idle; point = tt }
        by Retains e = record { setting_is = setting_is; idle = λ rests. idle; point = tt }

    pub went_reads : HasNoTable same hash w caller setting c blocks began p → (m2 : Mem (Node K V)) (end : Sweep × Swept (Node K V)) → Steps Took value_at w.memory (reads p) m2 end
        → SweepWent same hash caller setting began w c blocks p m2 at.Reads end
    went_reads none m2 end s =
        let d = loaded w.memory (root_read p) (Root p.setting.root) m2 end s in
        went_still same hash setting caller w c blocks map m2 d.2 (SweepTells same hash caller setting began w c blocks p at.Reads end)
        (link_ends hash w.memory c blocks setting.root map.map.shows d.0 c.first
        (root_leads same hash setting.mode setting.root w.memory c blocks map.map d.0 (sym (root_at setting_is) ∙ d.1)) (telling (tableless p)) (λ table. telling (entering p table))
        (λ (e : Sweep × Swept (Node K V)). SweepTells same hash caller setting began w c blocks p at.Reads e w c blocks)
        (λ bare. (telling_after same hash caller setting began w c blocks (tableless p) (no_table_then none), (refl, refl, inl (bare, refl))))
        (λ table entered. (
          telling_after same hash caller setting began w c blocks (entering p table)
              (enters same hash caller setting began w c blocks map p setting_is idle table c.first entered (first_was same hash caller setting w c blocks began map)),
          (refl, refl, inr (table, entered, refl)),
        )) end d.3)

    -- it begins to copy its table into the one behind
    module _ (moments : Moments (is_incremental setting.mode) c) (t : ℕ) (entered : IsTable c blocks p.table t) (root : WasRoot same hash w caller setting c blocks began t) where
      copies : (next : Table) → IsTable c blocks next (suc t) → CopiesTable same hash w caller setting c blocks began (copying_all setting p.table next)
      copies next behind = by (is_incremental setting.mode) refl root
        where
          whole : IsRoot same hash w caller setting c blocks t → CopiesTable same hash w caller setting c blocks began (copying_all setting p.table next)
          whole is = inl (whole_begins same hash caller setting w c blocks map idle p.table t entered is next behind)

          by : (b : Bool) → is_incremental setting.mode ≡ b → WasRootIn same hash c began t b → CopiesTable same hash w caller setting c blocks began (copying_all setting p.table next)
          by true bits upto = whole (subst (λ (x : Bool). cond x (t ≤ c.first) (t ≡ c.first)) (sym bits) upto)
          by false blocking (inl is) = whole (subst (λ (x : Bool). cond x (t ≤ c.first) (t ≡ c.first)) (sym blocking) is)
          by false blocking (inr left) =
              inr (
                blocking,
                late_begins same hash caller setting blocking began w c blocks p.table next t entered left
                    (moments.next_from blocking t (behind_left same hash (is_incremental setting.mode) c map.map.rule began t entered.made left) left.was_root) behind
                    (none_in same hash caller setting blocking w c blocks idle),
              )

      copies_own : (next : Table) → IsTable c blocks next (suc t) → KnowsAt same hash caller setting began w c blocks p (at.Copies (copying_all p.setting p.table next))
      copies_own next behind = subst (λ (s : Setting). CopiesTable same hash w caller setting c blocks began (copying_all s p.table next)) (sym setting_is) (copies next behind)

      pub went_follows : (m2 : Mem (Node K V)) (end : Sweep × Swept (Node K V)) → Steps Took value_at w.memory (follows p) m2 end
          → SweepWent same hash caller setting began w c blocks p m2 at.Follows end
      went_follows m2 end s =
          let d = loaded w.memory (next_read p) (at_word p.table NEXT) m2 end s in
          went_still same hash setting caller w c blocks map m2 d.2 (SweepTells same hash caller setting began w c blocks p at.Follows end)
          (link_ends hash w.memory c blocks setting.root map.map.shows d.0 (suc t)
          (next_leads same hash setting.mode setting.root w.memory c blocks map.map p.table t d.0 entered d.1) (telling (beginning p))
          (λ next. going p (at.Copies (copying_all p.setting p.table next)))
          (λ (e : Sweep × Swept (Node K V)). SweepTells same hash caller setting began w c blocks p at.Follows e w c blocks)
          (λ last. (
            telling_after same hash caller setting began w c blocks (beginning p) (begins_over same hash caller setting began w c blocks map p setting_is idle p.table t entered root),
            (refl, refl, t, entered, inl (last, refl)),
          ))
          (λ next behind. (
            on_at same hash caller setting began w c blocks map p setting_is idle (at.Copies (copying_all p.setting p.table next)) (copies_own next behind),
            (refl, refl, t, entered, inr (next, refl)),
          )) end d.3)

    -- the word of its place is read
    module _ (t : ℕ) (over : GoesOver same hash w caller setting c blocks began p t) (inside : p.place < c.len t) where
      pub sees : (found : ℕ) → found ≡ place_word hash c blocks (c.place t p.place) → (end : Sweep × Swept (Node K V)) → end ≡ seen p found
          → After same hash caller setting began w c blocks end × Sees same hash caller setting began w c blocks p end
      sees found is end end_is =
          let e : end ≡ seen p (place_word hash c blocks (c.place t p.place)) = end_is ∙ ap (λ (x : ℕ). seen p x) is in (
            subst (After same hash caller setting began w c blocks) (sym e)
                (seen_after same hash caller setting began w c blocks map p setting_is idle t over inside (place_word hash c blocks (c.place t p.place)) refl),
            (t, over.table, e),
          )

      pub went_words : (m2 : Mem (Node K V)) (end : Sweep × Swept (Node K V)) → Steps Took value_at w.memory (words p) m2 end → SweepWent same hash caller setting began w c blocks p m2 at.Words end
      went_words m2 end s =
          let d = loaded w.memory (word_found p) (at_place p.table p.place) m2 end s in
          let read : d.0 ≡ place_word hash c blocks (c.place t p.place) = (let there = word_there t over.table inside in let is = d.1 in cc (there, is)) in
          let told = sees d.0 read end d.3 in
          went_still same hash setting caller w c blocks map m2 d.2 (SweepTells same hash caller setting began w c blocks p at.Words end) (told.0, (refl, refl, told.1))
