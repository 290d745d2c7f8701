-- While the making of a map goes on, its map stays as new, and its counter is noted.
use Rattle.std.specs.Prelude.{◌≡◌, ℕ, ◌==◌, Bool, List, filter, find, Option, Some, None, ◌⊎◌}
use Rattle.std.proofs.Common.{refl, ap, sym, subst, ◌∙◌, inl, inr}
use Rattle.std.proofs.lemmas.Bool.{cases_eq}
use Rattle.seize_words.specs.declared.at.At.TheVariants.{Root, Used, Slot, Entry, Word}
use Rattle.seize_words.specs.OneMemory.Mem.{value_at}
use Rattle.seize_words.specs.OneMemory.Word.{block_in}
use Rattle.seize.specs.World.{World, with_at}
use Rattle.seize.specs.declared.advance.Advance.{Advance}
use Rattle.seize.specs.declared.advance.Advance.TheVariants as progress
use Rattle.run_effects.specs.Given.TablesDeclared.node.Node.{Node}
use Rattle.run_effects.specs.Given.TablesDeclared.setting.Setting.{Setting}
use Rattle.run_effects.specs.Given.ResizeNewMap.{new_map_plan}
use Rattle.run_effects.specs.Given.ResizeDeclared.new_map.NewMap.{NewMap}
use Rattle.run_effects.specs.Given.SchedulesEffects.{with_effects}
use Rattle.run_effects.specs.Given.SchedulesMoment.{Place, Moment}
use Rattle.run_effects.specs.declared.changed.Changed.{Changed}
use Rattle.run_effects.specs.declared.changed.Changed.TheVariants as changed
use Rattle.run_effects.specs.declared.changed.Kind.TheVariants as kind
use Rattle.many_maps.proofs.Given.CallersTogether.At.{at_other, at_same}
use Rattle.many_maps.specs.Endings.{MakingStepsWithEndings}
use Rattle.many_maps.specs.Makings.{Beginning, HasMade}
use Rattle.run_effects.specs.Effects.Effects.{names_same, named, made_role, taken_by, effects_of, known_after}
use Rattle.run_effects.specs.Effects.Known.{Known}
use Rattle.run_effects.specs.declared.acting.Acting.{Acting}
use Rattle.run_effects.specs.declared.acting.Acting.TheVariants as acts
use Rattle.run_effects.specs.declared.role.Role.{Role}
use Rattle.run_effects.specs.declared.role.Role.TheVariants as role
use Rattle.run_shows.specs.Follows.Blocks.{HasRole}
use Rattle.run_shows.specs.Follows.Shows.{Refines}
use Rattle.run_shows.proofs.Follows.Alike.{AllStill, AreSame, calm_still, put_here}
use Rattle.run_shows.proofs.Follows.Operations.{LeavesBy, Operated, operated}
use Rattle.run_shows.specs.Others.Counters.{NotesCounters, MakingsNoteCounters}
use Rattle.run_shows.specs.Others.Makings.{IsNew, NotesCounter, making_after, NewMapsStay}
use Rattle.run_shows.proofs.Others.Leads.{word_says}
use Rattle.run_shows.proofs.Others.MadeBlocks.{still_made}
use Rattle.run_shows.proofs.Others.Makes.{facts, tells, left, linked_stays, no_table_word, not_going}
use Rattle.run_shows.proofs.Others.MakingPlans.{TellsMaking, counter_from}
use Rattle.run_shows.proofs.Others.Noted.{counter_on}
use Rattle.run_shows.proofs.Others.Quiet.{all_quiet}
use Rattle.run_shows.proofs.Scenes.May.{may_make}
use Rattle.run_shows.specs.Scenes.Held.{Held, IsAt}
use Rattle.run_shows.specs.Scenes.Making.{MakingHasOutcome, MakingStepsFrom}
use Rattle.run_shows.specs.Scenes.Scene.{Scene, slot_of}
use Rattle.seize_words.proofs.General.{same_some as one_of}

-- a map is as new where no pair and no table has moved
new_stays : {K V : Type 0} (map : ℕ) (setting : Setting) (m v : Moment K V) → AreSame m v → IsNew map setting m → IsNew map setting v
new_stays map setting m v same new = record {
  there = new.there;
  is = ap (λ fs. find (λ f. f.number == map) fs) same.maps ∙ new.is;
  root = new.root;
  mode = new.mode;
  first = new.first;
  no_pairs = λ n at. new.no_pairs n (ap (λ (f : ℕ → Place). f n) (sym same.place) ∙ at);
  no_tables = ap (λ ts. filter (λ t. t.table.map == map) ts) same.tables ∙ new.no_tables;
}

module _ {K V : Type 0} (same : K → K → Bool) (hash : ℕ → K → ℕ) (name : ℕ → List ℕ) (m : Moment K V) (known : Known) (s : Scene K V) (old new : Held K V) (at : IsAt same hash old s)
    (shown : Refines same name m known s) (i : ℕ) (b : Beginning K) (here : s.makers i ≡ Some b) (end : NewMap) (said : Advance Setting) (steps : MakingStepsFrom b.machine old new end said)
    (did : MakingStepsWithEndings V same same old.batch_size old.roots slot_of s.world s.maps s.calls s.makers s.enders i b new.memory (end, said)) where
  abbrev w : World (Node K V)
  w = s.world

  abbrev w2 : World (Node K V)
  w2 = did.step.w2

  abbrev told : Changed
  told = new.changed

  abbrev its : Acting
  its = acts.Making b.map

  -- what it does as it goes on moves nothing
  taken_still : (x : ℕ) → value_at w2.memory x ≡ None → (r : Role) → HasRole w m.stored x r → AllStill (taken_by its r)
  taken_still x gone role.Free has = tt
  taken_still x gone (role.OwnPair caller) has = (refl, tt)
  taken_still x gone (role.OwnTable turn shape) has = (refl, tt)
  taken_still x gone (role.Counter map) has = tt
  taken_still x gone (role.Pair k) has =
      absurd (let there = has.3 in let kept = (linked_stays same hash name m known s old new at shown i b here end said steps did None x _ has.3 has.4).0 in cc (there, kept, gone))
  taken_still x gone (role.Table t len) has =
      absurd (let there = has.1 in let kept = (linked_stays same hash name m known s old new at shown i b here end said steps did None x _ has.1 has.2).0 in cc (there, kept, gone))

  module _ (going : said ≡ progress.Goes) (there : IsAt same hash new (record s { world = w2; makers = with_at s.makers i (Some (record b { machine = end })) })) where
    goes_still : (x : Changed) → told ≡ x → TellsMaking w i b.machine.setting.root x → LeavesBy w.memory w2.memory x → AllStill (effects_of its known x)
    goes_still changed.Nothing is so l = tt
    goes_still (changed.Wrote (Root r) before after) is so l = absurd (not_going same hash name m known s old new at shown i b here end said steps did None r before after is going there)
    goes_still (changed.Wrote (Used r) before after) is so l = tt
    goes_still (changed.Wrote (Slot t field) before after) is so l = absurd so
    goes_still (changed.Wrote (Entry x field) before after) is so l = absurd so
    goes_still (changed.Wrote (Word x field) before after) is so l =
        calm_still (effects_of its known (changed.Wrote (Word x field) before after))
        (word_says its known field (block_in after) (known.roles x) (names_same before after) (named known before) (named known after)
        (no_table_word same hash name m known s old new at shown i b here end said steps did None x (names_same before after) so)).0
    goes_still (changed.Made k x) is so l = still_made its k
    goes_still (changed.Unmade k) is so l = (refl, tt)
    goes_still (changed.Took x) is so l = taken_still x l.1 (known.roles x) (shown.blocks.roles x)
    goes_still (changed.Roomed bucket had) is so l = absurd so

    pub going_still : AllStill (effects_of its known told)
    going_still = goes_still told refl (tells same hash name m known s old new at shown i b here end said steps did None) (left same hash name m known s old new at shown i b here end said steps did None)

  op : Operated old.memory new.memory told
  op = operated old.memory new.memory told (new_map_plan b.machine) (end, said) (may_make same hash old s at i b here) steps

  module _ (notes : NotesCounters known s) where
    -- the other ones are noted still
    others_noted : (s2 : Scene K V) → IsAt same hash new s2 → (j : ℕ) (d : Beginning K) → s2.makers j ≡ Some d → s.makers j ≡ Some d → NotesCounter (known_after its told known) d
    others_noted s2 at2 j d is was made = counter_on same hash m known s s2 old new at at2 shown.blocks op its j d d is refl made d.map (notes j d was made)

    -- and so is its own, if it has made one
    own_noted : IsAt same hash new (record s { world = w2; makers = with_at s.makers i (Some (record b { machine = end })) }) → NotesCounter (known_after its told known) (record b { machine = end })
    own_noted at2 made =
        by (counter_from w i old.roots b.machine old.memory new.memory told end said made (facts same hash name m known s old new at shown i b here end said steps did None).point steps)
      where
        by : (HasMade b.machine.stands × (end.setting ≡ b.machine.setting)) ⊎ (told ≡ changed.Made kind.Shards end.setting.counter) → (known_after its told known).roles end.setting.counter ≡ role.Counter b.map
        by (inl had) =
            counter_on same hash m known s (record s { world = w2; makers = with_at s.makers i (Some (record b { machine = end })) }) old new at at2 shown.blocks op its i b (record b { machine = end })
            (at_same s.makers i (Some (record b { machine = end })) i refl) (ap (λ (x : Setting). x.counter) had.1) made b.map (notes i b here had.0)
        by (inr now) =
            subst (λ (x : Changed). (known_after its x known).roles end.setting.counter ≡ role.Counter b.map) (sym now)
            (put_here end.setting.counter (made_role its kind.Shards) known.roles end.setting.counter refl)

    noted_on : (s2 : Scene K V) → IsAt same hash new s2 → (next : Option (Beginning K)) → ((j : ℕ) → s2.makers j ≡ with_at s.makers i next j)
        → ((d : Beginning K) → next ≡ Some d → NotesCounter (known_after its told known) d) → NotesCounters (known_after its told known) s2
    noted_on s2 at2 next makers own j d is = elim (cases_eq j i) as (λ _. NotesCounter (known_after its told known) d) [
      | inl e ↦ own d (sym (makers j ∙ at_same s.makers i next j e) ∙ is)
      | inr ne ↦ others_noted s2 at2 j d is (sym (makers j ∙ at_other s.makers i next j ne) ∙ is)
    ]

    pub making_noted : (t : Advance Setting) → (comes : MakingHasOutcome same hash s old new i b end w2 t) → NotesCounters (known_after its told known) (making_after same hash s old new i b end w2 t comes)
    making_noted progress.Goes comes =
        noted_on _ comes (Some (record b { machine = end })) (λ j. refl) (λ d is. subst (λ (x : Beginning K). NotesCounter (known_after its told known) x) (one_of (record b { machine = end }) d is) (own_noted comes))
    making_noted progress.Waits comes = absurd comes
    making_noted (progress.Done setting) comes = noted_on _ comes.2 None (λ j. refl) (λ d is. absurd (cc is))
    making_noted (progress.Refused fault) comes = noted_on _ comes None (λ j. refl) (λ d is. absurd (cc is))

module _ (K V : Type 0) (same : K → K → Bool) (hash : ℕ → K → ℕ) where
  pub new_maps_stay : NewMapsStay K V same hash
  new_maps_stay name m known s old new at shown i leads b here of setting is_new =
      let to = leads b here in
      let still = going_still same hash name m known s old new at shown i b here to.0 progress.Goes to.1 to.2 refl to.3 in
      new_stays b.map setting m (with_effects None of (effects_of (acts.Making b.map) known new.changed) m) (all_quiet of (effects_of (acts.Making b.map) known new.changed) m still) is_new

  pub makings_note_counters : MakingsNoteCounters K V same hash
  makings_note_counters name m known s old new at shown notes i told leads b here =
      let to = leads b here in making_noted same hash name m known s old new at shown i b here to.0 told to.1 to.2 notes told to.3
