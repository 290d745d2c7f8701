-- A counter goes on being noted while it is there, whoever acts.
use Rattle.std.specs.Prelude.{◌≡◌, ◌≢◌, ℕ, ◌==◌, Bool, true, false, Some, if◌then◌else◌}
use Rattle.std.proofs.Common.{refl, ap, sym, subst, ◌∙◌}
use Rattle.seize_words.specs.declared.at.At.{At}
use Rattle.seize_words.specs.declared.at.At.TheVariants.{Root, Used, Slot, Entry, Word}
use Rattle.seize_words.specs.OneMemory.Mem.{Mem, value_at}
use Rattle.seize_words.specs.OneMemory.Word.{block_in}
use Rattle.seize.specs.World.{World}
use Rattle.run_effects.specs.Given.TablesDeclared.node.Node.{Node}
use Rattle.run_effects.specs.Given.TablesDeclared.node.Node.TheVariants as node
use Rattle.run_effects.specs.Given.TablesDeclared.table_words.TheConstants.{NEXT}
use Rattle.run_effects.specs.Given.ResizeDeclared.new_map.NewMap.{NewMap}
use Rattle.run_effects.specs.Given.ResizeDeclared.new_map.Opening.{Opening}
use Rattle.run_effects.specs.Given.ResizeDeclared.new_map.Opening.TheVariants as opening
use Rattle.run_effects.specs.Given.SchedulesLists.{put}
use Rattle.run_effects.specs.Given.SchedulesMoment.{Moment}
use Rattle.run_effects.specs.declared.changed.Changed.{Changed}
use Rattle.run_effects.specs.declared.changed.Changed.TheVariants as changed
use Rattle.many_maps.specs.Makings.{Beginning, OpeningFacts, HasMade}
use Rattle.run_effects.specs.Effects.Effects.{names_same, is_place, named, linked_on, stored_on, in_block_on, in_table_on, written_on, known_after}
use Rattle.run_effects.specs.Effects.Known.{Known}
use Rattle.run_effects.specs.declared.acting.Acting.{Acting}
use Rattle.run_effects.specs.declared.role.Role.{Role}
use Rattle.run_effects.specs.declared.role.Role.TheVariants as role
use Rattle.run_shows.specs.Follows.Blocks.{HasRole, RefinesBlocks}
use Rattle.run_shows.proofs.Follows.Alike.{put_elsewhere}
use Rattle.run_shows.proofs.Follows.Operations.{LeavesBy, Operated, operated_leaves}
use Rattle.run_shows.proofs.Follows.Told.{roomed_as_many}
use Rattle.run_shows.specs.Others.Counters.{NotesCounters}
use Rattle.run_shows.specs.Scenes.Held.{Held, IsAt}
use Rattle.run_shows.specs.Scenes.Scene.{Scene}

module _ {K V : Type 0} (m : Moment K V) (known : Known) (w w2 : World (Node K V)) (shown : RefinesBlocks m known w) (its : Acting) (c map : ℕ) (noted : known.roles c ≡ role.Counter map)
    (there : value_at w2.memory c ≡ Some node.Shards) where
  was_there : value_at w.memory c ≡ Some node.Shards
  was_there = subst (λ (r : Role). HasRole w m.stored c r) noted (shown.roles c)

  put_beside : (x : ℕ) (r : Role) → c ≢ x → put x r known.roles c ≡ role.Counter map
  put_beside x r ne = put_elsewhere x r known.roles c ne ∙ noted

  -- what is linked, or stored, was none
  linked_beside : (x : ℕ) (is : Role) → known.roles x ≡ is → (linked_on its x is known).roles c ≡ role.Counter map
  linked_beside x role.Free e = noted
  linked_beside x (role.OwnPair caller) e = noted
  linked_beside x (role.OwnTable turn shape) e = put_beside x _ (λ at. (let two : role.Counter map ≡ role.OwnTable turn shape = sym noted ∙ ap known.roles at ∙ e in cc two))
  linked_beside x (role.Pair n) e = noted
  linked_beside x (role.Table t len) e = noted
  linked_beside x (role.Counter of) e = noted

  stored_beside : (x : ℕ) (is : Role) → known.roles x ≡ is → (stored_on x is known).roles c ≡ role.Counter map
  stored_beside x role.Free e = noted
  stored_beside x (role.OwnPair caller) e = put_beside x _ (λ at. (let two : role.Counter map ≡ role.OwnPair caller = sym noted ∙ ap known.roles at ∙ e in cc two))
  stored_beside x (role.OwnTable turn shape) e = noted
  stored_beside x (role.Pair n) e = noted
  stored_beside x (role.Table t len) e = noted
  stored_beside x (role.Counter of) e = noted

  either_beside : (q : Bool) (k l : Known) → k.roles c ≡ role.Counter map → l.roles c ≡ role.Counter map → (if q then k else l).roles c ≡ role.Counter map
  either_beside true k l is other = is
  either_beside false k l is other = other

  in_block_beside : (r : Role) (field : ℕ) (q : Bool) (x : ℕ) → (in_block_on its r field q x (known.roles x) known).roles c ≡ role.Counter map
  in_block_beside role.Free field q x = noted
  in_block_beside (role.OwnPair caller) field q x = noted
  in_block_beside (role.OwnTable turn shape) field q x = noted
  in_block_beside (role.Pair n) field q x = noted
  in_block_beside (role.Counter of) field q x = noted
  in_block_beside (role.Table t len) field q x =
      either_beside q known (in_table_on its len field x (known.roles x) known) noted
      (either_beside (field == NEXT) (linked_on its x (known.roles x) known) (if is_place len field then stored_on x (known.roles x) known else known) (linked_beside x (known.roles x) refl)
      (either_beside (is_place len field) (stored_on x (known.roles x) known) known (stored_beside x (known.roles x) refl) noted))

  written_beside : (at : At) (before after : ℕ) → (written_on its at before after known).roles c ≡ role.Counter map
  written_beside (Root r) before after =
      either_beside (names_same before after) known (linked_on its (block_in after) (named known after) known) noted (linked_beside (block_in after) (known.roles (block_in after)) refl)
  written_beside (Used r) before after = noted
  written_beside (Slot t field) before after = noted
  written_beside (Entry b field) before after = noted
  written_beside (Word b field) before after = in_block_beside (known.roles b) field (names_same before after) (block_in after)

  pub noted_still : (told : Changed) → LeavesBy w.memory w2.memory told → (known_after its told known).roles c ≡ role.Counter map
  noted_still changed.Nothing left = noted
  noted_still (changed.Wrote at before after) left = written_beside at before after
  noted_still (changed.Made kind x) left = put_beside x _ (λ e. (let none = ap (value_at w.memory) e ∙ left.0 in let was = was_there in cc (none, was)))
  noted_still (changed.Unmade kind) left = noted
  noted_still (changed.Took x) left = put_beside x _ (λ e. (let none = ap (value_at w2.memory) e ∙ left.1 in cc (none, there)))
  noted_still (changed.Roomed bucket had) left = ap (λ (f : ℕ → Role). f c) (roomed_as_many its known bucket had).0 ∙ noted

-- the counter that a making has made is there
pub counter_there : {K V : Type 0} (w : World (Node K V)) (roots i : ℕ) (n : NewMap) (p : Opening) → OpeningFacts w roots i n p → HasMade p → value_at w.memory n.setting.counter ≡ Some node.Shards
counter_there w roots i n opening.Takes facts has = absurd has
counter_there w roots i n opening.Shards facts has = absurd has
counter_there w roots i n (opening.Tables making) facts has = facts.1.value
counter_there w roots i n (opening.Unmakes fault) facts has = facts.1.value
counter_there w roots i n (opening.Frees fault) facts has = absurd has
counter_there w roots i n opening.Over facts has = absurd has
counter_there w roots i n (opening.Refused fault) facts has = absurd has

module _ {K V : Type 0} (same : K → K → Bool) (hash : ℕ → K → ℕ) (m : Moment K V) (known : Known) (s s2 : Scene K V) (old new : Held K V) (at : IsAt same hash old s) (at2 : IsAt same hash new s2)
    (shown : RefinesBlocks m known s.world) (op : Operated old.memory new.memory new.changed) (its : Acting) where
  left : LeavesBy s.world.memory s2.world.memory new.changed
  left =
      subst (λ (n : Mem (Node K V)). LeavesBy s.world.memory n new.changed) (sym at2.memory)
      (subst (λ (n : Mem (Node K V)). LeavesBy n new.memory new.changed) (sym at.memory) (operated_leaves old.memory new.memory new.changed op))

  -- a making that is under way still
  pub counter_on : (i : ℕ) (b d : Beginning K) → s2.makers i ≡ Some d → d.machine.setting.counter ≡ b.machine.setting.counter → HasMade d.machine.stands → (map : ℕ) → known.roles b.machine.setting.counter ≡ role.Counter map
      → (known_after its new.changed known).roles d.machine.setting.counter ≡ role.Counter map
  counter_on i b d here is made map noted =
      noted_still m known s.world s2.world shown its d.machine.setting.counter map (ap known.roles is ∙ noted)
      (counter_there s2.world new.roots i d.machine d.machine.stands (at2.together.makings.facts i d here).point made) new.changed left

  pub counters_on : ((i : ℕ) (b : Beginning K) → s2.makers i ≡ Some b → s.makers i ≡ Some b) → NotesCounters known s → NotesCounters (known_after its new.changed known) s2
  counters_on was notes i b here made = counter_on i b b here refl made b.map (notes i b (was i b here) made)
