-- What a block is noted as goes on being noted while the block is there, whoever acts, if it is a pair, a table, or the counter of a map.
use Rattle.std.specs.Prelude.{◌≡◌, ◌≢◌, ℕ, ◌==◌, Bool, true, false, None, if◌then◌else◌}
use Rattle.std.proofs.Common.{refl, ap, subst, ◌∙◌}
use Rattle.run_schedules.specs.Given.SeizeWordsDeclared.at.At.{At}
use Rattle.run_schedules.specs.Given.SeizeWordsDeclared.at.At.TheVariants.{Root, Used, Slot, Entry, Word}
use Rattle.run_schedules.specs.Given.SeizeWordsMem.{Mem, value_at}
use Rattle.run_schedules.specs.Given.SeizeWordsWord.{block_in}
use Rattle.seize_acts.specs.Given.SeizeWorld.{World}
use Rattle.play_lists.specs.Given.TablesDeclared.node.Node.{Node}
use Rattle.play_lists.specs.Given.TablesDeclared.table_words.TheConstants.{NEXT}
use Rattle.run_schedules.specs.Schedules.Lists.{put}
use Rattle.run_schedules.specs.Schedules.Moment.{Moment}
use Rattle.play_lists.specs.Given.EffectsDeclared.changed.Changed.{Changed}
use Rattle.play_lists.specs.Given.EffectsDeclared.changed.Changed.TheVariants as changed
use Rattle.play_lists.specs.Given.EffectsEffects.{in_block_on, in_table_on, is_place, known_after, linked_on, named, names_same, stored_on, written_on}
use Rattle.play_lists.specs.Given.EffectsKnown.{Known}
use Rattle.play_lists.specs.Given.EffectsDeclared.acting.Acting.{Acting}
use Rattle.play_lists.specs.Given.EffectsDeclared.role.Role.{Role}
use Rattle.play_lists.specs.Given.EffectsDeclared.role.Role.TheVariants as role
use Rattle.play_lists.specs.Given.FollowsBlocks.{HasRole}
use Rattle.play_lists.proofs.Given.FollowsAlike.{put_elsewhere}
use Rattle.play_lists.proofs.Given.FollowsOperations.{LeavesBy}
use Rattle.play_lists.proofs.Given.FollowsTold.{roomed_as_many}

-- it is a pair, a table, or the counter of a map
abbrev pub IsLasting : Role → Type 0
IsLasting (role.Pair n) = Unit {0}
IsLasting (role.Table t len) = Unit {0}
IsLasting (role.Counter map) = Unit {0}
IsLasting _ = ⊥

-- such a block is there
pub lasting_there : {K V : Type 0} (w : World (Node K V)) (m : Moment K V) (b : ℕ) (r : Role) → HasRole w m.stored b r → IsLasting r → value_at w.memory b ≡ None → ⊥
lasting_there w m b role.Free has lasting none = lasting
lasting_there w m b (role.OwnPair caller) has lasting none = lasting
lasting_there w m b (role.OwnTable turn shape) has lasting none = lasting
lasting_there w m b (role.Pair n) has lasting none = (let some = has.3 in cc (some, none))
lasting_there w m b (role.Table t len) has lasting none = (let some = has.1 in cc (some, none))
lasting_there w m b (role.Counter map) has lasting none = cc (has, none)

module _ (known : Known) (its : Acting) (b : ℕ) (lasting : IsLasting (known.roles b)) where
  abbrev Still : Known → Type 0
  Still k = k.roles b ≡ known.roles b

  put_beside : (x : ℕ) (r : Role) → b ≢ x → put x r known.roles b ≡ known.roles b
  put_beside x r ne = put_elsewhere x r known.roles b ne

  -- what is linked, or stored, was none of these
  linked_beside : (x : ℕ) (is : Role) → known.roles x ≡ is → Still (linked_on its x is known)
  linked_beside x role.Free e = refl
  linked_beside x (role.OwnPair caller) e = refl
  linked_beside x (role.OwnTable turn shape) e = put_beside x _ (λ at. subst IsLasting (ap known.roles at ∙ e) lasting)
  linked_beside x (role.Pair n) e = refl
  linked_beside x (role.Table t len) e = refl
  linked_beside x (role.Counter of) e = refl

  stored_beside : (x : ℕ) (is : Role) → known.roles x ≡ is → Still (stored_on x is known)
  stored_beside x role.Free e = refl
  stored_beside x (role.OwnPair caller) e = put_beside x _ (λ at. subst IsLasting (ap known.roles at ∙ e) lasting)
  stored_beside x (role.OwnTable turn shape) e = refl
  stored_beside x (role.Pair n) e = refl
  stored_beside x (role.Table t len) e = refl
  stored_beside x (role.Counter of) e = refl

  either_beside : (q : Bool) (k l : Known) → Still k → Still l → Still (if q then k else l)
  either_beside true k l is other = is
  either_beside false k l is other = other

  in_block_beside : (r : Role) (field : ℕ) (q : Bool) (x : ℕ) → Still (in_block_on its r field q x (known.roles x) known)
  in_block_beside role.Free field q x = refl
  in_block_beside (role.OwnPair caller) field q x = refl
  in_block_beside (role.OwnTable turn shape) field q x = refl
  in_block_beside (role.Pair n) field q x = refl
  in_block_beside (role.Counter of) field q x = refl
  in_block_beside (role.Table t len) field q x =
      either_beside q known (in_table_on its len field x (known.roles x) known) refl
      (either_beside (field == NEXT) (linked_on its x (known.roles x) known) (if is_place len field then stored_on x (known.roles x) known else known) (linked_beside x (known.roles x) refl)
      (either_beside (is_place len field) (stored_on x (known.roles x) known) known (stored_beside x (known.roles x) refl) refl))

  written_beside : (at : At) (before after : ℕ) → Still (written_on its at before after known)
  written_beside (Root r) before after =
      either_beside (names_same before after) known (linked_on its (block_in after) (named known after) known) refl (linked_beside (block_in after) (known.roles (block_in after)) refl)
  written_beside (Used r) before after = refl
  written_beside (Slot t field) before after = refl
  written_beside (Entry x field) before after = refl
  written_beside (Word x field) before after = in_block_beside (known.roles x) field (names_same before after) (block_in after)

  pub lasts : {K V : Type 0} (m m2 : Mem (Node K V)) → (value_at m b ≡ None → ⊥) → (value_at m2 b ≡ None → ⊥) → (told : Changed) → LeavesBy m m2 told → Still (known_after its told known)
  lasts m m2 was there changed.Nothing left = refl
  lasts m m2 was there (changed.Wrote at before after) left = written_beside at before after
  lasts m m2 was there (changed.Made kind x) left = put_beside x _ (λ e. was (ap (value_at m) e ∙ left.0))
  lasts m m2 was there (changed.Unmade kind) left = refl
  lasts m m2 was there (changed.Took x) left = put_beside x _ (λ e. there (ap (value_at m2) e ∙ left.1))
  lasts m m2 was there (changed.Roomed bucket had) left = ap (λ (f : ℕ → Role). f b) (roomed_as_many its known bucket had).0
