-- Blocks that are as they were have their roles still.
use Rattle.std.specs.Prelude.{◌≡◌, ◌≢◌, ℕ, List, length, Option, Some, None}
use Rattle.std.proofs.Common.{refl, ap, sym, subst, ◌∙◌, inl, inr}
use Rattle.std.proofs.lemmas.Bool.{cases_eq}
use Rattle.seize_words.specs.OneMemory.Mem.{Mem, value_at}
use Rattle.seize.specs.World.{World}
use Rattle.run_effects.specs.Given.TablesDeclared.node.Node.{Node}
use Rattle.run_effects.specs.Given.SchedulesLists.{put}
use Rattle.run_effects.specs.Given.SchedulesMoment.{Moment}
use Rattle.many_maps.specs.Maps.{Standing, IsSameMap}
use Rattle.run_effects.specs.Effects.Known.{Known}
use Rattle.run_effects.specs.declared.role.Role.{Role}
use Rattle.run_effects.specs.declared.role.Role.TheVariants as role
use Rattle.run_shows.specs.Follows.Blocks.{WasLinked, HasRole, RefinesBlocks}
use Rattle.run_shows.proofs.Follows.Alike.{put_here, put_elsewhere}
use Rattle.run_shows.proofs.Follows.Operations.{StaysThere}
use Rattle.run_shows.proofs.Follows.Told.{ArePairsOnce, once_put}

module _ {K V : Type 0} (w w2 : World (Node K V)) where
  -- a block is as it was, and what was linked was linked still
  pub record StaysBlock (b : ℕ) : Type 0 where
    pub value : value_at w2.memory b ≡ value_at w.memory b
    pub linked : (value : Node K V) → value_at w.memory b ≡ Some value → WasLinked (w.hand b) → WasLinked (w2.hand b)

  pub role_stays : (stored : List (K × V)) (b : ℕ) → StaysBlock b → (r : Role) → HasRole w stored b r → HasRole w2 stored b r
  role_stays stored b h role.Free has = h.value ∙ has
  role_stays stored b h (role.OwnPair i) has = (has.0, h.value ∙ has.1, has.2)
  role_stays stored b h (role.OwnTable turn shape) has = (has.0, h.value ∙ has.1)
  role_stays stored b h (role.Pair n) has = (has.0, has.1, has.2, h.value ∙ has.3, h.linked _ has.3 has.4)
  role_stays stored b h (role.Table t len) has = (has.0, h.value ∙ has.1, h.linked _ has.1 has.2)
  role_stays stored b h (role.Counter map) has = h.value ∙ has

module _ {K V : Type 0} (m v : Moment K V) (known after : Known) (w w2 : World (Node K V)) (shown : RefinesBlocks m known w)
    (stored : v.stored ≡ m.stored) (as_many : after.stored ≡ known.stored) where
  shown_so : ((b : ℕ) → HasRole w2 m.stored b (after.roles b)) → ArePairsOnce after.roles → RefinesBlocks v after w2
  shown_so has once = record {
    roles = λ b. subst (λ (xs : List (K × V)). HasRole w2 xs b (after.roles b)) (sym stored) (has b);
    once = once;
    stored = as_many ∙ shown.stored ∙ sym (ap length stored);
  }

  -- all blocks are as they were
  pub blocks_stay : after.roles ≡ known.roles → ((b : ℕ) → StaysBlock w w2 b) → RefinesBlocks v after w2
  blocks_stay roles stays = shown_so
      (λ b. subst (λ (f : ℕ → Role). HasRole w2 m.stored b (f b)) (sym roles) (role_stays w w2 m.stored b (stays b) (known.roles b) (shown.roles b)))
      (subst ArePairsOnce (sym roles) shown.once)

  -- all are but one, which is this from now on
  module _ (x : ℕ) (r : Role) (roles : after.roles ≡ put x r known.roles) (its : HasRole w2 m.stored x r) (none : (n : ℕ) → r ≡ role.Pair n → ⊥)
      (stays : (b : ℕ) → b ≢ x → StaysBlock w w2 b) where
    has_put : (b : ℕ) → HasRole w2 m.stored b (put x r known.roles b)
    has_put b = elim (cases_eq b x) as (λ _. HasRole w2 m.stored b (put x r known.roles b)) [
      | inl e ↦ subst (λ (q : Role). HasRole w2 m.stored b q) (sym (put_here x r known.roles b e)) (subst (λ (y : ℕ). HasRole w2 m.stored y r) (sym e) its)
      | inr ne ↦ subst (λ (q : Role). HasRole w2 m.stored b q) (sym (put_elsewhere x r known.roles b ne))
          (role_stays w w2 m.stored b (stays b ne) (known.roles b) (shown.roles b))
    ]

    pub blocks_but : RefinesBlocks v after w2
    blocks_but = shown_so (λ b. subst (λ (f : ℕ → Role). HasRole w2 m.stored b (f b)) (sym roles) (has_put b))
        (subst ArePairsOnce (sym roles) (once_put known.roles x r none shown.once))

-- blocks whose values are the same are there as before
pub same_there : {K V : Type 0} (m m2 : Mem (Node K V)) → ((b : ℕ) → value_at m2 b ≡ value_at m b) → (b : ℕ) → StaysThere m m2 b
same_there m m2 same b = record { gone = λ none. same b ∙ none; there = λ value is. (value, same b ∙ is) }

-- maps that are as they were
pub same_maps : {K : Type 0} (o : Option (Standing K)) → IsSameMap o o
same_maps None = refl
same_maps (Some st) = (st.blocks, st.sights, refl, record { tables = λ t. refl; pairs = λ n. refl; tables_known = λ t l known. known; pairs_known = λ n l known. known })
