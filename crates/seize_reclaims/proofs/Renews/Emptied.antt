-- Where the machine of the one that acts is over nothing waits in the memory.
use Rattle.std.specs.Prelude.{Option, Some}
use Rattle.std.proofs.Common.{◌≡◌, ℕ, zero, suc, ◌+◌, ◌<◌, Bool, length, ◌⊎◌, inl, inr, refl, arith, sym, subst, ap, ◌∙◌}
use Rattle.seize_words.specs.OneMemory.Mem.{Mem, word_at}
use Rattle.seize_words.specs.declared.at.At.TheVariants.{Slot}
use Rattle.seize.specs.declared.states.TheConstants.{HEAD, NEVER, FREE, LAST_SLOT}
use Rattle.seize.specs.World.{World, Use}
use Rattle.seize_model.proofs.Sets.Turns.Heads.{WordOf, word_says}
use Rattle.seize_acts.specs.Quiet.Slots.{IsQuiescent}
use Rattle.seize_acts.proofs.Quiet.Slots.Facts.{rested_by}
use Rattle.seize_views.specs.Views.Chains.{Chain}
use Rattle.seize_views.specs.Views.Rows.{IsFound, RootsNameLinked, Came}
use Rattle.seize_views.specs.declared.view.Fixed.{Fixed}
use Rattle.seize_reclaims.specs.Renews.Emptied.{AreFree}
use Rattle.seize_reclaims.specs.Renews.One.{OneEmpties}
use Rattle.seize_reclaims.proofs.Renews.Ends.{over_is_quiet}
use Rattle.seize_reclaims.proofs.Renews.Roots.{came_quiet}

-- the head of a slot that is not in use
free_head : (word : ℕ) → word < 2 → (word ≡ NEVER) ⊎ (word ≡ FREE)
free_head zero l = inl refl
free_head (suc zero) l = inr refl
free_head (suc (suc n)) l = absurd (omega (arith, l))

module _ {T : Type 0} (defers : T → Option ℕ) where
  are_free : (fixed : Fixed) (w : World T) → Came defers fixed w → IsQuiescent w → AreFree w.memory
  are_free fixed w came quiet = record { head = head; batch = λ s word le is. quiet.none s le word is }
    where
      head : (s word : ℕ) → word_at w.memory (Slot s HEAD) ≡ Some word → (word ≡ NEVER) ⊎ (word ≡ FREE)
      head s word is =
          let rested = rested_by defers fixed.batch_size w (came_quiet defers fixed w came) quiet.rests in
          free_head word (subst (λ (u : Use). WordOf u word) (quiet.vacant s) (word_says defers (LAST_SLOT + 1) fixed.batch_size refl w rested s word is))

  pub one_empties : (left_over : T → Bool) → OneEmpties defers left_over
  one_empties left_over fixed id c seen left m word over (s, h, at_id, idle, is) =
      let left_so = over_is_quiet defers left_over fixed id c seen left word over s h at_id in
      let here : m ≡ s.world.memory = is ∙ h.memory in record {
        world = s.world;
        came = h.came;
        memory = here;
        nothing = left_so.1;
        free = subst AreFree (sym here) (are_free fixed s.world h.came left_so.0);
        roots = subst (λ (n : Mem T). RootsNameLinked n s.world.hand) (sym is) h.roots;
        chains = λ r its. subst (λ (n : Mem T). Chain defers n s.world.hand r) (sym is) (h.chains r its);
        found = λ b. subst (λ (n : Mem T). IsFound fixed n b (λ k. Unit {0}) (s.world.hand b)) (sym is) (h.found b);
        rooted = ap (λ (n : Mem T). length n.roots) is ∙ h.rooted;
      }
