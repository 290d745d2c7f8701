-- What has ended: its blocks are left over with their further values, linked anew, and taken away. The world stays good.
use Rattle.std.specs.Prelude.{Option, Some, None, IsSome, is_some, if◌then◌else◌}
use Rattle.std.proofs.Common.{◌≡◌, ℕ, Bool, true, false, cond, eqb, List, [], ◌∷◌, length, refl, arith, subst, sym, ap, ◌∙◌, eqb-true}
use Rattle.std.proofs.lemmas.Bool.{eq-eqb}
use Rattle.seize_moves.specs.Given.SeizeWorld.{World, Hand, Cutting, LeftTo, NoBlock, with_hand, with_effect, all_left_to, IsOnto, MayClear}
use Rattle.seize_moves.specs.Given.SeizeFurther.{ListFrom, FurtherFrom, FurtherAre}
use Rattle.seize_moves.specs.Given.SeizeLaw.{Effect, LeftOver, Dropped, is_orphan}
use Rattle.seize_moves.specs.Given.SeizeWaitingSets.{is_one_of}
use Rattle.seize_moves.specs.Given.SeizeDeclared.states.TheConstants.{NEXT}
use Rattle.seize_moves.specs.Given.SeizeWordsMem.{Mem, value_at, word_at, with_word, with_block}
use Rattle.seize_moves.specs.Given.SeizeWordsDeclared.at.At.TheVariants.{Entry, Word}
use Rattle.seize_moves.specs.Waiting.Held.{count}
use Rattle.seize_moves.proofs.Waiting.Counts.{none_counted}
use Rattle.seize_moves.proofs.Moves.State.Ghost.{State, Life, IsUnlinked, IsDeferring, IsDeferred, IsPending, IsLeft, is_deferred}
use Rattle.seize_moves.proofs.Moves.State.Moves.{left_with, left_over}
use Rattle.seize_moves.proofs.Moves.State.Rule.{AllDeferred}
use Rattle.seize_moves.proofs.Moves.Moves.Ended.{is_on, ends_with, left_over_moves}
use Rattle.seize_moves.proofs.Memory.Words.Chains.{Chain}
use Rattle.seize_moves.proofs.Memory.Words.View.{View, view, list_in, view_next}
use Rattle.seize_moves.proofs.Memory.Words.Named.{wrote, word_found}
use Rattle.seize_moves.proofs.Memory.Words.Shows.{DeferredIs, DrainedIs, CarrierIs, KeepsWords, Shows, has_next}
use Rattle.seize_moves.proofs.Memory.Written.Ended.{without_list, left_over_written}
use Rattle.seize_moves.proofs.Memory.Written.Retire.{next_written}
use Rattle.seize_moves.proofs.Memory.Words.Apart.{unlisted_dropped, boxed_none}
use Rattle.seize_rule.proofs.Points.Aside.{HandFits}
use Rattle.seize_rule.proofs.Rows.Onto.{row_onto}
use Rattle.seize_moves.proofs.Memory.Words.There.{entry_there, stocked_written}
use Rattle.seize_moves.proofs.Memory.Words.Room.{room_written, same_length}
use Rattle.seize_rule.proofs.Rows.Known.{ListsLast}
use Rattle.seize_moves.proofs.Moves.Sets.Unmoved.{is_in_wait, Unmoved}
use Rattle.seize_rule.proofs.World.Good.{Good, StillGood}
use Rattle.seize_rule.proofs.World.Users.{shown_good, used_still, fits_of, stays_same, dropped_good}
use Rattle.seize_rule.proofs.World.Own.{memory_good}

-- one list begins with a word
pub one_list : {T : Type 0} (m : Mem T) (nexts : ℕ → ℕ) (word : ℕ) (blocks l : List ℕ) → ((b w : ℕ) → word_at m (Entry b NEXT) ≡ Some w → nexts b ≡ w)
    → ListFrom m word blocks → Chain 0 nexts word l → blocks ≡ l
one_list m nexts word [] [] same h k = refl
one_list m nexts word [] (c ∷ l) same h k = absurd (let p = k.0 in let q = k.1 in omega (arith, h, p, q))
one_list m nexts word (b ∷ blocks) [] same h k = absurd (let p = h.1 in let q = h.2 in omega (arith, k, p, q))
one_list m nexts word (b ∷ blocks) (c ∷ l) same h k =
    let here : b ≡ c = (let q = h.2 in let r = k.1 in omega (arith, q, r)) in
    let next : nexts c ≡ h.0 = subst (λ (y : ℕ). nexts y ≡ h.0) here (same b h.0 h.3) in
    let rest = one_list m nexts h.0 blocks l same h.4 (subst (λ (w : ℕ). Chain 0 nexts w l) next k.2) in
    cc (here, rest)

-- who has the blocks then
left_fits : (i b : ℕ) (hand : Hand) (l : Life) (p q : Bool) → q ≡ cond p true (is_on b l) → HandFits hand l
    → HandFits (if q then LeftTo i else hand) (cond p (IsLeft i) (left_with i b l))
left_fits i b hand l true q e h = subst (λ (t : Bool). HandFits (if t then LeftTo i else hand) (IsLeft i)) (sym e) refl
left_fits i b hand l false true e h = on l (sym e)
  where
    on : (l : Life) → is_on b l ≡ true → left_with i b l ≡ IsLeft i
    on l e = grind (arith, e)
left_fits i b hand l false false e h = subst (λ (k : Life). HandFits hand k) (sym (off l (sym e))) h
  where
    off : (l : Life) → is_on b l ≡ false → left_with i b l ≡ l
    off l e = grind (arith, e)

-- where nothing was deferred until its end, what the sets show is as it was
pub left_over_unmoved : (n i b holder : ℕ) (m : State) → m.life b ≡ IsUnlinked holder → AllDeferred m.deferred m.life → m.deferred b ≡ [] → Unmoved n m (left_over m i b)
left_over_unmoved n i b holder m cut all empty = record {
  alike = record {
    opened = λ s l. refl;
    stages = λ x. refl;
    blocks = λ x k. refl;
    debts = λ x t k. (refl, refl);
    lists = λ t. refl;
    active = λ t l. refl;
    put = λ t. grind (arith, empty);
  };
  taken = refl;
  waits = λ c e. waits_on c e (eqb c b) (eqb-true c b);
  left = refl;
}
  where
    none_on : (c : ℕ) → is_deferred b (m.life c) ≡ 0
    none_on c = sym (all b c) ∙ ap (count c) empty

    kept : (l : Life) → is_in_wait l ≡ true → is_deferred b l ≡ 0 → left_with i b l ≡ l
    kept (IsDeferring j u t) e none = refl
    kept (IsPending j) e none = refl
    kept (IsDeferred t) e none = by (eqb t b) (eqb-true t b)
      where
        by : (q : Bool) → (q ≡ true → t ≡ b) → cond q (IsLeft i) (IsDeferred t) ≡ IsDeferred t
        by false is = refl
        by true is = absurd (let here : is_deferred b (IsDeferred t) ≡ 1 = ap (λ (z : Bool). cond z 1 0) (eq-eqb b t (sym (is refl))) in omega (arith, here, none))
    kept _ e none = absurd (cc e)

    waits_on : (c : ℕ) → is_in_wait (m.life c) ≡ true → (t : Bool) → (t ≡ true → c ≡ b) → cond t (IsLeft i) (left_with i b (m.life c)) ≡ m.life c
    waits_on c e false is = kept (m.life c) e (none_on c)
    waits_on c e true is = absurd (let same : is_in_wait (m.life c) ≡ false = ap (λ (x : ℕ). is_in_wait (m.life x)) (is refl) ∙ ap is_in_wait cut in cc (same, e))

module _ {T : Type 0} {size : ℕ} (defers : T → Option ℕ) (n : ℕ) (w : World T) (good : Good defers n size w) where
  -- the list in the memory is the one that the rows know
  its_list : (i b : ℕ) (further : List ℕ) → good.state.life b ≡ IsUnlinked i → FurtherAre defers w.memory b further → further ≡ good.state.deferred b
  its_list i b further cut h = by (defers h.0) (ap (list_in defers) h.1) h.2
    where
      alive : (l : Life) (k : Bool) (o : Option ℕ) → l ≡ IsUnlinked i → CarrierIs l k o → k ≡ is_some o
      alive l k o e c = grind (arith, e, c)

      undrained : (l : Life) (d : Bool) → l ≡ IsUnlinked i → DrainedIs l d → d ≡ false
      undrained l d e k = grind (arith, e, k)

      lies : (c : ℕ) → good.state.carrier b ≡ false → count c (good.state.deferred b) ≡ 0
      lies c none = grind (arith, none, good.inv.places.all_deferred b c, good.inv.places.carries c b)

      chain : (o : Option ℕ) (d : ℕ) (q : Bool) → o ≡ Some d → q ≡ false → DeferredIs (view defers w.memory).nexts ((view defers w.memory).own b) o q (good.state.deferred b)
          → Chain 0 (view defers w.memory).nexts ((view defers w.memory).own b d) (good.state.deferred b)
      chain o d q e f k = grind (arith, e, f, k)

      by : (o : Option ℕ) → (view defers w.memory).lists b ≡ o → FurtherFrom w.memory b o further → further ≡ good.state.deferred b
      by None e k =
          let none = alive (good.state.life b) (good.state.carrier b) ((view defers w.memory).lists b) cut (good.shows.lists.carriers b) ∙ ap is_some e in
          k ∙ sym (none_counted (good.state.deferred b) (λ c. lies c none))
      by (Some d) e k =
          one_list w.memory (view defers w.memory).nexts k.0 further (good.state.deferred b) (λ c v is. word_found w.memory (Entry c NEXT) v is) k.2
          (subst (λ (v : ℕ). Chain 0 (view defers w.memory).nexts v (good.state.deferred b)) (word_found w.memory (Word b d) k.0 k.1)
          (chain ((view defers w.memory).lists b) d (good.extra.drained b) e (undrained (good.state.life b) (good.extra.drained b) cut (good.shows.lists.drains b)) (good.shows.lists.deferring b)))

  -- a block that a caller has unlinked, and its further values, are left to it
  pub left_over_good : (i b : ℕ) (further : List ℕ) (holder : ℕ) → w.hand b ≡ Cutting holder → is_orphan b w.log ≡ true → ((j : ℕ) → IsOnto b (w.row j) → ⊥) → FurtherAre defers w.memory b further
      → (g : Good defers n size (with_effect (record w { hand = all_left_to i (b ∷ further) w.hand }) (LeftOver b further))) × (g.state ≡ left_over good.state i b)
      × (further ≡ good.state.deferred b)
  left_over_good i b further holder has orphan none are =
      let cut : good.state.life b ≡ IsUnlinked holder = fits_of defers n w good b (Cutting holder) has in
      let same = its_list holder b further cut are in
      subst (λ (l : List ℕ). (g : Good defers n size (with_effect (record w { hand = all_left_to i (b ∷ l) w.hand }) (LeftOver b l))) × (g.state ≡ left_over good.state i b)
      × (l ≡ good.state.deferred b))
      (sym same) (left cut)
    where
      not_on_way : (c j u : ℕ) → good.state.life c ≡ IsDeferring j u b → ⊥
      not_on_way c j u e = none j (row_onto n j (length w.memory.slots) u c b (view defers w.memory) good.state good.extra good.inv e (w.row j) (good.rows j))

      left : good.state.life b ≡ IsUnlinked holder
          → (g : Good defers n size (with_effect (record w { hand = all_left_to i (b ∷ good.state.deferred b) w.hand }) (LeftOver b (good.state.deferred b))))
          × (g.state ≡ left_over good.state i b) × (good.state.deferred b ≡ good.state.deferred b)
      left cut =
          let wrote_left = left_over_written i b holder (view defers w.memory) good.state good.extra cut n in
          let g = shown_good defers n w good w.memory (left_over good.state i b) (without_list good.extra b)
          (all_left_to i (b ∷ good.state.deferred b) w.hand) (LeftOver b (good.state.deferred b) ∷ w.log)
          (left_over_moves n i i 0 good.state b holder good.inv cut (subst (λ (l : List Effect). is_orphan b l ≡ true) (sym good.logged) orphan) not_on_way).inv ((wrote_left i good.shows).shows) good.pending
          (ap (λ (l : List Effect). LeftOver b (good.state.deferred b) ∷ l) good.logged)
          (λ k. (left_over_moves n k i 0 good.state b holder good.inv cut (subst (λ (l : List Effect). is_orphan b l ≡ true) (sym good.logged) orphan) not_on_way).keeps) (λ k. (wrote_left k good.shows).keeps)
          (λ c. left_fits i b (w.hand c) (good.state.life c) (eqb c b) (is_one_of c (b ∷ good.state.deferred b)) (ends_with n good.state b good.inv c) (good.hands c))
          (used_still defers n w good (LeftOver b (good.state.deferred b) ∷ good.state.log) (λ s. refl)) good.room (stays_same defers n w good) (λ t. refl) refl in
          (g.0, g.1, refl)

  -- the link of a block that is left over is written
  pub relinked_good : (i b word : ℕ) → w.hand b ≡ LeftTo i → StillGood defers n size good.state (record w { memory = with_word w.memory (Entry b NEXT) word })
  relinked_good i b word has =
      let left : good.state.life b ≡ IsLeft i = fits_of defers n w good b (LeftTo i) has in
      let there = entry_there defers n w.memory good.state good.extra b NEXT good.stocked good.shows (rw left refl) (omega arith) in
      let mem2 = with_word w.memory (Entry b NEXT) word in
      let one = wrote w.memory (Entry b NEXT) word there in
      let seen = view_next defers w.memory b word mem2 one in
      let wrote_next = (λ (k : ℕ). next_written n k b word (view defers w.memory) good.state good.extra good.shows (rw left refl)
      (unlisted_dropped good.state.stage good.state.blocks good.state.left good.state.pending good.state.puts good.state.deferred good.state.carrier good.state.life good.extra.popped i b
      good.inv.places (rw left (eq-eqb i i refl)))
      (λ y live. boxed_none (good.state.stage y) (good.state.blocks y) b y (good.state.life b) (good.inv.places.boxed y b) (rw left refl) live)
      (λ j ne h. no_rows j (good.state.life b) left h)) in
      memory_good defers n w good mem2 (subst (λ (g : View). Shows n g good.state good.extra) (sym seen) ((wrote_next 0).shows))
      (λ k. subst (λ (g : View). KeepsWords k (view defers w.memory) good.state good.extra g good.extra) (sym seen) ((wrote_next k).keeps))
      (room_written n good.state.head w.memory (Entry b NEXT) word there good.room)
      (record {
        stocked = stocked_written defers w.memory (Entry b NEXT) word mem2 one good.stocked;
        lists = subst (λ (g : View). ListsLast (view defers w.memory) g) (sym seen) (λ c e has live. has);
        more = (let e = same_length w.memory (Entry b NEXT) word in omega (arith, e));
      })
    where
      no_rows : (j : ℕ) (l : Life) → l ≡ IsLeft i → has_next j good.state.holder good.state.stage l ≡ true → ⊥
      no_rows j l e h = grind (arith, e, h)

  -- and it is taken away
  pub cleared_good : (i b : ℕ) → w.hand b ≡ LeftTo i → MayClear b w.log → IsSome (value_at w.memory b)
      → StillGood defers n size good.state (with_effect (with_hand (record w { memory = with_block w.memory b None }) b NoBlock) (Dropped b))
  cleared_good i b has may some =
      let left : good.state.life b ≡ IsLeft i = fits_of defers n w good b (LeftTo i) has in
      dropped_good defers n w good i b (rw left (eq-eqb i i refl)) may some
